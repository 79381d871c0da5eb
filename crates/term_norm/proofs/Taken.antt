-- The forms that a walk has made, as the bank grows.
use Rattle.std.proofs.Common.{◌≡◌, ℕ, ◌<◌, ◌≤◌, ◌⊎◌, List, length, Some, Result, Ok, sym, ap, ◌∙◌, subst, ⊎_elim, arith}
use Rattle.std.specs.Prelude.{IfOk}
use Rattle.std.proofs.lemmas.Result.{IfOk-at_ok}
use Rattle.term_core_spec.specs.Term.{Term}
use Rattle.term_bank.specs.Nodes.{tree_at, Holds, Extends}
use Rattle.term_norm.specs.declared.walk.Stop.{Stop}
use Rattle.term_norm.specs.declared.walk.Walk.{Walk}
use Rattle.term_norm.specs.Walk.{form_at, IsForm, AreForms}
use Rattle.term_norm.proofs.Growth.{longer, stays, kept}

-- a tree that a function gives stays, and is what another gives of the same tree
pub kept_as : (f g : Term → Term) (old new : List Term) (id form : ℕ) → ((t : Term) → g t ≡ f t) → Extends old new → id < length old → Holds new form (f (tree_at old id)) → Holds new form (g (tree_at new id))
kept_as f g old new id form same e below h = h ∙ ap Some (sym (ap g (stays old new id e below) ∙ same (tree_at old id)))

pub taken : (f g : Term → Term) (old new : List Term) (walk next : Walk) (outcome : Result ℕ Stop) → ((t : Term) → g t ≡ f t)
    → Extends old new → walk.at < length old → AreForms f old walk → IfOk outcome (λ i. Holds new i (f (tree_at old walk.at)))
    → ((k form : ℕ) → form_at next k ≡ Some form → (form_at walk k ≡ Some form) ⊎ ((k ≡ walk.at) × (outcome ≡ Ok form)))
    → AreForms g new next
taken f g old new walk next outcome same e below made found noted = λ id form at.
    let more : length old ≤ length new = longer old new e in
    ⊎_elim
    (λ (before : form_at walk id ≡ Some form).
    let was : IsForm f old id form = made id form before in
    let inside : id < length old = was.within in
    record { within = omega arith; holds = kept_as f g old new id form same e inside (kept old new form (f (tree_at old id)) e was.holds) })
    (λ (now : (id ≡ walk.at) × (outcome ≡ Ok form)).
    let inside : id < length old = subst (λ k. k < length old) (sym now.0) below in
    let there : Holds new form (f (tree_at old walk.at)) = IfOk-at_ok (λ i. Holds new i (f (tree_at old walk.at))) now.1 found in
    record { within = omega arith; holds = kept_as f g old new id form same e inside (subst (λ k. Holds new form (f (tree_at old k))) (sym now.0) there) })
    (noted id form at)

-- the form of the first term, which is the one at hand
pub ended : (f g : Term → Term) (start old new : List Term) (at first last : ℕ) (outcome : Result ℕ Stop) → ((t : Term) → g t ≡ f t)
    → Extends start old → first < length start → IfOk outcome (λ i. Holds new i (f (tree_at old at))) → outcome ≡ Ok last → at ≡ first
    → Holds new last (g (tree_at start first))
ended f g start old new at first last outcome same e below found is_last is_first =
    let there : Holds new last (f (tree_at old at)) = IfOk-at_ok (λ i. Holds new i (f (tree_at old at))) is_last found in
    there ∙ ap Some (ap (λ k. f (tree_at old k)) is_first ∙ ap f (stays start old first e below) ∙ sym (same (tree_at start first)))
