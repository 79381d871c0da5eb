-- Terms in which the source has two memories: the one, and the one that a callee leaves.
use Rattle.std.proofs.Common.{◌≡◌, ◌∙◌, ◌⊎◌, Bool, true, false, if◌then◌else◌, List, [], ◌∷◌, Some, refl, sym, ap, subst, inl, inr}
use Rattle.std.specs.Prelude.{All}
use Rattle.std.specs.List.{fold}
use Rattle.std.proofs.lemmas.List.Elements.{All-head, All-tail}
use Rattle.term_core_spec.specs.declared.Width.TheVariants.{W32}
use Rattle.term_core_spec.specs.declared.Sort.{Sort}
use Rattle.term_core_spec.specs.declared.Sort.TheVariants.{Truth, Word, Memory}
use Rattle.term_core_spec.specs.declared.Family.TheVariants.{SourceMemory}
use Rattle.term_core_spec.specs.declared.Variable.{Variable}
use Rattle.term_core_spec.specs.Same.{same_variable}
use Rattle.term_core_spec.proofs.Same.{variable-same}
use Rattle.term_core_spec.specs.Term.{Term, Occurs, truth, open_term, and_term, or_term, not_term, over, subtract}
use Rattle.term_core_spec.specs.Sort.{sort_of, sort_of_atom, sort_of_unary, sort_of_binary, sort_of_quaternary}
use Rattle.term_core_spec.specs.Substitution.{State, substituted}
use Rattle.term_core_spec.proofs.Substitution.{sort-substituted, occurs-substituted}
use Rattle.graph_core_spec.specs.Graph.{Binding}
use Rattle.path_cond_spec.specs.Conditions.{assigned}
use Rattle.sim_rules_spec.specs.Points.{source_memory}
use Rattle.sim_rules_spec.specs.Rules.{all_of, under}
use Rattle.sim_rules_spec.specs.Calls.{fresh, left}
use Rattle.validity_laws.proofs.Good.{IsPlain, IsGood, AreTests}
use Rattle.validity_laws.proofs.Conditions.{IsGoodBinding}

-- a memory of the source is one of the two
abbrev pub IsEither : Variable → Type 0
IsEither v = v.family ≡ SourceMemory → (v ≡ source_memory) ⊎ (v ≡ fresh source_memory)

pub record IsSound (t : Term) (s : Sort) : Type 0 where
  pub sorted : sort_of t ≡ Some s
  pub either : (v : Variable) → Occurs v t → IsEither v

abbrev pub IsSoundTest : Term → Type 0
IsSoundTest t = IsSound t Truth

pub good_sound : (t : Term) (s : Sort) → IsGood t s → IsSound t s
good_sound t s h = record { sorted = h.sorted; either = λ v o is. inl (h.plain v o is) }

-- ---- operators

pub open_sound : (v : Variable) → IsEither v → IsSound (open_term v) v.sort
unfolding sort_of sort_of_atom Occurs
open_sound v is = record { sorted = refl; either = λ w o. subst IsEither (sym o) is }

not_sound : (x : Term) → IsSoundTest x → IsSoundTest (not_term x)
unfolding sort_of sort_of_unary Occurs
not_sound x h = record { sorted = rw (h.sorted) refl; either = λ w o. h.either w o }

and_sound : (x y : Term) → IsSoundTest x → IsSoundTest y → IsSoundTest (and_term x y)
unfolding sort_of sort_of_binary Occurs
and_sound x y h k = record { sorted = rw (h.sorted, k.sorted) refl; either = λ w o. elim o [ inl l ↦ h.either w l | inr r ↦ k.either w r ] }

or_sound : (x y : Term) → IsSoundTest x → IsSoundTest y → IsSoundTest (or_term x y)
unfolding sort_of sort_of_binary Occurs
or_sound x y h k = record { sorted = rw (h.sorted, k.sorted) refl; either = λ w o. elim o [ inl l ↦ h.either w l | inr r ↦ k.either w r ] }

pub subtract_sound : (x y : Term) → IsSound x (Word W32) → IsSound y (Word W32) → IsSound (subtract x y) (Word W32)
unfolding sort_of sort_of_binary Occurs
subtract_sound x y h k = record {
  sorted = rw (h.sorted, k.sorted) refl;
  either = λ w o. elim o [ inl l ↦ h.either w l | inr r ↦ k.either w r ];
}

pub over_sound : (m z from to : Term) → IsSound m Memory → IsSound z Memory → IsSound from (Word W32) → IsSound to (Word W32) → IsSound (over m z from to) Memory
unfolding sort_of sort_of_quaternary Occurs
over_sound m z from to f g h k = record {
  sorted = rw (f.sorted, g.sorted, h.sorted, k.sorted) refl;
  either = λ v o. elim o [ inl a ↦ f.either v a | inr (inl b) ↦ g.either v b | inr (inr (inl c)) ↦ h.either v c | inr (inr (inr d)) ↦ k.either v d ];
}

pub choice_sound : (b : Bool) (s : Sort) (x y : Term) → (b ≡ true → IsSound x s) → (b ≡ false → IsSound y s) → IsSound (if b then x else y) s
choice_sound true s x y h k = h refl
choice_sound false s x y h k = k refl

-- where a variable is this one, a term of its sort
pub put_sound : (v w : Variable) (x y : Term) → IsSound x w.sort → IsSound y v.sort → IsSound (if same_variable v w then x else y) v.sort
put_sound v w x y h k =
    choice_sound (same_variable v w) v.sort x y (λ same. subst (λ (u : Variable). IsSound x u.sort) (sym (variable-same v w same)) h) (λ apart. k)

-- ---- terms put in for variables

pub substituted_sound : (state : State) (t : Term) (s : Sort) → sort_of t ≡ Some s → ((v : Variable) → Occurs v t → IsSound (state v) v.sort) → IsSound (substituted state t) s
substituted_sound state t s is each = record {
  sorted = sort-substituted state t (λ v o. (each v o).sorted) ∙ is;
  either = λ w o. let from = occurs-substituted state t w o in (each from.0 from.1).either w from.2;
}

-- ---- many tests

abbrev pub AreSoundTests : List Term → Type 0
AreSoundTests terms = All IsSoundTest terms

fold_sound : (terms : List Term) (t : Term) → IsSoundTest t → AreSoundTests terms → IsSoundTest (fold and_term t terms)
fold_sound [] t h all = h
fold_sound (u ∷ terms) t h all = fold_sound terms (and_term t u) (and_sound t u h (All-head IsSoundTest u terms all)) (All-tail IsSoundTest u terms all)

truth_sound : (b : Bool) → IsSoundTest (truth b)
unfolding sort_of sort_of_atom Occurs
truth_sound b = record { sorted = refl; either = λ w o. absurd o }

pub all_sound : (terms : List Term) → AreSoundTests terms → IsSoundTest (all_of terms)
all_sound [] all = truth_sound true
all_sound (t ∷ terms) all = fold_sound terms t (All-head IsSoundTest t terms all) (All-tail IsSoundTest t terms all)

pub under_sound : (premises : List Term) (goal : Term) → AreTests premises → IsSoundTest goal → IsSoundTest (under premises goal)
under_sound premises goal all is =
    or_sound (not_term (fold and_term (truth true) premises)) goal
    (not_sound (fold and_term (truth true) premises) (fold_sound premises (truth true) (truth_sound true) (λ i d lt. good_sound _ Truth (all i d lt)))) is

-- ---- what a callee leaves

pub left_sound : (v : Variable) → IsPlain v → IsSound (left v) v.sort
left_sound v plain = open_sound (fresh v) (λ is. inr (ap fresh (plain is)))

pub assigned_sound : (bindings : List Binding) (rest : State) (v : Variable) → All IsGoodBinding bindings → IsSound (rest v) v.sort → IsSound (assigned bindings left rest v) v.sort
unfolding assigned
assigned_sound [] rest v all others = others
assigned_sound (b ∷ bindings) rest v all others =
    put_sound v b.variable (substituted left b.term) (assigned bindings left rest v)
    (let here = All-head IsGoodBinding b bindings all in substituted_sound left b.term b.variable.sort here.sorted (λ w o. left_sound w (here.plain w o)))
    (assigned_sound bindings rest v (All-tail IsGoodBinding b bindings all) others)
