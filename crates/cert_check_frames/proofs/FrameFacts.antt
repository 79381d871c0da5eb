-- The terms of variables in the bank of a part.
use Rattle.std.proofs.Common.{◌≡◌, ◌∙◌, ℕ, ◌+◌, ◌-◌, ◌<◌, ◌≤◌, Bool, true, false, cond, if◌then◌else◌, List, [], ◌∷◌, length, drop, get_or, Option, Some, refl, sym, ap, subst, arith}
use Rattle.std.proofs.lemmas.Bool.{false_from_ne_true, false≢true}
use Rattle.std.proofs.lemmas.List.{drop_all, drop_more}
use Rattle.std.proofs.lemmas.Option.{same_Some, none-some, get_or_from_slice_get}
use Rattle.term_core_spec.specs.declared.Variable.{Variable}
use Rattle.term_core_spec.specs.contracts.VariableEq.TheImpl.Laws as variable_laws
use Rattle.term_core_spec.specs.Same.{same_variable}
use Rattle.term_core_spec.specs.Term.{Term, open_term}
use Rattle.term_core_spec.proofs.Same.{variable-same}
use Rattle.term_core.specs.Trees.{term_of}
use Rattle.term_bank.specs.Nodes.{Holds, Extends}
use Rattle.term_substitution.specs.States.{tree_or}
use Rattle.path_cond.specs.States.{IsMapOf}
use Rattle.sim_rules_terms.proofs.Later.{map_later}
use Rattle.cert_check_frames.specs.declared.listed.Fact.{Fact}
use Rattle.cert_check_frames.specs.Listed.{nothing_known, terms_given}

-- ---- the last first

-- the next item from the end, before those that were read
pub last_first : {X : Type 0} (xs : List X) (index : ℕ) (x d : X) → index < length xs → x ≡ get_or xs (length xs - 1 - index) d
    → drop (length xs - (index + 1)) xs ≡ x ∷ drop (length xs - index) xs
last_first xs index x d within is =
    let less : length xs - 1 - index < length xs = omega (arith, within) in
    let at : length xs - (index + 1) ≡ length xs - 1 - index = omega (arith, within) in
    let next : length xs - 1 - index + 1 ≡ length xs - index = omega (arith, within) in
    ap (λ (n : ℕ). drop n xs) at ∙ drop_more xs (length xs - 1 - index) d less
    ∙ ap (λ y. y ∷ drop (length xs - 1 - index + 1) xs) (sym is)
    ∙ ap (λ (n : ℕ). x ∷ drop n xs) next

-- all were read
pub all_last : {X : Type 0} (xs : List X) (index : ℕ) → length xs ≤ index → drop (length xs - index) xs ≡ xs
all_last xs index past = let none : length xs - index ≡ 0 = omega (arith, past) in ap (λ (n : ℕ). drop n xs) none

-- ---- the terms of variables

no_fact : terms_given [] ≡ open_term
unfolding terms_given
no_fact = refl

one_fact : (fact : Fact) (facts : List Fact) (v : Variable)
    → terms_given (fact ∷ facts) v ≡ (if same_variable v fact.variable then term_of fact.term.value else terms_given facts v)
unfolding terms_given
one_fact fact facts v = refl

-- no term is known
pub none_given : (trees : List Term) (ids : Variable → Option ℕ) → nothing_known ids → (facts : List Fact) (k : ℕ) → length facts ≤ k → IsMapOf trees ids (terms_given (drop k facts))
none_given trees ids none facts k past =
    let are : terms_given (drop k facts) ≡ open_term = ap terms_given (drop_all k facts past) ∙ no_fact in
    record {
      current = λ v. ap (λ (o : Option ℕ). tree_or trees o (open_term v)) (none v) ∙ ap (λ (t : Variable → Term). t v) (sym are);
      below = λ v i is. absurd (none-some i (sym (none v) ∙ is));
    }

other_way : (v w : Variable) → same_variable v w ≡ same_variable w v
other_way v w = by (same_variable v w) refl
  where
    by : (b : Bool) → same_variable v w ≡ b → same_variable v w ≡ same_variable w v
    by true is = is ∙ sym (ap (same_variable w) (variable-same v w is) ∙ variable_laws.lawful.laws.refl w)
    by false is =
        is ∙ sym (false_from_ne_true (same_variable w v)
        (λ h. false≢true (sym is ∙ (ap (same_variable v) (variable-same w v h) ∙ variable_laws.lawful.laws.refl v))))

-- a fact before those that are known
module _ (before now : List Term) (grows : Extends before now) (old new : Variable → Option ℕ) (fact : Fact) (id : ℕ)
    (updates : (q : Variable) → new q ≡ cond (same_variable fact.variable q) (Some id) (old q)) (held : Holds now id (term_of fact.term.value)) (within : id < length now) where
  there : (facts : List Fact) → IsMapOf now old (terms_given facts) → (v : Variable) (b : Bool) → same_variable fact.variable v ≡ b
      → tree_or now (new v) (open_term v) ≡ terms_given (fact ∷ facts) v
  there facts known v true is =
      ap (λ (o : Option ℕ). tree_or now o (open_term v)) (updates v ∙ ap (λ (b : Bool). cond b (Some id) (old v)) is)
      ∙ get_or_from_slice_get now id (term_of fact.term.value) _ held
      ∙ sym (one_fact fact facts v ∙ ap (λ (b : Bool). if b then term_of fact.term.value else terms_given facts v) (other_way v fact.variable ∙ is))
  there facts known v false is =
      ap (λ (o : Option ℕ). tree_or now o (open_term v)) (updates v ∙ ap (λ (b : Bool). cond b (Some id) (old v)) is)
      ∙ known.current v
      ∙ sym (one_fact fact facts v ∙ ap (λ (b : Bool). if b then term_of fact.term.value else terms_given facts v) (other_way v fact.variable ∙ is))

  inside : (facts : List Fact) → IsMapOf now old (terms_given facts) → (v : Variable) (i : ℕ) → new v ≡ Some i → (b : Bool) → same_variable fact.variable v ≡ b → i < length now
  inside facts known v i at true is =
      subst (λ (n : ℕ). n < length now) (same_Some id i (sym (updates v ∙ ap (λ (b : Bool). cond b (Some id) (old v)) is) ∙ at)) within
  inside facts known v i at false is = known.below v i (sym (updates v ∙ ap (λ (b : Bool). cond b (Some id) (old v)) is) ∙ at)

  pub fact_given : (facts : List Fact) → IsMapOf before old (terms_given facts) → IsMapOf now new (terms_given (fact ∷ facts))
  fact_given facts known =
      let later = map_later before now grows old (terms_given facts) known in
      record {
        current = λ v. there facts later v (same_variable fact.variable v) refl;
        below = λ v i at. inside facts later v i at (same_variable fact.variable v) refl;
      }
