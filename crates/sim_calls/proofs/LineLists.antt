-- Lines of two lists, one after the other.
use Rattle.std.proofs.Common.{◌≡◌, ◌∙◌, ℕ, ◌+◌, ◌-◌, ◌<◌, suc, List, [], ◌∷◌, ◌++◌, length, get_or, Some, sym, ap, inl, inr, arith}
use Rattle.std.specs.Prelude.{slice_get}
use Rattle.std.proofs.lemmas.Bool.{cases_lt}
use Rattle.std.proofs.lemmas.Option.{slice_get_within, slice_get-get_or}
use Rattle.term_core_spec.specs.Term.{Term}
use Rattle.term_bank.proofs.Growth.{slice_get-front}
use Rattle.proof_tree_spec.specs.Scope.{Setting}
use Rattle.sim_rules_spec.specs.Obligations.{IsNoLine}
use Rattle.sim_rules_terms.specs.Lines.{AreLines}

-- an item of the first list, and one of the second
front : (xs ys : List Term) (i : ℕ) (x : Term) → i < length xs → slice_get (xs ++ ys) i ≡ Some x → slice_get xs i ≡ Some x
front xs ys i x less there =
    let here = slice_get-get_or xs i x less in
    here ∙ sym (slice_get-front xs ys i (get_or xs i x) here) ∙ there

back : (xs ys : List Term) (j : ℕ) → slice_get (xs ++ ys) (length xs + j) ≡ slice_get ys j
back [] ys j = let none : length {A = Term} [] + j ≡ j = omega arith in ap (slice_get ys) none
back (x ∷ xs) ys j =
    let next : length (x ∷ xs) + j ≡ suc (length xs + j) = omega arith in
    ap (slice_get ((x ∷ xs) ++ ys)) next ∙ back xs ys j

module _ (s : Setting) (path : List ℕ) (before later : List Term) where
  pub bad_before : (index : ℕ) → IsNoLine s path before index → IsNoLine s path (before ++ later) index
  bad_before index is =
      let within = slice_get_within before index is.line is.there in
      record {
        line = is.line;
        there = slice_get-front before later index is.line is.there;
        none = is.none;
        before = λ i earlier less there. is.before i earlier less (front before later i earlier (omega arith) there);
      }

  pub bad_later : (index : ℕ) → AreLines s path before → IsNoLine s path later index → IsNoLine s path (before ++ later) (length before + index)
  bad_later index all is = record {
    line = is.line;
    there = back before later index ∙ is.there;
    none = is.none;
    before = λ i earlier less there. elim (cases_lt i (length before)) [
      | inl inside ↦ all i earlier (front before later i earlier inside there)
      | inr past ↦
          let at : i ≡ length before + (i - length before) = omega arith in
          is.before (i - length before) earlier (omega arith) (sym (back before later (i - length before)) ∙ ap (slice_get (before ++ later)) (sym at) ∙ there)
    ];
  }
