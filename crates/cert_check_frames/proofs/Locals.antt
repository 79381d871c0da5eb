-- Facts of a function's parameters and locals, one after the other.
use Rattle.std.proofs.Common.{◌≡◌, ◌∙◌, ℕ, suc, ◌+◌, ◌<◌, false, List, [], ◌∷◌, ◌++◌, length, drop, get_or, Option, Some, sym, ap, inl, inr, arith}
use Rattle.std.specs.Prelude.{slice_get}
use Rattle.std.proofs.lemmas.Bool.{cases_lt}
use Rattle.std.proofs.lemmas.List.{at_drop_more, at_drop_all}
use Rattle.std.proofs.lemmas.Option.{slice_get-get_or, slice_get_past}
use Rattle.term_core_spec.specs.Term.{truth}
use Rattle.c_types_spec.specs.declared.Scalar.{Scalar}
use Rattle.c_graph_spec.specs.State.{is_set}
use Rattle.agreement_laws.specs.EntryFrame.{Fact, argument_facts, local_facts}
use Rattle.cert_check_frames.specs.Facts.{facts_of_local}
use Rattle.cert_check_relations.proofs.Grown.{grown}

-- ---- arguments

pub one_argument : (all : List Scalar) (n : ℕ) (d : Scalar) (old new whole : List Fact) → n < length all
    → new ≡ old ++ argument_facts n (get_or all n d ∷ []) → old ++ argument_facts n (drop n all) ≡ whole
    → new ++ argument_facts (n + 1) (drop (n + 1) all) ≡ whole
one_argument all n d old new whole less added so_far =
    let p : Scalar = get_or all n d in
    let rest : List Scalar = drop (n + 1) all in
    let next : suc n ≡ n + 1 = omega arith in
    grown old new (argument_facts n (p ∷ [])) (argument_facts (n + 1) rest) (argument_facts n (drop n all)) whole added
    (at_drop_more (argument_facts n) all n d less ∙ ap (λ (m : ℕ). argument_facts n (p ∷ []) ++ argument_facts m rest) next)
    so_far

-- ---- locals

-- any type
abbrev any : Scalar
any = record { width = 32; is_signed = false }

abbrev unset : ℕ → Fact
unset n = record { variable = is_set n; term = truth false }

-- of the first local from a number on
split_first : (parameters : List Scalar) (n : ℕ) (type : Scalar) (rest : List Scalar)
    → local_facts n (drop n parameters) (type ∷ rest) ≡ facts_of_local n (slice_get parameters n) ++ local_facts (n + 1) (drop (n + 1) parameters) rest
split_first parameters n type rest =
    let p : Scalar = get_or parameters n any in
    let others : List Scalar = drop (n + 1) parameters in
    let next : suc n ≡ n + 1 = omega arith in
    elim (cases_lt n (length parameters)) [
      | inl within ↦
          at_drop_more (λ (l : List Scalar). local_facts n l (type ∷ rest)) parameters n any within
          ∙ ap (λ (m : ℕ). facts_of_local n (Some p) ++ local_facts m others rest) next
          ∙ ap (λ (o : Option Scalar). facts_of_local n o ++ local_facts (n + 1) others rest) (sym (slice_get-get_or parameters n any within))
      | inr past ↦
          at_drop_all (λ (l : List Scalar). local_facts n l (type ∷ rest)) parameters n past
          ∙ ap (λ (m : ℕ). unset n ∷ local_facts m [] rest) next
          ∙ sym (at_drop_all (λ (l : List Scalar). unset n ∷ local_facts (n + 1) l rest) parameters (n + 1) (omega (arith, past)))
          ∙ ap (λ (o : Option Scalar). facts_of_local n o ++ local_facts (n + 1) others rest) (sym (slice_get_past parameters n past))
    ]

split_local : (parameters locals : List Scalar) (n : ℕ) → n < length locals
    → local_facts n (drop n parameters) (drop n locals)
    ≡ facts_of_local n (slice_get parameters n) ++ local_facts (n + 1) (drop (n + 1) parameters) (drop (n + 1) locals)
split_local parameters locals n less =
    at_drop_more (local_facts n (drop n parameters)) locals n any less ∙ split_first parameters n (get_or locals n any) (drop (n + 1) locals)

pub one_local : (parameters locals : List Scalar) (n : ℕ) (old new whole : List Fact) → n < length locals
    → new ≡ old ++ facts_of_local n (slice_get parameters n) → old ++ local_facts n (drop n parameters) (drop n locals) ≡ whole
    → new ++ local_facts (n + 1) (drop (n + 1) parameters) (drop (n + 1) locals) ≡ whole
one_local parameters locals n old new whole less added so_far =
    grown old new (facts_of_local n (slice_get parameters n)) (local_facts (n + 1) (drop (n + 1) parameters) (drop (n + 1) locals))
    (local_facts n (drop n parameters) (drop n locals)) whole added (split_local parameters locals n less) so_far
