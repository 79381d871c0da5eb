-- Where a callee has given back what it owes, a valid obligation gives the relation after the calls.
use Rattle.std.proofs.Common.{◌≡◌, ◌∙◌, ℕ, ◌==◌, ◌&&◌, ◌||◌, Bool, true, false, if◌then◌else◌, List, [], ◌∷◌, ◌++◌, map, Option, Some, None, refl, sym, ap, subst, inl, inr}
use Rattle.std.specs.List.{All, list_all}
use Rattle.std.proofs.lemmas.Bool.{cases_Bool, false≢true, or_left, or_right, or_from, eqb-true}
use Rattle.std.proofs.lemmas.List.Elements.{All-nil, All-cons, All-head, All-tail, All-weaker}
use Rattle.term_core_spec.specs.declared.Width.TheVariants.{W32}
use Rattle.term_core_spec.specs.declared.Family.{Family}
use Rattle.term_core_spec.specs.declared.Family.TheVariants as family
use Rattle.term_core_spec.specs.declared.Variable.{Variable}
use Rattle.term_core_spec.specs.Same.{same_variable}
use Rattle.term_core_spec.specs.Sort.{is_memory}
use Rattle.term_core_spec.specs.Term.{Term, Occurs, open_term, over, subtract}
use Rattle.term_core_spec.specs.Value.{Assignment, Value, Number, low_bits, IsAssignment, IsOfSort, value, quaternary_value, laid_over}
use Rattle.term_core_spec.specs.Substitution.{State as Terms, substituted, values_of, at_instance}
use Rattle.term_core_spec.proofs.Same.{variable-same}
use Rattle.term_core_spec.proofs.Substitution.{value-substituted}
use Rattle.term_core_spec.proofs.Variables.{value-occurs}
use Rattle.graph_core_spec.specs.Simulation.{IsRelated}
use Rattle.graph_core_spec.specs.Graph.{Binding}
use Rattle.graph_core_spec.specs.Run.{Running, bound, resumed, unset, is_shared, is_register, is_zone_end, is_truth}
use Rattle.path_cond_spec.specs.Passages.{holds}
use Rattle.proof_tree_spec.specs.Cuts.{both}
use Rattle.proof_tree_spec.specs.Frames.{Frame}
use Rattle.sim_rules_spec.specs.Points.{Convention, binary_memory, source_memory, zone_memory, zone_low, zone_high, address, is_binary, is_source, of_sides, other_values, all_hold, with_memory}
use Rattle.sim_rules_spec.specs.Systems.{relation, IsBinaryFine, IsSourceFine}
use Rattle.sim_rules_spec.specs.Calling.{word, register}
use Rattle.sim_rules_spec.specs.Rules.{Opening, at_cut, terms_at, terms_at_start}
use Rattle.sim_rules_spec.specs.Proper.{IsConvention}
use Rattle.sim_rules_spec.specs.Calls.{CallPair, Callee, returns_well, call_premises, return_term, IsTrueAcross, fresh, left, is_left, is_left_family, machine_register, is_kept_register, result_or, left_register, left_memory, binary_returns, source_returns, IsPlain, IsPlainLine, IsGiven, IsGivenTerm, IsReturnOf, IsGivenBack}
use Rattle.sim_rules_spec.proofs.Truths.{IsTrue, all_pass, all_mapped, all_true, from_under}
use Rattle.sim_rules_spec.proofs.Sides.{joined, start_values, by_sides, sides-binary, sides-source, sides-others}
use Rattle.sim_rules_spec.proofs.Calls.{Has, assigned-by, lines_hold, sorted_there, opened_there, fixed_there}

-- ---- terms that speak of no fresh variable

abbrev IsOld : Term → Type 0
IsOld t = (w : Variable) → Occurs w t → is_left w ≡ false

old_if : (p : Bool) (s t : Term) → IsOld s → IsOld t → IsOld (if p then s else t)
old_if true s t h k = h
old_if false s t h k = k

old_open : (v : Variable) → is_left v ≡ false → IsOld (open_term v)
unfolding Occurs
old_open v h w o = ap is_left o ∙ h

old_over : (m z from to : Term) → IsOld m → IsOld z → IsOld from → IsOld to → IsOld (over m z from to)
unfolding Occurs
old_over m z from to a b c d w (inl o) = a w o
old_over m z from to a b c d w (inr (inl o)) = b w o
old_over m z from to a b c d w (inr (inr (inl o))) = c w o
old_over m z from to a b c d w (inr (inr (inr o))) = d w o

-- ---- values before the calls, and of what is left

-- what a callee leaves in a variable: registers and the zone's memory by the binary, the rest by the source
abbrev pub of_left : (r s : Assignment) → Family → Variable → Value
of_left r s family.Register v = r v
of_left r s family.ZoneMemory v = r (record { family = family.BinaryMemory; index = v.index; instance = v.instance; sort = v.sort })
of_left r s f v = s v

module _ (at : ℕ) (x y r s : Assignment) where
  abbrev pub b : Assignment
  b = joined at x y

  abbrev pub a : Assignment
  a = λ v. if is_left v then of_left r s v.family (at_instance 0 v) else b v

  old_value : (v : Variable) → is_left v ≡ false → a v ≡ b v
  old_value v h = ap (λ (p : Bool). if p then of_left r s v.family (at_instance 0 v) else b v) h

  old_term : (t : Term) → IsOld t → value a t ≡ value b t
  old_term t h = value-occurs a b t (λ w o. old_value w (h w o))

  open_value : (v : Variable) → value a (open_term v) ≡ a v
  unfolding value
  open_value v = refl

  left_value : (v : Variable) → is_left_family v.family ≡ true → v.instance ≡ 0 → value a (left v) ≡ of_left r s v.family v
  left_value v h e =
      open_value (fresh v)
      ∙ ap (λ (p : Bool). if p then of_left r s v.family (at_instance 0 (fresh v)) else b (fresh v)) h
      ∙ ap (λ (k : ℕ). of_left r s v.family (record { family = v.family; index = v.index; instance = k; sort = v.sort })) (sym e)

  -- terms over old variables of the binary
  by_binary : (t : Term) → ((w : Variable) → Occurs w t → is_left w ≡ false) → ((w : Variable) → Occurs w t → is_binary w.family ≡ true) → value a t ≡ value x t
  by_binary t old own = value-occurs a x t (λ w o. old_value w (old w o) ∙ sides-binary x y (other_values at (x binary_memory)) w (own w o))

  given_value : (v : Variable) → IsGiven v → values_of a left v ≡ s v
  given_value v is = elim is.given [
    | inl e ↦ left_value v (ap is_left_family e) is.of_callee ∙ ap (λ (g : Family). of_left r s g v) e
    | inr e ↦ left_value v (ap is_left_family e) is.of_callee ∙ ap (λ (g : Family). of_left r s g v) e
  ]

  laid_values : (m z w t sp from to : Term) (vm vz vw vt vsp vfrom vto : Value) → value a m ≡ vm → value a z ≡ vz → value a w ≡ vw → value a t ≡ vt
      → value a sp ≡ vsp → value a from ≡ vfrom → value a to ≡ vto
      → value a (over m (over z w t sp) from to) ≡ laid_over vm (laid_over vz vw vt vsp) vfrom vto
  unfolding value quaternary_value
  laid_values m z w t sp from to vm vz vw vt vsp vfrom vto em ez ew et es ef eto = rw (em, ez, ew, et, es, ef, eto) refl

  occurs_stack : (stack : ℕ) (w : Variable) → Occurs w (subtract (register 2) (word stack)) → w ≡ machine_register 2
  unfolding Occurs
  occurs_stack stack w (inl o) = o
  occurs_stack stack w (inr o) = absurd o

  resumed_binary : (v : Variable) → resumed [] r x v ≡ (if is_shared v then r v else x v)
  unfolding bound
  resumed_binary v = refl

  resumed_source : (outputs : List Binding) (v : Variable) → resumed outputs s y v ≡ bound outputs s (λ w. if is_shared w then s w else y w) v
  resumed_source outputs v = refl

  module _ (c : Convention) (convention : IsConvention c) (f : Frame) (calls : CallPair) (callee : Callee) (before later : List Term)
      (is : IsReturnOf c f calls callee before later) (given : IsGivenBack c callee x r s)
      (opened_x : (v : Variable) → is_binary v.family ≡ true → values_of b (at_cut c).binary v ≡ x v)
      (opened_y : (v : Variable) → is_source v.family ≡ true → values_of b (at_cut c).source v ≡ y v) where
    abbrev o : Opening
    o = at_cut c

    -- ---- the premises

    old_binary : (v : Variable) → is_left v ≡ false → IsOld (o.binary v)
    old_binary v h = old_if (same_variable v binary_memory) (over (open_term source_memory) (open_term zone_memory) c.zone_from c.zone_to) (open_term v)
        (old_over (open_term source_memory) (open_term zone_memory) c.zone_from c.zone_to (old_open source_memory refl) (old_open zone_memory refl)
        (λ w k. (is.zone_from w k).old) (λ w k. (is.zone_to w k).old))
        (old_open v h)

    old_source : (v : Variable) → is_left v ≡ false → IsOld (o.source v)
    old_source v h = old_if (same_variable v zone_low) c.zone_from (if same_variable v zone_high then c.zone_to else open_term v)
        (λ w k. (is.zone_from w k).old)
        (old_if (same_variable v zone_high) c.zone_to (open_term v) (λ w k. (is.zone_to w k).old) (old_open v h))

    old_start : (v : Variable) → is_left v ≡ false → IsOld (terms_at_start o v)
    old_start v h = by_sides (λ w. IsOld (terms_at_start o v)) v
        (λ k. subst IsOld (sym (sides-binary o.binary o.source open_term v k)) (old_binary v h))
        (λ k. subst IsOld (sym (sides-source o.binary o.source open_term v k)) (old_source v h))
        (λ k l. subst IsOld (sym (sides-others o.binary o.source open_term v k l)) (old_open v h))

    start_value : (v : Variable) → IsPlain v → value a (terms_at_start o v) ≡ b v
    start_value v p =
        old_term (terms_at_start o v) (old_start v p.old) ∙ ap (λ (g : Assignment). g v) (start_values at x y o opened_x opened_y)

    start_holds : (line : Term) → IsPlainLine line → holds b line ≡ true → IsTrue a (substituted (terms_at_start o) line)
    start_holds line p h =
        ap is_truth (value-substituted a (terms_at_start o) line
        ∙ value-occurs (values_of a (terms_at_start o)) b line (λ v k. start_value v (p v k))) ∙ h

    pub starts_hold : (lines : List Term) → All IsPlainLine lines → All (λ (line : Term). holds b line ≡ true) lines → All (IsTrue a) (map (substituted (terms_at_start o)) lines)
    starts_hold [] p h = All-nil (IsTrue a)
    starts_hold (line ∷ lines) p h =
        All-cons (IsTrue a) (substituted (terms_at_start o) line) (map (substituted (terms_at_start o)) lines)
        (start_holds line (All-head IsPlainLine line lines p) (All-head (λ (l : Term). holds b l ≡ true) line lines h))
        (starts_hold lines (All-tail IsPlainLine line lines p) (All-tail (λ (l : Term). holds b l ≡ true) line lines h))

    -- ---- the binary

    memory_value : value a (left_memory c callee o.binary) ≡ r binary_memory
    memory_value =
        laid_values (left source_memory) (open_term zone_memory) (left zone_memory) (subtract (register 2) (word callee.stack)) (register 2) c.zone_from c.zone_to
        (s source_memory) (x binary_memory) (r binary_memory) (value x (subtract (register 2) (word callee.stack))) (x (machine_register 2)) (value x c.zone_from) (value x c.zone_to)
        (left_value source_memory refl refl)
        (open_value zone_memory ∙ old_value zone_memory refl ∙ sides-others x y (other_values at (x binary_memory)) zone_memory refl refl)
        (left_value zone_memory refl refl)
        (by_binary (subtract (register 2) (word callee.stack)) (λ w k. ap is_left (occurs_stack callee.stack w k)) (λ w k. ap (λ (u : Variable). is_binary u.family) (occurs_stack callee.stack w k)))
        (open_value (machine_register 2) ∙ old_value (machine_register 2) refl ∙ sides-binary x y (other_values at (x binary_memory)) (machine_register 2) refl)
        (by_binary c.zone_from (λ w k. (is.zone_from w k).old) (λ w k. ap is_binary (convention.from_entry w k)))
        (by_binary c.zone_to (λ w k. (is.zone_to w k).old) (λ w k. ap is_binary (convention.to_entry w k)))
        ∙ given.memory

    kept_value : (v : Variable) → is_left v ≡ false → is_binary v.family ≡ true → value a (o.binary v) ≡ x v
    kept_value v h mine = old_term (o.binary v) (old_binary v h) ∙ opened_x v mine

    left_register_value : (v : Variable) → v ≡ machine_register v.index → value a (left v) ≡ r v
    left_register_value v e =
        left_value v (ap (λ (w : Variable). is_left_family w.family) e) (ap (λ (w : Variable). w.instance) e)
        ∙ ap (λ (w : Variable). of_left r s w.family v) e

    result_value : (v : Variable) → v ≡ machine_register v.index → v.index ≡ 10 → (found : Option Term) → callee.result ≡ found → value a (result_or found (left v)) ≡ r v
    result_value v e ten None none = left_register_value v e
    result_value v e ten (Some t) some =
        value-substituted a left t ∙ value-occurs (values_of a left) s t (λ w k. given_value w (is.result t some w k))
        ∙ sym (given.result t some) ∙ ap r (sym (e ∙ ap machine_register ten))

    register_value : (v : Variable) → is_left v ≡ false → v ≡ machine_register v.index → value a (left_register callee o.binary v) ≡ r v
    register_value v h e = elim (cases_Bool (is_kept_register v.index)) [
      | inl kept ↦
          ap (λ (p : Bool). value a (if p then o.binary v else (if v.index == 10 then result_or callee.result (left v) else left v))) kept
          ∙ kept_value v h (ap (λ (w : Variable). is_binary w.family) e) ∙ ap x e ∙ sym (given.kept v.index kept) ∙ ap r (sym e)
      | inr not_kept ↦
          ap (λ (p : Bool). value a (if p then o.binary v else (if v.index == 10 then result_or callee.result (left v) else left v))) not_kept
          ∙ elim (cases_Bool (v.index == 10)) [
            | inl ten ↦
                ap (λ (p : Bool). value a (if p then result_or callee.result (left v) else left v)) ten
                ∙ result_value v e (eqb-true v.index 10 ten) callee.result refl
            | inr other ↦
                ap (λ (p : Bool). value a (if p then result_or callee.result (left v) else left v)) other ∙ left_register_value v e
          ]
    ]

    no_memory : (v : Variable) → IsPlain v → is_binary v.family ≡ true → same_variable v binary_memory ≡ false → is_memory v.sort ≡ false
    no_memory v p mine apart = elim (cases_Bool (is_memory v.sort)) [
      | inr h ↦ h
      | inl h ↦ elim (p.memory h) [
        | inl e ↦ absurd (false≢true (sym apart ∙ ap (λ (w : Variable). same_variable w binary_memory) e))
        | inr (inl e) ↦ absurd (false≢true (sym (ap (λ (w : Variable). is_binary w.family) e) ∙ mine))
        | inr (inr e) ↦ absurd (false≢true (sym (ap (λ (w : Variable). is_binary w.family) e) ∙ mine))
      ]
    ]

    -- neither a memory nor a register nor an end of the zone
    own_alone : (v : Variable) → is_memory v.sort ≡ false → is_register v.family ≡ false → is_zone_end v ≡ false → is_shared v ≡ false
    own_alone v m r z = or_from (is_memory v.sort) (is_register v.family || is_zone_end v) m (or_from (is_register v.family) (is_zone_end v) r z)

    abbrev returned_term : Bool → Bool → Variable → Term
    returned_term p q v = if p then left_memory c callee o.binary else (if q then left_register callee o.binary v else o.binary v)

    binary_value : (v : Variable) → IsPlain v → is_binary v.family ≡ true → values_of a (binary_returns c callee o) v ≡ resumed [] r x v
    binary_value v p mine = elim (cases_Bool (same_variable v binary_memory)) [
      | inl same ↦
          ap (λ (t : Bool). value a (returned_term t (is_register v.family) v)) same ∙ memory_value
          ∙ sym (ap (λ (w : Variable). if is_shared w then r w else x w) (variable-same v binary_memory same)) ∙ sym (resumed_binary v)
      | inr apart ↦
          ap (λ (t : Bool). value a (returned_term t (is_register v.family) v)) apart
          ∙ elim (cases_Bool (is_register v.family)) [
            | inl h ↦
                ap (λ (t : Bool). value a (if t then left_register callee o.binary v else o.binary v)) h ∙ register_value v p.old (p.register h)
                ∙ sym (ap (λ (t : Bool). if t then r v else x v) (or_right (is_memory v.sort) (is_register v.family || is_zone_end v)
                (or_left (is_register v.family) (is_zone_end v) h))) ∙ sym (resumed_binary v)
            | inr h ↦
                ap (λ (t : Bool). value a (if t then left_register callee o.binary v else o.binary v)) h ∙ kept_value v p.old mine
                ∙ sym (ap (λ (t : Bool). if t then r v else x v) (own_alone v (no_memory v p mine apart) h p.no_end)) ∙ sym (resumed_binary v)
          ]
    ]

    -- ---- the source

    its_memory : (v : Variable) → IsPlain v → is_source v.family ≡ true → is_memory v.sort ≡ true → v ≡ source_memory
    its_memory v p mine m = elim (p.memory m) [
      | inl e ↦ absurd (false≢true (sym (ap (λ (w : Variable). is_source w.family) e) ∙ mine))
      | inr (inl e) ↦ e
      | inr (inr e) ↦ absurd (false≢true (sym (ap (λ (w : Variable). is_source w.family) e) ∙ mine))
    ]

    no_register : (v : Variable) → IsPlain v → is_source v.family ≡ true → is_register v.family ≡ false
    no_register v p mine = elim (cases_Bool (is_register v.family)) [
      | inl h ↦ absurd (false≢true (sym (ap (λ (w : Variable). is_source w.family) (p.register h)) ∙ mine))
      | inr h ↦ h
    ]

    rest_source : (v : Variable) → IsPlain v → is_source v.family ≡ true
        → value a (if is_memory v.sort then left v else o.source v) ≡ (if is_shared v then s v else y v)
    rest_source v p mine = elim (cases_Bool (is_memory v.sort)) [
      | inl m ↦
          ap (λ (t : Bool). value a (if t then left v else o.source v)) m
          ∙ given_value v (subst IsGiven (sym (its_memory v p mine m)) (record { of_callee = refl; given = inr refl }))
          ∙ sym (ap (λ (t : Bool). if t then s v else y v) (or_left (is_memory v.sort) (is_register v.family || is_zone_end v) m))
      | inr m ↦
          ap (λ (t : Bool). value a (if t then left v else o.source v)) m ∙ old_term (o.source v) (old_source v p.old) ∙ opened_y v mine
          ∙ sym (ap (λ (t : Bool). if t then s v else y v) (own_alone v m (no_register v p mine) p.no_end))
    ]

    source_value : (v : Variable) → IsPlain v → is_source v.family ≡ true → values_of a (source_returns calls o) v ≡ resumed calls.source_outputs s y v
    source_value v p mine =
        assigned-by a left s calls.source_outputs (λ w. if is_memory w.sort then left w else o.source w) (λ w. if is_shared w then s w else y w)
        (All-weaker (λ (d : Binding). IsGivenTerm d.term) (Has a left s) (λ d h w k. given_value w (h w k)) calls.source_outputs is.outputs) v
        (rest_source v p mine)

    -- ---- both

    abbrev later_x : Assignment
    later_x = resumed [] r x

    abbrev later_y : Assignment
    later_y = resumed calls.source_outputs s y

    abbrev terms : Terms
    terms = terms_at (binary_returns c callee o) (source_returns calls o)

    abbrev rest : Variable → Term
    rest v = if same_variable v zone_memory then binary_returns c callee o binary_memory else open_term v

    plain_memory : IsPlain binary_memory
    plain_memory = record { old = refl; register = λ h. absurd (false≢true h); memory = λ h. inl refl; no_end = refl }

    zone_part : (v : Variable) (zone : Value) (t : Bool) → same_variable v zone_memory ≡ t
        → other_values at zone v ≡ (if t then zone else (if same_variable v address then Number W32 (low_bits 32 at) else unset v.sort))
    zone_part v zone t e = ap (λ (u : Bool). if u then zone else (if same_variable v address then Number W32 (low_bits 32 at) else unset v.sort)) e

    other_value : (v : Variable) → IsPlain v → is_binary v.family ≡ false → is_source v.family ≡ false
        → value a (rest v) ≡ other_values at (later_x binary_memory) v
    other_value v p h k = elim (cases_Bool (same_variable v zone_memory)) [
      | inl same ↦
          ap (λ (t : Bool). value a (if t then binary_returns c callee o binary_memory else open_term v)) same
          ∙ binary_value binary_memory plain_memory refl ∙ sym (zone_part v (later_x binary_memory) true same)
      | inr apart ↦
          ap (λ (t : Bool). value a (if t then binary_returns c callee o binary_memory else open_term v)) apart ∙ open_value v ∙ old_value v p.old
          ∙ sides-others x y (other_values at (x binary_memory)) v h k
          ∙ zone_part v (x binary_memory) false apart ∙ sym (zone_part v (later_x binary_memory) false apart)
    ]

    point_value : (v : Variable) → IsPlain v → value a (terms v) ≡ of_sides later_x later_y (other_values at (later_x binary_memory)) v
    point_value v p = by_sides (λ w. value a (terms v) ≡ of_sides later_x later_y (other_values at (later_x binary_memory)) v) v
        (λ h. ap (value a) (sides-binary (binary_returns c callee o) (source_returns calls o) rest v h) ∙ binary_value v p h
        ∙ sym (sides-binary later_x later_y (other_values at (later_x binary_memory)) v h))
        (λ h. ap (value a) (sides-source (binary_returns c callee o) (source_returns calls o) rest v h) ∙ source_value v p h
        ∙ sym (sides-source later_x later_y (other_values at (later_x binary_memory)) v h))
        (λ h k. ap (value a) (sides-others (binary_returns c callee o) (source_returns calls o) rest v h k) ∙ other_value v p h k
        ∙ sym (sides-others later_x later_y (other_values at (later_x binary_memory)) v h k))

    -- the lines after
    pub lines_after : (lines : List Term) → All IsPlainLine lines → All (λ (line : Term). IsTrue a (substituted terms line)) lines
        → list_all (λ (line : Term). holds (of_sides later_x later_y (other_values at (later_x binary_memory))) line) lines ≡ true
    lines_after [] p h = refl
    lines_after (line ∷ lines) p h =
        let now : holds (of_sides later_x later_y (other_values at (later_x binary_memory))) line ≡ true =
        sym (ap is_truth (value-substituted a terms line
        ∙ value-occurs (values_of a terms) (of_sides later_x later_y (other_values at (later_x binary_memory))) line (λ v k. point_value v (All-head IsPlainLine line lines p v k))))
        ∙ All-head (λ (l : Term). IsTrue a (substituted terms l)) line lines h in
        ap (λ (t : Bool). t && list_all (λ (l : Term). holds (of_sides later_x later_y (other_values at (later_x binary_memory))) l) lines) now
        ∙ lines_after lines (All-tail IsPlainLine line lines p) (All-tail (λ (l : Term). IsTrue a (substituted terms l)) line lines h)

  -- ---- sorts

  left_sort : (g : Family) (v : Variable) → IsAssignment r → IsAssignment s → IsOfSort v.sort (of_left r s g v)
  left_sort family.Register v sorted_r sorted_s = sorted_r v
  left_sort family.ZoneMemory v sorted_r sorted_s = sorted_r (record { family = family.BinaryMemory; index = v.index; instance = v.instance; sort = v.sort })
  left_sort family.Entry v sorted_r sorted_s = sorted_s v
  left_sort family.Parameter v sorted_r sorted_s = sorted_s v
  left_sort family.Local v sorted_r sorted_s = sorted_s v
  left_sort family.IsSet v sorted_r sorted_s = sorted_s v
  left_sort family.SourceMemory v sorted_r sorted_s = sorted_s v
  left_sort family.BinaryMemory v sorted_r sorted_s = sorted_s v
  left_sort family.Address v sorted_r sorted_s = sorted_s v
  left_sort family.LoadedByte v sorted_r sorted_s = sorted_s v
  left_sort family.Further v sorted_r sorted_s = sorted_s v

  pub left-sort : IsAssignment b → IsAssignment r → IsAssignment s → IsAssignment a
  left-sort sorted_b sorted_r sorted_s v = by (is_left v)
    where
      by : (p : Bool) → IsOfSort v.sort (if p then of_left r s v.family (at_instance 0 v) else b v)
      by true = left_sort v.family (at_instance 0 v) sorted_r sorted_s
      by false = sorted_b v

-- ---- the law

pub callees_return_well : (c : Convention) (f : Frame) (calls : CallPair) (callee : Callee) (before later : List Term)
    (g m l k n e : ℕ) (x y r s : Assignment) → IsConvention c → IsReturnOf c f calls callee before later → IsTrueAcross c (return_term c f calls callee before later)
    → IsRelated (both (all_hold f.entry) (relation c before)) (Running g m x []) (Running k n y [])
    → IsBinaryFine c f (Running g m x []) → IsSourceFine c f (Running k n y []) → IsAssignment r → IsAssignment s → IsGivenBack c callee x r s
    → IsRelated (relation c later) (Running g l (resumed [] r x) []) (Running k e (resumed calls.source_outputs s y) [])
callees_return_well c f calls callee before later g m l k n e x y r s convention is valid related fine_x fine_y sorted_r sorted_s given at =
    let now : Assignment = a at x y r s in
    let o = at_cut c in
    let opened = opened_there c convention f before g m k n x y related fine_x fine_y at in
    let premises = starts_hold at x y r s c convention f calls callee before later is given opened.binary opened.source (f.entry ++ before) is.before_plain
    (all_pass (λ (line : Term). holds (joined at x y) line) (f.entry ++ before) (lines_hold c convention f before g m k n x y related fine_x fine_y at)) in
    let goal : IsTrue now (returns_well c calls callee o later) =
    from_under now (call_premises c f before) (returns_well c calls callee o later)
    (valid now (left-sort at x y r s (sorted_there c convention f before g m k n x y related fine_x fine_y at) sorted_r sorted_s)
    (fixed_there c convention f before g m k n x y related fine_x fine_y) given.fixed) premises in
    let point = terms_at (binary_returns c callee o) (source_returns calls o) in
    lines_after at x y r s c convention f calls callee before later is given opened.binary opened.source (with_memory c later) is.after_plain
    (all_mapped (IsTrue now) (substituted point) (with_memory c later) (all_true now (map (substituted point) (with_memory c later)) goal))
