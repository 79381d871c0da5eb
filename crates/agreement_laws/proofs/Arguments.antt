-- The arguments of a call, read from the variables of its parameters.
use Rattle.std.proofs.Common.{◌≡◌, ◌∙◌, ℕ, zero, suc, ◌+◌, ◌^◌, ◌<◌, Bool, true, false, List, [], ◌∷◌, ◌++◌, slice_get, Option, Some, None, refl, sym, ap, subst, arith}
use Rattle.std.specs.Prelude.{ℤ, ⊤}
use Rattle.std.specs.List.{All}
use Rattle.std.proofs.lemmas.List.Elements.{All-head, All-tail}
use Rattle.rv_machine_spec.specs.Arithmetic as machine
use Rattle.term_core_spec.specs.declared.Width.TheVariants.{W32}
use Rattle.term_core_spec.specs.declared.Variable.{Variable}
use Rattle.term_core_spec.specs.Sort.{bits}
use Rattle.term_core_spec.specs.Term.{open_term, truth}
use Rattle.term_core_spec.specs.Value.{Value, Truth, Number, Bytes, Assignment, IsAssignment, value}
use Rattle.term_core_spec.proofs.Sorts.{as_word}
use Rattle.decompile_spec.specs.State.{register}
use Rattle.c_types_spec.specs.declared.Scalar.{Scalar}
use Rattle.c_types_spec.specs.Values.{of_bits}
use Rattle.c_run_spec.specs.Calls.{locals_at_entry}
use Rattle.c_run_laws.proofs.Ranges.{of_bits_is_of}
use Rattle.c_graph_spec.specs.State.{width_of, local, is_set}
use Rattle.c_graph_laws.specs.Together.{HasLocal, unset, set}
use Rattle.c_graph_laws.proofs.Extents.{IsPlain, byte, half, full, scalar}
use Rattle.c_graph_laws.proofs.Divisions.{at_width_is}
use Rattle.c_graph_laws.proofs.Bits.{bits_resized}
use Rattle.validity_spec.specs.Claim.{HaveTypes}
use Rattle.agreement_laws.specs.EntryFrame.{Fact, parameter, widened, argument_facts, local_facts}
use Rattle.agreement_laws.proofs.ReadBack.{open_value, bits_word}

plain_width : (type : Scalar) → IsPlain type → bits (width_of type) ≡ type.width
plain_width _ (byte sign) = refl
plain_width _ (half sign) = refl
plain_width _ (full sign) = refl

abbrev pub number_in : Value → ℕ
number_in (Number w n) = n
number_in (Truth t) = 0
number_in (Bytes bytes) = 0

-- the values of so many parameters, from a number on
abbrev pub arguments_in : Assignment → (number : ℕ) → List Scalar → List ℤ
arguments_in b number [] = []
arguments_in b number (type ∷ types) = of_bits type (number_in (b (local number type))) ∷ arguments_in b (suc number) types

-- the variable has the value of the fact's term
abbrev pub Has : Assignment → Fact → Type 0
Has s fact = value s fact.term ≡ s fact.variable

-- the first locals, from a number on, are set and the others aren't
abbrev pub Flags : Assignment → (number : ℕ) → (types others : List Scalar) → Type 0
Flags b number [] [] = ⊤
Flags b number [] (other ∷ others) = (b (is_set number) ≡ Truth false) × Flags b (suc number) [] others
Flags b number (type ∷ types) others = (b (is_set number) ≡ Truth true) × Flags b (suc number) types others

-- the registers from x10 on have the words of the first locals' values
abbrev pub Passes : (a b : Assignment) → (number : ℕ) → List Scalar → Type 0
Passes a b number [] = ⊤
Passes a b number (type ∷ types) =
    (a (register (10 + number)) ≡ Number W32 (machine.word (of_bits type (number_in (b (local number type)))))) × Passes a b (suc number) types

pub values_there : (types : List Scalar) (vs : List ℤ) (i : ℕ) (type : Scalar) → slice_get types i ≡ Some type → (v : Option ℤ) × (slice_get (locals_at_entry types vs) i ≡ Some v)
values_there [] vs i type e = absurd (cc)
values_there (t ∷ types) [] zero type e = (None, refl)
values_there (t ∷ types) [] (suc i) type e = values_there types [] i type e
values_there (t ∷ types) (v ∷ vs) zero type e = (Some v, refl)
values_there (t ∷ types) (v ∷ vs) (suc i) type e = values_there types vs i type e

pub passed_there : (a b : Assignment) (number : ℕ) (types : List Scalar) → Passes a b number types → (i : ℕ) (v : ℤ) → slice_get (arguments_in b number types) i ≡ Some v
    → a (register (10 + (number + i))) ≡ Number W32 (machine.word v)
passed_there a b number [] passes i v e = absurd (cc)
passed_there a b number (t ∷ types) passes zero v e =
    let is_value : of_bits t (number_in (b (local number t))) ≡ v = cc in
    let same : number ≡ number + 0 = omega arith in
    subst (λ (n : ℕ). a (register (10 + n)) ≡ Number W32 (machine.word v)) same (passes.0 ∙ ap (λ (u : ℤ). Number W32 (machine.word u)) is_value)
passed_there a b number (t ∷ types) passes (suc i) v e =
    let next : suc number + i ≡ number + suc i = omega arith in
    subst (λ (n : ℕ). a (register (10 + n)) ≡ Number W32 (machine.word v)) next (passed_there a b (suc number) types passes.1 i v e)

module _ (b : Assignment) (ranged : IsAssignment b) where
  pub word_there : (number : ℕ) (type : Scalar) → IsPlain type
      → (b (local number type) ≡ Number (width_of type) (number_in (b (local number type)))) × (number_in (b (local number type)) < 2 ^ type.width)
  word_there number type plain =
      let word = as_word (width_of type) (b (local number type)) (ranged (local number type)) in
      let same : number_in (b (local number type)) ≡ word.0 = ap number_in word.1 in (
        word.1 ∙ ap (Number (width_of type)) (sym same),
        subst (λ (w : ℕ). number_in (b (local number type)) < 2 ^ w) (plain_width type plain)
            (subst (λ (n : ℕ). n < 2 ^ bits (width_of type)) (sym same) word.2),
      )

  pub have_types : (number : ℕ) (types : List Scalar) → All IsPlain types → HaveTypes types (arguments_in b number types)
  have_types number [] plain = tt
  have_types number (type ∷ types) plain = (
    of_bits_is_of type (number_in (b (local number type))) (word_there number type (All-head IsPlain type types plain)).1,
    have_types (suc number) types (All-tail IsPlain type types plain),
  )

  -- the word of a local's value, widened
  pub widened_there : (s : Assignment) (v : Variable) (number : ℕ) (type : Scalar) → IsPlain type → s v ≡ b (local number type)
      → value s (widened type v) ≡ Number W32 (machine.word (of_bits type (number_in (b (local number type)))))
  widened_there s v number type plain same =
      let word = word_there number type plain in
      at_width_is s type (scalar 32 false) plain (full false) (open_term v) (number_in (b (local number type))) (open_value s v ∙ same ∙ word.0)
      ∙ ap (Number W32) (sym (bits_resized type (scalar 32 false) plain (full false) (number_in (b (local number type))) word.1)
      ∙ bits_word (of_bits type (number_in (b (local number type)))))

  -- the locals are those of the call
  pub locals_there : (number : ℕ) (types others : List Scalar) → All IsPlain types → Flags b number types others → (i : ℕ) (type : Scalar) (v : Option ℤ)
      → slice_get (types ++ others) i ≡ Some type → slice_get (locals_at_entry (types ++ others) (arguments_in b number types)) i ≡ Some v → HasLocal b (number + i) type v
  locals_there number [] [] plain flags i type v e f = absurd (cc)
  locals_there number [] (other ∷ others) plain flags zero type v e f =
      let none : None ≡ v = cc in
      let same : number ≡ number + 0 = omega arith in
      subst (λ (n : ℕ). HasLocal b n type v) same (subst (HasLocal b number type) none (unset flags.0))
  locals_there number [] (other ∷ others) plain flags (suc i) type v e f =
      let next : suc number + i ≡ number + suc i = omega arith in
      subst (λ (n : ℕ). HasLocal b n type v) next (locals_there (suc number) [] others plain flags.1 i type v e f)
  locals_there number (t ∷ types) others plain flags zero type v e f =
      let is_type : t ≡ type = cc in
      let is_value : Some (of_bits t (number_in (b (local number t)))) ≡ v = cc in
      let same : number ≡ number + 0 = omega arith in
      let word = word_there number t (All-head IsPlain t types plain) in
      subst (λ (n : ℕ). HasLocal b n type v) same
      (subst (HasLocal b number type) is_value (subst (λ (u : Scalar). HasLocal b number u (Some (of_bits t (number_in (b (local number t)))))) is_type
      (set (of_bits t (number_in (b (local number t)))) flags.0
      (record { bits = number_in (b (local number t)); below = word.1; word = word.0; value_is = refl }))))
  locals_there number (t ∷ types) others plain flags (suc i) type v e f =
      let next : suc number + i ≡ number + suc i = omega arith in
      subst (λ (n : ℕ). HasLocal b n type v) next (locals_there (suc number) types others (All-tail IsPlain t types plain) flags.1 i type v e f)

  -- ---- from the facts at an entry

  module _ (s : Assignment) (source_is : (number : ℕ) (type : Scalar) → s (local number type) ≡ b (local number type)) (flag_is : (number : ℕ) → s (is_set number) ≡ b (is_set number)) where
    flag_there : (number : ℕ) (t : Bool) (facts : List Fact) → All (Has s) (record { variable = is_set number; term = truth t } ∷ facts) → b (is_set number) ≡ Truth t
    unfolding value
    flag_there number t facts all = sym (flag_is number) ∙ sym (All-head (Has s) (record { variable = is_set number; term = truth t }) facts all)

    pub flags_there : (number : ℕ) (types others : List Scalar) → All (Has s) (local_facts number types (types ++ others)) → Flags b number types others
    flags_there number [] [] facts = tt
    flags_there number [] (other ∷ others) facts = (
      flag_there number false (local_facts (suc number) [] others) facts,
      flags_there (suc number) [] others (All-tail (Has s) (record { variable = is_set number; term = truth false }) (local_facts (suc number) [] others) facts),
    )
    flags_there number (t ∷ types) others facts =
        let own : Fact = record { variable = local number t; term = open_term (parameter number t) } in
        let later : List Fact = local_facts (suc number) types (types ++ others) in (
          flag_there number true (own ∷ later) facts,
          flags_there (suc number) types others (All-tail (Has s) own later (All-tail (Has s) (record { variable = is_set number; term = truth true }) (own ∷ later) facts)),
        )

    pub passes_there : (a : Assignment) → ((r : ℕ) → s (register r) ≡ a (register r)) → (number : ℕ) (types others : List Scalar) → All IsPlain types
        → All (Has s) (local_facts number types (types ++ others)) → All (Has s) (argument_facts number types) → Passes a b number types
    passes_there a binary_is number [] others plain facts given = tt
    passes_there a binary_is number (t ∷ types) others plain facts given =
        let own : Fact = record { variable = local number t; term = open_term (parameter number t) } in
        let later : List Fact = local_facts (suc number) types (types ++ others) in
        let mine = All-tail (Has s) (record { variable = is_set number; term = truth true }) (own ∷ later) facts in
        let argument : Fact = record { variable = register (10 + number); term = widened t (parameter number t) } in
        let same : s (parameter number t) ≡ b (local number t) = sym (open_value s (parameter number t)) ∙ All-head (Has s) own later mine ∙ source_is number t in (
          sym (binary_is (10 + number)) ∙ sym (All-head (Has s) argument (argument_facts (suc number) types) given)
              ∙ widened_there s (parameter number t) number t (All-head IsPlain t types plain) same,
          passes_there a binary_is (suc number) types others (All-tail IsPlain t types plain) (All-tail (Has s) own later mine)
              (All-tail (Has s) argument (argument_facts (suc number) types) given),
        )
