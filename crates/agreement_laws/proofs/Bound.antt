-- The variables with which a callee begins, from what the call nodes bind.
use Rattle.std.proofs.Common.{◌≡◌, ◌≢◌, ◌∙◌, ℕ, zero, suc, ◌≤◌, ◌==◌, true, false, List, [], ◌∷◌, map, Contains, nat_le, if◌then◌else◌, refl, sym, ap, subst, inl, inr, arith}
use Rattle.std.specs.List.{All, list_any}
use Rattle.std.proofs.lemmas.Bool.{cases_eq, or_cases, eqb-true, leb-true}
use Rattle.std.proofs.lemmas.List.Elements.{All-nil, All-cons, All-contains}
use Rattle.term_core_spec.specs.declared.Variable.{Variable}
use Rattle.term_core_spec.specs.Term.{open_term, truth}
use Rattle.term_core_spec.specs.Value.{Truth, Assignment}
use Rattle.graph_core_spec.specs.Graph.{Binding}
use Rattle.graph_core_spec.specs.Run.{bound, entered, is_shared, unset}
use Rattle.decompile_spec.specs.State.{register, entry_register}
use Rattle.decompile_spec.specs.InstructionTerms.{number}
use Rattle.decompile_spec.specs.Blocks.{entry_binding, other_registers, call_inputs, tail_inputs}
use Rattle.c_types_spec.specs.declared.Scalar.{Scalar}
use Rattle.c_graph_spec.specs.State.{local, is_set, zone_low, zone_high, memory}
use Rattle.c_graph_spec.specs.Layout.{binding}
use Rattle.c_graph_laws.proofs.Changes.{bound_here, bound_there, bound_none, truth_is, apart_set, set_no_local}
use Rattle.c_graph_laws.proofs.Spared.{Spares, spared}
use Rattle.sim_rules_spec.specs.Points.{binary_memory}
use Rattle.sim_rules_spec.proofs.Truths.{all_pass}
use Rattle.agreement_laws.specs.EntryFrame.{registers}
use Rattle.agreement_laws.specs.Callers.{IsPassed}
use Rattle.agreement_laws.proofs.Arguments.{Flags}
use Rattle.agreement_laws.proofs.Premises.{all_more}
use Rattle.agreement_laws.proofs.ReadBack.{open_value}

-- ---- lists

pub all_from : {X : Type 0} (P : X → Type 0) (xs : List X) → ((x : X) → Contains xs x → P x) → All P xs
all_from P [] each = λ i d lt. absurd (omega (arith, lt))
all_from P (x ∷ xs) each =
    all_more P x xs (each x (0, omega arith, refl)) (all_from P xs (λ z among. each z (suc among.0, (let lt = among.1 in omega arith), among.2)))

pub any_contains : (xs : List ℕ) (k : ℕ) → list_any (λ (j : ℕ). j == k) xs ≡ true → Contains xs k
any_contains [] k h = absurd (let bad : false ≡ true = h in cc)
any_contains (x ∷ xs) k h = elim (or_cases (x == k) (list_any (λ (j : ℕ). j == k) xs) h) [
  | inl here ↦ (0, omega arith, eqb-true x k here)
  | inr later ↦ let there = any_contains xs k later in (suc there.0, (let lt = there.1 in omega arith), there.2)
]

-- ---- in code

module _ (x : Assignment) where
  entry_bindings_spare : (u : Variable) → ((r : ℕ) → entry_register r ≢ u) → (rs : List ℕ) → Spares u (map entry_binding rs)
  entry_bindings_spare u apart [] = All-nil (λ (b : Binding). b.variable ≢ u)
  entry_bindings_spare u apart (r ∷ rs) =
      All-cons (λ (b : Binding). b.variable ≢ u) (entry_binding r) (map entry_binding rs) (apart r) (entry_bindings_spare u apart rs)

  register_spared : (k r : ℕ) → entry_register r ≢ register k
  register_spared k r e = let f = ap (λ (v : Variable). v.family) e in cc

  entry_bound : (rs : List ℕ) (r : ℕ) (rest : Assignment) → Contains rs r → bound (map entry_binding rs) x rest (entry_register r) ≡ x (register r)
  entry_bound [] r rest (i, lt, e) = absurd (omega (arith, lt))
  entry_bound (k ∷ rs) r rest among = elim (cases_eq r k) [
    | inl same ↦
        subst (λ (n : ℕ). bound (map entry_binding (k ∷ rs)) x rest (entry_register n) ≡ x (register n)) (sym same)
        (bound_here x (entry_register k) (open_term (register k)) (map entry_binding rs) rest ∙ open_value x (register k))
    | inr apart ↦
        bound_there x (entry_register r) (entry_register k) (open_term (register k)) (map entry_binding rs) rest (λ e. apart (ap (λ (v : Variable). v.index) e))
        ∙ entry_bound rs r rest (later r k rs apart among)
  ]
    where
      later : (r k : ℕ) (rs : List ℕ) → r ≢ k → Contains (k ∷ rs) r → Contains rs r
      later r k rs apart (zero, lt, e) = absurd (apart (sym e))
      later r k rs apart (suc i, lt, e) = (i, omega arith, e)

  abbrev kept_values : Assignment
  kept_values = λ v. if is_shared v then x v else unset v.sort

  -- of the registers only x1 changes, and each has its value at entry
  pub record BeginsAt (a : Assignment) : Type 0 where
    pub same : (r : ℕ) → r ≢ 1 → a (register r) ≡ x (register r)
    pub begun : All (λ (r : ℕ). a (register r) ≡ a (entry_register r)) registers
    pub memory_is : a binary_memory ≡ x binary_memory

  two_on : (r : ℕ) → Contains other_registers r → r ≢ 1
  two_on r among same =
      let least : 2 ≤ r = leb-true 2 r
      (All-contains (λ (n : ℕ). nat_le 2 n ≡ true) other_registers r (all_pass (λ (n : ℕ). nat_le 2 n) other_registers refl) among) in
      omega arith

  module _ (back : ℕ) where
    abbrev rest : List Binding
    rest = map entry_binding other_registers

    abbrev second : List Binding
    second = record { variable = entry_register 1; term = number back } ∷ rest

    -- the values with the return address
    linked : Assignment
    linked = bound (record { variable = register 1; term = number back } ∷ second) x kept_values

    linked_is : entered (call_inputs back) x ≡ linked
    unfolding call_inputs linked
    linked_is = refl

    past_first : (u : Variable) → u ≢ register 1 → linked u ≡ bound second x kept_values u
    unfolding linked
    past_first u apart = bound_there x u (register 1) (number back) second kept_values apart

    past_both : (u : Variable) → u ≢ register 1 → u ≢ entry_register 1 → linked u ≡ bound rest x kept_values u
    past_both u apart other = past_first u apart ∙ bound_there x u (entry_register 1) (number back) rest kept_values other

    same_register : (r : ℕ) → r ≢ 1 → linked (register r) ≡ x (register r)
    same_register r apart =
        past_both (register r) (λ e. apart (ap (λ (v : Variable). v.index) e)) (λ e. let f = ap (λ (v : Variable). v.family) e in cc)
        ∙ spared (register r) rest (entry_bindings_spare (register r) (register_spared r) other_registers) x kept_values

    entry_is : (r : ℕ) → Contains other_registers r → linked (entry_register r) ≡ x (register r)
    entry_is r among =
        past_both (entry_register r) (λ e. let f = ap (λ (v : Variable). v.family) e in cc) (λ e. two_on r among (ap (λ (v : Variable). v.index) e))
        ∙ entry_bound other_registers r kept_values among

    one_is : linked (register 1) ≡ linked (entry_register 1)
    unfolding linked
    one_is =
        bound_here x (register 1) (number back) second kept_values
        ∙ sym (bound_there x (entry_register 1) (register 1) (number back) second kept_values (λ e. let f = ap (λ (v : Variable). v.family) e in cc)
        ∙ bound_here x (entry_register 1) (number back) rest kept_values)

    linked_begins : BeginsAt linked
    linked_begins = record {
      same = same_register;
      begun = all_more (λ (r : ℕ). linked (register r) ≡ linked (entry_register r)) 1 other_registers one_is
          (all_from (λ (r : ℕ). linked (register r) ≡ linked (entry_register r)) other_registers (λ r among. same_register r (two_on r among) ∙ sym (entry_is r among)));
      memory_is =
          past_both binary_memory (λ e. let f = ap (λ (v : Variable). v.family) e in cc) (λ e. let f = ap (λ (v : Variable). v.family) e in cc)
          ∙ spared binary_memory rest (entry_bindings_spare binary_memory (λ r e. let f = ap (λ (v : Variable). v.family) e in cc) other_registers) x kept_values;
    }

    pub call_begins : BeginsAt (entered (call_inputs back) x)
    call_begins = subst BeginsAt (sym linked_is) linked_begins

  pub tail_begins : BeginsAt (entered tail_inputs x)
  unfolding tail_inputs
  tail_begins = record {
    same = λ r apart. same r;
    begun = all_from (λ (r : ℕ). entered tail_inputs x (register r) ≡ entered tail_inputs x (entry_register r)) registers
        (λ r among. same r ∙ sym (entry_bound (1 ∷ other_registers) r kept_values among));
    memory_is = spared binary_memory (map entry_binding (1 ∷ other_registers))
        (entry_bindings_spare binary_memory (λ r e. let f = ap (λ (v : Variable). v.family) e in cc) (1 ∷ other_registers)) x kept_values;
  }
    where
      same : (r : ℕ) → entered tail_inputs x (register r) ≡ x (register r)
      same r = spared (register r) (map entry_binding (1 ∷ other_registers)) (entry_bindings_spare (register r) (register_spared r) (1 ∷ other_registers)) x kept_values

-- ---- in C

module _ (y : Assignment) where
  -- what no argument binds
  skipped : (u : Variable) → ((n : ℕ) (type : Scalar) → u ≢ local n type) → ((n : ℕ) → u ≢ is_set n) → (number : ℕ) (types : List Scalar) (inputs : List Binding) (rest : Assignment)
      → IsPassed number types inputs → bound inputs y rest u ≡ rest u
  skipped u a b number [] inputs rest is = ap (λ (list : List Binding). bound list y rest u) is ∙ bound_none y u rest
  skipped u a b number (type ∷ types) inputs rest is =
      ap (λ (list : List Binding). bound list y rest u) is.2
      ∙ (bound_there y u (local number type) is.0 (binding (is_set number) (truth true) ∷ is.1) rest (a number type)
      ∙ (bound_there y u (is_set number) (truth true) is.1 rest (b number) ∙ skipped u a b (suc number) types is.1 rest is.3))

  -- the flags from a number on, of values that agree with the inputs there
  flags_from : (number : ℕ) (types : List Scalar) (inputs : List Binding) (rest : Assignment) → IsPassed number types inputs → ((n : ℕ) → rest (is_set n) ≡ Truth false)
      → (others : List Scalar) (b : Assignment) → ((n : ℕ) → number ≤ n → b (is_set n) ≡ bound inputs y rest (is_set n)) → Flags b number types others
  flags_from number [] inputs rest is clear [] b agree = tt
  flags_from number [] inputs rest is clear (other ∷ others) b agree = (
    agree number (omega arith) ∙ (ap (λ (list : List Binding). bound list y rest (is_set number)) is ∙ (bound_none y (is_set number) rest ∙ clear number)),
    flags_from (suc number) [] inputs rest is clear others b (λ n less. agree n (omega (arith, less))),
  )
  flags_from number (type ∷ types) inputs rest is clear others b agree = (
    agree number (omega arith)
        ∙ (ap (λ (list : List Binding). bound list y rest (is_set number)) is.2
        ∙ (bound_there y (is_set number) (local number type) is.0 (binding (is_set number) (truth true) ∷ is.1) rest (set_no_local number number type)
        ∙ (bound_here y (is_set number) (truth true) is.1 rest ∙ truth_is y true))),
    flags_from (suc number) types is.1 rest is.3 clear others b (λ n less.
        agree n (omega (arith, less))
        ∙ (ap (λ (list : List Binding). bound list y rest (is_set n)) is.2
        ∙ (bound_there y (is_set n) (local number type) is.0 (binding (is_set number) (truth true) ∷ is.1) rest (set_no_local n number type)
        ∙ bound_there y (is_set n) (is_set number) (truth true) is.1 rest (apart_set n number (λ e. omega (arith, less, e)))))),
  )

  abbrev own_values : Assignment
  own_values = λ v. if is_shared v then y v else unset v.sort

  module _ (types : List Scalar) (inputs : List Binding) (is : IsPassed 0 types inputs) where
    pub flags_begin : (others : List Scalar) → Flags (entered inputs y) 0 types others
    flags_begin others = flags_from 0 types inputs own_values is (λ n. refl) others (entered inputs y) (λ n less. refl)

    -- memory and the ends of the zone are the caller's
    pub low_begins : entered inputs y zone_low ≡ y zone_low
    low_begins = skipped zone_low (λ n t e. let q = ap (λ (v : Variable). v.family) e in cc) (λ n e. let q = ap (λ (v : Variable). v.family) e in cc) 0 types inputs own_values is

    pub high_begins : entered inputs y zone_high ≡ y zone_high
    high_begins = skipped zone_high (λ n t e. let q = ap (λ (v : Variable). v.family) e in cc) (λ n e. let q = ap (λ (v : Variable). v.family) e in cc) 0 types inputs own_values is

    pub memory_begins : entered inputs y memory ≡ y memory
    memory_begins = skipped memory (λ n t e. let q = ap (λ (v : Variable). v.family) e in cc) (λ n e. let q = ap (λ (v : Variable). v.family) e in cc) 0 types inputs own_values is
