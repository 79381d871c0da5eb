-- Memories that are rebuilt by the values of a bank's terms.
use Rattle.std.proofs.Common.{◌≡◌, ℕ, ◌+◌, ◌<◌, ◌≤◌, Bool, true, false, cond, List, [], ◌∷◌, ◌++◌, map, take, drop, length, get_or, Some, refl, sym, ap, ◌∙◌, subst, eqb-true, eq-eqb}
use Rattle.std.specs.Prelude.{◌==◌, ◌&&◌, filter}
use Rattle.std.proofs.Math.Path.{fun_ext}
use Rattle.std.proofs.Math.ListN.{get_or-map}
use Rattle.std.proofs.lemmas.List.{take_more, take_all}
use Rattle.term_core_spec.specs.declared.Atom.TheVariants as atom
use Rattle.term_core_spec.specs.declared.Sort.{Sort}
use Rattle.term_core_spec.specs.declared.Sort.TheVariants as sort
use Rattle.term_core_spec.specs.declared.Variable.{Variable}
use Rattle.term_core_spec.specs.Term as tree
use Rattle.term_core_spec.specs.Term.{Term}
use Rattle.term_core_spec.specs.Sort.{is_memory, sort_of}
use Rattle.term_core_spec.specs.Same.{same_variable}
use Rattle.term_core_spec.specs.Value as spec
use Rattle.term_core_spec.specs.Value.{Assignment, IsAssignment, value, low_bits, with_byte}
use Rattle.term_core_spec.proofs.Same.{variable-same}
use Rattle.term_core.specs.declared.value.Value.TheVariants as code
use Rattle.term_core.specs.declared.memory.Memory.{Memory}
use Rattle.term_core.specs.Memory.{bytes_of}
use Rattle.term_core.specs.Assignment.{given_or_default}
use Rattle.term_bank.specs.Nodes.{tree_at, value_at}
use Rattle.mem_terms_spec.specs.Flat.{is_among, memories_of}
use Rattle.mem_terms_spec.specs.Assignments.{LoadsFromVariables, number_of, first_byte, memory_back, rebuilt}
use Rattle.mem_terms_spec.proofs.Lists.{variable_itself}
use Rattle.mem_terms_spec.proofs.Validity.{term_false}
use Rattle.mem_terms.specs.declared.ids.LoadIds.{LoadIds}
use Rattle.mem_terms.specs.declared.ids.Flat.{Flat}
use Rattle.mem_terms.specs.Ids.{load_at, is_load_from, IsFlatOf}
use Rattle.mem_terms.specs.Back.{first_among, memory_among}
use Rattle.mem_terms.proofs.Pairs.{filter_loads, drop_here}

-- ---- the bytes of one memory

test_turned : (a b : ℕ) → (a == b) ≡ (b == a)
test_turned a b = by_first (a == b) (b == a) refl refl
  where
    by_first : (p q : Bool) → (a == b) ≡ p → (b == a) ≡ q → p ≡ q
    by_first true true e f = refl
    by_first false false e f = refl
    by_first true false e f = let k : (b == a) ≡ true = eq-eqb b a (sym (eqb-true a b e)) in cc
    by_first false true e f = let k : (a == b) ≡ true = eq-eqb a b (sym (eqb-true b a f)) in cc

-- one load more in front
pub set_step : (values : List spec.Value) (loads : List LoadIds) (i : ℕ) (otherwise : LoadIds) (address byte : ℕ) (old new : ℕ → ℕ) → i < length loads
    → new ≡ with_byte old address byte → address ≡ low_bits 32 (number_of (value_at values (get_or loads i otherwise).address))
    → byte ≡ low_bits 8 (number_of (value_at values (get_or loads i otherwise).byte)) → ((q : ℕ) → old q ≡ first_among values q (drop (i + 1) loads))
    → (q : ℕ) → new q ≡ first_among values q (drop i loads)
unfolding first_among
set_step values loads i otherwise address byte old new below new_is address_is byte_is before q =
    let here : first_among values q (drop i loads) ≡ first_among values q (get_or loads i otherwise ∷ drop (i + 1) loads) = ap (first_among values q) (drop_here loads i otherwise below) in
    ap (λ f. f q) new_is
    ∙ ap (λ t. cond t byte (old q)) (test_turned q address)
    ∙ ap (λ a. cond (a == q) byte (old q)) address_is
    ∙ ap (λ b. cond (low_bits 32 (number_of (value_at values (get_or loads i otherwise).address)) == q) b (old q)) byte_is
    ∙ ap (λ o. cond (low_bits 32 (number_of (value_at values (get_or loads i otherwise).address)) == q) (low_bits 8 (number_of (value_at values (get_or loads i otherwise).byte))) o) (before q)
    ∙ sym here

pub none_among : (values : List spec.Value) (q : ℕ) → first_among values q [] ≡ 0
unfolding first_among
none_among values q = refl

-- ---- one memory restored

turned : (v w : Variable) → same_variable v w ≡ true → same_variable w v ≡ true
turned v w e = subst (λ u. same_variable u v ≡ true) (variable-same v w e) (variable_itself v)

pub restored : (memory v : Variable) (old : spec.Value) (bytes : Memory) (values : List spec.Value) (loads own : List LoadIds) → memory.sort ≡ sort.Memory
    → own ≡ filter (is_load_from memory) loads → bytes_of bytes ≡ (λ address. first_among values address own)
    → cond (same_variable memory v) (given_or_default v.sort (Some (code.Bytes bytes))) old ≡ cond (is_memory v.sort && same_variable v memory) (memory_among values loads v) old
restored memory v old bytes values loads own s own_is bytes_are = step (same_variable memory v) (same_variable v memory) refl refl
  where
    given : (t : Sort) → t ≡ sort.Memory → given_or_default t (Some (code.Bytes bytes)) ≡ spec.Bytes (bytes_of bytes)
    given sort.Memory e = refl
    given sort.Truth e = absurd (cc)
    given (sort.Word w) e = absurd (cc)

    chosen : (t : Bool) (x : spec.Value) → t ≡ true → cond (t && true) x old ≡ x
    chosen true x e = refl
    chosen false x e = absurd (cc)

    unchosen : (t : Bool) (x : spec.Value) → cond (t && false) x old ≡ old
    unchosen true x = refl
    unchosen false x = refl

    step : (p q : Bool) → same_variable memory v ≡ p → same_variable v memory ≡ q
        → cond p (given_or_default v.sort (Some (code.Bytes bytes))) old ≡ cond (is_memory v.sort && q) (memory_among values loads v) old
    step true true e f =
        let is : memory ≡ v = variable-same memory v e in
        let of : v.sort ≡ sort.Memory = ap (λ w. w.sort) (sym is) ∙ s in
        let all : own ≡ filter (is_load_from v) loads = own_is ∙ ap (λ w. filter (is_load_from w) loads) is in
        given v.sort of ∙ ap spec.Bytes (bytes_are ∙ ap (λ l. λ address. first_among values address l) all) ∙ sym (chosen (is_memory v.sort) (memory_among values loads v) (ap is_memory of))
    step false false e f = sym (unchosen (is_memory v.sort) (memory_among values loads v))
    step true false e f = let k = turned memory v e in absurd (cc)
    step false true e f = let k = turned v memory f in absurd (cc)

-- ---- all memories restored

among_last : (v : Variable) (xs : List Variable) (x : Variable) → is_among v (xs ++ x ∷ []) ≡ cond (is_among v xs) true (same_variable v x)
among_last v [] x = last (same_variable v x)
  where
    last : (t : Bool) → cond t true false ≡ t
    last true = refl
    last false = refl
among_last v (y ∷ xs) x = ahead (same_variable v y) (among_last v xs x)
  where
    ahead : (t : Bool) → is_among v (xs ++ x ∷ []) ≡ cond (is_among v xs) true (same_variable v x)
        → cond t true (is_among v (xs ++ x ∷ [])) ≡ cond (cond t true (is_among v xs)) true (same_variable v x)
    ahead true e = refl
    ahead false e = e

both_choices : (m a s : Bool) (x old : spec.Value) → cond (m && s) x (cond (m && a) x old) ≡ cond (m && cond a true s) x old
both_choices true true true x old = refl
both_choices true true false x old = refl
both_choices true false s x old = refl
both_choices false a s x old = refl

pub restore_step : (v : Variable) (memories : List Variable) (i : ℕ) (otherwise : Variable) (x first before now : spec.Value) → i < length memories
    → now ≡ cond (is_memory v.sort && same_variable v (get_or memories i otherwise)) x before → before ≡ cond (is_memory v.sort && is_among v (take i memories)) x first
    → now ≡ cond (is_memory v.sort && is_among v (take (i + 1) memories)) x first
restore_step v memories i otherwise x first before now below now_is before_is =
    let more : is_among v (take (i + 1) memories) ≡ cond (is_among v (take i memories)) true (same_variable v (get_or memories i otherwise)) =
    ap (is_among v) (take_more memories i otherwise below) ∙ among_last v (take i memories) (get_or memories i otherwise) in
    now_is
    ∙ ap (cond (is_memory v.sort && same_variable v (get_or memories i otherwise)) x) before_is
    ∙ both_choices (is_memory v.sort) (is_among v (take i memories)) (same_variable v (get_or memories i otherwise)) x first
    ∙ sym (ap (λ t. cond (is_memory v.sort && t) x first) more)

value_there : (A : Assignment) (trees : List Term) (i : ℕ) → value_at (map (value A) trees) i ≡ value A (tree_at trees i)
unfolding value
value_there A trees i = get_or-map (value A) trees i (tree.Leaf (atom.Truth false))

first_same : (A : Assignment) (trees : List Term) (q : ℕ) (loads : List LoadIds) → first_among (map (value A) trees) q loads ≡ first_byte A q (map (load_at trees) loads)
unfolding first_among
first_same A trees q [] = refl
first_same A trees q (l ∷ loads) =
    let e1 = value_there A trees l.address in
    let e2 = value_there A trees l.byte in
    let e3 = first_same A trees q loads in
    ap (λ v. cond (low_bits 32 (number_of v) == q) (low_bits 8 (number_of (value_at (map (value A) trees) l.byte))) (first_among (map (value A) trees) q loads)) e1
    ∙ ap (λ v. cond (low_bits 32 (number_of (value A (tree_at trees l.address))) == q) (low_bits 8 (number_of v)) (first_among (map (value A) trees) q loads)) e2
    ∙ ap (λ o. cond (low_bits 32 (number_of (value A (tree_at trees l.address))) == q) (low_bits 8 (number_of (value A (tree_at trees l.byte)))) o) e3

memory_same : (A : Assignment) (trees : List Term) (values : List spec.Value) (loads : List LoadIds) (v : Variable) → values ≡ map (value A) trees
    → memory_among values loads v ≡ memory_back A (map (load_at trees) loads) v
memory_same A trees values loads v e =
    ap (λ vs. memory_among vs loads v) e
    ∙ ap spec.Bytes (fun_ext (λ q. first_same A trees q (filter (is_load_from v) loads) ∙ ap (first_byte A q) (filter_loads trees v loads)))

-- the assignment at the end
pub rebuilt_whole : (A B : Assignment) (trees : List Term) (values : List spec.Value) (loads : List LoadIds) (memories : List Variable) (i : ℕ) → values ≡ map (value A) trees
    → memories ≡ memories_of (map (load_at trees) loads) → length memories ≤ i
    → ((v : Variable) → B v ≡ cond (is_memory v.sort && is_among v (take i memories)) (memory_among values loads v) (A v)) → B ≡ rebuilt (map (load_at trees) loads) A
unfolding rebuilt
rebuilt_whole A B trees values loads memories i values_are memories_are ends each =
    fun_ext (λ v. each v
    ∙ ap (λ ms. cond (is_memory v.sort && is_among v ms) (memory_among values loads v) (A v)) (take_all i memories ends ∙ memories_are)
    ∙ ap (λ x. cond (is_memory v.sort && is_among v (memories_of (map (load_at trees) loads))) x (A v)) (memory_same A trees values loads v values_are))

pub falsified : (A B : Assignment) (trees : List Term) (flat : Flat) → B ≡ rebuilt (map (load_at trees) flat.loads.items) A → IsAssignment A
    → (t : Term) → IsFlatOf trees flat t → sort_of t ≡ Some sort.Truth → LoadsFromVariables t → value A (tree_at trees flat.term) ≡ spec.Truth false → value B t ≡ spec.Truth false
falsified A B trees flat B_is assigned t is s all e =
    ap (λ b. value b t) (B_is ∙ ap (λ l. rebuilt l A) is.loads_are) ∙ term_false t s all A assigned (ap (value A) (sym is.is_flat.tree) ∙ e)
