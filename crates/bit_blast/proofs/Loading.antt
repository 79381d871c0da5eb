-- Loads by the indices of their terms.
use Rattle.std.proofs.Common.{◌≡◌, ◌<◌, ◌≤◌, ◌+◌, ℕ, zero, suc, true, false, Bool, List, [], ◌∷◌, ◌++◌, length, map, take, drop, Some, refl, ap, sym, ◌∙◌, subst, arith, eqb-true, filter, get_or}
use Rattle.std.specs.Cmp.{nat_eq_equiv}
use Rattle.std.specs.Option.{option_to_list}
use Rattle.std.specs.Prelude.{◌==◌, not, if◌then◌else◌, slice_get, option_map}
use Rattle.std.proofs.lemmas.List.{append_assoc, append-nil, map-append, length-map, take_more, drop_more, drop_all}
use Rattle.std.proofs.lemmas.List.Elements.{filter-append}
use Rattle.std.proofs.lemmas.Option.{same_Some, slice_get-get_or, slice_get-map, get_or_from_slice_get}
use Rattle.term_core_spec.specs.declared.Atom.TheVariants as atom
use Rattle.term_core_spec.specs.declared.BinaryOperator.TheVariants as binary
use Rattle.term_core_spec.specs.Term as tree
use Rattle.term_core_spec.specs.Term.{Term}
use Rattle.term_core_spec.specs.Same.{same_term}
use Rattle.term_core_spec.proofs.Same.{same_is, same_itself}
use Rattle.term_bank.specs.declared.node.TermNode.{TermNode}
use Rattle.term_bank.specs.declared.node.TermNode.TheVariants.{Leaf, Unary, Binary, Ternary, Quaternary, Octonary}
use Rattle.term_bank.specs.Nodes.{IsNode, tree_at, build, Holds, AreDistinct}
use Rattle.bit_blast_spec.specs.Circuits.{Bits}
use Rattle.bit_blast_spec.specs.Goal as goal
use Rattle.bit_blast_spec.specs.Goal.{Table, Load, bits_in, with_load, is_of_memory}
use Rattle.bit_blast.specs.Terms.{terms_in}
use Rattle.bit_blast.proofs.Tables.{bits_at}
use Rattle.bit_blast.specs.declared.loads.LoadIndices.{LoadIndices}
use Rattle.bit_blast.specs.Loads.{load_at, load_of, IsWithin, AreWithin, memories_of}

-- ---- the loads of entries one after the other

with_load_prefix : (t : Table) (entry : Term × Bits) (loads : List Load) → with_load t entry loads ≡ with_load t entry [] ++ loads
with_load_prefix t (tree.Leaf leaf, found) loads = refl
with_load_prefix t (tree.Unary operator a, found) loads = refl
with_load_prefix t (tree.Binary binary.Load a b, found) loads = refl
with_load_prefix t (tree.Binary binary.And a b, found) loads = refl
with_load_prefix t (tree.Binary binary.Or a b, found) loads = refl
with_load_prefix t (tree.Binary binary.Equal a b, found) loads = refl
with_load_prefix t (tree.Binary binary.Less a b, found) loads = refl
with_load_prefix t (tree.Binary (binary.Word operator) a b, found) loads = refl
with_load_prefix t (tree.Binary binary.Join a b, found) loads = refl
with_load_prefix t (tree.Ternary operator a b c, found) loads = refl
with_load_prefix t (tree.Quaternary operator a b c d, found) loads = refl
with_load_prefix t (tree.Octonary a b c d e f g h, found) loads = refl

loads_append : (t entries more : Table) → goal.loads_of t (entries ++ more) ≡ goal.loads_of t entries ++ goal.loads_of t more
loads_append t [] more = refl
loads_append t (entry ∷ entries) more =
    ap (with_load t entry) (loads_append t entries more)
    ∙ with_load_prefix t entry (goal.loads_of t entries ++ goal.loads_of t more)
    ∙ sym (append_assoc (with_load t entry []) (goal.loads_of t entries) (goal.loads_of t more))
    ∙ ap (λ list. list ++ goal.loads_of t more) (sym (with_load_prefix t entry (goal.loads_of t entries)))

-- the load of a node at an index is that of its entry
own_load : (t : Table) (node : TermNode) (index : ℕ) (found : Bits) → bits_in t (build (terms_in t) node) ≡ found → tree_at (terms_in t) index ≡ build (terms_in t) node
    → with_load t (build (terms_in t) node, found) [] ≡ map (load_at t) (option_to_list (load_of index node))
own_load t (Binary binary.Load a b) index found e at =
    let bits : found ≡ bits_in t (tree_at (terms_in t) index) = sym e ∙ ap (bits_in t) (sym at) in
    ap (λ (byte : Bits). record { memory = tree_at (terms_in t) a; address = bits_in t (tree_at (terms_in t) b); byte = byte } ∷ []) bits
own_load t (Leaf leaf) index found e at = refl
own_load t (Unary operator a) index found e at = refl
own_load t (Binary binary.And a b) index found e at = refl
own_load t (Binary binary.Or a b) index found e at = refl
own_load t (Binary binary.Equal a b) index found e at = refl
own_load t (Binary binary.Less a b) index found e at = refl
own_load t (Binary (binary.Word operator) a b) index found e at = refl
own_load t (Binary binary.Join a b) index found e at = refl
own_load t (Ternary operator a b c) index found e at = refl
own_load t (Quaternary operator a b c d) index found e at = refl
own_load t (Octonary a b c d f g h i) index found e at = refl

within_load : (t : Table) (node : TermNode) (index : ℕ) → IsNode index node → index < length t → AreWithin t (option_to_list (load_of index node))
within_load t (Binary binary.Load a b) index h below = ((omega arith, omega arith, below), tt)
within_load t (Leaf leaf) index h below = tt
within_load t (Unary operator a) index h below = tt
within_load t (Binary binary.And a b) index h below = tt
within_load t (Binary binary.Or a b) index h below = tt
within_load t (Binary binary.Equal a b) index h below = tt
within_load t (Binary binary.Less a b) index h below = tt
within_load t (Binary (binary.Word operator) a b) index h below = tt
within_load t (Binary binary.Join a b) index h below = tt
within_load t (Ternary operator a b c) index h below = tt
within_load t (Quaternary operator a b c d) index h below = tt
within_load t (Octonary a b c d f g i j) index h below = tt

pub within_both : (t : Table) (xs ys : List LoadIndices) → AreWithin t xs → AreWithin t ys → AreWithin t (xs ++ ys)
within_both t [] ys first second = second
within_both t (x ∷ xs) ys first second = (first.0, within_both t xs ys first.1 second)

-- the loads of the first entries
pub record Loaded (t : Table) (loads : List LoadIndices) (count : ℕ) : Type 0 where
  pub are : map (load_at t) loads ≡ goal.loads_of t (take count t)
  pub within : AreWithin t loads

pub loaded_more : (t : Table) (loads more : List LoadIndices) (index : ℕ) (node : TermNode) → AreDistinct (terms_in t) → Loaded t loads index
    → index < length t → IsNode index node → Holds (terms_in t) index (build (terms_in t) node) → more ≡ loads ++ option_to_list (load_of index node)
    → Loaded t more (index + 1)
loaded_more t loads more index node distinct before below fits holds grown =
    let entry : Term × Bits = get_or t index (tree.Leaf (atom.Truth false), []) in
    let here : slice_get t index ≡ Some entry = slice_get-get_or t index (tree.Leaf (atom.Truth false), []) below in
    let term : entry.0 ≡ build (terms_in t) node =
    same_Some entry.0 (build (terms_in t) node) (sym (slice_get-map (λ (e : Term × Bits). e.0) t index ∙ ap (option_map (λ (e : Term × Bits). e.0)) here) ∙ holds) in
    let second : slice_get (map (λ (e : Term × Bits). e.1) t) index ≡ Some entry.1 =
    slice_get-map (λ (e : Term × Bits). e.1) t index ∙ ap (option_map (λ (e : Term × Bits). e.1)) here in
    let bits : bits_in t (build (terms_in t) node) ≡ entry.1 = bits_at t index (build (terms_in t) node) entry.1 distinct holds second in
    let at : tree_at (terms_in t) index ≡ build (terms_in t) node = get_or_from_slice_get (terms_in t) index (build (terms_in t) node) (tree.Leaf (atom.Truth false)) holds in
    let one : goal.loads_of t (entry ∷ []) ≡ map (load_at t) (option_to_list (load_of index node)) =
    ap (λ (x : Term). with_load t (x, entry.1) []) term ∙ own_load t node index entry.1 bits at in
    record {
      are = ap (map (load_at t)) grown ∙ map-append (load_at t) loads (option_to_list (load_of index node))
          ∙ ap (λ list. list ++ map (load_at t) (option_to_list (load_of index node))) before.are
          ∙ ap (λ list. goal.loads_of t (take index t) ++ list) (sym one)
          ∙ sym (loads_append t (take index t) (entry ∷ []))
          ∙ ap (goal.loads_of t) (sym (take_more t index (tree.Leaf (atom.Truth false), []) below));
      within = subst (AreWithin t) (sym grown) (within_both t loads (option_to_list (load_of index node)) before.within (within_load t node index fits below));
    }

-- ---- memories

eqb_itself : (n : ℕ) → (n == n) ≡ true
eqb_itself n = nat_eq_equiv.refl n

pub eqb_swap : (a b : ℕ) → (a == b) ≡ (b == a)
eqb_swap a b = by (a == b) refl (b == a) refl
  where
    by : (c : Bool) → (a == b) ≡ c → (d : Bool) → (b == a) ≡ d → c ≡ d
    by true e true f = refl
    by false e false f = refl
    by true e false f =
        let same : a ≡ b = eqb-true a b e in
        let test : (b == a) ≡ true = subst (λ (n : ℕ). (n == a) ≡ true) same (eqb_itself a) in
        absurd (cc)
    by false e true f =
        let same : b ≡ a = eqb-true b a f in
        let test : (a == b) ≡ true = subst (λ (n : ℕ). (n == b) ≡ true) same (eqb_itself b) in
        absurd (cc)

module _ (t : Table) (distinct : AreDistinct (terms_in t)) where
  term_at : ℕ → Term
  term_at index = tree_at (terms_in t) index

  pub holds_at : (index : ℕ) → index < length t → Holds (terms_in t) index (tree_at (terms_in t) index)
  holds_at index below =
      slice_get-get_or (terms_in t) index (tree.Leaf (atom.Truth false)) (omega (arith, length-map t (λ (e : Term × Bits). e.0)))

  -- two indices hold one term where they are one
  pub same_indices : (a b : ℕ) → a < length t → b < length t → same_term (tree_at (terms_in t) a) (tree_at (terms_in t) b) ≡ (a == b)
  same_indices a b below_a below_b = by (a == b) refl (same_term (tree_at (terms_in t) a) (tree_at (terms_in t) b)) refl
    where
      by : (c : Bool) → (a == b) ≡ c → (d : Bool) → same_term (tree_at (terms_in t) a) (tree_at (terms_in t) b) ≡ d → d ≡ c
      by true e true f = refl
      by false e false f = refl
      by true e false f =
          let one : a ≡ b = eqb-true a b e in
          let same : same_term (tree_at (terms_in t) a) (tree_at (terms_in t) b) ≡ true =
          subst (λ (n : ℕ). same_term (tree_at (terms_in t) a) (tree_at (terms_in t) n) ≡ true) one (same_itself (tree_at (terms_in t) a)) in
          absurd (cc)
      by false e true f =
          let trees : tree_at (terms_in t) a ≡ tree_at (terms_in t) b = same_is (tree_at (terms_in t) a) (tree_at (terms_in t) b) f in
          let one : a ≡ b = distinct a b (tree_at (terms_in t) a) (holds_at a below_a) (holds_at b below_b ∙ ap Some (sym trees)) in
          let test : (a == b) ≡ true = subst (λ (n : ℕ). (a == n) ≡ true) one (eqb_itself a) in
          absurd (cc)

  abbrev pub AllUnder : List ℕ → Type 0
  AllUnder [] = Unit {0}
  AllUnder (index ∷ indices) = (index < length t) × AllUnder indices

  others_same : (memory : ℕ) → memory < length t → (memories : List ℕ) → AllUnder memories
      → filter (λ other. if same_term (tree_at (terms_in t) memory) other then false else true) (map (tree_at (terms_in t)) memories)
      ≡ map (tree_at (terms_in t)) (filter (λ other. not (other == memory)) memories)
  others_same memory below [] under = refl
  others_same memory below (other ∷ memories) under =
      by (same_term (tree_at (terms_in t) memory) (tree_at (terms_in t) other)) (other == memory)
      (same_indices memory other below under.0 ∙ eqb_swap memory other) (others_same memory below memories under.1)
    where
      by : (a b : Bool) → a ≡ b
          → filter (λ o. if same_term (tree_at (terms_in t) memory) o then false else true) (map (tree_at (terms_in t)) memories)
          ≡ map (tree_at (terms_in t)) (filter (λ o. not (o == memory)) memories)
          → (if (if a then false else true) then tree_at (terms_in t) other ∷ filter (λ o. if same_term (tree_at (terms_in t) memory) o then false else true) (map (tree_at (terms_in t)) memories)
          else filter (λ o. if same_term (tree_at (terms_in t) memory) o then false else true) (map (tree_at (terms_in t)) memories))
          ≡ map (tree_at (terms_in t)) (if not b then other ∷ filter (λ o. not (o == memory)) memories else filter (λ o. not (o == memory)) memories)
      by true true e rest = rest
      by false false e rest = ap (λ list. tree_at (terms_in t) other ∷ list) rest
      by true false e rest = absurd (cc)
      by false true e rest = absurd (cc)

  under_filter : (test : ℕ → Bool) (memories : List ℕ) → AllUnder memories → AllUnder (filter test memories)
  under_filter test [] under = tt
  under_filter test (memory ∷ memories) under = by (test memory) (under_filter test memories under.1)
    where
      by : (b : Bool) → AllUnder (filter test memories) → AllUnder (if b then memory ∷ filter test memories else filter test memories)
      by true rest = (under.0, rest)
      by false rest = rest

  pub memories_under : (loads : List LoadIndices) → AreWithin t loads → AllUnder (memories_of loads)
  memories_under [] within = tt
  memories_under (load ∷ loads) within =
      (within.0.0, under_filter (λ other. not (other == load.memory)) (memories_of loads) (memories_under loads within.1))

  pub memories_same : (loads : List LoadIndices) → AreWithin t loads → goal.memories_of (map (load_at t) loads) ≡ map (tree_at (terms_in t)) (memories_of loads)
  memories_same [] within = refl
  memories_same (load ∷ loads) within =
      ap (goal.with_memory (load_at t load)) (memories_same loads within.1)
      ∙ ap (λ list. tree_at (terms_in t) load.memory ∷ list) (others_same load.memory within.0.0 (memories_of loads) (memories_under loads within.1))

  pub loads_same : (memory : ℕ) → memory < length t → (loads : List LoadIndices) → AreWithin t loads
      → filter (is_of_memory (tree_at (terms_in t) memory)) (map (load_at t) loads) ≡ map (load_at t) (filter (λ load. load.memory == memory) loads)
  loads_same memory below [] within = refl
  loads_same memory below (load ∷ loads) within =
      by (same_term (tree_at (terms_in t) load.memory) (tree_at (terms_in t) memory)) (load.memory == memory)
      (same_indices load.memory memory within.0.0 below) (loads_same memory below loads within.1)
    where
      by : (a b : Bool) → a ≡ b
          → filter (is_of_memory (tree_at (terms_in t) memory)) (map (load_at t) loads) ≡ map (load_at t) (filter (λ (l : LoadIndices). l.memory == memory) loads)
          → (if a then load_at t load ∷ filter (is_of_memory (tree_at (terms_in t) memory)) (map (load_at t) loads) else filter (is_of_memory (tree_at (terms_in t) memory)) (map (load_at t) loads))
          ≡ map (load_at t) (if b then load ∷ filter (λ (l : LoadIndices). l.memory == memory) loads else filter (λ (l : LoadIndices). l.memory == memory) loads)
      by true true e rest = ap (λ list. load_at t load ∷ list) rest
      by false false e rest = rest
      by true false e rest = absurd (cc)
      by false true e rest = absurd (cc)

  pub within_filter : (test : LoadIndices → Bool) (loads : List LoadIndices) → AreWithin t loads → AreWithin t (filter test loads)
  within_filter test [] within = tt
  within_filter test (load ∷ loads) within = by (test load) (within_filter test loads within.1)
    where
      by : (b : Bool) → AreWithin t (filter test loads) → AreWithin t (if b then load ∷ filter test loads else filter test loads)
      by true rest = (within.0, rest)
      by false rest = rest

-- ---- one of some loads

abbrev pub blank_load : LoadIndices
blank_load = record { memory = 0; address = 0; byte = 0 }

pub within_at : (t : Table) (loads : List LoadIndices) (index : ℕ) (d : LoadIndices) → AreWithin t loads → index < length loads → IsWithin t (get_or loads index d)
within_at t [] index d within below = absurd (omega arith)
within_at t (load ∷ loads) zero d within below = within.0
within_at t (load ∷ loads) (suc index) d within below = within_at t loads index d within.1 (omega arith)

pub within_drop : (t : Table) (loads : List LoadIndices) (index : ℕ) → AreWithin t loads → AreWithin t (drop index loads)
within_drop t [] zero within = tt
within_drop t [] (suc index) within = tt
within_drop t (load ∷ loads) zero within = within
within_drop t (load ∷ loads) (suc index) within = within_drop t loads index within.1

-- ---- one of some memories

pub under_at : (t : Table) (distinct : AreDistinct (terms_in t)) (memories : List ℕ) (index d : ℕ) → AllUnder t distinct memories → index < length memories → get_or memories index d < length t
under_at t distinct [] index d under below = absurd (omega arith)
under_at t distinct (memory ∷ memories) zero d under below = under.0
under_at t distinct (memory ∷ memories) (suc index) d under below = under_at t distinct memories index d under.1 (omega arith)

-- ---- the memories that are another one

pub other_pushed : (memory : ℕ) (memories all more whole : List ℕ) (index : ℕ) → index < length memories
    → all ++ filter (λ (o : ℕ). not (o == memory)) (drop index memories) ≡ whole
    → more ≡ all ++ filter (λ (o : ℕ). not (o == memory)) (get_or memories index 0 ∷ [])
    → more ++ filter (λ (o : ℕ). not (o == memory)) (drop (index + 1) memories) ≡ whole
other_pushed memory memories all more whole index below before grown =
    let other : List ℕ = get_or memories index 0 ∷ [] in
    let rest : List ℕ = drop (index + 1) memories in
    ap (λ (list : List ℕ). list ++ filter (λ (o : ℕ). not (o == memory)) rest) grown
    ∙ append_assoc all (filter (λ (o : ℕ). not (o == memory)) other) (filter (λ (o : ℕ). not (o == memory)) rest)
    ∙ ap (λ (list : List ℕ). all ++ list) (sym (filter-append (λ (o : ℕ). not (o == memory)) other rest))
    ∙ ap (λ (list : List ℕ). all ++ filter (λ (o : ℕ). not (o == memory)) list) (sym (drop_more memories index 0 below))
    ∙ before

pub others_end : (memory : ℕ) (memories all whole : List ℕ) (index : ℕ) → length memories ≤ index
    → all ++ filter (λ (o : ℕ). not (o == memory)) (drop index memories) ≡ whole → all ≡ whole
others_end memory memories all whole index past before =
    sym (append-nil all) ∙ ap (λ (list : List ℕ). all ++ filter (λ (o : ℕ). not (o == memory)) list) (sym (drop_all index memories past)) ∙ before
