-- The tree of names: what its nodes stand for, and how it grows.
use Rattle.std.proofs.Common.{◌≡◌, ◌==◌, ◌+◌, ◌-◌, ◌*◌, ◌/◌, ◌%◌, ◌<◌, ◌≤◌, ◌≢◌, ◌∙◌, ◌++◌, ◌⊎◌, ℕ, zero, suc, Bool, true, false, cond, if◌then◌else◌, List, [], ◌∷◌, Option, None, Some, length, length-append, get_or, take, drop, unwrap_or, bytes_eq, ap, sym, refl, arith, subst, eq-eqb, eqb-true, ne_eqb, inl, inr, nat_cmp}
use Rattle.std.specs.Cmp.{ranks}
use Rattle.std.specs.Ordering.{is_eq}
use Rattle.std.specs.Cmp.Lexicographic.{slice_cmp}
use Rattle.std.specs.Option.{option_and_then}
use Rattle.std.specs.BTreeMap.{BTreeMap, get}
use Rattle.std.proofs.Math.Nat.{eq-or-lt_of_le}
use Rattle.std.proofs.Math.ListN.{get_or-append}
use Rattle.std.proofs.Math.Seq.{get_or-append_seam}
use Rattle.std.proofs.lemmas.Bool.{eqb-false}
use Rattle.std.proofs.lemmas.List.{length-map, length-drop, get_or_default, get_or-map}
use Rattle.std.proofs.lemmas.Map.Text.{is_eq-slice_cmp}
use Rattle.std.proofs.lemmas.Slice.Eq.{bytes_eq-Decides}
use Rattle.elf_read_spec.specs.File.{name_in}
use Rattle.elf_read.specs.declared.parts.Symbol.{Symbol}
use Rattle.elf_read.specs.NameTree.{ArePlaced, Children, Tree, child_among, child, node_of_blocks, rest_of, node_of, IsAdded, IsKept, IsGrown, AreOwn, AreBlocks, IsNamed, AreNumbered, text_at}
use Rattle.elf_read.proofs.SizeSteps.{same_test}
use Rattle.elf_read.proofs.Texts.{positive, rejoin, drop_twice, text_ends, text_goes_on, text_inside, text_front, text_upto}

-- a block is there
pub found : (names : List ℕ → Option ℕ) (name : List ℕ) (i first : ℕ) → names name ≡ Some first → IsAdded names names name i first
found names name i first is = record { kept = λ other j h. h; here = is; own = λ other j h. inl h }

-- a block is written
pub added : (old new : List ℕ → Option ℕ) (name : List ℕ) (i : ℕ) → old name ≡ None
    → ((other : List ℕ) → new other ≡ cond (is_eq (slice_cmp nat_cmp name other)) (Some i) (old other)) → IsAdded old new name i i
added old new name i none writes = record {
  kept = λ other j h. kept other j (bytes_eq name other) refl h;
  here = at name true ((bytes_eq-Decides name name).1 refl);
  own = λ other j h. own other j (bytes_eq name other) refl h;
}
  where
    at : (other : List ℕ) (b : Bool) → bytes_eq name other ≡ b → new other ≡ cond b (Some i) (old other)
    at other b e = writes other ∙ ap (λ b. cond b (Some i) (old other)) (is_eq-slice_cmp name other ∙ e)

    kept : (other : List ℕ) (j : ℕ) (b : Bool) → bytes_eq name other ≡ b → old other ≡ Some j → new other ≡ Some j
    kept other j true e h =
        let same : name ≡ other = (bytes_eq-Decides name other).0 e in
        let both : None ≡ Some j = sym (ap (λ n. old n) (sym same) ∙ none) ∙ h in
        absurd cc
    kept other j false e h = at other false e ∙ h

    own : (other : List ℕ) (j : ℕ) (b : Bool) → bytes_eq name other ≡ b → new other ≡ Some j → (old other ≡ Some j) ⊎ ((other ≡ name) × (j ≡ i))
    own other j true e h =
        let same : name ≡ other = (bytes_eq-Decides name other).0 e in
        let both : Some i ≡ Some j = sym (at other true e) ∙ h in
        let number : j ≡ i = cc in
        inr (sym same, number)
    own other j false e h = inl (sym (at other false e) ∙ h)

-- a map without blocks has none
pub no_child : (children : Children) → children.entries ≡ [] → (block : List ℕ) → child_among (Some children) block ≡ None
no_child children none block = rw none refl

-- the blocks before one node are written
pub written : (old new : Tree) (children : Option Children) (more : Children) (rest : ℕ) (block : List ℕ) (i node : ℕ) → get nat_cmp old rest ≡ children
    → ((r : ℕ) → get nat_cmp new r ≡ cond (is_eq (nat_cmp rest r)) (Some more) (get nat_cmp old r))
    → IsAdded (child_among children) (child_among (Some more)) block i node → IsGrown old new rest block i node
written old new children more rest block i node was writes one = record {
  kept = λ r b n h. kept r b n (rest == r) refl h;
  here = at rest block true (eq-eqb rest rest refl) ∙ one.here;
  own = λ r b n h. own r b n (rest == r) refl h;
}
  where
    at : (r : ℕ) (b : List ℕ) (t : Bool) → (rest == r) ≡ t → child new r b ≡ child_among (cond t (Some more) (get nat_cmp old r)) b
    at r b t e =
        ap (λ o. child_among o b)
        (writes r ∙ ap (λ t. cond t (Some more) (get nat_cmp old r)) (same_test rest r (nat_cmp rest r) (ranks rest r) ∙ e))

    before : (r : ℕ) (b : List ℕ) → (rest == r) ≡ true → child old r b ≡ child_among children b
    before r b e =
        ap (λ n. child_among (get nat_cmp old n) b) (sym (eqb-true rest r e)) ∙ ap (λ o. child_among o b) was

    kept : (r : ℕ) (b : List ℕ) (n : ℕ) (t : Bool) → (rest == r) ≡ t → child old r b ≡ Some n → child new r b ≡ Some n
    kept r b n true e h = at r b true e ∙ one.kept b n (sym (before r b e) ∙ h)
    kept r b n false e h = at r b false e ∙ h

    own : (r : ℕ) (b : List ℕ) (n : ℕ) (t : Bool) → (rest == r) ≡ t → child new r b ≡ Some n
        → (child old r b ≡ Some n) ⊎ ((r ≡ rest) × (b ≡ block) × (n ≡ i))
    own r b n true e h =
        elim (one.own b n (sym (at r b true e) ∙ h)) [
          | inl there ↦ inl (before r b e ∙ there)
          | inr new ↦ inr (sym (eqb-true rest r e), new.0, new.1)
        ]
    own r b n false e h = inl (sym (at r b false e) ∙ h)

-- what a step from a node gives comes from that node
parent_of : (f : ℕ → Option ℕ) (o : Option ℕ) (node : ℕ) → option_and_then f o ≡ Some node → (p : ℕ) × (o ≡ Some p) × (f p ≡ Some node)
parent_of f None node h = absurd cc
parent_of f (Some p) node h = (p, refl, h)

-- nodes stay where they stay block by block
pub blocks_kept : (old new : Tree) → IsKept old new → (count : ℕ) (bytes : List ℕ) (node : ℕ) → node_of_blocks old count bytes ≡ Some node
    → node_of_blocks new count bytes ≡ Some node
blocks_kept old new kept zero bytes node h = h
blocks_kept old new kept (suc count) bytes node h =
    let from = parent_of (λ rest. child old rest (take 64 bytes)) (node_of_blocks old count (drop 64 bytes)) node h in
    ap (λ o. option_and_then (λ rest. child new rest (take 64 bytes)) o) (blocks_kept old new kept count (drop 64 bytes) from.0 from.1)
    ∙ kept from.0 (take 64 bytes) node from.2

pub rest_kept : (old new : Tree) → IsKept old new → (name : List ℕ) (node : ℕ) → rest_of old name ≡ Some node → rest_of new name ≡ Some node
rest_kept old new kept name node h = blocks_kept old new kept (length name / 64) (drop (length name % 64) name) node h

pub node_full : (tree : Tree) (name : List ℕ) (rest : ℕ) → length name % 64 ≡ 0 → rest_of tree name ≡ Some rest → node_of tree name ≡ Some rest
node_full tree name rest full h =
    let test : (length name % 64 == 0) ≡ true = eq-eqb (length name % 64) 0 full in
    ap (λ o. option_and_then (λ r. if length name % 64 == 0 then Some r else child tree r (take (length name % 64) name)) o) h
    ∙ ap (λ b. if b then Some rest else child tree rest (take (length name % 64) name)) test

pub node_front : (tree : Tree) (name : List ℕ) (rest node : ℕ) → 0 < length name % 64 → rest_of tree name ≡ Some rest
    → child tree rest (take (length name % 64) name) ≡ Some node → node_of tree name ≡ Some node
node_front tree name rest node some h is =
    let test : (length name % 64 == 0) ≡ false = ne_eqb (length name % 64) 0 (λ e. omega arith) in
    ap (λ o. option_and_then (λ r. if length name % 64 == 0 then Some r else child tree r (take (length name % 64) name)) o) h
    ∙ ap (λ b. if b then Some rest else child tree rest (take (length name % 64) name)) test ∙ is

node_parts : (tree : Tree) (name : List ℕ) (node : ℕ) (b : Bool) → (length name % 64 == 0) ≡ b → node_of tree name ≡ Some node
    → (rest : ℕ) × (rest_of tree name ≡ Some rest) × ((if b then Some rest else child tree rest (take (length name % 64) name)) ≡ Some node)
node_parts tree name node b e h =
    let from = parent_of (λ r. if length name % 64 == 0 then Some r else child tree r (take (length name % 64) name)) (rest_of tree name) node h in
    (from.0, from.1, ap (λ t. if t then Some from.0 else child tree from.0 (take (length name % 64) name)) (sym e) ∙ from.2)

pub node_kept : (old new : Tree) → IsKept old new → (name : List ℕ) (node : ℕ) → node_of old name ≡ Some node → node_of new name ≡ Some node
node_kept old new kept name node h = by_test (length name % 64 == 0) refl
  where
    by_test : (b : Bool) → (length name % 64 == 0) ≡ b → node_of new name ≡ Some node
    by_test true e =
        let from = node_parts old name node true e h in
        node_full new name node (eqb-true (length name % 64) 0 e) (rest_kept old new kept name node (from.1 ∙ from.2))
    by_test false e =
        let from = node_parts old name node false e h in
        let some : 0 < length name % 64 = positive (length name % 64) (eqb-false (length name % 64) 0 e) in
        node_front new name from.0 node some (rest_kept old new kept name from.0 from.1)
        (kept from.0 (take (length name % 64) name) node from.2)

-- a node stands for its name
blocks_own : (tree : Tree) (strings : List ℕ) → AreOwn tree strings → (count : ℕ) (bytes : List ℕ) (node : ℕ) → length bytes ≡ 64 * count
    → node_of_blocks tree count bytes ≡ Some node → name_in strings node ≡ bytes
blocks_own tree strings own zero [] node long h = let none : 0 ≡ node = cc in ap (λ n. name_in strings n) (sym none)
blocks_own tree strings own zero (x ∷ xs) node long h =
    let some : length (x ∷ xs) ≡ suc (length xs) = refl in
    absurd (omega arith)
blocks_own tree strings own (suc count) bytes node long h =
    let from = parent_of (λ rest. child tree rest (take 64 bytes)) (node_of_blocks tree count (drop 64 bytes)) node h in
    own from.0 (take 64 bytes) node from.2
    ∙ ap (λ ys. take 64 bytes ++ ys)
    (blocks_own tree strings own count (drop 64 bytes) from.0 (omega (arith, length-drop 64 bytes)) from.1)
    ∙ rejoin 64 bytes

pub rest_own : (tree : Tree) (strings : List ℕ) → AreOwn tree strings → (name : List ℕ) (node : ℕ) → rest_of tree name ≡ Some node
    → name_in strings node ≡ drop (length name % 64) name
rest_own tree strings own name node h =
    blocks_own tree strings own (length name / 64) (drop (length name % 64) name) node (omega (arith, length-drop (length name % 64) name)) h

pub node_own : (tree : Tree) (strings : List ℕ) → AreOwn tree strings → (name : List ℕ) (node : ℕ) → node_of tree name ≡ Some node
    → name_in strings node ≡ name
node_own tree strings own name node h = by_test (length name % 64 == 0) refl
  where
    by_test : (b : Bool) → (length name % 64 == 0) ≡ b → name_in strings node ≡ name
    by_test true e =
        let from = node_parts tree name node true e h in
        let none : length name % 64 ≡ 0 = eqb-true (length name % 64) 0 e in
        rest_own tree strings own name node (from.1 ∙ from.2) ∙ ap (λ n. drop n name) none
    by_test false e =
        let from = node_parts tree name node false e h in
        own from.0 (take (length name % 64) name) node from.2
        ∙ ap (λ ys. take (length name % 64) name ++ ys) (rest_own tree strings own name from.0 from.1)
        ∙ rejoin (length name % 64) name

-- a block that is added has its own name
pub own_grown : (old new : Tree) (strings : List ℕ) (rest : ℕ) (block : List ℕ) (i node : ℕ) → AreOwn old strings → IsGrown old new rest block i node
    → name_in strings i ≡ block ++ name_in strings rest → AreOwn new strings
own_grown old new strings rest block i node own grown is r b n h =
    elim (grown.own r b n h) [
      | inl was ↦ own r b n was
      | inr new ↦
          ap (λ m. name_in strings m) new.2 ∙ is ∙ ap (λ ys. ys ++ name_in strings rest) (sym new.1)
          ∙ ap (λ m. b ++ name_in strings m) (sym new.0)
    ]

-- the nodes of the texts from an offset on, and of the one there
pub record AreBlocksFrom (tree : Tree) (strings : List ℕ) (nodes : BTreeMap ℕ ℕ) (at node count : ℕ) : Type 0 where
  pub upto : at ≤ length strings
  pub blocks : AreBlocks tree strings nodes at
  pub few : count ≡ length (text_at strings at) % 64
  pub here : rest_of tree (text_at strings at) ≡ Some node

pub blocks_begin : (tree : Tree) (strings : List ℕ) (nodes : BTreeMap ℕ ℕ) → tree.entries ≡ [] → nodes.entries ≡ []
    → AreBlocksFrom tree strings nodes (length strings) 0 0
blocks_begin tree strings nodes no_names no_nodes =
    let none : length (text_at strings (length strings)) ≡ 0 = omega (arith, text_upto strings (length strings)) in
    record {
      upto = omega arith;
      blocks = record {
        own = λ r b n h. absurd (nothing r b n h);
        each = λ offset some from full long. absurd (omega (arith, text_upto strings offset));
      };
      few = omega (arith, none);
      here = empty (text_at strings (length strings)) none;
    }
  where
    nothing : (r : ℕ) (b : List ℕ) (n : ℕ) → child tree r b ≡ Some n → ⊥
    nothing r b n h = let none : None ≡ Some n = rw no_names at h in absurd cc

    empty : (name : List ℕ) → length name ≡ 0 → rest_of tree name ≡ Some 0
    empty [] h = refl
    empty (x ∷ xs) h = let some : length (x ∷ xs) ≡ suc (length xs) = refl in absurd (omega arith)

-- before a 0 byte the text is empty
pub blocks_end : (tree : Tree) (strings : List ℕ) (nodes : BTreeMap ℕ ℕ) (at node count : ℕ) → 0 < at → get_or strings (at - 1) 0 ≡ 0
    → AreBlocksFrom tree strings nodes at node count → AreBlocksFrom tree strings nodes (at - 1) 0 0
blocks_end tree strings nodes at node count some is_zero so =
    let text : text_at strings (at - 1) ≡ [] = text_ends strings (at - 1) (omega (arith, so.upto)) is_zero in
    record {
      upto = omega (arith, so.upto);
      blocks = record {
        own = so.blocks.own;
        each = λ offset some_offset from full long. each offset some_offset from full long text;
      };
      few = sym (ap (λ xs. length xs % 64) text);
      here = ap (λ xs. rest_of tree xs) text;
    }
  where
    each : (offset : ℕ) → 0 < offset → at - 1 ≤ offset → length (text_at strings offset) % 64 ≡ 0 → 64 ≤ length (text_at strings offset)
        → text_at strings (at - 1) ≡ []
        → (n : ℕ) × (get nat_cmp nodes offset ≡ Some n) × (rest_of tree (text_at strings offset) ≡ Some n)
    each offset some_offset from full long text =
        elim (eq-or-lt_of_le from) [
          | inl same ↦
              let none : length (text_at strings offset) ≡ 0 = ap (λ n. length (text_at strings n)) (sym same) ∙ ap length text in
              absurd (omega arith)
          | inr later ↦ so.blocks.each offset some_offset (omega arith) full long
        ]

-- a byte more that fills no block
pub blocks_pass : (tree : Tree) (strings : List ℕ) (nodes : BTreeMap ℕ ℕ) (at node count : ℕ) → 0 < at → (get_or strings (at - 1) 0 ≡ 0 → ⊥)
    → count + 1 < 64 → AreBlocksFrom tree strings nodes at node count → AreBlocksFrom tree strings nodes (at - 1) node (count + 1)
blocks_pass tree strings nodes at node count some other less so =
    let next : at - 1 + 1 ≡ at = omega arith in
    let text : text_at strings (at - 1) ≡ get_or strings (at - 1) 0 ∷ text_at strings at =
    text_goes_on strings (at - 1) (omega (arith, so.upto)) other ∙ ap (λ n. get_or strings (at - 1) 0 ∷ text_at strings n) next in
    let long : length (text_at strings (at - 1)) ≡ suc (length (text_at strings at)) = ap length text in
    record {
      upto = omega (arith, so.upto);
      blocks = record {
        own = so.blocks.own;
        each = λ offset some_offset from full enough. each offset some_offset from full enough long;
      };
      few = omega (arith, long, so.few);
      here = ap (λ xs. rest_of tree xs) text ∙ same (get_or strings (at - 1) 0) (text_at strings at) (omega (arith, so.few)) ∙ so.here;
    }
  where
    same : (x : ℕ) (xs : List ℕ) → length xs % 64 + 1 < 64 → rest_of tree (x ∷ xs) ≡ rest_of tree xs
    same x xs h =
        let long : length (x ∷ xs) ≡ suc (length xs) = refl in
        let blocks : length (x ∷ xs) / 64 ≡ length xs / 64 = omega arith in
        let bytes : length (x ∷ xs) % 64 ≡ suc (length xs % 64) = omega arith in
        ap (λ n. node_of_blocks tree n (drop (length (x ∷ xs) % 64) (x ∷ xs))) blocks
        ∙ ap (λ n. node_of_blocks tree (length xs / 64) (drop n (x ∷ xs))) bytes

    each : (offset : ℕ) → 0 < offset → at - 1 ≤ offset → length (text_at strings offset) % 64 ≡ 0 → 64 ≤ length (text_at strings offset)
        → length (text_at strings (at - 1)) ≡ suc (length (text_at strings at))
        → (n : ℕ) × (get nat_cmp nodes offset ≡ Some n) × (rest_of tree (text_at strings offset) ≡ Some n)
    each offset some_offset from full enough long =
        elim (eq-or-lt_of_le from) [
          | inl same ↦
              let there : length (text_at strings offset) ≡ suc (length (text_at strings at)) =
              ap (λ n. length (text_at strings n)) (sym same) ∙ long in
              absurd (omega (arith, so.few, there))
          | inr later ↦ so.blocks.each offset some_offset (omega arith) full enough
        ]

-- a byte more that fills a block: where the block is, and what it stands for
pub block_inside : (tree : Tree) (strings : List ℕ) (nodes : BTreeMap ℕ ℕ) (at node count : ℕ) → 0 < at → (get_or strings (at - 1) 0 ≡ 0 → ⊥)
    → 64 ≤ count + 1 → AreBlocksFrom tree strings nodes at node count → at - 1 + 64 ≤ length strings
block_inside tree strings nodes at node count some other full so =
    let next : at - 1 + 1 ≡ at = omega arith in
    let text : text_at strings (at - 1) ≡ get_or strings (at - 1) 0 ∷ text_at strings (at - 1 + 1) =
    text_goes_on strings (at - 1) (omega (arith, so.upto)) other in
    let long : length (text_at strings (at - 1)) ≡ suc (length (text_at strings (at - 1 + 1))) = ap length text in
    let here : length (text_at strings (at - 1 + 1)) ≡ length (text_at strings at) = ap (λ n. length (text_at strings n)) next in
    omega (arith, so.few, long, here, text_upto strings (at - 1))

pub block_added : (old new : Tree) (strings block : List ℕ) (nodes more : BTreeMap ℕ ℕ) (at node count number : ℕ) → 1 < at
    → (get_or strings (at - 1) 0 ≡ 0 → ⊥) → 64 ≤ count + 1 → block ≡ take 64 (drop (at - 1) strings) → IsGrown old new node block (at - 1) number
    → ((offset : ℕ) → get nat_cmp more offset ≡ cond (is_eq (nat_cmp (at - 1) offset)) (Some number) (get nat_cmp nodes offset))
    → AreBlocksFrom old strings nodes at node count → AreBlocksFrom new strings more (at - 1) number 0
block_added old new strings block nodes more at node count number some other full block_is grown writes so = record {
  upto = omega (arith, so.upto);
  blocks = record {
    own = own_grown old new strings node block (at - 1) number so.blocks.own grown named;
    each = λ offset some_offset from aligned enough. each offset some_offset (at - 1 == offset) refl from aligned enough;
  };
  few = omega (arith, long, so.few);
  here = here;
}
  where
    text : text_at strings (at - 1) ≡ get_or strings (at - 1) 0 ∷ text_at strings at
    text =
        let next : at - 1 + 1 ≡ at = omega arith in
        text_goes_on strings (at - 1) (omega (arith, so.upto)) other ∙ ap (λ n. get_or strings (at - 1) 0 ∷ text_at strings n) next

    long : length (text_at strings (at - 1)) ≡ suc (length (text_at strings at))
    long = ap length text

    bytes : block ≡ take 64 (text_at strings (at - 1))
    bytes = block_is ∙ text_front strings (at - 1) 64 (omega (arith, long, so.few))

    -- what is left after the block are the whole blocks of the text after it
    left : drop 64 (text_at strings (at - 1)) ≡ drop (length (text_at strings at) % 64) (text_at strings at)
    left =
        let count_is : 63 ≡ length (text_at strings at) % 64 = omega (arith, so.few) in
        ap (λ xs. drop 64 xs) text ∙ ap (λ n. drop n (text_at strings at)) count_is

    named : name_in strings (at - 1) ≡ block ++ name_in strings node
    named =
        let test : (at - 1 == 0) ≡ false = ne_eqb (at - 1) 0 (λ e. omega arith) in
        let itself : name_in strings (at - 1) ≡ text_at strings (at - 1) = rw test refl in
        itself ∙ sym (rejoin 64 (text_at strings (at - 1)))
        ∙ ap (λ ys. take 64 (text_at strings (at - 1)) ++ ys) (left ∙ sym (rest_own old strings so.blocks.own (text_at strings at) node so.here))
        ∙ ap (λ ys. ys ++ name_in strings node) (sym bytes)

    here : rest_of new (text_at strings (at - 1)) ≡ Some number
    here =
        let blocks : length (text_at strings (at - 1)) / 64 ≡ suc (length (text_at strings at) / 64) = omega (arith, long, so.few) in
        let none : length (text_at strings (at - 1)) % 64 ≡ 0 = omega (arith, long, so.few) in
        ap (λ n. node_of_blocks new n (drop (length (text_at strings (at - 1)) % 64) (text_at strings (at - 1)))) blocks
        ∙ ap (λ n. node_of_blocks new (suc (length (text_at strings at) / 64)) (drop n (text_at strings (at - 1)))) none
        ∙ ap (λ ys. option_and_then (λ rest. child new rest (take 64 (text_at strings (at - 1)))) (node_of_blocks new (length (text_at strings at) / 64) ys)) left
        ∙ ap (λ o. option_and_then (λ rest. child new rest (take 64 (text_at strings (at - 1)))) o)
        (rest_kept old new grown.kept (text_at strings at) node so.here)
        ∙ ap (λ b. child new node b) (sym bytes) ∙ grown.here

    each : (offset : ℕ) → 0 < offset → (b : Bool) → (at - 1 == offset) ≡ b → at - 1 ≤ offset → length (text_at strings offset) % 64 ≡ 0
        → 64 ≤ length (text_at strings offset)
        → (n : ℕ) × (get nat_cmp more offset ≡ Some n) × (rest_of new (text_at strings offset) ≡ Some n)
    each offset some_offset b e from aligned enough = cases b e
      where
        now : (b : Bool) → (at - 1 == offset) ≡ b → get nat_cmp more offset ≡ cond b (Some number) (get nat_cmp nodes offset)
        now b e =
            writes offset
            ∙ ap (λ t. cond t (Some number) (get nat_cmp nodes offset))
            (same_test (at - 1) offset (nat_cmp (at - 1) offset) (ranks (at - 1) offset) ∙ e)

        cases : (b : Bool) → (at - 1 == offset) ≡ b
            → (n : ℕ) × (get nat_cmp more offset ≡ Some n) × (rest_of new (text_at strings offset) ≡ Some n)
        cases true e =
            let same : at - 1 ≡ offset = eqb-true (at - 1) offset e in
            (number, now true e, ap (λ n. rest_of new (text_at strings n)) (sym same) ∙ here)
        cases false e =
            let apart : at - 1 ≢ offset = eqb-false (at - 1) offset e in
            let later : at ≤ offset =
            elim (eq-or-lt_of_le from) [
              | inl same ↦ absurd (apart same)
              | inr above ↦ omega arith
            ] in
            let was = so.blocks.each offset some_offset later aligned enough in
            (was.0, now false e ∙ was.1, rest_kept old new grown.kept (text_at strings offset) was.0 was.2)

pub blocks_done : (tree : Tree) (strings : List ℕ) (nodes : BTreeMap ℕ ℕ) (at node count : ℕ) → at ≤ 1 → AreBlocksFrom tree strings nodes at node count
    → AreBlocks tree strings nodes 1
blocks_done tree strings nodes at node count end so =
    record { own = so.blocks.own; each = λ offset some from full long. so.blocks.each offset some (omega arith) full long }

-- the whole blocks of a name have the node that is kept for the offset at which they begin
pub rest_there : (tree : Tree) (strings : List ℕ) (nodes : BTreeMap ℕ ℕ) (name : List ℕ) (offset : ℕ) → AreBlocks tree strings nodes 1
    → name ≡ name_in strings offset → 64 ≤ length name
    → (node : ℕ) × (get nat_cmp nodes (offset + length name % 64) ≡ Some node) × (rest_of tree name ≡ Some node)
rest_there tree strings nodes name offset so is long = by_test (offset == 0) refl
  where
    by_test : (b : Bool) → (offset == 0) ≡ b
        → (node : ℕ) × (get nat_cmp nodes (offset + length name % 64) ≡ Some node) × (rest_of tree name ≡ Some node)
    by_test true e =
        let empty : name ≡ [] = is ∙ (rw e refl) in
        let none : length name ≡ 0 = ap length empty in
        absurd (omega arith)
    by_test false e =
        let some : 0 < offset = positive offset (eqb-false offset 0 e) in
        let text : name ≡ text_at strings offset = is ∙ (rw e refl) in
        let long_is : length name ≡ length (text_at strings offset) = ap length text in
        let left : text_at strings (offset + length name % 64) ≡ drop (length name % 64) name =
        text_inside strings offset (length name % 64) (omega (arith, long_is)) ∙ ap (λ xs. drop (length name % 64) xs) (sym text) in
        let left_long : length (text_at strings (offset + length name % 64)) ≡ length name - length name % 64 =
        ap length left ∙ length-drop (length name % 64) name in
        let there = so.each (offset + length name % 64) (omega arith) (omega arith) (omega (arith, left_long)) (omega (arith, left_long)) in
        let blocks : length (text_at strings (offset + length name % 64)) / 64 ≡ length name / 64 = omega (arith, left_long) in
        let none : length (text_at strings (offset + length name % 64)) % 64 ≡ 0 = omega (arith, left_long) in (
          there.0,
          there.1,
          sym
              (ap (λ n. node_of_blocks tree n (drop (length (text_at strings (offset + length name % 64)) % 64) (text_at strings (offset + length name % 64)))) blocks
              ∙ ap (λ n. node_of_blocks tree (length name / 64) (drop n (text_at strings (offset + length name % 64)))) none
              ∙ ap (λ xs. node_of_blocks tree (length name / 64) xs) left)
              ∙ there.2,
        )

pub rest_known : (tree : Tree) (strings : List ℕ) (nodes : BTreeMap ℕ ℕ) (name : List ℕ) (offset rest : ℕ) → AreBlocks tree strings nodes 1
    → name ≡ name_in strings offset → 64 ≤ length name → rest ≡ unwrap_or (get nat_cmp nodes (offset + length name % 64)) 0
    → rest_of tree name ≡ Some rest
rest_known tree strings nodes name offset rest so is long rest_is =
    let there = rest_there tree strings nodes name offset so is long in
    there.2 ∙ ap Some (sym (rest_is ∙ ap (λ o. unwrap_or o 0) there.1))

pub rest_short : (tree : Tree) (name : List ℕ) → length name < 64 → rest_of tree name ≡ Some 0
rest_short tree name short =
    let none : length name / 64 ≡ 0 = omega arith in
    ap (λ n. node_of_blocks tree n (drop (length name % 64) name)) none

-- a name of whole blocks is there
pub name_full : (tree : Tree) (strings name : List ℕ) (node : ℕ) → AreOwn tree strings → length name % 64 ≡ 0 → rest_of tree name ≡ Some node
    → IsNamed tree tree strings name node
name_full tree strings name node own full h = record { kept = λ r b n is. is; own = own; here = node_full tree name node full h }

-- a name is added by its first bytes
pub name_added : (old new : Tree) (strings name : List ℕ) (offset rest node : ℕ) → AreOwn old strings → 0 < length name % 64
    → name ≡ name_in strings offset → rest_of old name ≡ Some rest → IsGrown old new rest (take (length name % 64) name) offset node
    → IsNamed old new strings name node
name_added old new strings name offset rest node own some is h grown = record {
  kept = grown.kept;
  own =
      own_grown old new strings rest (take (length name % 64) name) offset node own grown
      (sym is ∙ sym (rejoin (length name % 64) name)
      ∙ ap (λ ys. take (length name % 64) name ++ ys) (sym (rest_own old strings own name rest h)));
  here = node_front new name rest node some (rest_kept old new grown.kept name rest h) grown.here;
}

-- names with nodes, from the first symbol on
pub record AreNumberedUpto (tree : Tree) (symbols : List Symbol) (strings numbers : List ℕ) (nodes : BTreeMap ℕ ℕ) (i : ℕ) : Type 0 where
  pub count : length numbers ≡ i
  pub blocks : AreBlocks tree strings nodes 1
  pub each : (k : ℕ) (d : Symbol) → k < length numbers → node_of tree (get_or symbols k d).name.now ≡ Some (get_or numbers k 0)

pub blocks_stay : (old new : Tree) (strings : List ℕ) (nodes : BTreeMap ℕ ℕ) → AreBlocks old strings nodes 1 → IsKept old new → AreOwn new strings
    → AreBlocks new strings nodes 1
blocks_stay old new strings nodes so kept own = record {
  own = own;
  each =
      λ offset some from full long.
      let was = so.each offset some from full long in
      (was.0, was.1, rest_kept old new kept (text_at strings offset) was.0 was.2);
}

pub numbers_begin : (tree : Tree) (symbols : List Symbol) (strings numbers : List ℕ) (nodes : BTreeMap ℕ ℕ) → numbers ≡ []
    → AreBlocks tree strings nodes 1 → AreNumberedUpto tree symbols strings numbers nodes 0
numbers_begin tree symbols strings numbers nodes none so =
    let count : length numbers ≡ 0 = ap length none in
    record { count = count; blocks = so; each = λ k d h. absurd (omega (arith, count)) }

pub number_step : (old new : Tree) (symbols : List Symbol) (strings numbers : List ℕ) (nodes : BTreeMap ℕ ℕ) (i number : ℕ) (d : Symbol)
    → i < length symbols → AreNumberedUpto old symbols strings numbers nodes i → IsNamed old new strings (get_or symbols i d).name.now number
    → AreNumberedUpto new symbols strings (numbers ++ number ∷ []) nodes (i + 1)
number_step old new symbols strings numbers nodes i number d h so one = record {
  count = long ∙ omega (arith, so.count);
  blocks = blocks_stay old new strings nodes so.blocks one.kept one.own;
  each =
      λ k e w.
      elim (eq-or-lt_of_le (upto k w)) [
        | inl same ↦
            subst (λ n. node_of new (get_or symbols n e).name.now ≡ Some (get_or (numbers ++ number ∷ []) n 0)) (sym same)
            (ap (λ (s : Symbol). node_of new s.name.now) (get_or_default symbols i e d h) ∙ one.here ∙ ap Some (sym last))
        | inr before ↦
            let less : k < length numbers = omega (arith, so.count) in
            node_kept old new one.kept (get_or symbols k e).name.now (get_or numbers k 0) (so.each k e less)
            ∙ ap Some (sym (get_or-append numbers (number ∷ []) 0 k less))
      ];
}
  where
    long : length (numbers ++ number ∷ []) ≡ length numbers + 1
    long = length-append numbers (number ∷ [])

    upto : (k : ℕ) → k < length (numbers ++ number ∷ []) → k ≤ i
    upto k w = omega (arith, long, so.count)

    last : get_or (numbers ++ number ∷ []) i 0 ≡ number
    last = ap (λ n. get_or (numbers ++ number ∷ []) n 0) (sym so.count) ∙ get_or-append_seam numbers number [] 0

pub numbered : (tree : Tree) (symbols : List Symbol) (strings numbers : List ℕ) (nodes : BTreeMap ℕ ℕ) (i : ℕ)
    → AreNumberedUpto tree symbols strings numbers nodes i → AreNumbered tree symbols numbers
numbered tree symbols strings numbers nodes i so = record {
  each = so.each;
  once =
      λ name other node h o.
      sym (node_own tree strings so.blocks.own name node h) ∙ node_own tree strings so.blocks.own other node o;
}

-- the names of symbols and their offsets
placed_count : (symbols : List Symbol) (strings offsets : List ℕ) → ArePlaced symbols strings offsets → length offsets ≡ length symbols
placed_count symbols strings offsets placed =
    sym (length-map offsets (name_in strings)) ∙ ap length placed ∙ length-map symbols (λ s. s.name.now)

pub offset_inside : (symbols : List Symbol) (strings offsets : List ℕ) (i : ℕ) → ArePlaced symbols strings offsets → i < length symbols → i < length offsets
offset_inside symbols strings offsets i placed h = omega (arith, placed_count symbols strings offsets placed)

pub name_at : (symbols : List Symbol) (strings offsets : List ℕ) (i e : ℕ) (d : Symbol) → ArePlaced symbols strings offsets → i < length symbols
    → (get_or symbols i d).name.now ≡ name_in strings (get_or offsets i e)
name_at symbols strings offsets i e d placed h =
    sym (get_or-map (λ s. s.name.now) symbols i d [] h) ∙ ap (λ xs. get_or xs i []) (sym placed)
    ∙ get_or-map (name_in strings) offsets i e [] (offset_inside symbols strings offsets i placed h)

-- the steps of a look-up
pub record IsReached (tree : Tree) (name : List ℕ) (at node : ℕ) : Type 0 where
  pub count : ℕ
  pub left : at + 64 * count ≡ length name
  pub here : node_of_blocks tree count (drop at name) ≡ Some node

pub reach_begins : (tree : Tree) (name : List ℕ) → IsReached tree name (length name) 0
reach_begins tree name = record { count = 0; left = omega arith; here = refl }

block_here : (tree : Tree) (name : List ℕ) (at count node : ℕ) → 64 ≤ at → node_of_blocks tree count (drop at name) ≡ Some node
    → node_of_blocks tree (suc count) (drop (at - 64) name) ≡ child tree node (take 64 (drop (at - 64) name))
block_here tree name at count node h is =
    let next : at - 64 + 64 ≡ at = omega arith in
    ap (λ xs. option_and_then (λ rest. child tree rest (take 64 (drop (at - 64) name))) (node_of_blocks tree count xs))
    (drop_twice (at - 64) 64 name ∙ ap (λ n. drop n name) next)
    ∙ ap (λ o. option_and_then (λ rest. child tree rest (take 64 (drop (at - 64) name))) o) is

pub reach_step : (tree : Tree) (name block : List ℕ) (at node next : ℕ) → 64 ≤ at → IsReached tree name at node
    → block ≡ take 64 (drop (at - 64) name) → child tree node block ≡ Some next → IsReached tree name (at - 64) next
reach_step tree name block at node next h so block_is there = record {
  count = suc so.count;
  left = omega (arith, so.left);
  here = block_here tree name at so.count node h so.here ∙ ap (λ b. child tree node b) (sym block_is) ∙ there;
}

none_stays : (tree : Tree) (name : List ℕ) (at count more : ℕ) → node_of_blocks tree count (drop (at + 64 * more) name) ≡ None
    → node_of_blocks tree (more + count) (drop at name) ≡ None
none_stays tree name at count zero h =
    let same : 0 + count ≡ count = omega arith in
    let there : at ≡ at + 64 * 0 = omega arith in
    ap (λ n. node_of_blocks tree n (drop at name)) same ∙ ap (λ n. node_of_blocks tree count (drop n name)) there ∙ h
none_stays tree name at count (suc more) h =
    let same : suc more + count ≡ suc (more + count) = omega arith in
    let there : at + 64 + 64 * more ≡ at + 64 * suc more = omega arith in
    ap (λ n. node_of_blocks tree n (drop at name)) same
    ∙ ap (λ xs. option_and_then (λ rest. child tree rest (take 64 (drop at name))) (node_of_blocks tree (more + count) xs)) (drop_twice at 64 name)
    ∙ ap (λ o. option_and_then (λ rest. child tree rest (take 64 (drop at name))) o)
    (none_stays tree name (at + 64) count more (ap (λ n. node_of_blocks tree count (drop n name)) there ∙ h))

-- a block that isn't there
pub reach_ends : (tree : Tree) (name block : List ℕ) (at node : ℕ) → 64 ≤ at → IsReached tree name at node → block ≡ take 64 (drop (at - 64) name)
    → child tree node block ≡ None → node_of tree name ≡ None
reach_ends tree name block at node h so block_is none =
    let first : ℕ = length name % 64 in
    let more : ℕ = (at - 64) / 64 in
    let start : length name % 64 + 64 * ((at - 64) / 64) ≡ at - 64 = omega (arith, so.left) in
    let all : (at - 64) / 64 + suc so.count ≡ length name / 64 = omega (arith, so.left) in
    let stops : node_of_blocks tree (suc so.count) (drop (at - 64) name) ≡ None =
    block_here tree name at so.count node h so.here ∙ ap (λ b. child tree node b) (sym block_is) ∙ none in
    ap (λ o. option_and_then (λ rest. if length name % 64 == 0 then Some rest else child tree rest (take (length name % 64) name)) o)
    (ap (λ n. node_of_blocks tree n (drop (length name % 64) name)) (sym all)
    ∙ none_stays tree name (length name % 64) (suc so.count) ((at - 64) / 64)
    (ap (λ n. node_of_blocks tree (suc so.count) (drop n name)) start ∙ stops))

-- all whole blocks are read
reach_rest : (tree : Tree) (name : List ℕ) (at node : ℕ) → at < 64 → IsReached tree name at node → rest_of tree name ≡ Some node
reach_rest tree name at node h so =
    let first : length name % 64 ≡ at = omega (arith, so.left) in
    let all : length name / 64 ≡ so.count = omega (arith, so.left) in
    ap (λ n. node_of_blocks tree n (drop (length name % 64) name)) all ∙ ap (λ n. node_of_blocks tree so.count (drop n name)) first ∙ so.here

pub reach_full : (tree : Tree) (name : List ℕ) (at node : ℕ) → at ≡ 0 → IsReached tree name at node → node_of tree name ≡ Some node
reach_full tree name at node none so = node_full tree name node (omega (arith, so.left)) (reach_rest tree name at node (omega arith) so)

pub reach_front : (tree : Tree) (name : List ℕ) (at node : ℕ) → 0 < at → at < 64 → IsReached tree name at node
    → node_of tree name ≡ child tree node (take at name)
reach_front tree name at node some h so =
    let first : length name % 64 ≡ at = omega (arith, so.left) in
    let test : (length name % 64 == 0) ≡ false = ne_eqb (length name % 64) 0 (λ e. omega arith) in
    ap (λ o. option_and_then (λ r. if length name % 64 == 0 then Some r else child tree r (take (length name % 64) name)) o)
    (reach_rest tree name at node h so)
    ∙ ap (λ b. if b then Some node else child tree node (take (length name % 64) name)) test
    ∙ ap (λ n. child tree node (take n name)) first
