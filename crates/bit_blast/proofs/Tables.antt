-- Tables of nodes and their bits as tables of terms.
use Rattle.std.proofs.Common.{◌≡◌, ℕ, zero, suc, ◌+◌, ◌<◌, Bool, true, false, List, [], ◌∷◌, ◌++◌, map, length, Option, Some, None, refl, sym, ap, ◌∙◌, subst, arith, position, append_assoc, append-nil, length-append, get_or, ◌||◌, cond, Vec}
use Rattle.std.specs.Global.{Global}
use Rattle.std.specs.Prelude.{IfSome, IfNone, option_map, slice_get, if◌then◌else◌, is_some}
use Rattle.std.specs.List.{find, IsDistinct, list_any}
use Rattle.std.specs.Map.{keys_of, lookup}
use Rattle.std.proofs.lemmas.List.Quantifiers.{position-Some}
use Rattle.indexmap.proofs.MapLemmas.{Missing-position}
use Rattle.std.proofs.lemmas.List.{map-append, length-map}
use Rattle.std.proofs.lemmas.Option.{same_Some, slice_get_within, slice_get-get_or, slice_get-map}
use Rattle.std.proofs.lemmas.Map.Keys.{IsDistinct-push}
use Rattle.clause_check_spec.specs.declared.Literal.{Literal}
use Rattle.term_core_spec.specs.Term.{Term}
use Rattle.term_core_spec.specs.Same.{same_term}
use Rattle.term_core_spec.proofs.Same.{same_is, same_itself}
use Rattle.term_bank.specs.declared.node.TermNode.{TermNode}
use Rattle.term_bank.specs.contracts.node.TermNodePartialEq.TheImpl as node_test
use Rattle.term_bank.specs.contracts.node.TermNodeEq.TheImpl.Laws as node_laws
use Rattle.term_bank.specs.Nodes.{IsNode, build, Holds, AreDistinct}
use Rattle.term_bank.specs.Trees.{grown, AreNodes}
use Rattle.term_bank.proofs.Growth.{grown-append, AreNodes-push, trees_distinct, slice_get-front, slice_get-seam, node_is_at, IsNodeAt}
use Rattle.term_bank.proofs.Same.{itself, node-same}
use Rattle.bit_blast_spec.specs.Circuits.{Bits}
use Rattle.bit_blast_spec.specs.Goal.{Table, is_there, bits_in, found_bits}
use Rattle.bit_blast.specs.Terms.{terms_in}
use Rattle.bit_blast.specs.Entered.{Entry, entered, nodes_in, IsTable}

-- ---- what is there

abbrev entry_test : Term → Term × Bits → Bool
entry_test term entry = same_term term entry.0

some_or : (b : Bool) (entry : Term × Bits) (found : Option (Term × Bits)) → b ≡ true → is_some (if b then Some entry else found) ≡ true
some_or true entry found e = refl
some_or false entry found e = absurd (cc)

-- a term at an index is there
pub there_at : (table : Table) (term : Term) (index : ℕ) → Holds (terms_in table) index term → is_there term table ≡ true
there_at [] term index h = absurd (cc)
there_at (entry ∷ table) term zero h =
    let same : entry.0 ≡ term = same_Some entry.0 term h in
    some_or (same_term term entry.0) entry (find (entry_test term) table) (subst (λ t. same_term term t ≡ true) (sym same) (same_itself term))
there_at (entry ∷ table) term (suc index) h = or_some (same_term term entry.0) (there_at table term index h)
  where
    or_some : (b : Bool) → is_some (find (entry_test term) table) ≡ true → is_some (if b then Some entry else find (entry_test term) table) ≡ true
    or_some true e = refl
    or_some false e = e

-- one without an index is not
pub nowhere : (table : Table) (term : Term) → ((index : ℕ) → Holds (terms_in table) index term → ⊥) → is_there term table ≡ false
nowhere [] term none = refl
nowhere (entry ∷ table) term none = by (same_term term entry.0) refl (nowhere table term (λ index h. none (suc index) h))
  where
    by : (b : Bool) → same_term term entry.0 ≡ b → is_there term table ≡ false → is_some (if b then Some entry else find (entry_test term) table) ≡ false
    by true e later = absurd (none 0 (ap Some (sym (same_is term entry.0 e))))
    by false e later = later

tail_distinct : (term : Term) (terms : List Term) → AreDistinct (term ∷ terms) → AreDistinct terms
tail_distinct term terms distinct i j t hi hj = let e = distinct (suc i) (suc j) t hi hj in omega arith

-- the bits of a term at an index
pub bits_at : (table : Table) (index : ℕ) (term : Term) (bits : Bits) → AreDistinct (terms_in table) → Holds (terms_in table) index term
    → slice_get (map (λ (entry : Term × Bits). entry.1) table) index ≡ Some bits → bits_in table term ≡ bits
bits_at [] index term bits distinct h e = absurd (cc)
bits_at (entry ∷ table) index term bits distinct h e =
    by (same_term term entry.0) refl index h e (λ i hi ei. bits_at table i term bits (tail_distinct entry.0 (terms_in table) distinct) hi ei)
  where
    by : (b : Bool) → same_term term entry.0 ≡ b → (i : ℕ) → Holds (terms_in (entry ∷ table)) i term → slice_get (map (λ (entry : Term × Bits). entry.1) (entry ∷ table)) i ≡ Some bits
        → ((j : ℕ) → Holds (terms_in table) j term → slice_get (map (λ (entry : Term × Bits). entry.1) table) j ≡ Some bits → bits_in table term ≡ bits)
        → found_bits (if b then Some entry else find (entry_test term) table) ≡ bits
    by true same zero hi ei later = same_Some entry.1 bits ei
    by true same (suc i) hi ei later =
        let first : Holds (terms_in (entry ∷ table)) 0 term = ap Some (sym (same_is term entry.0 same)) in
        let apart : 0 ≡ suc i = distinct 0 (suc i) term first hi in
        absurd (omega arith)
    by false same zero hi ei later =
        let here : entry.0 ≡ term = same_Some entry.0 term hi in
        let itself : same_term term entry.0 ≡ true = subst (λ t. same_term term t ≡ true) (sym here) (same_itself term) in
        absurd (cc)
    by false same (suc i) hi ei later = later i hi ei

-- ---- entries

pub terms_entered : (table : Table) (entries : List Entry) → terms_in (entered table entries) ≡ grown (terms_in table) (nodes_in entries)
terms_entered table [] = refl
terms_entered table (entry ∷ rest) =
    terms_entered (table ++ (build (terms_in table) entry.0, entry.1.items) ∷ []) rest
    ∙ ap (λ t. grown t (nodes_in rest)) (map-append (λ (e : Term × Bits). e.0) table ((build (terms_in table) entry.0, entry.1.items) ∷ []))

pub bits_entered : (table : Table) (entries : List Entry)
    → map (λ (e : Term × Bits). e.1) (entered table entries) ≡ map (λ (e : Term × Bits). e.1) table ++ map (λ (e : Entry). e.1.items) entries
bits_entered table [] = sym (append-nil (map (λ (e : Term × Bits). e.1) table))
bits_entered table (entry ∷ rest) =
    bits_entered (table ++ (build (terms_in table) entry.0, entry.1.items) ∷ []) rest
    ∙ ap (λ prefix. prefix ++ map (λ (e : Entry). e.1.items) rest) (map-append (λ (e : Term × Bits). e.1) table ((build (terms_in table) entry.0, entry.1.items) ∷ []))
    ∙ append_assoc (map (λ (e : Term × Bits). e.1) table) (entry.1.items ∷ []) (map (λ (e : Entry). e.1.items) rest)

pub entered-append : (table : Table) (entries more : List Entry) → entered table (entries ++ more) ≡ entered (entered table entries) more
entered-append table [] more = refl
entered-append table (entry ∷ rest) more = entered-append (table ++ (build (terms_in table) entry.0, entry.1.items) ∷ []) rest more

pub length-entered : (table : Table) (entries : List Entry) → length (entered table entries) ≡ length table + length entries
length-entered table [] = omega arith
length-entered table (entry ∷ rest) =
    omega (arith, length-entered (table ++ (build (terms_in table) entry.0, entry.1.items) ∷ []) rest, length-append table ((build (terms_in table) entry.0, entry.1.items) ∷ []))

-- ---- the table of all entries

module _ (entries : List Entry) (sound : IsTable entries) where
  pub table_distinct : AreDistinct (terms_in (entered [] entries))
  table_distinct = subst AreDistinct (sym (terms_entered [] entries)) sound.distinct

  -- a node at an index builds the term there
  pub node_holds : (index : ℕ) (node : TermNode) → slice_get (nodes_in entries) index ≡ Some node → IsNodeAt (terms_in (entered [] entries)) index node
  node_holds index node e = subst (λ t. IsNodeAt t index node) (sym (terms_entered [] entries)) (node_is_at [] (nodes_in entries) index index node sound.nodes e (omega arith))

  pub bits_held : (index : ℕ) (bits : Bits) (term : Term) → slice_get (map (λ (e : Entry). e.1.items) entries) index ≡ Some bits
      → Holds (terms_in (entered [] entries)) index term → bits_in (entered [] entries) term ≡ bits
  bits_held index bits term e h = bits_at (entered [] entries) index term bits table_distinct h (ap (λ list. slice_get list index) (bits_entered [] entries) ∙ e)

-- ---- a node that is looked for

none_equal : {K X : Type 0} (test : K → Bool) (entries : List (K × X)) → lookup test entries ≡ None → list_any test (keys_of entries) ≡ false
none_equal test [] e = refl
none_equal test (entry ∷ rest) e = by (test entry.0) refl e (none_equal test rest)
  where
    by : (b : Bool) → test entry.0 ≡ b → cond b (Some entry.1) (lookup test rest) ≡ None → (lookup test rest ≡ None → list_any test (keys_of rest) ≡ false)
        → b || list_any test (keys_of rest) ≡ false
    by true same found later = absurd (cc)
    by false same found later = later found

abbrev is_node : TermNode → TermNode → Bool
is_node node other = node_test.ghosts.eq node other

module _ (entries : List Entry) (sound : IsTable entries) (node : TermNode) where
  trees : List Term
  trees = terms_in (entered [] entries)

  -- where it is found, its term is
  pub node_found : (index : ℕ) → position (is_node node) (nodes_in entries) ≡ Some index → Holds (terms_in (entered [] entries)) index (build (terms_in (entered [] entries)) node)
  node_found index e =
      let some = position-Some (is_node node) (nodes_in entries) index node e in
      let there : slice_get (nodes_in entries) index ≡ Some (get_or (nodes_in entries) index node) = slice_get-get_or (nodes_in entries) index node some.0 in
      let same : node ≡ get_or (nodes_in entries) index node = node-same node (get_or (nodes_in entries) index node) some.1 in
      (node_holds entries sound index node (there ∙ ap Some (sym same))).holds

  -- where it is not, its term isn't there
  pub node_nowhere : IsDistinct node_test.ghosts.eq (nodes_in entries) → position (is_node node) (nodes_in entries) ≡ None
      → IsNode (length (entered [] entries)) node → is_there (build (terms_in (entered [] entries)) node) (entered [] entries) ≡ false
  node_nowhere distinct none fits =
      nowhere (entered [] entries) (build (terms_in (entered [] entries)) node) (λ index h. elsewhere index h)
    where
      apart : IsDistinct node_test.ghosts.eq (nodes_in entries ++ node ∷ [])
      apart = IsDistinct-push node_laws.lawful.laws (nodes_in entries) node distinct (none_equal (is_node node) entries (Missing-position (is_node node) entries none).value)

      count : length (entered [] entries) ≡ 0 + length (nodes_in entries)
      count = omega (arith, length-entered [] entries, length-map entries (λ (e : Entry). e.0))

      indexed : AreNodes 0 (nodes_in entries ++ node ∷ [])
      indexed = AreNodes-push 0 (nodes_in entries) node sound.nodes (subst (λ n. IsNode n node) count fits)

      all : AreDistinct (terms_in (entered [] entries) ++ build (terms_in (entered [] entries)) node ∷ [])
      all = subst AreDistinct
          (grown-append [] (nodes_in entries) (node ∷ []) ∙ ap (λ t. t ++ build t node ∷ []) (sym (terms_entered [] entries)))
          (trees_distinct (nodes_in entries ++ node ∷ []) indexed node_test.ghosts.eq itself apart)

      elsewhere : (index : ℕ) → Holds (terms_in (entered [] entries)) index (build (terms_in (entered [] entries)) node) → ⊥
      elsewhere index h =
          let list = terms_in (entered [] entries) in
          let term = build (terms_in (entered [] entries)) node in
          let within : index < length (terms_in (entered [] entries)) = slice_get_within (terms_in (entered [] entries)) index (build (terms_in (entered [] entries)) node) h in
          let e : index ≡ length (terms_in (entered [] entries)) =
          all index (length (terms_in (entered [] entries))) (build (terms_in (entered [] entries)) node)
          (slice_get-front (terms_in (entered [] entries)) (build (terms_in (entered [] entries)) node ∷ []) index (build (terms_in (entered [] entries)) node) h)
          (slice_get-seam (terms_in (entered [] entries)) [] (build (terms_in (entered [] entries)) node)) in
          omega arith

  -- a node whose term isn't there has no entry
  pub node_new : is_there (build (terms_in (entered [] entries)) node) (entered [] entries) ≡ false → lookup (is_node node) entries ≡ None
  node_new absent = by (position (is_node node) (nodes_in entries)) refl
    where
      by : (r : Option ℕ) → position (is_node node) (nodes_in entries) ≡ r → lookup (is_node node) entries ≡ None
      by None e = (Missing-position (is_node node) entries e).value
      by (Some index) e =
          let there : is_there (build (terms_in (entered [] entries)) node) (entered [] entries) ≡ true =
          there_at (entered [] entries) (build (terms_in (entered [] entries)) node) index (node_found index e) in
          absurd (cc)

  -- one more entry
  pub table_more : (bits : Vec Literal Global) → IsDistinct node_test.ghosts.eq (nodes_in (entries ++ (node, bits) ∷ []))
      → IsNode (length (entered [] entries)) node → IsTable (entries ++ (node, bits) ∷ [])
  table_more bits distinct fits =
      let names : nodes_in (entries ++ (node, bits) ∷ []) ≡ nodes_in entries ++ node ∷ [] = map-append (λ (e : Entry). e.0) entries ((node, bits) ∷ []) in
      let count : length (entered [] entries) ≡ 0 + length (nodes_in entries) = omega (arith, length-entered [] entries, length-map entries (λ (e : Entry). e.0)) in
      let indexed : AreNodes 0 (nodes_in (entries ++ (node, bits) ∷ [])) =
      subst (AreNodes 0) (sym names) (AreNodes-push 0 (nodes_in entries) node sound.nodes (subst (λ n. IsNode n node) count fits)) in
      record { nodes = indexed; distinct = trees_distinct (nodes_in (entries ++ (node, bits) ∷ [])) indexed node_test.ghosts.eq itself distinct }

  pub find_found : (found : Option ℕ) → found ≡ position (is_node node) (nodes_in entries)
      → IfSome found (λ index. Holds (terms_in (entered [] entries)) index (build (terms_in (entered [] entries)) node))
  find_found None e = tt
  find_found (Some index) e = node_found index (sym e)

  pub find_absent : (found : Option ℕ) → found ≡ position (is_node node) (nodes_in entries) → IsDistinct node_test.ghosts.eq (nodes_in entries)
      → IsNode (length (entered [] entries)) node → IfNone found (is_there (build (terms_in (entered [] entries)) node) (entered [] entries) ≡ false)
  find_absent None e distinct fits = node_nowhere distinct (sym e) fits
  find_absent (Some index) e distinct fits = tt

pub items_at : (entries : List Entry) (index : ℕ) (bits : Vec Literal Global) → slice_get (map (λ (e : Entry). e.1) entries) index ≡ Some bits
    → slice_get (map (λ (e : Entry). e.1.items) entries) index ≡ Some bits.items
items_at entries index bits e =
    slice_get-map (λ (e : Entry). e.1.items) entries index ∙ by (slice_get entries index) (sym (slice_get-map (λ (e : Entry). e.1) entries index) ∙ e)
  where
    by : (found : Option Entry) → option_map (λ (e : Entry). e.1) found ≡ Some bits → option_map (λ (e : Entry). e.1.items) found ≡ Some bits.items
    by None same = absurd (cc)
    by (Some entry) same = ap (λ (v : Vec Literal Global). Some v.items) (same_Some entry.1 bits same)
