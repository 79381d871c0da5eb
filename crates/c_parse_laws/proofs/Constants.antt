-- Enumeration constants keep roles.
use Rattle.std.proofs.Common.{Option, ◌≡◌, ℕ, false, List, [], ◌∷◌, Some, None, Bool, not, ap, ◌∙◌, refl, ◌++◌, sym, subst, true, IsTrue, ◌||◌, append-nil, append_assoc, ◌&&◌, suc, ◌≤◌}
use Rattle.std.specs.Option.{is_some}
use Rattle.c_token_spec.specs.declared.token.Punctuator.TheVariants as punctuator
use Rattle.c_token_spec.specs.Lexical.{Placed}
use Rattle.c_syntax_spec.specs.Expression as tree
use Rattle.c_parse_spec.specs.declared.Role.{Role}
use Rattle.c_parse_spec.specs.declared.Role.TheVariants.{Nothing}
use Rattle.c_parse_spec.specs.Leaves.{Leaf, plain, mark, named, marks, opens, expected, roles}
use Rattle.c_parse_spec.specs.Expressions as grammar
use Rattle.exact_read.specs.Reading.{plains, Stops}
use Rattle.exact_read.specs.Grammar as operator
use Rattle.exact_read.specs.Grammar.{One, Map, Or, Nothing as Empty, Then, first, second, nothing, Many, context_after, anything, stop_many, read_then, read_map, read_many}
use Rattle.exact_read.proofs.Basics.{plains-two}
use Rattle.exact_read.proofs.Parts.{stops_anything, both}
use Rattle.exact_read.proofs.Many.{Items, many_opens}
use Rattle.c_parse_laws.specs.Classes.{is_mark, mark_offset}
use Rattle.c_parse_laws.specs.Stops.{stop_conditional}
use Rattle.c_parse_laws.specs.Parsers.{token, Parsers}
use Rattle.c_parse_laws.specs.Types.{plain_name_at, constant_end, After, AfterConstant, AfterComma, operators_of_constant, first_after, next_after, constants_start, after_role, context_of, constant_before, constants_of, read_constant, read_constants_part, read_constants}
use Rattle.c_parse_laws.proofs.Marks.{Following, one-mark, mark-one, mark-is, mark-passes, mark-self, mark-some, roled-opened, roled-choose, after_begins, after_silent, map_begins, map_silent, some_value, one_first, roled-mark}
use Rattle.c_parse_laws.proofs.Samples.{zero_tree, zero_text, zero_conditional}
use Rattle.exact_read.proofs.Contexts.{many-context_same}
use Rattle.c_parse_laws.proofs.Counts.{From, onwards, no_more, itself}
use Rattle.c_parse_laws.proofs.Tokens.{or_right, stops_or_true}
use Rattle.c_parse_laws.proofs.Fresh.{fresh, fresh_is}
use Rattle.c_parse_laws.proofs.Dimensions.{within_opens}
use Rattle.c_parse_laws.proofs.Declarators.{plain-is, plain-self}
use Rattle.exact_read.proofs.RoleBasics.{roled-same, roled-stop, roled-enter}
use Rattle.exact_read.proofs.RoleBegins.{Begins, Silent}
use Rattle.exact_read.proofs.RoleThen.{roled-then}
use Rattle.c_parse_laws.specs.Firm.{Firm}
use Rattle.c_parse_laws.proofs.Firm.{firm-map, firm-one, firm-nothing, firm-many}
use Rattle.c_parse_laws.specs.Declarators.{Whole}

abbrev pub Constant : Type 0
Constant = tree.Name × Option tree.Expression

-- a constant, and its value where it has one
pub data ConstantIs (names : List (List ℕ)) (depth count : ℕ) : Constant → List Leaf → Type 0 where
  alone : (n : tree.Name) → grammar.is_typedef_name names n.spelling ≡ false → ConstantIs names depth count (n, None) (plain (named n) ∷ [])
  valued : (n : tree.Name) (x : tree.Expression) (offset : ℕ) (value : List Leaf) → grammar.is_typedef_name names n.spelling ≡ false → grammar.Conditional names depth count x value → ConstantIs names depth count (n, Some x) (plain (named n) ∷ plain (mark punctuator.Assign offset) ∷ value)

abbrev stop_value : Option tree.Expression → Placed → Bool
stop_value None t = not (is_mark punctuator.Assign t.token)
stop_value (Some x) t = stop_conditional x t

abbrev ValueOption : (names : List (List ℕ)) → (depth count : ℕ) → Option tree.Expression → List Leaf → Type 0
ValueOption names depth count = Or (Map (λ x. Some x) (Following (One plain (mark_offset punctuator.Assign)) (λ _. grammar.Conditional names depth count))) (Empty None)

abbrev ConstantText : (names : List (List ℕ)) → (depth count : ℕ) → Constant → List Leaf → Type 0
ConstantText names depth count = Then (One plain (plain_name_at names)) (λ _. ValueOption names depth count)

pub plain_leaf : (names : List (List ℕ)) (n : tree.Name) (text : List Leaf) → One plain (plain_name_at names) n text → (text ≡ plain (named n) ∷ []) × (grammar.is_typedef_name names n.spelling ≡ false)
plain_leaf names n text o = let h = plain-is names o.token n o.is in (o.cut ∙ ap (λ t. plain t ∷ []) h.0, h.1)

pub leaf_plain : (names : List (List ℕ)) (n : tree.Name) → grammar.is_typedef_name names n.spelling ≡ false → One plain (plain_name_at names) n (plain (named n) ∷ [])
leaf_plain names n e = record { token = named n; is = plain-self names n e; cut = refl }

constant_by : (names : List (List ℕ)) (depth count : ℕ) (n : tree.Name) (v : Option tree.Expression) (text : List Leaf) → grammar.is_typedef_name names n.spelling ≡ false → ValueOption names depth count v text → ConstantIs names depth count (n, v) (plain (named n) ∷ text)
constant_by names depth count n v text e (first m) =
    let b = m.derives in
    let cut : text ≡ plain (mark punctuator.Assign b.first) ∷ b.right = b.cut ∙ ap (λ l. l ++ b.right) (one-mark punctuator.Assign plain b.first b.left b.is_first) in
    rw (m.is, cut) (valued n m.inner b.first b.right e b.is_second)
constant_by names depth count n v text e (second nothing) = alone n e

text_constant : (names : List (List ℕ)) (depth count : ℕ) (c : Constant) (text : List Leaf) → ConstantText names depth count c text → ConstantIs names depth count c text
text_constant names depth count c text t =
    let h = plain_leaf names c.0 t.left t.first in
    subst (λ l. ConstantIs names depth count c l) (sym (t.cut ∙ ap (λ l. l ++ t.right) h.0)) (constant_by names depth count c.0 c.1 t.right h.1 t.second)

constant_text : (names : List (List ℕ)) (depth count : ℕ) (c : Constant) (text : List Leaf) → ConstantIs names depth count c text → ConstantText names depth count c text
constant_text names depth count c text (alone n e) = record { left = plain (named n) ∷ []; right = []; cut = refl; first = leaf_plain names n e; second = second nothing }
constant_text names depth count c text (valued n x offset value e h) =
    record {
      left = plain (named n) ∷ [];
      right = plain (mark punctuator.Assign offset) ∷ value;
      cut = refl;
      first = leaf_plain names n e;
      second = first (record { inner = x; is = refl; derives = record { first = offset; left = plain (mark punctuator.Assign offset) ∷ []; right = value; is_first = mark-one punctuator.Assign plain offset; is_second = h; cut = refl } });
    }

none_same : (x : Option tree.Expression) (text : List Leaf) (t : Placed) → Empty None x text → not (is_mark punctuator.Assign t.token) ≡ stop_value x t
none_same x text t nothing = refl

none_second : (x : Option tree.Expression) (text : List Leaf) (rest : List Placed) → Empty None x text → Stops (stop_value x) rest → Stops (λ t. not (is_mark punctuator.Assign t.token)) (plains marks text ++ rest)
none_second x text rest nothing stops = stops

-- what precedes: a constant or a comma, and how operators are counted after it
data Last (least : ℕ) : Type 0 where
  LastConstant : (constant : Constant) → (from : From least) → Last least
  LastComma : (from : From least) → Last least

abbrev of_last : {least : ℕ} → Last least → After
of_last (LastConstant c from) = AfterConstant (constant_end c) from.counting
of_last (LastComma from) = AfterComma from.counting

abbrev from_last : {least : ℕ} → Last least → From least
from_last (LastConstant c from) = from
from_last (LastComma from) = from

abbrev after_constant : {least : ℕ} → From least → Constant → Last least
after_constant from c = LastConstant c (onwards from (operators_of_constant c))

abbrev next_last : {least : ℕ} → Last least → Option Constant → Last least
next_last last None = LastComma (from_last last)
next_last last (Some c) = after_constant (from_last last) c

of-next : (least : ℕ) (last : Last least) (part : Option Constant) → of_last (next_last last part) ≡ next_after (of_last last) part
of-next least (LastConstant c from) None = refl
of-next least (LastComma from) None = refl
of-next least (LastConstant c from) (Some d) = refl
of-next least (LastComma from) (Some d) = refl

abbrev PartText : (names : List (List ℕ)) → (depth : ℕ) → {least : ℕ} → Last least → Option Constant → List Leaf → Type 0
PartText names depth (LastConstant c from) = Map (λ _. None) (One plain (mark_offset punctuator.Comma))
PartText names depth (LastComma from) = Map (λ c. Some c) (ConstantIs names depth (grammar.count_at from.counting))

abbrev ends_last : {least : ℕ} → Last least → Placed → Bool
ends_last (LastConstant c from) t = stop_value c.1 t
ends_last (LastComma from) t = true

abbrev stop_part : Option Constant → Placed → Bool
stop_part None t = true
stop_part (Some c) t = stop_value c.1 t

comma_value : (v : Option tree.Expression) (t : Placed) → is_mark punctuator.Comma t.token ≡ true → IsTrue (stop_value v t)
comma_value v t e = subst (λ (s : Placed). IsTrue (stop_value v s)) (sym (mark-is punctuator.Comma t t.offset (rw e refl))) (at v t.offset)
  where
    at : (v : Option tree.Expression) (offset : ℕ) → IsTrue (stop_value v (mark punctuator.Comma offset))
    at None offset = refl
    at (Some x) offset = refl

part_items : (names : List (List ℕ)) (depth least : ℕ) → Items marks (λ (last : Last least). constants_start names (of_last last)) (λ (last : Last least). ends_last last) (λ (last : Last least). PartText names depth last) (λ _. stop_part) (λ (last : Last least) part. next_last last part)
part_items names depth least = record { begins = begins; opens_next = opened; stops_item = ended }
  where
    constant_begins : (count : ℕ) (c : Constant) (text : List Leaf) → ConstantIs names depth count c text → (u : Leaf) × (more : List Leaf) × (text ≡ u ∷ more) × (is_some (plain_name_at names u.token) ≡ true)
    constant_begins count c text (alone n e) = (plain (named n), [], refl, ap is_some (plain-self names n e))
    constant_begins count c text (valued n x offset value e h) = (plain (named n), plain (mark punctuator.Assign offset) ∷ value, refl, ap is_some (plain-self names n e))

    begins : (last : Last least) (x : Option Constant) (text : List Leaf) → PartText names depth last x text → (u : Leaf) × (more : List Leaf) × (text ≡ u ∷ more) × (constants_start names (of_last last) u.token ≡ true)
    begins (LastConstant c from) x text m = (plain m.derives.token, [], m.derives.cut, mark-passes punctuator.Comma m.derives.token m.inner m.derives.is)
    begins (LastComma from) x text m = constant_begins (grammar.count_at from.counting) m.inner text m.derives

    opened : (last : Last least) (x : Option Constant) (rest : List Placed) → Stops (stop_part x) rest → Stops (operator.opens (λ (last : Last least). constants_start names (of_last last)) (λ (last : Last least). ends_last last) (next_last last x)) rest
    opened last None rest h = stops_or_true (λ t. is_some (plain_name_at names t)) rest
    opened last (Some c) [] h = tt
    opened last (Some c) (t ∷ rest) h = or_right (is_mark punctuator.Comma t.token) (stop_value c.1 t) h

    by_test : (c : Constant) (t : Placed) (b : Bool) → is_mark punctuator.Comma t.token ≡ b → IsTrue (b || stop_value c.1 t) → IsTrue (stop_value c.1 t)
    by_test c t true e h = comma_value c.1 t e
    by_test c t false e h = h

    ended : (last : Last least) (x : Option Constant) (rest : List Placed) → Stops (operator.opens (λ (last : Last least). constants_start names (of_last last)) (λ (last : Last least). ends_last last) (next_last last x)) rest → Stops (stop_part x) rest
    ended last None rest h = stops_anything rest
    ended last (Some c) [] h = tt
    ended last (Some c) (t ∷ rest) h = by_test c t (is_mark punctuator.Comma t.token) refl h

-- parts after what precedes, as the grammar has them
abbrev PartsText : (names : List (List ℕ)) → (depth : ℕ) → {least : ℕ} → Last least → List (Option Constant) → List Leaf → Type 0
PartsText names depth {least} = Many (λ (last : Last least) part. next_last last part) (λ (last : Last least). PartText names depth last)

abbrev end_of : {least : ℕ} → Last least → List (Option Constant) → Role
end_of {least} last parts = after_role (of_last (context_after (λ (last : Last least) part. next_last last part) last parts))

context_same : (least : ℕ) (last : Last least) (parts : List (Option Constant)) → context_of (of_last last) parts ≡ of_last (context_after (λ (last : Last least) part. next_last last part) last parts)
context_same least last [] = refl
context_same least last (part ∷ parts) = ap (λ a. context_of a parts) (sym (of-next least last part)) ∙ context_same least (next_last last part) parts

-- after a constant, or a constant and a comma
abbrev Made : (names : List (List ℕ)) → (depth : ℕ) → {least : ℕ} → Last least → List (Option Constant) → List Leaf → Type 0
Made names depth (LastConstant c from) parts text =
    (counting : grammar.Counting) (left : List Leaf) → from.counting ≡ grammar.advance counting (operators_of_constant c) → ConstantIs names depth (grammar.count_at counting) c left → grammar.Constants names depth counting (constant_before c (constants_of parts)) (end_of (LastConstant c from) parts) (left ++ text)
Made names depth (LastComma from) parts text =
    (c : Constant) (counting : grammar.Counting) (left : List Leaf) (comma : ℕ) → from.counting ≡ grammar.advance counting (operators_of_constant c) → ConstantIs names depth (grammar.count_at counting) c left → grammar.Constants names depth counting (constant_before c (constants_of parts)) (end_of (LastComma from) parts) (left ++ plain (mark punctuator.Comma comma) ∷ text)

last_one : (names : List (List ℕ)) (depth : ℕ) (counting : grammar.Counting) (c : Constant) (left : List Leaf) → ConstantIs names depth (grammar.count_at counting) c left → grammar.Constants names depth counting (constant_before c tree.no_constants) (constant_end c) left
last_one names depth counting c left (alone n e) = grammar.last depth counting n e
last_one names depth counting c left (valued n x offset value e h) = grammar.last_with depth counting n x value offset e h

comma_one : (names : List (List ℕ)) (depth : ℕ) (counting : grammar.Counting) (c : Constant) (left : List Leaf) (comma : ℕ) → ConstantIs names depth (grammar.count_at counting) c left → grammar.Constants names depth counting (constant_before c tree.no_constants) Nothing (left ++ plain (mark punctuator.Comma comma) ∷ [])
comma_one names depth counting c left comma (alone n e) = grammar.last_comma depth counting n comma e
comma_one names depth counting c left comma (valued n x offset value e h) = grammar.last_with_comma depth counting n x value offset comma e h

more_one : (names : List (List ℕ)) (depth : ℕ) (counting : grammar.Counting) (c : Constant) (left : List Leaf) (comma : ℕ) (rest : tree.Constants) (end : Role) (right : List Leaf) → ConstantIs names depth (grammar.count_at counting) c left → grammar.Constants names depth (grammar.advance counting (operators_of_constant c)) rest end right
    → grammar.Constants names depth counting (constant_before c rest) end (left ++ plain (mark punctuator.Comma comma) ∷ right)
more_one names depth counting c left comma rest end right (alone n e) h = grammar.more depth counting n rest end right comma e (subst (λ (k : grammar.Counting). grammar.Constants names depth k rest end right) (no_more counting) h)
more_one names depth counting c left comma rest end right (valued n x offset value e k) h = grammar.more_with depth counting n x rest end value right offset comma e k h

made_none : (names : List (List ℕ)) (depth least : ℕ) (last : Last least) → Made names depth last [] []
made_none names depth least (LastConstant c from) = λ counting left same h. subst (λ t. grammar.Constants names depth counting (constant_before c tree.no_constants) (constant_end c) t) (sym (append-nil left)) (last_one names depth counting c left h)
made_none names depth least (LastComma from) = λ c counting left comma same h. comma_one names depth counting c left comma h

made_some : (names : List (List ℕ)) (depth least : ℕ) (last : Last least) (x : Option Constant) (xs : List (Option Constant)) (left right : List Leaf) → PartText names depth last x left → Made names depth (next_last last x) xs right → Made names depth last (x ∷ xs) (left ++ right)
made_some names depth least (LastConstant c from) x xs left right m again =
    λ counting prefix same h.
    let cut : left ++ right ≡ plain (mark punctuator.Comma m.inner) ∷ right = ap (λ l. l ++ right) (one-mark punctuator.Comma plain m.inner left m.derives) in
    let goes : Made names depth (LastComma from) xs right = subst (λ (y : Option Constant). Made names depth (next_last (LastConstant c from) y) xs right) m.is again in
    subst (λ (y : Option Constant). grammar.Constants names depth counting (constant_before c (constants_of (y ∷ xs))) (end_of (LastConstant c from) (y ∷ xs)) (prefix ++ (left ++ right))) (sym m.is)
    (subst (λ t. grammar.Constants names depth counting (constant_before c (constants_of xs)) (end_of (LastComma from) xs) (prefix ++ t)) (sym cut) (goes c counting prefix m.inner same h))
made_some names depth least (LastComma from) x xs left right m again =
    λ c counting prefix comma same h.
    let goes : Made names depth (after_constant from m.inner) xs right = subst (λ (y : Option Constant). Made names depth (next_last (LastComma from) y) xs right) m.is again in
    subst (λ (y : Option Constant). grammar.Constants names depth counting (constant_before c (constants_of (y ∷ xs))) (end_of (LastComma from) (y ∷ xs)) (prefix ++ plain (mark punctuator.Comma comma) ∷ (left ++ right))) (sym m.is)
    (more_one names depth counting c prefix comma (constant_before m.inner (constants_of xs)) (end_of (after_constant from m.inner) xs) (left ++ right) h
    (subst (λ (k : grammar.Counting). grammar.Constants names depth k (constant_before m.inner (constants_of xs)) (end_of (after_constant from m.inner) xs) (left ++ right)) same (goes from.counting left refl m.derives)))

made : (names : List (List ℕ)) (depth least : ℕ) (last : Last least) (xs : List (Option Constant)) (text : List Leaf) → PartsText names depth last xs text → Made names depth last xs text
made names depth least last xs text (operator.none l) = made_none names depth least l
made names depth least last xs text (operator.some l x ys left right one rest) = made_some names depth least l x ys left right one (made names depth least (next_last l x) ys right rest)

-- and back
record Split (names : List (List ℕ)) (depth : ℕ) {least : ℕ} (from : From least) (constants : tree.Constants) (end : Role) (text : List Leaf) : Type 0 where
  head : Constant
  left : List Leaf
  right : List Leaf
  parts : List (Option Constant)
  is_head : ConstantIs names depth (grammar.count_at from.counting) head left
  are_parts : PartsText names depth (after_constant from head) parts right
  is : constants ≡ constant_before head (constants_of parts)
  is_end : end ≡ end_of (after_constant from head) parts
  cut : text ≡ left ++ right

split_last : (names : List (List ℕ)) (depth least : ℕ) (from : From least) (c : Constant) (left : List Leaf) → ConstantIs names depth (grammar.count_at from.counting) c left → Split names depth from (constant_before c tree.no_constants) (constant_end c) left
split_last names depth least from c left h = record { head = c; left = left; right = []; parts = []; is_head = h; are_parts = operator.none (after_constant from c); is = refl; is_end = refl; cut = sym (append-nil left) }

comma_text : (names : List (List ℕ)) (depth comma least : ℕ) (from : From least) (c : Constant) → PartText names depth (after_constant from c) None (plain (mark punctuator.Comma comma) ∷ [])
comma_text names depth comma least from c = record { inner = comma; is = refl; derives = mark-one punctuator.Comma plain comma }

split_comma : (names : List (List ℕ)) (depth comma least : ℕ) (from : From least) (c : Constant) (left : List Leaf) → ConstantIs names depth (grammar.count_at from.counting) c left → Split names depth from (constant_before c tree.no_constants) Nothing (left ++ plain (mark punctuator.Comma comma) ∷ [])
split_comma names depth comma least from c left h =
    record {
      head = c;
      left = left;
      right = plain (mark punctuator.Comma comma) ∷ [];
      parts = None ∷ [];
      is_head = h;
      are_parts = operator.some (after_constant from c) None [] (plain (mark punctuator.Comma comma) ∷ []) [] (comma_text names depth comma least from c) (operator.none (LastComma (onwards from (operators_of_constant c))));
      is = refl;
      is_end = refl;
      cut = refl;
    }

split_more : (names : List (List ℕ)) (depth comma least : ℕ) (from : From least) (c : Constant) (left : List Leaf) (rest : tree.Constants) (end : Role) (right : List Leaf) → ConstantIs names depth (grammar.count_at from.counting) c left → Split names depth (onwards from (operators_of_constant c)) rest end right
    → Split names depth from (constant_before c rest) end (left ++ plain (mark punctuator.Comma comma) ∷ right)
split_more names depth comma least from c left rest end right h s =
    let following = onwards from (operators_of_constant c) in
    record {
      head = c;
      left = left;
      right = plain (mark punctuator.Comma comma) ∷ (s.left ++ s.right);
      parts = None ∷ Some s.head ∷ s.parts;
      is_head = h;
      are_parts = operator.some (after_constant from c) None (Some s.head ∷ s.parts) (plain (mark punctuator.Comma comma) ∷ []) (s.left ++ s.right) (comma_text names depth comma least from c)
          (operator.some (LastComma following) (Some s.head) s.parts s.left s.right (record { inner = s.head; is = refl; derives = s.is_head }) s.are_parts);
      is = ap (λ r. constant_before c r) s.is;
      is_end = s.is_end;
      cut = ap (λ t. left ++ plain (mark punctuator.Comma comma) ∷ t) s.cut;
    }

value_here : (names : List (List ℕ)) (depth least : ℕ) (from : From least) (counting : grammar.Counting) → counting ≡ from.counting → (x : tree.Expression) (value : List Leaf) → grammar.Conditional names depth (grammar.count_at counting) x value → grammar.Conditional names depth (grammar.count_at from.counting) x value
value_here names depth least from counting same x value h = subst (λ (k : grammar.Counting). grammar.Conditional names depth (grammar.count_at k) x value) same h

split : (names : List (List ℕ)) (depth least : ℕ) (from : From least) (counting : grammar.Counting) → counting ≡ from.counting → (constants : tree.Constants) (end : Role) (text : List Leaf) → grammar.Constants names depth counting constants end text → Split names depth from constants end text
split names depth least from counting same cs end text (grammar.last d k n e) = split_last names d least from (n, None) _ (alone n e)
split names depth least from counting same cs end text (grammar.last_comma d k n comma e) = split_comma names d comma least from (n, None) _ (alone n e)
split names depth least from counting same cs end text (grammar.more d k n rest en right comma e h) =
    split_more names d comma least from (n, None) _ rest en right (alone n e) (split names d least (onwards from 0) k (same ∙ sym (no_more from.counting)) rest en right h)
split names depth least from counting same cs end text (grammar.last_with d k n x value offset e h) = split_last names d least from (n, Some x) _ (valued n x offset value e (value_here names d least from k same x value h))
split names depth least from counting same cs end text (grammar.last_with_comma d k n x value offset comma e h) = split_comma names d comma least from (n, Some x) _ (valued n x offset value e (value_here names d least from k same x value h))
split names depth least from counting same cs end text (grammar.more_with d k n x rest en value right offset comma e h l) =
    split_more names d comma least from (n, Some x) _ rest en right (valued n x offset value e (value_here names d least from k same x value h)) (split names d least (onwards from (grammar.operators x)) (grammar.advance k (grammar.operators x)) (ap (λ (c : grammar.Counting). grammar.advance c (grammar.operators x)) same) rest en right l)

-- constants, and the `}` after them
pub record Enumeration (names : List (List ℕ)) (depth : ℕ) (counting : grammar.Counting) (constants : tree.Constants) (text : List Leaf) : Type 0 where
  pub end : Role
  pub inside : List Leaf
  pub close : ℕ
  pub derives : grammar.Constants names depth counting constants end inside
  pub cut : text ≡ inside ++ expected end (mark punctuator.RightBrace close) ∷ []

-- after a first constant
abbrev start : (counting : grammar.Counting) → From (grammar.count_at counting)
start counting = record { counting = counting; enough = itself counting }

abbrev first_last : (counting : grammar.Counting) → Constant → Last (grammar.count_at counting)
first_last counting c = after_constant (start counting) c

abbrev put_brace : (counting : grammar.Counting) → Constant → List (Option Constant) → Placed → Leaf
put_brace counting c parts = expected (after_role (context_of (first_after counting c) parts))

abbrev InsideText : (names : List (List ℕ)) → (depth : ℕ) → (counting : grammar.Counting) → Constant × (List (Option Constant) × ℕ) → List Leaf → Type 0
InsideText names depth counting = Then (ConstantIs names depth (grammar.count_at counting)) (λ c. Then (PartsText names depth (first_last counting c)) (λ parts. One (put_brace counting c parts) (mark_offset punctuator.RightBrace)))

abbrev made_constants : Constant × (List (Option Constant) × ℕ) → tree.Constants
made_constants pair = constant_before pair.0 (constants_of pair.1.0)

text_enumeration : (names : List (List ℕ)) (depth : ℕ) (counting : grammar.Counting) (constants : tree.Constants) (text : List Leaf) → Map made_constants (InsideText names depth counting) constants text → Enumeration names depth counting constants text
text_enumeration names depth counting cs text m =
    let t = m.derives in
    let u = t.second in
    let c = m.inner.0 in
    let parts = m.inner.1.0 in
    record {
      end = end_of (first_last counting c) parts;
      inside = t.left ++ u.left;
      close = m.inner.1.1;
      derives = subst (λ (v : tree.Constants). grammar.Constants names depth counting v (end_of (first_last counting c) parts) (t.left ++ u.left)) (sym m.is) (made names depth (grammar.count_at counting) (first_last counting c) parts u.left u.first counting t.left refl t.first);
      cut = t.cut ∙ ap (λ l. t.left ++ l) (u.cut ∙ ap (λ l. u.left ++ l) (one-mark punctuator.RightBrace (put_brace counting c parts) m.inner.1.1 u.right u.second ∙ ap (λ (a : After). expected (after_role a) (mark punctuator.RightBrace m.inner.1.1) ∷ []) (context_same (grammar.count_at counting) (first_last counting c) parts)))
          ∙ sym (append_assoc t.left u.left (expected (end_of (first_last counting c) parts) (mark punctuator.RightBrace m.inner.1.1) ∷ []));
    }

enumeration_text : (names : List (List ℕ)) (depth : ℕ) (counting : grammar.Counting) (constants : tree.Constants) (text : List Leaf) → Enumeration names depth counting constants text → Map made_constants (InsideText names depth counting) constants text
enumeration_text names depth counting cs text e =
    let s = split names depth (grammar.count_at counting) (start counting) counting refl cs e.end e.inside e.derives in
    let role : e.end ≡ after_role (context_of (first_after counting s.head) s.parts) = s.is_end ∙ ap after_role (sym (context_same (grammar.count_at counting) (first_last counting s.head) s.parts)) in
    let brace = put_brace counting s.head s.parts (mark punctuator.RightBrace e.close) in
    record {
      inner = (s.head, (s.parts, e.close));
      is = s.is;
      derives = record {
        left = s.left;
        right = s.right ++ brace ∷ [];
        cut = e.cut ∙ ap (λ (r : Role). e.inside ++ expected r (mark punctuator.RightBrace e.close) ∷ []) role ∙ ap (λ l. l ++ brace ∷ []) s.cut ∙ append_assoc s.left s.right (brace ∷ []);
        first = s.is_head;
        second = record { left = s.right; right = brace ∷ []; cut = refl; first = s.are_parts; second = mark-one punctuator.RightBrace (put_brace counting s.head s.parts) e.close };
      };
    }

brace_ends : (names : List (List ℕ)) (least : ℕ) (last : Last least) (offset : ℕ) → IsTrue (ends_last last (mark punctuator.RightBrace offset) && not (constants_start names (of_last last) (mark punctuator.RightBrace offset)))
brace_ends names least (LastConstant (n, None) from) offset = refl
brace_ends names least (LastConstant (n, Some x) from) offset = refl
brace_ends names least (LastComma from) offset = refl

-- in braces
abbrev pub ConstantsText : (names : List (List ℕ)) → (depth : ℕ) → (counting : grammar.Counting) → tree.Constants → List Leaf → Type 0
ConstantsText names depth counting = Following (One (opens (suc depth)) (mark_offset punctuator.LeftBrace)) (λ _. Enumeration names (suc depth) counting)

-- where conditional expressions keep roles at this depth and count
roled-constant : (names : List (List ℕ)) (inner : Parsers) (depth : ℕ) (counting : grammar.Counting) → Firm anything (grammar.Conditional names depth (grammar.count_at counting)) stop_conditional (inner.conditional depth (grammar.count_at counting)) → Firm anything (ConstantIs names depth (grammar.count_at counting)) (λ c. stop_value c.1) (read_constant names inner depth counting)
roled-constant names inner depth counting is =
    roled-same anything (ConstantIs names depth (grammar.count_at counting)) (read_constant names inner depth counting) (λ t h. h) (text_constant names depth (grammar.count_at counting)) (constant_text names depth (grammar.count_at counting)) (λ tokens. refl)
    (roled-then (firm-one anything plain (plain_name_at names) Nothing (λ t. refl) (λ t. refl) (named (fresh names)) (fresh names) (plain-self names (fresh names) (fresh_is names)))
    (λ n. roled-choose (is_mark punctuator.Assign)
    record {
      first_begins = λ x text m. let b = m.derives in (plain (mark punctuator.Assign b.first), b.right, b.cut ∙ ap (λ l. l ++ b.right) (one-mark punctuator.Assign plain b.first b.left b.is_first), mark-passes punctuator.Assign (mark punctuator.Assign b.first) b.first (mark-self punctuator.Assign b.first));
      second_begins = λ x text rest one stops. none_second x text rest one stops;
    }
    (λ t e. map_begins (λ x. Some x) t (after_begins (mark_offset punctuator.Assign) plain (λ t. refl) t t.offset (mark-some punctuator.Assign t e) (zero_tree, zero_text, zero_conditional names depth (grammar.count_at counting))))
    (map_silent (λ x. Some x) (after_silent (mark_offset punctuator.Assign) plain (λ t. refl)))
    (roled-enter (both anything (λ t. is_mark punctuator.Assign t.token)) (firm-map (λ x. Some x) stop_value (λ x. refl)
    (roled-opened (mark_offset punctuator.Assign) Nothing plain (λ t. refl) (λ t. refl) (mark punctuator.Assign 0) 0 (mark-self punctuator.Assign 0) (λ x. (zero_tree, zero_text, zero_conditional names depth (grammar.count_at counting))) (λ x t e within. is))))
    (roled-stop stop_value (λ x text one t. none_same x text t one) (firm-nothing (both anything (λ t. not (is_mark punctuator.Assign t.token))) None)))
    record {
      ends = λ n y left right rest one two stops. stops_anything (plains marks right ++ rest);
      goes_on = λ n left one. (None, [], second nothing);
    })

part_begins : (names : List (List ℕ)) (depth least : ℕ) (last : Last least) (t : Placed) → constants_start names (of_last last) t ≡ true → Begins marks (PartText names depth last) t
part_begins names depth least (LastConstant c from) t e = record { value = None; first = plain t; more = []; derives = record { inner = t.offset; is = refl; derives = record { token = t; is = mark-some punctuator.Comma t e; cut = refl } }; is = refl }
part_begins names depth least (LastComma from) t e =
    let n = some_value (plain_name_at names t) e in
    let h = plain-is names t n.0 n.1 in
    record { value = Some (n.0, None); first = plain (named n.0); more = []; derives = record { inner = (n.0, None); is = refl; derives = alone n.0 h.1 }; is = sym h.0 }

constant_silent : (names : List (List ℕ)) (depth count : ℕ) (c : Constant) (text : List Leaf) → ConstantIs names depth count c text → (u : Leaf) (more : List Leaf) → text ≡ u ∷ more → u.role ≡ Nothing
constant_silent names depth count c text (alone n e) u more h = let head : plain (named n) ≡ u = cc in ap (λ (l : Leaf). l.role) (sym head)
constant_silent names depth count c text (valued n x offset value e k) u more h = let head : plain (named n) ≡ u = cc in ap (λ (l : Leaf). l.role) (sym head)

part_silent : (names : List (List ℕ)) (depth least : ℕ) (last : Last least) → Silent marks roles (PartText names depth last)
part_silent names depth least (LastConstant c from) x u more m = ap (λ (l : Leaf). l.role) (one_first m.inner u more m.derives)
part_silent names depth least (LastComma from) x u more m = constant_silent names depth (grammar.count_at from.counting) m.inner (u ∷ more) m.derives u more refl

-- where conditional expressions keep roles at this depth from this count on
abbrev Values : (names : List (List ℕ)) → Parsers → (depth least : ℕ) → Type 0
Values names inner depth least = (count : ℕ) → least ≤ count → Firm anything (grammar.Conditional names depth count) stop_conditional (inner.conditional depth count)

roled-part : (names : List (List ℕ)) (inner : Parsers) (depth least : ℕ) → Values names inner depth least
    → (last : Last least) → Firm (constants_start names (of_last last)) (PartText names depth last) stop_part (read_constants_part names inner depth (of_last last))
roled-part names inner depth least are (LastConstant c from) = firm-map (λ _. None) stop_part (λ x. refl) (roled-mark (λ t. is_mark punctuator.Comma t.token) punctuator.Comma Nothing plain (λ t. refl) (λ t. refl))
roled-part names inner depth least are (LastComma from) = firm-map (λ c. Some c) stop_part (λ x. refl) (roled-enter (λ t. is_some (plain_name_at names t)) (roled-constant names inner depth from.counting (are (grammar.count_at from.counting) from.enough)))

abbrev starts : (names : List (List ℕ)) → (least : ℕ) → Last least → Placed → Bool
starts names least last = constants_start names (of_last last)

abbrev ends : (least : ℕ) → Last least → Placed → Bool
ends least last = ends_last last

abbrev next : (least : ℕ) → Last least → Option Constant → Last least
next least last part = next_last last part

roled-enumeration : (names : List (List ℕ)) (inner : Parsers) (depth : ℕ) (counting : grammar.Counting) → Values names inner depth (grammar.count_at counting)
    → Firm anything (Enumeration names depth counting) (λ _. anything)
    (read_map made_constants (read_then (read_constant names inner depth counting) (λ head. read_then (read_many (constants_start names) (read_constants_part names inner depth) next_after (first_after counting head))
    (λ parts. token (after_role (context_of (first_after counting head) parts)) (put_brace counting head parts) (mark_offset punctuator.RightBrace)))))
roled-enumeration names inner depth counting are =
    roled-same anything (Enumeration names depth counting) (read_map made_constants (read_then (read_constant names inner depth counting) (λ head. read_then (read_many (constants_start names) (read_constants_part names inner depth) next_after (first_after counting head))
    (λ parts. token (after_role (context_of (first_after counting head) parts)) (put_brace counting head parts) (mark_offset punctuator.RightBrace)))))
    (λ t h. h) (text_enumeration names depth counting) (enumeration_text names depth counting) (λ tokens. refl)
    (firm-map made_constants (λ _. anything) (λ x. refl)
    (roled-then (roled-constant names inner depth counting (are (grammar.count_at counting) (itself counting))) (λ c. roled-then (parts_exact c) (λ parts. roled-mark (stop_many (starts names (grammar.count_at counting)) (ends (grammar.count_at counting)) (next (grammar.count_at counting)) (first_last counting c) parts) punctuator.RightBrace (after_role (context_of (first_after counting c) parts)) (put_brace counting c parts) (λ t. refl) (λ t. refl))
    record {
      ends = λ parts offset left right rest one two stops. at_end c parts offset right rest two;
      goes_on = λ parts left one. (0, put_brace counting c parts (mark punctuator.RightBrace 0) ∷ [], mark-one punctuator.RightBrace (put_brace counting c parts) 0);
    })
    record {
      ends = λ c pair left right rest one two stops. head_ends c pair right rest two;
      goes_on = λ c left one. (([], 0), put_brace counting c [] (mark punctuator.RightBrace 0) ∷ [], record { left = []; right = put_brace counting c [] (mark punctuator.RightBrace 0) ∷ []; cut = refl; first = operator.none (first_last counting c); second = mark-one punctuator.RightBrace (put_brace counting c []) 0 });
    }))
  where
    parts_exact : (c : Constant) → Firm (stop_value c.1) (PartsText names depth (first_last counting c)) (stop_many (starts names (grammar.count_at counting)) (ends (grammar.count_at counting)) (next (grammar.count_at counting)) (first_last counting c)) (read_many (constants_start names) (read_constants_part names inner depth) next_after (first_after counting c))
    parts_exact c =
        roled-same (stop_value c.1) (PartsText names depth (first_last counting c)) (read_many (constants_start names) (read_constants_part names inner depth) next_after (first_after counting c))
        (λ t h. or_right (is_mark punctuator.Comma t.token) (stop_value c.1 t) h) (λ x text h. h) (λ x text h. h)
        (many-context_same (constants_start names) (read_constants_part names inner depth) next_after (λ (last : Last (grammar.count_at counting)). of_last last) (next (grammar.count_at counting)) (of-next (grammar.count_at counting)) (first_last counting c))
        (firm-many (part_items names depth (grammar.count_at counting)) (part_begins names depth (grammar.count_at counting)) (part_silent names depth (grammar.count_at counting)) (roled-part names inner depth (grammar.count_at counting) are) (first_last counting c))

    at_end : (c : Constant) (parts : List (Option Constant)) (offset : ℕ) (right : List Leaf) (rest : List Placed) → One (put_brace counting c parts) (mark_offset punctuator.RightBrace) offset right → Stops (stop_many (starts names (grammar.count_at counting)) (ends (grammar.count_at counting)) (next (grammar.count_at counting)) (first_last counting c) parts) (plains marks right ++ rest)
    at_end c parts offset right rest one =
        subst (λ r. Stops (stop_many (starts names (grammar.count_at counting)) (ends (grammar.count_at counting)) (next (grammar.count_at counting)) (first_last counting c) parts) (plains marks r ++ rest)) (sym (one-mark punctuator.RightBrace (put_brace counting c parts) offset right one)) (brace_ends names (grammar.count_at counting) (context_after (next (grammar.count_at counting)) (first_last counting c) parts) offset)

    head_ends : (c : Constant) (pair : List (Option Constant) × ℕ) (right : List Leaf) (rest : List Placed) → Then (PartsText names depth (first_last counting c)) (λ parts. One (put_brace counting c parts) (mark_offset punctuator.RightBrace)) pair right → Stops (stop_value c.1) (plains marks right ++ rest)
    head_ends c pair right rest t =
        let opened : Stops (operator.opens (starts names (grammar.count_at counting)) (ends (grammar.count_at counting)) (first_last counting c)) (plains marks t.left ++ (plains marks t.right ++ rest)) =
        many_opens (part_items names depth (grammar.count_at counting)) (first_last counting c) pair.0 t.left (plains marks t.right ++ rest) t.first (at_end c pair.0 pair.1 t.right rest t.second) in
        subst (Stops (stop_value c.1)) (sym (ap (λ r. plains marks r ++ rest) t.cut ∙ plains-two marks t.left t.right rest)) ((part_items names depth (grammar.count_at counting)).stops_item (LastComma (start counting)) (Some c) (plains marks t.left ++ (plains marks t.right ++ rest)) opened)

pub roled-constants : (names : List (List ℕ)) (inner : Parsers) (depth : ℕ) (counting : grammar.Counting) → Whole names inner depth (grammar.count_at counting) → Firm anything (ConstantsText names depth counting) (λ _. anything) (read_constants names inner depth counting)
roled-constants names inner depth counting whole =
    roled-opened (mark_offset punctuator.LeftBrace) Nothing (opens (suc depth)) (λ t. refl) (λ t. refl) (mark punctuator.LeftBrace 0) 0 (mark-self punctuator.LeftBrace 0)
    (λ offset. (tree.constants (fresh names) tree.no_constants, _, record { end = Nothing; inside = plain (named (fresh names)) ∷ []; close = 0; derives = grammar.last (suc depth) counting (fresh names) (fresh_is names); cut = refl }))
    (λ offset t is within. roled-enumeration names inner (suc depth) counting (whole (within_opens (suc depth) t within)))
