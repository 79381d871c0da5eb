-- Initial values with `,` between them, and after the last or not, keep roles.
use Rattle.std.proofs.Common.{Bool, true, Option, Some, None, ℕ, suc, List, [], ◌∷◌, ◌++◌, ◌≡◌, refl, false, ◌||◌, ap, ◌∙◌, sym, subst, not, IsTrue, append_assoc, append-nil, inl, inr}
use Rattle.c_token_spec.specs.declared.token.Punctuator.TheVariants as punctuator
use Rattle.c_token_spec.specs.Lexical.{Placed, Token}
use Rattle.c_syntax_spec.specs.Expression as tree
use Rattle.c_parse_spec.specs.declared.Role.{Role}
use Rattle.c_parse_spec.specs.declared.Role.TheVariants.{Nothing}
use Rattle.c_parse_spec.specs.Leaves.{Leaf, plain, expected, opens, mark, marks, roles}
use Rattle.c_parse_spec.specs.Expressions.{Conditional}
use Rattle.c_parse_spec.specs.Units as grammar
use Rattle.exact_read.specs.Reading.{plains, Stops, Parser}
use Rattle.exact_read.specs.Grammar as operator
use Rattle.exact_read.specs.Grammar.{Or, first, second, One, Map, Many, context_after, anything}
use Rattle.exact_read.proofs.Parts.{stops_anything}
use Rattle.exact_read.proofs.Many.{Items}
use Rattle.c_parse_laws.specs.Classes.{is_mark, mark_offset}
use Rattle.c_parse_laws.specs.Exactness.{Closed}
use Rattle.c_parse_laws.specs.Stops.{stop_conditional}
use Rattle.c_parse_laws.specs.Parsers.{Parsers}
use Rattle.c_parse_laws.proofs.Marks.{Following, mark-is, mark-passes, one-mark, mark-one, first_begins, closed_begins, first_silent, closed_silent, mark-some, same_begins, roled-closed, roled-following, roled-choice, roled-mark, map_begins, one_first, map_silent}
use Rattle.c_parse_laws.proofs.Samples.{zero_tree, zero_text, zero_conditional}
use Rattle.c_parse_laws.specs.TypeExactness.{AllFirm}
use Rattle.c_parse_laws.specs.Firsts.{begins_expression}
use Rattle.c_parse_laws.proofs.Firsts.{conditional_first, begins-not}
use Rattle.c_parse_laws.proofs.Tokens.{or_right, stops_or_true}
use Rattle.c_parse_laws.specs.Initializers.{end_of_initial, begins_initial, begins_designator, ListPosition, AfterInitial, FollowingComma, initials_start, next_position, end_of_position, read_designated, read_initials_part}
use Rattle.c_parse_laws.proofs.Initials.{DesignatorsOf, designators_first, designators_begin, designators_silent, designators_some, left_begins, right_begins, roled-designators}
use Rattle.exact_read.specs.Expected.{Next, Reported}
use Rattle.exact_read.proofs.RoleBasics.{roled-same, roled-enter}
use Rattle.exact_read.proofs.RoleBegins.{Begins, Silent, silent_next, begun_enters}
use Rattle.exact_read.proofs.RoleMany.{ItemRoles}
use Rattle.c_parse_laws.specs.Firm.{Firm, quiet}
use Rattle.c_parse_laws.proofs.Firm.{firm-map}
use Rattle.c_parse_laws.proofs.StatementValues.{conditional_begins}
use Rattle.c_parse_laws.proofs.Silent.{conditional_silent}

-- where an initial value ends
abbrev pub stop_last : Option tree.Expression → Placed → Bool
stop_last None t = true
stop_last (Some x) t = stop_conditional x t

-- an initial value, and the expression with which it ends
pub data InitialIs (names : List (List ℕ)) (depth : ℕ) : Option tree.Expression → List Leaf → Type 0 where
  computed : (x : tree.Expression) (text : List Leaf) → Conditional names depth 0 x text → InitialIs names depth (Some x) text
  empty : (offset close : ℕ) → InitialIs names depth None (opens (suc depth) (mark punctuator.LeftBrace offset) ∷ plain (mark punctuator.RightBrace close) ∷ [])
  list : (end : Role) (inside : List Leaf) (offset close : ℕ) → grammar.InitializerList names (suc depth) end inside → InitialIs names depth None (opens (suc depth) (mark punctuator.LeftBrace offset) ∷ inside ++ expected end (mark punctuator.RightBrace close) ∷ [])

pub initializer : (names : List (List ℕ)) (depth : ℕ) (last : Option tree.Expression) (text : List Leaf) → InitialIs names depth last text → grammar.Initializer names depth (end_of_initial last) text
initializer names depth last text (computed x t h) = grammar.value depth x t h
initializer names depth last text (empty offset close) = grammar.empty_list depth offset close
initializer names depth last text (list end inside offset close h) = grammar.list depth end inside offset close h

pub record InitialBack (names : List (List ℕ)) (depth : ℕ) (end : Role) (text : List Leaf) : Type 0 where
  pub last : Option tree.Expression
  pub derives : InitialIs names depth last text
  pub is_end : end ≡ end_of_initial last

pub initial_back : (names : List (List ℕ)) (depth : ℕ) (end : Role) (text : List Leaf) → grammar.Initializer names depth end text → InitialBack names depth end text
initial_back names depth end text (grammar.value d x t h) = record { last = Some x; derives = computed x t h; is_end = refl }
initial_back names depth end text (grammar.empty_list d offset close) = record { last = None; derives = empty offset close; is_end = refl }
initial_back names depth end text (grammar.list d e inside offset close h) = record { last = None; derives = list e inside offset close h; is_end = refl }

-- what an initial value begins with
pub record InitialFirst (names : List (List ℕ)) (text : List Leaf) : Type 0 where
  pub leaf : Leaf
  pub more : List Leaf
  pub cut : text ≡ leaf ∷ more
  pub yes : begins_initial names leaf.token.token ≡ true
  pub no_brace : is_mark punctuator.RightBrace leaf.token.token ≡ false

-- and that it begins with no designator
pub record ValueFirst (names : List (List ℕ)) (text : List Leaf) : Type 0 where
  pub is : InitialFirst names text
  pub no_designator : begins_designator is.leaf.token.token ≡ false

or-true : (a b c : Bool) → c ≡ true → (a || b || c) ≡ true
or-true true b c e = refl
or-true false true c e = refl
or-true false false c e = e

or-middle : (a b c : Bool) → b ≡ true → (a || b || c) ≡ true
or-middle true b c e = refl
or-middle false true c e = refl
or-middle false false c e = absurd (cc)

or-false : (a b : Bool) → a ≡ false → b ≡ false → (a || b) ≡ false
or-false a b e f = rw (e, f) refl

pub value_first : (names : List (List ℕ)) (depth : ℕ) (last : Option tree.Expression) (text : List Leaf) → InitialIs names depth last text → ValueFirst names text
value_first names depth last text (computed x t h) =
    let f = conditional_first names depth 0 x t h in
    let k = f.leaf.token.token in
    record {
      is = record { leaf = f.leaf; more = f.more; cut = f.cut; yes = or-true (is_mark punctuator.LeftBrace k) (begins_designator k) (begins_expression names k) f.yes; no_brace = begins-not names punctuator.RightBrace refl k f.yes };
      no_designator = or-false (is_mark punctuator.Dot k) (is_mark punctuator.LeftBracket k) (begins-not names punctuator.Dot refl k f.yes) (begins-not names punctuator.LeftBracket refl k f.yes);
    }
value_first names depth last text (empty offset close) = record { is = record { leaf = opens (suc depth) (mark punctuator.LeftBrace offset); more = _; cut = refl; yes = refl; no_brace = refl }; no_designator = refl }
value_first names depth last text (list end inside offset close h) = record { is = record { leaf = opens (suc depth) (mark punctuator.LeftBrace offset); more = _; cut = refl; yes = refl; no_brace = refl }; no_designator = refl }

-- with a designation before it
pub record DesignatedIs (names : List (List ℕ)) (depth : ℕ) (last : Option tree.Expression) (text : List Leaf) : Type 0 where
  pub prefix : List Leaf
  pub inside : List Leaf
  pub designation : grammar.Designation names depth prefix
  pub initial : InitialIs names depth last inside
  pub cut : text ≡ prefix ++ inside

abbrev DesignatedText : (names : List (List ℕ)) → (depth : ℕ) → Option tree.Expression → List Leaf → Type 0
DesignatedText names depth = Or (Following (Closed plain punctuator.Assign (DesignatorsOf names depth)) (λ _. InitialIs names depth)) (InitialIs names depth)

text_designated : (names : List (List ℕ)) (depth : ℕ) (last : Option tree.Expression) (text : List Leaf) → DesignatedText names depth last text → DesignatedIs names depth last text
text_designated names depth last text (first b) =
    let c = b.is_first in
    record { prefix = c.inside ++ plain (mark punctuator.Assign c.close) ∷ []; inside = b.right; designation = grammar.some depth c.inside c.close c.derives; initial = b.is_second; cut = b.cut ∙ ap (λ l. l ++ b.right) c.cut }
text_designated names depth last text (second h) = record { prefix = []; inside = text; designation = grammar.none depth; initial = h; cut = refl }

designation_text : (names : List (List ℕ)) (depth : ℕ) (last : Option tree.Expression) (prefix inside : List Leaf) → grammar.Designation names depth prefix → InitialIs names depth last inside → DesignatedText names depth last (prefix ++ inside)
designation_text names depth last prefix inside (grammar.none d) h = second h
designation_text names depth last prefix inside (grammar.some d text offset k) h =
    first (record { first = tt; left = text ++ plain (mark punctuator.Assign offset) ∷ []; right = inside; is_first = record { inside = text; close = offset; derives = k; cut = refl }; is_second = h; cut = refl })

designated_text : (names : List (List ℕ)) (depth : ℕ) (last : Option tree.Expression) (text : List Leaf) → DesignatedIs names depth last text → DesignatedText names depth last text
designated_text names depth last text d = subst (λ l. DesignatedText names depth last l) (sym d.cut) (designation_text names depth last d.prefix d.inside d.designation d.initial)

not_designator : (names : List (List ℕ)) (depth : ℕ) (last : Option tree.Expression) (text : List Leaf) (rest : List Placed) → InitialIs names depth last text → Stops (λ t. not (begins_designator t.token)) (plains marks text ++ rest)
not_designator names depth last text rest h =
    let f = value_first names depth last text h in
    subst (λ l. Stops (λ t. not (begins_designator t.token)) (plains marks l ++ rest)) (sym f.is.cut) (rw f.no_designator refl)

closed_first : (names : List (List ℕ)) (depth : ℕ) (u : Unit {0}) (text right : List Leaf) → Closed plain punctuator.Assign (DesignatorsOf names depth) u text → (leaf : Leaf) × (more : List Leaf) × (text ++ right ≡ leaf ∷ more) × (begins_designator leaf.token.token ≡ true)
closed_first names depth u text right c =
    let f = designators_first names depth c.inside c.derives in
    let close = plain (mark punctuator.Assign c.close) ∷ [] in
    (f.0, (f.1 ++ close) ++ right, ap (λ l. l ++ right) (c.cut ∙ ap (λ l. l ++ close) f.2), f.3)

pub designated_first : (names : List (List ℕ)) (depth : ℕ) (last : Option tree.Expression) (text : List Leaf) → DesignatedIs names depth last text → InitialFirst names text
designated_first names depth last text d = subst (InitialFirst names) (sym d.cut) (by_designation d.prefix d.designation)
  where
    designator_brace : (k : Token) → begins_designator k ≡ true → is_mark punctuator.RightBrace k ≡ false
    designator_brace k e = by_test (is_mark punctuator.RightBrace k) refl
      where
        by_test : (b : Bool) → is_mark punctuator.RightBrace k ≡ b → is_mark punctuator.RightBrace k ≡ false
        by_test true f =
            let same : (record { token = k; offset = 0 }) ≡ mark punctuator.RightBrace 0 = mark-is punctuator.RightBrace (record { token = k; offset = 0 }) 0 (rw f refl) in
            absurd (let g : begins_designator k ≡ false = ap (λ (t : Placed). begins_designator t.token) same in cc)
        by_test false f = f

    by_designation : (prefix : List Leaf) → grammar.Designation names depth prefix → InitialFirst names (prefix ++ d.inside)
    by_designation prefix (grammar.none dp) = (value_first names depth last d.inside d.initial).is
    by_designation prefix (grammar.some dp t offset h) =
        let f = designators_first names dp t h in
        let k = f.0.token.token in
        record { leaf = f.0; more = (f.1 ++ plain (mark punctuator.Assign offset) ∷ []) ++ d.inside; cut = ap (λ l. (l ++ plain (mark punctuator.Assign offset) ∷ []) ++ d.inside) f.2; yes = or-middle (is_mark punctuator.LeftBrace k) (begins_designator k) (begins_expression names k) f.3; no_brace = designator_brace k f.3 }

-- the parts after a first
abbrev pub PartText : (names : List (List ℕ)) → (depth : ℕ) → ListPosition → Option (Option tree.Expression) → List Leaf → Type 0
PartText names depth (AfterInitial last) = Map (λ _. None) (One (expected (end_of_initial last)) (mark_offset punctuator.Comma))
PartText names depth FollowingComma = Map (λ last. Some last) (DesignatedIs names depth)

abbrev pub ends_position : ListPosition → Placed → Bool
ends_position (AfterInitial last) t = stop_last last t
ends_position FollowingComma t = true

abbrev pub stop_part : Option (Option tree.Expression) → Placed → Bool
stop_part None t = true
stop_part (Some last) t = stop_last last t

comma_value : (last : Option tree.Expression) (t : Placed) → is_mark punctuator.Comma t.token ≡ true → IsTrue (stop_last last t)
comma_value last t e = subst (λ (s : Placed). IsTrue (stop_last last s)) (sym (mark-is punctuator.Comma t t.offset (rw e refl))) (at last t.offset)
  where
    at : (last : Option tree.Expression) (offset : ℕ) → IsTrue (stop_last last (mark punctuator.Comma offset))
    at None offset = refl
    at (Some x) offset = refl

pub part_items : (names : List (List ℕ)) (depth : ℕ) → Items marks (initials_start names) ends_position (PartText names depth) (λ _. stop_part) next_position
part_items names depth = record { begins = begins; opens_next = opened; stops_item = ended }
  where
    begins : (position : ListPosition) (x : Option (Option tree.Expression)) (text : List Leaf) → PartText names depth position x text → (u : Leaf) × (more : List Leaf) × (text ≡ u ∷ more) × (initials_start names position u.token ≡ true)
    begins (AfterInitial last) x text m = (expected (end_of_initial last) m.derives.token, [], m.derives.cut, mark-passes punctuator.Comma m.derives.token m.inner m.derives.is)
    begins FollowingComma x text m = let f = designated_first names depth m.inner text m.derives in (f.leaf, f.more, f.cut, f.yes)

    opened : (position : ListPosition) (x : Option (Option tree.Expression)) (rest : List Placed) → Stops (stop_part x) rest → Stops (operator.opens (initials_start names) ends_position (next_position position x)) rest
    opened position None rest h = stops_or_true (λ t. begins_initial names t.token) rest
    opened position (Some last) [] h = tt
    opened position (Some last) (t ∷ rest) h = or_right (is_mark punctuator.Comma t.token) (stop_last last t) h

    by_test : (last : Option tree.Expression) (t : Placed) (b : Bool) → is_mark punctuator.Comma t.token ≡ b → IsTrue (b || stop_last last t) → IsTrue (stop_last last t)
    by_test last t true e h = comma_value last t e
    by_test last t false e h = h

    ended : (position : ListPosition) (x : Option (Option tree.Expression)) (rest : List Placed) → Stops (operator.opens (initials_start names) ends_position (next_position position x)) rest → Stops (stop_part x) rest
    ended position None rest h = stops_anything rest
    ended position (Some last) [] h = tt
    ended position (Some last) (t ∷ rest) h = by_test last t (is_mark punctuator.Comma t.token) refl h

-- parts after what precedes, as the grammar has them
abbrev pub PartsText : (names : List (List ℕ)) → (depth : ℕ) → ListPosition → List (Option (Option tree.Expression)) → List Leaf → Type 0
PartsText names depth = Many next_position (PartText names depth)

abbrev pub end_of : ListPosition → List (Option (Option tree.Expression)) → Role
end_of position parts = end_of_position (context_after next_position position parts)

abbrev Made : (names : List (List ℕ)) → (depth : ℕ) → ListPosition → List (Option (Option tree.Expression)) → List Leaf → Type 0
Made names depth (AfterInitial last) parts text = (left : List Leaf) → DesignatedIs names depth last left → grammar.InitializerList names depth (end_of (AfterInitial last) parts) (left ++ text)
Made names depth FollowingComma parts text = (last : Option tree.Expression) (left : List Leaf) (comma : ℕ) → DesignatedIs names depth last left → grammar.InitializerList names depth (end_of FollowingComma parts) (left ++ expected (end_of_initial last) (mark punctuator.Comma comma) ∷ text)

pub last_one : (names : List (List ℕ)) (depth : ℕ) (last : Option tree.Expression) (left : List Leaf) → DesignatedIs names depth last left → grammar.InitializerList names depth (end_of_initial last) left
last_one names depth last left d = subst (λ t. grammar.InitializerList names depth (end_of_initial last) t) (sym d.cut) (grammar.last depth (end_of_initial last) d.prefix d.inside d.designation (initializer names depth last d.inside d.initial))

comma_one : (names : List (List ℕ)) (depth : ℕ) (last : Option tree.Expression) (left : List Leaf) (comma : ℕ) → DesignatedIs names depth last left → grammar.InitializerList names depth Nothing (left ++ expected (end_of_initial last) (mark punctuator.Comma comma) ∷ [])
comma_one names depth last left comma d =
    let following = expected (end_of_initial last) (mark punctuator.Comma comma) ∷ [] in
    subst (λ t. grammar.InitializerList names depth Nothing t) (sym (ap (λ l. l ++ following) d.cut ∙ append_assoc d.prefix d.inside following))
    (grammar.last_comma depth (end_of_initial last) d.prefix d.inside comma d.designation (initializer names depth last d.inside d.initial))

more_one : (names : List (List ℕ)) (depth : ℕ) (last : Option tree.Expression) (left : List Leaf) (comma : ℕ) (end : Role) (right : List Leaf) → DesignatedIs names depth last left → grammar.InitializerList names depth end right → grammar.InitializerList names depth end (left ++ expected (end_of_initial last) (mark punctuator.Comma comma) ∷ right)
more_one names depth last left comma end right d h =
    let following = expected (end_of_initial last) (mark punctuator.Comma comma) ∷ right in
    subst (λ t. grammar.InitializerList names depth end t) (sym (ap (λ l. l ++ following) d.cut ∙ append_assoc d.prefix d.inside following))
    (grammar.more depth (end_of_initial last) end d.prefix d.inside right comma d.designation (initializer names depth last d.inside d.initial) h)

made_none : (names : List (List ℕ)) (depth : ℕ) (position : ListPosition) → Made names depth position [] []
made_none names depth (AfterInitial last) = λ left h. subst (λ t. grammar.InitializerList names depth (end_of_initial last) t) (sym (append-nil left)) (last_one names depth last left h)
made_none names depth FollowingComma = λ last left comma h. comma_one names depth last left comma h

made_some : (names : List (List ℕ)) (depth : ℕ) (position : ListPosition) (x : Option (Option tree.Expression)) (xs : List (Option (Option tree.Expression))) (left right : List Leaf) → PartText names depth position x left → Made names depth (next_position position x) xs right → Made names depth position (x ∷ xs) (left ++ right)
made_some names depth (AfterInitial last) x xs left right m again =
    λ prefix h.
    let cut : left ++ right ≡ expected (end_of_initial last) (mark punctuator.Comma m.inner) ∷ right = ap (λ l. l ++ right) (one-mark punctuator.Comma (expected (end_of_initial last)) m.inner left m.derives) in
    let goes : Made names depth FollowingComma xs right = subst (λ (y : Option (Option tree.Expression)). Made names depth (next_position (AfterInitial last) y) xs right) m.is again in
    subst (λ (y : Option (Option tree.Expression)). grammar.InitializerList names depth (end_of (AfterInitial last) (y ∷ xs)) (prefix ++ (left ++ right))) (sym m.is)
    (subst (λ t. grammar.InitializerList names depth (end_of FollowingComma xs) (prefix ++ t)) (sym cut) (goes last prefix m.inner h))
made_some names depth FollowingComma x xs left right m again =
    λ last prefix comma h.
    let goes : Made names depth (AfterInitial m.inner) xs right = subst (λ (y : Option (Option tree.Expression)). Made names depth (next_position FollowingComma y) xs right) m.is again in
    subst (λ (y : Option (Option tree.Expression)). grammar.InitializerList names depth (end_of FollowingComma (y ∷ xs)) (prefix ++ expected (end_of_initial last) (mark punctuator.Comma comma) ∷ (left ++ right))) (sym m.is)
    (more_one names depth last prefix comma (end_of (AfterInitial m.inner) xs) (left ++ right) h (goes left m.derives))

pub made : (names : List (List ℕ)) (depth : ℕ) (position : ListPosition) (xs : List (Option (Option tree.Expression))) (text : List Leaf) → PartsText names depth position xs text → Made names depth position xs text
made names depth position xs text (operator.none l) = made_none names depth l
made names depth position xs text (operator.some l x ys left right one rest) = made_some names depth l x ys left right one (made names depth (next_position l x) ys right rest)

-- and back
pub record Split (names : List (List ℕ)) (depth : ℕ) (end : Role) (text : List Leaf) : Type 0 where
  pub head : Option tree.Expression
  pub left : List Leaf
  pub right : List Leaf
  pub parts : List (Option (Option tree.Expression))
  pub is_head : DesignatedIs names depth head left
  pub are_parts : PartsText names depth (AfterInitial head) parts right
  pub is_end : end ≡ end_of (AfterInitial head) parts
  pub cut : text ≡ left ++ right

comma_text : (names : List (List ℕ)) (depth comma : ℕ) (last : Option tree.Expression) → PartText names depth (AfterInitial last) None (expected (end_of_initial last) (mark punctuator.Comma comma) ∷ [])
comma_text names depth comma last = record { inner = comma; is = refl; derives = mark-one punctuator.Comma (expected (end_of_initial last)) comma }

after_comma : (end : Role) (e : Role) → end ≡ e → (prefix text right : List Leaf) (comma : ℕ) → prefix ++ (text ++ expected end (mark punctuator.Comma comma) ∷ right) ≡ (prefix ++ text) ++ expected e (mark punctuator.Comma comma) ∷ right
after_comma end e same prefix text right comma = ap (λ (r : Role). prefix ++ (text ++ expected r (mark punctuator.Comma comma) ∷ right)) same ∙ sym (append_assoc prefix text (expected e (mark punctuator.Comma comma) ∷ right))

pub split : (names : List (List ℕ)) (depth : ℕ) (end : Role) (text : List Leaf) → grammar.InitializerList names depth end text → Split names depth end text
split names depth end text (grammar.last d e prefix t k h) =
    let b = initial_back names d e t h in
    record { head = b.last; left = prefix ++ t; right = []; parts = []; is_head = record { prefix = prefix; inside = t; designation = k; initial = b.derives; cut = refl }; are_parts = operator.none (AfterInitial b.last); is_end = b.is_end; cut = sym (append-nil (prefix ++ t)) }
split names depth end text (grammar.last_comma d e prefix t comma k h) =
    let b = initial_back names d e t h in
    let one = expected (end_of_initial b.last) (mark punctuator.Comma comma) ∷ [] in
    record {
      head = b.last;
      left = prefix ++ t;
      right = one;
      parts = None ∷ [];
      is_head = record { prefix = prefix; inside = t; designation = k; initial = b.derives; cut = refl };
      are_parts = operator.some (AfterInitial b.last) None [] one [] (comma_text names d comma b.last) (operator.none FollowingComma);
      is_end = refl;
      cut = after_comma e (end_of_initial b.last) b.is_end prefix t [] comma;
    }
split names depth end text (grammar.more d e after prefix t right comma k h rest) =
    let b = initial_back names d e t h in
    let s = split names d after right rest in
    let one = expected (end_of_initial b.last) (mark punctuator.Comma comma) ∷ [] in
    record {
      head = b.last;
      left = prefix ++ t;
      right = one ++ (s.left ++ s.right);
      parts = None ∷ Some s.head ∷ s.parts;
      is_head = record { prefix = prefix; inside = t; designation = k; initial = b.derives; cut = refl };
      are_parts = operator.some (AfterInitial b.last) None (Some s.head ∷ s.parts) one (s.left ++ s.right) (comma_text names d comma b.last)
          (operator.some FollowingComma (Some s.head) s.parts s.left s.right (record { inner = s.head; is = refl; derives = s.is_head }) s.are_parts);
      is_end = s.is_end;
      cut = after_comma e (end_of_initial b.last) b.is_end prefix t right comma ∙ ap (λ l. (prefix ++ t) ++ expected (end_of_initial b.last) (mark punctuator.Comma comma) ∷ l) s.cut;
    }

abbrev ClosedText : (names : List (List ℕ)) → (depth : ℕ) → Option tree.Expression → List Leaf → Type 0
ClosedText names depth = Following (Closed plain punctuator.Assign (DesignatorsOf names depth)) (λ _. InitialIs names depth)

closed_begin : (names : List (List ℕ)) (depth : ℕ) (t : Placed) → begins_designator t.token ≡ true → Begins marks (ClosedText names depth) t
closed_begin names depth t e = first_begins t (closed_begins plain punctuator.Assign t (designators_begin names depth t e)) (λ x. (Some zero_tree, zero_text, computed zero_tree zero_text (zero_conditional names depth 0)))

closed_quiet : (names : List (List ℕ)) (depth : ℕ) → Silent marks roles (ClosedText names depth)
closed_quiet names depth = first_silent (λ x c. no_closed c.inside c.close c.cut) (closed_silent plain punctuator.Assign (designators_some names depth) (designators_silent names depth))
  where
    no_closed : (inside : List Leaf) (close : ℕ) → [] ≡ inside ++ plain (mark punctuator.Assign close) ∷ [] → ⊥
    no_closed [] close e = cc
    no_closed (v ∷ inside) close e = cc

-- where an initial value begins nothing is expected
initial_silent : (names : List (List ℕ)) (depth : ℕ) → Silent marks roles (InitialIs names depth)
initial_silent names depth x u more h = by_text x (u ∷ more) h refl
  where
    by_text : (x : Option tree.Expression) (text : List Leaf) → InitialIs names depth x text → text ≡ u ∷ more → u.role ≡ Nothing
    by_text x text (computed y t h) e = conditional_silent names depth 0 y u more (subst (λ l. Conditional names depth 0 y l) e h)
    by_text x text (empty offset close) e = let head : opens (suc depth) (mark punctuator.LeftBrace offset) ≡ u = cc in sym (ap (λ (l : Leaf). l.role) head)
    by_text x text (list end inside offset close h) e = let head : opens (suc depth) (mark punctuator.LeftBrace offset) ≡ u = cc in sym (ap (λ (l : Leaf). l.role) head)

designated_silent : (names : List (List ℕ)) (depth : ℕ) → Silent marks roles (DesignatedIs names depth)
designated_silent names depth x u more d = by_way (designated_text names depth x (u ∷ more) d)
  where
    by_way : DesignatedText names depth x (u ∷ more) → u.role ≡ Nothing
    by_way (first b) = closed_quiet names depth x u more b
    by_way (second h) = initial_silent names depth x u more h

initial_begins : (names : List (List ℕ)) (depth : ℕ) (t : Placed) → (is_mark punctuator.LeftBrace t.token || begins_designator t.token || begins_expression names t.token) ≡ true → Begins marks (DesignatedIs names depth) t
initial_begins names depth t e = same_begins (text_designated names depth) t (by_brace (is_mark punctuator.LeftBrace t.token) refl e)
  where
    by_designator : (b : Bool) → begins_designator t.token ≡ b → (b || begins_expression names t.token) ≡ true → Begins marks (DesignatedText names depth) t
    by_designator true f e = left_begins t (closed_begin names depth t f)
    by_designator false f e = let b = conditional_begins names depth t e in right_begins t (record { value = Some b.value; first = b.first; more = b.more; derives = computed b.value (b.first ∷ b.more) b.derives; is = b.is })

    by_brace : (b : Bool) → is_mark punctuator.LeftBrace t.token ≡ b → (b || begins_designator t.token || begins_expression names t.token) ≡ true → Begins marks (DesignatedText names depth) t
    by_brace true f e = right_begins t (record { value = None; first = opens (suc depth) (mark punctuator.LeftBrace t.offset); more = plain (mark punctuator.RightBrace 0) ∷ []; derives = empty t.offset 0; is = sym (mark-is punctuator.LeftBrace t t.offset (mark-some punctuator.LeftBrace t f)) })
    by_brace false f e = by_designator (begins_designator t.token) refl e

pub roled-designated : (names : List (List ℕ)) (inner : Parsers) → AllFirm names inner → (depth : ℕ) (initial : Parser Placed Role (Option tree.Expression)) → Firm anything (InitialIs names depth) stop_last initial → Firm anything (DesignatedIs names depth) stop_last (read_designated inner depth initial)
roled-designated names inner all depth initial is =
    roled-same anything (DesignatedIs names depth) (read_designated inner depth initial) (λ t h. h) (text_designated names depth) (designated_text names depth) (λ tokens. refl)
    (roled-choice begins_designator
    record {
      first_begins = λ last text b. let f = closed_first names depth b.first b.left b.right b.is_first in (f.0, f.1, b.cut ∙ f.2, f.3);
      second_begins = λ last text rest h stops. not_designator names depth last text rest h;
    }
    (closed_begin names depth)
    (closed_quiet names depth)
    (roled-following {stop1 = λ _. anything} (roled-closed punctuator.Assign Nothing plain (λ t. refl) (λ t. refl) (roled-designators names inner all depth) (λ x close. refl)) (λ x left h w. is)
    record {
      ends = λ x y left right rest one two stops. stops_anything (plains marks right ++ rest);
      goes_on = λ x left one. (Some zero_tree, zero_text, computed zero_tree zero_text (zero_conditional names depth 0));
    })
    is)

pub roled-part : (names : List (List ℕ)) (inner : Parsers) (depth : ℕ) (initial : Parser Placed Role (Option tree.Expression)) → Firm anything (DesignatedIs names depth) stop_last (read_designated inner depth initial)
    → (position : ListPosition) → Firm (initials_start names position) (PartText names depth position) stop_part (read_initials_part inner depth initial position)
roled-part names inner depth initial is (AfterInitial last) = firm-map (λ _. None) stop_part (λ x. refl) (roled-mark (λ t. is_mark punctuator.Comma t.token) punctuator.Comma (end_of_initial last) (expected (end_of_initial last)) (λ t. refl) (λ t. refl))
roled-part names inner depth initial is FollowingComma = firm-map (λ last. Some last) stop_part (λ x. refl) (roled-enter (λ t. begins_initial names t.token) is)

part_begins : (names : List (List ℕ)) (depth : ℕ) (position : ListPosition) (t : Placed) → initials_start names position t ≡ true → Begins marks (PartText names depth position) t
part_begins names depth (AfterInitial last) t e = record { value = None; first = expected (end_of_initial last) t; more = []; derives = record { inner = t.offset; is = refl; derives = record { token = t; is = mark-some punctuator.Comma t e; cut = refl } }; is = refl }
part_begins names depth FollowingComma t e = map_begins (λ last. Some last) t (initial_begins names depth t e)

comma_reported : (names : List (List ℕ)) (depth : ℕ) (last : Option tree.Expression) (u : Leaf) → Next marks (PartText names depth (AfterInitial last)) [] u → u.role ≡ end_of_initial last
comma_reported names depth last u n = by_before n.before n.derives n.same
  where
    by_before : (before : List Leaf) → PartText names depth (AfterInitial last) n.value (before ++ u ∷ n.more) → plains marks before ≡ [] → u.role ≡ end_of_initial last
    by_before [] m same = ap (λ (l : Leaf). l.role) (one_first m.inner u n.more m.derives)
    by_before (v ∷ before) m same = absurd (cc)

part_reported : (names : List (List ℕ)) (depth : ℕ) (position : ListPosition) (u : Leaf) → Next marks (PartText names depth position) [] u → Reported roles u (end_of_position position)
part_reported names depth (AfterInitial last) u n = inl (comma_reported names depth last u n)
part_reported names depth FollowingComma u n = inr (silent_next (map_silent (λ last. Some last) (designated_silent names depth)) u n)

pub part_roles : (names : List (List ℕ)) (inner : Parsers) (depth : ℕ) (initial : Parser Placed Role (Option tree.Expression)) → Firm anything (DesignatedIs names depth) stop_last (read_designated inner depth initial)
    → ItemRoles marks roles (initials_start names) (PartText names depth) next_position (λ _. quiet) end_of_position ⊥ (read_initials_part inner depth initial)
part_roles names inner depth initial is =
    record {
      enters = λ offset t more kind s e. absurd (begun_enters (roled-part names inner depth initial is offset).exact t more kind s (part_begins names depth offset t s) e);
      loose = λ never offset. absurd never;
      begins = λ offset u n. part_reported names depth offset u n;
      ends = λ offset x text one. inl refl;
    }
