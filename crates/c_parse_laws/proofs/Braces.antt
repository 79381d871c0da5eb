-- Initial values keep roles, with fuel for all braces that may still open.
use Rattle.std.proofs.Common.{◌≡◌, ℕ, ◌+◌, List, [], ◌∷◌, ◌++◌, Option, ap, sym, ◌∙◌, append_assoc, refl, Some, None, IsTrue, not, ◌&&◌, suc, subst, inr, ◌≤◌, zero, arith}
use Rattle.c_token_spec.specs.declared.token.Punctuator.TheVariants as punctuator
use Rattle.c_token_spec.specs.Lexical.{Placed}
use Rattle.c_syntax_spec.specs.Expression as tree
use Rattle.c_parse_spec.specs.declared.Role.{Role}
use Rattle.c_parse_spec.specs.declared.Role.TheVariants.{Nothing}
use Rattle.c_parse_spec.specs.Leaves.{Leaf, expected, mark, plain, opens, marks, roles}
use Rattle.c_parse_spec.specs.Expressions.{Conditional}
use Rattle.c_parse_spec.specs.Units as grammar
use Rattle.c_parse_spec.specs.Limits.{nesting_limit, statement_fuel}
use Rattle.exact_read.specs.Reading.{plains, Stops, Parser}
use Rattle.exact_read.specs.Grammar as operator
use Rattle.exact_read.specs.Grammar.{One, Then, Map, first, second, Or, anything, context_after, stop_many, read_many}
use Rattle.exact_read.proofs.Basics.{plains-two}
use Rattle.exact_read.proofs.Many.{many_opens}
use Rattle.c_parse_laws.specs.Classes.{mark_offset, is_mark}
use Rattle.c_parse_laws.specs.Parsers.{Parsers}
use Rattle.c_parse_laws.proofs.Marks.{one-mark, mark-one, Following, roled-mark, mark-self, mark-some, roled-opened, roled-choice, after_begins, after_silent, map_begins, map_silent, one_first}
use Rattle.c_parse_laws.specs.TypeExactness.{AllFirm}
use Rattle.c_parse_laws.proofs.Dimensions.{within_opens}
use Rattle.c_parse_laws.proofs.Firsts.{conditional_first, first_not_mark}
use Rattle.c_parse_laws.proofs.Tokens.{or_right}
use Rattle.c_parse_laws.specs.Initializers.{AfterInitial, ListPosition, FollowingComma, initials_start, next_position, read_designated, read_initials_part, read_initials, end_of_position, read_initial_around, read_initial}
use Rattle.c_parse_laws.proofs.StatementLists.{end_of, DesignatedIs, PartsText, made, split, ends_position, InitialIs, computed, empty, list, designated_first, stop_last, part_items, roled-designated, roled-part, part_roles}
use Rattle.exact_read.specs.Roles.{Roled}
use Rattle.exact_read.proofs.RoleBasics.{roled-same}
use Rattle.exact_read.proofs.RoleThen.{roled-then, roled-then_within}
use Rattle.exact_read.proofs.RoleMany.{many_ending, roled-many}
use Rattle.c_parse_laws.specs.Firm.{Firm}
use Rattle.c_parse_laws.proofs.Firm.{firm-map}
use Rattle.c_parse_laws.proofs.Listed.{follows_token}

-- initial values, and the `}` after them
record InBraces (names : List (List ℕ)) (depth : ℕ) (u : Unit {0}) (text : List Leaf) : Type 0 where
  end : Role
  inside : List Leaf
  close : ℕ
  derives : grammar.InitializerList names depth end inside
  cut : text ≡ inside ++ expected end (mark punctuator.RightBrace close) ∷ []

abbrev Parts : Type 0
Parts = List (Option (Option tree.Expression))

abbrev Inner : Type 0
Inner = Option tree.Expression × (Parts × ℕ)

abbrev put_brace : Option tree.Expression → Parts → Placed → Leaf
put_brace last parts = expected (end_of (AfterInitial last) parts)

abbrev InsideText : (names : List (List ℕ)) → (depth : ℕ) → Inner → List Leaf → Type 0
InsideText names depth = Then (DesignatedIs names depth) (λ last. Then (PartsText names depth (AfterInitial last)) (λ parts. One (put_brace last parts) (mark_offset punctuator.RightBrace)))

text_braces : (names : List (List ℕ)) (depth : ℕ) (u : Unit {0}) (text : List Leaf) → Map (λ (_ : Inner). tt {0}) (InsideText names depth) u text → InBraces names depth u text
text_braces names depth u text m =
    let t = m.derives in
    let v = t.second in
    let last = m.inner.0 in
    let parts = m.inner.1.0 in
    record {
      end = end_of (AfterInitial last) parts;
      inside = t.left ++ v.left;
      close = m.inner.1.1;
      derives = made names depth (AfterInitial last) parts v.left v.first t.left t.first;
      cut = t.cut ∙ ap (λ l. t.left ++ l) (v.cut ∙ ap (λ l. v.left ++ l) (one-mark punctuator.RightBrace (put_brace last parts) m.inner.1.1 v.right v.second))
          ∙ sym (append_assoc t.left v.left (expected (end_of (AfterInitial last) parts) (mark punctuator.RightBrace m.inner.1.1) ∷ []));
    }

braces_text : (names : List (List ℕ)) (depth : ℕ) (u : Unit {0}) (text : List Leaf) → InBraces names depth u text → Map (λ (_ : Inner). tt {0}) (InsideText names depth) u text
braces_text names depth u text e =
    let s = split names depth e.end e.inside e.derives in
    let last = put_brace s.head s.parts (mark punctuator.RightBrace e.close) ∷ [] in
    record {
      inner = (s.head, (s.parts, e.close));
      is = refl;
      derives = record {
        left = s.left;
        right = s.right ++ last;
        cut = e.cut ∙ ap (λ (r : Role). e.inside ++ expected r (mark punctuator.RightBrace e.close) ∷ []) s.is_end ∙ ap (λ l. l ++ last) s.cut ∙ append_assoc s.left s.right last;
        first = s.is_head;
        second = record { left = s.right; right = last; cut = refl; first = s.are_parts; second = mark-one punctuator.RightBrace (put_brace s.head s.parts) e.close };
      };
    }

brace_ends : (names : List (List ℕ)) (position : ListPosition) (close : ℕ) → IsTrue (ends_position position (mark punctuator.RightBrace close) && not (initials_start names position (mark punctuator.RightBrace close)))
brace_ends names (AfterInitial None) close = refl
brace_ends names (AfterInitial (Some x)) close = refl
brace_ends names FollowingComma close = refl

-- in braces, nothing or initial values
abbrev BracedText : (names : List (List ℕ)) → (depth : ℕ) → Option tree.Expression → List Leaf → Type 0
BracedText names depth = Or (Map (λ (_ : ℕ). None) (One plain (mark_offset punctuator.RightBrace))) (Map (λ (_ : Unit {0}). None) (InBraces names depth))

abbrev AroundText : (names : List (List ℕ)) → (depth : ℕ) → Option tree.Expression → List Leaf → Type 0
AroundText names depth = Or (Following (One (opens (suc depth)) (mark_offset punctuator.LeftBrace)) (λ _. BracedText names (suc depth))) (Map (λ x. Some x) (Conditional names depth 0))

text_around : (names : List (List ℕ)) (depth : ℕ) (last : Option tree.Expression) (text : List Leaf) → AroundText names depth last text → InitialIs names depth last text
text_around names depth last text (second m) = rw m.is (computed m.inner text m.derives)
text_around names depth last text (first b) =
    subst (λ l. InitialIs names depth last l) (sym (b.cut ∙ ap (λ l. l ++ b.right) (one-mark punctuator.LeftBrace (opens (suc depth)) b.first b.left b.is_first))) (by_inside b.right b.is_second)
  where
    by_inside : (right : List Leaf) → BracedText names (suc depth) last right → InitialIs names depth last (opens (suc depth) (mark punctuator.LeftBrace b.first) ∷ right)
    by_inside right (first m) = rw (m.is, one-mark punctuator.RightBrace plain m.inner right m.derives) (empty b.first m.inner)
    by_inside right (second m) = let i = m.derives in rw (m.is, i.cut) (list i.end i.inside b.first i.close i.derives)

around_text : (names : List (List ℕ)) (depth : ℕ) (last : Option tree.Expression) (text : List Leaf) → InitialIs names depth last text → AroundText names depth last text
around_text names depth last text (computed x t h) = second (record { inner = x; is = refl; derives = h })
around_text names depth last text (empty offset close) =
    first (record { first = offset; left = opens (suc depth) (mark punctuator.LeftBrace offset) ∷ []; right = plain (mark punctuator.RightBrace close) ∷ []; is_first = mark-one punctuator.LeftBrace (opens (suc depth)) offset; is_second = first (record { inner = close; is = refl; derives = mark-one punctuator.RightBrace plain close }); cut = refl })
around_text names depth last text (list end inside offset close h) =
    first (record { first = offset; left = opens (suc depth) (mark punctuator.LeftBrace offset) ∷ []; right = inside ++ expected end (mark punctuator.RightBrace close) ∷ []; is_first = mark-one punctuator.LeftBrace (opens (suc depth)) offset; is_second = second (record { inner = tt; is = refl; derives = record { end = end; inside = inside; close = close; derives = h; cut = refl } }); cut = refl })

not_close : (names : List (List ℕ)) (depth : ℕ) (u : Unit {0}) (text : List Leaf) (rest : List Placed) → InBraces names depth u text → Stops (λ t. not (is_mark punctuator.RightBrace t.token)) (plains marks text ++ rest)
not_close names depth u text rest i =
    let s = split names depth i.end i.inside i.derives in
    let f = designated_first names depth s.head s.left s.is_head in
    let close = expected i.end (mark punctuator.RightBrace i.close) ∷ [] in
    subst (λ l. Stops (λ t. not (is_mark punctuator.RightBrace t.token)) (plains marks l ++ rest)) (sym (i.cut ∙ ap (λ l. l ++ close) (s.cut ∙ ap (λ l. l ++ s.right) f.cut))) (rw f.no_brace refl)

roled-braces : (names : List (List ℕ)) (inner : Parsers) → AllFirm names inner → (depth : ℕ) (initial : Parser Placed Role (Option tree.Expression)) → Firm anything (InitialIs names depth) stop_last initial → Firm anything (InBraces names depth) (λ _. anything) (read_initials names inner depth initial)
roled-braces names inner all depth initial initial_is =
    roled-same anything (InBraces names depth) (read_initials names inner depth initial) (λ t h. h) (text_braces names depth) (braces_text names depth) (λ tokens. refl)
    (firm-map (λ (_ : Inner). tt {0}) (λ _. anything) (λ x. refl)
    (roled-then is (λ last. roled-then_within (parts_exact last) (λ parts left one within. roled-mark (stop_many (initials_start names) ends_position next_position (AfterInitial last) parts) punctuator.RightBrace (end_of (AfterInitial last) parts) (put_brace last parts) (λ t. refl) (λ t. refl))
    record {
      ends = λ parts offset left right rest one two stops. at_end last parts offset right rest two;
      goes_on = λ parts left one. (0, put_brace last parts (mark punctuator.RightBrace 0) ∷ [], mark-one punctuator.RightBrace (put_brace last parts) 0);
    }
    (follows_token (mark_offset punctuator.RightBrace) (λ parts. end_of (AfterInitial last) parts) (put_brace last) (λ parts left one. inr refl)))
    record {
      ends = λ last pair left right rest one two stops. head_ends last pair right rest two;
      goes_on = λ last left one. (([], 0), put_brace last [] (mark punctuator.RightBrace 0) ∷ [], record { left = []; right = put_brace last [] (mark punctuator.RightBrace 0) ∷ []; cut = refl; first = operator.none (AfterInitial last); second = mark-one punctuator.RightBrace (put_brace last []) 0 });
    }))
  where
    is : Firm anything (DesignatedIs names depth) stop_last (read_designated inner depth initial)
    is = roled-designated names inner all depth initial initial_is

    parts_exact : (last : Option tree.Expression) → Roled marks roles (stop_last last) (PartsText names depth (AfterInitial last)) (stop_many (initials_start names) ends_position next_position (AfterInitial last)) (many_ending next_position end_of_position (AfterInitial last)) ⊥ (read_many (initials_start names) (read_initials_part inner depth initial) next_position (AfterInitial last))
    parts_exact last =
        roled-same (stop_last last) (PartsText names depth (AfterInitial last)) (read_many (initials_start names) (read_initials_part inner depth initial) next_position (AfterInitial last))
        (λ t h. or_right (is_mark punctuator.Comma t.token) (stop_last last t) h) (λ x text h. h) (λ x text h. h) (λ tokens. refl)
        (roled-many (part_items names depth) (part_roles names inner depth initial is) (roled-part names inner depth initial is) (AfterInitial last))

    at_end : (last : Option tree.Expression) (parts : Parts) (offset : ℕ) (right : List Leaf) (rest : List Placed) → One (put_brace last parts) (mark_offset punctuator.RightBrace) offset right → Stops (stop_many (initials_start names) ends_position next_position (AfterInitial last) parts) (plains marks right ++ rest)
    at_end last parts offset right rest one =
        subst (λ r. Stops (stop_many (initials_start names) ends_position next_position (AfterInitial last) parts) (plains marks r ++ rest)) (sym (one-mark punctuator.RightBrace (put_brace last parts) offset right one)) (brace_ends names (context_after next_position (AfterInitial last) parts) offset)

    head_ends : (last : Option tree.Expression) (pair : Parts × ℕ) (right : List Leaf) (rest : List Placed) → Then (PartsText names depth (AfterInitial last)) (λ parts. One (put_brace last parts) (mark_offset punctuator.RightBrace)) pair right → Stops (stop_last last) (plains marks right ++ rest)
    head_ends last pair right rest t =
        let opened : Stops (operator.opens (initials_start names) ends_position (AfterInitial last)) (plains marks t.left ++ (plains marks t.right ++ rest)) =
        many_opens (part_items names depth) (AfterInitial last) pair.0 t.left (plains marks t.right ++ rest) t.first (at_end last pair.0 pair.1 t.right rest t.second) in
        subst (Stops (stop_last last)) (sym (ap (λ r. plains marks r ++ rest) t.cut ∙ plains-two marks t.left t.right rest)) ((part_items names depth).stops_item FollowingComma (Some last) (plains marks t.left ++ (plains marks t.right ++ rest)) opened)

some_braced : (names : List (List ℕ)) (depth : ℕ) → (last : Option tree.Expression) × (right : List Leaf) × BracedText names (suc depth) last right
some_braced names depth = (None, plain (mark punctuator.RightBrace 0) ∷ [], first (record { inner = 0; is = refl; derives = mark-one punctuator.RightBrace plain 0 }))

-- where initial values one construct deeper keep roles
roled-around : (names : List (List ℕ)) (inner : Parsers) → AllFirm names inner → (depth : ℕ) (initial : Parser Placed Role (Option tree.Expression)) → (suc depth ≤ nesting_limit → Firm anything (InitialIs names (suc depth)) stop_last initial) → Firm anything (InitialIs names depth) stop_last (read_initial_around names inner depth initial)
roled-around names inner all depth initial deeper =
    roled-same anything (InitialIs names depth) (read_initial_around names inner depth initial) (λ t h. h) (text_around names depth) (around_text names depth) (λ tokens. refl)
    (roled-choice (is_mark punctuator.LeftBrace)
    record {
      first_begins = λ last text b. (opens (suc depth) (mark punctuator.LeftBrace b.first), b.right, b.cut ∙ ap (λ l. l ++ b.right) (one-mark punctuator.LeftBrace (opens (suc depth)) b.first b.left b.is_first), refl);
      second_begins = λ last text rest m stops. first_not_mark names punctuator.LeftBrace refl text rest (conditional_first names depth 0 m.inner text m.derives);
    }
    (λ t e. after_begins (mark_offset punctuator.LeftBrace) (opens (suc depth)) (λ t. refl) t t.offset (mark-some punctuator.LeftBrace t e) (some_braced names depth))
    (after_silent (mark_offset punctuator.LeftBrace) (opens (suc depth)) (λ t. refl))
    (roled-opened (mark_offset punctuator.LeftBrace) Nothing (opens (suc depth)) (λ t. refl) (λ t. refl) (mark punctuator.LeftBrace 0) 0 (mark-self punctuator.LeftBrace 0)
    (λ offset. (None, plain (mark punctuator.RightBrace 0) ∷ [], first (record { inner = 0; is = refl; derives = mark-one punctuator.RightBrace plain 0 })))
    (λ offset t e within. roled-choice (is_mark punctuator.RightBrace)
    record {
      first_begins = λ last text m. (plain (mark punctuator.RightBrace m.inner), [], one-mark punctuator.RightBrace plain m.inner text m.derives, refl);
      second_begins = λ last text rest m stops. not_close names (suc depth) m.inner text rest m.derives;
    }
    (λ t e. map_begins (λ (_ : ℕ). None) t (record { value = t.offset; first = plain t; more = []; derives = record { token = t; is = mark-some punctuator.RightBrace t e; cut = refl }; is = refl }))
    (map_silent (λ (_ : ℕ). None) (λ x u more o. ap (λ (l : Leaf). l.role) (one_first x u more o)))
    (firm-map (λ (_ : ℕ). None) stop_last (λ x. refl) (roled-mark anything punctuator.RightBrace Nothing plain (λ t. refl) (λ t. refl)))
    (firm-map (λ (_ : Unit {0}). None) stop_last (λ x. refl) (roled-braces names inner all (suc depth) initial (deeper (within_opens (suc depth) t within))))))
    (firm-map (λ x. Some x) stop_last (λ x. refl) (all.conditional depth 0)))

pub roled-initial : (names : List (List ℕ)) (inner : Parsers) → AllFirm names inner → (fuel depth : ℕ) → depth ≤ nesting_limit → statement_fuel ≤ depth + fuel → Firm anything (InitialIs names depth) stop_last (read_initial names inner fuel depth)
unfolding read_initial
roled-initial names inner all zero depth small enough_fuel = absurd (omega arith)
roled-initial names inner all (suc fuel) depth small enough_fuel = roled-around names inner all depth (read_initial names inner fuel (suc depth)) (λ most. roled-initial names inner all fuel (suc depth) most (omega arith))
