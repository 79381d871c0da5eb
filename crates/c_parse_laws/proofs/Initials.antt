-- Designators of initial values keep roles.
use Rattle.std.proofs.Common.{List, ℕ, suc, ◌∷◌, ◌++◌, ap, sym, ◌∙◌, subst, [], refl, ◌≡◌, true, append-nil, Bool, false, ◌||◌, not}
use Rattle.c_token_spec.specs.declared.token.Punctuator.TheVariants as punctuator
use Rattle.c_syntax_spec.specs.Expression as tree
use Rattle.c_parse_spec.specs.declared.Role.TheVariants.{OperandEnd, Nothing}
use Rattle.c_parse_spec.specs.Leaves.{Leaf, plain, expected, opens, mark, named, marks, roles}
use Rattle.c_parse_spec.specs.Expressions.{Conditional}
use Rattle.c_parse_spec.specs.Units as grammar
use Rattle.exact_read.specs.Reading.{plains, Stops}
use Rattle.exact_read.specs.Grammar.{One, Map, Or, first, second, anything, Then, Many, none, some, read_many}
use Rattle.exact_read.proofs.Parts.{stops_anything}
use Rattle.exact_read.proofs.Many.{Items}
use Rattle.c_parse_laws.specs.Classes.{mark_offset, name_at, is_mark}
use Rattle.c_parse_laws.specs.Exactness.{Closed}
use Rattle.c_parse_laws.specs.Parsers.{Parsers}
use Rattle.c_parse_laws.proofs.Marks.{Following, one-mark, mark-one, mark-some, after_begins, same_begins, after_silent, mark-self, roled-closed, roled-opened, roled-choice}
use Rattle.c_parse_laws.proofs.Samples.{zero_tree, zero_text, zero_conditional}
use Rattle.c_parse_laws.proofs.Suffixes.{one-name, name-one}
use Rattle.c_parse_laws.specs.TypeExactness.{AllFirm}
use Rattle.c_parse_laws.proofs.Tokens.{stops_or_true}
use Rattle.c_parse_laws.specs.Initializers.{begins_designator, read_designator, read_designators}
use Rattle.c_token_spec.specs.Lexical.{Placed}
use Rattle.exact_read.proofs.RoleBasics.{roled-same, roled-enter}
use Rattle.exact_read.proofs.RoleBegins.{Begins, Silent}
use Rattle.exact_read.proofs.RoleThen.{roled-then}
use Rattle.c_parse_laws.specs.Firm.{Firm}
use Rattle.c_parse_laws.proofs.Firm.{firm-map, firm-one, firm-many}

-- `.` and a member, or an index
abbrev DotText : Unit {0} → List Leaf → Type 0
DotText = Following (One plain (mark_offset punctuator.Dot)) (λ _. Map (λ (_ : tree.Name). tt {0}) (One plain name_at))

abbrev ElementText : (names : List (List ℕ)) → (depth : ℕ) → Unit {0} → List Leaf → Type 0
ElementText names depth = Following (One (opens (suc depth)) (mark_offset punctuator.LeftBracket)) (λ _. Map (λ (_ : tree.Expression). tt {0}) (Closed (expected OperandEnd) punctuator.RightBracket (Conditional names (suc depth) 0)))

abbrev DesignatorOf : (names : List (List ℕ)) → (depth : ℕ) → Unit {0} → List Leaf → Type 0
DesignatorOf names depth u text = grammar.Designator names depth text

text_designator : (names : List (List ℕ)) (depth : ℕ) (u : Unit {0}) (text : List Leaf) → Or DotText (ElementText names depth) u text → DesignatorOf names depth u text
text_designator names depth u text (first b) =
    let m = b.is_second in
    subst (λ l. grammar.Designator names depth l) (sym (b.cut ∙ ap (λ l. l ++ b.right) (one-mark punctuator.Dot plain b.first b.left b.is_first) ∙ ap (λ l. plain (mark punctuator.Dot b.first) ∷ l) (one-name m.inner b.right m.derives))) (grammar.member depth m.inner b.first)
text_designator names depth u text (second b) =
    let m = b.is_second in
    let c = m.derives in
    subst (λ l. grammar.Designator names depth l) (sym (b.cut ∙ ap (λ l. l ++ b.right) (one-mark punctuator.LeftBracket (opens (suc depth)) b.first b.left b.is_first) ∙ ap (λ l. opens (suc depth) (mark punctuator.LeftBracket b.first) ∷ l) c.cut)) (grammar.element depth m.inner c.inside b.first c.close c.derives)

designator_text : (names : List (List ℕ)) (depth : ℕ) (u : Unit {0}) (text : List Leaf) → DesignatorOf names depth u text → Or DotText (ElementText names depth) u text
designator_text names depth u text (grammar.member d n offset) =
    first (record { first = offset; left = plain (mark punctuator.Dot offset) ∷ []; right = plain (named n) ∷ []; is_first = mark-one punctuator.Dot plain offset; is_second = record { inner = n; is = refl; derives = name-one n }; cut = refl })
designator_text names depth u text (grammar.element d x inside offset close h) =
    second (record { first = offset; left = opens (suc d) (mark punctuator.LeftBracket offset) ∷ []; right = inside ++ expected OperandEnd (mark punctuator.RightBracket close) ∷ []; is_first = mark-one punctuator.LeftBracket (opens (suc d)) offset; is_second = record { inner = x; is = refl; derives = record { inside = inside; close = close; derives = h; cut = refl } }; cut = refl })

designator_first : (names : List (List ℕ)) (depth : ℕ) (text : List Leaf) → grammar.Designator names depth text → (u : Leaf) × (others : List Leaf) × (text ≡ u ∷ others) × (begins_designator u.token.token ≡ true)
designator_first names depth text (grammar.member d n offset) = (plain (mark punctuator.Dot offset), _, refl, refl)
designator_first names depth text (grammar.element d x inside offset close h) = (opens (suc d) (mark punctuator.LeftBracket offset), _, refl, refl)

-- designators, one after the other
designator_items : (names : List (List ℕ)) (depth : ℕ) → Items marks (λ (_ : Unit {0}) t. begins_designator t.token) (λ _ _. true) (λ _. DesignatorOf names depth) (λ _ _. anything) (λ (_ _ : Unit {0}). tt {0})
designator_items names depth =
    record {
      begins = λ c u text h. designator_first names depth text h;
      opens_next = λ c u rest stops. stops_or_true (λ t. begins_designator t.token) rest;
      stops_item = λ c u rest stops. stops_anything rest;
    }

-- one designator or more, as the grammar has them
abbrev SeveralText : (names : List (List ℕ)) → (depth : ℕ) → Unit {0} × List (Unit {0}) → List Leaf → Type 0
SeveralText names depth = Then (DesignatorOf names depth) (λ _. Many (λ (_ _ : Unit {0}). tt {0}) (λ _. DesignatorOf names depth) tt)

abbrev pub DesignatorsOf : (names : List (List ℕ)) → (depth : ℕ) → Unit {0} → List Leaf → Type 0
DesignatorsOf names depth u text = grammar.Designators names depth text

several : (names : List (List ℕ)) (depth : ℕ) (c : Unit {0}) (xs : List (Unit {0})) (text left : List Leaf) → Many (λ (_ _ : Unit {0}). tt {0}) (λ _. DesignatorOf names depth) c xs text → grammar.Designator names depth left → grammar.Designators names depth (left ++ text)
several names depth c xs text left (none d) h = subst (λ l. grammar.Designators names depth l) (sym (append-nil left)) (grammar.one depth left h)
several names depth c xs text left (some d u us one two k rest) h = grammar.more_designators depth left (one ++ two) h (several names depth tt us two one rest k)

text_designators : (names : List (List ℕ)) (depth : ℕ) (u : Unit {0}) (text : List Leaf) → Map (λ (_ : Unit {0} × List (Unit {0})). tt {0}) (SeveralText names depth) u text → DesignatorsOf names depth u text
text_designators names depth u text m = let t = m.derives in subst (λ l. grammar.Designators names depth l) (sym t.cut) (several names depth tt m.inner.1 t.right t.left t.second t.first)

record Several (names : List (List ℕ)) (depth : ℕ) (text : List Leaf) : Type 0 where
  us : List (Unit {0})
  left : List Leaf
  right : List Leaf
  head : grammar.Designator names depth left
  rest : Many (λ (_ _ : Unit {0}). tt {0}) (λ _. DesignatorOf names depth) tt us right
  cut : text ≡ left ++ right

designators_several : (names : List (List ℕ)) (depth : ℕ) (text : List Leaf) → grammar.Designators names depth text → Several names depth text
designators_several names depth text (grammar.one d t h) = record { us = []; left = t; right = []; head = h; rest = none tt; cut = sym (append-nil t) }
designators_several names depth text (grammar.more_designators d left right h k) =
    let s = designators_several names d right k in
    record { us = tt ∷ s.us; left = left; right = s.left ++ s.right; head = h; rest = some tt tt s.us s.left s.right s.head s.rest; cut = ap (λ l. left ++ l) s.cut }

designators_text : (names : List (List ℕ)) (depth : ℕ) (u : Unit {0}) (text : List Leaf) → DesignatorsOf names depth u text → Map (λ (_ : Unit {0} × List (Unit {0})). tt {0}) (SeveralText names depth) u text
designators_text names depth u text h = let s = designators_several names depth text h in record { inner = (tt, s.us); is = refl; derives = record { left = s.left; right = s.right; cut = s.cut; first = s.head; second = s.rest } }

-- what designators begin with, and some
pub designators_first : (names : List (List ℕ)) (depth : ℕ) (text : List Leaf) → grammar.Designators names depth text → (u : Leaf) × (others : List Leaf) × (text ≡ u ∷ others) × (begins_designator u.token.token ≡ true)
designators_first names depth text (grammar.one d t h) = designator_first names d t h
designators_first names depth text (grammar.more_designators d left right h k) = let f = designator_first names d left h in (f.0, f.1 ++ right, ap (λ l. l ++ right) f.2, f.3)

some_member : (u : Unit {0}) × (right : List Leaf) × Map (λ (_ : tree.Name). tt {0}) (One plain name_at) u right
some_member = (tt, plain (named (record { spelling = []; offset = 0 })) ∷ [], record { inner = record { spelling = []; offset = 0 }; is = refl; derives = name-one (record { spelling = []; offset = 0 }) })

some_element : (names : List (List ℕ)) (depth : ℕ) → (u : Unit {0}) × (right : List Leaf) × Map (λ (_ : tree.Expression). tt {0}) (Closed (expected OperandEnd) punctuator.RightBracket (Conditional names (suc depth) 0)) u right
some_element names depth = (tt, zero_text ++ expected OperandEnd (mark punctuator.RightBracket 0) ∷ [], record { inner = zero_tree; is = refl; derives = record { inside = zero_text; close = 0; derives = zero_conditional names (suc depth) 0; cut = refl } })

-- what begins one of two texts begins either
pub left_begins : {X : Type 0} {S1 S2 : X → List Leaf → Type 0} (t : Placed) → Begins marks S1 t → Begins marks (Or S1 S2) t
left_begins t b = record { value = b.value; first = b.first; more = b.more; derives = first b.derives; is = b.is }

pub right_begins : {X : Type 0} {S1 S2 : X → List Leaf → Type 0} (t : Placed) → Begins marks S2 t → Begins marks (Or S1 S2) t
right_begins t b = record { value = b.value; first = b.first; more = b.more; derives = second b.derives; is = b.is }

-- each `.` and each `[` begins a designator, and has no role
designator_begins : (names : List (List ℕ)) (depth : ℕ) (t : Placed) → begins_designator t.token ≡ true → Begins marks (DesignatorOf names depth) t
designator_begins names depth t e = same_begins (text_designator names depth) t (by_dot (is_mark punctuator.Dot t.token) refl e)
  where
    by_dot : (b : Bool) → is_mark punctuator.Dot t.token ≡ b → (b || is_mark punctuator.LeftBracket t.token) ≡ true → Begins marks (Or DotText (ElementText names depth)) t
    by_dot true f e = left_begins t (after_begins (mark_offset punctuator.Dot) plain (λ t. refl) t t.offset (mark-some punctuator.Dot t f) some_member)
    by_dot false f e = right_begins t (after_begins (mark_offset punctuator.LeftBracket) (opens (suc depth)) (λ t. refl) t t.offset (mark-some punctuator.LeftBracket t e) (some_element names depth))

or_silent : (names : List (List ℕ)) (depth : ℕ) → Silent marks roles (Or DotText (ElementText names depth))
or_silent names depth x u more (first b) = after_silent (mark_offset punctuator.Dot) plain (λ t. refl) x u more b
or_silent names depth x u more (second b) = after_silent (mark_offset punctuator.LeftBracket) (opens (suc depth)) (λ t. refl) x u more b

designator_silent : (names : List (List ℕ)) (depth : ℕ) → Silent marks roles (DesignatorOf names depth)
designator_silent names depth x u more h = or_silent names depth x u more (designator_text names depth x (u ∷ more) h)

roled-designator : (names : List (List ℕ)) (inner : Parsers) → AllFirm names inner → (depth : ℕ) → Firm anything (DesignatorOf names depth) (λ _. anything) (read_designator inner depth)
roled-designator names inner all depth =
    roled-same anything (DesignatorOf names depth) (read_designator inner depth) (λ t h. h) (text_designator names depth) (designator_text names depth) (λ tokens. refl)
    (roled-choice (is_mark punctuator.Dot)
    record {
      first_begins = λ u text b. (plain (mark punctuator.Dot b.first), b.right, b.cut ∙ ap (λ l. l ++ b.right) (one-mark punctuator.Dot plain b.first b.left b.is_first), refl);
      second_begins = λ u text rest b stops. subst (λ l. Stops (λ t. not (is_mark punctuator.Dot t.token)) (plains marks l ++ rest)) (sym (b.cut ∙ ap (λ l. l ++ b.right) (one-mark punctuator.LeftBracket (opens (suc depth)) b.first b.left b.is_first))) refl;
    }
    (λ t e. after_begins (mark_offset punctuator.Dot) plain (λ t. refl) t t.offset (mark-some punctuator.Dot t e) some_member)
    (after_silent (mark_offset punctuator.Dot) plain (λ t. refl))
    (roled-opened (mark_offset punctuator.Dot) Nothing plain (λ t. refl) (λ t. refl) (mark punctuator.Dot 0) 0 (mark-self punctuator.Dot 0)
    (λ offset. (tt, plain (named (record { spelling = []; offset = 0 })) ∷ [], record { inner = record { spelling = []; offset = 0 }; is = refl; derives = name-one (record { spelling = []; offset = 0 }) }))
    (λ offset t e within. firm-map (λ (_ : tree.Name). tt {0}) (λ _. anything) (λ x. refl) (firm-one anything plain name_at Nothing (λ t. refl) (λ t. refl) (named (record { spelling = []; offset = 0 })) (record { spelling = []; offset = 0 }) refl)))
    (roled-opened (mark_offset punctuator.LeftBracket) Nothing (opens (suc depth)) (λ t. refl) (λ t. refl) (mark punctuator.LeftBracket 0) 0 (mark-self punctuator.LeftBracket 0)
    (λ offset. (tt, zero_text ++ expected OperandEnd (mark punctuator.RightBracket 0) ∷ [], record { inner = zero_tree; is = refl; derives = record { inside = zero_text; close = 0; derives = zero_conditional names (suc depth) 0; cut = refl } }))
    (λ offset t e within. firm-map (λ (_ : tree.Expression). tt {0}) (λ _. anything) (λ x. refl) (roled-closed punctuator.RightBracket OperandEnd (expected OperandEnd) (λ t. refl) (λ t. refl) (all.conditional (suc depth) 0) (λ x close. refl)))))

roled-more_designators : (names : List (List ℕ)) (inner : Parsers) → AllFirm names inner → (depth : ℕ) → Firm anything (Many (λ (_ _ : Unit {0}). tt {0}) (λ _. DesignatorOf names depth) tt) (λ _ t. not (begins_designator t.token)) (read_many (λ (_ : Unit {0}) next. begins_designator next.token) (λ _. read_designator inner depth) (λ _ _. tt {0}) (tt {0}))
roled-more_designators names inner all depth =
    roled-same anything (Many (λ (_ _ : Unit {0}). tt {0}) (λ _. DesignatorOf names depth) tt) (read_many (λ (_ : Unit {0}) next. begins_designator next.token) (λ _. read_designator inner depth) (λ _ _. tt {0}) (tt {0}))
    (λ t h. stops_or_true (λ t. begins_designator t.token) (t ∷ [])) (λ x text h. h) (λ x text h. h) (λ tokens. refl)
    (firm-many (designator_items names depth) (λ c. designator_begins names depth) (λ c. designator_silent names depth) (λ c. roled-enter (λ t. begins_designator t.token) (roled-designator names inner all depth)) tt)

pub roled-designators : (names : List (List ℕ)) (inner : Parsers) → AllFirm names inner → (depth : ℕ) → Firm anything (DesignatorsOf names depth) (λ _ t. not (begins_designator t.token)) (read_designators inner depth)
roled-designators names inner all depth =
    roled-same anything (DesignatorsOf names depth) (read_designators inner depth) (λ t h. h) (text_designators names depth) (designators_text names depth) (λ tokens. refl)
    (firm-map (λ (_ : Unit {0} × List (Unit {0})). tt {0}) (λ _ t. not (begins_designator t.token)) (λ x. refl)
    (roled-then {stop2 = λ _ _ t. not (begins_designator t.token)} (roled-designator names inner all depth) (λ _. roled-more_designators names inner all depth)
    record {
      ends = λ x y left right rest one two stops. stops_anything (plains marks right ++ rest);
      goes_on = λ x left one. ([], [], none tt);
    }))

pub designators_begin : (names : List (List ℕ)) (depth : ℕ) (t : Placed) → begins_designator t.token ≡ true → Begins marks (DesignatorsOf names depth) t
designators_begin names depth t e = let b = designator_begins names depth t e in record { value = tt; first = b.first; more = b.more; derives = grammar.one depth (b.first ∷ b.more) b.derives; is = b.is }

pub designators_silent : (names : List (List ℕ)) (depth : ℕ) → Silent marks roles (DesignatorsOf names depth)
designators_silent names depth x u more h = by_text (u ∷ more) h refl
  where
    by_left : (left right : List Leaf) → grammar.Designator names depth left → left ++ right ≡ u ∷ more → u.role ≡ Nothing
    by_left [] right h e = let f = designator_first names depth [] h in absurd (let g : [] ≡ f.0 ∷ f.1 = f.2 in cc)
    by_left (v ∷ left) right h e = let head : v ≡ u = cc in subst (λ (l : Leaf). l.role ≡ Nothing) head (designator_silent names depth tt v left h)

    by_text : (text : List Leaf) → grammar.Designators names depth text → text ≡ u ∷ more → u.role ≡ Nothing
    by_text text (grammar.one d t h) e = by_left t [] h (append-nil t ∙ e)
    by_text text (grammar.more_designators d left right h k) e = by_left left right h e

pub designators_some : (names : List (List ℕ)) (depth : ℕ) (x : Unit {0}) → DesignatorsOf names depth x [] → ⊥
designators_some names depth x h = by_text [] h refl
  where
    by_left : (left right : List Leaf) → grammar.Designator names depth left → left ++ right ≡ [] → ⊥
    by_left [] right h e = let f = designator_first names depth [] h in let g : [] ≡ f.0 ∷ f.1 = f.2 in cc
    by_left (v ∷ left) right h e = cc

    by_text : (text : List Leaf) → grammar.Designators names depth text → text ≡ [] → ⊥
    by_text text (grammar.one d t h) e = by_left t [] h (append-nil t ∙ e)
    by_text text (grammar.more_designators d left right h k) e = by_left left right h e
