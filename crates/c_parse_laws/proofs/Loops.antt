-- `for` and `switch` keep roles, where the statements inside do.
use Rattle.std.proofs.Common.{ℕ, List, refl, ◌∙◌, ◌≡◌, true, false, Bool, ◌||◌, ◌∷◌, ◌++◌, ap, [], subst, append-nil, sym, not, Option, None, Some, suc, arith}
use Rattle.c_token_spec.specs.declared.token.Keyword.TheVariants.{For, Switch}
use denote.Enum.Bare.{sameb, same_true}
use Rattle.std.specs.Option.{is_some}
use Rattle.c_token_spec.specs.declared.token.Punctuator.{Punctuator}
use Rattle.c_token_spec.specs.declared.token.Punctuator.TheVariants as punctuator
use Rattle.c_token_spec.specs.contracts.token.Punctuator.{the_type}
use Rattle.c_token_spec.specs.Lexical.{Token, Name as name_token, Word, Number as number_token, Character as character_token, Mark, Placed}
use Rattle.c_syntax_spec.specs.declared.StepOperator.{StepOperator}
use Rattle.c_syntax_spec.specs.declared.StepOperator.TheVariants.{Increment, Decrement}
use Rattle.c_syntax_spec.specs.Expression as tree
use Rattle.c_syntax_spec.specs.Unit as unit
use Rattle.c_parse_spec.specs.declared.Role.TheVariants.{OperandEnd, Nothing}
use Rattle.c_parse_spec.specs.Leaves.{Leaf, plain, marks, expected, opens, mark, keyword_at}
use Rattle.c_parse_spec.specs.Expressions.{Conditional}
use Rattle.c_parse_spec.specs.Statements as grammar
use Rattle.exact_read.specs.Reading.{plains, Stops}
use Rattle.exact_read.specs.Grammar.{One, Map, Or, first, second, Then, anything}
use Rattle.exact_read.proofs.Parts.{stops_anything}
use Rattle.c_parse_laws.specs.Classes.{mark_offset, is_mark}
use Rattle.c_parse_laws.specs.Exactness.{Closed}
use Rattle.c_parse_laws.specs.Parsers.{Parsers}
use Rattle.c_parse_laws.proofs.Marks.{one-mark, mark-one, Following, roled-mark, roled-choice, map_begins, map_silent, roled-closed, mark-self, roled-opened, roled-following}
use Rattle.c_parse_laws.proofs.Samples.{zero_tree}
use Rattle.c_parse_laws.specs.TypeExactness.{AllFirm}
use Rattle.c_parse_laws.specs.Firsts.{begins_expression, begins_by_mark}
use Rattle.c_parse_laws.proofs.Firsts.{First, unary_first, postfix_first, begins-not, conditional_first, first_not_mark}
use Rattle.c_parse_laws.proofs.Dimensions.{within_opens}
use Rattle.c_parse_laws.specs.Values.{step_operator, step_mark}
use Rattle.c_parse_laws.specs.Declarations.{begins_locals}
use Rattle.c_parse_laws.specs.Texts.{LocalsText}
use Rattle.c_parse_laws.proofs.Locals.{roled-locals}
use Rattle.c_parse_laws.proofs.Simples.{roled-simple}
use Rattle.c_parse_laws.specs.Statements.{keyword_offset, read_for_start, read_for_test, read_for_step, Statements, read_for, read_switch}
use Rattle.c_parse_laws.specs.StatementEnds.{stop_statement}
use Rattle.c_parse_laws.proofs.Keywords.{keyword-self}
use Rattle.c_parse_laws.proofs.StatementFirsts.{StatementFirst, simple_first, value_first, statement_no_locals, locals_first}
use Rattle.c_parse_laws.proofs.Simpler.{Ended, simple_stops_semicolon, roled-ended, mark_begins, mark_silent, simple_stops_bracket, zero_test, roled-test}
use Rattle.c_parse_laws.proofs.Compounds.{empty_statement, Deeper}
use Rattle.c_parse_laws.proofs.Switches.{roled-groups}
use Rattle.exact_read.proofs.RoleBasics.{roled-same}
use Rattle.exact_read.proofs.RoleThen.{roled-then}
use Rattle.c_parse_laws.specs.Firm.{Firm}
use Rattle.c_parse_laws.proofs.Firm.{firm-map}
use Rattle.c_parse_laws.proofs.Silent.{locals_silent}
use Rattle.c_parse_laws.proofs.StatementLocals.{begin_locals}

-- how a `for` begins
abbrev EmptyStart : unit.ForStart → List Leaf → Type 0
EmptyStart = Map (λ (_ : ℕ). unit.StartsEmpty) (One plain (mark_offset punctuator.Semicolon))

abbrev LocalsStart : (names : List (List ℕ)) → (depth : ℕ) → unit.ForStart → List Leaf → Type 0
LocalsStart names depth = Map (λ locals. unit.StartsLocals locals) (LocalsText names depth)

abbrev SimpleStart : (names : List (List ℕ)) → (depth : ℕ) → unit.ForStart → List Leaf → Type 0
SimpleStart names depth = Map (λ s. unit.StartsSimple s) (Ended grammar.simple_end punctuator.Semicolon (grammar.Simple names depth))

abbrev StartText : (names : List (List ℕ)) → (depth : ℕ) → unit.ForStart → List Leaf → Type 0
StartText names depth = Or EmptyStart (Or (LocalsStart names depth) (SimpleStart names depth))

text_start : (names : List (List ℕ)) (depth : ℕ) (s : unit.ForStart) (text : List Leaf) → StartText names depth s text → grammar.ForStart names depth s text
text_start names depth s text (first m) = rw (m.is, one-mark punctuator.Semicolon plain m.inner text m.derives) (grammar.empty depth m.inner)
text_start names depth s text (second (first m)) = let l = m.derives in rw (m.is, l.cut) (grammar.locals depth m.inner l.role l.inside l.offset l.derives)
text_start names depth s text (second (second m)) = let e = m.derives in rw (m.is, e.cut) (grammar.simple depth m.inner e.inside e.offset e.derives)

start_text : (names : List (List ℕ)) (depth : ℕ) (s : unit.ForStart) (text : List Leaf) → grammar.ForStart names depth s text → StartText names depth s text
start_text names depth s text (grammar.empty d end) = first (record { inner = end; is = refl; derives = mark-one punctuator.Semicolon plain end })
start_text names depth s text (grammar.locals d list after t end h) = second (first (record { inner = list; is = refl; derives = record { role = after; inside = t; offset = end; derives = h; cut = refl } }))
start_text names depth s text (grammar.simple d x t end h) = second (second (record { inner = x; is = refl; derives = record { inside = t; offset = end; derives = h; cut = refl } }))

ended_first : (names : List (List ℕ)) (depth : ℕ) {close : Punctuator} (s : unit.Simple) (text : List Leaf) → Ended grammar.simple_end close (grammar.Simple names depth) s text → StatementFirst names text
ended_first names depth s text e = let f = simple_first names depth s e.inside _ e.derives in record { leaf = f.leaf; more = f.more; cut = e.cut ∙ f.cut; yes = f.yes }

locals_no_semicolon : (names : List (List ℕ)) (k : Token) → begins_locals names k ≡ true → is_mark punctuator.Semicolon k ≡ false
locals_no_semicolon names (Mark p) e = absurd (cc)
locals_no_semicolon names (Word w) e = refl
locals_no_semicolon names (name_token spelling) e = refl
locals_no_semicolon names (number_token value type) e = refl
locals_no_semicolon names (character_token value) e = refl

-- what an expression statement begins with
abbrev pub begins_simple : (names : List (List ℕ)) → Token → Bool
begins_simple names k = begins_expression names k || is_some (step_operator k)

pub record SimpleFirst (names : List (List ℕ)) (text : List Leaf) : Type 0 where
  pub leaf : Leaf
  pub more : List Leaf
  pub cut : text ≡ leaf ∷ more
  pub yes : begins_simple names leaf.token.token ≡ true

or_left_true : (a b : Bool) → a ≡ true → (a || b) ≡ true
or_left_true true b e = refl
or_left_true false b e = absurd (cc)

begun : (names : List (List ℕ)) (left right : List Leaf) → First names left → SimpleFirst names (left ++ right)
begun names left right f = record { leaf = f.leaf; more = f.more ++ right; cut = ap (λ l. l ++ right) f.cut; yes = or_left_true (begins_expression names f.leaf.token.token) (is_some (step_operator f.leaf.token.token)) f.yes }

pub begun_longer : (names : List (List ℕ)) (left right : List Leaf) → SimpleFirst names left → SimpleFirst names (left ++ right)
begun_longer names left right f = record { leaf = f.leaf; more = f.more ++ right; cut = ap (λ l. l ++ right) f.cut; yes = f.yes }

step_begins : (names : List (List ℕ)) (o : StepOperator) → begins_simple names (Mark (grammar.step_mark o)) ≡ true
step_begins names Increment = refl
step_begins names Decrement = refl

pub simple_begins : (names : List (List ℕ)) (depth : ℕ) (s : unit.Simple) (text : List Leaf) → grammar.Simple names depth s text → SimpleFirst names text
simple_begins names depth s text (grammar.assign d x v left other offset h k) = begun names left _ (unary_first names d 0 x left h)
simple_begins names depth s text (grammar.assign_by d o p x v left other offset e h k) = begun names left _ (unary_first names d 0 x left h)
simple_begins names depth s text (grammar.step_after d o x t offset h) = begun names t _ (postfix_first names d 0 x t h)
simple_begins names depth s text (grammar.step_before d o x t offset h) = record { leaf = _; more = t; cut = refl; yes = step_begins names o }
simple_begins names depth s text (grammar.evaluate d v t h) = subst (SimpleFirst names) (append-nil t) (begun names t [] (value_first names d 0 v t h))

step_not : (q : Punctuator) → is_some (step_mark q) ≡ false → (k : Token) → is_some (step_operator k) ≡ true → is_mark q k ≡ false
step_not q never (Mark p) e = by_test (sameb the_type p q) refl
  where
    by_test : (b : Bool) → sameb the_type p q ≡ b → sameb the_type p q ≡ false
    by_test true f = absurd (let g : false ≡ true = sym never ∙ ap (λ r. is_some (step_mark r)) (sym (same_true the_type tt p q f)) ∙ e in cc)
    by_test false f = f
step_not q never (name_token spelling) e = refl
step_not q never (Word w) e = refl
step_not q never (number_token value type) e = refl
step_not q never (character_token value) e = refl

simple_not : (names : List (List ℕ)) (q : Punctuator) → begins_by_mark q ≡ false → is_some (step_mark q) ≡ false → (k : Token) → begins_simple names k ≡ true → is_mark q k ≡ false
simple_not names q a b k e = by_test (begins_expression names k) refl e
  where
    by_test : (c : Bool) → begins_expression names k ≡ c → (c || is_some (step_operator k)) ≡ true → is_mark q k ≡ false
    by_test true f e = begins-not names q a k f
    by_test false f e = step_not q b k e

simple_no_mark : (names : List (List ℕ)) (q : Punctuator) → begins_by_mark q ≡ false → is_some (step_mark q) ≡ false → (text : List Leaf) (rest : List Placed) → SimpleFirst names text → Stops (λ t. not (is_mark q t.token)) (plains marks text ++ rest)
simple_no_mark names q a b text rest f = subst (λ l. Stops (λ t. not (is_mark q t.token)) (plains marks l ++ rest)) (sym f.cut) (rw (simple_not names q a b f.leaf.token.token f.yes) refl)

ended_begins : (names : List (List ℕ)) (depth : ℕ) (close : Punctuator) (s : unit.Simple) (text : List Leaf) → Ended grammar.simple_end close (grammar.Simple names depth) s text → SimpleFirst names text
ended_begins names depth close s text e = subst (SimpleFirst names) (sym e.cut) (begun_longer names e.inside _ (simple_begins names depth s e.inside e.derives))

-- its test
abbrev NoTest : Option tree.Expression → List Leaf → Type 0
NoTest = Map (λ (_ : ℕ). None) (One plain (mark_offset punctuator.Semicolon))

abbrev SomeTest : (names : List (List ℕ)) → (depth : ℕ) → Option tree.Expression → List Leaf → Type 0
SomeTest names depth = Map (λ x. Some x) (Closed (expected OperandEnd) punctuator.Semicolon (Conditional names depth 0))

text_for_test : (names : List (List ℕ)) (depth : ℕ) (x : Option tree.Expression) (text : List Leaf) → Or NoTest (SomeTest names depth) x text → grammar.ForTest names depth x text
text_for_test names depth x text (first m) = rw (m.is, one-mark punctuator.Semicolon plain m.inner text m.derives) (grammar.empty depth m.inner)
text_for_test names depth x text (second m) = let c = m.derives in rw (m.is, c.cut) (grammar.test depth m.inner c.inside c.close c.derives)

for_test_text : (names : List (List ℕ)) (depth : ℕ) (x : Option tree.Expression) (text : List Leaf) → grammar.ForTest names depth x text → Or NoTest (SomeTest names depth) x text
for_test_text names depth x text (grammar.empty d end) = first (record { inner = end; is = refl; derives = mark-one punctuator.Semicolon plain end })
for_test_text names depth x text (grammar.test d y t end h) = second (record { inner = y; is = refl; derives = record { inside = t; close = end; derives = h; cut = refl } })

-- its step
abbrev NoStep : Option unit.Simple → List Leaf → Type 0
NoStep = Map (λ (_ : ℕ). None) (One plain (mark_offset punctuator.RightParenthesis))

abbrev SomeStep : (names : List (List ℕ)) → (depth : ℕ) → Option unit.Simple → List Leaf → Type 0
SomeStep names depth = Map (λ s. Some s) (Ended grammar.simple_end punctuator.RightParenthesis (grammar.Simple names depth))

text_for_step : (names : List (List ℕ)) (depth : ℕ) (x : Option unit.Simple) (text : List Leaf) → Or NoStep (SomeStep names depth) x text → grammar.ForStep names depth x text
text_for_step names depth x text (first m) = rw (m.is, one-mark punctuator.RightParenthesis plain m.inner text m.derives) (grammar.empty depth m.inner)
text_for_step names depth x text (second m) = let e = m.derives in rw (m.is, e.cut) (grammar.step depth m.inner e.inside e.offset e.derives)

for_step_text : (names : List (List ℕ)) (depth : ℕ) (x : Option unit.Simple) (text : List Leaf) → grammar.ForStep names depth x text → Or NoStep (SomeStep names depth) x text
for_step_text names depth x text (grammar.empty d close) = first (record { inner = close; is = refl; derives = mark-one punctuator.RightParenthesis plain close })
for_step_text names depth x text (grammar.step d s t close h) = second (record { inner = s; is = refl; derives = record { inside = t; offset = close; derives = h; cut = refl } })

-- `for`
abbrev MadeFor : Type 0
MadeFor = unit.ForStart × (Option tree.Expression × (Option unit.Simple × unit.Statement))

abbrev made_for : (offset : ℕ) → MadeFor → unit.Statement
made_for offset made = unit.For made.0 made.1.0 made.1.1.0 made.1.1.1 offset

abbrev PiecesText : (names : List (List ℕ)) → (depth : ℕ) → MadeFor → List Leaf → Type 0
PiecesText names depth = Then (grammar.ForStart names (suc (suc depth))) (λ _. Then (grammar.ForTest names (suc (suc depth))) (λ _. Then (grammar.ForStep names (suc (suc depth))) (λ _. grammar.Statement names (suc depth))))

abbrev pub ForText : (names : List (List ℕ)) → (depth : ℕ) → unit.Statement → List Leaf → Type 0
ForText names depth = Following (One (opens (suc depth)) (keyword_offset For)) (λ offset. Following (One (opens (suc (suc depth))) (mark_offset punctuator.LeftParenthesis)) (λ _. Map (made_for offset) (PiecesText names depth)))

body_some : (names : List (List ℕ)) (depth : ℕ) → (s : unit.Statement) × (text : List Leaf) × grammar.Statement names depth s text
body_some names depth = (unit.Empty 0, plain (mark punctuator.Semicolon 0) ∷ [], empty_statement names depth)

step_some : (names : List (List ℕ)) (depth : ℕ) → (x : Option unit.Simple × unit.Statement) × (text : List Leaf) × Then (grammar.ForStep names (suc (suc depth))) (λ _. grammar.Statement names (suc depth)) x text
step_some names depth = ((None, unit.Empty 0), plain (mark punctuator.RightParenthesis 0) ∷ plain (mark punctuator.Semicolon 0) ∷ [], record { left = plain (mark punctuator.RightParenthesis 0) ∷ []; right = plain (mark punctuator.Semicolon 0) ∷ []; cut = refl; first = grammar.empty (suc (suc depth)) 0; second = empty_statement names (suc depth) })

test_some : (names : List (List ℕ)) (depth : ℕ) → (x : Option tree.Expression × (Option unit.Simple × unit.Statement)) × (text : List Leaf) × Then (grammar.ForTest names (suc (suc depth))) (λ _. Then (grammar.ForStep names (suc (suc depth))) (λ _. grammar.Statement names (suc depth))) x text
test_some names depth = let s = step_some names depth in ((None, s.0), plain (mark punctuator.Semicolon 0) ∷ s.1, record { left = plain (mark punctuator.Semicolon 0) ∷ []; right = s.1; cut = refl; first = grammar.empty (suc (suc depth)) 0; second = s.2 })

pieces_some : (names : List (List ℕ)) (depth : ℕ) → (x : MadeFor) × (text : List Leaf) × PiecesText names depth x text
pieces_some names depth = let t = test_some names depth in ((unit.StartsEmpty, t.0), plain (mark punctuator.Semicolon 0) ∷ t.1, record { left = plain (mark punctuator.Semicolon 0) ∷ []; right = t.1; cut = refl; first = grammar.empty (suc (suc depth)) 0; second = t.2 })

-- `switch`
abbrev GroupsText : (names : List (List ℕ)) → (depth offset : ℕ) → tree.Expression → unit.Statement → List Leaf → Type 0
GroupsText names depth offset x = Following (One (opens (suc (suc depth))) (mark_offset punctuator.LeftBrace)) (λ _. Map (λ groups. unit.Switch x groups offset) (Closed plain punctuator.RightBrace (grammar.Groups names (suc (suc depth)))))

abbrev pub SwitchText : (names : List (List ℕ)) → (depth : ℕ) → unit.Statement → List Leaf → Type 0
SwitchText names depth = Following (One (opens (suc depth)) (keyword_offset Switch)) (λ offset. Following (grammar.Test names (suc depth)) (λ x. GroupsText names depth offset x))

groups_some : (names : List (List ℕ)) (depth offset : ℕ) (x : tree.Expression) → (s : unit.Statement) × (text : List Leaf) × GroupsText names depth offset x s text
groups_some names depth offset x =
    (unit.Switch x unit.no_groups offset, opens (suc (suc depth)) (mark punctuator.LeftBrace 0) ∷ plain (mark punctuator.RightBrace 0) ∷ [], record { first = 0; left = opens (suc (suc depth)) (mark punctuator.LeftBrace 0) ∷ []; right = plain (mark punctuator.RightBrace 0) ∷ []; is_first = mark-one punctuator.LeftBrace (opens (suc (suc depth))) 0; is_second = record { inner = unit.no_groups; is = refl; derives = record { inside = []; close = 0; derives = grammar.no_groups (suc (suc depth)); cut = refl } }; cut = refl })

roled-for_start : (names : List (List ℕ)) (inner : Parsers) → AllFirm names inner → (depth : ℕ) → Firm anything (grammar.ForStart names depth) (λ _. anything) (read_for_start names inner depth)
roled-for_start names inner all depth =
    roled-same anything (grammar.ForStart names depth) (read_for_start names inner depth) (λ t h. h) (text_start names depth) (start_text names depth) (λ tokens. refl)
    (roled-choice (is_mark punctuator.Semicolon)
    record {
      first_begins = λ s text m. (plain (mark punctuator.Semicolon m.inner), [], one-mark punctuator.Semicolon plain m.inner text m.derives, refl);
      second_begins = λ s text rest o stops. others s text rest o;
    }
    (λ t e. map_begins (λ (_ : ℕ). unit.StartsEmpty) t (mark_begins punctuator.Semicolon t e)) (map_silent (λ (_ : ℕ). unit.StartsEmpty) (mark_silent punctuator.Semicolon))
    (firm-map (λ (_ : ℕ). unit.StartsEmpty) (λ _. anything) (λ x. refl) (roled-mark anything punctuator.Semicolon Nothing plain (λ t. refl) (λ t. refl)))
    (roled-choice (begins_locals names)
    record {
      first_begins = λ s text m. let f = locals_first names depth m.inner text m.derives in (f.leaf, f.more, f.cut, f.yes);
      second_begins = λ s text rest m stops. let f = ended_first names depth m.inner text m.derives in subst (λ l. Stops (λ t. not (begins_locals names t.token)) (plains marks l ++ rest)) (sym f.cut) (rw (statement_no_locals names f.leaf.token.token f.yes) refl);
    }
    (λ t e. map_begins (λ locals. unit.StartsLocals locals) t (begin_locals names depth t e)) (map_silent (λ locals. unit.StartsLocals locals) (locals_silent names depth))
    (firm-map (λ locals. unit.StartsLocals locals) (λ _. anything) (λ x. refl) (roled-locals names inner all depth))
    (roled-ended grammar.simple_end punctuator.Semicolon (λ s. unit.StartsSimple s) (λ _. anything) (λ s. refl) (roled-simple names inner all depth) simple_stops_semicolon)))
  where
    others : (s : unit.ForStart) (text : List Leaf) (rest : List Placed) → Or (LocalsStart names depth) (SimpleStart names depth) s text → Stops (λ t. not (is_mark punctuator.Semicolon t.token)) (plains marks text ++ rest)
    others s text rest (first m) = let f = locals_first names depth m.inner text m.derives in subst (λ l. Stops (λ t. not (is_mark punctuator.Semicolon t.token)) (plains marks l ++ rest)) (sym f.cut) (rw (locals_no_semicolon names f.leaf.token.token f.yes) refl)
    others s text rest (second m) = simple_no_mark names punctuator.Semicolon refl refl text rest (ended_begins names depth punctuator.Semicolon m.inner text m.derives)

roled-for_test : (names : List (List ℕ)) (inner : Parsers) → AllFirm names inner → (depth : ℕ) → Firm anything (grammar.ForTest names depth) (λ _. anything) (read_for_test inner depth)
roled-for_test names inner all depth =
    roled-same anything (grammar.ForTest names depth) (read_for_test inner depth) (λ t h. h) (text_for_test names depth) (for_test_text names depth) (λ tokens. refl)
    (roled-choice (is_mark punctuator.Semicolon)
    record {
      first_begins = λ s text m. (plain (mark punctuator.Semicolon m.inner), [], one-mark punctuator.Semicolon plain m.inner text m.derives, refl);
      second_begins = λ s text rest m stops. let c = m.derives in let f = conditional_first names depth 0 m.inner c.inside c.derives in first_not_mark names punctuator.Semicolon refl text rest (record { leaf = f.leaf; more = f.more ++ expected OperandEnd (mark punctuator.Semicolon c.close) ∷ []; cut = c.cut ∙ ap (λ l. l ++ expected OperandEnd (mark punctuator.Semicolon c.close) ∷ []) f.cut; yes = f.yes });
    }
    (λ t e. map_begins (λ (_ : ℕ). None) t (mark_begins punctuator.Semicolon t e)) (map_silent (λ (_ : ℕ). None) (mark_silent punctuator.Semicolon))
    (firm-map (λ (_ : ℕ). None) (λ _. anything) (λ x. refl) (roled-mark anything punctuator.Semicolon Nothing plain (λ t. refl) (λ t. refl)))
    (firm-map (λ x. Some x) (λ _. anything) (λ x. refl) (roled-closed punctuator.Semicolon OperandEnd (expected OperandEnd) (λ t. refl) (λ t. refl) (all.conditional depth 0) (λ x close. refl))))

roled-for_step : (names : List (List ℕ)) (inner : Parsers) → AllFirm names inner → (depth : ℕ) → Firm anything (grammar.ForStep names depth) (λ _. anything) (read_for_step inner depth)
roled-for_step names inner all depth =
    roled-same anything (grammar.ForStep names depth) (read_for_step inner depth) (λ t h. h) (text_for_step names depth) (for_step_text names depth) (λ tokens. refl)
    (roled-choice (is_mark punctuator.RightParenthesis)
    record {
      first_begins = λ s text m. (plain (mark punctuator.RightParenthesis m.inner), [], one-mark punctuator.RightParenthesis plain m.inner text m.derives, refl);
      second_begins = λ s text rest m stops. simple_no_mark names punctuator.RightParenthesis refl refl text rest (ended_begins names depth punctuator.RightParenthesis m.inner text m.derives);
    }
    (λ t e. map_begins (λ (_ : ℕ). None) t (mark_begins punctuator.RightParenthesis t e)) (map_silent (λ (_ : ℕ). None) (mark_silent punctuator.RightParenthesis))
    (firm-map (λ (_ : ℕ). None) (λ _. anything) (λ x. refl) (roled-mark anything punctuator.RightParenthesis Nothing plain (λ t. refl) (λ t. refl)))
    (roled-ended grammar.simple_end punctuator.RightParenthesis (λ s. Some s) (λ _. anything) (λ s. refl) (roled-simple names inner all depth) simple_stops_bracket))

pub some_for : (names : List (List ℕ)) (depth offset : ℕ) → (s : unit.Statement) × (right : List Leaf) × Following (One (opens (suc (suc depth))) (mark_offset punctuator.LeftParenthesis)) (λ _. Map (made_for offset) (PiecesText names depth)) s right
some_for names depth offset = let p = pieces_some names depth in (made_for offset p.0, opens (suc (suc depth)) (mark punctuator.LeftParenthesis 0) ∷ p.1, record { first = 0; left = opens (suc (suc depth)) (mark punctuator.LeftParenthesis 0) ∷ []; right = p.1; is_first = mark-one punctuator.LeftParenthesis (opens (suc (suc depth))) 0; is_second = record { inner = p.0; is = refl; derives = p.2 }; cut = refl })

pub roled-for : (names : List (List ℕ)) (inner : Parsers) → AllFirm names inner → (statements : Statements) (depth : ℕ) → Deeper names statements depth → Firm anything (ForText names depth) stop_statement (read_for names inner statements depth)
roled-for names inner all statements depth deeper =
    roled-opened (keyword_offset For) Nothing (opens (suc depth)) (λ t. refl) (λ t. refl) (keyword_at For 0) 0 (keyword-self For 0)
    (some_for names depth)
    (λ offset t e within. roled-opened (mark_offset punctuator.LeftParenthesis) Nothing (opens (suc (suc depth))) (λ t. refl) (λ t. refl) (mark punctuator.LeftParenthesis 0) 0 (mark-self punctuator.LeftParenthesis 0)
    (λ k. let p = pieces_some names depth in (made_for offset p.0, p.1, record { inner = p.0; is = refl; derives = p.2 }))
    (λ k t2 e2 within2. firm-map (made_for offset) stop_statement (λ made. refl)
    (roled-then {stop2 = λ _ y. stop_statement y.1.1} (roled-for_start names inner all (suc (suc depth)))
    (λ _. roled-then {stop2 = λ _ y. stop_statement y.1} (roled-for_test names inner all (suc (suc depth)))
    (λ _. roled-then {stop2 = λ _ y. stop_statement y} (roled-for_step names inner all (suc (suc depth)))
    (λ _. deeper (suc depth) (omega arith) (within_opens (suc depth) t within))
    record { ends = λ x y left right rest one two stops. stops_anything (plains marks right ++ rest); goes_on = λ x left one. body_some names (suc depth) })
    record { ends = λ x y left right rest one two stops. stops_anything (plains marks right ++ rest); goes_on = λ x left one. step_some names depth })
    record { ends = λ x y left right rest one two stops. stops_anything (plains marks right ++ rest); goes_on = λ x left one. test_some names depth })))

pub some_switch : (names : List (List ℕ)) (depth offset : ℕ) → (s : unit.Statement) × (right : List Leaf) × Following (grammar.Test names (suc depth)) (λ x. GroupsText names depth offset x) s right
some_switch names depth offset = let z = zero_test names (suc depth) in let g = groups_some names depth offset zero_tree in (g.0, z.0 ++ g.1, record { first = zero_tree; left = z.0; right = g.1; is_first = z.1; is_second = g.2; cut = refl })

pub roled-switch : (names : List (List ℕ)) (inner : Parsers) → AllFirm names inner → (statements : Statements) (depth : ℕ) → Deeper names statements depth → Firm anything (SwitchText names depth) stop_statement (read_switch names inner statements depth)
roled-switch names inner all statements depth deeper =
    roled-opened (keyword_offset Switch) Nothing (opens (suc depth)) (λ t. refl) (λ t. refl) (keyword_at Switch 0) 0 (keyword-self Switch 0)
    (some_switch names depth)
    (λ offset t e within. roled-following (roled-test names inner all (suc depth))
    (λ x left h w. roled-opened (mark_offset punctuator.LeftBrace) Nothing (opens (suc (suc depth))) (λ t. refl) (λ t. refl) (mark punctuator.LeftBrace 0) 0 (mark-self punctuator.LeftBrace 0)
    (λ k. (unit.Switch x unit.no_groups offset, plain (mark punctuator.RightBrace 0) ∷ [], record { inner = unit.no_groups; is = refl; derives = record { inside = []; close = 0; derives = grammar.no_groups (suc (suc depth)); cut = refl } }))
    (λ k t2 e2 within2. firm-map (λ groups. unit.Switch x groups offset) stop_statement (λ groups. refl) (roled-groups names inner all statements (suc (suc depth)) (deeper (suc (suc depth)) (omega arith) (within_opens (suc (suc depth)) t2 within2)))))
    record {
      ends = λ x s left right rest one two stops. stops_anything (plains marks right ++ rest);
      goes_on = λ x left one. groups_some names depth offset x;
    })
