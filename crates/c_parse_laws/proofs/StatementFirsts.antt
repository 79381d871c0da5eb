-- What statements and declarations of locals begin with.
use Rattle.std.proofs.Common.{Bool, true, false, ℕ, List, not, ◌≡◌, ◌∷◌, refl, ◌++◌, ap, ◌||◌, sym, subst}
use Rattle.c_token_spec.specs.declared.token.Keyword.{Keyword}
use Rattle.c_token_spec.specs.declared.token.Keyword.TheVariants.{Break, Continue, Do, For, If, Return, Sizeof, Switch, While, Const, Static, Void, Char, Signed, Unsigned, Short, Int, Long, Struct, Enum}
use Rattle.c_token_spec.specs.declared.token.Punctuator.{Punctuator}
use Rattle.c_token_spec.specs.declared.token.Punctuator.TheVariants as punctuator
use Rattle.c_token_spec.specs.Lexical.{Token, Name as name_token, Word, Number as number_token, Character as character_token, Mark}
use Rattle.c_syntax_spec.specs.declared.StepOperator.{StepOperator}
use Rattle.c_syntax_spec.specs.declared.StepOperator.TheVariants.{Increment, Decrement}
use Rattle.c_syntax_spec.specs.Expression as tree
use Rattle.c_syntax_spec.specs.Unit as unit
use Rattle.c_parse_spec.specs.Leaves.{mark, keyword_at, Leaf, plain, named}
use Rattle.c_parse_spec.specs.Expressions.{Alone, is_typedef_name, InLocalDeclaration, Position, Words, none, const, typedef, extern, inline, static_external, static_local}
use Rattle.c_parse_spec.specs.Statements as grammar
use Rattle.c_parse_laws.specs.Classes.{begins_type, begins_type_word}
use Rattle.c_parse_laws.specs.Firsts.{begins_by_mark, begins_expression}
use Rattle.c_parse_laws.proofs.Firsts.{First, conditional_first, unary_first, postfix_first}
use Rattle.c_parse_laws.proofs.TypeFirsts.{TypeFirst, base_first}
use Rattle.c_parse_laws.proofs.Ended.{with_end}
use Rattle.c_parse_laws.specs.Around.{is_word, local_word}
use Rattle.c_parse_laws.specs.Declarations.{begins_locals}
use Rattle.c_parse_laws.specs.Texts.{LocalsText}
use Rattle.c_parse_laws.specs.Statements.{ends_parts, begins_label}

-- what a statement begins with
abbrev pub statement_mark : Punctuator → Bool
statement_mark punctuator.LeftBrace = true
statement_mark punctuator.Semicolon = true
statement_mark punctuator.Increment = true
statement_mark punctuator.Decrement = true
statement_mark other = begins_by_mark other

abbrev pub statement_word : Keyword → Bool
statement_word If = true
statement_word Switch = true
statement_word While = true
statement_word Do = true
statement_word For = true
statement_word Continue = true
statement_word Break = true
statement_word Return = true
statement_word Sizeof = true
statement_word other = false

abbrev pub begins_statement : (names : List (List ℕ)) → Token → Bool
begins_statement names (Mark mark) = statement_mark mark
begins_statement names (Word keyword_at) = statement_word keyword_at
begins_statement names (name_token spelling) = not (is_typedef_name names spelling)
begins_statement names (number_token value type) = true
begins_statement names (character_token value) = true

pub record StatementFirst (names : List (List ℕ)) (text : List Leaf) : Type 0 where
  pub leaf : Leaf
  pub more : List Leaf
  pub cut : text ≡ leaf ∷ more
  pub yes : begins_statement names leaf.token.token ≡ true

mark_statement : (p : Punctuator) → begins_by_mark p ≡ true → statement_mark p ≡ true
mark_statement punctuator.LeftBrace e = refl
mark_statement punctuator.Semicolon e = refl
mark_statement punctuator.Increment e = refl
mark_statement punctuator.Decrement e = refl
mark_statement punctuator.LeftParenthesis e = refl
mark_statement punctuator.Ampersand e = refl
mark_statement punctuator.Star e = refl
mark_statement punctuator.Plus e = refl
mark_statement punctuator.Minus e = refl
mark_statement punctuator.Tilde e = refl
mark_statement punctuator.Exclamation e = refl
mark_statement other e = absurd (cc)

word_statement : (w : Keyword) → Rattle.c_parse_laws.specs.Firsts.begins_by_word w ≡ true → statement_word w ≡ true
word_statement Sizeof e = refl
word_statement other e = absurd (cc)

expression_statement : (names : List (List ℕ)) (k : Token) → begins_expression names k ≡ true → begins_statement names k ≡ true
expression_statement names (Mark p) e = mark_statement p e
expression_statement names (Word w) e = word_statement w e
expression_statement names (name_token spelling) e = e
expression_statement names (number_token value type) e = refl
expression_statement names (character_token value) e = refl

by_expression : (names : List (List ℕ)) (left right : List Leaf) → First names left → StatementFirst names (left ++ right)
by_expression names left right f = record { leaf = f.leaf; more = f.more ++ right; cut = ap (λ l. l ++ right) f.cut; yes = expression_statement names f.leaf.token.token f.yes }

call_first : (names : List (List ℕ)) (depth count : ℕ) (call : unit.Call) (text : List Leaf) → grammar.Call names depth count call text → First names text
call_first names depth count call text (grammar.empty d c n offset close e) = record { leaf = plain (named n); more = _; cut = refl; yes = ap not e }
call_first names depth count call text (grammar.call d c n arguments inside offset close e h) = record { leaf = plain (named n); more = _; cut = refl; yes = ap not e }

pub value_first : (names : List (List ℕ)) (depth count : ℕ) (v : unit.Value) (text : List Leaf) → grammar.Value names depth count v text → First names text
value_first names depth count v text (grammar.called d c call t h) = call_first names d c call t h
value_first names depth count v text (grammar.computed d c x t h) = conditional_first names d c x t h

step_statement : (o : StepOperator) → statement_mark (grammar.step_mark o) ≡ true
step_statement Increment = refl
step_statement Decrement = refl

longer : (names : List (List ℕ)) (left middle right : List Leaf) → First names left → StatementFirst names ((left ++ middle) ++ right)
longer names left middle right f = record { leaf = f.leaf; more = (f.more ++ middle) ++ right; cut = ap (λ l. (l ++ middle) ++ right) f.cut; yes = expression_statement names f.leaf.token.token f.yes }

pub simple_first : (names : List (List ℕ)) (depth : ℕ) (s : unit.Simple) (text right : List Leaf) → grammar.Simple names depth s text → StatementFirst names (text ++ right)
simple_first names depth s text right (grammar.assign d x v left other offset h k) = longer names left _ right (unary_first names d 0 x left h)
simple_first names depth s text right (grammar.assign_by d o p x v left other offset e h k) = longer names left _ right (unary_first names d 0 x left h)
simple_first names depth s text right (grammar.step_after d o x t offset h) = longer names t _ right (postfix_first names d 0 x t h)
simple_first names depth s text right (grammar.step_before d o x t offset h) = record { leaf = _; more = t ++ right; cut = refl; yes = step_statement o }
simple_first names depth s text right (grammar.evaluate d v t h) = by_expression names t right (value_first names d 0 v t h)

pub statement_first : (names : List (List ℕ)) (depth : ℕ) (s : unit.Statement) (text : List Leaf) → grammar.Statement names depth s text → StatementFirst names text
statement_first names depth s text (grammar.block d parts inside offset close h) = record { leaf = _; more = _; cut = refl; yes = refl }
statement_first names depth s text (grammar.empty d offset) = record { leaf = _; more = _; cut = refl; yes = refl }
statement_first names depth s text (grammar.perform d x t end h) = simple_first names d x t _ h
statement_first names depth s text (grammar.if_only d x body test t offset h k) = record { leaf = _; more = _; cut = refl; yes = refl }
statement_first names depth s text (grammar.if_else d x body otherwise test t right offset else_offset h k e l) = record { leaf = _; more = _; cut = refl; yes = refl }
statement_first names depth s text (grammar.switch d x gs test inside offset open_offset close h k) = record { leaf = _; more = _; cut = refl; yes = refl }
statement_first names depth s text (grammar.while d x body test t offset h k) = record { leaf = _; more = _; cut = refl; yes = refl }
statement_first names depth s text (grammar.do_while d body x t test offset while_offset end h k) = record { leaf = _; more = _; cut = refl; yes = refl }
statement_first names depth s text (grammar.for d start x step body first test last t offset open_offset h k l m) = record { leaf = _; more = _; cut = refl; yes = refl }
statement_first names depth s text (grammar.continue d offset end) = record { leaf = _; more = _; cut = refl; yes = refl }
statement_first names depth s text (grammar.break d offset end) = record { leaf = _; more = _; cut = refl; yes = refl }
statement_first names depth s text (grammar.return d offset end) = record { leaf = _; more = _; cut = refl; yes = refl }
statement_first names depth s text (grammar.return_value d v t offset end h) = record { leaf = _; more = _; cut = refl; yes = refl }

-- no declaration begins so, and no part ends so
pub statement_no_locals : (names : List (List ℕ)) (k : Token) → begins_statement names k ≡ true → begins_locals names k ≡ false
statement_no_locals names (Mark p) e = refl
statement_no_locals names (Word If) e = refl
statement_no_locals names (Word Switch) e = refl
statement_no_locals names (Word While) e = refl
statement_no_locals names (Word Do) e = refl
statement_no_locals names (Word For) e = refl
statement_no_locals names (Word Continue) e = refl
statement_no_locals names (Word Break) e = refl
statement_no_locals names (Word Return) e = refl
statement_no_locals names (Word Sizeof) e = refl
statement_no_locals names (Word other) e = absurd (cc)
statement_no_locals names (name_token spelling) e = by_name (is_typedef_name names spelling) e
  where
    by_name : (b : Bool) → not b ≡ true → b ≡ false
    by_name true f = absurd (cc)
    by_name false f = refl
statement_no_locals names (number_token value type) e = refl
statement_no_locals names (character_token value) e = refl

pub statement_no_end : (names : List (List ℕ)) (k : Token) → begins_statement names k ≡ true → (ends_parts k ≡ false) × (begins_label k ≡ false)
statement_no_end names (Mark punctuator.LeftBrace) e = (refl, refl)
statement_no_end names (Mark punctuator.Semicolon) e = (refl, refl)
statement_no_end names (Mark punctuator.Increment) e = (refl, refl)
statement_no_end names (Mark punctuator.Decrement) e = (refl, refl)
statement_no_end names (Mark punctuator.LeftParenthesis) e = (refl, refl)
statement_no_end names (Mark punctuator.Ampersand) e = (refl, refl)
statement_no_end names (Mark punctuator.Star) e = (refl, refl)
statement_no_end names (Mark punctuator.Plus) e = (refl, refl)
statement_no_end names (Mark punctuator.Minus) e = (refl, refl)
statement_no_end names (Mark punctuator.Tilde) e = (refl, refl)
statement_no_end names (Mark punctuator.Exclamation) e = (refl, refl)
statement_no_end names (Mark other) e = absurd (cc)
statement_no_end names (Word If) e = (refl, refl)
statement_no_end names (Word Switch) e = (refl, refl)
statement_no_end names (Word While) e = (refl, refl)
statement_no_end names (Word Do) e = (refl, refl)
statement_no_end names (Word For) e = (refl, refl)
statement_no_end names (Word Continue) e = (refl, refl)
statement_no_end names (Word Break) e = (refl, refl)
statement_no_end names (Word Return) e = (refl, refl)
statement_no_end names (Word Sizeof) e = (refl, refl)
statement_no_end names (Word other) e = absurd (cc)
statement_no_end names (name_token spelling) e = (refl, refl)
statement_no_end names (number_token value type) e = (refl, refl)
statement_no_end names (character_token value) e = (refl, refl)

-- declarations of locals
pub record LocalsFirst (names : List (List ℕ)) (text : List Leaf) : Type 0 where
  pub leaf : Leaf
  pub more : List Leaf
  pub cut : text ≡ leaf ∷ more
  pub yes : begins_locals names leaf.token.token ≡ true

or_right_true : (a b : Bool) → b ≡ true → (a || b) ≡ true
or_right_true true b e = refl
or_right_true false b e = e

words_first : (names : List (List ℕ)) (position : Position) (storage : tree.Storage) (before more : List Leaf) → Words position storage before → position ≡ InLocalDeclaration → TypeFirst names more → LocalsFirst names (before ++ more)
words_first names position storage before more (none p) e f = record { leaf = f.leaf; more = f.more; cut = f.cut; yes = or_right_true (is_word local_word f.leaf.token.token) (begins_type names f.leaf.token.token) f.yes }
words_first names position storage before more (const p s t offset h) e f = record { leaf = plain (keyword_at Const offset); more = t ++ more; cut = refl; yes = refl }
words_first names position storage before more (static_local s t offset h) e f = record { leaf = plain (keyword_at Static offset); more = t ++ more; cut = refl; yes = refl }
words_first names position storage before more (typedef s t offset h) e f = absurd (cc)
words_first names position storage before more (extern s t offset h) e f = absurd (cc)
words_first names position storage before more (inline s t offset h) e f = absurd (cc)
words_first names position storage before more (static_external s t offset h) e f = absurd (cc)

longer_type : (names : List (List ℕ)) (left right : List Leaf) → TypeFirst names left → TypeFirst names (left ++ right)
longer_type names left right f = record { leaf = f.leaf; more = f.more ++ right; cut = ap (λ t. t ++ right) f.cut; yes = f.yes }

longer_locals : (names : List (List ℕ)) (left right : List Leaf) → LocalsFirst names left → LocalsFirst names (left ++ right)
longer_locals names left right f = record { leaf = f.leaf; more = f.more ++ right; cut = ap (λ t. t ++ right) f.cut; yes = f.yes }

list_first : (names : List (List ℕ)) (depth : ℕ) (locals : unit.Locals) (role : Rattle.c_parse_spec.specs.declared.Role.Role) (text : List Leaf) → grammar.Locals names depth locals role text → LocalsFirst names text
list_first names depth locals role text (grammar.locals d s list e left right h k) =
    let w = with_end names InLocalDeclaration d Alone s left h in
    let q = w.derives in
    longer_locals names left right (subst (LocalsFirst names) (sym q.cut) (words_first names InLocalDeclaration q.one q.before (q.middle ++ q.after) q.words_before refl (longer_type names q.middle q.after (base_first names d Alone q.base q.middle q.is_base))))

pub locals_first : (names : List (List ℕ)) (depth : ℕ) (locals : unit.Locals) (text : List Leaf) → LocalsText names depth locals text → LocalsFirst names text
locals_first names depth locals text l = subst (LocalsFirst names) (sym l.cut) (longer_locals names l.inside _ (list_first names depth locals l.role l.inside l.derives))

type_no_end : (w : Keyword) → begins_type_word w ≡ true → (ends_parts (Word w) ≡ false) × (begins_label (Word w) ≡ false)
type_no_end Const e = (refl, refl)
type_no_end Void e = (refl, refl)
type_no_end Char e = (refl, refl)
type_no_end Signed e = (refl, refl)
type_no_end Unsigned e = (refl, refl)
type_no_end Short e = (refl, refl)
type_no_end Int e = (refl, refl)
type_no_end Long e = (refl, refl)
type_no_end Struct e = (refl, refl)
type_no_end Enum e = (refl, refl)
type_no_end other e = absurd (cc)

pub locals_no_end : (names : List (List ℕ)) (k : Token) → begins_locals names k ≡ true → (ends_parts k ≡ false) × (begins_label k ≡ false)
locals_no_end names (Word Static) e = (refl, refl)
locals_no_end names (Word Const) e = (refl, refl)
locals_no_end names (Word other) e = type_no_end other e
locals_no_end names (Mark p) e = absurd (cc)
locals_no_end names (name_token spelling) e = (refl, refl)
locals_no_end names (number_token value type) e = absurd (cc)
locals_no_end names (character_token value) e = absurd (cc)
