-- Statements with others inside keep roles, where those do.
use Rattle.std.proofs.Common.{ℕ, suc, ◌≤◌, List, [], ◌∷◌, Bool, true, false, refl, IsTrue, not, ◌&&◌, ◌++◌, ◌≡◌, ap, sym, ◌∙◌, subst, arith, inl}
use Rattle.c_token_spec.specs.declared.token.Keyword.TheVariants.{While, Do, Else, If}
use Rattle.c_token_spec.specs.declared.token.Punctuator.TheVariants as punctuator
use Rattle.c_token_spec.specs.Lexical.{Placed}
use Rattle.c_syntax_spec.specs.Expression as tree
use Rattle.c_syntax_spec.specs.Unit as unit
use Rattle.c_parse_spec.specs.declared.Role.TheVariants.{Nothing}
use Rattle.c_parse_spec.specs.Leaves.{plain, mark, Leaf, opens, keyword_at, marks}
use Rattle.c_parse_spec.specs.Statements as grammar
use Rattle.c_parse_spec.specs.Limits.{nesting_limit}
use Rattle.exact_read.specs.Reading.{plains, Stops}
use Rattle.exact_read.specs.Grammar.{Nothing as Empty, One, Map, first, Or, nothing, second, anything}
use Rattle.exact_read.proofs.Parts.{both, stops_anything}
use Rattle.c_parse_laws.specs.Classes.{mark_offset}
use Rattle.c_parse_laws.specs.Exactness.{Closed}
use Rattle.c_parse_laws.specs.Parsers.{Parsers}
use Rattle.c_parse_laws.proofs.Marks.{Following, mark-self, roled-closed_by, roled-opened, roled-following, roled-closed, after_begins, after_silent}
use Rattle.c_parse_laws.proofs.Samples.{zero_tree}
use Rattle.c_parse_laws.specs.TypeExactness.{AllFirm}
use Rattle.c_parse_laws.proofs.Dimensions.{within_opens}
use Rattle.c_parse_laws.proofs.Chosen.{Allowed, roled-allowed}
use Rattle.c_parse_laws.specs.Statements.{Statements, keyword_offset, is_keyword, read_block, read_while, read_do, read_if}
use Rattle.c_parse_laws.specs.StatementEnds.{stop_statement}
use Rattle.c_parse_laws.proofs.Keywords.{keyword-one, one-keyword, keyword-self, keyword-some}
use Rattle.c_parse_laws.proofs.Parts.{StatementsFirm, parts_close, roled-parts}
use Rattle.c_parse_laws.proofs.Simpler.{zero_test, roled-test}
use Rattle.exact_read.proofs.RoleBasics.{roled-enter, roled-stop}
use Rattle.c_parse_laws.specs.Firm.{Firm}
use Rattle.c_parse_laws.proofs.Firm.{firm-map, firm-nothing}

-- statements deeper inside keep roles, as far as constructs may open
abbrev pub Deeper : (names : List (List ℕ)) → Statements → (depth : ℕ) → Type 0
Deeper names statements depth = (d : ℕ) → suc depth ≤ d → d ≤ nesting_limit → StatementsFirm names statements d

-- there is a statement everywhere
pub empty_statement : (names : List (List ℕ)) (depth : ℕ) → grammar.Statement names depth (unit.Empty 0) (plain (mark punctuator.Semicolon 0) ∷ [])
empty_statement names depth = grammar.empty depth 0

-- a statement stops at a keyword that is no `else`, whether it is open or not
pub no_else : (b : Bool) → IsTrue (not (b && false))
no_else true = refl
no_else false = refl

-- blocks
abbrev pub BlockText : (names : List (List ℕ)) → (depth : ℕ) → unit.Statement → List Leaf → Type 0
BlockText names depth = Following (One (opens (suc depth)) (mark_offset punctuator.LeftBrace)) (λ offset. Map (λ parts. unit.Block parts offset) (Closed plain punctuator.RightBrace (grammar.Parts names (suc depth))))

-- `while`
abbrev pub WhileText : (names : List (List ℕ)) → (depth : ℕ) → unit.Statement → List Leaf → Type 0
WhileText names depth = Following (One (opens (suc depth)) (keyword_offset While)) (λ offset. Following (grammar.Test names (suc depth)) (λ x. Map (λ body. unit.While x body offset) (grammar.Statement names (suc depth))))

-- `do`
abbrev DoEndText : (names : List (List ℕ)) → (depth offset : ℕ) → (body : unit.Statement) → unit.Statement → List Leaf → Type 0
DoEndText names depth offset body = Following (One plain (keyword_offset While)) (λ _. Map (λ x. unit.Do body x offset) (Closed plain punctuator.Semicolon (grammar.Test names (suc depth))))

abbrev pub DoText : (names : List (List ℕ)) → (depth : ℕ) → unit.Statement → List Leaf → Type 0
DoText names depth = Following (One (opens (suc depth)) (keyword_offset Do)) (λ offset. Following (grammar.Statement names (suc depth)) (λ body. DoEndText names depth offset body))

do_end_some : (names : List (List ℕ)) (depth offset : ℕ) (body : unit.Statement) → (s : unit.Statement) × (text : List Leaf) × DoEndText names depth offset body s text
do_end_some names depth offset body =
    let z = zero_test names (suc depth) in
    (unit.Do body zero_tree offset, plain (keyword_at While 0) ∷ (z.0 ++ plain (mark punctuator.Semicolon 0) ∷ []), record { first = 0; left = plain (keyword_at While 0) ∷ []; right = z.0 ++ plain (mark punctuator.Semicolon 0) ∷ []; is_first = keyword-one While plain 0; is_second = record { inner = zero_tree; is = refl; derives = record { inside = z.0; close = 0; derives = z.1; cut = refl } }; cut = refl })

-- `if`
abbrev ElseText : (names : List (List ℕ)) → (depth offset : ℕ) → (x : tree.Expression) → (body : unit.Statement) → unit.Statement → List Leaf → Type 0
ElseText names depth offset x body = Following (One (opens (suc (suc depth))) (keyword_offset Else)) (λ _. Map (λ otherwise. unit.IfElse x body otherwise offset) (grammar.Statement names (suc (suc depth))))

abbrev pub AfterIf : (names : List (List ℕ)) → (depth offset : ℕ) → (x : tree.Expression) → (body : unit.Statement) → unit.Statement → List Leaf → Type 0
AfterIf names depth offset x body = Or (Allowed (not (grammar.takes_else body)) (ElseText names depth offset x body)) (Empty (unit.If x body offset))

abbrev pub IfText : (names : List (List ℕ)) → (depth : ℕ) → unit.Statement → List Leaf → Type 0
IfText names depth = Following (One (opens (suc depth)) (keyword_offset If)) (λ offset. Following (grammar.Test names (suc depth)) (λ x. Following (grammar.Statement names (suc depth)) (λ body. AfterIf names depth offset x body)))

if_bits : (b e : Bool) → (not (b && e) && not (not b && e)) ≡ not e
if_bits true true = refl
if_bits true false = refl
if_bits false true = refl
if_bits false false = refl

no_and : (b e : Bool) → IsTrue (not e) → IsTrue (not (b && e))
no_and true e h = h
no_and false e h = refl

if_same : (x : tree.Expression) (body s : unit.Statement) (offset : ℕ) (text : List Leaf) (t : Placed) → Empty (unit.If x body offset) s text → both (stop_statement body) (λ t. not (not (grammar.takes_else body) && is_keyword Else t.token)) t ≡ stop_statement s t
if_same x body s offset text t nothing = if_bits (grammar.takes_else body) (is_keyword Else t.token)

if_second : (x : tree.Expression) (body s : unit.Statement) (offset : ℕ) (text : List Leaf) (rest : List Placed) → Empty (unit.If x body offset) s text → Stops (stop_statement s) rest → Stops (λ t. not (not (grammar.takes_else body) && is_keyword Else t.token)) (plains marks text ++ rest)
if_second x body s offset text [] nothing stops = tt
if_second x body s offset text (t ∷ rest) nothing stops = no_and (not (grammar.takes_else body)) (is_keyword Else t.token) stops

not_true : (b : Bool) → not b ≡ true → b ≡ false
not_true true e = absurd (cc)
not_true false e = refl

if_ends : (names : List (List ℕ)) (depth offset : ℕ) (x : tree.Expression) (body s : unit.Statement) (text : List Leaf) (rest : List Placed) → AfterIf names depth offset x body s text → Stops (stop_statement s) rest → Stops (stop_statement body) (plains marks text ++ rest)
if_ends names depth offset x body s text rest (first a) stops =
    let b = a.derives in
    subst (λ l. Stops (stop_statement body) (plains marks l ++ rest)) (sym (b.cut ∙ ap (λ l. l ++ b.right) (one-keyword Else (opens (suc (suc depth))) b.first b.left b.is_first))) (rw (not_true (grammar.takes_else body) a.so) refl)
if_ends names depth offset x body s text [] (second nothing) stops = tt
if_ends names depth offset x body s text (t ∷ rest) (second nothing) stops = no_and (grammar.takes_else body) (is_keyword Else t.token) stops

pub some_block : (names : List (List ℕ)) (depth offset : ℕ) → (s : unit.Statement) × (right : List Leaf) × Map (λ parts. unit.Block parts offset) (Closed plain punctuator.RightBrace (grammar.Parts names (suc depth))) s right
some_block names depth offset = (unit.Block unit.no_parts offset, plain (mark punctuator.RightBrace 0) ∷ [], record { inner = unit.no_parts; is = refl; derives = record { inside = []; close = 0; derives = grammar.no_parts (suc depth); cut = refl } })

pub roled-block : (names : List (List ℕ)) (inner : Parsers) → AllFirm names inner → (statements : Statements) (depth : ℕ) → Deeper names statements depth → Firm anything (BlockText names depth) stop_statement (read_block names inner statements depth)
roled-block names inner all statements depth deeper =
    roled-opened (mark_offset punctuator.LeftBrace) Nothing (opens (suc depth)) (λ t. refl) (λ t. refl) (mark punctuator.LeftBrace 0) 0 (mark-self punctuator.LeftBrace 0)
    (some_block names depth)
    (λ offset t e within. firm-map (λ parts. unit.Block parts offset) stop_statement (λ parts. refl)
    (roled-closed_by punctuator.RightBrace Nothing plain (λ t. refl) (λ t. refl) (λ parts. inl refl) (λ h. refl) (roled-parts names inner all statements (suc depth) (deeper (suc depth) (omega arith) (within_opens (suc depth) t within))) parts_close))

pub some_while : (names : List (List ℕ)) (depth offset : ℕ) → (s : unit.Statement) × (right : List Leaf) × Following (grammar.Test names (suc depth)) (λ x. Map (λ body. unit.While x body offset) (grammar.Statement names (suc depth))) s right
some_while names depth offset = let z = zero_test names (suc depth) in (unit.While zero_tree (unit.Empty 0) offset, z.0 ++ plain (mark punctuator.Semicolon 0) ∷ [], record { first = zero_tree; left = z.0; right = plain (mark punctuator.Semicolon 0) ∷ []; is_first = z.1; is_second = record { inner = unit.Empty 0; is = refl; derives = empty_statement names (suc depth) }; cut = refl })

pub roled-while : (names : List (List ℕ)) (inner : Parsers) → AllFirm names inner → (statements : Statements) (depth : ℕ) → Deeper names statements depth → Firm anything (WhileText names depth) stop_statement (read_while inner statements depth)
roled-while names inner all statements depth deeper =
    roled-opened (keyword_offset While) Nothing (opens (suc depth)) (λ t. refl) (λ t. refl) (keyword_at While 0) 0 (keyword-self While 0)
    (some_while names depth)
    (λ offset t e within. roled-following (roled-test names inner all (suc depth))
    (λ x left h w. firm-map (λ body. unit.While x body offset) stop_statement (λ body. refl) (deeper (suc depth) (omega arith) (within_opens (suc depth) t within)))
    record {
      ends = λ x s left right rest one two stops. stops_anything (plains marks right ++ rest);
      goes_on = λ x left one. (unit.While x (unit.Empty 0) offset, plain (mark punctuator.Semicolon 0) ∷ [], record { inner = unit.Empty 0; is = refl; derives = empty_statement names (suc depth) });
    })

pub some_do : (names : List (List ℕ)) (depth offset : ℕ) → (s : unit.Statement) × (right : List Leaf) × Following (grammar.Statement names (suc depth)) (λ body. DoEndText names depth offset body) s right
some_do names depth offset = let z = do_end_some names depth offset (unit.Empty 0) in (z.0, plain (mark punctuator.Semicolon 0) ∷ z.1, record { first = unit.Empty 0; left = plain (mark punctuator.Semicolon 0) ∷ []; right = z.1; is_first = empty_statement names (suc depth); is_second = z.2; cut = refl })

pub roled-do : (names : List (List ℕ)) (inner : Parsers) → AllFirm names inner → (statements : Statements) (depth : ℕ) → Deeper names statements depth → Firm anything (DoText names depth) stop_statement (read_do inner statements depth)
roled-do names inner all statements depth deeper =
    roled-opened (keyword_offset Do) Nothing (opens (suc depth)) (λ t. refl) (λ t. refl) (keyword_at Do 0) 0 (keyword-self Do 0)
    (some_do names depth)
    (λ offset t e within. roled-following (deeper (suc depth) (omega arith) (within_opens (suc depth) t within))
    (λ body left h w. roled-enter (stop_statement body)
    (roled-opened (keyword_offset While) Nothing plain (λ t. refl) (λ t. refl) (keyword_at While 0) 0 (keyword-self While 0)
    (λ k. let z = zero_test names (suc depth) in (unit.Do body zero_tree offset, z.0 ++ plain (mark punctuator.Semicolon 0) ∷ [], record { inner = zero_tree; is = refl; derives = record { inside = z.0; close = 0; derives = z.1; cut = refl } }))
    (λ k t e within. firm-map (λ x. unit.Do body x offset) stop_statement (λ x. refl) (roled-closed punctuator.Semicolon Nothing plain (λ t. refl) (λ t. refl) (roled-test names inner all (suc depth)) (λ x close. refl)))))
    record {
      ends = λ body s left right rest one two stops. subst (λ l. Stops (stop_statement body) (plains marks l ++ rest)) (sym (two.cut ∙ ap (λ l. l ++ two.right) (one-keyword While plain two.first two.left two.is_first))) (no_else (grammar.takes_else body));
      goes_on = λ body left one. do_end_some names depth offset body;
    })

some_else : (names : List (List ℕ)) (depth offset : ℕ) (x : tree.Expression) (body : unit.Statement) → (s : unit.Statement) × (right : List Leaf) × Map (λ otherwise. unit.IfElse x body otherwise offset) (grammar.Statement names (suc (suc depth))) s right
some_else names depth offset x body = (unit.IfElse x body (unit.Empty 0) offset, plain (mark punctuator.Semicolon 0) ∷ [], record { inner = unit.Empty 0; is = refl; derives = empty_statement names (suc (suc depth)) })

roled-after_if : (names : List (List ℕ)) (statements : Statements) (depth offset : ℕ) (x : tree.Expression) (body : unit.Statement) → Deeper names statements depth
    → Firm (stop_statement body) (AfterIf names depth offset x body) stop_statement
    (Rattle.c_parse_laws.specs.Parsers.choose (λ next. not (grammar.takes_else body) && is_keyword Else next)
    (Rattle.c_parse_laws.specs.Parsers.following (Rattle.c_parse_laws.specs.Parsers.token Nothing (opens (suc (suc depth))) (keyword_offset Else)) (λ _. Rattle.exact_read.specs.Grammar.read_map (λ otherwise. unit.IfElse x body otherwise offset) (statements (suc (suc depth)))))
    (Rattle.exact_read.specs.Grammar.read_nothing (unit.If x body offset)))
roled-after_if names statements depth offset x body deeper =
    roled-allowed (not (grammar.takes_else body)) (is_keyword Else)
    (λ s text b. (opens (suc (suc depth)) (keyword_at Else b.first), b.right, b.cut ∙ ap (λ l. l ++ b.right) (one-keyword Else (opens (suc (suc depth))) b.first b.left b.is_first), refl))
    (λ s text rest one stops. if_second x body s offset text rest one stops)
    (λ t e. after_begins (keyword_offset Else) (opens (suc (suc depth))) (λ t. refl) t t.offset (keyword-some Else t e) (some_else names depth offset x body))
    (after_silent (keyword_offset Else) (opens (suc (suc depth))) (λ t. refl))
    (roled-enter (both (stop_statement body) (λ t. is_keyword Else t.token)) (roled-opened (keyword_offset Else) Nothing (opens (suc (suc depth))) (λ t. refl) (λ t. refl) (keyword_at Else 0) 0 (keyword-self Else 0)
    (λ k. some_else names depth offset x body)
    (λ k t e within. firm-map (λ otherwise. unit.IfElse x body otherwise offset) stop_statement (λ otherwise. refl) (deeper (suc (suc depth)) (omega arith) (within_opens (suc (suc depth)) t within)))))
    (roled-stop stop_statement (λ s text one t. if_same x body s offset text t one) (firm-nothing (both (stop_statement body) (λ t. not (not (grammar.takes_else body) && is_keyword Else t.token))) (unit.If x body offset)))

body_some : (names : List (List ℕ)) (depth : ℕ) (x : tree.Expression) (offset : ℕ) → Following (grammar.Statement names (suc depth)) (λ body. AfterIf names depth offset x body) (unit.If x (unit.Empty 0) offset) (plain (mark punctuator.Semicolon 0) ∷ [])
body_some names depth x offset = record { first = unit.Empty 0; left = plain (mark punctuator.Semicolon 0) ∷ []; right = []; is_first = empty_statement names (suc depth); is_second = second nothing; cut = refl }

pub some_if : (names : List (List ℕ)) (depth offset : ℕ) → (s : unit.Statement) × (right : List Leaf) × Following (grammar.Test names (suc depth)) (λ x. Following (grammar.Statement names (suc depth)) (λ body. AfterIf names depth offset x body)) s right
some_if names depth offset = let z = zero_test names (suc depth) in (unit.If zero_tree (unit.Empty 0) offset, z.0 ++ (plain (mark punctuator.Semicolon 0) ∷ []), record { first = zero_tree; left = z.0; right = plain (mark punctuator.Semicolon 0) ∷ []; is_first = z.1; is_second = body_some names depth zero_tree offset; cut = refl })

pub roled-if : (names : List (List ℕ)) (inner : Parsers) → AllFirm names inner → (statements : Statements) (depth : ℕ) → Deeper names statements depth → Firm anything (IfText names depth) stop_statement (read_if inner statements depth)
roled-if names inner all statements depth deeper =
    roled-opened (keyword_offset If) Nothing (opens (suc depth)) (λ t. refl) (λ t. refl) (keyword_at If 0) 0 (keyword-self If 0)
    (some_if names depth)
    (λ offset t e within. roled-following (roled-test names inner all (suc depth))
    (λ x left h w. roled-following (deeper (suc depth) (omega arith) (within_opens (suc depth) t within)) (λ body left h w. roled-after_if names statements depth offset x body deeper)
    record {
      ends = λ body s left right rest one two stops. if_ends names depth offset x body s right rest two stops;
      goes_on = λ body left one. (unit.If x body offset, [], second nothing);
    })
    record {
      ends = λ x s left right rest one two stops. stops_anything (plains marks right ++ rest);
      goes_on = λ x left one. (unit.If x (unit.Empty 0) offset, plain (mark punctuator.Semicolon 0) ∷ [], body_some names depth x offset);
    })
