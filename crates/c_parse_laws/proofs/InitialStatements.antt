-- The scan over the leaves of statements: outside of initial values of globals it finds nothing.
use Rattle.std.proofs.Common.{◌≡◌, ℕ, Bool, true, false, List, [], ◌∷◌, ◌++◌, Option, refl, sym, ap, ◌∙◌, append_assoc}
use Rattle.c_token_spec.specs.declared.token.Punctuator.{Punctuator}
use Rattle.c_syntax_spec.specs.declared.BinaryOperator.{BinaryOperator}
use Rattle.c_syntax_spec.specs.declared.StepOperator.{StepOperator}
use Rattle.c_syntax_spec.specs.declared.StepOperator.TheVariants.{Increment, Decrement}
use Rattle.c_syntax_spec.specs.Expression as tree
use Rattle.c_syntax_spec.specs.Unit as unit
use Rattle.c_parse_spec.specs.declared.Role.{Role}
use Rattle.c_parse_spec.specs.Leaves.{Leaf}
use Rattle.c_parse_spec.specs.Expressions.{Conditional, Postfix, Unary, Declarator, Specifiers, Position, Counting}
use Rattle.c_parse_spec.specs.Statements as grammar
use Rattle.c_parse_laws.proofs.InitialTokens.{is_plain_mark, is_opening, is_closing, is_brace, Stage, Fresh, Loose}
use Rattle.c_parse_laws.proofs.Scans.{Runs, append, same_leaves, outside, empty, token, separator, bracket, bracket_then, block}
use Rattle.c_parse_laws.proofs.InitialExpressions.{conditional_runs, postfix_runs, unary_runs, declarator_runs, specifiers_runs}

-- within brackets, and outside of initial values: nothing is found
abbrev pub Quiet : Stage → List Leaf → Type 0
Quiet begin text = Runs begin Loose true false text []

step_plain : (operator : StepOperator) → is_plain_mark (grammar.step_mark operator) ≡ true
step_plain Increment = refl
step_plain Decrement = refl

assign_plain : {operator : BinaryOperator} {assign : Punctuator} → grammar.AssignMark operator assign → is_plain_mark assign ≡ true
assign_plain grammar.multiply = refl
assign_plain grammar.divide = refl
assign_plain grammar.remainder = refl
assign_plain grammar.add = refl
assign_plain grammar.subtract = refl
assign_plain grammar.shift_left = refl
assign_plain grammar.shift_right = refl
assign_plain grammar.bit_and = refl
assign_plain grammar.bit_xor = refl
assign_plain grammar.bit_or = refl

-- ---- expressions and declarators

conditional_quiet : {names : List (List ℕ)} {depth count : ℕ} {x : tree.Expression} {text : List Leaf} → Conditional names depth count x text → (begin : Stage) → Quiet begin text
conditional_quiet x begin = outside [] (conditional_runs x begin true false)

postfix_quiet : {names : List (List ℕ)} {depth count : ℕ} {x : tree.Expression} {text : List Leaf} → Postfix names depth count x text → (begin : Stage) → Quiet begin text
postfix_quiet x begin = outside [] (postfix_runs x begin true false)

unary_quiet : {names : List (List ℕ)} {depth count : ℕ} {x : tree.Expression} {text : List Leaf} → Unary names depth count x text → (begin : Stage) → Quiet begin text
unary_quiet x begin = outside [] (unary_runs x begin true false)

declarator_quiet : {names : List (List ℕ)} {is_member : Bool} {depth : ℕ} {counting : Counting} {declarator : tree.Declarator} {text : List Leaf} → Declarator names is_member depth counting declarator text → (begin : Stage) → Quiet begin text
declarator_quiet x begin = outside [] (declarator_runs x begin true false)

specifiers_quiet : {names : List (List ℕ)} {position : Position} {depth : ℕ} {counting : Counting} {given : tree.Specifiers} {text : List Leaf} → Specifiers names position depth counting given text → (begin : Stage) → Quiet begin text
specifiers_quiet x begin = outside [] (specifiers_runs x begin true false)

-- ---- calls and expression statements

arguments_quiet : {names : List (List ℕ)} {depth count : ℕ} {list : tree.Expressions} {text : List Leaf} → grammar.Arguments names depth count list text → (begin : Stage) → Quiet begin text
arguments_quiet (grammar.last _ _ _ _ x) begin = conditional_quiet x begin
arguments_quiet (grammar.more _ _ _ _ _ _ _ x rest) begin = append (conditional_quiet x begin) (separator refl (arguments_quiet rest Fresh))

call_quiet : {names : List (List ℕ)} {depth count : ℕ} {made : unit.Call} {text : List Leaf} → grammar.Call names depth count made text → (begin : Stage) → Quiet begin text
call_quiet (grammar.empty _ _ _ _ _ _) begin = token refl (bracket {inside = []} _ refl refl refl empty)
call_quiet (grammar.call _ _ _ _ _ _ _ _ inside) begin = token refl (bracket _ refl refl refl (arguments_quiet inside Fresh))

value_quiet : {names : List (List ℕ)} {depth count : ℕ} {value : unit.Value} {text : List Leaf} → grammar.Value names depth count value text → (begin : Stage) → Quiet begin text
value_quiet (grammar.called _ _ _ _ x) begin = call_quiet x begin
value_quiet (grammar.computed _ _ _ _ x) begin = conditional_quiet x begin

simple_quiet : {names : List (List ℕ)} {depth : ℕ} {simple : unit.Simple} {text : List Leaf} → grammar.Simple names depth simple text → (begin : Stage) → Quiet begin text
simple_quiet (grammar.assign _ _ _ _ _ _ target x) begin = append (unary_quiet target begin) (separator refl (value_quiet x Fresh))
simple_quiet (grammar.assign_by _ _ _ _ _ _ _ _ is target x) begin = append (unary_quiet target begin) (token (assign_plain is) (conditional_quiet x Fresh))
simple_quiet (grammar.step_after _ operator _ _ _ target) begin = append (postfix_quiet target begin) (token (step_plain operator) empty)
simple_quiet (grammar.step_before _ operator _ _ _ target) begin = token (step_plain operator) (unary_quiet target Fresh)
simple_quiet (grammar.evaluate _ _ _ x) begin = value_quiet x begin

-- ---- locals

local_quiet : {names : List (List ℕ)} {depth : ℕ} {item : unit.Local} {end : Role} {text : List Leaf} → grammar.Local names depth item end text → (begin : Stage) → Quiet begin text
local_quiet (grammar.unset _ _ _ declared) begin = declarator_quiet declared begin
local_quiet (grammar.set _ _ _ _ _ _ declared x) begin = append (declarator_quiet declared begin) (separator refl (value_quiet x Fresh))

local_list_quiet : {names : List (List ℕ)} {depth : ℕ} {list : List unit.Local} {end : Role} {text : List Leaf} → grammar.LocalList names depth list end text → (begin : Stage) → Quiet begin text
local_list_quiet (grammar.last _ _ _ _ item) begin = local_quiet item begin
local_list_quiet (grammar.more _ _ _ _ _ _ _ _ item rest) begin = append (local_quiet item begin) (separator refl (local_list_quiet rest Fresh))

locals_quiet : {names : List (List ℕ)} {depth : ℕ} {list : unit.Locals} {end : Role} {text : List Leaf} → grammar.Locals names depth list end text → (begin : Stage) → Quiet begin text
locals_quiet (grammar.locals _ _ _ _ _ _ given list) begin = append (specifiers_quiet given begin) (local_list_quiet list Loose)

-- ---- parts of statements

for_start_quiet : {names : List (List ℕ)} {depth : ℕ} {given : unit.ForStart} {text : List Leaf} → grammar.ForStart names depth given text → (begin : Stage) → Quiet begin text
for_start_quiet (grammar.empty _ _) begin = separator refl empty
for_start_quiet (grammar.locals _ _ _ _ _ list) begin = append (locals_quiet list begin) (separator refl empty)
for_start_quiet (grammar.simple _ _ _ _ x) begin = append (simple_quiet x begin) (separator refl empty)

for_test_quiet : {names : List (List ℕ)} {depth : ℕ} {x : Option tree.Expression} {text : List Leaf} → grammar.ForTest names depth x text → (begin : Stage) → Quiet begin text
for_test_quiet (grammar.empty _ _) begin = separator refl empty
for_test_quiet (grammar.test _ _ _ _ x) begin = append (conditional_quiet x begin) (separator refl empty)

test_quiet : {names : List (List ℕ)} {depth : ℕ} {x : tree.Expression} {text : List Leaf} → grammar.Test names depth x text → (begin : Stage) → Quiet begin text
test_quiet (grammar.test _ _ _ _ _ x) begin = bracket _ refl refl refl (conditional_quiet x Fresh)

label_quiet : {names : List (List ℕ)} {depth : ℕ} {given : unit.Label} {text : List Leaf} → grammar.Label names depth given text → (begin : Stage) → Quiet begin text
label_quiet (grammar.case _ _ _ _ _ x) begin = token refl (append (conditional_quiet x Fresh) (token refl empty))
label_quiet (grammar.default _ _ _) begin = token refl (token refl empty)

labels_quiet : {names : List (List ℕ)} {depth : ℕ} {list : List unit.Label} {text : List Leaf} → grammar.Labels names depth list text → (begin : Stage) → Quiet begin text
labels_quiet (grammar.last _ _ _ x) begin = label_quiet x begin
labels_quiet (grammar.more _ _ _ _ _ x rest) begin = append (label_quiet x begin) (labels_quiet rest Loose)

-- the step of a `for` and the bracket after it
record Closed (text : List Leaf) : Type 0 where
  closer : Leaf
  inside : List Leaf
  cut : text ≡ inside ++ closer ∷ []
  closing : is_closing closer.token.token ≡ true
  quiet : Quiet Loose inside

for_step_closed : {names : List (List ℕ)} {depth : ℕ} {x : Option unit.Simple} {text : List Leaf} → grammar.ForStep names depth x text → Closed text
for_step_closed (grammar.empty _ _) = record { closer = _; inside = []; cut = refl; closing = refl; quiet = empty }
for_step_closed (grammar.step _ _ inside _ x) = record { closer = _; inside = inside; cut = refl; closing = refl; quiet = simple_quiet x Loose }

-- the brackets of a `for`, and its body
for_quiet : {opener : Leaf} {first test last body : List Leaf} → is_opening opener.token.token ≡ true → is_brace opener.token.token ≡ false → Quiet Fresh first → Quiet Loose test → Closed last → Quiet Fresh body
    → Quiet Fresh (opener ∷ first ++ (test ++ (last ++ body)))
for_quiet {opener = opener} {first = first} {test = test} {last = last} {body = body} e f h k c l =
    same_leaves (ap (λ t. opener ∷ t) same) (bracket_then c.closer e f c.closing (append h (append k c.quiet)) l)
  where
    same : (first ++ (test ++ c.inside)) ++ c.closer ∷ body ≡ first ++ (test ++ (last ++ body))
    same =
        append_assoc first (test ++ c.inside) (c.closer ∷ body) ∙ ap (λ t. first ++ t) (append_assoc test c.inside (c.closer ∷ body))
        ∙ ap (λ t. first ++ (test ++ t)) (sym (append_assoc c.inside (c.closer ∷ []) body) ∙ ap (λ t. t ++ body) (sym c.cut))

-- ---- statements

mutual
  pub statement_quiet : {names : List (List ℕ)} {depth : ℕ} {given : unit.Statement} {text : List Leaf} → grammar.Statement names depth given text → (begin : Stage) → Quiet begin text
  statement_quiet (grammar.block _ _ _ _ _ inside) begin = block _ refl refl (parts_quiet inside Fresh)
  statement_quiet (grammar.empty _ _) begin = separator refl empty
  statement_quiet (grammar.perform _ _ _ _ x) begin = append (simple_quiet x begin) (separator refl empty)
  statement_quiet (grammar.if_only _ _ _ _ _ _ x body) begin = token refl (append (test_quiet x Fresh) (statement_quiet body Loose))
  statement_quiet (grammar.if_else _ _ _ _ _ _ _ _ _ x body _ otherwise) begin = token refl (append (test_quiet x Fresh) (append (statement_quiet body Loose) (token refl (statement_quiet otherwise Fresh))))
  statement_quiet (grammar.switch _ _ _ _ _ _ _ _ x inside) begin = token refl (append (test_quiet x Fresh) (block {begin = Loose} _ refl refl (groups_quiet inside Fresh)))
  statement_quiet (grammar.while _ _ _ _ _ _ x body) begin = token refl (append (test_quiet x Fresh) (statement_quiet body Loose))
  statement_quiet (grammar.do_while _ _ _ _ _ _ _ _ body x) begin = token refl (append (statement_quiet body Fresh) (token refl (append (test_quiet x Fresh) (separator refl empty))))
  statement_quiet (grammar.for _ _ _ _ _ _ _ _ _ _ _ first x last body) begin = token refl (for_quiet refl refl (for_start_quiet first Fresh) (for_test_quiet x Loose) (for_step_closed last) (statement_quiet body Fresh))
  statement_quiet (grammar.continue _ _ _) begin = token refl (separator refl empty)
  statement_quiet (grammar.break _ _ _) begin = token refl (separator refl empty)
  statement_quiet (grammar.return _ _ _) begin = token refl (separator refl empty)
  statement_quiet (grammar.return_value _ _ _ _ _ x) begin = token refl (append (value_quiet x Fresh) (separator refl empty))

  pub parts_quiet : {names : List (List ℕ)} {depth : ℕ} {given : unit.Parts} {text : List Leaf} → grammar.Parts names depth given text → (begin : Stage) → Quiet begin text
  parts_quiet (grammar.no_parts _) begin = empty
  parts_quiet (grammar.local _ _ _ _ _ _ _ list rest) begin = append (locals_quiet list begin) (separator refl (parts_quiet rest Fresh))
  parts_quiet (grammar.statement _ _ _ _ _ x rest) begin = append (statement_quiet x begin) (parts_quiet rest Loose)

  groups_quiet : {names : List (List ℕ)} {depth : ℕ} {given : unit.Groups} {text : List Leaf} → grammar.Groups names depth given text → (begin : Stage) → Quiet begin text
  groups_quiet (grammar.no_groups _) begin = empty
  groups_quiet (grammar.last_group _ _ _ _ _ labels inside) begin = append (labels_quiet labels begin) (parts_quiet inside Loose)
  groups_quiet (grammar.group _ _ _ _ _ _ _ labels inside _ rest _) begin = append (labels_quiet labels begin) (append (parts_quiet inside Loose) (groups_quiet rest Loose))
