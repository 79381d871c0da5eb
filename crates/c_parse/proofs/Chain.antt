-- Statements of many parts: `for` and `switch`.
use Rattle.std.proofs.Common.{◌≡◌, ℕ, suc, List, refl, Ok, Err, Option}
use Rattle.c_token_spec.specs.declared.token.Keyword.TheVariants.{For, Switch}
use Rattle.c_token_spec.specs.declared.token.Punctuator.TheVariants as punctuator
use Rattle.c_token_spec.specs.Lexical.{Placed}
use Rattle.c_syntax_spec.specs.Expression as tree
use Rattle.c_syntax_spec.specs.Unit as unit
use Rattle.c_parse_spec.specs.declared.Role.TheVariants.{Nothing}
use Rattle.c_parse_spec.specs.Leaves.{plain, opens}
use Rattle.c_parse_spec.specs.declared.Role.{Role}
use Rattle.exact_read.specs.Reading.{Fault}
use Rattle.c_parse_laws.specs.Classes.{mark_offset}
use Rattle.c_parse_laws.specs.Parsers.{Parsers, token}
use Rattle.c_parse_laws.specs.Statements as statements

-- a `for`
pub for-found : (names : List (List ℕ)) (inner : Parsers) (inside : statements.Statements) (depth below within : ℕ) (offset : ℕ) (bracket : ℕ) (start : unit.ForStart) (test : Option tree.Expression) (step : Option unit.Simple) (body : unit.Statement) (t0 t1 t2 t3 t4 t5 t6 : List Placed) → below ≡ suc depth → within ≡ suc (suc depth) → token Nothing (opens (suc depth)) (statements.keyword_offset For) t0 ≡ Ok (offset, t1) → token Nothing (opens (suc below)) (mark_offset punctuator.LeftParenthesis) t1 ≡ Ok (bracket, t2) → statements.read_for_start names inner within t2 ≡ Ok (start, t3) → statements.read_for_test inner within t3 ≡ Ok (test, t4) → statements.read_for_step inner within t4 ≡ Ok (step, t5) → inside below t5 ≡ Ok (body, t6)
    → statements.read_for names inner inside depth t0 ≡ Ok (unit.For start test step body offset, t6)
for-found names inner inside depth below within offset bracket start test step body t0 t1 t2 t3 t4 t5 t6 same further e0 e1 e2 e3 e4 e5 = rw (e0, rw same at e1, rw further at e2, rw further at e3, rw further at e4, rw same at e5) refl

pub for-start_error : (names : List (List ℕ)) (inner : Parsers) (inside : statements.Statements) (depth below within : ℕ) (offset : ℕ) (bracket : ℕ) (fault : Fault Role × List Placed) (t0 t1 t2 : List Placed) → below ≡ suc depth → within ≡ suc (suc depth) → token Nothing (opens (suc depth)) (statements.keyword_offset For) t0 ≡ Ok (offset, t1) → token Nothing (opens (suc below)) (mark_offset punctuator.LeftParenthesis) t1 ≡ Ok (bracket, t2) → statements.read_for_start names inner within t2 ≡ Err fault
    → statements.read_for names inner inside depth t0 ≡ Err fault
for-start_error names inner inside depth below within offset bracket fault t0 t1 t2 same further e0 e1 e = rw (e0, rw same at e1, rw further at e) refl

pub for-test_error : (names : List (List ℕ)) (inner : Parsers) (inside : statements.Statements) (depth below within : ℕ) (offset : ℕ) (bracket : ℕ) (start : unit.ForStart) (fault : Fault Role × List Placed) (t0 t1 t2 t3 : List Placed) → below ≡ suc depth → within ≡ suc (suc depth) → token Nothing (opens (suc depth)) (statements.keyword_offset For) t0 ≡ Ok (offset, t1) → token Nothing (opens (suc below)) (mark_offset punctuator.LeftParenthesis) t1 ≡ Ok (bracket, t2) → statements.read_for_start names inner within t2 ≡ Ok (start, t3) → statements.read_for_test inner within t3 ≡ Err fault
    → statements.read_for names inner inside depth t0 ≡ Err fault
for-test_error names inner inside depth below within offset bracket start fault t0 t1 t2 t3 same further e0 e1 e2 e = rw (e0, rw same at e1, rw further at e2, rw further at e) refl

pub for-step_error : (names : List (List ℕ)) (inner : Parsers) (inside : statements.Statements) (depth below within : ℕ) (offset : ℕ) (bracket : ℕ) (start : unit.ForStart) (test : Option tree.Expression) (fault : Fault Role × List Placed) (t0 t1 t2 t3 t4 : List Placed) → below ≡ suc depth → within ≡ suc (suc depth) → token Nothing (opens (suc depth)) (statements.keyword_offset For) t0 ≡ Ok (offset, t1) → token Nothing (opens (suc below)) (mark_offset punctuator.LeftParenthesis) t1 ≡ Ok (bracket, t2) → statements.read_for_start names inner within t2 ≡ Ok (start, t3) → statements.read_for_test inner within t3 ≡ Ok (test, t4) → statements.read_for_step inner within t4 ≡ Err fault
    → statements.read_for names inner inside depth t0 ≡ Err fault
for-step_error names inner inside depth below within offset bracket start test fault t0 t1 t2 t3 t4 same further e0 e1 e2 e3 e = rw (e0, rw same at e1, rw further at e2, rw further at e3, rw further at e) refl

pub for-body_error : (names : List (List ℕ)) (inner : Parsers) (inside : statements.Statements) (depth below within : ℕ) (offset : ℕ) (bracket : ℕ) (start : unit.ForStart) (test : Option tree.Expression) (step : Option unit.Simple) (fault : Fault Role × List Placed) (t0 t1 t2 t3 t4 t5 : List Placed) → below ≡ suc depth → within ≡ suc (suc depth) → token Nothing (opens (suc depth)) (statements.keyword_offset For) t0 ≡ Ok (offset, t1) → token Nothing (opens (suc below)) (mark_offset punctuator.LeftParenthesis) t1 ≡ Ok (bracket, t2) → statements.read_for_start names inner within t2 ≡ Ok (start, t3) → statements.read_for_test inner within t3 ≡ Ok (test, t4) → statements.read_for_step inner within t4 ≡ Ok (step, t5) → inside below t5 ≡ Err fault
    → statements.read_for names inner inside depth t0 ≡ Err fault
for-body_error names inner inside depth below within offset bracket start test step fault t0 t1 t2 t3 t4 t5 same further e0 e1 e2 e3 e4 e = rw (e0, rw same at e1, rw further at e2, rw further at e3, rw further at e4, rw same at e) refl

-- a `switch`
pub switch-found : (names : List (List ℕ)) (inner : Parsers) (inside : statements.Statements) (depth below within : ℕ) (offset : ℕ) (x : tree.Expression) (bracket : ℕ) (read : unit.Groups) (close : ℕ) (t0 t1 t2 t3 t4 t5 : List Placed) → below ≡ suc depth → within ≡ suc (suc depth) → token Nothing (opens (suc depth)) (statements.keyword_offset Switch) t0 ≡ Ok (offset, t1) → statements.read_test inner below t1 ≡ Ok (x, t2) → token Nothing (opens (suc below)) (mark_offset punctuator.LeftBrace) t2 ≡ Ok (bracket, t3) → statements.read_groups names inner inside within t3 ≡ Ok (read, t4) → token Nothing plain (mark_offset punctuator.RightBrace) t4 ≡ Ok (close, t5)
    → statements.read_switch names inner inside depth t0 ≡ Ok (unit.Switch x read offset, t5)
switch-found names inner inside depth below within offset x bracket read close t0 t1 t2 t3 t4 t5 same further e0 e1 e2 e3 e4 = rw (e0, rw same at e1, rw same at e2, rw further at e3, e4) refl

pub switch-open_error : (names : List (List ℕ)) (inner : Parsers) (inside : statements.Statements) (depth below within : ℕ) (offset : ℕ) (x : tree.Expression) (fault : Fault Role × List Placed) (t0 t1 t2 : List Placed) → below ≡ suc depth → within ≡ suc (suc depth) → token Nothing (opens (suc depth)) (statements.keyword_offset Switch) t0 ≡ Ok (offset, t1) → statements.read_test inner below t1 ≡ Ok (x, t2) → token Nothing (opens (suc below)) (mark_offset punctuator.LeftBrace) t2 ≡ Err fault
    → statements.read_switch names inner inside depth t0 ≡ Err fault
switch-open_error names inner inside depth below within offset x fault t0 t1 t2 same further e0 e1 e = rw (e0, rw same at e1, rw same at e) refl

pub switch-groups_error : (names : List (List ℕ)) (inner : Parsers) (inside : statements.Statements) (depth below within : ℕ) (offset : ℕ) (x : tree.Expression) (bracket : ℕ) (fault : Fault Role × List Placed) (t0 t1 t2 t3 : List Placed) → below ≡ suc depth → within ≡ suc (suc depth) → token Nothing (opens (suc depth)) (statements.keyword_offset Switch) t0 ≡ Ok (offset, t1) → statements.read_test inner below t1 ≡ Ok (x, t2) → token Nothing (opens (suc below)) (mark_offset punctuator.LeftBrace) t2 ≡ Ok (bracket, t3) → statements.read_groups names inner inside within t3 ≡ Err fault
    → statements.read_switch names inner inside depth t0 ≡ Err fault
switch-groups_error names inner inside depth below within offset x bracket fault t0 t1 t2 t3 same further e0 e1 e2 e = rw (e0, rw same at e1, rw same at e2, rw further at e) refl

pub switch-close_error : (names : List (List ℕ)) (inner : Parsers) (inside : statements.Statements) (depth below within : ℕ) (offset : ℕ) (x : tree.Expression) (bracket : ℕ) (read : unit.Groups) (fault : Fault Role × List Placed) (t0 t1 t2 t3 t4 : List Placed) → below ≡ suc depth → within ≡ suc (suc depth) → token Nothing (opens (suc depth)) (statements.keyword_offset Switch) t0 ≡ Ok (offset, t1) → statements.read_test inner below t1 ≡ Ok (x, t2) → token Nothing (opens (suc below)) (mark_offset punctuator.LeftBrace) t2 ≡ Ok (bracket, t3) → statements.read_groups names inner inside within t3 ≡ Ok (read, t4) → token Nothing plain (mark_offset punctuator.RightBrace) t4 ≡ Err fault
    → statements.read_switch names inner inside depth t0 ≡ Err fault
switch-close_error names inner inside depth below within offset x bracket read fault t0 t1 t2 t3 t4 same further e0 e1 e2 e3 e = rw (e0, rw same at e1, rw same at e2, rw further at e3, e) refl

-- a block whose last bracket is at fault
pub block-unclosed : (names : List (List ℕ)) (inner : Parsers) (inside : statements.Statements) (depth below offset : ℕ) (parts : unit.Parts) (fault : Fault Role × List Placed) (t0 t1 t2 : List Placed) → below ≡ suc depth → token Nothing (opens (suc depth)) (mark_offset punctuator.LeftBrace) t0 ≡ Ok (offset, t1)
    → statements.read_parts names inner inside below t1 ≡ Ok (parts, t2) → token Nothing plain (mark_offset punctuator.RightBrace) t2 ≡ Err fault → statements.read_block names inner inside depth t0 ≡ Err fault
block-unclosed names inner inside depth below offset parts fault t0 t1 t2 same e0 e1 e = rw (e0, rw same at e1, e) refl
