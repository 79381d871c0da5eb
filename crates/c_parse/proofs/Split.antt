-- A statement of which parts are read apart.
use Rattle.std.proofs.Common.{◌≡◌, ℕ, suc, List, refl, Ok}
use Rattle.c_token_spec.specs.declared.token.Keyword.TheVariants.{If}
use Rattle.c_token_spec.specs.Lexical.{Placed}
use Rattle.c_syntax_spec.specs.Expression as tree
use Rattle.c_syntax_spec.specs.Unit as unit
use Rattle.c_parse_spec.specs.declared.Role.TheVariants.{Nothing}
use Rattle.c_parse_spec.specs.Leaves.{opens}
use Rattle.c_parse_laws.specs.Parsers.{Parsers, token}
use Rattle.c_parse_laws.specs.Statements as statements
use Rattle.c_parse.specs.Pieces.{read_else}

-- an `if` up to its body
pub if-parts : (inner : Parsers) (inside : statements.Statements) (depth below offset : ℕ) (x : tree.Expression) (body : unit.Statement) (t0 t1 t2 t3 : List Placed) → below ≡ suc depth → token Nothing (opens (suc depth)) (statements.keyword_offset If) t0 ≡ Ok (offset, t1) → statements.read_test inner below t1 ≡ Ok (x, t2) → inside below t2 ≡ Ok (body, t3)
    → statements.read_if inner inside depth t0 ≡ read_else inside depth x body offset t3
if-parts inner inside depth below offset x body t0 t1 t2 t3 same e0 e1 e2 = rw (e0, rw same at e1, rw same at e2) refl
