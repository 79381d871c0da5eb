-- The levels of operators.
use Rattle.std.proofs.Common.{◌≡◌, ℕ, zero, suc, ◌+◌, ◌-◌, ◌≤◌, List, refl, sym, subst, arith, Ok, Err}
use Rattle.c_token_spec.specs.Lexical.{Placed}
use Rattle.c_syntax_spec.specs.Expression as tree
use Rattle.c_parse_spec.specs.declared.Role.{Role}
use Rattle.exact_read.specs.Reading.{Fault}
use Rattle.c_parse_laws.specs.Parsers.{Parsers, read_binary, read_operations}

-- a level begins with the one below it
next_level : (inner : Parsers) (depth level below count : ℕ) (fault : Fault Role × List Placed) (tokens : List Placed) → suc below ≡ level → read_binary inner depth below count tokens ≡ Err fault → read_binary inner depth level count tokens ≡ Err fault
next_level inner depth level below count fault tokens ev e = rw (← ev, e) refl

-- a fault of a level is one of each level above it
over : (inner : Parsers) (depth below count : ℕ) (fault : Fault Role × List Placed) (tokens : List Placed) (k : ℕ) → read_binary inner depth below count tokens ≡ Err fault → read_binary inner depth (k + below) count tokens ≡ Err fault
over inner depth below count fault tokens zero h = let e : 0 + below ≡ below = omega arith in subst (λ n. read_binary inner depth n count tokens ≡ Err fault) (sym e) h
over inner depth below count fault tokens (suc k) h = next_level inner depth (suc k + below) (k + below) count fault tokens (omega arith) (over inner depth below count fault tokens k h)

pub lifted : (inner : Parsers) (depth level below count : ℕ) (tokens : List Placed) → below ≤ level → (fault : Fault Role × List Placed) → read_binary inner depth below count tokens ≡ Err fault → read_binary inner depth level count tokens ≡ Err fault
lifted inner depth level below count tokens less fault h =
    let e : level - below + below ≡ level = omega (arith, less) in
    subst (λ n. read_binary inner depth n count tokens ≡ Err fault) e (over inner depth below count fault tokens (level - below) h)

-- after the operand of a level its operations
pub level-operations : (inner : Parsers) (depth level below count : ℕ) (first : tree.Expression) (t0 t1 : List Placed) → suc below ≡ level → read_binary inner depth below count t0 ≡ Ok (first, t1) → read_binary inner depth level count t0 ≡ read_operations inner depth below count first t1
level-operations inner depth level below count first t0 t1 ev e0 = rw (← ev, e0) refl
