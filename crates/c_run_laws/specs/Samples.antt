-- Small functions as typed cores, for worked facts. Most offsets are 0.
use Rattle.std.specs.Prelude.{ℕ, ◌&&◌, false, nat_lt, nat_le, ℤ, pos, List, [], ◌∷◌, codes, Some, None}
use Rattle.memory_spec.specs.Memory.{Memory}
use Rattle.c_types_spec.specs.declared.Scalar.{Scalar}
use Rattle.c_types_spec.specs.declared.Arithmetic.TheVariants.{Add, Subtract, Multiply, Divide}
use Rattle.c_types_spec.specs.declared.Comparison.TheVariants.{Equal, NotEqual, Less}
use Rattle.c_types_spec.specs.declared.TestPlace.TheVariants.{Before, After}
use Rattle.c_types_spec.specs.declared.Jump.TheVariants.{Break, Continue}
use Rattle.c_types_spec.specs.Types.{int, unsigned_int, scalar}
use Rattle.c_types_spec.specs.Core.{Core, Constant, ReadLocal, Target, Operate, Compare, Action, Skip, Sequence, Evaluate, Set, Unset, Store, Call, If, Loop, Leave, Switch, Return, MissingReturn, no_groups, groups, Body, sequence}
use Rattle.c_run_spec.specs.Setting.{Setting}
use Rattle.c_run_spec.specs.Evaluation.{Evaluated, value}
use Rattle.c_run_spec.specs.Calls.{Outcome, c_run}

-- ---- parts

abbrev pub number : ℕ → Core
number n = Constant unsigned_int (pos n)

abbrev pub signed : ℤ → Core
signed n = Constant int n

abbrev pub local : ℕ → Core
local n = ReadLocal unsigned_int n 0

abbrev pub add : Core → Core → Core
add a b = Operate Add unsigned_int a b 0

abbrev pub subtract : Core → Core → Core
subtract a b = Operate Subtract unsigned_int a b 0

abbrev pub multiply : Core → Core → Core
multiply a b = Operate Multiply unsigned_int a b 0

-- 1 / 0, at this offset
abbrev pub one_by_zero : (offset : ℕ) → Core
one_by_zero offset = Operate Divide unsigned_int (number 1) (number 0) offset

abbrev pub byte : Scalar
byte = scalar false 8

abbrev pub body : (name : List ℕ) → (locals : List Scalar) → List Action → Body
body name locals actions = record {
  name = name;
  signature = record { parameters = []; result = Some unsigned_int };
  locals = locals;
  loops = 0;
  calls = 0;
  mentions = [];
  action = sequence actions;
}

abbrev pub two_locals : List Scalar
two_locals = unsigned_int ∷ unsigned_int ∷ []

-- ---- the setting: addresses from 100 to below 200 are barred, and those from 150 to below 310 are fixed

abbrev pub setting : List Body → Setting
setting bodies = record {
  bodies = bodies;
  globals = λ name. Some 400;
  barred = record { low = 100; high = 200 };
  is_fixed = λ address. nat_le 150 address && nat_lt address 310;
}

-- a call of f with one argument
abbrev pub run : List Body → ℤ → Memory → (turns : ℕ) → Outcome
run bodies argument memory turns = c_run (setting bodies) (codes "f") (argument ∷ []) memory turns

-- an expression where local 0 is 5 and local 1 is unset
abbrev pub value_in : Memory → Core → Evaluated
value_in memory core = value (setting []) (Some (pos 5) ∷ None ∷ []) memory 0 core

-- ---- functions

-- unsigned f(unsigned n){unsigned s=0; while(n!=0){s=s+n; n=n-1;} return s;}
abbrev pub sums : Body
sums = body (codes "f") two_locals (
    Set 1 (number 0)
    ∷ Loop 0 Before (Compare NotEqual (local 0) (number 0)) Skip (Sequence (Set 1 (add (local 1) (local 0))) (Set 0 (subtract (local 0) (number 1))))
    ∷ Return (Some (local 1)) ∷ [])

-- unsigned f(unsigned n){unsigned s=0; do{s=s+1; n=n-1;} while(n!=0); return s;}
abbrev pub counts : Body
counts = body (codes "f") two_locals (
    Set 1 (number 0)
    ∷ Loop 0 After (Compare NotEqual (local 0) (number 0)) Skip (Sequence (Set 1 (add (local 1) (number 1))) (Set 0 (subtract (local 0) (number 1))))
    ∷ Return (Some (local 1)) ∷ [])

-- unsigned f(unsigned s){unsigned i; for(i=0;i<9;i=i+1){if(i==1) continue; if(i==3) break; s=s+i;} return s;}
abbrev pub skips : Body
skips = body (codes "f") two_locals (
    Unset 1
    ∷ Set 1 (number 0)
    ∷ Loop 0 Before (Compare Less (local 1) (number 9)) (Set 1 (add (local 1) (number 1)))
    (sequence (If (Compare Equal (local 1) (number 1)) (Leave Continue) Skip
    ∷ If (Compare Equal (local 1) (number 3)) (Leave Break) Skip
    ∷ Set 0 (add (local 0) (local 1)) ∷ []))
    ∷ Return (Some (local 0)) ∷ [])

-- unsigned f(unsigned a){for(;;){}}
abbrev pub never_ends : Body
never_ends = body (codes "f") two_locals (Loop 0 Before (signed (pos 1)) Skip Skip ∷ MissingReturn 33 ∷ [])

-- unsigned f(unsigned i){while(i<2){unsigned x; if(i==0) x=7; x; i=i+1;} return i;}
abbrev pub forgets : Body
forgets = body (codes "f") two_locals (
    Loop 0 Before (Compare Less (local 0) (number 2)) Skip
    (sequence (Unset 1
    ∷ If (Compare Equal (local 0) (number 0)) (Set 1 (number 7)) Skip
    ∷ Evaluate (ReadLocal unsigned_int 1 55)
    ∷ Set 0 (add (local 0) (number 1)) ∷ []))
    ∷ Return (Some (local 0)) ∷ [])

-- unsigned f(unsigned a){switch(a){case 1: return 10; default: a=0; break; case 2: case 3: a=20; break;} return a;}
abbrev pub switches : Body
switches = body (codes "f") two_locals (
    Switch (local 0)
    (groups (Some (pos 1) ∷ []) (Return (Some (number 10)))
    (groups (None ∷ []) (Sequence (Set 0 (number 0)) (Leave Break))
    (groups (Some (pos 2) ∷ Some (pos 3) ∷ []) (Sequence (Set 0 (number 20)) (Leave Break)) no_groups)))
    ∷ Return (Some (local 0)) ∷ [])

-- unsigned h(unsigned a){return a*100;} unsigned g(unsigned a){unsigned r=h(a); return r+1;}
-- unsigned f(unsigned a){unsigned char r=g(a+1); return r;}
abbrev pub chain : List Body
chain =
    body (codes "h") two_locals (Return (Some (multiply (local 0) (number 100))) ∷ [])
    ∷ body (codes "g") two_locals (Call 0 (codes "h") (local 0 ∷ []) (Some 1) ∷ Return (Some (add (local 1) (number 1))) ∷ [])
    ∷ body (codes "f") (unsigned_int ∷ byte ∷ []) (Call 0 (codes "g") (add (local 0) (number 1) ∷ []) (Some 1) ∷ Return (Some (ReadLocal byte 1 0)) ∷ []) ∷ []

-- unsigned f(unsigned a){f(1/0); return a;}
abbrev pub divides : Body
divides = body (codes "f") two_locals (Call 0 (codes "f") (one_by_zero 23 ∷ []) None ∷ Return (Some (local 0)) ∷ [])

-- unsigned f(unsigned a){}
abbrev pub owes : Body
owes = body (codes "f") two_locals (MissingReturn 23 ∷ [])

-- unsigned f(unsigned a){*(unsigned *)a=*(unsigned *)a+1; return 0;}
abbrev pub stores : Body
stores = body (codes "f") two_locals (Store unsigned_int (local 0) 0 (add (Target unsigned_int 41) (number 1)) 40 ∷ Return (Some (number 0)) ∷ [])

-- unsigned f(unsigned a){*(unsigned *)a=1; return 0;}
abbrev pub writes : Body
writes = body (codes "f") two_locals (Store unsigned_int (local 0) 0 (number 1) 40 ∷ Return (Some (number 0)) ∷ [])
