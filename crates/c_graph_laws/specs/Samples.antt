-- Small functions as typed cores, and the nodes of their graphs, counted by hand. Offsets are 0 where no fact speaks of
-- them.
use Rattle.std.specs.Prelude.{ℕ, ℤ, pos, negsuc, true, false, List, [], ◌∷◌, codes, Some, None}
use Rattle.term_core_spec.specs.declared.Width.TheVariants.{W8, W32}
use Rattle.term_core_spec.specs.Term.{Term, truth, open_term, not_term, and_term, or_term, equal, less, add, bit_and, choose, store, byte as byte_of, zero_extend, low}
use Rattle.term_core_spec.specs.Shapes.{signed_quotient}
use Rattle.graph_core_spec.specs.declared.Next.TheVariants.{At, Ret, Err}
use Rattle.graph_core_spec.specs.Graph.{Node, Basic, Cond, Call}
use Rattle.proof_tree_spec.specs.declared.Place.{Place as Point}
use Rattle.proof_tree_spec.specs.declared.Place.TheVariants as point
use Rattle.c_types_spec.specs.declared.Scalar.{Scalar}
use Rattle.c_types_spec.specs.declared.Arithmetic.TheVariants as arithmetic
use Rattle.c_types_spec.specs.declared.Comparison.TheVariants as comparison
use Rattle.c_types_spec.specs.declared.TestPlace.TheVariants.{Before, After}
use Rattle.c_types_spec.specs.declared.Jump.TheVariants.{Break, Continue}
use Rattle.c_types_spec.specs.Types.{int, word}
use Rattle.c_types_spec.specs.Core.{Core, Body, Typed, FunctionType}
use Rattle.c_types_spec.specs.Core as core
use Rattle.c_graph_spec.specs.State.{local, is_set, memory, zone_low, zone_high, result, number}
use Rattle.c_graph_spec.specs.Guards.{Place, sum_fits}
use Rattle.c_graph_spec.specs.Layout.{binding}
use Rattle.c_graph_spec.specs.SourceGraph.{graph_of, points_of}

-- ---- units of one function `f`

abbrev pub body : (parameters locals : List Scalar) → core.Action → Body
body parameters locals action = record {
  name = codes "f";
  signature = record { parameters = parameters; result = Some int };
  locals = locals;
  loops = 0;
  calls = 0;
  mentions = [];
  action = action;
}

abbrev pub unit : Body → Typed
unit b = record { functions = (codes "f", b.signature) ∷ []; globals = []; bodies = b ∷ [] }

-- three fixed bytes at 4096
abbrev pub place : Place
place = record { globals = λ name. None; runs = record { start = 4096; bytes = 0 ∷ 0 ∷ 0 ∷ [] } ∷ [] }

abbrev pub nodes : Body → List Node
nodes b = (graph_of (unit b) place b).nodes

abbrev pub points : Body → List (Point × ℕ)
points b = points_of (unit b) place b

-- ---- parts

abbrev pub n : Core
n = core.ReadLocal int 0 0

abbrev pub constant_int : ℤ → Core
constant_int value = core.Constant int value

abbrev pub returns : Core → core.Action
returns x = core.Return (Some x)

abbrev pub then_end : core.Action → core.Action
then_end a = core.Sequence a (core.MissingReturn 0)

-- terms: the first local, whether it is set, whether it is not 0
abbrev pub v0 : Term
v0 = open_term (local 0 int)

abbrev pub s0 : Term
s0 = open_term (is_set 0)

abbrev pub some0 : Term
some0 = not_term (equal v0 (number 0))

abbrev pub gives : Term → Node
gives x = Basic (binding (result int) x ∷ []) Ret

abbrev pub tests : Term → ℕ → Node
tests test on = Cond test (At on) Err

abbrev pub the_end : Node
the_end = Cond (truth false) Err Err

-- ---- int f(int n){int x=n+1; return x;}

abbrev pub straight : Body
straight = body (int ∷ []) (int ∷ int ∷ [])
    (core.Sequence (core.Set 1 (core.Operate arithmetic.Add int n (constant_int (pos 1)) 0)) (then_end (returns (core.ReadLocal int 1 0))))

abbrev pub straight_nodes : List Node
straight_nodes =
    Basic [] (At 1)
    ∷ tests s0 2
    ∷ tests (sum_fits W32 v0 (number 1)) 3
    ∷ Basic (binding (local 1 int) (add v0 (number 1)) ∷ binding (is_set 1) (truth true) ∷ []) (At 4)
    ∷ tests (open_term (is_set 1)) 5
    ∷ gives (open_term (local 1 int))
    ∷ the_end ∷ []

-- ---- int f(int n){if(n) return 1; return 2;}

abbrev pub choice : Body
choice = body (int ∷ []) (int ∷ []) (core.Sequence (core.If n (returns (constant_int (pos 1))) core.Skip) (then_end (returns (constant_int (pos 2)))))

abbrev pub choice_nodes : List Node
choice_nodes = Basic [] (At 1) ∷ tests s0 2 ∷ Cond some0 (At 3) (At 4) ∷ gives (number 1) ∷ gives (number 2) ∷ the_end ∷ []

-- ---- int f(int n){while(n){if(n) break; continue;} return n;}

abbrev pub while_loop : Body
while_loop = body (int ∷ []) (int ∷ [])
    (core.Sequence (core.Loop 0 Before n core.Skip (core.Sequence (core.If n (core.Leave Break) core.Skip) (core.Leave Continue))) (then_end (returns n)))

abbrev pub while_nodes : List Node
while_nodes =
    Basic [] (At 1)
    ∷ Basic [] (At 2)
    ∷ tests s0 3
    ∷ Cond some0 (At 4) (At 7)
    ∷ Basic [] (At 5)
    ∷ tests s0 6
    ∷ Cond some0 (At 7) (At 1)
    ∷ tests s0 8
    ∷ gives v0
    ∷ the_end ∷ []

abbrev pub while_points : List (Point × ℕ)
while_points = (point.Test 0, 1) ∷ (point.Body 0, 4) ∷ []

-- ---- int f(int n){for(;n;n=1){if(n) continue; break;} return n;}

abbrev pub for_loop : Body
for_loop = body (int ∷ []) (int ∷ [])
    (core.Sequence (core.Loop 0 Before n (core.Set 0 (constant_int (pos 1))) (core.Sequence (core.If n (core.Leave Continue) core.Skip) (core.Leave Break))) (then_end (returns n)))

abbrev pub for_nodes : List Node
for_nodes =
    Basic [] (At 1)
    ∷ Basic [] (At 2)
    ∷ tests s0 3
    ∷ Cond some0 (At 4) (At 8)
    ∷ Basic [] (At 5)
    ∷ tests s0 6
    ∷ Cond some0 (At 7) (At 8)
    ∷ Basic (binding (local 0 int) (number 1) ∷ binding (is_set 0) (truth true) ∷ []) (At 1)
    ∷ tests s0 9
    ∷ gives v0
    ∷ the_end ∷ []

-- ---- int f(int n){do{if(n) continue; break;}while(n); return n;}

abbrev pub do_loop : Body
do_loop = body (int ∷ []) (int ∷ [])
    (core.Sequence (core.Loop 0 After n core.Skip (core.Sequence (core.If n (core.Leave Continue) core.Skip) (core.Leave Break))) (then_end (returns n)))

abbrev pub do_nodes : List Node
do_nodes =
    Basic [] (At 1)
    ∷ Basic [] (At 2)
    ∷ tests s0 3
    ∷ Cond some0 (At 4) (At 7)
    ∷ Basic [] (At 5)
    ∷ tests s0 6
    ∷ Cond some0 (At 1) (At 7)
    ∷ tests s0 8
    ∷ gives v0
    ∷ the_end ∷ []

abbrev pub do_points : List (Point × ℕ)
do_points = (point.Body 0, 1) ∷ (point.Test 0, 4) ∷ []

-- ---- int f(int n){switch(n){case 3: case -1: return 1; default: break; case 5: n=2;} return n;}

abbrev pub switch_body : Body
switch_body = body (int ∷ []) (int ∷ [])
    (core.Sequence (core.Switch n
    (core.groups (Some (pos 3) ∷ Some (negsuc 0) ∷ []) (returns (constant_int (pos 1)))
    (core.groups (None ∷ []) (core.Leave Break)
    (core.groups (Some (pos 5) ∷ []) (core.Set 0 (constant_int (pos 2))) core.no_groups))))
    (then_end (returns n)))

abbrev pub switch_nodes : List Node
switch_nodes =
    Basic [] (At 1)
    ∷ tests s0 2
    ∷ Cond (equal v0 (number 3)) (At 5) (At 3)
    ∷ Cond (equal v0 (number 4294967295)) (At 5) (At 4)
    ∷ Cond (equal v0 (number 5)) (At 6) (At 7)
    ∷ gives (number 1)
    ∷ Basic (binding (local 0 int) (number 2) ∷ binding (is_set 0) (truth true) ∷ []) (At 7)
    ∷ tests s0 8
    ∷ gives v0
    ∷ the_end ∷ []

-- ---- int f(int n){return n&&10/n;}

abbrev pub conjunction : Body
conjunction = body (int ∷ []) (int ∷ [])
    (then_end (returns (core.Choose int n (core.Compare comparison.NotEqual (core.Operate arithmetic.Divide int (constant_int (pos 10)) n 0) (constant_int (pos 0))) (constant_int (pos 0)))))

abbrev pub tenth : Term
tenth = signed_quotient (number 10) v0

abbrev pub conjunction_nodes : List Node
conjunction_nodes =
    Basic [] (At 1)
    ∷ tests s0 2
    ∷ tests (or_term (not_term some0) s0) 3
    ∷ tests (or_term (not_term some0) (and_term (not_term (equal v0 (number 0))) (not_term (and_term (equal (number 10) (number 2147483648)) (equal v0 (number 4294967295)))))) 4
    ∷ gives (choose some0 (choose (not_term (equal tenth (number 0))) (number 1) (number 0)) (number 0))
    ∷ the_end ∷ []

-- ---- void f(int *p){p[0]=7;}, p the first local: an object at p, of four bytes

abbrev pub v_pointer : Term
v_pointer = open_term (local 0 word)

abbrev pub at_pointer : Term
at_pointer = add v_pointer (number 0)

abbrev pub store_body : Body
store_body = body (word ∷ []) (word ∷ []) (core.Sequence (core.Store int (core.ReadLocal word 0 0) 0 (constant_int (pos 7)) 0) (core.Return None))

abbrev pub store_nodes : List Node
store_nodes =
    Basic [] (At 1)
    ∷ tests s0 2
    ∷ tests (and_term (and_term (not_term (equal at_pointer (number 0))) (equal (bit_and at_pointer (number 3)) (number 0))) (not_term (less at_pointer v_pointer))) 3
    ∷ tests (or_term (not_term (less (open_term zone_low) (open_term zone_high)))
    (or_term (less (add at_pointer (number 3)) (open_term zone_low)) (not_term (less at_pointer (open_term zone_high))))) 4
    ∷ tests (or_term (less (number 4098) at_pointer) (less (add at_pointer (number 3)) (number 4096))) 5
    ∷ Basic (binding memory
    (store (store (store (store (open_term memory) at_pointer (byte_of 0 (number 7))) (add at_pointer (number 1)) (byte_of 1 (number 7)))
    (add at_pointer (number 2)) (byte_of 2 (number 7))) (add at_pointer (number 3)) (byte_of 3 (number 7))) ∷ []) Ret
    ∷ []

-- ---- int f(int n){char x=f(n); return x;}

abbrev pub char : Scalar
char = record { width = 8; is_signed = false }

abbrev pub call_body : Body
call_body = body (int ∷ []) (int ∷ char ∷ [])
    (core.Sequence (core.Call 0 (codes "f") (n ∷ []) (Some 1)) (then_end (returns (core.Convert int (core.ReadLocal char 1 0)))))

abbrev pub call_nodes : List Node
call_nodes =
    Basic [] (At 1)
    ∷ tests s0 2
    ∷ Call 0
    (binding (local 0 int) v0 ∷ binding (is_set 0) (truth true) ∷ [])
    (binding (local 1 char) (low W8 (open_term (result int))) ∷ binding (is_set 1) (truth true) ∷ []) 3
    ∷ Basic [] (At 4)
    ∷ tests (open_term (is_set 1)) 5
    ∷ gives (zero_extend W32 (open_term (local 1 char)))
    ∷ the_end ∷ []
