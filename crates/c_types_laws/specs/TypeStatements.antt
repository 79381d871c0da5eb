-- Small units with statements, and their typed cores.
use Rattle.std.specs.Prelude.{ℕ, ◌+◌, pos, List, [], ◌∷◌, codes, Some, None}
use Rattle.c_syntax_spec.specs.declared.BinaryOperator.TheVariants as binary
use Rattle.c_syntax_spec.specs.declared.Access.TheVariants.{Arrow}
use Rattle.c_syntax_spec.specs.Expression as tree
use Rattle.c_syntax_spec.specs.Unit as unit
use Rattle.c_types_spec.specs.declared.Arithmetic.TheVariants as arithmetic
use Rattle.c_types_spec.specs.declared.Comparison.TheVariants as comparison
use Rattle.c_types_spec.specs.declared.TestPlace.TheVariants.{Before}
use Rattle.c_types_spec.specs.declared.Direction.TheVariants.{Up}
use Rattle.c_types_spec.specs.declared.Order.TheVariants.{PointerFirst}
use Rattle.c_types_spec.specs.Types.{int, word}
use Rattle.c_types_spec.specs.Core.{Typed, FunctionType}
use Rattle.c_types_spec.specs.Core as core
use Rattle.c_types_laws.specs.TypeSamples.{name_at, unsigned_words, int_words, char_words, words, plain, array, pointer, number, variable, parameter, function, returns, member, object, set, unset, unsigned}

abbrev pub definition : tree.Specifiers → tree.Name → List unit.Parameter → unit.Parts → (close : ℕ) → unit.ExternalDeclaration
definition specifiers name parameters body close = unit.Definition specifiers (function name parameters) body close

abbrev pub assigned : tree.Expression → tree.Expression → (offset : ℕ) → unit.Statement
assigned target value offset = unit.Perform (unit.Assign target (unit.Computed value) offset)

abbrev pub one_type : FunctionType
one_type = record { parameters = unsigned ∷ []; result = Some unsigned }

-- unsigned f(unsigned n){unsigned s=0;while(n!=0){s=s+n;n=n-1;}return s;}
abbrev pub loop_unit : unit.TranslationUnit
loop_unit = definition (unsigned_words 0) (name_at (codes "f") 9) (parameter (unsigned_words 11) 0 (name_at (codes "n") 20) ∷ [])
    (unit.parts_local (set (unsigned_words 23) (plain (codes "s") 32) (unit.Computed (number 0 34)))
    (unit.parts_statement (unit.While (tree.Binary binary.NotEqual (variable (codes "n") 42) (number 0 45) 43)
    (unit.Block (unit.parts_statement (assigned (variable (codes "s") 48) (tree.Binary binary.Add (variable (codes "s") 50) (variable (codes "n") 52) 51) 49)
    (unit.parts_statement (assigned (variable (codes "n") 54) (tree.Binary binary.Subtract (variable (codes "n") 56) (number 1 58) 57) 55) unit.no_parts)) 47) 36)
    (unit.parts_statement (returns (variable (codes "s") 68) 61) unit.no_parts))) 70 ∷ []

abbrev pub loop_typed : Typed
loop_typed = record {
  functions = (codes "f", one_type) ∷ [];
  globals = [];
  bodies = record {
    name = codes "f";
    signature = one_type;
    locals = unsigned ∷ unsigned ∷ [];
    loops = 1;
    calls = 0;
    mentions = [];
    action = core.Sequence
        (core.Sequence (core.Set 1 (core.Convert unsigned (core.Constant int (pos 0))))
        (core.Sequence (core.Loop 0 Before
        (core.Compare comparison.NotEqual (core.ReadLocal unsigned 0 42) (core.Convert unsigned (core.Constant int (pos 0)))) core.Skip
        (core.Sequence
        (core.Set 1 (core.Operate arithmetic.Add unsigned (core.ReadLocal unsigned 1 50) (core.ReadLocal unsigned 0 52) 51))
        (core.Set 0 (core.Operate arithmetic.Subtract unsigned (core.ReadLocal unsigned 0 56) (core.Convert unsigned (core.Constant int (pos 1))) 57))))
        (core.Return (Some (core.ReadLocal unsigned 1 68)))))
        (core.MissingReturn 70);
  } ∷ [];
}

-- unsigned g(unsigned a); unsigned s; unsigned f(unsigned a){unsigned r;r=g(a);s=g(r);return g(s);}
abbrev pub call_of : (spelling : List ℕ) → (offset : ℕ) → unit.Value
call_of spelling offset = unit.Called (record { callee = name_at (codes "g") offset; arguments = tree.expressions (variable spelling (offset + 2)) tree.no_expressions })

abbrev pub call_unit : unit.TranslationUnit
call_unit =
    unit.Declaration (unsigned_words 0) (unit.Function (function (name_at (codes "g") 9) (parameter (unsigned_words 11) 0 (name_at (codes "a") 20) ∷ [])) ∷ [])
    ∷ object (unsigned_words 24) (plain (codes "s") 33)
    ∷ definition (unsigned_words 36) (name_at (codes "f") 45) (parameter (unsigned_words 47) 0 (name_at (codes "a") 56) ∷ [])
    (unit.parts_local (unset (unsigned_words 59) (plain (codes "r") 68))
    (unit.parts_statement (unit.Perform (unit.Assign (variable (codes "r") 70) (call_of (codes "a") 72) 71))
    (unit.parts_statement (unit.Perform (unit.Assign (variable (codes "s") 77) (call_of (codes "r") 79) 78))
    (unit.parts_statement (unit.Return (Some (call_of (codes "s") 91)) 84) unit.no_parts)))) 96 ∷ []

-- the results of the second and third call go through further locals, which come after the local r
abbrev pub call_typed : Typed
call_typed = record {
  functions = (codes "g", one_type) ∷ (codes "f", one_type) ∷ [];
  globals = record { global = codes "s"; size = core.Sized 4 } ∷ [];
  bodies = record {
    name = codes "f";
    signature = one_type;
    locals = unsigned ∷ unsigned ∷ unsigned ∷ unsigned ∷ [];
    loops = 0;
    calls = 3;
    mentions = codes "s" ∷ codes "s" ∷ [];
    action = core.Sequence
        (core.Sequence (core.Unset 1)
        (core.Sequence (core.Call 0 (codes "g") (core.ReadLocal unsigned 0 74 ∷ []) (Some 1))
        (core.Sequence
        (core.Sequence (core.Call 1 (codes "g") (core.ReadLocal unsigned 1 81 ∷ []) (Some 2)) (core.Store unsigned (core.GlobalAddress (codes "s")) 0 (core.ReadLocal unsigned 2 79) 78))
        (core.Sequence (core.Call 2 (codes "g") (core.Load unsigned (core.GlobalAddress (codes "s")) 0 93 ∷ []) (Some 3)) (core.Return (Some (core.ReadLocal unsigned 3 91)))))))
        (core.MissingReturn 96);
  } ∷ [];
}

-- struct {char c; int a[3];} *p; void f(int i){p->a[i]+=1;}
abbrev pub member_unit : unit.TranslationUnit
member_unit =
    object (words (tree.Struct None (member char_words (plain (codes "c") 0) (member (int_words 0) (array (codes "a") 0 (number 3 0)) tree.no_members))) 0) (pointer (codes "p") 28)
    ∷ definition (words tree.Void 31) (name_at (codes "f") 36) (parameter (int_words 38) 0 (name_at (codes "i") 42) ∷ [])
    (unit.parts_statement (unit.Perform (unit.AssignBy binary.Add (tree.Index (tree.Member (variable (codes "p") 45) Arrow (name_at (codes "a") 48) 46) (variable (codes "i") 50) 49) (number 1 54) 52)) unit.no_parts) 56 ∷ []

abbrev pub element_address : core.Core
element_address =
    core.Move Up PointerFirst 4
    (core.Move Up PointerFirst 4 (core.Aligned 4 (core.Load word (core.GlobalAddress (codes "p")) 0 45) 46) (core.Constant int (pos 1)) 46)
    (core.Within 3 (core.ReadLocal int 0 50) 49) 49

abbrev pub member_typed : Typed
member_typed = record {
  functions = (codes "f", record { parameters = int ∷ []; result = None }) ∷ [];
  globals = record { global = codes "p"; size = core.Sized 4 } ∷ [];
  bodies = record {
    name = codes "f";
    signature = record { parameters = int ∷ []; result = None };
    locals = int ∷ [];
    loops = 0;
    calls = 0;
    mentions = codes "p" ∷ [];
    action = core.Sequence
        (core.Store int element_address 0 (core.Operate arithmetic.Add int (core.Target int 49) (core.Constant int (pos 1)) 52) 52)
        (core.Return None);
  } ∷ [];
}
