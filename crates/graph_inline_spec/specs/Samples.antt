-- A call, in C and in code, before and after inlining: `r = g(a); return r + 2;`, where g is `return a + 1;`.
use Rattle.std.specs.Prelude.{ℕ, true, false, List, [], ◌∷◌}
use Rattle.term_core_spec.specs.declared.Variable.{Variable}
use Rattle.term_core_spec.specs.declared.Family.{Family}
use Rattle.term_core_spec.specs.declared.Family.TheVariants as family
use Rattle.term_core_spec.specs.declared.Width.TheVariants.{W32}
use Rattle.term_core_spec.specs.declared.Sort.{Sort}
use Rattle.term_core_spec.specs.declared.Sort.TheVariants as sort
use Rattle.term_core_spec.specs.Term.{Term, truth, constant, open_term, add, equal}
use Rattle.graph_core_spec.specs.declared.Next.TheVariants.{At, Ret, Err}
use Rattle.graph_core_spec.specs.Graph.{Binding, Basic, Cond, Call, Graph}
use Rattle.graph_inline_spec.specs.Inlining.{Inlines}

abbrev pub variable : Family → (index instance : ℕ) → Sort → Variable
variable f index instance s = record { family = f; index = index; instance = instance; sort = s }

abbrev pub sets : Variable → Term → Binding
sets v t = record { variable = v; term = t }

abbrev pub word : ℕ → Term
word n = constant W32 n

abbrev pub plus : Variable → ℕ → Term
plus v n = add (open_term v) (word n)

-- ---- in C: locals, whether they are set, and the result

abbrev pub local : (index instance : ℕ) → Variable
local index instance = variable family.Local index instance (sort.Word W32)

abbrev pub is_set : (index instance : ℕ) → Variable
is_set index instance = variable family.IsSet index instance sort.Truth

abbrev pub result : (instance : ℕ) → Variable
result instance = variable family.Further 2 instance (sort.Word W32)

-- `return a + 1;`, with a second local that is never set
abbrev pub c_callee : Graph
c_callee = record {
  nodes = Basic [] (At 1) ∷ Basic (sets (result 0) (plus (local 0 0) 1) ∷ []) Ret ∷ [];
  entry = 0;
}

abbrev pub c_own : List Variable
c_own = local 0 0 ∷ is_set 0 0 ∷ local 1 0 ∷ is_set 1 0 ∷ result 0 ∷ []

-- `r = g(a); return r + 2;`
abbrev pub c_caller : Graph
c_caller = record {
  nodes =
      Basic [] (At 1)
      ∷ Call 1 (sets (local 0 0) (open_term (local 0 0)) ∷ sets (is_set 0 0) (truth true) ∷ [])
      (sets (local 1 0) (open_term (result 0)) ∷ sets (is_set 1 0) (truth true) ∷ []) 2
      ∷ Basic [] (At 3)
      ∷ Basic (sets (result 0) (plus (local 1 0) 2) ∷ []) Ret ∷ [];
  entry = 0;
}

-- the argument is the caller's, the result the callee's; nodes 4 and 5 are the callee's, and node 6 gives the result
abbrev pub c_inlined : Graph
c_inlined = record {
  nodes =
      Basic [] (At 1)
      ∷ Basic (
      sets (local 0 2) (open_term (local 0 0))
      ∷ sets (is_set 0 2) (truth true)
      ∷ sets (local 1 2) (word 0)
      ∷ sets (is_set 1 2) (truth false)
      ∷ sets (result 2) (word 0) ∷ []
      ) (At 4)
      ∷ Basic [] (At 3)
      ∷ Basic (sets (result 0) (plus (local 1 0) 2) ∷ []) Ret
      ∷ Basic [] (At 5)
      ∷ Basic (sets (result 2) (plus (local 0 2) 1) ∷ []) (At 6)
      ∷ Basic (sets (local 1 0) (open_term (result 2)) ∷ sets (is_set 1 0) (truth true) ∷ []) (At 2) ∷ [];
  entry = 0;
}

-- ---- in code: registers, which are shared, and the registers at entry

abbrev pub x : ℕ → Variable
x index = variable family.Register index 0 (sort.Word W32)

abbrev pub e : (index instance : ℕ) → Variable
e index instance = variable family.Entry index instance (sort.Word W32)

-- `addi a0,a0,1; ret`
abbrev pub code_callee : Graph
code_callee = record {
  nodes =
      Basic [] (At 1)
      ∷ Basic (sets (x 10) (plus (x 10) 1) ∷ []) (At 2)
      ∷ Cond (equal (open_term (x 1)) (open_term (e 1 0))) Ret Err ∷ [];
  entry = 0;
}

-- `jal g`, at 00010008
abbrev pub code_caller : Graph
code_caller = record {
  nodes =
      Basic [] (At 1)
      ∷ Call 1 (sets (x 1) (word 0x1000c) ∷ sets (e 1 0) (word 0x1000c) ∷ sets (e 2 0) (open_term (x 2)) ∷ []) [] 2
      ∷ Basic [] (At 3)
      ∷ Basic (sets (x 10) (plus (x 10) 2) ∷ []) Ret ∷ [];
  entry = 0;
}

-- of the registers at entry only those are there that the callee's graph speaks of
abbrev pub code_inlined : Graph
code_inlined = record {
  nodes =
      Basic [] (At 1)
      ∷ Basic (sets (x 1) (word 0x1000c) ∷ sets (e 1 2) (word 0x1000c) ∷ []) (At 4)
      ∷ Basic [] (At 3)
      ∷ Basic (sets (x 10) (plus (x 10) 2) ∷ []) Ret
      ∷ Basic [] (At 5)
      ∷ Basic (sets (x 10) (plus (x 10) 1) ∷ []) (At 6)
      ∷ Cond (equal (open_term (x 1)) (open_term (e 1 2))) (At 7) Err
      ∷ Basic [] (At 2) ∷ [];
  entry = 0;
}

-- ---- the law can be used of them

abbrev pub CanInlineBoth : Type 0
CanInlineBoth =
    Inlines (c_caller ∷ c_callee ∷ []) 0 1 c_own 2 (c_inlined ∷ c_callee ∷ [])
    × Inlines (code_caller ∷ code_callee ∷ []) 0 1 (e 1 0 ∷ []) 2 (code_inlined ∷ code_callee ∷ [])
