-- Which variables a line of a proof may speak of, and when a term is one.
use Rattle.std.specs.Prelude.{◌≡◌, ◌⊎◌, ◌+◌, ◌<◌, ◌≤◌, ℕ, List, length, Any, Some, slice_get, nat_eq, IsTrue}
use Rattle.std.specs.List.{starts_with}
use Rattle.term_core_spec.specs.declared.Width.TheVariants.{W32}
use Rattle.term_core_spec.specs.declared.Sort.{Sort}
use Rattle.term_core_spec.specs.declared.Sort.TheVariants.{Truth, Word, Memory}
use Rattle.term_core_spec.specs.declared.Family.{Family}
use Rattle.term_core_spec.specs.declared.Family.TheVariants as family
use Rattle.term_core_spec.specs.declared.Variable.{Variable}
use Rattle.term_core_spec.specs.Term.{Term, Occurs}
use Rattle.term_core_spec.specs.Sort.{sort_of}

-- the body of the source's function, or of a call that is inlined in it: the numbers of the calls that lead to it,
-- outermost first; the instance of its own variables; and the sort of each of its locals
pub record Body : Type 0 where
  pub path : List ℕ
  pub instance : ℕ
  pub locals : List Sort

-- what the variables of a proof are: how many argument words the function has, the sort of each of its parameters, and
-- the bodies of the function and of the inlined calls
pub record Setting : Type 0 where
  pub argument_words : ℕ
  pub parameters : List Sort
  pub bodies : List Body

-- the variable is this body's, which the path leads through
pub record IsVisible (path : List ℕ) (v : Variable) (b : Body) : Type 0 where
  pub owned : b.instance ≡ v.instance
  pub on_the_path : IsTrue (starts_with nat_eq path b.path)

-- x1 to x31
pub record IsRegister (v : Variable) : Type 0 where
  pub from : 1 ≤ v.index
  pub below : v.index < 32
  pub of_function : v.instance ≡ 0
  pub word : v.sort ≡ Word W32

-- the only one of its family
pub record IsMemory (v : Variable) : Type 0 where
  pub only : v.index ≡ 0
  pub of_function : v.instance ≡ 0
  pub memory : v.sort ≡ Memory

-- in scope are the registers x1 to x31, their values at entry but for argument words, the memories, the function's
-- parameters, and the locals of each body that the path leads through, with whether they are set
abbrev pub InFamily : Setting → (path : List ℕ) → Family → Variable → Type 0
InFamily s path family.Register v = IsRegister v
InFamily s path family.Entry v = IsRegister v × ((v.index < 10) ⊎ (10 + s.argument_words ≤ v.index))
InFamily s path family.Parameter v = (v.instance ≡ 0) × (slice_get s.parameters v.index ≡ Some v.sort)
InFamily s path family.Local v = Any (λ b. IsVisible path v b × (slice_get b.locals v.index ≡ Some v.sort)) s.bodies
InFamily s path family.IsSet v = (v.sort ≡ Truth) × Any (λ b. IsVisible path v b × (v.index < length b.locals)) s.bodies
InFamily s path family.SourceMemory v = IsMemory v
InFamily s path family.BinaryMemory v = IsMemory v
InFamily s path family.ZoneMemory v = IsMemory v
InFamily s path family.Address v = ⊥
InFamily s path family.LoadedByte v = ⊥
InFamily s path family.Further v = ⊥

abbrev pub IsInScope : Setting → (path : List ℕ) → Variable → Type 0
IsInScope s path v = InFamily s path v.family v

-- a line is a truth value over variables in scope
pub record IsLine (s : Setting) (path : List ℕ) (line : Term) : Type 0 where
  pub truth : sort_of line ≡ Some Truth
  pub visible : (v : Variable) → Occurs v line → IsInScope s path v
