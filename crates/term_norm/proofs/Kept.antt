-- A tree that is the normal form of a term has its sort, and its value wherever the fixed bytes are held.
use Rattle.std.proofs.Common.{◌≡◌, ◌^◌, ◌<◌, List, Some, refl, ap, subst, ◌∙◌}
use Rattle.term_core_spec.specs.declared.Sort.{Sort}
use Rattle.term_core_spec.specs.declared.Sort.TheVariants as sort
use Rattle.term_core_spec.specs.declared.Family.TheVariants as family
use Rattle.term_core_spec.specs.declared.Variable.{Variable}
use Rattle.term_core_spec.specs.Term.{Term}
use Rattle.term_core_spec.specs.Sort.{sort_of}
use Rattle.term_core_spec.specs.Value.{Assignment, IsAssignment, value}
use Rattle.term_core_spec.proofs.Soundness.{at_memory}
use Rattle.memory_spec.specs.Runs.{Run, AreBytes}
use Rattle.term_norm_spec.specs.Fixed.{HoldsFixed}
use Rattle.term_norm_spec.specs.Normal as spec
use Rattle.term_norm_spec.proofs.Soundness.{keeps_normal}

-- what a memory holds are bytes
held_bytes : (runs : List Run) (a : Assignment) → IsAssignment a → HoldsFixed runs a → AreBytes runs
held_bytes runs a is held =
    let v : Variable = record { family = family.SourceMemory; index = 0; instance = 0; sort = sort.Memory } in
    at_memory (λ m. a v ≡ m → AreBytes runs) (a v) (is v)
    (λ bytes below e address byte f. subst (λ n. n < 2 ^ 8) (held v refl bytes e address byte f) (below address)) refl

pub form_sort : (runs : List Run) (t u : Term) → u ≡ spec.normal runs t → AreBytes runs → (s : Sort) → sort_of t ≡ Some s → sort_of u ≡ Some s
form_sort runs t u e small s h = ap sort_of e ∙ (keeps_normal runs small t s h).sorted

pub form_value : (runs : List Run) (t u : Term) → u ≡ spec.normal runs t → (s : Sort) → sort_of t ≡ Some s
    → (a : Assignment) → IsAssignment a → HoldsFixed runs a → value a u ≡ value a t
form_value runs t u e s h a is held = ap (value a) e ∙ (keeps_normal runs (held_bytes runs a is held) t s h).value_is a is held
