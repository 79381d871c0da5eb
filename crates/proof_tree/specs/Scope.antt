-- What the variables of a proof are, of the code as the definitions have it.
use Rattle.std.specs.Prelude.{◌≡◌, ◌<◌, ℕ, List, length, map, Some, slice_get}
use Rattle.term_core_spec.specs.declared.Family.{Family}
use Rattle.term_core_spec.specs.declared.Family.TheVariants as family
use Rattle.term_core_spec.specs.declared.Variable.{Variable}
use Rattle.proof_tree_spec.specs.Scope as spec
use Rattle.proof_tree.specs.declared.scope.Body.{Body}
use Rattle.proof_tree.specs.declared.scope.Setting.{Setting}

abbrev pub body_of : Body → spec.Body
body_of b = record { path = b.path.items; instance = b.instance; locals = b.locals.items }

abbrev pub setting_of : Setting → spec.Setting
setting_of s = record {
  argument_words = s.argument_words;
  parameters = s.parameters.items;
  bodies = map body_of s.bodies.items;
}

-- the variable is a local of the body, or whether one of its locals is set
abbrev pub IsOwn : Family → Variable → spec.Body → Type 0
IsOwn family.IsSet v b = v.index < length b.locals
IsOwn f v b = slice_get b.locals v.index ≡ Some v.sort

abbrev pub Owns : (path : List ℕ) → Variable → spec.Body → Type 0
Owns path v b = spec.IsVisible path v b × IsOwn v.family v b
