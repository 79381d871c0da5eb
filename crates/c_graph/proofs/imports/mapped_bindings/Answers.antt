use Rattle.std.proofs.Common.{◌≡◌, ◌∙◌, ℕ, ◌+◌, ◌<◌, List, ◌∷◌, ◌++◌, [], length, map, take, get_or, refl, sym, ap, arith}
use Rattle.std.proofs.lemmas.List.{take_all}
use Rattle.c_graph.specs.Emitted.{binding_under}
use Rattle.c_graph.proofs.imports.mapped_bindings.Goals as goal

pub returns : goal.returns
returns c = c.loop-binding.invariant ∙ ap (map (binding_under c.args.ids.now)) (take_all c.loop-binding.binding-index c.args.given.now c.loop-binding-test.false)
