use Rattle.std.proofs.Common.{◌∙◌, [], ◌∷◌, ◌++◌, map, ap}
use Rattle.term_core_spec.specs.declared.Sort.{Sort}
use Rattle.c_graph_spec.specs.State.{sort_of_scalar}
use Rattle.cert_check_relations.proofs.Grown.{one_mapped, all_mapped}
use Rattle.cert_check_frames.proofs.scope.add_sorts.Goals as goal

pub loop-index-preserved : goal.loop-index-preserved
loop-index-preserved c =
    one_mapped sort_of_scalar c.args.types.now c.loop-index.index _ c.loop-index.sorts.items c.push.new.self.items (c.args.sorts.now.items ++ map sort_of_scalar c.args.types.now)
    c.loop-index-test.true (c.in-Ok-attempt.ensures.items ∙ ap (λ (s : Sort). c.loop-index.sorts.items ++ s ∷ []) c.sort_of.ensures) c.loop-index.invariant

pub returns : goal.returns
returns c =
    all_mapped sort_of_scalar c.args.types.now c.loop-index.index c.loop-index.sorts.items (c.args.sorts.now.items ++ map sort_of_scalar c.args.types.now)
    c.loop-index-test.false c.loop-index.invariant
