use Rattle.std.proofs.Common.{◌∙◌, ap, subst}
use Rattle.tv_limits.specs.declared.TheConstants.{MAX_NODES}
use Rattle.attempt.specs.declared.refusal.Refusal.TheVariants.{Fault}
use Rattle.graph_core.specs.Graphs.{graph_of}
use Rattle.decompile.specs.Errors.{IsGraphError}
use Rattle.pair_setup.proofs.Large.{is-large, not-large}
use Rattle.pair_setup.proofs.Sound.{IsOfSound, of_sound}
use Rattle.pair_setup.proofs.nodes.code_graph.Goals as goal

pub decompile_within-requires : goal.decompile_within-requires
decompile_within-requires c = record { function = c.requires.sound.sized; rising = c.requires.rising }

pub returns-in-Ok : goal.returns-in-Ok
returns-in-Ok c = record {
  code = record { graph_is = c.in-Ok.ensures.graph; firsts_are = c.in-Ok.ensures.firsts };
  small =
      not-large c.args.image.now c.args.entry c.args.entries.now c.code_graphs_have_one_size.ensures (graph_of c.in-Ok.found.graph) c.in-Ok.found.firsts.entries
      c.in-Ok.ensures.graph c.in-Ok.ensures.within;
}

pub returns-in-Err-Fault-Large : goal.returns-in-Err-Fault-Large
returns-in-Err-Fault-Large c =
    is-large c.args.image.now c.args.entry c.args.entries.now _
    (subst (IsGraphError c.args.image.now c.args.entry c.args.entries.now MAX_NODES) (c.in-Err-Fault-Large.field-0-is ∙ ap Fault c.in-Err-Fault-Large.field-0-0-is)
    c.in-Err-Fault-Large.ensures.error)

pub unreachable-requires : goal.unreachable-requires
unreachable-requires c =
    subst IsOfSound (c.in-Err-Fault-Code.field-0-is ∙ ap Fault c.in-Err-Fault-Code.field-0-0-is)
    (of_sound c.args.image.now c.args.entry c.args.entries.now MAX_NODES c.in-Err-Fault-Code.field-0 c.requires.sound c.in-Err-Fault-Code.ensures.error)

pub unreachable-requires-in-Err-Fault-Unlisted : goal.unreachable-requires-in-Err-Fault-Unlisted
unreachable-requires-in-Err-Fault-Unlisted c =
    subst IsOfSound (c.in-Err-Fault-Unlisted.field-0-is ∙ ap Fault c.in-Err-Fault-Unlisted.field-0-0-is)
    (of_sound c.args.image.now c.args.entry c.args.entries.now MAX_NODES c.in-Err-Fault-Unlisted.field-0 c.requires.sound c.in-Err-Fault-Unlisted.ensures.error)
