use Rattle.std.proofs.Common.{◌∙◌, sym, arith}
use Rattle.std.specs.Prelude.{reverse}
use Rattle.std.proofs.lemmas.List.{length-reverse}
use Rattle.c_types_scope.proofs.Places.{until-all}
use Rattle.c_types_scope.proofs.entries.unwind.Goals as goal

pub returns-clause-rest : goal.returns-clause-rest
returns-clause-rest g c =
    sym (until-all c.args.start (reverse c.loop-entries.entries.items) (omega (arith, length-reverse c.loop-entries.entries.items, c.loop-entries.entries.ok.0, c.len.ensures)))
    ∙ c.loop-entries.invariant.rest
