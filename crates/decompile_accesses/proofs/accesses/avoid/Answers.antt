use Rattle.std.proofs.Common.{◌++◌, map, get_or}
use Rattle.std.proofs.lemmas.List.{get_or_default}
use Rattle.term_core.specs.Trees.{term_of}
use Rattle.graph_core.specs.Graphs.{boxed_term}
use Rattle.elf_read.specs.declared.parts.Extent.{Extent}
use Rattle.decompile_spec.specs.InstructionTerms.{avoids}
use Rattle.decompile_accesses.specs.Runs.{run_of}
use Rattle.decompile_accesses.proofs.Extents.{avoid_step}
use Rattle.decompile_accesses.proofs.accesses.avoid.Goals as goal

pub loop-run-preserved : goal.loop-run-preserved
loop-run-preserved c =
    let none : Extent = record { first = 0; last = 0 } in
    let x : Extent = get_or c.args.runs.now c.loop-run.run-index none in
    avoid_step (term_of c.args.a.now) (term_of c.args.e.now)
    (map boxed_term c.args.tests.now.items ++ map (avoids (term_of c.args.a.now) (term_of c.args.e.now)) (map run_of c.args.runs.now))
    c.loop-run.tests.items c.push.new.self.items c.in_ok-test.test c.args.runs.now c.loop-run.run-index x c.requires c.loop-run-test.true
    (get_or_default c.args.runs.now c.loop-run.run-index none x c.loop-run-test.true) c.in_ok-push.ensures.items c.in_ok-test.ensures c.loop-run.invariant
