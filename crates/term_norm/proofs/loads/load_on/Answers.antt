use Rattle.std.proofs.Common.{◌≤◌, length, sym, ap, arith}
use Rattle.term_core_spec.specs.Term.{Term}
use Rattle.term_bank.specs.Nodes.{tree_at}
use Rattle.term_norm.specs.Runs.{load_from}
use Rattle.term_norm.specs.Walk.{Advances}
use Rattle.term_norm.proofs.Growth.{extends_through, longer, stays, within}
use Rattle.term_norm.proofs.Steps.{goes_on, ends}
use Rattle.term_norm.proofs.Taken.{taken, ended}
use Rattle.term_norm.proofs.loads.load_on.Goals as goal

advances : (c : goal.In_default) → Advances c.loop-load.walk c.take.new.self c.args.m
advances c = goes_on c.loop-load.walk c.take.new.self c.args.m c.load_at_hand-outcome.result c.in_ok-load.field-0 c.in_default.is (c.in_ok-load.ensures.end c.args.m c.loop-load.invariant.sound)

pub loop-load-smaller : goal.loop-load-smaller
loop-load-smaller c = (advances c).less

pub loop-load-preserved : goal.loop-load-preserved
loop-load-preserved c =
    let initial = c.args.bank.now in
    let old = c.loop-load.bank in
    let new = c.load_at_hand-outcome.new.bank in
    let more : length initial ≤ length old = longer initial old c.loop-load.invariant.grown in
    let at : c.loop-load.walk.at ≤ c.args.m = c.loop-load.invariant.sound.within in
    record {
      grown = extends_through initial old new c.loop-load.invariant.grown c.load_at_hand-outcome.ensures.extends;
      sound = (advances c).sound;
      loads = taken (load_from c.args.runs.now (tree_at old c.args.d)) (load_from c.args.runs.now (tree_at new c.args.d)) old new c.loop-load.walk c.take.new.self c.load_at_hand-outcome.result (λ (t : Term). ap (λ address. load_from c.args.runs.now address t) (stays old new c.args.d c.load_at_hand-outcome.ensures.extends (omega arith))) c.load_at_hand-outcome.ensures.extends (omega arith) c.loop-load.invariant.loads c.load_at_hand-outcome.ensures.form c.in_ok-load.ensures.forms;
    }

pub returns-in-Some : goal.returns-in-Some
returns-in-Some c =
    let initial = c.args.bank.now in
    let old = c.loop-load.bank in
    let new = c.load_at_hand-outcome.new.bank in
    let runs = c.args.runs.now in
    let at_end = ends c.loop-load.walk c.take.new.self c.args.m c.load_at_hand-outcome.result c.in_ok-load.field-0 c.in-Some.load c.in-Some.is (c.in_ok-load.ensures.end c.args.m c.loop-load.invariant.sound) in
    let form = ended (load_from runs (tree_at old c.args.d)) (load_from runs (tree_at initial c.args.d)) initial old new c.loop-load.walk.at c.args.m c.in-Some.load c.load_at_hand-outcome.result
    (λ (t : Term). ap (λ address. load_from runs address t) (sym (stays initial old c.args.d c.loop-load.invariant.grown c.requires.address)))
    c.loop-load.invariant.grown c.requires.memory c.load_at_hand-outcome.ensures.form at_end.0 at_end.1 in
    record {
      form = form;
      within = within new c.in-Some.load _ form;
      extends = extends_through initial old new c.loop-load.invariant.grown c.load_at_hand-outcome.ensures.extends;
    }
