use Rattle.std.proofs.Common.{refl, ap}
use Rattle.cert_check_jobs.specs.Drafts.{line_holds}
use Rattle.cert_check_jobs.proofs.Made.{all_holding, holding_added, none_holding}
use Rattle.cert_check_jobs.proofs.drafts.add_holding.Goals as goal

pub loop-index-init : goal.loop-index-init
loop-index-init c = none_holding c.args.premises.now.items _ refl

pub loop-index-preserved : goal.loop-index-preserved
loop-index-preserved c =
    holding_added c.args.premises.now.items c.loop-index.premises.items c.push.new.self.items c.args.lines.now c.loop-index.index 0 _ c.loop-index-test.true c.loop-index.invariant
    c.in-Ok-attempt.ensures.items refl

pub returns : goal.returns
returns c = all_holding c.args.premises.now.items c.loop-index.premises.items c.args.lines.now c.loop-index.index c.loop-index-test.false c.loop-index.invariant
