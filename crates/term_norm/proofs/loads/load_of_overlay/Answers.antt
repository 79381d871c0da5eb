use Rattle.std.proofs.Common.{◌≤◌, length, arith}
use Rattle.term_norm.proofs.Growth.{longer, within, extends_through}
use Rattle.term_norm.proofs.Parts.{chosen}
use Rattle.term_norm.proofs.loads.load_of_overlay.Goals as goal

pub normal_choose-requires : goal.normal_choose-requires
normal_choose-requires c =
    let old = c.args.bank.now in
    let mid = c.is_between.new.bank in
    let more : length old ≤ length mid = longer old mid c.is_between.ensures.extends in
    record { test_within = within mid c.in_ok-test.test _ c.in_ok-test.ensures.form; x_within = omega arith; y_within = omega arith }

pub returns : goal.returns
returns c =
    let old = c.args.bank.now in
    let mid = c.is_between.new.bank in
    let new = c.normal_choose.new.bank in
    record {
      form = chosen old mid new c.is_between.ensures.extends c.normal_choose.result c.in_ok-test.test c.args.upper c.args.lower _ c.requires.inside c.requires.outside c.in_ok-test.ensures.form c.normal_choose.ensures.form;
      extends = extends_through old mid new c.is_between.ensures.extends c.normal_choose.ensures.extends;
    }
