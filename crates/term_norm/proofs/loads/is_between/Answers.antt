use Rattle.term_norm.proofs.Growth.{extends_through}
use Rattle.term_norm.proofs.Parts.{between}
use Rattle.term_norm.proofs.loads.is_between.Goals as goal

pub returns : goal.returns
returns c =
    let old = c.args.bank.now in
    let first = c.normal_less.new.bank in
    let second = c.normal_not.new.bank in
    let third = c.normal_less-2.new.bank in
    let new = c.normal_and.new.bank in
    record {
      form = between old first second third new c.args.d c.args.low c.args.high c.in_ok-is_before.is_before c.in_ok-is_from.is_from c.in_ok-is_below.is_below c.normal_and.result
          c.normal_less.ensures.extends c.normal_not.ensures.extends c.normal_less-2.ensures.extends c.requires.address c.requires.end
          c.in_ok-is_before.ensures.form c.in_ok-is_from.ensures.form c.in_ok-is_below.ensures.form c.normal_and.ensures.form;
      extends = extends_through old third new
          (extends_through old second third (extends_through old first second c.normal_less.ensures.extends c.normal_not.ensures.extends) c.normal_less-2.ensures.extends)
          c.normal_and.ensures.extends;
    }
