use Rattle.term_norm.proofs.Growth.{extends_through}
use Rattle.term_norm.proofs.Parts.{chosen}
use Rattle.term_norm.proofs.loads.load_of_store.Goals as goal

pub returns : goal.returns
returns c =
    let old = c.args.bank.now in
    let mid = c.normal_equal.new.bank in
    let new = c.normal_choose.new.bank in
    record {
      form = chosen old mid new c.normal_equal.ensures.extends c.normal_choose.result c.in_ok-test.test c.args.b c.args.below _ c.requires.stored c.requires.rest c.in_ok-test.ensures.form c.normal_choose.ensures.form;
      extends = extends_through old mid new c.normal_equal.ensures.extends c.normal_choose.ensures.extends;
    }
