use Rattle.report_text.proofs.ShowTexts.{more_words}
use Rattle.report_text.proofs.showing.push_words.Goals as goal

pub loop-address-preserved : goal.loop-address-preserved
loop-address-preserved c =
    more_words c.args.words.now c.loop-address.address-index (0, 0) c.args.out.now.items c.loop-address.out.items c.push_word.new.out.items c.loop-address-test.true
    c.loop-address.invariant c.in-Ok-attempt.ensures
