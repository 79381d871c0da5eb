use Rattle.report_text.proofs.ShowTexts.{word_is}
use Rattle.report_text.proofs.showing.push_word.Goals as goal

pub returns-3 : goal.returns-3
returns-3 c =
    word_is c.args.out.now.items c.args.address c.args.word c.push_address.new.out.items c.push.new.self.items c.push_address-2.new.out.items c.push-2.new.self.items
    c.in-Ok-attempt.ensures c.in_ok-push.ensures.items c.in-Ok-attempt-2.ensures c.in_ok-push-2.ensures.items
