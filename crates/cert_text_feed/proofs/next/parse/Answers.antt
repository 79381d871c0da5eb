use Rattle.std.proofs.Common.{◌≡◌, ◌∙◌, ap, refl}
use Rattle.attempt.specs.declared.refusal.Refusal.TheVariants.{Fault}
use Rattle.cert_text_parse.specs.declared.stopped.TextFault.{TextFault}
use Rattle.cert_text_parse.specs.declared.stopped.TextFault.TheVariants.{Wrong}
use Rattle.cert_text_parse.specs.Keywords.{expected_of}
use Rattle.cert_text_feed.proofs.Reading.{amiss_at}
use Rattle.cert_text_feed.proofs.next.parse.Goals as goal

only_wrong : (fault : TextFault) → fault ≡ Wrong
only_wrong Wrong = refl

pub returns-in-Err-Fault-Wrong : goal.returns-in-Err-Fault-Wrong
returns-in-Err-Fault-Wrong c =
    let h = rw (c.in-Err-Fault-Wrong.field-0-is ∙ ap Fault (only_wrong c.in-Err-Fault-Wrong.field-0-0)) at c.in-Err-Fault-Wrong.ensures in
    amiss_at (expected_of c.args.expected) c.args.text.now c.next_line.new.cursor.rest.now c.saturating_sub.result h c.saturating_sub.ensures
