use Rattle.std.proofs.Common.{rules, ◌∙◌, ap, sym}
use Rattle.cert_text_parse.specs.Keywords.{expected_of}
use Rattle.cert_text.specs.Stack.{stack_of}
use Rattle.cert_text_feed.proofs.Going.{takes_error}
use Rattle.cert_text_feed.proofs.Stacks.{some_group}
use Rattle.cert_text_feed.proofs.next.whole_line.Goals as goal

pub returns : goal.returns
returns c =
    takes_error c.args.text.now c.args.stack.now.items c.parse.new.logs (expected_of c.in-Some.expected) c.in-Some.ensures.0 _ (ap stack_of (sym c.as_slice.ensures.value) ∙ c.in-Some.ensures.1)
    (search rules)

pub advance-requires : goal.advance-requires
advance-requires c =
    some_group c.args.stack.now.items (expected_of c.in-Some.expected) c.in-Some.ensures.0 (ap stack_of (sym c.as_slice.ensures.value) ∙ c.in-Some.ensures.1)
