use Rattle.std.proofs.Common.{rules, subst}
use Rattle.cert_text_spec.specs.Certificates as spec
use Rattle.cert_text_parse.specs.Keywords.{expected_of}
use Rattle.cert_text_parse.specs.Views.{line_of}
use Rattle.cert_text_feed.specs.Steps.{Replaces}
use Rattle.cert_text_feed.proofs.Stacks.{groups_are}
use Rattle.cert_text_feed.proofs.next.advance.Goals as goal

pub returns-2 : goal.returns-2
returns-2 c =
    subst (λ first. Replaces first c.args.stack.now.items c.replace_first.new.stack.items c.replace_first.result)
    (groups_are c.as_slice.result.now c.push_after.new.stack.items c.new-groups.result.items (spec.after (expected_of c.args.expected) (line_of c.args.line.now)) c.as_slice.ensures.value (search rules)
    c.new-groups.ensures.items)
    c.replace_first.ensures
