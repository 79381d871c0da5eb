use Rattle.std.proofs.Common.{◌≡◌, ◌++◌, rules, refl, ap, arith, length, length-append}
use Rattle.cert_text_feed.proofs.Stacks.{removed, lessened, read_again}
use Rattle.cert_text_feed.proofs.next.replace_first.Goals as goal

pub returns-then-more-eq0 : goal.returns-then-more-eq0
returns-then-more-eq0 c e others was =
    removed c.args.stack.now.items c.args.groups.now c.extend_from_slice.new.self.items c.remove.new.self.items _ c.index.result.now
    (omega (arith, c.len-last.ensures, c.args.stack.now.ok.0, c.requires)) (search rules) c.index.ensures c.if-more-eq0.true c.remove.ensures.items e others was

pub returns-else-more-eq0 : goal.returns-else-more-eq0
returns-else-more-eq0 c e others was =
    let added : c.extend_from_slice.new.self.items ≡ c.args.stack.now.items ++ c.args.groups.now = search rules in
    lessened c.args.stack.now.items c.args.groups.now c.extend_from_slice.new.self.items _ _ c.index.result.now _
    (omega (arith, c.len-last.ensures, c.args.stack.now.ok.0, c.requires)) (search rules) c.index.ensures (omega (arith, c.if-more-eq0.false))
    (ap (λ g. g.expected) (read_again c.extend_from_slice.new.self.items _ c.index_mut.result.now c.index.result.now
    (omega (arith, c.len-last.ensures, c.args.stack.now.ok.0, c.requires, ap length added, length-append c.args.stack.now.items c.args.groups.now)) c.index_mut.ensures.value c.index.ensures))
    refl e others was
