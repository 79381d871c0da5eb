use Rattle.std.proofs.Common.{◌≡◌, ◌%◌, sym, subst, rules}
use Rattle.code_reach.specs.Growth.{Grows, IsInside}
use Rattle.code_reach.proofs.Growing.{in-range, out-range, inside-one, inside-outside, inside-empty, aligned-yes, aligned-no}
use Rattle.code_reach.proofs.walk.add_target.Goals as goal

pub returns-then-not-is_multiple_of : goal.returns-then-not-is_multiple_of
returns-then-not-is_multiple_of c =
    subst (λ ts. Grows (IsInside c.args.entry c.args.size ts) c.args.reached.now.keys c.args.reached.now.keys)
    (sym (aligned-no c.args.target (λ e. let yes = c.is_multiple_of.ensures.1 e in cc)))
    (inside-empty c.args.entry c.args.size c.args.reached.now.keys)

pub returns-in_ok-add : goal.returns-in_ok-add
returns-in_ok-add c =
    let e : c.args.target % 4 ≡ 0 = search rules in
    subst (λ ts. Grows (IsInside c.args.entry c.args.size ts) c.args.reached.now.keys c.add.new.items.keys) (sym (aligned-yes c.args.target e))
    (inside-one c.args.entry c.args.size c.args.target (in-range c.args.entry c.args.size c.args.target (cc)) c.args.reached.now.keys c.add.new.items.keys
    c.in_ok-add.ensures)

pub returns-else-is_in_range : goal.returns-else-is_in_range
returns-else-is_in_range c =
    let e : c.args.target % 4 ≡ 0 = search rules in
    subst (λ ts. Grows (IsInside c.args.entry c.args.size ts) c.args.reached.now.keys c.args.reached.now.keys) (sym (aligned-yes c.args.target e))
    (inside-outside c.args.entry c.args.size c.args.target (out-range c.args.entry c.args.size c.args.target (cc)) c.args.reached.now.keys)
