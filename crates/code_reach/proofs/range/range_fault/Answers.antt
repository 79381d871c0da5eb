use Rattle.std.proofs.Common.{rules}
use Rattle.code_reach_spec.specs.Code.{empty, writable, misplaced}
use Rattle.code_reach.proofs.range.range_fault.Goals as goal

pub returns-then-size-eq0 : goal.returns-then-size-eq0
returns-then-size-eq0 c = empty (search rules)

pub returns-then-not-is_fixed_range : goal.returns-then-not-is_fixed_range
returns-then-not-is_fixed_range c = writable (search rules) (λ fixed. let yes = c.is_fixed_range.ensures.1 fixed in cc)

pub returns-then-not-is_aligned : goal.returns-then-not-is_aligned
returns-then-not-is_aligned c = misplaced (search rules) (search rules) (λ e f. let yes = c.is_aligned.ensures.1 (e, f) in cc)
