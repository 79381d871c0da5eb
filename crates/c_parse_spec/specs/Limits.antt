-- How much a source may nest. ISO C11 leaves both numbers to the implementation (5.2.4.1).
use Rattle.std.specs.Prelude.{ℕ, suc, ◌+◌, ◌*◌}
use Rattle.tv_limits.specs.declared.TheConstants.{NESTING_LIMIT, OPERATOR_LIMIT}

-- how many constructs may be open at once: brackets that are not closed, and `if`, `else`, `while`, `do`, `for` and
-- `switch` that are not finished
abbrev pub nesting_limit : ℕ
nesting_limit = NESTING_LIMIT

-- how many operators may occur in one whole expression
abbrev pub operator_limit : ℕ
operator_limit = OPERATOR_LIMIT

-- Fuel that suffices for every statement within the limits: a parser uses one up for each construct that it opens.
abbrev pub statement_fuel : ℕ
statement_fuel = suc nesting_limit

-- Fuel that suffices for every expression within the limits: a parser passes through eight others at most before it
-- opens a construct or takes an operator.
abbrev pub expression_fuel : ℕ
expression_fuel = 8 * (suc nesting_limit + suc operator_limit) + 4
