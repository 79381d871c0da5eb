-- Contexts of parts that are one after the other: how operators are counted there, from a least count on.
use Rattle.std.proofs.Common.{ℕ, ◌≤◌, ◌+◌, arith, ◌≡◌, refl, ap}
use Rattle.c_parse_spec.specs.Expressions.{Counting, Alone, Within, count_at, advance}

pub record From (least : ℕ) : Type 0 where
  pub counting : Counting
  pub enough : least ≤ count_at counting

pub more_enough : (least : ℕ) (counting : Counting) (more : ℕ) → least ≤ count_at counting → least ≤ count_at (advance counting more)
more_enough least Alone more h = h
more_enough least (Within count) more h = omega arith

-- after so many more operators
abbrev pub onwards : {least : ℕ} → From least → (more : ℕ) → From least
onwards {least} from more = record { counting = advance from.counting more; enough = more_enough least from.counting more from.enough }

pub itself : (counting : Counting) → count_at counting ≤ count_at counting
itself counting = omega arith

-- no operator changes nothing
pub no_more : (counting : Counting) → advance counting 0 ≡ counting
no_more Alone = refl
no_more (Within count) = let same : count + 0 ≡ count = omega arith in ap Within same
