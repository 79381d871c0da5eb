-- What contracts see of an object for input or output, at one moment. `None` is where they do not see it.
use Rattle.std.specs.Prelude.{ℕ, List, Option}

-- contents by name
abbrev pub Contents : Type 0
Contents = List ℕ → Option (List ℕ)

-- of a desk: its files, what is left of the file that was begun last, the names that were begun, and how many calls
-- failed
pub record DeskState : Type 0 where
  pub files : Contents
  pub left : Option (List ℕ)
  pub opened : Option (List (List ℕ))
  pub faults : ℕ

-- of a sink or a store: what it holds by name, the name that is written to, and how many calls failed
pub record SinkState : Type 0 where
  pub held : Contents
  pub begun : List ℕ
  pub faults : ℕ
