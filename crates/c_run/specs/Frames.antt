-- What changes in a frame.
use Rattle.std.specs.Prelude.{◌≡◌, ℕ, ℤ, ◌++◌, ◌∷◌, [], List, Option, Some, None, slice_set}
use Rattle.c_run.specs.declared.frame.Frame.{Frame}
use Rattle.c_run.specs.declared.frame.Task.{Task}

-- more tasks, of which the last is next
pub record ArePushed (old new : Frame) (ts : List Task) : Type 0 where
  pub types : new.types ≡ old.types
  pub locals : new.locals ≡ old.locals
  pub tasks : new.tasks.items ≡ old.tasks.items ++ ts

abbrev pub IsPushed : (old new : Frame) → Task → Type 0
IsPushed old new t = ArePushed old new (t ∷ [])

-- another value of a local
pub record IsSet (old new : Frame) (local : ℕ) (value : Option ℤ) : Type 0 where
  pub types : new.types ≡ old.types
  pub locals : new.locals.items ≡ slice_set old.locals.items local value
  pub tasks : new.tasks ≡ old.tasks

-- other values of arguments
pub record IsPassed (old new : Frame) : Type 0 where
  pub types : new.types ≡ old.types
  pub locals : new.locals ≡ old.locals
  pub tasks : new.tasks ≡ old.tasks

abbrev pub TakesLast : (old new : List Task) → Option Task → Type 0
TakesLast old new None = old ≡ []
TakesLast old new (Some t) = old ≡ new ++ t ∷ []

-- the last task is taken, if there is one
pub record IsTaken (old new : Frame) (taken : Option Task) : Type 0 where
  pub types : new.types ≡ old.types
  pub locals : new.locals ≡ old.locals
  pub tasks : TakesLast old.tasks.items new.tasks.items taken
