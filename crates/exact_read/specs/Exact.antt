-- Exactness: a parser reads all that a grammar derives, nothing else, and refuses at the first token that is wrong.
use Rattle.std.specs.Prelude.{◌≡◌, Bool, List, ◌∷◌, ◌++◌, Ok, Err}
use Rattle.exact_read.specs.Reading.{LimitExceeded, Wrong, Parser, Marks, plains, Within, limit, Stops}
use Rattle.exact_read.specs.Whole.{IsLimitExceeded}

-- what was read is a whole text of the grammar, and the rest begins with a token at which the value may end
pub record IsTaken {T U X : Type 0} (marks : Marks T U) (S : X → List U → Type 0) (stop : X → T → Bool) (before : List T) (value : X) (rest : List T) : Type 0 where
  pub text : List U
  pub cut : before ≡ plains marks text ++ rest
  pub derives : S value text
  pub within : Within marks text
  pub stops : Stops (stop value) rest

-- a token is wrong: the tokens before it are a prefix of a text of the grammar, and the parser calls it wrong whatever
-- follows it
pub record IsWrong {T U K X : Type 0} (marks : Marks T U) (S : X → List U → Type 0) (read : Parser T K X) (before : List T) (kind : K) (rest : List T) : Type 0 where
  pub prefix : List U
  pub cut : before ≡ plains marks prefix ++ rest
  pub within : Within marks prefix
  pub value : X
  pub more : List U
  pub derives : S value (prefix ++ more)
  pub whatever : (token : T) (old new : List T) → rest ≡ token ∷ old → read (plains marks prefix ++ token ∷ new) ≡ Err (Wrong kind, token ∷ new)

-- the parser reads the grammar exactly, where the next token passes the test `entry`
pub record Exact {T U K X : Type 0} (marks : Marks T U) (entry : T → Bool) (S : X → List U → Type 0) (stop : X → T → Bool) (read : Parser T K X) : Type 0 where
  -- what it reads is in the grammar
  pub takes : (before : List T) (value : X) (rest : List T) → Stops entry before → read before ≡ Ok (value, rest) → IsTaken marks S stop before value rest
  -- what is in the grammar is read, up to the first token at which a limit is exceeded
  pub again : (value : X) (text : List U) (rest : List T) → S value text → Stops (stop value) rest → Stops entry (plains marks text ++ rest) → read (plains marks text ++ rest) ≡ limit marks text rest (Ok (value, rest))
  -- the tokens before one that it calls wrong are a prefix of a text of the grammar, and with it they are none
  pub wrongs : (before : List T) (kind : K) (rest : List T) → Stops entry before → read before ≡ Err (Wrong kind, rest) → IsWrong marks S read before kind rest
  -- where it answers that a limit is exceeded, one is
  pub exceeds : (before rest : List T) → Stops entry before → read before ≡ Err (LimitExceeded, rest) → IsLimitExceeded marks S before rest
