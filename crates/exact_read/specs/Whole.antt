-- Whole texts of a grammar, and the first fault of tokens that are none. No parser is named here.
use Rattle.std.specs.Prelude.{◌≡◌, true, List, [], ◌∷◌, ◌++◌}
use Rattle.exact_read.specs.Reading.{Marks, plains, Within}

-- the tokens are a text of the grammar, and no leaf exceeds a limit
pub record IsWhole {T U X : Type 0} (marks : Marks T U) (S : X → List U → Type 0) (tokens : List T) (value : X) : Type 0 where
  pub text : List U
  pub cut : tokens ≡ plains marks text
  pub derives : S value text
  pub within : Within marks text

-- no text of the grammar continues with the next token or, where there is none, ends there
pub record NoneGoesOn {T U X : Type 0} (marks : Marks T U) (S : X → List U → Type 0) (prefix rest : List T) : Type 0 where
  pub at_end : (value : X) (text : List U) → S value text → rest ≡ [] → plains marks text ≡ prefix → ⊥
  pub at_token : (value : X) (text : List U) (token : T) (old new : List T) → S value text → rest ≡ token ∷ old → plains marks text ≡ prefix ++ token ∷ new → ⊥

-- the first token with which the tokens so far begin no text of the grammar
pub record IsWrongAt {T U X : Type 0} (marks : Marks T U) (S : X → List U → Type 0) (tokens rest : List T) : Type 0 where
  pub prefix : List U
  pub cut : tokens ≡ plains marks prefix ++ rest
  pub within : Within marks prefix
  pub value : X
  pub more : List U
  pub derives : S value (prefix ++ more)
  pub none : NoneGoesOn marks S (plains marks prefix) rest

-- a limit is exceeded: the tokens up to the first of `rest`, and it, are a prefix of a text of the grammar, and its
-- leaf exceeds a limit
pub record IsLimitExceeded {T U X : Type 0} (marks : Marks T U) (S : X → List U → Type 0) (before rest : List T) : Type 0 where
  pub prefix : List U
  pub last : U
  pub following : List T
  pub here : rest ≡ marks.plain last ∷ following
  pub cut : before ≡ plains marks prefix ++ rest
  pub within : Within marks prefix
  pub over : marks.over last ≡ true
  pub value : X
  pub more : List U
  pub derives : S value (prefix ++ last ∷ more)
