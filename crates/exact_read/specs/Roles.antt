-- Parsers that call a wrong token by the role that the grammar expects in its place.
use Rattle.std.specs.Prelude.{◌≡◌, Bool, List, ◌++◌, Err}
use Rattle.exact_read.specs.Expected.{Roles, Next, Reported, Asked}
use Rattle.exact_read.specs.Reading.{Wrong, Parser, Marks, plains, Within, Stops}
use Rattle.exact_read.specs.Exact.{Exact}

-- a token is wrong, and its kind is the role that is expected after those before it
pub record IsAsked {T U K X : Type 0} (marks : Marks T U) (roles : Roles U K) (S : X → List U → Type 0) (before : List T) (kind : K) (rest : List T) : Type 0 where
  pub prefix : List U
  pub cut : before ≡ plains marks prefix ++ rest
  pub within : Within marks prefix
  pub value : X
  pub more : List U
  pub derives : S value (prefix ++ more)
  pub asked : Asked marks roles S (plains marks prefix) kind

-- The parser is exact, and keeps roles. `ending` is the role of what can continue a whole text of a value. `Loose` says
-- whether a token directly after a whole text may be called wrong: it is ⊥ for most.
pub record Roled {T U K X : Type 0} (marks : Marks T U) (roles : Roles U K) (entry : T → Bool) (S : X → List U → Type 0) (stop : X → T → Bool) (ending : X → K) (Loose : Type 0) (read : Parser T K X) : Type 0 where
  pub exact : Exact marks entry S stop read
  -- the kind of a wrong token is the role that is expected there
  pub asks : (before : List T) (kind : K) (rest : List T) → Stops entry before → read before ≡ Err (Wrong kind, rest) → IsAsked marks roles S before kind rest
  -- what can continue a whole text has the role of its value's end, or none
  pub reports : (value : X) (text : List U) (u : U) → S value text → Within marks text → Stops entry (plains marks text) → Next marks S (plains marks text) u → Reported roles u (ending value)
  -- directly after a whole text no token is called wrong, unless the parser is loose, and then without a role
  pub firm : (value : X) (text : List U) (kind : K) (rest : List T) → S value text → Within marks text → Stops entry (plains marks text ++ rest) → read (plains marks text ++ rest) ≡ Err (Wrong kind, rest) → Loose × (kind ≡ roles.none)
  -- if two texts begin with the same tokens, and in one of them these exceed no limit, they exceed none in the other
  pub alike : (x y : X) (one following two after : List U) → S x (one ++ following) → S y (two ++ after) → plains marks one ≡ plains marks two → Within marks one → Stops entry (plains marks one) → Within marks two

-- no value has a role at its end
abbrev pub silent : {U K X : Type 0} → Roles U K → X → K
silent roles value = roles.none
