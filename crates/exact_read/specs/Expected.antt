-- What a grammar expects after a prefix.
use Rattle.std.specs.Prelude.{◌≡◌, ◌⊎◌, List, ◌∷◌, ◌++◌}
use Rattle.exact_read.specs.Reading.{Marks, plains}

-- the role of a leaf, and the role that means nothing
pub record Roles (U K : Type 0) : Type 0 where
  pub role : U → K
  pub none : K

-- some text of the grammar has this leaf after the tokens `prefix`
pub record Next {T U X : Type 0} (marks : Marks T U) (S : X → List U → Type 0) (prefix : List T) (u : U) : Type 0 where
  pub value : X
  pub before : List U
  pub more : List U
  pub derives : S value (before ++ u ∷ more)
  pub same : plains marks before ≡ prefix

-- the leaf has this role, or none
abbrev pub Reported : {U K : Type 0} → Roles U K → (u : U) → (kind : K) → Type 0
Reported roles u kind = (roles.role u ≡ kind) ⊎ (roles.role u ≡ roles.none)

-- this role is expected after the tokens `prefix`: each leaf that can follow them has it or none, and some leaf has it
pub record Asked {T U K X : Type 0} (marks : Marks T U) (roles : Roles U K) (S : X → List U → Type 0) (prefix : List T) (kind : K) : Type 0 where
  pub agreed : (u : U) → Next marks S prefix u → Reported roles u kind
  pub asked : (kind ≡ roles.none) ⊎ ((u : U) × Next marks S prefix u × (roles.role u ≡ kind))
