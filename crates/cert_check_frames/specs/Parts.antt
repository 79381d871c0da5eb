-- Which listed functions have a part, by their indices.
use Rattle.std.specs.Prelude.{◌≡◌, ℕ, ◌<◌, List, Option, Some, None, slice_get, All}
use Rattle.cert_check_frames.specs.declared.listed.Listed.{Listed}

abbrev pub AreIndices : ℕ → List ℕ → Type 0
AreIndices count parts = All (λ (k : ℕ). k < count) parts

-- the listed function of an index has this name
pub record IsNamed (codes : List Listed) (k : ℕ) (name : List ℕ) : Type 0 where
  pub function : Listed
  pub there : slice_get codes k ≡ Some function
  pub named : function.name.now ≡ name

-- the first listed function of a name, if there is one
abbrev pub IsIndexOf : List Listed → (name : List ℕ) → Option ℕ → Type 0
IsIndexOf codes name (Some k) = IsNamed codes k name
IsIndexOf codes name None = (k : ℕ) → IsNamed codes k name → ⊥

-- a function of this name has a part
pub record HasPart (codes : List Listed) (parts : List ℕ) (name : List ℕ) : Type 0 where
  pub place : ℕ
  pub part : ℕ
  pub there : slice_get parts place ≡ Some part
  pub named : IsNamed codes part name

-- a listed function of this name that has no part, if there is one
abbrev pub IsFreeAt : List Listed → (parts : List ℕ) → (name : List ℕ) → Option ℕ → Type 0
IsFreeAt codes parts name (Some k) = IsNamed codes k name × (HasPart codes parts name → ⊥)
IsFreeAt codes parts name None = (k : ℕ) → IsNamed codes k name → (HasPart codes parts name → ⊥) → ⊥

-- so many of the first listed functions have parts
abbrev pub HaveParts : List Listed → (parts : List ℕ) → ℕ → Type 0
HaveParts codes parts count = (k : ℕ) (function : Listed) → k < count → slice_get codes k ≡ Some function → HasPart codes parts function.name.now

-- the first listed function that has no part, if there is one
abbrev pub IsMissingAt : List Listed → (parts : List ℕ) → Option ℕ → Type 0
IsMissingAt codes parts (Some k) = (function : Listed) × (slice_get codes k ≡ Some function) × (HasPart codes parts function.name.now → ⊥) × HaveParts codes parts k
IsMissingAt codes parts None = (k : ℕ) (function : Listed) → slice_get codes k ≡ Some function → HasPart codes parts function.name.now
