-- Indices of listed functions, and the names at them.
use Rattle.std.proofs.Common.{◌≡◌, ◌∙◌, inl, inr, ℕ, ◌+◌, ◌<◌, ◌≤◌, true, false, List, length, get_or, Option, Some, None, sym, ap, subst, arith}
use Rattle.std.specs.Prelude.{slice_get, bytes_eq}
use Rattle.std.proofs.lemmas.Bool.{cases_lt, false≢true}
use Rattle.std.proofs.lemmas.Option.{slice_get-get_or, slice_get_within, same_Some}
use Rattle.std.proofs.lemmas.Slice.Eq.{bytes_eq-Decides}
use Rattle.cert_check_frames.specs.declared.listed.Listed.{Listed}
use Rattle.cert_check_frames.specs.Parts.{IsNamed, IsIndexOf, HasPart, IsFreeAt, HaveParts, IsMissingAt}

-- an item that was read is there
pub item_there : {X : Type 0} (xs : List X) (k : ℕ) (x : X) → k < length xs → x ≡ get_or xs k x → slice_get xs k ≡ Some x
item_there xs k x within is = slice_get-get_or xs k x within ∙ ap Some (sym is)

-- one index has one item
pub one_item : {X : Type 0} (xs : List X) (k : ℕ) (x y : X) → slice_get xs k ≡ Some x → slice_get xs k ≡ Some y → x ≡ y
one_item xs k x y first second = same_Some x y (sym first ∙ second)

module _ (codes : List Listed) (k : ℕ) (function : Listed) (name : List ℕ) (there : slice_get codes k ≡ Some function) where
  pub named_at : bytes_eq function.name.now name ≡ true → IsNamed codes k name
  named_at same = record { function = function; there = there; named = (bytes_eq-Decides function.name.now name).0 same }

  pub not_named : bytes_eq function.name.now name ≡ false → IsNamed codes k name → ⊥
  not_named other named =
      let is : named.function ≡ function = one_item codes k named.function function named.there there in
      let same : function.name.now ≡ name = ap (λ (f : Listed). f.name.now) (sym is) ∙ named.named in
      false≢true (sym other ∙ (bytes_eq-Decides function.name.now name).1 same)

-- there is no other function of the name
pub none_named : (codes : List Listed) (name : List ℕ) (index : ℕ) → length codes ≤ index → ((k : ℕ) → k < index → IsNamed codes k name → ⊥) → IsIndexOf codes name None
none_named codes name index past none = λ k named. none k (omega (arith, past, slice_get_within codes k named.function named.there)) named

-- ---- parts

-- no part so far is of a function of the name
abbrev pub NoneSoFar : List Listed → (parts : List ℕ) → (name : List ℕ) → ℕ → Type 0
NoneSoFar codes parts name count = (place part : ℕ) → place < count → slice_get parts place ≡ Some part → IsNamed codes part name → ⊥

pub one_part_more : (codes : List Listed) (parts : List ℕ) (name : List ℕ) (index part : ℕ) → NoneSoFar codes parts name index → slice_get parts index ≡ Some part
    → (IsNamed codes part name → ⊥) → NoneSoFar codes parts name (index + 1)
one_part_more codes parts name index part none there other = λ place found less at named. elim (cases_lt place index) [
  | inl before ↦ none place found before at named
  | inr past ↦
      let same : place ≡ index = omega (arith, less, past) in
      let is : found ≡ part = one_item parts index found part (sym (ap (slice_get parts) same) ∙ at) there in
      other (subst (λ (k : ℕ). IsNamed codes k name) is named)
]

pub no_part : (codes : List Listed) (parts : List ℕ) (name : List ℕ) (index : ℕ) → length parts ≤ index → NoneSoFar codes parts name index → HasPart codes parts name → ⊥
no_part codes parts name index past none has = none has.place has.part (omega (arith, past, slice_get_within parts has.place has.part has.there)) has.there has.named

-- the first of the name, where no function of the name has a part
pub free_there : (codes : List Listed) (parts : List ℕ) (name : List ℕ) (found : Option ℕ) → (HasPart codes parts name → ⊥) → IsIndexOf codes name found → IsFreeAt codes parts name found
free_there codes parts name (Some k) none named = (named, none)
free_there codes parts name None none no_function = λ k named free. no_function k named

-- ---- which have parts

pub one_has_more : (codes : List Listed) (parts : List ℕ) (index : ℕ) (function : Listed) → HaveParts codes parts index → slice_get codes index ≡ Some function
    → HasPart codes parts function.name.now → HaveParts codes parts (index + 1)
one_has_more codes parts index function have there has = λ k f less at. elim (cases_lt k index) [
  | inl before ↦ have k f before at
  | inr past ↦
      let same : k ≡ index = omega (arith, less, past) in
      let is : f ≡ function = one_item codes index f function (sym (ap (slice_get codes) same) ∙ at) there in
      subst (λ (g : Listed). HasPart codes parts g.name.now) (sym is) has
]

pub all_have : (codes : List Listed) (parts : List ℕ) (index : ℕ) → length codes ≤ index → HaveParts codes parts index → IsMissingAt codes parts None
all_have codes parts index past have = λ k f at. have k f (omega (arith, past, slice_get_within codes k f at)) at
