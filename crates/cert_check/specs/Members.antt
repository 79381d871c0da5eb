-- Listed functions of the program as members of the definitions.
use Rattle.std.specs.Prelude.{◌≡◌, ℕ, List, length, Some, slice_get, nat_eq}
use Rattle.std.specs.Map.{lookup}
use Rattle.proof_tree_spec.specs.declared.Place.{Place}
use Rattle.cert_check_lines_spec.specs.Parts.{Member}
use Rattle.cert_check_lines_spec.specs.Members.{same_place}
use Rattle.cert_check_frames.specs.declared.listed.Listed.{Listed}
use Rattle.cert_check_frames.specs.Listed.{IsListed, firsts_at, places_at}

-- the member is the function, and has its points
pub record IsMemberOf (code : Listed) (f : Member) : Type 0 where
  pub listed : IsListed code f.listed
  pub first : (address : ℕ) → f.code.first address ≡ lookup (nat_eq address) (firsts_at code)
  pub node : (place : Place) → f.source.node place ≡ lookup (same_place place) (places_at code)

-- the members are of these listed functions, in their order
pub record AreMembers (codes : List Listed) (members : List Member) : Type 0 where
  pub count : length codes ≡ length members
  pub each : (k : ℕ) (code : Listed) (f : Member) → slice_get codes k ≡ Some code → slice_get members k ≡ Some f → IsMemberOf code f
