-- The spelling of points.
use Rattle.std.specs.Prelude.{ℕ, ◌<◌, ◌^◌, List, ◌++◌, flat_map, All, codes, decimal}
use Rattle.std.specs.Int.{w32, to_be_bytes}
use Rattle.hex.specs.Hex.{encode_lower}
use Rattle.proof_tree_spec.specs.declared.Place.{Place}
use Rattle.proof_tree_spec.specs.declared.Place.TheVariants as place
use Rattle.proof_tree_spec.specs.Proofs.{BinaryPoint, SourcePoint, Points}

abbrev pub IsNumber : ℕ → Type 0
IsNumber n = n < 2 ^ 32

-- eight digits
abbrev pub address_text : ℕ → List ℕ
address_text a = encode_lower (to_be_bytes w32 a)

-- the addresses of the calls, and that of the instruction
abbrev pub binary_text : BinaryPoint → List ℕ
binary_text p = flat_map (λ a. address_text a ++ codes "/") p.path ++ address_text p.address

abbrev pub place_text : Place → List ℕ
place_text (place.Test n) = codes "t" ++ decimal n
place_text (place.Body n) = codes "b" ++ decimal n
place_text (place.Call n) = codes "k" ++ decimal n

-- the numbers of the calls, and the place
abbrev pub source_text : SourcePoint → List ℕ
source_text p = flat_map (λ n. codes "k" ++ (decimal n ++ codes "/")) p.path ++ place_text p.place

abbrev pub number_of : Place → ℕ
number_of (place.Test n) = n
number_of (place.Body n) = n
number_of (place.Call n) = n

pub record IsBinaryPoint (p : BinaryPoint) : Type 0 where
  pub path : All IsNumber p.path
  pub address : IsNumber p.address

pub record IsSourcePoint (p : SourcePoint) : Type 0 where
  pub path : All IsNumber p.path
  pub place : IsNumber (number_of p.place)

pub record ArePoints (p : Points) : Type 0 where
  pub binary : IsBinaryPoint p.binary
  pub source : IsSourcePoint p.source
