-- Listed functions as members.
use Rattle.std.proofs.Common.{◌≡◌, List, [], ◌∷◌, map, None, refl, ap}
use Rattle.cert_check_spec.specs.Verdict.{Listed}
use Rattle.cert_check_lines_spec.specs.Parts.{Functions, Member}
use Rattle.cert_check_lines_spec.specs.Members.{members_of}

-- no function is inlined
abbrev pub no_functions : Functions
no_functions = record { code = λ n. None; source = λ n. None }

pub are_members : (listed : List Listed) → map (λ (f : Member). f.listed) (members_of listed) ≡ listed
are_members [] = refl
are_members (f ∷ listed) = ap (λ (l : List Listed). f ∷ l) (are_members listed)
