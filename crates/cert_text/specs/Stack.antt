-- What is expected, as the program keeps it: groups of the same, the first of them last.
use Rattle.std.specs.Prelude.{◌≡◌, suc, List, [], ◌∷◌, ◌++◌, replicate, Option, Some, None}
use Rattle.cert_text_spec.specs.Certificates as spec
use Rattle.cert_text_parse.specs.declared.keywords.Expected.{Expected}
use Rattle.cert_text_parse.specs.Keywords.{expected_of}
use Rattle.cert_text.specs.declared.stack.Group.{Group}

abbrev pub group_of : Group → List spec.Expected
group_of g = replicate (suc g.more) (expected_of g.expected)

-- those of the groups, before what is expected below
unfoldable pub stacked : (below : List spec.Expected) → List Group → List spec.Expected
stacked below [] = below
stacked below (g ∷ groups) = stacked (group_of g ++ below) groups

abbrev pub stack_of : List Group → List spec.Expected
stack_of groups = stacked [] groups

-- the first of what is expected was taken
abbrev pub IsNext : Option Expected → (old new : List Group) → Type 0
IsNext None old new = stack_of old ≡ []
IsNext (Some e) old new = stack_of old ≡ expected_of e ∷ stack_of new
