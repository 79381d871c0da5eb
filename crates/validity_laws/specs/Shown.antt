-- What lines of a part show of a function of an executable and a unit.
use Rattle.std.specs.Prelude.{◌≡◌, ◌<◌, ◌^◌, ℕ, Bool, true, List, [], ◌∷◌, ◌++◌, map, All, Contains}
use Rattle.elf_read_spec.specs.Image.{function_named}
use Rattle.elf_read_spec.specs.declared.SymbolValues.TheVariants.{One}
use Rattle.code_reach_spec.specs.Code.{IsStack}
use Rattle.c_graph_spec.specs.SourceGraph.{body_number}
use Rattle.sim_rules_spec.specs.Calls.{Callee}
use Rattle.validity_spec.specs.Claim.{IsValid}
use Rattle.agreement_laws.specs.EntryFrame.{Pair, entry_frame, entry_opening}
use Rattle.agreement_laws.specs.Callers.{Base, frame_in, callee_of}
use Rattle.validity_laws.specs.Inlined.{IsInlined}
use Rattle.cert_check_lines_spec.specs.Sites.{CodeBody, SourceBody, Part}
use Rattle.cert_check_lines_spec.specs.Jobs as lines
use Rattle.cert_check_lines_spec.specs.Shown.{IsShown}
use Rattle.validity_laws.specs.Derivation.{Function, pair_for, no_zone, stated, AreSides, IsFunction, IsProvedFunction}
use Rattle.validity_laws.specs.CheckStatements.{IsFile}

-- a function that has an earlier part, by the number of its source's graph
abbrev pub called : Pair → Function → ℕ × Callee
called q h = (body_number h.body.name q.unit.bodies, callee_of (pair_for q h))

-- what the lines of a function's part speak of: the bodies are those in which points are; `alike` tells which graphs of both
-- sides are of functions of one name
abbrev pub part_for : Pair → Function → (earlier : List Function) → (code : List CodeBody) → (source : List SourceBody) → (alike : ℕ → ℕ → Bool) → Part
part_for q g earlier code source alike = record {
  convention = stated (pair_for q g);
  entry = entry_opening (pair_for q g) no_zone;
  runs = q.numbering.runs;
  code = code;
  source = source;
  named_alike = alike;
  earlier = map (called q) earlier;
}

-- of the earlier functions, only the code at its entry has a function's name
abbrev pub AreNamed : Pair → List Function → (alike : ℕ → ℕ → Bool) → Type 0
AreNamed q earlier alike = (h : Function) → Contains earlier h → (number : ℕ) → alike number (body_number h.body.name q.unit.bodies) ≡ true
    → number ≡ q.numbering.graph_number h.entry

-- the lines of a part of the function show the frame at its entry, over its graphs or with calls inlined in them
pub record HasShownPart (q : Pair) (earlier : List Function) (g : Function) : Type 0 where
  pub base : Base
  pub inlined : IsInlined (pair_for q g) base
  pub code : List CodeBody
  pub source : List SourceBody
  pub alike : ℕ → ℕ → Bool
  pub named : AreNamed q earlier alike
  pub shown : IsShown (part_for q g earlier code source alike) lines.AtEntry (frame_in (pair_for q g) base (entry_frame (pair_for q g)).start [] [])

abbrev pub IsGiven : Pair → Function → Type 0
IsGiven q g = IsFunction q g × (g.stack < 2 ^ 32)

-- what is shown is proved: by Leaf, Case, Restrict, Split and Call of earlier functions, with calls inlined
abbrev pub ShownIsProved : Type 0
ShownIsProved = (q : Pair) (earlier : List Function) (g : Function) → AreSides q → IsFile q → All (IsGiven q) earlier → IsGiven q g
    → HasShownPart q earlier g → IsProvedFunction q earlier g

-- functions with parts in this order, each of which may call those before it
pub data HaveShownParts (q : Pair) : List Function → Type 0 where
  none : HaveShownParts q []
  one_more : (earlier : List Function) (g : Function) → HaveShownParts q earlier → HasShownPart q earlier g → HaveShownParts q (earlier ++ g ∷ [])

-- are valid, where the file has them at their names and they take this much stack
abbrev pub ShownPartsAreValid : Type 0
ShownPartsAreValid = (q : Pair) (functions : List Function) → AreSides q → IsFile q → All (IsGiven q) functions → HaveShownParts q functions
    → (g : Function) → Contains functions g → function_named q.image g.body.name ≡ One g.entry → IsStack q.image g.entry g.stack
    → IsValid q.image q.unit g.body.name g.stack
