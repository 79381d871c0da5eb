-- What the laws of checked certificates say.
use Rattle.std.specs.Prelude.{◌≡◌, ◌<◌, ◌^◌, ℕ, [], ◌∷◌, List, length, map, All, Contains, IfSome, Option, Some, None, nat_lt, if◌then◌else◌}
use Rattle.elf_read_spec.specs.Image.{function_named, global_pointer}
use Rattle.elf_read_spec.specs.Runs.{HasBytes}
use Rattle.elf_read_spec.specs.declared.SymbolValues.{SymbolValues}
use Rattle.elf_read_spec.specs.declared.SymbolValues.TheVariants.{One}
use Rattle.code_reach_spec.specs.Code.{IsStack}
use Rattle.cert_text_spec.specs.Derivation.{Derives}
use Rattle.cert_text_spec.specs.Lines.{Line}
use Rattle.cert_text_spec.specs.Certificates.{AHeader, Fits, after}
use Rattle.validity_spec.specs.Claim.{IsValid}
use Rattle.c_types_spec.specs.Core.{Body}
use Rattle.c_graph_spec.specs.SourceGraph.{points_of}
use Rattle.agreement_laws.specs.EntryFrame.{Pair, place_of, entry_frame, entry_opening}
use Rattle.agreement_laws.specs.Callers.{callee_of}
use Rattle.validity_laws.specs.Derivation.{Function, pair_for, no_zone, stated, AreSides, IsFunction}
use Rattle.cert_check_spec.specs.Verdict.{Listed}
use Rattle.cert_check_lines_spec.specs.Known.{IsProof}
use Rattle.validity_laws.specs.Closed.{IsClosed}

-- lines that are expected one after the other, as those of every certificate are
abbrev pub AreLines : List Line → Type 0
AreLines lines = Derives Fits after (AHeader ∷ []) lines

-- ---- functions of an executable and of a unit

-- the number of the graph of the code at the one address of a name, if it has one
abbrev pub graph_among : Pair → SymbolValues → Option ℕ
graph_among q (One entry) = if nat_lt (q.numbering.graph_number entry) (length q.graphs) then Some (q.numbering.graph_number entry) else None
graph_among q values = None

-- by the numbers of bodies, the graphs of the code of their names
abbrev pub named_graphs : Pair → List (Option ℕ)
named_graphs q = map (λ (b : Body). graph_among q (function_named q.image b.name)) q.unit.bodies

-- a function as it is listed: its frame at the entry. By the numbers of graphs, these are the first nodes of the code's
-- instructions
abbrev pub listed_of : Pair → (firsts : List (List (ℕ × ℕ))) → Function → Listed
listed_of q firsts g = record {
  name = g.body.name;
  stack = g.stack;
  convention = stated (pair_for q g);
  opening = entry_opening (pair_for q g) no_zone;
  frame = entry_frame (pair_for q g);
  runs = q.numbering.runs;
  callee = callee_of (pair_for q g);
  firsts = firsts;
  points = map (points_of q.unit (place_of q)) q.unit.bodies;
  named = named_graphs q;
}

-- what the file has are bytes, and its global pointer is a word
pub record IsFile (q : Pair) : Type 0 where
  pub bytes : HasBytes q.image
  pub pointer : IfSome (global_pointer q.image) (λ p. p < 2 ^ 32)

-- each is one of both sides, and no two have a name
pub record AreFunctions (q : Pair) (functions : List Function) : Type 0 where
  pub each : All (IsFunction q) functions
  pub small : All (λ (g : Function). g.stack < 2 ^ 32) functions
  pub apart : (g h : Function) → Contains functions g → Contains functions h → g.body.name ≡ h.body.name → g ≡ h

-- the file has each at its name
abbrev pub AreAtNames : Pair → List Function → Type 0
AreAtNames q functions = All (λ (g : Function). function_named q.image g.body.name ≡ One g.entry) functions

-- of a certificate that is a proof of the functions, wherever the code's points are, each that takes this much stack is
-- valid
abbrev pub ProofsGiveValidity : Type 0
ProofsGiveValidity = (q : Pair) (firsts : List (List (ℕ × ℕ))) (functions : List Function) (lines : List Line) → AreSides q → IsFile q → AreFunctions q functions
    → AreAtNames q functions → AreLines lines → IsProof (map (listed_of q firsts) functions) lines → (g : Function) → Contains functions g → IsStack q.image g.entry g.stack
    → IsValid q.image q.unit g.body.name g.stack

-- a function whose frame at the entry has a proof by Leaf and Case, each obligation of which is closed, is valid, where
-- the file has it at its name and it takes this much stack
abbrev pub ClosedIsValid : Type 0
ClosedIsValid = (q : Pair) (firsts : List (List (ℕ × ℕ))) (g : Function) → AreSides q → IsFile q → IsFunction q g → g.stack < 2 ^ 32
    → IsClosed (listed_of q firsts g) (listed_of q firsts g).frame
    → function_named q.image g.body.name ≡ One g.entry → IsStack q.image g.entry g.stack → IsValid q.image q.unit g.body.name g.stack
