-- The listed functions of an executable and a unit, as certificates speak of them: the graphs of all code that is reached,
-- the graphs of all bodies, and the frame at each function's entry. Graphs of code are numbered by their entries, ascending;
-- in each the landing node at the entry comes first, and the nodes of the instructions follow by address.
use Rattle.std.specs.Prelude.{◌≡◌, ◌<◌, ◌^◌, ◌+◌, ◌≤◌, ℕ, ⊤, List, [], ◌∷◌, length, map, get_or, All, Some, None}
use Rattle.memory_spec.specs.Runs.{Run}
use Rattle.elf_read_spec.specs.Image.{Image, Segment, Symbol}
use Rattle.elf_read_spec.specs.Runs.{AreRuns, HasBytes}
use Rattle.graph_core_spec.specs.Graph.{Graph, empty}
use Rattle.decompile_laws.specs.Layout.{numbers_by}
use Rattle.decompile_laws.specs.Together.{Numbering}
use Rattle.decompile.specs.Answer.{AreFirsts, IsFunctionGraph, number_in, first_in}
use Rattle.c_types_spec.specs.Core.{Body, Typed, Skip}
use Rattle.pair_setup_spec.specs.SourceReach.{body_of}
use Rattle.pair_setup_spec.specs.Outcome as outcome
use Rattle.agreement_laws.specs.EntryFrame.{Pair}
use Rattle.validity_laws.specs.Derivation.{Function}
use Rattle.cert_check_spec.specs.Verdict.{Listed}
use Rattle.validity_laws.specs.CheckStatements.{listed_of}

-- ---- the graphs of code

-- a graph, and the first node of each of its instructions
pub record CodeSide : Type 0 where
  pub graph : Graph
  pub firsts : List (ℕ × ℕ)

-- those of the function at an entry, where functions are numbered by these entries
pub record IsSide (image : Image) (entries : List ℕ) (entry : ℕ) (side : CodeSide) : Type 0 where
  pub graph_is : IsFunctionGraph image entry entries side.graph side.firsts
  pub firsts_are : AreFirsts image entry side.firsts

-- one for each entry that is left, in their order
unfoldable pub AreSides : Image → (entries left : List ℕ) → List CodeSide → Type 0
AreSides image entries [] [] = ⊤
AreSides image entries (entry ∷ left) (side ∷ sides) = IsSide image entries entry side × AreSides image entries left sides
AreSides image entries left sides = ⊥

abbrev pub no_side : CodeSide
no_side = record { graph = empty; firsts = [] }

-- by the numbers of the graphs, the first nodes of the instructions
abbrev pub firsts_of : List CodeSide → List (List (ℕ × ℕ))
firsts_of sides = map (λ (side : CodeSide). side.firsts) sides

abbrev pub firsts_at : (entries : List ℕ) → List CodeSide → (entry : ℕ) → List (ℕ × ℕ)
firsts_at entries sides entry = (get_or sides (number_in entries entry) no_side).firsts

abbrev pub numbering_of : List Run → (entries : List ℕ) → List CodeSide → Numbering
numbering_of runs entries sides = record {
  runs = runs;
  graph_number = number_in entries;
  node_number = λ entry. numbers_by (first_in (firsts_at entries sides entry));
}

abbrev pub no_body : Body
no_body = record { name = []; signature = record { parameters = []; result = None }; locals = []; loops = 0; calls = 0; mentions = []; action = Skip }

-- both sides. Of no function yet: its entry, stack and body are those of `pair_for`
abbrev pub sides_of : Image → Typed → List Run → (entries : List ℕ) → List CodeSide → Pair
sides_of image unit runs entries sides = record {
  image = image;
  entry = 0;
  stack = 0;
  numbering = numbering_of runs entries sides;
  graphs = map (λ (side : CodeSide). side.graph) sides;
  unit = unit;
  body = no_body;
}

-- ---- the listed functions

-- a listed function with its body
pub record IsFunctionOf (unit : Typed) (f : outcome.Function) (g : Function) : Type 0 where
  pub entry_is : g.entry ≡ f.entry
  pub stack_is : g.stack ≡ f.stack
  pub body_is : body_of unit f.name ≡ Some g.body

unfoldable pub AreFunctionsOf : Typed → List outcome.Function → List Function → Type 0
AreFunctionsOf unit [] [] = ⊤
AreFunctionsOf unit (f ∷ listed) (g ∷ functions) = IsFunctionOf unit f g × AreFunctionsOf unit listed functions
AreFunctionsOf unit listed functions = ⊥

-- these are the listed functions of the pairs, each with the frame at its entry
pub record AreListed (image : Image) (unit : Typed) (pairs : outcome.Pairs) (listed : List Listed) : Type 0 where
  pub runs : List Run
  pub runs_are : AreRuns image runs
  pub sides : List CodeSide
  pub sides_are : AreSides image pairs.entries pairs.entries sides
  pub functions : List Function
  pub functions_are : AreFunctionsOf unit pairs.functions functions
  pub listed_are : listed ≡ map (listed_of (sides_of image unit runs pairs.entries sides) (firsts_of sides)) functions

-- ---- numbers of a file

-- what a file has are bytes and words, and its segments lie below 2 ^ 32
pub record HasWords (image : Image) : Type 0 where
  pub bytes : HasBytes image
  pub symbols : All (λ (s : Symbol). s.value < 2 ^ 32) image.symbols
  pub segments : All (λ (s : Segment). s.vaddr + length s.bytes ≤ 2 ^ 32) image.segments
