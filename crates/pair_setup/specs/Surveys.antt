-- What is known of a unit and an executable before the listed functions are looked at.
use Rattle.std.specs.Prelude.{◌≡◌, ℕ, List, get_or, Option, Some, None}
use Rattle.elf_read_spec.specs.Image.{Image}
use Rattle.c_types_spec.specs.Core.{Typed}
use Rattle.pair_setup_calls.specs.Graph.{IsCyclic, graph_of}
use Rattle.pair_setup_calls.specs.Names.{AreApart, IsCallGraph}
use Rattle.pair_setup.specs.Globals.{AreMisplaced}
use Rattle.pair_setup.specs.declared.survey.Survey.{Survey}

-- a node with a depth reaches no cycle
abbrev pub AreAcyclic : List (List ℕ) → List (Option ℕ) → Type 0
AreAcyclic graph depths = (node depth : ℕ) → get_or depths node None ≡ Some depth → IsCyclic graph node → ⊥

pub record IsSurvey (image : Image) (unit : Typed) (names : List (List ℕ)) (survey : Survey) : Type 0 where
  pub apart : AreApart names
  pub graph_is : IsCallGraph unit names (graph_of survey.graph.items)
  pub acyclic : AreAcyclic (graph_of survey.graph.items) survey.depths.items
  pub marks_are : AreMisplaced image unit names survey.misplaced.items
