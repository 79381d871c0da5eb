-- Where the parts of statements begin, as the layout has it.
use Rattle.std.specs.Prelude.{◌≡◌, ℕ, ◌+◌, ◌-◌, ◌<◌, ◌≤◌, List, length, drop, get_or}
use Rattle.graph_core_spec.specs.declared.Next.{Next}
use Rattle.graph_core_spec.specs.declared.Next.TheVariants.{At, Ret}
use Rattle.c_types_spec.specs.Core as tree
use Rattle.c_types_core.specs.declared.action.Action.{Action}
use Rattle.c_graph_spec.specs.Layout.{Setting, Exits, exits, count, size, case_count, first, entry, otherwise}
use Rattle.c_graph_layout.specs.Counts.{size_of}
use Rattle.c_graph_layout.specs.Lists.{block_of}
use Rattle.c_graph.specs.declared.places.Starts.{Starts}
use Rattle.c_graph.specs.declared.places.Branches.{Branches}
use Rattle.c_graph.specs.declared.places.LoopPlaces.{LoopPlaces}
use Rattle.c_graph.specs.declared.places.DoPlaces.{DoPlaces}
use Rattle.c_graph.specs.declared.places.CasePlaces.{CasePlaces}

-- a statement after a test and some nodes more, and what comes after it
pub record AreStarts (f : Setting) (test : tree.Core) (part : tree.Action) (at more : ℕ) (s : Starts) : Type 0 where
  pub begins : s.first ≡ at + count f test + more
  pub ends : s.second ≡ at + count f test + more + size f part

pub record AreBranches (f : Setting) (test : tree.Core) (a b : tree.Action) (at : ℕ) (to : Next) (e : Exits) (p : Branches) : Type 0 where
  pub starts_are : AreStarts f test a at 1 p.starts
  pub true_is : p.on_true ≡ entry f a p.starts.first to e
  pub false_is : p.on_false ≡ entry f b p.starts.second to e

pub record AreLoop (f : Setting) (test : tree.Core) (step body : tree.Action) (at : ℕ) (to : Next) (e : Exits) (p : LoopPlaces) : Type 0 where
  pub starts_are : AreStarts f test body at 3 p.starts
  pub step_is : p.step ≡ entry f step p.starts.second (At at) (exits to e.continues)
  pub body_is : p.body ≡ entry f body p.starts.first p.step (exits to p.step)

pub record AreDo (f : Setting) (body : tree.Action) (at : ℕ) (to : Next) (p : DoPlaces) : Type 0 where
  pub begins : p.first ≡ at + 1
  pub test_is : p.test ≡ at + 1 + size f body
  pub tests_are : p.tests ≡ at + size f body + 2
  pub body_is : p.body ≡ entry f body p.first (At p.test) (exits to (At p.test))

pub record AreCases (f : Setting) (test : tree.Core) (list : tree.Groups) (at : ℕ) (to : Next) (e : Exits) (p : CasePlaces) : Type 0 where
  pub tests_are : p.tests ≡ at + count f test
  pub groups_are : p.groups ≡ at + count f test + case_count list
  pub otherwise_is : p.otherwise ≡ otherwise f list p.groups to e
  pub selection_is : p.selection ≡ first (case_count list) p.tests p.otherwise

-- ---- blocks

abbrev pub block_end : List Action → (at : ℕ) → ℕ
block_end actions at = at + size_of (block_of actions)

-- where the statements from a place on begin, in a block that ends at a number
abbrev pub next_at : Setting → List Action → (finish : ℕ) → (to : Next) → Exits → ℕ → Next
next_at f actions finish to e j = entry f (block_of (drop j actions)) (finish - size_of (block_of (drop j actions))) to e

-- where each statement from a place on goes on, the last first
pub record AreFollowed (f : Setting) (actions : List Action) (finish : ℕ) (to : Next) (e : Exits) (i : ℕ) (found : List Next) : Type 0 where
  pub many : length found + i ≡ length actions
  pub each : (j : ℕ) → i < j → j ≤ length actions → get_or found (length actions - j) Ret ≡ next_at f actions finish to e j
