-- Nodes that a walk passes, and nodes among which it goes round without meeting a mark.
use Rattle.std.specs.Prelude.{◌≡◌, ◌↔◌, ◌==◌, ◌&&◌, nat_le, ℕ, Bool, if◌then◌else◌, List, [], ◌∷◌, ◌++◌, Contains, Option, Some, None}
use Rattle.std.specs.List.{list_any}
use Rattle.graph_core_spec.specs.declared.Next.{Next}
use Rattle.graph_core_spec.specs.declared.Next.TheVariants as next
use Rattle.graph_core_spec.specs.declared.Mark.{Mark}
use Rattle.visit_walk_spec.specs.declared.Successors.{Successors}
use Rattle.visit_walk_spec.specs.declared.Successors.TheVariants.{One, Two, Callee, Nothing}
use Rattle.visit_walk_spec.specs.Shape.{Shape, successors_at}
use Rattle.visit_walk_spec.specs.Visits.{nexts_of, first_of}
use Rattle.visit_walk_spec.specs.DepthFirst.{Leads}
use Rattle.visit_walk_spec.specs.Outcomes.{IsCyclicFrom, IsAcyclicFrom}
use Rattle.visit_walk.specs.declared.depth_first.Targets.{Targets}
use Rattle.visit_walk.specs.Search.{numbers_at}

abbrev pub option_list : Option ℕ → List ℕ
option_list None = []
option_list (Some n) = n ∷ []

-- a mark counts the first arrival at the node, or none
abbrev pub is_closed : List Mark → ℕ → Bool
is_closed marks n = list_any (λ m. m.node == n && nat_le m.count 1) marks

abbrev pub is_marked : List Mark → ℕ → Bool
is_marked marks n = list_any (λ m. m.node == n) marks

-- ---- nodes at whose first arrival a walk goes on

abbrev pub passed : List Mark → Next → List ℕ
passed marks (next.At n) = if is_closed marks n then [] else n ∷ []
passed marks next.Ret = []
passed marks next.Err = []

abbrev pub passed_from : List Mark → Successors → List ℕ
passed_from marks (One to) = passed marks to
passed_from marks (Two on_true on_false) = passed marks on_true ++ passed marks on_false
passed_from marks Callee = []
passed_from marks Nothing = []

abbrev pub passes : Shape → List Mark → ℕ → List ℕ
passes shape marks n = passed_from marks (successors_at shape n)

-- these are the nodes to which such nodes lead from the start
abbrev pub ArePassed : Shape → List Mark → ℕ → List ℕ → Type 0
ArePassed shape marks start found = (n : ℕ) → Contains found n ↔ Leads (passes shape marks) start n

-- ---- nodes without marks

abbrev pub unmarked : List Mark → Next → List ℕ
unmarked marks (next.At n) = if is_marked marks n then [] else n ∷ []
unmarked marks next.Ret = []
unmarked marks next.Err = []

-- a call is followed by itself
abbrev pub rounds : List Mark → ℕ → Successors → List ℕ
rounds marks n (One to) = unmarked marks to
rounds marks n (Two on_true on_false) = unmarked marks on_true ++ unmarked marks on_false
rounds marks n Callee = n ∷ []
rounds marks n Nothing = []

abbrev pub rounds_at : Shape → List Mark → ℕ → List ℕ
rounds_at shape marks n = rounds marks n (successors_at shape n)

-- each node has the nodes without marks after it as its targets
abbrev pub AreRounds : Shape → List Mark → List Targets → Type 0
AreRounds shape marks targets = (n : ℕ) → numbers_at targets n ≡ rounds_at shape marks n

-- ---- lists that grow, and the answer

-- the list has all of these, and nothing else was added
pub record Adds (items old new : List ℕ) : Type 0 where
  pub more : List ℕ
  pub grown : new ≡ old ++ more
  pub all : (n : ℕ) → Contains items n → Contains new n
  pub only : (n : ℕ) → Contains more n → Contains items n

abbrev pub IsCycleAnswer : Shape → List Mark → ℕ → Option ℕ → Type 0
IsCycleAnswer shape marks start (Some n) = IsCyclicFrom (nexts_of shape marks) (first_of start marks) n
IsCycleAnswer shape marks start None = IsAcyclicFrom (nexts_of shape marks) (first_of start marks)
