-- Two small graphs and their visits, worked by hand.
use Rattle.std.specs.Prelude.{ℕ, true, List, [], ◌∷◌, map}
use Rattle.term_core_spec.specs.declared.Family.TheVariants.{Register, IsSet}
use Rattle.term_core_spec.specs.declared.Width.TheVariants.{W32}
use Rattle.term_core_spec.specs.declared.Sort.TheVariants as sort
use Rattle.term_core_spec.specs.declared.Variable.{Variable}
use Rattle.term_core_spec.specs.Term.{Term, truth, not_term, and_term, constant, open_term}
use Rattle.graph_core_spec.specs.declared.Next.TheVariants as next
use Rattle.graph_core_spec.specs.Graph.{Graph, Basic, Cond}
use Rattle.visit_walk_spec.specs.Shape.{shape_of}
use Rattle.visit_walk_spec.specs.Visits.{Walk, Visit}
use Rattle.path_cond_spec.specs.Junctions.{junctions}
use Rattle.path_cond_spec.specs.Conditions.{Conditional, conditionals, conditional_at}

abbrev pub test : Variable
test = record { family = IsSet; index = 0; instance = 0; sort = sort.Truth }

-- the conditions of its branches at the start
abbrev pub if_holds : Term
if_holds = and_term (truth true) (open_term test)

abbrev pub if_fails : Term
if_fails = and_term (truth true) (not_term (open_term test))

abbrev pub word : Variable
word = record { family = Register; index = 10; instance = 0; sort = sort.Word W32 }

abbrev pub whole_walk : Graph → Walk
whole_walk g = record { shape = shape_of g; start = 0; stops = []; bounds = [] }

abbrev pub at : ℕ → Visit
at n = record { place = next.At n; counts = [] }

abbrev pub returned : Visit
returned = record { place = next.Ret; counts = [] }

abbrev pub found : Graph → List Visit → List Conditional
found g visits = conditionals g (junctions (whole_walk g) visits) open_term

abbrev pub conditions : Graph → List Visit → List Term
conditions g visits = map (λ (c : Conditional). c.condition) (found g visits)

abbrev pub word_at : Graph → List Visit → ℕ → Term
word_at g visits i = (conditional_at open_term (found g visits) i).state word

-- a test, an assignment on each side, and where both continue
abbrev pub diamond : Graph
diamond = record {
  nodes =
      Cond (open_term test) (next.At 1) (next.At 2)
      ∷ Basic (record { variable = word; term = constant W32 1 } ∷ []) (next.At 3)
      ∷ Basic (record { variable = word; term = constant W32 2 } ∷ []) (next.At 3)
      ∷ Basic [] next.Ret
      ∷ [];
  entry = 0;
}

-- in reversed post-order, the true branch first: the false branch's visit comes before the true branch's
abbrev pub diamond_visits : List Visit
diamond_visits = at 0 ∷ at 2 ∷ at 1 ∷ at 3 ∷ returned ∷ []

-- a test both of whose branches lead to one node
abbrev pub joined : Graph
joined = record { nodes = Cond (open_term test) (next.At 1) (next.At 1) ∷ Basic [] next.Ret ∷ []; entry = 0 }

abbrev pub joined_visits : List Visit
joined_visits = at 0 ∷ at 1 ∷ returned ∷ []
