-- The condition under which a run passes a visit, and the state there: terms over the values at the start.
use Rattle.std.specs.Prelude.{ℕ, Bool, true, false, if◌then◌else◌, List, [], ◌∷◌, ◌++◌, map, get_or, slice_get, Option, Some, None}
use Rattle.std.specs.List.{fold, list_all}
use Rattle.term_core_spec.specs.declared.Variable.{Variable}
use Rattle.term_core_spec.specs.Term.{Term, truth, and_term, or_term, not_term, choose}
use Rattle.term_core_spec.specs.Same.{same_variable, same_term}
use Rattle.term_core_spec.specs.Substitution.{State, substituted}
use Rattle.graph_core_spec.specs.declared.Next.{Next}
use Rattle.graph_core_spec.specs.declared.Next.TheVariants as next
use Rattle.graph_core_spec.specs.Graph.{Binding, Node, Basic, Cond, Call, Graph}
use Rattle.visit_walk_spec.specs.declared.Branch.{Branch}
use Rattle.visit_walk_spec.specs.declared.Branch.TheVariants.{Only, IfTrue, IfFalse}
use Rattle.visit_walk_spec.specs.declared.Incoming.{Incoming}
use Rattle.path_cond_spec.specs.Junctions.{Junction, junction_at}

-- a condition, and the state where it is true
pub record Conditional : Type 0 where
  pub condition : Term
  pub state : State

-- ---- several conditionals as one

-- `or` of the conditions, nested to the left; of none, `false`
abbrev pub any_of : List Conditional → Term
any_of [] = truth false
any_of (c ∷ rest) = fold (λ (t : Term) (d : Conditional). or_term t d.condition) c.condition rest

-- each of them has this term for the variable
abbrev pub is_common : Variable → Term → List Conditional → Bool
is_common v t cs = list_all (λ (c : Conditional). same_term t (c.state v)) cs

-- the variable's term in the first whose condition is true; the last is not tested
unfoldable pub chosen : Variable → Conditional → List Conditional → Term
chosen v c [] = c.state v
chosen v c (d ∷ rest) = choose c.condition (c.state v) (chosen v d rest)

-- of each variable the term that all have, else the one chosen; of none, the state at the start
unfoldable pub merged : State → List Conditional → State
merged start [] = start
merged start (c ∷ rest) = λ v. if is_common v (c.state v) rest then c.state v else chosen v c rest

abbrev pub united : State → List Conditional → Conditional
united start cs = record { condition = any_of cs; state = merged start cs }

-- ---- edges

-- the node of a place; where a run has ended there is none
abbrev pub node_of_place : Graph → Next → Option Node
node_of_place g (next.At n) = slice_get g.nodes n
node_of_place g next.Ret = None
node_of_place g next.Err = None

abbrev pub node_of_junction : Graph → List Junction → ℕ → Option Node
node_of_junction g js i = node_of_place g (junction_at js i).place

-- the state after some bindings, all at once: their terms speak of `state`, and what they don't bind stays as in `rest`
unfoldable pub assigned : List Binding → State → State → State
assigned [] state rest = rest
assigned (b ∷ bindings) state rest = λ v. if same_variable v b.variable then substituted state b.term else assigned bindings state rest v

-- the state after a node; one that is missing binds nothing
abbrev pub state_after : Option Node → State → State
state_after None state = state
state_after (Some (Basic bindings to)) state = assigned bindings state state
state_after (Some (Cond test on_true on_false)) state = state
state_after (Some (Call callee inputs outputs landing)) state = state

-- a condition with the test of a branch
abbrev pub with_test : Branch → Term → Term → Term
with_test Only condition test = condition
with_test IfTrue condition test = and_term condition test
with_test IfFalse condition test = and_term condition (not_term test)

-- the condition of a branch of a node
abbrev pub condition_after : Option Node → Branch → Conditional → Term
condition_after None branch c = c.condition
condition_after (Some (Basic bindings to)) branch c = c.condition
condition_after (Some (Cond test on_true on_false)) branch c = with_test branch c.condition (substituted c.state test)
condition_after (Some (Call callee inputs outputs landing)) branch c = c.condition

-- what a branch of a node leads to, from the conditional at the node
abbrev pub after_node : Option Node → Branch → Conditional → Conditional
after_node node branch c = record { condition = condition_after node branch c; state = state_after node c.state }

-- ---- visits

-- the conditional at an index
abbrev pub conditional_at : State → List Conditional → ℕ → Conditional
conditional_at start known i = get_or known i (united start [])

-- what an edge leads to, from the conditionals that are known
abbrev pub along : Graph → List Junction → State → List Conditional → Incoming → Conditional
along g js start known e = after_node (node_of_junction g js e.source) e.branch (conditional_at start known e.source)

-- at the first visit, to which no edge leads, the condition is true, and the state that of the start
abbrev pub entered_by : State → List Conditional → Conditional
entered_by start [] = record { condition = truth true; state = start }
entered_by start (c ∷ rest) = united start (c ∷ rest)

-- the conditional at one more visit
abbrev pub conditional_next : Graph → List Junction → State → List Conditional → Junction → Conditional
conditional_next g js start known j = entered_by start (map (along g js start known) j.edges)

-- the conditionals of the visits, in their order: the source of an edge comes before the visit to which it leads
unfoldable pub conditionals : Graph → List Junction → State → List Conditional
conditionals g js start = fold (λ (known : List Conditional) (j : Junction). known ++ conditional_next g js start known j ∷ []) [] js

-- some visits as one: those of a stop, of the error, or of a bounded arrival
abbrev pub conditional_of : State → List Conditional → List ℕ → Conditional
conditional_of start known members = united start (map (conditional_at start known) members)
