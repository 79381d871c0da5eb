-- A frame of the code as one that the definitions speak of.
use Rattle.std.specs.Prelude.{List, map, All, if◌then◌else◌, Box}
use Rattle.std.specs.Global.{Global}
use Rattle.term_core_spec.specs.Term as tree
use Rattle.term_core.specs.declared.term.Term.{Term}
use Rattle.term_core.specs.Trees.{term_of}
use Rattle.graph_core.specs.Graphs.{boxed_term, graphs_of}
use Rattle.graph_core_spec.specs.declared.Mark.{Mark}
use Rattle.proof_tree_spec.specs.Frames as spec
use Rattle.proof_tree.specs.declared.frame.Start.{Start}
use Rattle.proof_tree.specs.declared.reachable.Reachable.{Reachable}
use Rattle.graph_core.specs.declared.run.GraphRun.{GraphRun}
use Rattle.proof_tree.specs.declared.frame.Stop.{Stop}
use Rattle.proof_tree.specs.declared.frame.Goal.{Goal}
use Rattle.proof_tree.specs.declared.frame.Hold.{Hold}
use Rattle.proof_tree.specs.declared.frame.Premise.{Premise}
use Rattle.proof_tree.specs.declared.frame.Frame.{Frame}
use Rattle.proof_tree.specs.Ahead.{AreAhead}
use Rattle.proof_tree.specs.Scope.{setting_of}

abbrev pub terms_of : List (Box Term Global) → List tree.Term
terms_of terms = map boxed_term terms

abbrev pub mark_of : Mark → Mark
mark_of m = record { node = m.node; count = m.count }

abbrev pub stop_of : Stop → Mark
stop_of s = record { node = s.at.from; count = s.count }

abbrev pub side_of : GraphRun → spec.Side
side_of run = record { graphs = graphs_of run.graphs.now; outermost = run.outermost }

abbrev pub premise_of : Premise → tree.Term
premise_of p = if p.holds then term_of p.term.now else tree.not_term (term_of p.term.now)

abbrev pub start_of : Start → spec.Start
start_of s = record {
  nodes = record { binary = s.binary.from; source = s.source.from };
  path = s.path.now;
  premises = map premise_of s.premises.items;
  binary_bounds = map mark_of s.binary_bounds.items;
  source_bounds = map mark_of s.source_bounds.items;
}

abbrev pub goal_of : Goal → spec.Goal
goal_of g = record { binary = stop_of g.binary; source = stop_of g.source; relation = terms_of g.relation.now }

abbrev pub hold_of : Hold → spec.Hold
hold_of h = record { nodes = h.nodes; relation = terms_of h.relation.now }

abbrev pub frame_of : Frame → spec.Frame
frame_of f = record {
  binary = side_of f.binary;
  source = side_of f.source;
  setting = setting_of f.setting.now;
  entry = terms_of f.entry.now;
  start = start_of f.start;
  goals = map goal_of f.goals.items;
  holds = map hold_of f.holds.items;
}

-- what is listed as ahead of a node is what it leads to in the run
abbrev pub KnowsPaths : GraphRun → Reachable → Type 0
KnowsPaths run r = AreAhead (graphs_of run.graphs.now) run.outermost r.from r.nodes.keys

-- of each start, and of each goal
pub record HasPaths (f : Frame) : Type 0 where
  pub binary : KnowsPaths f.binary f.start.binary
  pub source : KnowsPaths f.source f.start.source
  pub goals_binary : All (λ (g : Goal). KnowsPaths f.binary g.binary.at) f.goals.items
  pub goals_source : All (λ (g : Goal). KnowsPaths f.source g.source.at) f.goals.items
