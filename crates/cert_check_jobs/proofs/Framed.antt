-- Frames inside a part, as they are made.
use Rattle.std.proofs.Common.{◌≡◌, ◌∙◌, ℕ, ◌+◌, ◌<◌, ◌≤◌, Box, Global, List, [], ◌∷◌, ◌++◌, length, map, take, get_or, Option, Some, None, refl, sym, ap, ap₂, subst, arith, append_assoc, append-nil}
use Rattle.std.specs.Prelude.{All}
use Rattle.std.proofs.lemmas.List.{get_or-map, length-map, take_all, map_push, map_more}
use Rattle.std.proofs.lemmas.List.Elements.{All-nil, All-push, All-get_or}
use Rattle.term_core_spec.specs.Term.{Term}
use Rattle.term_core.specs.declared.term.Term.{Term as CodeTerm}
use Rattle.term_core.specs.Trees.{term_of}
use Rattle.term_bank.specs.Nodes.{tree_at}
use Rattle.graph_core.specs.Graphs.{boxed_term, graphs_of}
use Rattle.graph_core.specs.declared.run.GraphRun.{GraphRun}
use Rattle.graph_core_spec.specs.declared.Mark.{Mark}
use Rattle.proof_tree_spec.specs.declared.Counts.{Counts}
use Rattle.proof_tree_spec.specs.declared.Nodes.{Nodes}
use Rattle.proof_tree_spec.specs.Frames as spec
use Rattle.proof_tree_spec.specs.Frames.{Frame, Hold, Start}
use Rattle.proof_tree.specs.declared.frame.Goal.{Goal}
use Rattle.proof_tree.specs.declared.frame.Stop.{Stop}
use Rattle.proof_tree.specs.declared.reachable.Reachable.{Reachable}
use Rattle.proof_tree.specs.Ahead.{AreAhead}
use Rattle.proof_tree.specs.Frames.{KnowsPaths, goal_of, mark_of, side_of, terms_of}
use Rattle.proof_tree.specs.Scope.{setting_of}
use Rattle.cert_check_frames.specs.declared.jobs.Branch.{Branch}
use Rattle.cert_check_frames.specs.declared.listed.Listed.{Listed}
use Rattle.cert_check_frames.specs.Listed.{frame_at}
use Rattle.cert_check_frames.specs.Jobs.{premise_at, premises_at, premises_with, tests_at}
use Rattle.cert_check_jobs.specs.declared.cuts.CutGoal.{CutGoal}
use Rattle.cert_check_jobs.specs.declared.extra.Extra.{Extra}
use Rattle.cert_check_jobs.specs.declared.frames.GoalTrees.{GoalTrees}
use Rattle.cert_check_jobs.specs.declared.frames.Trees.{Trees}
use Rattle.cert_check_jobs.specs.Cuts.{AreGoalsBelow, AreIds, GoalSeen, Site, goal_in, goal_seen, goals_in, goals_seen, lines_at, start_seen}
use Rattle.cert_check_jobs.specs.Extras.{added_at, frame_added, start_added, started}
use Rattle.cert_check_jobs.specs.Frames.{AreFrameGoals, AreTrees, IsFrameGoal, goal_given, start_given}

-- ---- the goals of cuts

module _ (goals : List CutGoal) (i : ℕ) (x : CutGoal) (within : i < length goals) (is : x ≡ get_or goals i x) where
  one_seen : goals_seen (take (i + 1) goals) ≡ goals_seen (take i goals) ++ goal_seen x ∷ []
  one_seen = map_more goal_seen goals i x within ∙ ap (λ (g : CutGoal). goals_seen (take i goals) ++ goal_seen g ∷ []) (sym is)

  -- the same goals are added
  pub seen_added : (first : List GoalSeen) (old new : List CutGoal) (y : CutGoal) → goals_seen old ≡ first ++ goals_seen (take i goals) → new ≡ old ++ y ∷ [] → goal_seen y ≡ goal_seen x
      → goals_seen new ≡ first ++ goals_seen (take (i + 1) goals)
  seen_added first old new y before now same =
      ap goals_seen now ∙ map_push goal_seen old y
      ∙ ap₂ (λ (l : List GoalSeen) (g : GoalSeen). l ++ g ∷ []) before same
      ∙ append_assoc first (goals_seen (take i goals)) (goal_seen x ∷ [])
      ∙ ap (λ (l : List GoalSeen). first ++ l) (sym one_seen)

  -- and with the trees of their lines
  pub trees_added : (bank : List Term) (old new : List GoalTrees) (y : GoalTrees) → map goal_given old ≡ goals_in bank (goals_seen (take i goals)) → new ≡ old ++ y ∷ []
      → goal_given y ≡ goal_in bank (goal_seen x) → map goal_given new ≡ goals_in bank (goals_seen (take (i + 1) goals))
  trees_added bank old new y before now made =
      ap (map goal_given) now ∙ map_push goal_given old y
      ∙ ap₂ (λ (l : List spec.Goal) (g : spec.Goal). l ++ g ∷ []) before made
      ∙ sym (map_push (goal_in bank) (goals_seen (take i goals)) (goal_seen x))
      ∙ ap (goals_in bank) (sym one_seen)

  -- the ids of its lines are below
  pub goal_below : (n : ℕ) → AreGoalsBelow n (goals_seen goals) → AreIds n x.lines.items
  goal_below n below =
      let there : get_or (goals_seen goals) i (goal_seen x) ≡ goal_seen x = get_or-map goal_seen goals i x (goal_seen x) within ∙ ap goal_seen (sym is) in
      subst (λ (g : GoalSeen). AreIds n g.lines) there
      (All-get_or (λ (g : GoalSeen). AreIds n g.lines) (goals_seen goals) i (goal_seen x) (omega (arith, within, length-map goals goal_seen)) below)

pub none_seen : (first : List GoalSeen) (goals : List CutGoal) → goals ≡ [] → first ≡ first ++ goals_seen goals
none_seen first goals none = sym (ap (λ (l : List CutGoal). first ++ goals_seen l) none ∙ append-nil first)

pub all_seen : (first : List GoalSeen) (goals all : List CutGoal) (i : ℕ) → length goals ≤ i → goals_seen all ≡ first ++ goals_seen (take i goals) → goals_seen all ≡ first ++ goals_seen goals
all_seen first goals all i past are = are ∙ ap (λ (l : List CutGoal). first ++ goals_seen l) (take_all i goals past)

pub all_trees : (bank : List Term) (goals : List CutGoal) (made : List GoalTrees) (i : ℕ) → length goals ≤ i → map goal_given made ≡ goals_in bank (goals_seen (take i goals))
    → map goal_given made ≡ goals_in bank (goals_seen goals)
all_trees bank goals made i past are = are ∙ ap (λ (l : List CutGoal). goals_in bank (goals_seen l)) (take_all i goals past)

-- ---- lines

pub line_added : (bank : List Term) (ids : List ℕ) (i d : ℕ) (old new : List (Box CodeTerm Global)) (x : Box CodeTerm Global) → i < length ids → map boxed_term old ≡ lines_at bank (take i ids)
    → new ≡ old ++ x ∷ [] → term_of x.value ≡ tree_at bank (get_or ids i d) → map boxed_term new ≡ lines_at bank (take (i + 1) ids)
line_added bank ids i d old new x within before now made =
    ap (map boxed_term) now ∙ map_push boxed_term old x
    ∙ ap₂ (λ (l : List Term) (t : Term). l ++ t ∷ []) before made
    ∙ sym (map_more (tree_at bank) ids i d within)

pub all_lines : (bank : List Term) (ids : List ℕ) (i : ℕ) (trees : List (Box CodeTerm Global)) → length ids ≤ i → map boxed_term trees ≡ lines_at bank (take i ids)
    → map boxed_term trees ≡ lines_at bank ids
all_lines bank ids i trees past are = are ∙ ap (lines_at bank) (take_all i ids past)

-- ---- goals of the frame

-- what the stops of a goal lead to
abbrev KnowsOn : Listed → Goal → Type 0
KnowsOn code g = KnowsPaths code.binary g.binary.at

abbrev KnowsFrom : Listed → Goal → Type 0
KnowsFrom code g = KnowsPaths code.source g.source.at

pub goal_made : (code : Listed) (goals : List GoalTrees) (i : ℕ) (x : GoalTrees) (old new : List Goal) (y : Goal) → i < length goals → x ≡ get_or goals i x
    → AreFrameGoals code (take i goals) old → new ≡ old ++ y ∷ [] → IsFrameGoal code x y → AreFrameGoals code (take (i + 1) goals) new
goal_made code goals i x old new y within is before now made = record {
  are =
      ap (map goal_of) now ∙ map_push goal_of old y
      ∙ ap₂ (λ (l : List spec.Goal) (g : spec.Goal). l ++ g ∷ []) before.are made.is
      ∙ ap (λ (g : GoalTrees). map goal_given (take i goals) ++ goal_given g ∷ []) is
      ∙ sym (map_more goal_given goals i x within);
  binary = subst (All (KnowsOn code)) (sym now) (All-push (KnowsOn code) old y before.binary made.binary);
  source = subst (All (KnowsFrom code)) (sym now) (All-push (KnowsFrom code) old y before.source made.source);
}

pub no_goals : (code : Listed) (goals : List GoalTrees) (made : List Goal) → goals ≡ [] → made ≡ [] → AreFrameGoals code goals made
no_goals code goals made none empty = record {
  are = ap (map goal_of) empty ∙ sym (ap (map goal_given) none);
  binary = subst (All (λ (g : Goal). KnowsPaths code.binary g.binary.at)) (sym empty) (All-nil (λ (g : Goal). KnowsPaths code.binary g.binary.at));
  source = subst (All (λ (g : Goal). KnowsPaths code.source g.source.at)) (sym empty) (All-nil (λ (g : Goal). KnowsPaths code.source g.source.at));
}

pub all_goals : (code : Listed) (goals : List GoalTrees) (made : List Goal) (i : ℕ) → length goals ≤ i → AreFrameGoals code (take i goals) made → AreFrameGoals code goals made
all_goals code goals made i past are = subst (λ (l : List GoalTrees). AreFrameGoals code l made) (take_all i goals past) are

-- what a node leads to, found from the same node
pub knows_paths : (run : GraphRun) (r : Reachable) (from : ℕ) → r.from ≡ from → AreAhead (graphs_of run.graphs.now) run.outermost from r.nodes.keys → KnowsPaths run r
knows_paths run r from is ahead = subst (λ (n : ℕ). AreAhead (graphs_of run.graphs.now) run.outermost n r.nodes.keys) (sym is) ahead

-- ---- where it starts

same_marks : (marks : List Mark) → map mark_of marks ≡ marks
same_marks [] = refl
same_marks (m ∷ marks) = ap (λ (l : List Mark). m ∷ l) (same_marks marks)

abbrev start_by : (b s : ℕ) → (path : List ℕ) → (premises : List Term) → (binary source : List Mark) → Start
start_by b s path premises binary source = record { nodes = record { binary = b; source = s }; path = path; premises = premises; binary_bounds = binary; source_bounds = source }

abbrev at : Listed → Extra → Start
at code x = started (frame_at code) (start_seen x.cuts.value.start)

start_by_site : (code : Listed) (x : Extra) (tests : List Term) (o : Option Site)
    → start_by (started (frame_at code) o).nodes.binary (started (frame_at code) o).nodes.source (started (frame_at code) o).path
    (terms_of code.entry.now ++ premises_with x.premises.items tests) x.binary_bounds.items x.source_bounds.items
    ≡ start_added (started (frame_at code) o)
    (record { start = o; premises = premises_with x.premises.items tests; binary = x.binary_bounds.items; source = x.source_bounds.items; goals = [] })
start_by_site code x tests None = refl
start_by_site code x tests (Some site) = refl

pub start_there : (code : Listed) (x : Extra) (tests : List Term) (b s : ℕ) (path : List ℕ) (premises : List Term) (binary source : List Mark) (nodes : Nodes)
    → nodes ≡ (started (frame_at code) (start_seen x.cuts.value.start)).nodes → b ≡ nodes.binary → s ≡ nodes.source
    → path ≡ (started (frame_at code) (start_seen x.cuts.value.start)).path → premises ≡ terms_of code.entry.now ++ premises_with x.premises.items tests
    → binary ≡ x.binary_bounds.items → source ≡ x.source_bounds.items → start_by b s path premises (map mark_of binary) (map mark_of source) ≡ start_given code x tests
start_there code x tests b s path premises binary source nodes nodes_are b_is s_is path_is premises_are binary_is source_is =
    ap₂ (λ (m n : ℕ). start_by m n path premises (map mark_of binary) (map mark_of source)) (b_is ∙ ap (λ (n : Nodes). n.binary) nodes_are) (s_is ∙ ap (λ (n : Nodes). n.source) nodes_are)
    ∙ ap₂ (λ (p : List ℕ) (terms : List Term). start_by (at code x).nodes.binary (at code x).nodes.source p terms (map mark_of binary) (map mark_of source)) path_is premises_are
    ∙ ap₂ (λ (l m : List Mark). start_by (at code x).nodes.binary (at code x).nodes.source (at code x).path (terms_of code.entry.now ++ premises_with x.premises.items tests) l m)
    (same_marks binary ∙ binary_is) (same_marks source ∙ source_is)
    ∙ start_by_site code x tests (start_seen x.cuts.value.start)

-- ---- the frame

premises_given : (bank : List Term) (premises : List Branch) → premises_with premises (tests_at bank premises) ≡ premises_at bank premises
unfolding premises_with
premises_given bank [] = refl
premises_given bank (b ∷ premises) = ap (λ (terms : List Term). premise_at bank b ∷ terms) (premises_given bank premises)

abbrev frame_by : Listed → Start → List spec.Goal → List Hold → Frame
frame_by code start goals holds = record {
  binary = side_of code.binary;
  source = side_of code.source;
  setting = setting_of code.setting.now;
  entry = terms_of code.entry.now;
  start = start;
  goals = goals;
  holds = holds;
}

pub frame_there : (code : Listed) (x : Extra) (trees : Trees) (start : Start) (goals : List spec.Goal) (holds : List Hold) (lent : List (Box CodeTerm Global))
    → lent ≡ trees.tests.items → start ≡ start_given code x (map boxed_term lent) → goals ≡ map goal_given trees.goals.items → holds ≡ [] → (bank : List Term) → AreTrees bank x trees
    → frame_by code start goals holds ≡ frame_added (frame_at code) (added_at bank x)
frame_there code x trees start goals holds lent lent_is start_is goals_are none bank are =
    let tests : premises_with x.premises.items (map boxed_term lent) ≡ premises_at bank x.premises.items =
    ap (λ (l : List (Box CodeTerm Global)). premises_with x.premises.items (map boxed_term l)) lent_is ∙ ap (premises_with x.premises.items) are.tests
    ∙ premises_given bank x.premises.items in
    let with = λ (premises : List Term). start_added (started (frame_at code) (start_seen x.cuts.value.start)) (record {
      start = start_seen x.cuts.value.start;
      premises = premises;
      binary = x.binary_bounds.items;
      source = x.source_bounds.items;
      goals = [];
    }) in
    ap₂ (λ (l : List spec.Goal) (h : List Hold). frame_by code start l h) (goals_are ∙ are.goals) none
    ∙ ap (λ (s : Start). frame_by code s (goals_in bank (goals_seen x.cuts.value.goals.items)) []) (start_is ∙ ap with tests)

-- there is a tree for each test
pub same_tests : (bank : List Term) (x : Extra) (trees : Trees) → AreTrees bank x trees → length x.premises.items ≡ length trees.tests.items
same_tests bank x trees are =
    sym (length-map x.premises.items (λ (b : Branch). tree_at bank b.test)) ∙ ap length (sym are.tests) ∙ length-map trees.tests.items boxed_term
