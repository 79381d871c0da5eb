-- The graphs of a function have good nodes, and the obligations of its proofs by Leaf and Restrict are tests.
use Rattle.std.proofs.Common.{◌≡◌, ◌∙◌, ℕ, ◌^◌, ◌<◌, true, false, List, [], length, Option, sym, ap, subst}
use Rattle.std.specs.Prelude.{◌||◌, not, unwrap_or}
use Rattle.std.proofs.lemmas.Bool.{and_parts}
use Rattle.term_core_spec.specs.declared.Family.{Family}
use Rattle.term_core_spec.specs.declared.Variable.{Variable}
use Rattle.term_core_spec.specs.Same.{same_variable}
use Rattle.term_core_spec.proofs.Same.{variable-same}
use Rattle.term_core_spec.specs.Term.{Term}
use Rattle.graph_core_spec.specs.Graph.{Node, Basic, Cond, Call, Graph, IsNode, empty}
use Rattle.c_graph_spec.specs.State.{memory}
use Rattle.graph_core_spec.specs.declared.Mark.{Mark}
use Rattle.proof_tree_spec.specs.Frames.{Start, Goal}
use Rattle.sim_rules_spec.specs.Points.{is_binary, is_source}
use Rattle.sim_rules_spec.specs.Sides.{graph_at}
use Rattle.sim_rules_spec.specs.Rules.{AreOfLeaf, AreOfBinaryRestrict, AreOfSourceRestrict}
use Rattle.sim_rules_spec.specs.Proper.{IsOwnNode}
use Rattle.sim_rules_spec.proofs.Start.{all_at}
use Rattle.agreement_laws.specs.EntryFrame.{Pair, place_of, entry_frame}
use Rattle.agreement_laws.specs.Statements.{IsPair}
use Rattle.agreement_laws.specs.Callers.{Base, frame_in}
use Rattle.validity_laws.specs.Inlined.{IsInlined}
use Rattle.validity_laws.proofs.InlinedSides.{IsSideOf}
use Rattle.validity_laws.proofs.InlinedCode.{IsCodeNode, code_side, code_own_node}
use Rattle.validity_laws.proofs.InlinedSource.{IsSourceNode, kind_spoken, source_side}
use Rattle.agreement_laws.proofs.Pairs.{plain, extents}
use Rattle.validity_laws.specs.Derivation.{Function, pair_for, Origin, AtEntry, AtCut, opening, no_zone, stated, AreSides, IsFunction}
use Rattle.validity_laws.proofs.SourceSpeaks.{is_source_memory, is_spoken}
use Rattle.validity_laws.proofs.SourceGraphs.{IsSpokenNode}
use Rattle.validity_laws.proofs.Functions.{is_pair, sides_for}
use Rattle.validity_laws.specs.CheckStatements.{IsFile}
use Rattle.validity_laws.proofs.Good.{IsPlain, IsGoodState, AreTests}
use Rattle.validity_laws.proofs.Conditions.{IsGoodNode, IsGoodGraph}
use Rattle.validity_laws.proofs.Entry.{premises_good, binary_state_good, source_state_good, cut_binary_good, cut_source_good, returns_good, byte_good}
use Rattle.validity_laws.proofs.Leaves.{AreGoodGoals, leaf_good, binary_restrict_good, source_restrict_good}

-- ---- graphs

binary_plain : (v : Variable) → is_binary v.family ≡ true → IsPlain v
binary_plain v own is = absurd (let bad : true ≡ false = sym own ∙ ap is_binary is in cc)

spoken_plain : (v : Variable) → is_spoken v ≡ true → IsPlain v
spoken_plain v spoken is =
    let parts = and_parts (is_source v.family) (not (is_source_memory v.family) || same_variable v memory) spoken in
    variable-same v memory (ap (λ (f : Family). not (is_source_memory f) || same_variable v memory) (sym is) ∙ parts.1)

binary_node : (count : ℕ) (node : Node) → IsNode count node → IsOwnNode is_binary node → IsGoodNode node
binary_node count (Basic bindings to) valid own = λ i d lt. record { sorted = valid.0 i d lt; plain = λ v o. binary_plain v ((own i d lt).1 v o) }
binary_node count (Cond test on_true on_false) valid own = record { sorted = valid.0; plain = λ v o. binary_plain v (own v o) }
binary_node count (Call callee inputs outputs landing) valid own = (
  λ i d lt. record { sorted = valid.0 i d lt; plain = λ v o. binary_plain v ((own.0 i d lt).1 v o) },
  λ i d lt. record { sorted = valid.1 i d lt; plain = λ v o. binary_plain v ((own.1 i d lt).1 v o) },
)

source_node : (count : ℕ) (node : Node) → IsNode count node → IsSpokenNode node → IsGoodNode node
source_node count (Basic bindings to) valid own = λ i d lt. record { sorted = valid.0 i d lt; plain = λ v o. spoken_plain v ((own i d lt).1 v o) }
source_node count (Cond test on_true on_false) valid own = record { sorted = valid.0; plain = λ v o. spoken_plain v (own v o) }
source_node count (Call callee inputs outputs landing) valid own = (
  λ i d lt. record { sorted = valid.0 i d lt; plain = λ v o. spoken_plain v ((own.0 i d lt).1 v o) },
  λ i d lt. record { sorted = valid.1 i d lt; plain = λ v o. spoken_plain v ((own.1 i d lt).1 v o) },
)

-- ---- one function

module _ (q : Pair) (g : Function) (sides : AreSides q) (file : IsFile q) (function : IsFunction q g) (small : g.stack < 2 ^ 32) (b : Base) (inlined : IsInlined (pair_for q g) b) where
  abbrev p : Pair
  p = pair_for q g

  is : IsPair p
  is = is_pair q g sides function

  pub of_code : IsSideOf (entry_frame p).binary b.binary IsCodeNode
  of_code = code_side p is (sides_for q g sides) b inlined

  pub of_source : IsSideOf (entry_frame p).source b.source (IsSourceNode p.unit)
  of_source = source_side p is b inlined

  pub code_good : IsGoodGraph (graph_at b.binary)
  code_good =
      subst IsGoodGraph (sym (ap (λ (o : Option Graph). unwrap_or o empty) of_code.there))
      (λ n node there. binary_node (length of_code.graph.nodes) node (all_at (IsNode (length of_code.graph.nodes)) of_code.graph.nodes n node of_code.valid.nodes there)
      (code_own_node p is (sides_for q g sides) b inlined node (all_at IsCodeNode of_code.graph.nodes n node of_code.nodes there)))

  pub body_good : IsGoodGraph (graph_at b.source)
  body_good =
      subst IsGoodGraph (sym (ap (λ (o : Option Graph). unwrap_or o empty) of_source.there))
      (λ n node there. source_node (length of_source.graph.nodes) node (all_at (IsNode (length of_source.graph.nodes)) of_source.graph.nodes n node of_source.valid.nodes there)
      (kind_spoken p.unit (place_of p) node (all_at (IsSourceNode p.unit) of_source.graph.nodes n node of_source.nodes there).0))

  -- where a frame starts
  pub binary_opens : (origin : Origin) → IsGoodState (opening p no_zone origin).binary
  binary_opens AtEntry = binary_state_good p small (plain p is)
  binary_opens AtCut = cut_binary_good p small

  pub source_opens : (origin : Origin) → IsGoodState (opening p no_zone origin).source
  source_opens AtEntry = source_state_good p small
  source_opens AtCut = cut_source_good p small

  -- the obligations of a Leaf whose premises and goals are tests, and of a Restrict
  pub obligations_good : (origin : Origin) (start : Start) (goals : List Goal) (terms : List Term) → AreTests start.premises → AreGoodGoals goals
      → AreOfLeaf (stated p) (opening p no_zone origin) (frame_in p b start goals []) terms → AreTests terms
  obligations_good origin start goals terms premises lines are =
      subst AreTests (sym are.terms_are)
      (leaf_good (stated p) (opening p no_zone origin) (frame_in p b start goals []) code_good body_good (binary_opens origin) (source_opens origin) premises
      (returns_good p.body.signature.result (extents p is).result) (byte_good p small) are.binary are.source lines)

  pub binary_bound_good : (origin : Origin) (start : Start) (goals : List Goal) (bound : Mark) (terms : List Term) → AreTests start.premises
      → AreOfBinaryRestrict (opening p no_zone origin) (frame_in p b start goals []) bound terms → AreTests terms
  binary_bound_good origin start goals bound terms premises are =
      binary_restrict_good (opening p no_zone origin) (frame_in p b start goals []) (binary_opens origin) (source_opens origin) premises code_good body_good bound terms are

  pub source_bound_good : (origin : Origin) (start : Start) (goals : List Goal) (bound : Mark) (terms : List Term) → AreTests start.premises
      → AreOfSourceRestrict (opening p no_zone origin) (frame_in p b start goals []) bound terms → AreTests terms
  source_bound_good origin start goals bound terms premises are =
      source_restrict_good (opening p no_zone origin) (frame_in p b start goals []) (binary_opens origin) (source_opens origin) premises code_good body_good bound terms are

pub entry_good : (q : Pair) (g : Function) → AreSides q → IsFile q → IsFunction q g → g.stack < 2 ^ 32 → AreTests (entry_frame (pair_for q g)).start.premises
entry_good q g sides file function small = premises_good (pair_for q g) small file.pointer (is_pair q g sides function).placed.run
