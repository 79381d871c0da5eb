use Rattle.std.proofs.Common.{◌≡◌, ℕ, ◌<◌, List, sym, subst, inl, inr, arith}
use Rattle.std.proofs.lemmas.Bool.{cases_lt}
use Rattle.term_core_spec.specs.declared.Variable.{Variable}
use Rattle.term_core_spec.specs.Term.{Term}
use Rattle.term_bank.specs.declared.node.TermNode.{TermNode}
use Rattle.term_bank.specs.Nodes.{build, tree_at}
use Rattle.term_bank.proofs.Substitution.{is_at}
use Rattle.graph_core.specs.Seen.{own_variables, HasAll}
use Rattle.graph_core.proofs.Seeing.{all_added}
use Rattle.path_cond.specs.Bound.{KeepsListed}
use Rattle.sim_calls.specs.Listed.{Lists}
use Rattle.sim_calls.proofs.Listings.{lists_later, kept_own, lists_build}
use Rattle.sim_calls.proofs.listing.add_bank.Goals as goal

pub loop-id-init : goal.loop-id-init
loop-id-init c = record { listed = λ j less. absurd (omega arith); kept = λ v h. h }

pub loop-id-preserved : goal.loop-id-preserved
loop-id-preserved c =
    let trees = c.args.bank.now in
    let old : List Variable = c.loop-id.variables.keys in
    let new : List Variable = c.add_leaf.new.variables.keys in
    let n : TermNode = c.node.result in
    let id : ℕ = c.loop-id.id in
    let stays : KeepsListed old new = kept_own n old new c.in_ok-add_leaf.ensures in
    let earlier : (j : ℕ) → j < id → Lists new (tree_at trees j) = λ j less. lists_later old new stays (tree_at trees j) (c.loop-id.invariant.listed j less) in
    let own : HasAll new (own_variables n) = subst (λ (l : List Variable). HasAll l (own_variables n)) (sym c.in_ok-add_leaf.ensures) (all_added old (own_variables n)) in
    let here : Lists new (tree_at trees id) =
    subst (Lists new) (sym (is_at trees id (build trees n) c.node.ensures.tree)) (lists_build trees new id earlier n c.node.ensures.children own) in
    record {
      listed = λ j less. elim (cases_lt j id) [
        | inl before ↦ earlier j before
        | inr at ↦ let same : id ≡ j = omega arith in subst (λ (k : ℕ). Lists new (tree_at trees k)) same here
      ];
      kept = λ v h. stays v (c.loop-id.invariant.kept v h);
    }

pub returns-clause-listed : goal.returns-clause-listed
returns-clause-listed c = λ id less. c.loop-id.invariant.listed id (omega arith)

pub returns-clause-kept : goal.returns-clause-kept
returns-clause-kept c = c.loop-id.invariant.kept
