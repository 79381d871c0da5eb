use Rattle.std.proofs.Common.{◌≡◌, ◌∙◌, ℕ, ◌<◌, List, length, Some, ap, ap₂, sym, arith}
use Rattle.std.proofs.lemmas.List.{length-map}
use Rattle.std.proofs.lemmas.Option.{slice_get_within}
use Rattle.term_core_spec.specs.Term.{Term}
use Rattle.term_bank.specs.Nodes.{tree_at}
use Rattle.term_bank.proofs.Substitution.{kept}
use Rattle.path_cond.specs.Ids.{id_at}
use Rattle.path_cond.specs.Merged.{any_term, merged_term}
use Rattle.path_cond.proofs.Conditionals.{condition_of, any_is, merged_is_state, merged_outside}
use Rattle.path_cond.proofs.Uniting.{full_at, united_earlier}
use Rattle.path_cond.proofs.Banks.{within, within_longer}
use Rattle.path_cond.proofs.unite.unite_all.Goals as goal

pub returns-clause-united : goal.returns-clause-united
returns-clause-united c = λ start cs are.
    let b0 : List Term = c.args.bank.now in
    let b1 : List Term = c.any_of.new.bank in
    let b2 : List Term = c.unite.new.bank in
    let C : List ℕ = c.args.conditions.now in
    let S : List ℕ = c.args.sources.now in
    let many : length C ≡ length S = c.requires.many in
    let some_sources : 0 < length S = c.requires.some in
    let long : length cs ≡ length C = sym (length-map cs condition_of) ∙ ap length (sym are.conditions_are) ∙ length-map C (tree_at b0) in
    let some : 0 < length cs = omega arith in
    record {
      condition = kept b1 b2 c.in_ok-condition.condition _ c.unite.ensures.extends (c.in_ok-condition.ensures.tree ∙ ap Some (ap any_term are.conditions_are ∙ any_is cs));
      state = record {
        bound = λ k v there.
            let less : k < length c.args.variables.now.keys = slice_get_within c.args.variables.now.keys k v there in
            let at = united_earlier b0 b1 b2 C c.args.states.now S (id_at c.in_ok-state.state) k c.any_of.ensures.extends c.requires.conditions
            (full_at (length b0) c.args.states.now (length c.args.variables.now.keys) k S less c.requires.states) (c.in_ok-state.ensures.united k (omega arith)) in
            (at.0, at.1, at.2 ∙ ap Some (ap₂ merged_term are.conditions_are (are.states_are k v there) ∙ merged_is_state start v cs some));
        others = λ v out. merged_outside start v cs (are.others v out);
      };
    }

pub unite-requires-clause-states : goal.unite-requires-clause-states
unite-requires-clause-states c = λ k d less.
    let at = c.requires.states k d less in (
      at.0,
      at.1,
      λ n small.
          let id = at.2 n (omega (arith, small, c.len-count.ensures.len)) in
          (id.0, id.1, within_longer c.args.bank.now c.any_of.new.bank id.0 c.any_of.ensures.extends id.2),
    )

pub returns-clause-full : goal.returns-clause-full
returns-clause-full c = (
  within_longer c.any_of.new.bank c.unite.new.bank c.in_ok-condition.condition c.unite.ensures.extends (within c.any_of.new.bank c.in_ok-condition.condition _ c.in_ok-condition.ensures.tree),
  λ k less.
      let at = c.in_ok-state.ensures.united k (omega (arith, less, c.len-count.ensures.len)) in
      (at.0, at.1, within c.unite.new.bank at.0 _ at.2),
)
