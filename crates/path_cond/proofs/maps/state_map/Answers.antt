use Rattle.std.proofs.Common.{◌≡◌, ◌∙◌, ℕ, List, length, Option, ap}
use Rattle.std.specs.HashMap.{get}
use Rattle.term_core_spec.specs.declared.Variable.{Variable}
use Rattle.term_core_spec.specs.Same.{same_variable}
use Rattle.term_core_spec.specs.Term.{open_term}
use Rattle.term_substitution.specs.States.{tree_or, state_of}
use Rattle.path_cond.specs.Ids.{id_at}
use Rattle.path_cond.proofs.Current.{full_state, below_set, current_set, same_terms}
use Rattle.path_cond.proofs.Starting.{below_copied}
use Rattle.path_cond.proofs.maps.state_map.Goals as goal

pub returns : goal.returns
returns c = λ before now state e below holds.
    let V : List Variable = c.args.found.now.variables.keys in
    let start : Variable → Option ℕ = get same_variable c.args.start.now in
    let copy : Variable → Option ℕ = get same_variable c.in_ok-map.map in
    let set = c.in_ok-set_current.ensures in
    let same : copy ≡ start = c.in_ok-map.ensures in
    record {
      current = current_set V (id_at c.args.ids.now) copy (get same_variable c.set_current.new.current) set now (state_of before start) state holds
          (λ v out. ap (λ (f : Variable → Option ℕ). tree_or now (f v) (open_term v)) same ∙ same_terms before now e start below v);
      below = below_set V (id_at c.args.ids.now) copy (get same_variable c.set_current.new.current) set (length now)
          (full_state V now (state_of before start) (id_at c.args.ids.now) state holds) (below_copied before now e start copy same below);
    }
