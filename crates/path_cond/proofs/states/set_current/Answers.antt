use Rattle.std.proofs.Common.{◌≡◌, ◌∙◌, ℕ, ◌<◌, cond, List, length, Option, Some, sym, arith}
use Rattle.std.specs.Prelude.{slice_get}
use Rattle.std.specs.HashMap.{get}
use Rattle.std.proofs.lemmas.Option.{slice_get_within}
use Rattle.term_core_spec.specs.declared.Variable.{Variable}
use Rattle.term_core_spec.specs.Same.{same_variable}
use Rattle.path_cond.specs.Ids.{id_at}
use Rattle.path_cond.proofs.Numbers.{set_bound, set_others}
use Rattle.path_cond.proofs.states.set_current.Goals as goal

pub loop-number-preserved : goal.loop-number-preserved
loop-number-preserved c =
    let V : List Variable = c.args.variables.now.keys in
    let n : ℕ = c.loop-number.number in
    let x : Variable = c.index.result.now in
    let id : ℕ = c.unwrap-id.result in
    let at : slice_get V n ≡ Some x = c.index.ensures in
    let is : id_at c.args.ids.now n ≡ Some id = sym c.get.ensures ∙ c.unwrap-id.ensures in
    let old : Variable → Option ℕ = get same_variable c.loop-number.current in
    let new : Variable → Option ℕ = get same_variable c.insert.new.self in
    let updates : (q : Variable) → new q ≡ cond (same_variable x q) (Some id) (old q) = c.in_ok-insert.ensures.updates.0 in
    record {
      bound = set_bound V c.len-number-end.ensures.unique (id_at c.args.ids.now) old new n id x at is updates c.loop-number.invariant.bound;
      others = λ v out. set_others V c.len-number-end.ensures.unique old new n id x at updates v out ∙ c.loop-number.invariant.others v out;
    }

pub returns : goal.returns
returns c = record {
  bound = λ k v there.
      let within : k < length c.args.variables.now.keys = slice_get_within c.args.variables.now.keys k v there in
      c.loop-number.invariant.bound k v (omega arith) there;
  others = c.loop-number.invariant.others;
}
