use Rattle.std.proofs.Common.{◌≡◌, [], ◌∷◌, length, map, drop, sym, ap, ◌∙◌, arith, rules}
use Rattle.std.specs.Prelude.{Ok}
use Rattle.std.specs.Vec.Iter.{into_iter_items}
use Rattle.c_types_spec.specs.Statements as rule
use Rattle.c_types_layout.specs.Types.{type_of}
use Rattle.c_types_simple.specs.Contexts.{cores_in, values_in}
use Rattle.c_types_simple.specs.Calls.{after}
use Rattle.c_types_simple.proofs.Arguments.{argument-kept, arguments-done, nothing_left}
use Rattle.c_types_simple.proofs.calls.pass.Goals as goal

pub returns : goal.returns
returns c =
    let at = c.loop-v in
    let empty : into_iter_items at.v-iterator ≡ [] = nothing_left _ (sym at.invariant.0 ∙ c.in-None.ensures.steps.0) in
    ap Ok
    (sym at.invariant.2
    ∙ ap (λ l. after (cores_in at.cores) (rule.passed (map type_of (drop at.place c.args.types.now)) (values_in l))) empty
    ∙ arguments-done c.args.types.now at.place (cores_in at.cores) at.invariant.1)

pub loop-v-preserved : goal.loop-v-preserved
loop-v-preserved c =
    let at = c.loop-v in
    let steps : into_iter_items at.v-iterator ≡ c.in-Some.v ∷ into_iter_items c.next.new.self = c.in-Some.ensures.steps.0 in (
      let was = at.invariant.0 in
          let gone = c.in-Some.ensures.steps.1 in
          let short = ap length steps in
          omega arith,
      search rules,
      argument-kept c.args.types.now at.place c.index-types-place.result c.in-Some.v (into_iter_items at.v-iterator) (into_iter_items c.next.new.self) at.cores c.push.new.list c.in-Some-made.core _
          (search rules) steps c.index-types-place.is (search rules) (search rules) at.invariant.2,
    )
