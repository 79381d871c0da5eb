use Rattle.std.proofs.Common.{◌≡◌, IfOk, Result, subst}
use Rattle.term_core_spec.specs.declared.Variable.{Variable}
use Rattle.term_core_spec.specs.Term.{open_term, over, subtract}
use Rattle.term_core.specs.Trees.{term_of}
use Rattle.sim_rules_spec.specs.Calling.{word}
use Rattle.sim_rules_spec.specs.Calls.{left, machine_register}
use Rattle.sim_rules_spec.specs.Points.{source_memory, zone_memory}
use Rattle.sim_calls.proofs.returned.left_memory.Goals as goal

pub returns : goal.returns
returns c =
    let sp = open_term (machine_register 2) in
    let from = term_of c.args.from.now in
    let to = term_of c.args.to.now in
    let p1 = subst (λ (v : Variable). IfOk c.open.result (λ x. term_of x.value ≡ open_term v)) c.machine_register-pointer.ensures c.open.ensures in
    let z = subst (λ (v : Variable). IfOk c.open-3.result (λ x. term_of x.value ≡ open_term v)) c.fresh.ensures c.open-3.ensures in
    let p2 = subst (λ (v : Variable). IfOk c.open-4.result (λ x. term_of x.value ≡ open_term v)) c.machine_register-pointer.ensures c.open-4.ensures in
    let m = subst (λ (v : Variable). IfOk c.open-memory.result (λ x. term_of x.value ≡ open_term v)) c.fresh-2.ensures c.open-memory.ensures in
    let below = c.over_two-below.ensures sp (word c.args.stack) p1 c.word.ensures in
    let zone = c.overlaid-zone.ensures (open_term zone_memory) (left zone_memory) (subtract sp (word c.args.stack)) sp c.open-2.ensures z below p2 in
    c.overlaid.ensures (left source_memory) (over (open_term zone_memory) (left zone_memory) (subtract sp (word c.args.stack)) sp) from to m zone c.copy.ensures c.copy-2.ensures
