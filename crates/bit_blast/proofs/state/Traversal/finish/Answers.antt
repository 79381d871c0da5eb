use Rattle.std.proofs.Common.{◌≡◌, ◌∙◌, sym, ap, subst, length, refl}
use Rattle.term_core_spec.specs.Term.{Term}
use Rattle.term_bank.specs.Nodes.{IsNode, build, Holds}
use Rattle.bit_blast_spec.specs.Goal.{once}
use Rattle.bit_blast.specs.Steps.{finish}
use Rattle.bit_blast_circuits.specs.Built.{IsBuilt}
use Rattle.bit_blast.specs.Terms.{terms_in}
use Rattle.bit_blast.proofs.Moved.{same_build, is_node}
use Rattle.bit_blast.proofs.Turned.{wants_indexed, turned_finish}
use Rattle.bit_blast.proofs.state.Traversal.finish.Goals as goal

pub moved-own-requires : goal.moved-own-requires
moved-own-requires c = wants_indexed c.args._bank.now c.args.self.now.indices c.args.self.now.table c.args.self.now.tasks.items c.args.id c.args.node c.requires

pub index_for-requires-clause-arguments : goal.index_for-requires-clause-arguments
index_for-requires-clause-arguments c =
    let wanted = wants_indexed c.args._bank.now c.args.self.now.indices c.args.self.now.table c.args.self.now.tasks.items c.args.id c.args.node c.requires in
    subst (IsNode (length c.args.self.now.table)) (sym c.moved-own.ensures)
    (is_node c.args._bank.now c.args.self.now.indices c.args.self.now.table c.requires.indexed c.args.node wanted)

pub returns-3 : goal.returns-3
returns-3 c =
    let wanted = wants_indexed c.args._bank.now c.args.self.now.indices c.args.self.now.table c.args.self.now.tasks.items c.args.id c.args.node c.requires in
    let same : build (terms_in c.args.self.now.table) c.moved-own.result ≡ build c.args._bank.now c.args.node =
    ap (build (terms_in c.args.self.now.table)) c.moved-own.ensures
    ∙ same_build c.args._bank.now c.args.self.now.indices c.args.self.now.table c.requires.indexed c.args.node wanted in
    turned_finish c.args._bank.now c.args.self.now c.args.id c.args.node c.requires
    (record { gates = c.index_for.new.gates; table = c.index_for.new.table; indices = c.insert.new.self; tasks = c.args.self.now.tasks })
    c.in-Ok-attempt.field-0 refl c.in-Ok-attempt-2.ensures.updates.0
    (subst (λ (term : Term). IsBuilt (once term c.args.self.now.table (finish term c.args.self.now.table)) c.args.self.now.gates c.index_for.new.table c.index_for.new.gates)
    same c.in-Ok-attempt.ensures.gives)
    (subst (Holds (terms_in c.index_for.new.table) c.in-Ok-attempt.field-0) same c.in-Ok-attempt.ensures.index)
