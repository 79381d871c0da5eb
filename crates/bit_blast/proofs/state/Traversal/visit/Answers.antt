use Rattle.std.proofs.Common.{◌∙◌, ◌++◌, ◌∷◌, [], sym, ap, List, ℕ}
use Rattle.std.proofs.lemmas.List.{append_assoc}
use Rattle.bit_blast.specs.declared.state.Task.{Task}
use Rattle.bit_blast.specs.declared.state.Task.TheVariants.{Visit, Finish}
use Rattle.bit_blast.specs.Tasks.{visits_of}
use Rattle.bit_blast.proofs.Due.{tasks_end}
use Rattle.bit_blast.proofs.Turned.{turned_indexed, turned_visit}
use Rattle.bit_blast.proofs.state.Traversal.visit.Goals as goal

pub returns-then-contains_key : goal.returns-then-contains_key
returns-then-contains_key c = turned_indexed c.args.bank.now c.args.self.now c.args.id c.requires (sym c.contains_key.ensures ∙ c.if-contains_key.true)

pub node-node-requires : goal.node-node-requires
node-node-requires c = (tasks_end c.args.bank.now c.args.self.now.tasks.items (Visit c.args.id ∷ []) c.requires.sound).0

pub returns-4 : goal.returns-4
returns-4 c =
    turned_visit c.args.bank.now c.args.self.now c.args.id c.node-node.result c.requires c.node-node.ensures.tree c.node-node.ensures.children c.push_visits.new.tasks
    (c.in-Ok-attempt-3.ensures
    ∙ ap (λ (tasks : List Task). tasks ++ visits_of c.in-Ok-attempt.field-0.items) c.in-Ok-attempt-2.ensures.items
    ∙ append_assoc c.args.self.now.tasks.items (Finish c.args.id c.node-node.result ∷ []) (visits_of c.in-Ok-attempt.field-0.items)
    ∙ ap (λ (ids : List ℕ). c.args.self.now.tasks.items ++ Finish c.args.id c.node-node.result ∷ visits_of ids) c.in-Ok-attempt.ensures)
