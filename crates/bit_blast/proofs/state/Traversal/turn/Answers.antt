use Rattle.std.proofs.Common.{◌++◌, ◌∷◌, [], sym, subst, OnOk}
use Rattle.bit_blast.specs.declared.state.Task.{Task}
use Rattle.bit_blast.specs.Turns.{Consistent, Turned}
use Rattle.bit_blast.proofs.state.Traversal.turn.Goals as goal

pub visit-requires : goal.visit-requires
visit-requires c =
    subst (λ (task : Task). Consistent c.args.bank.now c.args.self.now.indices c.args.self.now.table (c.args.self.now.tasks.items ++ task ∷ [])) c.in-Visit.is c.requires

pub finish-requires : goal.finish-requires
finish-requires c =
    subst (λ (task : Task). Consistent c.args.bank.now c.args.self.now.indices c.args.self.now.table (c.args.self.now.tasks.items ++ task ∷ [])) c.in-Finish.is c.requires

pub returns-in-Visit : goal.returns-in-Visit
returns-in-Visit c =
    subst (λ (task : Task). OnOk c.visit.result (Turned c.args.bank.now c.args.self.now (c.args.self.now.tasks.items ++ task ∷ []) c.visit.new.self)) (sym c.in-Visit.is) c.visit.ensures

pub returns-in-Finish : goal.returns-in-Finish
returns-in-Finish c =
    subst (λ (task : Task). OnOk c.finish.result (Turned c.args.bank.now c.args.self.now (c.args.self.now.tasks.items ++ task ∷ []) c.finish.new.self)) (sym c.in-Finish.is) c.finish.ensures
