use Rattle.std.proofs.Common.{sym, ap, ◌∙◌, subst}
use Rattle.std.specs.FinMap.{get}
use Rattle.std.specs.Prelude.{IsSome}
use Rattle.rv_machine_spec.specs.Machine.{store_byte, past}
use Rattle.rv_machine.specs.Stores.{store_bytes, put_back}
use Rattle.std.proofs.lemmas.List.{nil_from_length}
use Rattle.rv_machine.proofs.Bytes.{none_stored, more_stored, written, undone}
use Rattle.rv_machine.proofs.memory.Memory.+store_bytes.Goals as goal

pub returns-in_default-clause-ok : goal.returns-in_default-clause-ok
returns-in_default-clause-ok t c =
    sym (none_stored c.args.self.now c.args.address) ∙ ap (store_bytes c.args.self.now c.args.address) (sym (nil_from_length c.args.bytes.now c.in_default.ensures.cases))

pub restore-requires : goal.restore-requires
restore-requires t c =
    subst (λ m. IsSome (get m c.args.address)) (sym (c.in-Err.ensures.err ∙ c.in_ok-old.ensures.ok)) (written c.args.self.now c.args.address c.in-Some.first.now)

pub returns-in-Ok-clause-ok : goal.returns-in-Ok-clause-ok
returns-in-Ok-clause-ok t c = c.in-Ok.ensures.ok ∙ ap (λ m. store_bytes m (past c.args.address 1) c.in-Some.rest.now) c.in_ok-old.ensures.ok ∙ sym (more_stored c.args.self.now c.args.address c.in-Some.first.now c.in-Some.rest.now) ∙ ap (store_bytes c.args.self.now c.args.address) (sym c.in-Some.ensures.cases.0)

pub returns-in-Err-clause-err : goal.returns-in-Err-clause-err
returns-in-Err-clause-err t c = c.restore.ensures ∙ ap (λ m. put_back m c.args.address c.in_ok-old.old) (c.in-Err.ensures.err ∙ c.in_ok-old.ensures.ok) ∙ ap (put_back (store_byte c.args.self.now c.args.address c.in-Some.first.now) c.args.address) c.in_ok-old.ensures.old ∙ undone c.args.self.now c.args.address c.in-Some.first.now
