use Rattle.std.proofs.Common.{rules, ◌≡◌, ◌+◌}
use Rattle.std.specs.Prelude.{Ok, Err}
use Rattle.c_run_spec.specs.Accesses.{address_of, stored}
use Rattle.c_run_value.specs.Settings.{setting_of}
use Rattle.c_run_value.specs.Gives.{Gives}
use Rattle.c_run.proofs.Acting.{stores, stores_not, stores_no_value, addresses_not}
use Rattle.c_types_core.specs.Expressions.{core_of}
use Rattle.c_run.proofs.statement.store.Goals as goal

pub returns-clause-acts : goal.returns-clause-acts
returns-clause-acts c = addresses_not _ c.args.frame.now c.args.memory.now c.args.frame.now c.args.memory.now c.args.of (core_of c.args.address.now) c.args.displacement (core_of c.args.core.now) c.args.offset c.in-Err-attempt.field-0 c.in-Err-attempt.ensures

pub returns-2-clause-acts : goal.returns-2-clause-acts
returns-2-clause-acts c =
    let at : address_of c.in-Ok-attempt.field-0 + c.args.displacement ≡ c.address_past-place.result = search rules in
    stores_no_value _ c.args.frame.now c.args.memory.now c.args.frame.now c.args.memory.now c.args.of (core_of c.args.address.now) c.args.displacement (core_of c.args.core.now) c.args.offset c.in-Ok-attempt.field-0 c.address_past-place.result c.in-Err-attempt-value.field-0 c.in-Ok-attempt.ensures at c.in-Err-attempt-value.ensures

pub returns-3-clause-acts : goal.returns-3-clause-acts
returns-3-clause-acts c =
    let at : address_of c.in-Ok-attempt.field-0 + c.args.displacement ≡ c.address_past-place.result = search rules in
    let fails : Gives (λ (_ : Unit {0}). c.store_object.new.memory) (Err c.in-Err-attempt-2.field-0) (stored (setting_of c.args.setting.now) c.args.memory.now c.args.of c.address_past-place.result c.in-Ok-attempt-value.field-0 c.args.offset) = search rules in
    stores_not _ c.args.frame.now c.args.memory.now c.args.frame.now c.store_object.new.memory c.args.of (core_of c.args.address.now) c.args.displacement (core_of c.args.core.now) c.args.offset c.in-Ok-attempt.field-0 c.address_past-place.result c.in-Ok-attempt-value.field-0 (λ _. c.store_object.new.memory) c.in-Err-attempt-2.field-0 c.in-Ok-attempt.ensures at c.in-Ok-attempt-value.ensures fails

pub returns-4-clause-acts : goal.returns-4-clause-acts
returns-4-clause-acts c =
    let at : address_of c.in-Ok-attempt.field-0 + c.args.displacement ≡ c.address_past-place.result = search rules in
    let put : stored (setting_of c.args.setting.now) c.args.memory.now c.args.of c.address_past-place.result c.in-Ok-attempt-value.field-0 c.args.offset ≡ Ok c.store_object.new.memory = search rules in
    stores _ c.args.frame.now c.args.memory.now c.args.of (core_of c.args.address.now) c.args.displacement (core_of c.args.core.now) c.args.offset c.in-Ok-attempt.field-0 c.address_past-place.result c.in-Ok-attempt-value.field-0 c.store_object.new.memory c.in-Ok-attempt.ensures at c.in-Ok-attempt-value.ensures put
