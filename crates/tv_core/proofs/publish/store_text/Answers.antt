use Rattle.std.proofs.Common.{inl}
use Rattle.tv_core.proofs.Stored.{stored}
use Rattle.tv_core.proofs.publish.store_text.Goals as goal

pub returns-in-Ok : goal.returns-in-Ok
returns-in-Ok g c =
    stored c.args.name.now c.args.text.now _ _ _ _ _ c.write_all.result
    c.in-Ok.ensures.empties c.in-Ok.ensures.name c.in-Ok.ensures.unfailing
    c.write_all.ensures.grows c.write_all.ensures.part c.write_all.ensures.cause c.write_all.ensures.unfailing c.write_all.ensures.no_memory

pub returns-in-Err : goal.returns-in-Err
returns-in-Err g c =
    record { ok = tt; part = inl c.in-Err.ensures.refused; cause = c.in-Err.ensures.cause; unfailing = tt; no_memory = c.in-Err.ensures.no_memory }
