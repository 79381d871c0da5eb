use Rattle.std.proofs.Common.{inl}
use Rattle.tv_core.proofs.Desks.{then_keeps, same_fault, read_begun}
use Rattle.tv_core.proofs.files.read_file.Goals as goal

pub returns-in-Ok : goal.returns-in-Ok
returns-in-Ok g c = record {
  reads = read_begun c.args.name.now c.args.maximum _ _ (g.D.Desk.state c.begin.new.self).left (g.D.Desk.state c.begin.new.self).opened c.read_up_to.result
      c.in-Ok.ensures.begins c.in-Ok.ensures.opens c.read_up_to.ensures.same_names c.read_up_to.ensures.taken c.read_up_to.ensures.part;
  kept = then_keeps _ _ c.read_up_to.result
      (g.D.Desk.state c.begin.new.self)
      c.in-Ok.ensures.same_bytes c.in-Ok.ensures.unfailing
      (record {
        same_files = c.read_up_to.ensures.same_bytes;
        cause = c.read_up_to.ensures.cause;
        unfailing = c.read_up_to.ensures.unfailing;
        no_memory = c.read_up_to.ensures.no_memory;
      });
}

pub returns-in-Err : goal.returns-in-Err
returns-in-Err g c = record {
  reads = record { bytes = tt; taken = inl c.in-Err.ensures.refused; opened = tt; opened_part = inl c.in-Err.ensures.refused_name };
  kept = same_fault _ _ c.in-Err.fault
      (record { same_files = c.in-Err.ensures.same_bytes; cause = c.in-Err.ensures.cause; unfailing = tt; no_memory = c.in-Err.ensures.no_memory });
}
