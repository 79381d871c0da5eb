use Rattle.std.proofs.Common.{rules, ◌≡◌, ap, sym, ◌∙◌}
use Rattle.term_core_spec.specs.declared.Width.TheVariants.{W8, W32}
use Rattle.term_core_spec.specs.Value as spec
use Rattle.term_core.specs.Memory.{bytes_of}
use Rattle.term_core.specs.Values.{value_of}
use Rattle.term_core.proofs.Stored.{stored_is}
use Rattle.term_core.proofs.value.store.Goals as goal

pub returns-in_ok-with-in-Number-W32-default-Number-W8-default : goal.returns-in_ok-with-in-Number-W32-default-Number-W8-default
returns-in_ok-with-in-Number-W32-default-Number-W8-default c =
    let ex : value_of c.args.address.now ≡ spec.Number W32 c.in-Number-W32-default-Number-W8-default.number = search rules in
    let ey : value_of c.args.byte.now ≡ spec.Number W8 c.in-Number-W32-default-Number-W8-default.byte = search rules in
    stored_is (bytes_of c.args.memory.now) (bytes_of c.in_ok-with-in-Number-W32-default-Number-W8-default.field-0) (value_of c.args.address.now) (value_of c.args.byte.now)
    c.in-Number-W32-default-Number-W8-default.number c.in-Number-W32-default-Number-W8-default.byte ex ey c.in_ok-with-in-Number-W32-default-Number-W8-default.ensures
