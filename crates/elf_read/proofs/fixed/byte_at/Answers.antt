use Rattle.std.proofs.Common.{◌∙◌, ◌<◌, sym, length, subst}
use Rattle.std.specs.List.{AllWithin}
use Rattle.elf_read.proofs.FixedOrder.{starts_rise}
use Rattle.elf_read.proofs.FixedBytes.{byte_before, byte_there}
use Rattle.elf_read.proofs.fixed.byte_at.Goals as goal

pub place_of-place-requires : goal.place_of-place-requires
place_of-place-requires c = starts_rise c.args.fixed.now c.requires

pub returns-then-place-eq0 : goal.returns-then-place-eq0
returns-then-place-eq0 c =
    let place = c.place_of-place.ensures in
    sym (byte_before c.args.fixed.now c.args.address
    (subst (λ n. AllWithin (λ s. c.args.address < s.vaddr) c.args.fixed.now n (length c.args.fixed.now)) c.if-place-eq0.true place.above))

pub returns : goal.returns
returns c =
    let place = c.place_of-place.ensures in
    c.fixed_byte.ensures
    ∙ sym (byte_there c.args.fixed.now c.place_of-place.result c.args.address _ c.requires c.if-place-eq0.false place.bound place.below place.above)
