use Rattle.std.proofs.Common.{◌∙◌, sym}
use Rattle.elf_read_spec.specs.Image.{fixed_byte}
use Rattle.elf_read.proofs.loaded.Image.fixed_byte.Goals as goal

pub byte_at-requires : goal.byte_at-requires
byte_at-requires c = rw c.as_slice.ensures.value c.self.invariant.fixed.in_order

pub returns : goal.returns
unfolding fixed_byte
returns c =
    rw (← c.self.view_is) (rw c.as_slice.ensures.value at c.byte_at.ensures ∙ sym (c.self.invariant.fixed.same c.args.address))
