use Rattle.std.proofs.Common.{ap, ◌∙◌, unwrap_or, arith}
use Rattle.elf_read.proofs.RunsOf.{no_bytes, byte_pushed}
use Rattle.elf_read.proofs.loaded.Image.bytes_in.Goals as goal

pub loop-k-init : goal.loop-k-init
loop-k-init c = no_bytes c.args.self.now c.args.extent.first c.new-bytes.result.items c.new-bytes.ensures.items

pub loop-k-preserved : goal.loop-k-preserved
loop-k-preserved c =
    byte_pushed c.args.self.now c.args.extent.first c.loop-k.bytes.items c.push.new.self.items c.loop-k.k c.unwrap_or.result c.loop-k.invariant
    (c.unwrap_or.ensures ∙ ap (λ o. unwrap_or o 0) c.fixed_byte-byte.ensures) (omega arith) c.in_ok-push.ensures.items
