use Rattle.std.proofs.Common.{◌≡◌, ◌∙◌, ◌%◌, ◌^◌, ap, arith}
use Rattle.cnf_core.specs.Bits.{valuation}
use Rattle.bit_blast_spec.specs.Circuits.{Bits}
use Rattle.bit_blast_laws.specs.Meaning.{number_of}
use Rattle.term_core.specs.Memory.{bytes_of}
use Rattle.bit_blast.specs.BitsAt.{bits_at}
use Rattle.bit_blast.proofs.Numbers.{short_number}
use Rattle.bit_blast.proofs.Written.{write_one}
use Rattle.bit_blast.proofs.back.write_back.Goals as goal

pub returns-in-Ok-attempt : goal.returns-in-Ok-attempt
returns-in-Ok-attempt c = λ short.
    write_one (valuation c.args.values.now) (bits_at c.args.table.now c.args.load.address) (bits_at c.args.table.now c.args.load.byte) _ _
    c.number_of-address.result c.number_of-byte.result (bytes_of c.args.memory.now) (bytes_of c.set.new.self) c.in-Ok-attempt.ensures.ok
    (c.number_of-address.ensures ∙ ap (λ (xs : Bits). number_of (valuation c.args.values.now) xs % 2 ^ 64) c.bits.ensures)
    (c.number_of-byte.ensures ∙ ap (λ (xs : Bits). number_of (valuation c.args.values.now) xs % 2 ^ 64) c.bits-2.ensures)
    (λ small. omega (arith, small)) (omega arith) short

pub returns-else-address-lt4294967296 : goal.returns-else-address-lt4294967296
returns-else-address-lt4294967296 c = λ short.
    let address : c.number_of-address.result ≡ number_of (valuation c.args.values.now) (bits_at c.args.table.now c.args.load.address) % 2 ^ 64 =
    c.number_of-address.ensures ∙ ap (λ (xs : Bits). number_of (valuation c.args.values.now) xs % 2 ^ 64) c.bits.ensures in
    absurd (omega (arith, (short_number (valuation c.args.values.now) (bits_at c.args.table.now c.args.load.address) c.number_of-address.result address short).1))
