use Rattle.std.proofs.Common.{◌∙◌}
use Rattle.bit_blast_spec.specs.Gates.{◌>>=◌}
use Rattle.bit_blast_spec.specs.Circuits.{none, twice_as_wide, product_bits, sum_bits, equal_bits}
use Rattle.bit_blast_circuits.proofs.Built.{then_ok, same_ok, same_gives}
use Rattle.bit_blast_circuits.proofs.Calls.{product_same, sum_same, equal_same}
use Rattle.bit_blast_circuits.proofs.gates.Gates.makes_up.Goals as goal

pub returns : goal.returns
returns c =
    then_ok c.equal_bits.new.self c.equal_bits.result (λ o. o)
    (λ product. sum_bits product (twice_as_wide c.args.r.now) none >>= λ sum. equal_bits sum (twice_as_wide c.args.x.now))
    (same_gives (product_bits c.deref.result.now c.deref-2.result.now) (product_bits (twice_as_wide c.args.q.now) (twice_as_wide c.args.y.now))
    (product_same (twice_as_wide c.args.q.now) (twice_as_wide c.args.y.now) c.deref.result.now c.deref-2.result.now
    (c.deref.ensures.value ∙ c.in_ok-wide_q.ensures) (c.deref-2.ensures.value ∙ c.in_ok-wide_y.ensures)) c.in_ok-product.ensures)
    (then_ok c.equal_bits.new.self c.equal_bits.result (λ o. o) (λ sum. equal_bits sum (twice_as_wide c.args.x.now))
    (same_gives (sum_bits c.deref-3.result.now c.deref-4.result.now c.none.result) (sum_bits c.in_ok-product.product.items (twice_as_wide c.args.r.now) none)
    (sum_same c.in_ok-product.product.items (twice_as_wide c.args.r.now) c.deref-3.result.now c.deref-4.result.now none c.none.result
    c.deref-3.ensures.value (c.deref-4.ensures.value ∙ c.in_ok-wide_r.ensures) c.none.ensures) c.in_ok-sum.ensures)
    (same_ok c.sum_bits.new.self c.equal_bits.new.self c.equal_bits.result (λ o. o) (equal_bits c.deref-5.result.now c.deref-6.result.now)
    (equal_bits c.in_ok-sum.sum.items (twice_as_wide c.args.x.now))
    (equal_same c.in_ok-sum.sum.items (twice_as_wide c.args.x.now) c.deref-5.result.now c.deref-6.result.now
    c.deref-5.ensures.value (c.deref-6.ensures.value ∙ c.in_ok-wide_x.ensures)) c.equal_bits.ensures))
