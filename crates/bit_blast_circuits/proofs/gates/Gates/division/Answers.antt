use Rattle.bit_blast_circuits.proofs.Calls.{rules_claimed, division_ok}
use Rattle.bit_blast_circuits.proofs.gates.Gates.division.Goals as goal

pub returns : goal.returns
returns c =
    division_ok c.claim_without_divisor.result c.args.self.now c.or_all.new.self c.makes_up.new.self c.less_bit.new.self c.claim_without_divisor.new.self
    c.args.q.now c.args.r.now c.args.x.now c.args.y.now c.in_ok-some.some c.in_ok-same.same c.in_ok-less.less c.in_ok-some.ensures c.in_ok-same.ensures c.in_ok-less.ensures
    (rules_claimed c.claim_without_divisor.result c.less_bit.new.self c.claim.new.self c.claim-2.new.self c.claim_without_divisor.new.self
    c.in_ok-some.some c.negation.result c.negation-2.result c.in_ok-same.same c.in_ok-less.less c.args.q.now c.args.r.now c.args.x.now
    c.negation.ensures c.negation-2.ensures c.in_ok-claim.ensures c.in_ok-claim-2.ensures c.claim_without_divisor.ensures)
