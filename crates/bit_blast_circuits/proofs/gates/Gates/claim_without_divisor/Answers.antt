use Rattle.std.proofs.Common.{arith}
use Rattle.bit_blast_circuits.proofs.Stages.{claims_start, divisor_at, divisor_end}
use Rattle.bit_blast_circuits.proofs.gates.Gates.claim_without_divisor.Goals as goal

pub returns : goal.returns
returns c = divisor_end c.args.some c.args.q.now c.args.r.now c.args.x.now c.loop-index.index (omega arith) c.loop-index.invariant

pub loop-index-init : goal.loop-index-init
loop-index-init c = claims_start _ _

pub loop-index-preserved : goal.loop-index-preserved
loop-index-preserved c =
    divisor_at c.claim.new.self c.claim-in-loop-index.new.self c.args.some c.index-q-index.result c.index-r-index.result c.index-x-index.result c.negation.result c.negation-in-loop-index.result
    c.args.q.now c.args.r.now c.args.x.now c.loop-index.index (omega arith) (omega arith) (omega arith) c.index-q-index.is c.index-r-index.is c.index-x-index.is c.negation.ensures c.negation-in-loop-index.ensures
    c.loop-index.invariant c.in_ok-claim.ensures c.in_ok-claim-2.ensures c.in_ok-claim-3.ensures
