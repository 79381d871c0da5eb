use Rattle.std.proofs.Common.{sym, subst, IfOk}
use Rattle.std.proofs.lemmas.Result.{IfOk-weaker}
use Rattle.term_bank.specs.declared.node.TermNode.{TermNode}
use Rattle.term_bank.specs.Nodes.{build}
use Rattle.bit_blast.specs.Steps as steps
use Rattle.bit_blast_circuits.specs.Built.{IsBuilt}
use Rattle.bit_blast.specs.Terms.{terms_in}
use Rattle.bit_blast.specs.BitsAt.{bits_at}
use Rattle.bit_blast.proofs.Bare.{unary_gives, quaternary_gives}
use Rattle.bit_blast.proofs.nodes.own_bits.Goals as goal

pub returns-in-Unary : goal.returns-in-Unary
returns-in-Unary c =
    subst (λ (n : TermNode). IfOk c.unary_bits.result (λ out. IsBuilt (steps.own_bits (build (terms_in c.args.table.now) n) c.args.table.now) c.args.gates.now out.items c.args.gates.now))
    (sym c.in-Unary.is)
    (IfOk-weaker c.unary_bits.result _ _
    (λ out e. unary_gives c.in-Unary.operator (bits_at c.args.table.now c.in-Unary.a) c.bits.result.now out.items c.args.gates.now c.bits.ensures e) c.unary_bits.ensures)

pub returns-in-Quaternary : goal.returns-in-Quaternary
returns-in-Quaternary c =
    subst (λ (n : TermNode). IfOk c.quaternary_bits.result (λ out. IsBuilt (steps.own_bits (build (terms_in c.args.table.now) n) c.args.table.now) c.args.gates.now out.items c.args.gates.now))
    (sym c.in-Quaternary.is)
    (IfOk-weaker c.quaternary_bits.result _ _
    (λ out e.
    quaternary_gives c.in-Quaternary.operator
    (bits_at c.args.table.now c.in-Quaternary.a) (bits_at c.args.table.now c.in-Quaternary.b) (bits_at c.args.table.now c.in-Quaternary.c) (bits_at c.args.table.now c.in-Quaternary.d)
    c.bits-in-Quaternary.result.now c.bits-in-Quaternary-2.result.now c.bits-in-Quaternary-3.result.now c.bits-in-Quaternary-4.result.now
    out.items c.args.gates.now c.bits-in-Quaternary.ensures c.bits-in-Quaternary-2.ensures c.bits-in-Quaternary-3.ensures c.bits-in-Quaternary-4.ensures e)
    c.quaternary_bits.ensures)
