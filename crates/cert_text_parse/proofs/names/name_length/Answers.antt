use Rattle.std.proofs.Common.{arith, sym, ◌∙◌}
use Rattle.cert_text_parse.proofs.Digits.{name_next, name_ends}
use Rattle.cert_text_parse.proofs.names.name_length.Goals as goal

pub loop-n-preserved : goal.loop-n-preserved
loop-n-preserved c = record {
  within = omega arith;
  through = name_next c.args.text.now c.loop-n.n (omega arith) (sym c.continues_name.ensures ∙ c.if-not-continues_name.false) c.loop-n.invariant.through;
}

pub returns-then-not-continues_name : goal.returns-then-not-continues_name
returns-then-not-continues_name c = record {
  within = omega arith;
  read = name_ends c.args.text.now c.loop-n.n (λ l. sym c.continues_name.ensures ∙ c.if-not-continues_name.true) c.loop-n.invariant.through;
}

pub returns : goal.returns
returns c = record {
  within = omega arith;
  read = name_ends c.args.text.now c.loop-n.n (λ l. absurd (omega arith)) c.loop-n.invariant.through;
}
