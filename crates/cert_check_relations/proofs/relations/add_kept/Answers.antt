use Rattle.std.proofs.Common.{ℕ, ◌++◌}
use Rattle.term_core_spec.specs.Term.{Term, equal}
use Rattle.proof_tree.specs.Frames.{terms_of}
use Rattle.sim_rules_spec.specs.Calling.{at_entry, register}
use Rattle.cert_check_relations.specs.Lines.{kept_lines}
use Rattle.cert_check_relations.proofs.Grown.{one_mapped, all_mapped}
use Rattle.cert_check_relations.proofs.relations.add_kept.Goals as goal

abbrev kept : ℕ → Term
kept r = equal (register r) (at_entry r)

pub loop-index-preserved : goal.loop-index-preserved
loop-index-preserved c =
    one_mapped kept c.args.registers.now c.loop-index.index _ (terms_of c.loop-index.lines.items) (terms_of c.add_line.new.lines.items)
    (terms_of c.args.lines.now.items ++ kept_lines c.args.registers.now) c.loop-index-test.true (c.in-Ok-attempt.ensures _ c.is_kept.ensures) c.loop-index.invariant

pub returns : goal.returns
returns c =
    all_mapped kept c.args.registers.now c.loop-index.index (terms_of c.loop-index.lines.items) (terms_of c.args.lines.now.items ++ kept_lines c.args.registers.now)
    c.loop-index-test.false c.loop-index.invariant
