use Rattle.std.proofs.Common.{ℕ, ◌++◌}
use Rattle.decompile_spec.specs.State.{register}
use Rattle.sim_rules_spec.specs.Calling.{at_entry}
use Rattle.agreement_laws.specs.EntryFrame.{Fact}
use Rattle.cert_check_frames.specs.Facts.{facts_of, entry_facts}
use Rattle.cert_check_relations.proofs.Grown.{one_mapped, all_mapped}
use Rattle.cert_check_frames.proofs.facts.add_registers.Goals as goal

abbrev kept : ℕ → Fact
kept r = record { variable = register r; term = at_entry r }

pub loop-index-preserved : goal.loop-index-preserved
loop-index-preserved c =
    one_mapped kept c.args.registers.now c.loop-index.index _ (facts_of c.loop-index.facts.items) (facts_of c.add_register.new.facts.items)
    (facts_of c.args.facts.now.items ++ entry_facts c.args.registers.now) c.loop-index-test.true c.in-Ok-attempt.ensures c.loop-index.invariant

pub returns : goal.returns
returns c =
    all_mapped kept c.args.registers.now c.loop-index.index (facts_of c.loop-index.facts.items) (facts_of c.args.facts.now.items ++ entry_facts c.args.registers.now)
    c.loop-index-test.false c.loop-index.invariant
