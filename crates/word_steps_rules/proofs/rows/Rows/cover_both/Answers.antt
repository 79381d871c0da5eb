use Rattle.std.proofs.lemmas.Result.{on_ok_weaker}
use Rattle.word_steps_rules.proofs.Covered.{covered_both, kept_then}
use Rattle.word_steps_rules.proofs.rows.Rows.cover_both.Goals as goal

pub returns-2-clause-both : goal.returns-2-clause-both
returns-2-clause-both c =
    covered_both c.cover.new.self c.cover-2.new.self c.args.ids c.cover-2.result c.in-Ok-attempt.ensures.covers c.cover-2.ensures.covers c.cover-2.ensures.kept

pub returns-2-clause-kept : goal.returns-2-clause-kept
returns-2-clause-kept c =
    on_ok_weaker c.cover-2.result (kept_then c.args.self.now c.cover.new.self c.cover-2.new.self c.in-Ok-attempt.ensures.kept) c.cover-2.ensures.kept
