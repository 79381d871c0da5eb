use Rattle.std.proofs.Common.{refl, ap, ◌∙◌}
use Rattle.std.proofs.lemmas.Result.{on_ok_weaker}
use Rattle.term_sorts.specs.Order.{is_among}
use Rattle.word_steps_rules.proofs.Filled.{table_grown, added_there, kept_by_ids}
use Rattle.word_steps_rules.proofs.rows.Rows.cover.Goals as goal

pub add_rows-requires-clause-table : goal.add_rows-requires-clause-table
add_rows-requires-clause-table c =
    table_grown c.args.bank.now c.args.self.now _ c.requires.table c.add_subterms.ensures.order c.add_subterms.ensures.begins refl

pub returns-2-clause-covers : goal.returns-2-clause-covers
returns-2-clause-covers c =
    on_ok_weaker c.add_rows.result
    (λ whole. record {
      there = ap (λ l. is_among l c.args.id) c.add_rows.ensures.ids
          ∙ added_there c.args.bank.now c.are_distinct.ensures c.args.self.now.ids.keys c.add_subterms.new.found.keys c.args.id c.requires.id c.add_subterms.ensures.order c.in-Ok-attempt.ensures.adds;
      whole = whole;
    })
    c.add_rows.ensures.whole

pub returns-2-clause-kept : goal.returns-2-clause-kept
returns-2-clause-kept c =
    on_ok_weaker c.add_rows.result (λ whole. kept_by_ids c.args.self.now.ids.keys c.add_subterms.new.found.keys c.add_rows.new.self.ids.keys c.add_subterms.ensures.begins c.add_rows.ensures.ids)
    c.add_rows.ensures.whole

pub returns-clause-table : goal.returns-clause-table
returns-clause-table c =
    table_grown c.args.bank.now c.args.self.now _ c.requires.table c.add_subterms.ensures.order c.add_subterms.ensures.begins refl
