use Rattle.std.proofs.Common.{true, false, suc, List, map, ap, ◌∙◌, subst, arith, ◌<◌, length}
use Rattle.memory_spec.specs.Viewed.{runs_of}
use Rattle.term_norm.proofs.Growth.{read, within, stays, kept, longer, extends_through}
use Rattle.term_bank.specs.Nodes.{tree_at, Holds}
use Rattle.word_steps_spec.specs.Numbers as spec
use Rattle.word_steps_spec.specs.Numbers.{reading, signed, rebuilt}
use Rattle.word_steps_spec.specs.Lines.{not_all}
use Rattle.std.proofs.Common.{◌++◌, ◌∷◌, []}
use Rattle.word_steps.specs.Views.{count_of, numbers_of, reading_of}
use Rattle.word_steps.proofs.Later.{block_later, numbers_later}
use Rattle.word_steps.proofs.Renewals.{rebuilt_is}
use Rattle.word_steps.proofs.Joining.{below_later, conjunction_later, case_is}
use Rattle.word_steps.proofs.block.Block.case_goals.Goals as goal

pub form_with-requires-clause-block : goal.form_with-requires-clause-block
form_with-requires-clause-block c =
    block_later c.args.bank.now c.conjunction.new.bank c.args.self.now c.conjunction.ensures.extends c.requires.block

pub with_case-requires-clause-form : goal.with_case-requires-clause-form
with_case-requires-clause-form c =
    within c.form_with.new.bank c.in-Ok-attempt-form.field-0 _ c.in-Ok-attempt-form.ensures.form

pub with_case-requires-2-clause-all : goal.with_case-requires-2-clause-all
with_case-requires-2-clause-all c =
    below_later c.conjunction.new.bank c.with_case.new.bank c.in-Ok-attempt.field-0 (extends_through c.conjunction.new.bank c.form_with.new.bank c.with_case.new.bank c.form_with.ensures.extends c.with_case.ensures.extends) c.in-Ok-attempt.ensures.form.within

pub with_case-requires-2-clause-form : goal.with_case-requires-2-clause-form
with_case-requires-2-clause-form c =
    let less : c.in-Ok-attempt-form.field-0 < length c.form_with.new.bank = within c.form_with.new.bank c.in-Ok-attempt-form.field-0 _ c.in-Ok-attempt-form.ensures.form in
    omega (arith, less, longer c.form_with.new.bank c.with_case.new.bank c.with_case.ensures.extends)

pub returns-5-clause-goals : goal.returns-5-clause-goals
returns-5-clause-goals c =
    let form = (read c.form_with.new.bank c.in-Ok-attempt-form.field-0 _ c.in-Ok-attempt-form.ensures.form ∙ rebuilt_is (runs_of c.args.runs.now) c.conjunction.new.bank c.args.self.now (block_later c.args.bank.now c.conjunction.new.bank c.args.self.now c.conjunction.ensures.extends c.requires.block) c.args.index c.requires.index c.number-now.result.now
    ∙ ap (λ (ns : List spec.Number). rebuilt (runs_of c.args.runs.now) ns (suc c.args.index)) (numbers_later c.args.bank.now c.conjunction.new.bank (count_of c.args.self.now) c.args.self.now.numbers.items c.conjunction.ensures.extends c.requires.block.numbers)) in
    let less = within c.form_with.new.bank c.in-Ok-attempt-form.field-0 _ c.in-Ok-attempt-form.ensures.form in
    let second = stays c.form_with.new.bank c.with_case.new.bank c.in-Ok-attempt-form.field-0 c.with_case.ensures.extends less ∙ form in
    record {
      first_holds = kept c.with_case.new.bank c.with_case-2.new.bank c.in-Ok-attempt-first.field-0 _ c.with_case-2.ensures.extends
          (subst (λ t. Holds c.with_case.new.bank c.in-Ok-attempt-first.field-0 (not_all (runs_of c.args.runs.now) ((map (reading (runs_of c.args.runs.now) (numbers_of c.args.bank.now c.args.self.now.numbers.items)) (map reading_of c.args.kept.now)) ++ signed true t ∷ []))) form
          (case_is (runs_of c.args.runs.now) c.form_with.new.bank c.with_case.new.bank (map (reading (runs_of c.args.runs.now) (numbers_of c.args.bank.now c.args.self.now.numbers.items)) (map reading_of c.args.kept.now)) c.in-Ok-attempt.field-0 c.in-Ok-attempt-first.field-0 (signed true (tree_at c.form_with.new.bank c.in-Ok-attempt-form.field-0))
          (conjunction_later c.conjunction.new.bank c.form_with.new.bank (map (reading (runs_of c.args.runs.now) (numbers_of c.args.bank.now c.args.self.now.numbers.items)) (map reading_of c.args.kept.now)) c.in-Ok-attempt.field-0 c.form_with.ensures.extends c.in-Ok-attempt.ensures.form) c.in-Ok-attempt-first.ensures.form));
      second_holds = subst (λ t. Holds c.with_case-2.new.bank c.in-Ok-attempt-second.field-0 (not_all (runs_of c.args.runs.now) ((map (reading (runs_of c.args.runs.now) (numbers_of c.args.bank.now c.args.self.now.numbers.items)) (map reading_of c.args.kept.now)) ++ signed false t ∷ []))) second
          (case_is (runs_of c.args.runs.now) c.with_case.new.bank c.with_case-2.new.bank (map (reading (runs_of c.args.runs.now) (numbers_of c.args.bank.now c.args.self.now.numbers.items)) (map reading_of c.args.kept.now)) c.in-Ok-attempt.field-0 c.in-Ok-attempt-second.field-0 (signed false (tree_at c.with_case.new.bank c.in-Ok-attempt-form.field-0))
          (conjunction_later c.conjunction.new.bank c.with_case.new.bank (map (reading (runs_of c.args.runs.now) (numbers_of c.args.bank.now c.args.self.now.numbers.items)) (map reading_of c.args.kept.now)) c.in-Ok-attempt.field-0 (extends_through c.conjunction.new.bank c.form_with.new.bank c.with_case.new.bank c.form_with.ensures.extends c.with_case.ensures.extends) c.in-Ok-attempt.ensures.form) c.in-Ok-attempt-second.ensures.form);
    }
