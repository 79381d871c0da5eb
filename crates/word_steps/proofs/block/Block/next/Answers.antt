use Rattle.std.proofs.Common.{length, sym, ap, ◌∙◌, subst}
use Rattle.std.proofs.lemmas.List.{length-map}
use Rattle.memory_spec.specs.Viewed.{runs_of}
use Rattle.term_bank.specs.Nodes.{IsNode}
use Rattle.term_sorts.specs.Sorts.{sort_of_node}
use Rattle.word_steps_spec.specs.Lines as lines
use Rattle.word_steps.specs.Outcomes.{Becomes}
use Rattle.word_steps.specs.Views.{count_of, operation_of, sort_of_number, is_value_sort}
use Rattle.word_steps.proofs.Adding.{not_there, is_variable, over_fits, no_value, is_taken}
use Rattle.word_steps.proofs.block.Block.next.Goals as goal

pub returns-then-not-names_numbers-clause-line : goal.returns-then-not-names_numbers-clause-line
returns-then-not-names_numbers-clause-line c =
    not_there (runs_of c.args.runs.now) c.args.bank.now c.args.self.now c.requires c.args.operation (sym c.names_numbers.ensures ∙ c.if-not-names_numbers.true)

pub returns-then-is_open-clause-line : goal.returns-then-is_open-clause-line
returns-then-is_open-clause-line c =
    is_variable (runs_of c.args.runs.now) c.args.bank.now c.args.self.now c.requires c.args.operation (sym c.is_open.ensures ∙ c.if-is_open.true)

pub node_sort-requires : goal.node_sort-requires
node_sort-requires c =
    subst (λ k. IsNode k c.over_indices-over.result) (sym (ap length (c.as_slice.ensures.value ∙ c.requires.sorts) ∙ length-map c.args.self.now.numbers.items (sort_of_number c.args.bank.now)))
    (subst (IsNode (count_of c.args.self.now)) (sym c.over_indices-over.ensures) (over_fits (runs_of c.args.runs.now) c.args.bank.now c.args.self.now c.requires c.args.operation (sym c.names_numbers.ensures ∙ c.if-not-names_numbers.false)))

pub returns-then-not-is_value_sort-clause-line : goal.returns-then-not-is_value_sort-clause-line
returns-then-not-is_value_sort-clause-line c =
    no_value (runs_of c.args.runs.now) c.args.bank.now c.args.self.now c.requires c.args.operation (sym c.names_numbers.ensures ∙ c.if-not-names_numbers.false) (ap is_value_sort (sym (c.node_sort.ensures ∙ ap (λ l. sort_of_node l c.over_indices-over.result) c.as_slice.ensures.value ∙ ap (sort_of_node c.args.self.now.sorts.items) c.over_indices-over.ensures)) ∙ sym c.is_value_sort.ensures ∙ c.if-not-is_value_sort.true)

pub add_number-requires-clause-operation : goal.add_number-requires-clause-operation
add_number-requires-clause-operation c =
    subst (IsNode (count_of c.args.self.now)) (sym c.over_indices-over.ensures) (over_fits (runs_of c.args.runs.now) c.args.bank.now c.args.self.now c.requires c.args.operation (sym c.names_numbers.ensures ∙ c.if-not-names_numbers.false))

pub returns-2-clause-line : goal.returns-2-clause-line
returns-2-clause-line c =
    is_taken (runs_of c.args.runs.now) c.args.bank.now c.args.self.now c.requires c.args.operation (sym c.names_numbers.ensures ∙ c.if-not-names_numbers.false) c.add_number.new.bank c.add_number.new.self (sym c.is_open.ensures ∙ c.if-is_open.false) (ap is_value_sort (sym (c.node_sort.ensures ∙ ap (λ l. sort_of_node l c.over_indices-over.result) c.as_slice.ensures.value ∙ ap (sort_of_node c.args.self.now.sorts.items) c.over_indices-over.ensures)) ∙ sym c.is_value_sort.ensures ∙ c.if-not-is_value_sort.false)
    (subst (λ n. Becomes c.args.bank.now c.add_number.new.bank c.args.self.now c.add_number.new.self (lines.with_number (runs_of c.args.runs.now) (operation_of n))) c.over_indices-over.ensures c.in-Ok-allocated.ensures.becomes)
