use Rattle.std.proofs.Common.{◌≡◌, ◌∙◌, ◌<◌, ℕ, true, ap, subst, sym, length}
use Rattle.clause_check_spec.specs.Clause.{Cnf, negation, are_of}
use Rattle.term_bank.specs.Nodes.{tree_at}
use Rattle.bit_blast_spec.specs.Gates.{Truth, make}
use Rattle.bit_blast_spec.specs.Goal.{bit_of, cnf_of}
use Rattle.bit_blast_circuits.specs.Built.{IsBuilt}
use Rattle.bit_blast.specs.Models.{HasModel}
use Rattle.bit_blast.specs.Within.{IfLarge}
use Rattle.bit_blast_laws.proofs.Goals.{goal_named}
use Rattle.bit_blast_laws.proofs.ModelsWhole.{model_of}
use Rattle.bit_blast_laws.specs.Back.{TableLoadsFromVariables}
use Rattle.bit_blast_laws.proofs.AssignmentsWhole.{false_by_satisfied}
use Rattle.bit_blast.proofs.Moved.{is_within}
use Rattle.bit_blast.proofs.Whole.{whole_blast, whole_table, count_at_visit, count_at_ties}
use Rattle.bit_blast.proofs.blasted.blast.Goals as goal

pub index_of-index-requires : goal.index_of-index-requires
index_of-index-requires c = c.in-Ok-attempt-traversal.ensures.indexed c.in-Ok-attempt-2.ensures.within

pub bits-requires : goal.bits-requires
bits-requires c =
    subst (λ (index : ℕ). index < length c.in-Ok-attempt-traversal.field-0.table) (sym c.index_of-index.ensures)
    (is_within c.args.bank.now c.in-Ok-attempt-traversal.field-0.indices c.in-Ok-attempt-traversal.field-0.table c.in-Ok-attempt-traversal.ensures.indices c.args.goal
    (c.in-Ok-attempt-traversal.ensures.indexed c.in-Ok-attempt-2.ensures.within))

pub into_cnf-cnf-requires : goal.into_cnf-cnf-requires
into_cnf-cnf-requires c =
    subst (λ (cnf : Cnf). are_of cnf.variables cnf.clauses ≡ true)
    (sym (whole_blast c.args.bank.now c.in-Ok-attempt-traversal.field-0.indices c.in-Ok-attempt-traversal.field-0.table c.args.goal c.index_of-index.result c.in-Ok-attempt.field-0
    c.negation.result c.new-gates.result c.truth.new.self c.in-Ok-attempt-traversal.field-0.gates c.tie_memories.new.gates c.claim.new.self
    c.in-Ok-attempt-traversal.ensures.indices (c.in-Ok-attempt-traversal.ensures.indexed c.in-Ok-attempt-2.ensures.within) c.index_of-index.ensures c.new-gates.ensures c.in-Ok-attempt.ensures
    (c.in-Ok-attempt-traversal.ensures.built.done c.in-Ok-attempt-2.ensures.within) (c.in-Ok-attempt-3.ensures.done c.in-Ok-attempt-4.ensures.within)
    (c.negation.ensures ∙ ap negation (c.bit_of.ensures ∙ ap bit_of c.bits.ensures)) c.in-Ok-attempt-5.ensures))
    (goal_named (tree_at c.args.bank.now c.args.goal))

pub returns-7-clause-clauses : goal.returns-7-clause-clauses
returns-7-clause-clauses c =
    c.into_cnf-cnf.ensures
    ∙ whole_blast c.args.bank.now c.in-Ok-attempt-traversal.field-0.indices c.in-Ok-attempt-traversal.field-0.table c.args.goal c.index_of-index.result c.in-Ok-attempt.field-0
    c.negation.result c.new-gates.result c.truth.new.self c.in-Ok-attempt-traversal.field-0.gates c.tie_memories.new.gates c.claim.new.self
    c.in-Ok-attempt-traversal.ensures.indices (c.in-Ok-attempt-traversal.ensures.indexed c.in-Ok-attempt-2.ensures.within) c.index_of-index.ensures c.new-gates.ensures c.in-Ok-attempt.ensures
    (c.in-Ok-attempt-traversal.ensures.built.done c.in-Ok-attempt-2.ensures.within) (c.in-Ok-attempt-3.ensures.done c.in-Ok-attempt-4.ensures.within)
    (c.negation.ensures ∙ ap negation (c.bit_of.ensures ∙ ap bit_of c.bits.ensures)) c.in-Ok-attempt-5.ensures

pub returns-7-clause-terms : goal.returns-7-clause-terms
returns-7-clause-terms c =
    whole_table (tree_at c.args.bank.now c.args.goal) c.in-Ok-attempt.field-0 c.in-Ok-attempt-traversal.field-0.table c.truth.new.self c.in-Ok-attempt-traversal.field-0.gates
    (subst (λ (g : Cnf). IsBuilt (make Truth) g c.in-Ok-attempt.field-0 c.truth.new.self) c.new-gates.ensures c.in-Ok-attempt.ensures)
    (c.in-Ok-attempt-traversal.ensures.built.done c.in-Ok-attempt-2.ensures.within)

pub returns-7-clause-model : goal.returns-7-clause-model
returns-7-clause-model c = λ sorted found.
    subst HasModel (sym (returns-7-clause-clauses c))
    (let model = model_of found.0 (tree_at c.args.bank.now c.args.goal) found.1 sorted found.2 in (model.0, model.1))

pub returns-7-clause-only_model : goal.returns-7-clause-only_model
returns-7-clause-only_model c = λ sorted from found.
    let model : HasModel (cnf_of (tree_at c.args.bank.now c.args.goal)) = subst HasModel (returns-7-clause-clauses c) found in
    false_by_satisfied model.0 (tree_at c.args.bank.now c.args.goal) sorted (subst TableLoadsFromVariables (returns-7-clause-terms c) from) model.1

pub returns-3-clause-large : goal.returns-3-clause-large
returns-3-clause-large c =
    let cnf = cnf_of (tree_at c.args.bank.now c.args.goal) in
    let count =
    count_at_visit c.args.maximum (tree_at c.args.bank.now c.args.goal) c.in-Ok-attempt.field-0 c.in-Ok-attempt-traversal.field-0.table c.new-gates.result c.truth.new.self
    c.in-Ok-attempt-traversal.field-0.gates c.new-gates.ensures c.in-Ok-attempt.ensures c.in-Ok-attempt-traversal.ensures.built in
    subst (IfLarge c.args.maximum cnf) (sym c.in-Err-attempt-2.ensures.large.0) (c.in-Err-attempt-2.ensures.large.1, count)

pub returns-5-clause-large : goal.returns-5-clause-large
returns-5-clause-large c =
    let cnf = cnf_of (tree_at c.args.bank.now c.args.goal) in
    let count =
    count_at_ties c.args.maximum (tree_at c.args.bank.now c.args.goal) c.in-Ok-attempt.field-0 c.in-Ok-attempt-traversal.field-0.table c.new-gates.result c.truth.new.self
    c.in-Ok-attempt-traversal.field-0.gates c.tie_memories.new.gates c.new-gates.ensures c.in-Ok-attempt.ensures
    (c.in-Ok-attempt-traversal.ensures.built.done c.in-Ok-attempt-2.ensures.within) c.in-Ok-attempt-3.ensures in
    subst (IfLarge c.args.maximum cnf) (sym c.in-Err-attempt-4.ensures.large.0) (c.in-Err-attempt-4.ensures.large.1, count)
