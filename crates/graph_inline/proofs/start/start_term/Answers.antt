use Rattle.std.proofs.Common.{◌≡◌, ◌∙◌, ℕ, Some, length, map, sym, ap, subst}
use Rattle.std.proofs.lemmas.Result.{IfOk-weaker}
use Rattle.term_bank.specs.Nodes.{Holds}
use Rattle.graph_core.specs.Shared.{shared_binding_of}
use Rattle.graph_inline_spec.specs.Inlined.{start_term}
use Rattle.graph_inline.specs.Taken.{id_at}
use Rattle.graph_inline.proofs.Inputs.{input_within, input_taken, found_is, unset_is}
use Rattle.graph_inline.proofs.start.start_term.Goals as goal

pub entry-requires : goal.entry-requires
entry-requires c = input_within c.args.variable (length c.args.table.now) c.args.inputs.now c.in-Some.id c.requires (sym c.find_input.ensures ∙ c.in-Some.is)

pub returns-in-Some-clause-id : goal.returns-in-Some-clause-id
returns-in-Some-clause-id c = λ from taken.
    let e = sym c.find_input.ensures ∙ c.in-Some.is in
    let h = input_taken c.args.variable from c.args.graph.now.trees c.args.table.now c.args.inputs.now c.in-Some.id taken e in
    subst (λ (i : ℕ). Holds c.args.graph.now.trees i (start_term (map (shared_binding_of from) c.args.inputs.now) c.args.variable)) (sym c.entry.ensures)
    (subst (Holds c.args.graph.now.trees (id_at c.args.table.now c.in-Some.id)) (sym (found_is c.args.variable from c.args.inputs.now c.in-Some.id e)) h.holds)

pub returns-in-None-clause-id : goal.returns-in-None-clause-id
returns-in-None-clause-id c = λ from taken.
    IfOk-weaker c.add_term.result _ _ (λ i at. at ∙ ap Some (c.unset_atom.ensures ∙ sym (unset_is c.args.variable from c.args.inputs.now (sym c.find_input.ensures ∙ c.in-None.is))))
    c.add_term.ensures.id
