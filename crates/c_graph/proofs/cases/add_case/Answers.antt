use mir.Syntax.{w128}
use Rattle.std.proofs.Common.{◌≡◌, ◌∙◌, ◌++◌, ◌∷◌, [], map, sym, ap, append-nil, rules, to_z, of_z}
use Rattle.std.proofs.lemmas.List.{map-append}
use Rattle.c_graph.specs.declared.cases.Case.{Case}
use Rattle.c_graph.specs.Seen.{case_of, cases_in}
use Rattle.c_graph.proofs.Casing.{case_of_none, case_of_value}
use Rattle.c_graph.proofs.cases.add_case.Goals as goal

pub returns-in-None : goal.returns-in-None
returns-in-None c = sym (append-nil (cases_in c.args.found.now.items)) ∙ ap (λ l. cases_in c.args.found.now.items ++ l) (sym (case_of_none c.args.label.now c.args.next c.in-None.is))

pub returns-in_ok-push-in-Some : goal.returns-in_ok-push-in-Some
returns-in_ok-push-in-Some c =
    let same : to_z w128 (of_z w128 c.in-Some.value) ≡ c.in-Some.value = search rules in
    let one : Case = record { value = to_z w128 (of_z w128 c.in-Some.value); next = c.args.next } in
    ap cases_in c.in_ok-push-in-Some.ensures.items ∙ map-append case_of c.args.found.now.items (one ∷ [])
    ∙ ap (λ v. cases_in c.args.found.now.items ++ (v, c.args.next) ∷ []) same
    ∙ ap (λ l. cases_in c.args.found.now.items ++ l) (sym (case_of_value c.args.label.now c.in-Some.value c.args.next (search rules)))
