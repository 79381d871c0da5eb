use Rattle.std.proofs.Common.{◌≡◌, ◌∙◌, ℕ, ◌<◌, List, length, take, get_or, sym, ap, subst, arith, rules}
use Rattle.std.proofs.lemmas.List.{take_all}
use Rattle.term_core_spec.specs.Term.{equal}
use Rattle.term_bank.specs.Nodes.{tree_at}
use Rattle.c_graph_spec.specs.State.{value_constant}
use Rattle.c_graph_terms.specs.Built.{IsBuilt}
use Rattle.c_graph_terms.specs.Tests.{IsTested}
use Rattle.c_graph_terms.proofs.Banks.{within_later}
use Rattle.c_graph.specs.declared.cases.Case.{Case}
use Rattle.c_graph.specs.Seen.{cases_in, case_tests}
use Rattle.c_graph.proofs.Casing.{no_case}
use Rattle.c_graph.proofs.Ids.{any_default}
use Rattle.c_graph.proofs.Drafted.{compared_more, compared_none}
use Rattle.c_graph.proofs.selection.compare.Goals as goal

pub loop-case-init : goal.loop-case-init
loop-case-init c = compared_none c.args.bank.now c.args.found.now.items c.args.of (tree_at c.args.bank.now c.args.word) c.args.cases.now

pub compare_one-requires : goal.compare_one-requires
compare_one-requires c = within_later c.args.bank.now c.loop-case.bank c.args.word c.loop-case.invariant.is_grown c.requires

pub loop-case-preserved : goal.loop-case-preserved
loop-case-preserved c =
    let i = c.loop-case.case-index in
    let cases = c.args.cases.now in
    let one : Case = get_or cases i no_case in
    let is : one ≡ get_or cases i one = any_default cases i no_case one c.loop-case-test.true in
    let built : IsBuilt c.loop-case.bank c.compare_one.new.bank c.in-Ok-attempt.field-0 (equal (tree_at c.loop-case.bank c.args.word) (value_constant c.args.of one.value)) = search rules in
    compared_more c.args.bank.now c.loop-case.bank c.compare_one.new.bank c.args.found.now.items c.loop-case.found.items c.push.new.self.items c.args.of c.args.word cases i one c.in-Ok-attempt.field-0
    c.requires c.loop-case.invariant c.loop-case-test.true is built c.in_ok-push.ensures.items

pub returns : goal.returns
returns c =
    subst (λ (l : List Case). IsTested c.args.bank.now c.loop-case.bank c.args.found.now.items c.loop-case.found.items (case_tests c.args.of (tree_at c.args.bank.now c.args.word) (cases_in l)))
    (take_all c.loop-case.case-index c.args.cases.now c.loop-case-test.false) c.loop-case.invariant
