use Rattle.std.proofs.Common.{◌≡◌, ◌++◌, ◌+◌, ℕ, length, subst}
use Rattle.std.proofs.lemmas.List.{length-map}
use Rattle.graph_core.specs.Graphs.{boxed_term}
use Rattle.sim_rules_spec.specs.Obligations.{IsNoLine}
use Rattle.proof_tree.specs.Frames.{terms_of}
use Rattle.proof_tree.specs.Scope.{setting_of}
use Rattle.sim_rules_terms.specs.Lines.{IsFirstBad}
use Rattle.sim_calls.proofs.LineLists.{bad_before, bad_later}
use Rattle.sim_calls.proofs.rule.bad_line.Goals as goal

pub returns-in-Some : goal.returns-in-Some
returns-in-Some c =
    let s = setting_of c.args.setting.now in
    let path = c.args.lines.now.path.now in
    let before = terms_of c.args.lines.now.before.now in
    bad_before s path before (terms_of c.args.lines.now.after.now) c.in-Some.index (subst (IsFirstBad s path before) c.in-Some.is c.first_bad.ensures)

pub returns-in-Some-first_bad : goal.returns-in-Some-first_bad
returns-in-Some-first_bad c =
    let s = setting_of c.args.setting.now in
    let path = c.args.lines.now.path.now in
    let before = terms_of c.args.lines.now.before.now in
    let after = terms_of c.args.lines.now.after.now in
    subst (λ (n : ℕ). IsNoLine s path (before ++ after) (n + c.in-Some-first_bad.index)) (length-map c.args.lines.now.before.now boxed_term)
    (bad_later s path before after c.in-Some-first_bad.index (subst (IsFirstBad s path before) c.in-None.is c.first_bad.ensures)
    (subst (IsFirstBad s path after) c.in-Some-first_bad.is c.first_bad-in-None.ensures))
