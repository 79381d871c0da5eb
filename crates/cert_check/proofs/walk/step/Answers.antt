use Rattle.std.proofs.Common.{ℕ, List, subst, sym}
use Rattle.cert_text_parse.specs.Views.{line_of}
use Rattle.cert_text_parse.specs.declared.lines.Part.{Part}
use Rattle.cert_text_spec.specs.Lines.{Function}
use Rattle.cert_check.specs.Walks.{Ends, Goes, IsWalk}
use Rattle.cert_check.proofs.Entered.{header_goes, end_goes, other_inside}
use Rattle.cert_check.proofs.walk.step.Goals as goal

pub returns-in-Header : goal.returns-in-Header
returns-in-Header c =
    subst (λ l. Goes c.args.listed.now c.args.walk.now c.args.walk.now (line_of l) c.args.index _) (sym c.in-Header.is)
    (header_goes c.args.listed.now c.args.walk.now c.args.index (subst (λ l. IsWalk c.args.listed.now c.args.walk.now (line_of l)) c.in-Header.is c.requires.walk))

pub returns-in-Function : goal.returns-in-Function
returns-in-Function c =
    subst (λ l. Goes c.args.listed.now c.args.walk.now c.begin.new.walk (line_of l) c.args.index c.begin.result) (sym c.in-Function.is)
    (subst (λ (p : Part). Goes c.args.listed.now c.args.walk.now c.begin.new.walk (Function p.name.items p.stack) c.args.index c.begin.result) c.deref.ensures c.begin.ensures)

pub returns-in-End : goal.returns-in-End
returns-in-End c =
    subst (λ l. Goes c.args.listed.now c.args.walk.now c.args.walk.now (line_of l) c.args.index c.end.result) (sym c.in-End.is)
    (end_goes c.args.listed.now c.args.walk.now (subst (λ l. IsWalk c.args.listed.now c.args.walk.now (line_of l)) c.in-End.is c.requires.walk) c.args.index c.end.result
    (subst (λ (parts : List ℕ). Ends c.args.listed.now parts c.end.result) c.as_slice.ensures.value c.end.ensures))

pub returns-in_default : goal.returns-in_default
returns-in_default c = c.inside_last.ensures c.args.index

pub inside_last-requires-clause-inside : goal.inside_last-requires-clause-inside
inside_last-requires-clause-inside c = other_inside c.args.line.now c.in_default.not-Header c.in_default.not-Function c.in_default.not-End
