use Rattle.std.proofs.Common.{sym, subst, List, Vec, Global}
use Rattle.std.specs.Prelude.{OnOk}
use Rattle.cert_text_parse.specs.Views.{line_of}
use Rattle.cert_text_spec.specs.declared.Symbol.{Symbol}
use Rattle.cert_text_parse.specs.declared.lines.BinaryRestriction.{BinaryRestriction}
use Rattle.cert_text_parse.specs.declared.lines.SourceRestriction.{SourceRestriction}
use Rattle.cert_text_parse.specs.declared.lines.Split.{Split as CodeSplit}
use Rattle.cert_check.specs.Cuts.{split_line}
use Rattle.proof_tree.specs.Proofs.{binary_point_of, source_point_of}
use Rattle.cert_text_spec.specs.Lines.{Case, RestrictBinary, RestrictSource, Relation}
use Rattle.cert_check.specs.Expectations.{IsNext, AreAfter}
use Rattle.cert_check.specs.Steps.{IsStep}
use Rattle.cert_check.proofs.Entered.{no_other_line}
use Rattle.cert_check.proofs.walk.part_line.Goals as goal

pub leaf-requires-clause-next : goal.leaf-requires-clause-next
leaf-requires-clause-next c = subst (λ l. IsNext c.args.jobs.now.items (line_of l)) c.in-Leaf.is c.requires.next

pub case-requires-clause-next : goal.case-requires-clause-next
case-requires-clause-next c =
    subst (λ (t : List Symbol). IsNext c.args.jobs.now.items (Case t)) (sym c.as_slice.ensures.value)
    (subst (λ (t : Vec Symbol Global). IsNext c.args.jobs.now.items (Case t.items)) (sym c.deref.ensures)
    (subst (λ l. IsNext c.args.jobs.now.items (line_of l)) c.in-Case.is c.requires.next))

pub returns-in-Leaf-clause-step : goal.returns-in-Leaf-clause-step
returns-in-Leaf-clause-step c =
    subst (λ l. IsStep c.args.function.now c.args.bank.now c.leaf.new.bank c.args.jobs.now.items c.leaf.new.jobs.items (line_of l) c.leaf.result) (sym c.in-Leaf.is) c.leaf.ensures.step

pub returns-in-Leaf-clause-follows : goal.returns-in-Leaf-clause-follows
returns-in-Leaf-clause-follows c =
    subst (λ l. OnOk c.leaf.result (AreAfter c.args.jobs.now.items (line_of l) c.leaf.new.jobs.items)) (sym c.in-Leaf.is) c.leaf.ensures.follows

pub returns-in-Case-clause-step : goal.returns-in-Case-clause-step
returns-in-Case-clause-step c =
    subst (λ l. IsStep c.args.function.now c.args.bank.now c.case.new.bank c.args.jobs.now.items c.case.new.jobs.items (line_of l) c.case.result) (sym c.in-Case.is)
    (subst (λ (t : Vec Symbol Global). IsStep c.args.function.now c.args.bank.now c.case.new.bank c.args.jobs.now.items c.case.new.jobs.items (Case t.items) c.case.result) c.deref.ensures
    (subst (λ (t : List Symbol). IsStep c.args.function.now c.args.bank.now c.case.new.bank c.args.jobs.now.items c.case.new.jobs.items (Case t) c.case.result) c.as_slice.ensures.value
    c.case.ensures.step))

pub returns-in-Case-clause-follows : goal.returns-in-Case-clause-follows
returns-in-Case-clause-follows c =
    subst (λ l. OnOk c.case.result (AreAfter c.args.jobs.now.items (line_of l) c.case.new.jobs.items)) (sym c.in-Case.is)
    (subst (λ (t : Vec Symbol Global). OnOk c.case.result (AreAfter c.args.jobs.now.items (Case t.items) c.case.new.jobs.items)) c.deref.ensures
    (subst (λ (t : List Symbol). OnOk c.case.result (AreAfter c.args.jobs.now.items (Case t) c.case.new.jobs.items)) c.as_slice.ensures.value c.case.ensures.follows))

pub restrict_binary-requires-clause-next : goal.restrict_binary-requires-clause-next
restrict_binary-requires-clause-next c =
    subst (λ (r : BinaryRestriction). IsNext c.args.jobs.now.items (RestrictBinary (binary_point_of r.point) r.count)) (sym c.deref-in-RestrictBinary.ensures)
    (subst (λ l. IsNext c.args.jobs.now.items (line_of l)) c.in-RestrictBinary.is c.requires.next)

pub returns-in-RestrictBinary-clause-step : goal.returns-in-RestrictBinary-clause-step
returns-in-RestrictBinary-clause-step c =
    subst (λ l. IsStep c.args.function.now c.args.bank.now c.restrict_binary.new.bank c.args.jobs.now.items c.restrict_binary.new.jobs.items (line_of l) c.restrict_binary.result) (sym c.in-RestrictBinary.is)
    (subst (λ (r : BinaryRestriction). IsStep c.args.function.now c.args.bank.now c.restrict_binary.new.bank c.args.jobs.now.items c.restrict_binary.new.jobs.items (RestrictBinary (binary_point_of r.point) r.count) c.restrict_binary.result)
    c.deref-in-RestrictBinary.ensures c.restrict_binary.ensures.step)

pub returns-in-RestrictBinary-clause-follows : goal.returns-in-RestrictBinary-clause-follows
returns-in-RestrictBinary-clause-follows c =
    subst (λ l. OnOk c.restrict_binary.result (AreAfter c.args.jobs.now.items (line_of l) c.restrict_binary.new.jobs.items)) (sym c.in-RestrictBinary.is)
    (subst (λ (r : BinaryRestriction). OnOk c.restrict_binary.result (AreAfter c.args.jobs.now.items (RestrictBinary (binary_point_of r.point) r.count) c.restrict_binary.new.jobs.items)) c.deref-in-RestrictBinary.ensures c.restrict_binary.ensures.follows)

pub restrict_source-requires-clause-next : goal.restrict_source-requires-clause-next
restrict_source-requires-clause-next c =
    subst (λ (r : SourceRestriction). IsNext c.args.jobs.now.items (RestrictSource (source_point_of r.point) r.count)) (sym c.deref-in-RestrictSource.ensures)
    (subst (λ l. IsNext c.args.jobs.now.items (line_of l)) c.in-RestrictSource.is c.requires.next)

pub returns-in-RestrictSource-clause-step : goal.returns-in-RestrictSource-clause-step
returns-in-RestrictSource-clause-step c =
    subst (λ l. IsStep c.args.function.now c.args.bank.now c.restrict_source.new.bank c.args.jobs.now.items c.restrict_source.new.jobs.items (line_of l) c.restrict_source.result) (sym c.in-RestrictSource.is)
    (subst (λ (r : SourceRestriction). IsStep c.args.function.now c.args.bank.now c.restrict_source.new.bank c.args.jobs.now.items c.restrict_source.new.jobs.items (RestrictSource (source_point_of r.point) r.count) c.restrict_source.result)
    c.deref-in-RestrictSource.ensures c.restrict_source.ensures.step)

pub returns-in-RestrictSource-clause-follows : goal.returns-in-RestrictSource-clause-follows
returns-in-RestrictSource-clause-follows c =
    subst (λ l. OnOk c.restrict_source.result (AreAfter c.args.jobs.now.items (line_of l) c.restrict_source.new.jobs.items)) (sym c.in-RestrictSource.is)
    (subst (λ (r : SourceRestriction). OnOk c.restrict_source.result (AreAfter c.args.jobs.now.items (RestrictSource (source_point_of r.point) r.count) c.restrict_source.new.jobs.items)) c.deref-in-RestrictSource.ensures c.restrict_source.ensures.follows)

pub split-requires-clause-next : goal.split-requires-clause-next
split-requires-clause-next c =
    subst (λ (r : CodeSplit). IsNext c.args.jobs.now.items (split_line r)) (sym c.deref-in-Split.ensures)
    (subst (λ l. IsNext c.args.jobs.now.items (line_of l)) c.in-Split.is c.requires.next)

pub returns-in-Split-clause-step : goal.returns-in-Split-clause-step
returns-in-Split-clause-step c =
    subst (λ l. IsStep c.args.function.now c.args.bank.now c.split.new.bank c.args.jobs.now.items c.split.new.jobs.items (line_of l) c.split.result) (sym c.in-Split.is)
    (subst (λ (r : CodeSplit). IsStep c.args.function.now c.args.bank.now c.split.new.bank c.args.jobs.now.items c.split.new.jobs.items (split_line r) c.split.result) c.deref-in-Split.ensures
    c.split.ensures.step)

pub returns-in-Split-clause-follows : goal.returns-in-Split-clause-follows
returns-in-Split-clause-follows c =
    subst (λ l. OnOk c.split.result (AreAfter c.args.jobs.now.items (line_of l) c.split.new.jobs.items)) (sym c.in-Split.is)
    (subst (λ (r : CodeSplit). OnOk c.split.result (AreAfter c.args.jobs.now.items (split_line r) c.split.new.jobs.items)) c.deref-in-Split.ensures c.split.ensures.follows)

pub relation-requires-clause-next : goal.relation-requires-clause-next
relation-requires-clause-next c =
    subst (λ (t : List Symbol). IsNext c.args.jobs.now.items (Relation t)) (sym c.as_slice-in-Relation.ensures.value)
    (subst (λ (t : Vec Symbol Global). IsNext c.args.jobs.now.items (Relation t.items)) (sym c.deref-in-Relation.ensures)
    (subst (λ l. IsNext c.args.jobs.now.items (line_of l)) c.in-Relation.is c.requires.next))

pub returns-in-Relation-clause-step : goal.returns-in-Relation-clause-step
returns-in-Relation-clause-step c =
    subst (λ l. IsStep c.args.function.now c.args.bank.now c.relation.new.bank c.args.jobs.now.items c.relation.new.jobs.items (line_of l) c.relation.result) (sym c.in-Relation.is)
    (subst (λ (t : Vec Symbol Global). IsStep c.args.function.now c.args.bank.now c.relation.new.bank c.args.jobs.now.items c.relation.new.jobs.items (Relation t.items) c.relation.result) c.deref-in-Relation.ensures
    (subst (λ (t : List Symbol). IsStep c.args.function.now c.args.bank.now c.relation.new.bank c.args.jobs.now.items c.relation.new.jobs.items (Relation t) c.relation.result)
    c.as_slice-in-Relation.ensures.value c.relation.ensures.step))

pub returns-in-Relation-clause-follows : goal.returns-in-Relation-clause-follows
returns-in-Relation-clause-follows c =
    subst (λ l. OnOk c.relation.result (AreAfter c.args.jobs.now.items (line_of l) c.relation.new.jobs.items)) (sym c.in-Relation.is)
    (subst (λ (t : Vec Symbol Global). OnOk c.relation.result (AreAfter c.args.jobs.now.items (Relation t.items) c.relation.new.jobs.items)) c.deref-in-Relation.ensures
    (subst (λ (t : List Symbol). OnOk c.relation.result (AreAfter c.args.jobs.now.items (Relation t) c.relation.new.jobs.items)) c.as_slice-in-Relation.ensures.value c.relation.ensures.follows))

pub unreachable-requires : goal.unreachable-requires
unreachable-requires c =
    no_other_line c.args.line.now c.args.jobs.now.items c.requires.next c.requires.inside c.requires.known c.in_default.not-Leaf c.in_default.not-Case
    c.in_default.not-RestrictBinary c.in_default.not-RestrictSource c.in_default.not-Split c.in_default.not-Relation c.requires.plain
