use Rattle.std.proofs.Common.{◌≡◌, ◌∙◌, inl, inr, sym, ap, subst, arith}
use Rattle.std.specs.Prelude.{slice_get}
use Rattle.std.proofs.lemmas.Bool.{cases_lt}
use Rattle.std.proofs.lemmas.List.{length-map}
use Rattle.std.proofs.lemmas.Option.{same_Some, slice_get_within}
use Rattle.term_core.specs.Trees.{term_of}
use Rattle.term_core.specs.declared.term.Term.{Term as CodeTerm}
use Rattle.graph_core.specs.Graphs.{boxed_term}
use Rattle.proof_tree_spec.specs.Scope.{IsLine}
use Rattle.proof_tree.specs.Frames.{terms_of}
use Rattle.proof_tree.specs.Scope.{setting_of}
use Rattle.sim_rules_terms.proofs.Listed.{line_there}
use Rattle.sim_rules_terms.proofs.scope.first_bad.Goals as goal

pub loop-index-preserved : goal.loop-index-preserved
loop-index-preserved c = λ k line below there. elim (cases_lt k c.loop-index.index) [
  | inl earlier ↦ c.loop-index.invariant k line earlier there
  | inr here ↦
      let at : c.loop-index.index ≡ k = omega arith in
      let is = line_there c.args.lines.now c.loop-index.index c.index-lines-index.result c.loop-index-test.true c.index-lines-index.is in
      let same = same_Some (boxed_term c.index-lines-index.result) line (sym is ∙ ap (slice_get (terms_of c.args.lines.now)) at ∙ there) in
      subst (IsLine (setting_of c.args.setting.now) c.args.path.now) (ap (λ (t : CodeTerm). term_of t) c.deref.ensures ∙ same) (c.is_line.ensures.0 c.if-not-is_line.false)
]

pub returns : goal.returns
returns c = λ k line there.
    let within = slice_get_within (terms_of c.args.lines.now) k line there in
    let long = length-map c.args.lines.now boxed_term in
    c.loop-index.invariant k line (omega (arith, within, long)) there
