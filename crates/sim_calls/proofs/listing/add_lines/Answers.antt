use Rattle.std.proofs.Common.{◌≡◌, ◌∙◌, ℕ, ◌<◌, List, length, Some, sym, ap, subst, inl, inr, arith}
use Rattle.std.specs.Prelude.{slice_get}
use Rattle.std.proofs.lemmas.Bool.{cases_lt}
use Rattle.std.proofs.lemmas.List.{length-map}
use Rattle.std.proofs.lemmas.Option.{same_Some, slice_get_within}
use Rattle.term_core_spec.specs.declared.Variable.{Variable}
use Rattle.term_core.specs.Trees.{term_of}
use Rattle.term_core.specs.declared.term.Term.{Term as CodeTerm}
use Rattle.graph_core.specs.Graphs.{boxed_term}
use Rattle.proof_tree.specs.Frames.{terms_of}
use Rattle.sim_calls.specs.Listed.{Lists}
use Rattle.sim_calls.proofs.Listings.{lists_later}
use Rattle.sim_rules_terms.proofs.Listed.{line_there}
use Rattle.sim_calls.proofs.listing.add_lines.Goals as goal

pub loop-i-init : goal.loop-i-init
loop-i-init c = record { listed = λ k line less there. absurd (omega arith); kept = λ v h. h }

pub loop-i-preserved : goal.loop-i-preserved
loop-i-preserved c =
    let old : List Variable = c.loop-i.variables.keys in
    let new : List Variable = c.add_line.new.variables.keys in
    let stays = c.in_ok-add_line.ensures.kept in
    record {
      listed = λ k line less there. elim (cases_lt k c.loop-i.i) [
        | inl earlier ↦ lists_later old new stays line (c.loop-i.invariant.listed k line earlier there)
        | inr here ↦
            let at : c.loop-i.i ≡ k = omega arith in
            let is = line_there c.args.lines.now c.loop-i.i c.index-lines-i.result c.loop-i-test.true c.index-lines-i.is in
            let same = same_Some (boxed_term c.index-lines-i.result) line (sym is ∙ ap (slice_get (terms_of c.args.lines.now)) at ∙ there) in
            subst (Lists new) (ap (λ (t : CodeTerm). term_of t) c.deref.ensures ∙ same) c.in_ok-add_line.ensures.listed
      ];
      kept = λ v h. stays v (c.loop-i.invariant.kept v h);
    }

pub returns-clause-listed : goal.returns-clause-listed
returns-clause-listed c = λ k line there.
    let within = slice_get_within (terms_of c.args.lines.now) k line there in
    let long = length-map c.args.lines.now boxed_term in
    c.loop-i.invariant.listed k line (omega (arith, within, long)) there
