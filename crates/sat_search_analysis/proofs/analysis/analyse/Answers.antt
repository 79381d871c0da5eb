use Rattle.std.proofs.Common.{rules, ◌≡◌, ◌-◌, ◌∙◌, ◌∷◌, [], drop, length, reverse, sym, subst}
use Rattle.std.proofs.lemmas.List.{take_at}
use Rattle.clause_check_spec.specs.Clause.{negation}
use Rattle.sat_search_spec.specs.Trail.{IsCut}
use Rattle.sat_search_analysis.specs.Explained.{ExplainsBack}
use Rattle.sat_search_analysis.proofs.Explanations.{later_forced, uip_kept, analysed}
use Rattle.sat_search_analysis.proofs.analysis.analyse.Goals as goal

pub find_uip-requires-clause-forced : goal.find_uip-requires-clause-forced
find_uip-requires-clause-forced c = λ i entry lt here.
    later_forced c.args.clauses.now.clauses c.args.trail.now c.cut-start.result i entry c.requires.sound c.requires.decided
    (subst (λ n. IsCut c.args.trail.now.entries (n - 1) c.cut-start.result) c.level.ensures c.cut-start.ensures) lt here

pub explain_below-requires-clause-explains : goal.explain_below-requires-clause-explains
explain_below-requires-clause-explains c =
    let count : length c.find_uip.new.marks ≡ c.in_ok-marks.marks.len = search rules in
    let marks : c.as_mut_slice-2.result.now ≡ c.find_uip.new.marks =
    c.as_mut_slice-2.ensures.value
    ∙ take_at c.find_uip.new.marks (drop (length c.find_uip.new.marks) c.in_ok-marks.marks.items) c.in_ok-marks.marks.len count
    in
    let first : c.in_ok-learnt.learnt.items ≡ negation c.entry.result.literal ∷ [] = search rules in
    subst (λ m. ExplainsBack c.args.clauses.now.clauses c.args.trail.now m c.in_ok-learnt.learnt.items c.find_uip.new.hints.items c.cut-start.result) (sym marks)
    (subst (λ l. ExplainsBack c.args.clauses.now.clauses c.args.trail.now c.find_uip.new.marks l c.find_uip.new.hints.items c.cut-start.result) (sym first)
    (uip_kept c.args.clauses.now.clauses c.args.trail.now c.cut-start.result c.in_ok-uip.uip c.entry.result c.find_uip.new.marks c.find_uip.new.hints.items
    c.requires.sound c.in_ok-uip.ensures.uip c.entry.ensures))

pub returns : goal.returns
returns c =
    let hints : c.new.result.hints ≡ reverse c.explain_below.new.hints.items = search rules in
    let first : c.in_ok-learnt.learnt.items ≡ negation c.entry.result.literal ∷ [] = search rules in
    analysed c.args.clauses.now.clauses c.args.trail.now c.cut-start.result c.in_ok-uip.uip c.entry.result c.find_uip.new.marks c.in_ok-learnt.learnt.items
    c.explain_below.new.learnt.items c.find_uip.new.hints.items c.explain_below.new.hints.items c.new.result
    (subst (λ n. IsCut c.args.trail.now.entries (n - 1) c.cut-start.result) c.level.ensures c.cut-start.ensures)
    c.in_ok-uip.ensures.uip c.entry.ensures first c.in_ok-explain_below.ensures c.new.ensures.literals hints
