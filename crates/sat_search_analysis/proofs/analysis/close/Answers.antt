use Rattle.std.proofs.Common.{rules, ◌≡◌, [], reverse, length, subst}
use Rattle.sat_search_analysis.specs.Explained.{IsDone}
use Rattle.sat_search_analysis.proofs.Explanations.{closed}
use Rattle.sat_search_analysis.proofs.analysis.close.Goals as goal

pub returns : goal.returns
returns c =
    let hints : c.new.result.hints ≡ reverse c.explain_below.new.hints.items = search rules in
    closed c.args.clauses.now.clauses c.args.trail.now c.len.result c.explain_below.new.learnt.items c.explain_below.new.hints.items c.new.result c.requires.sound c.requires.undecided
    (subst (λ before. IsDone c.args.clauses.now.clauses c.args.trail.now c.len.result before c.explain_below.new.learnt.items c.explain_below.new.hints.items)
    c.new-learnt.ensures.items c.in_ok-explain_below.ensures)
    c.new.ensures.literals hints
