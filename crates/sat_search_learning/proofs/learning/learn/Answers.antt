use Rattle.std.proofs.Common.{rules, ◌≡◌, ◌++◌, ◌∷◌, ◌∙◌, [], get_or, drop, length, ap, sym, subst}
use Rattle.std.proofs.lemmas.List.{take_rest}
use Rattle.sat_search_spec.specs.Trail.{IsAbsent}
use Rattle.clause_check_spec.specs.Clause.{negation}
use Rattle.sat_search_learning.specs.Search.{IsHighest}
use Rattle.sat_search_learning.proofs.Learnt.{first_and_rest, second_code, asserting_gone, learnt_searching, once}
use Rattle.sat_search_learning.proofs.learning.learn.Goals as goal

pub highest-best-requires-clause-once : goal.highest-best-requires-clause-once
highest-best-requires-clause-once c =
    once c.args.search.now.trail.variables c.args.search.now.clauses.clauses c.args.search.now.trail.entries c.requires.searching.running.sound.is_trail

pub attach-requires-clause-second : goal.attach-requires-clause-second
attach-requires-clause-second c =
    let asserting = c.index-literals-0.result in
    let here : asserting ≡ get_or c.args.step.literals 0 asserting = c.index-literals-0.is ∙ ap (λ l. get_or l 0 asserting) c.literals.ensures in
    let parts = first_and_rest c.args.step.literals c.requires.analysed.explained.asserting c.requires.analysed.explained.others asserting c.requires.analysed.explained.learnt_are here in
    let highest : IsHighest c.args.search.now.trail asserting (drop 1 c.args.step.literals) c.highest-best.result.literal c.highest-best.result.level =
    subst (λ l. IsHighest c.args.search.now.trail asserting (drop 1 l) c.highest-best.result.literal c.highest-best.result.level) c.literals-2.ensures
    (subst (λ o. IsHighest c.args.search.now.trail asserting o c.highest-best.result.literal c.highest-best.result.level) (take_rest c.literals-2.result.now 1) c.highest-best.ensures)
    in
    second_code c.args.search.now.clauses.clauses c.args.search.now.trail c.args.search.now.watches c.rewind.new.watches c.args.step asserting c.highest-best.result.literal
    (drop 1 c.args.step.literals) c.highest-best.result.level c.rewind.ensures.place c.requires.searching.running c.requires.analysed.explained.fit parts highest
    c.rewind.ensures.watched

pub push-requires-2-clause-not_true : goal.push-requires-2-clause-not_true
push-requires-2-clause-not_true c =
    let asserting = c.index-literals-0.result in
    let here : asserting ≡ get_or c.args.step.literals 0 asserting = c.index-literals-0.is ∙ ap (λ l. get_or l 0 asserting) c.literals.ensures in
    let parts = first_and_rest c.args.step.literals c.requires.analysed.explained.asserting c.requires.analysed.explained.others asserting c.requires.analysed.explained.learnt_are here in
    let highest : IsHighest c.args.search.now.trail asserting (drop 1 c.args.step.literals) c.highest-best.result.literal c.highest-best.result.level =
    subst (λ l. IsHighest c.args.search.now.trail asserting (drop 1 l) c.highest-best.result.literal c.highest-best.result.level) c.literals-2.ensures
    (subst (λ o. IsHighest c.args.search.now.trail asserting o c.highest-best.result.literal c.highest-best.result.level) (take_rest c.literals-2.result.now 1) c.highest-best.ensures)
    in
    subst (λ t. IsAbsent t.entries asserting) (sym c.rewind.ensures.trail)
    (asserting_gone c.args.search.now.clauses.clauses c.args.search.now.trail c.args.step asserting c.highest-best.result.literal (drop 1 c.args.step.literals)
    c.highest-best.result.level c.rewind.ensures.place c.requires.searching.running.sound.is_trail c.requires.decided c.requires.analysed parts highest c.rewind.ensures.cut).0

pub push-requires-2-clause-not_false : goal.push-requires-2-clause-not_false
push-requires-2-clause-not_false c =
    let asserting = c.index-literals-0.result in
    let here : asserting ≡ get_or c.args.step.literals 0 asserting = c.index-literals-0.is ∙ ap (λ l. get_or l 0 asserting) c.literals.ensures in
    let parts = first_and_rest c.args.step.literals c.requires.analysed.explained.asserting c.requires.analysed.explained.others asserting c.requires.analysed.explained.learnt_are here in
    let highest : IsHighest c.args.search.now.trail asserting (drop 1 c.args.step.literals) c.highest-best.result.literal c.highest-best.result.level =
    subst (λ l. IsHighest c.args.search.now.trail asserting (drop 1 l) c.highest-best.result.literal c.highest-best.result.level) c.literals-2.ensures
    (subst (λ o. IsHighest c.args.search.now.trail asserting o c.highest-best.result.literal c.highest-best.result.level) (take_rest c.literals-2.result.now 1) c.highest-best.ensures)
    in
    subst (λ t. IsAbsent t.entries (negation asserting)) (sym c.rewind.ensures.trail)
    (asserting_gone c.args.search.now.clauses.clauses c.args.search.now.trail c.args.step asserting c.highest-best.result.literal (drop 1 c.args.step.literals)
    c.highest-best.result.level c.rewind.ensures.place c.requires.searching.running.sound.is_trail c.requires.decided c.requires.analysed parts highest c.rewind.ensures.cut).1

pub returns-clause-searching : goal.returns-clause-searching
returns-clause-searching c =
    let asserting = c.index-literals-0.result in
    let here : asserting ≡ get_or c.args.step.literals 0 asserting = c.index-literals-0.is ∙ ap (λ l. get_or l 0 asserting) c.literals.ensures in
    let parts = first_and_rest c.args.step.literals c.requires.analysed.explained.asserting c.requires.analysed.explained.others asserting c.requires.analysed.explained.learnt_are here in
    let highest : IsHighest c.args.search.now.trail asserting (drop 1 c.args.step.literals) c.highest-best.result.literal c.highest-best.result.level =
    subst (λ l. IsHighest c.args.search.now.trail asserting (drop 1 l) c.highest-best.result.literal c.highest-best.result.level) c.literals-2.ensures
    (subst (λ o. IsHighest c.args.search.now.trail asserting o c.highest-best.result.literal c.highest-best.result.level) (take_rest c.literals-2.result.now 1) c.highest-best.ensures)
    in
    let clauses : c.push.new.self.clauses ≡ c.args.search.now.clauses.clauses ++ c.args.step.literals ∷ [] =
    c.in_ok-push.ensures.added ∙ ap (λ l. c.args.search.now.clauses.clauses ++ l ∷ []) c.literals-3.ensures
    in
    let log : c.push-3.new.self.items ≡ c.args.search.now.log.items ++ c.args.step ∷ [] = search rules in
    learnt_searching c.args.cnf.now c.args.search.now.clauses.clauses c.push.new.self.clauses c.args.search.now.trail c.rewind.new.trail c.push-2.new.self
    c.args.search.now.watches c.rewind.new.watches c.attach.new.self c.args.search.now.log.items c.push-3.new.self.items c.args.step asserting c.highest-best.result.literal
    (drop 1 c.args.step.literals) c.highest-best.result.level c.len.result c.requires.searching c.requires.decided c.requires.analysed parts highest c.rewind.ensures
    c.in_ok-attach.ensures clauses c.len.ensures c.in_ok-push-2.ensures.added log
