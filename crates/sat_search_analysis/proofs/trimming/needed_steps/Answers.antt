use Rattle.std.proofs.Common.{rules, ◌≡◌, ◌-◌, ◌∙◌, ◌++◌, length, drop, take, set, replicate, true, false, ap, sym, subst}
use Rattle.std.proofs.lemmas.List.{take_at}
use Rattle.sat_search_spec.specs.Trimming.{IsNeeded}
use Rattle.sat_search_analysis.proofs.Marked.{needed_first}
use Rattle.sat_search_analysis.proofs.trimming.needed_steps.Goals as goal

pub returns-clause-needed : goal.returns-clause-needed
returns-clause-needed c = λ backwards.
    let all : c.in_ok-needed.needed.items ≡ replicate (length c.args.log.now) false = c.in_ok-needed.ensures.items_if_clones_equal (search rules) in
    let marks : c.as_mut_slice.result.now ≡ set (replicate (length c.args.log.now) false) (length c.args.log.now - 1) true =
    c.as_mut_slice.ensures.value ∙ ap (λ xs. set xs (length c.args.log.now - 1) true) all
    in
    let needed = c.mark_needed.ensures.needed backwards (needed_first c.args.given c.args.log.now c.as_mut_slice.result.now c.requires marks) in
    let count : length c.mark_needed.new.needed ≡ c.in_ok-needed.needed.len = search rules in
    subst (λ n. IsNeeded c.args.given c.args.log.now n 0)
    (sym (take_at c.mark_needed.new.needed (drop (length c.mark_needed.new.needed) (set c.in_ok-needed.needed.items (length c.args.log.now - 1) true)) c.in_ok-needed.needed.len count))
    needed
