use Rattle.std.proofs.Common.{◌≡◌, ◌∙◌, length, ap, sym, subst, arith}
use Rattle.sat_search_spec.specs.Logs.{Spent}
use Rattle.sat_search_spec.proofs.Logs.{spent}
use Rattle.sat_search.proofs.solution.finish.Goals as goal

pub returns : goal.returns
returns c =
    let count = c.loop-count.invariant.count in
    let done = c.loop-count-test.false in
    let bound = c.loop-count.auto._count-end in
    let start = ap length c.back.ensures.log in
    subst (λ l. Spent c.args.cnf.now l c.args.limit) (sym (ap (λ v. v.items) c.replace.ensures.value))
    (spent c.args.cnf.now c.loop-count.search.clauses.clauses c.loop-count.search.log.items c.args.limit c.loop-count.invariant.searching.is_log
    (omega (arith, count, done, bound, start)))
