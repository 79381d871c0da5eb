use Rattle.std.proofs.Common.{◌≡◌, ◌<◌, length, sym, ◌∙◌, ap, subst}
use Rattle.relation_search.specs.Greatest.{without}
use Rattle.relation_search.specs.Answers.{AreRefuted}
use Rattle.relation_search.proofs.Narrowing.{IsNarrowed, all_left, narrowed, fewer_left, refuted_alike, alike_then}
use Rattle.relation_search.proofs.fitting.fit.Goals as goal

pub rounds-init : goal.rounds-init
rounds-init g c = record {
  narrowed = subst (λ xs. IsNarrowed (g.J.Judge.refutes c.args.judge.now) c.args.count xs) (sym c.in_ok-lines.ensures)
      (all_left (g.J.Judge.refutes c.args.judge.now) c.args.count);
  left = c.requires.all_left ∙ sym c.in_ok-lines.ensures;
  limits = c.requires.no_limit;
  alike = λ some line. (λ r. r, λ r. r);
}

pub rounds-smaller : goal.rounds-smaller
rounds-smaller g c =
    let out = c.in-Refutes.out.items in
    let lines = c.rounds.lines.items in
    let answer : AreRefuted (g.J.Judge.refutes c.rounds.judge) c.as_slice.result.now out = rw c.in-Refutes.is at c.in_ok-out.ensures.answer in
    let refuted = subst (λ xs. AreRefuted (g.J.Judge.refutes c.rounds.judge) xs out) c.as_slice.ensures.value answer in
    let is : c.take_out.new.lines.items ≡ without out lines = c.take_out.ensures ∙ ap (λ o. without o lines) c.as_slice-in-Refutes.ensures.value in
    subst (λ xs. length xs < length lines) (sym is) (fewer_left (g.J.Judge.refutes c.rounds.judge) lines out refuted)

pub rounds-preserved : goal.rounds-preserved
rounds-preserved g c =
    let out = c.in-Refutes.out.items in
    let lines = c.rounds.lines.items in
    let answer : AreRefuted (g.J.Judge.refutes c.rounds.judge) c.as_slice.result.now out = rw c.in-Refutes.is at c.in_ok-out.ensures.answer in
    let refuted = subst (λ xs. AreRefuted (g.J.Judge.refutes c.rounds.judge) xs out) c.as_slice.ensures.value answer in
    let is : c.take_out.new.lines.items ≡ without out lines = c.take_out.ensures ∙ ap (λ o. without o lines) c.as_slice-in-Refutes.ensures.value in
    let leaves : g.J.Judge.left c.judge.new.self ≡ without out c.as_slice.result.now = rw c.in-Refutes.is at c.in_ok-out.ensures.leaves in
    record {
      narrowed = subst (λ xs. IsNarrowed (g.J.Judge.refutes c.args.judge.now) c.args.count xs) (sym is)
          (narrowed (g.J.Judge.refutes c.args.judge.now) (g.met.J.Judge.monotone c.args.judge.now) c.args.count lines out c.rounds.invariant.narrowed
          (refuted_alike (g.J.Judge.refutes c.args.judge.now) (g.J.Judge.refutes c.rounds.judge) c.rounds.invariant.alike lines out refuted));
      left = leaves ∙ (ap (λ xs. without out xs) c.as_slice.ensures.value ∙ sym is);
      limits = rw c.in-Refutes.is at c.in_ok-out.ensures.limit;
      alike = alike_then (g.J.Judge.refutes c.args.judge.now) (g.J.Judge.refutes c.rounds.judge) (g.J.Judge.refutes c.judge.new.self)
          c.rounds.invariant.alike c.judge.ensures.same;
    }
