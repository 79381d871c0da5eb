use Rattle.std.proofs.Common.{◌≡◌, ◌∙◌, ◌+◌, ℕ, List, [], ◌∷◌, ◌++◌, length, drop, get_or, refl, sym, ap, arith, append_assoc, append-nil}
use Rattle.std.specs.Vec.Iter.{into_iter_items}
use Rattle.prove_run_spec.specs.Written.{Failure}
use Rattle.prove_run.specs.declared.trail.Found.{Found}
use Rattle.prove_run.specs.Trails.{failure_in, failures_in, failures_of}
use Rattle.prove_run.proofs.Listing.{failures_next, no_failures, nothing_left}
use Rattle.prove_run.proofs.trails.add_all.Goals as goal

pub bounds-listed-index : goal.bounds-listed-index
bounds-listed-index c =
    let steps = c.in-Some.ensures.steps.0 in
    let short = ap (λ (l : List Found). length l) steps in
    omega (arith, c.loop-one.invariant.left, short)

pub loop-one-preserved : goal.loop-one-preserved
loop-one-preserved c =
    let one : Found = c.in-Some.one in
    let rest : List Found = into_iter_items c.next.new.self in
    let steps : into_iter_items c.loop-one.one-iterator ≡ one ∷ rest = c.in-Some.ensures.steps.0 in
    let short = ap (λ (l : List Found). length l) steps in
    let old : List Failure = failures_of c.loop-one.unproved.items in
    record {
      long =
          (let was = c.loop-one.invariant.long in
          let gone = c.in-Some.ensures.steps.1 in
          omega (arith, was, gone, short));
      left = omega (arith, c.loop-one.invariant.left, short);
      so_far =
          ap (λ (l : List Failure). l ++ failures_in (drop (c.loop-one.index + 1) c.args.listed.now) rest) c.in-Ok-attempt.ensures
          ∙ append_assoc old (failure_in _ one) (failures_in (drop (c.loop-one.index + 1) c.args.listed.now) rest)
          ∙ ap (λ (l : List Failure). old ++ l)
          (sym
          (failures_next c.args.listed.now rest c.loop-one.index (get_or c.args.listed.now c.loop-one.index c.index-listed-index.result) c.index-listed-index.result one
          (omega (arith, c.loop-one.invariant.left, short)) refl))
          ∙ ap (λ (l : List Found). old ++ failures_in (drop c.loop-one.index c.args.listed.now) l) (sym steps)
          ∙ c.loop-one.invariant.so_far;
    }

pub returns : goal.returns
returns c =
    let old : List Failure = failures_of c.loop-one.unproved.items in
    let empty : into_iter_items c.loop-one.one-iterator ≡ [] =
    nothing_left (into_iter_items c.loop-one.one-iterator) (sym c.loop-one.invariant.long ∙ c.in-None.ensures.steps.0) in
    sym (append-nil old) ∙ ap (λ (l : List Failure). old ++ l) (sym (no_failures (drop c.loop-one.index c.args.listed.now)))
    ∙ ap (λ (l : List Found). old ++ failures_in (drop c.loop-one.index c.args.listed.now) l) (sym empty) ∙ c.loop-one.invariant.so_far
