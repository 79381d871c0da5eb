use Rattle.std.proofs.Common.{◌≡◌, ◌∙◌, ℕ, List, length, get_or, Option, Some, refl, sym, ap, subst, inl, inr, arith}
use Rattle.std.specs.Prelude.{slice_get, option_and_then}
use Rattle.std.proofs.lemmas.Bool.{cases_lt}
use Rattle.std.proofs.lemmas.Option.{slice_get_within, slice_get_read}
use Rattle.term_core_spec.specs.Term.{Term}
use Rattle.path_cond.specs.declared.ids.Ids.{Ids}
use Rattle.path_cond.specs.Ids.{id_at}
use Rattle.path_cond.specs.United.{IsUnitedAt}
use Rattle.path_cond.proofs.Banks.{extends_itself, extends_then, within_longer}
use Rattle.path_cond.proofs.Uniting.{full_at, united_earlier, united_later}
use Rattle.path_cond.proofs.unite.unite_from.Goals as goal

pub loop-number-init : goal.loop-number-init
loop-number-init c =
    let source : ℕ = get_or c.args.sources.now 0 0 in
    let first = c.requires.states 0 0 c.requires.some in
    let at : slice_get c.args.states.now source ≡ Some c.index-states-sources.result =
    slice_get_read c.args.states.now (length c.args.states.now) source c.index-states-sources.result refl
    (slice_get_within c.args.states.now source first.0 first.1) c.index-states-sources.is in
    record {
      extends = extends_itself c.args.bank.now;
      done = λ k less. absurd (omega arith);
      rest = λ k le. c.in_ok-made.ensures k ∙ ap (λ (o : Option Ids). option_and_then (λ (ids : Ids). id_at ids k) o) (sym at);
    }

pub unite_at-requires-clause-states : goal.unite_at-requires-clause-states
unite_at-requires-clause-states c = λ k d less.
    let at = full_at (length c.args.bank.now) c.args.states.now c.args.count c.loop-number.number c.args.sources.now (omega arith) c.requires.states k d less in
    (at.0, at.1, within_longer c.args.bank.now c.loop-number.bank at.0 c.loop-number.invariant.extends at.2)

pub loop-number-preserved : goal.loop-number-preserved
loop-number-preserved c =
    let b0 : List Term = c.args.bank.now in
    let b1 : List Term = c.loop-number.bank in
    let b2 : List Term = c.unite_at.new.bank in
    let C = c.args.conditions.now in
    let S = c.args.sources.now in
    let states = c.args.states.now in
    let n : ℕ = c.loop-number.number in
    let full = full_at (length b0) states c.args.count n S (omega arith) c.requires.states in
    record {
      extends = extends_then b0 b1 b2 c.loop-number.invariant.extends c.unite_at.ensures.extends;
      done = λ k less. elim (cases_lt k n) [
        | inl earlier ↦
            united_later b0 b1 b2 C states S (id_at c.loop-number.made) (id_at c.in_ok-made-2.made) k c.unite_at.ensures.extends
            (c.in_ok-made-2.ensures.others k (λ e. omega arith)) (c.loop-number.invariant.done k earlier)
        | inr here ↦
            let at : n ≡ k = omega arith in
            subst (λ (m : ℕ). IsUnitedAt b0 b2 C states S (id_at c.in_ok-made-2.made) m) at
            (united_earlier b0 b1 b2 C states S (id_at c.in_ok-made-2.made) n c.loop-number.invariant.extends c.requires.conditions full c.in_ok-made-2.ensures.here)
      ];
      rest = λ k le. c.in_ok-made-2.ensures.others k (λ e. omega arith) ∙ c.loop-number.invariant.rest k (omega arith);
    }
