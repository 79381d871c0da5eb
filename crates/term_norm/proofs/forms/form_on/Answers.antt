use Rattle.std.proofs.Common.{◌≤◌, length, refl, arith}
use Rattle.term_core_spec.specs.Term.{Term}
use Rattle.term_norm.specs.Runs.{form_with}
use Rattle.term_norm.specs.Walk.{Advances}
use Rattle.term_norm.proofs.Growth.{extends_through, longer}
use Rattle.term_norm.proofs.Steps.{goes_on, ends}
use Rattle.term_norm.proofs.Taken.{taken, ended}
use Rattle.term_norm.proofs.forms.form_on.Goals as goal

advances : (c : goal.In_default) → Advances c.loop-form.walk c.take.new.self c.args.term
advances c = goes_on c.loop-form.walk c.take.new.self c.args.term c.form_at_hand-outcome.result c.in_ok-form.field-0 c.in_default.is (c.in_ok-form.ensures.end c.args.term c.loop-form.invariant.sound)

pub loop-form-smaller : goal.loop-form-smaller
loop-form-smaller c = (advances c).less

pub loop-form-preserved : goal.loop-form-preserved
loop-form-preserved c =
    let initial = c.args.bank.now in
    let old = c.loop-form.bank in
    let new = c.form_at_hand-outcome.new.bank in
    let more : length initial ≤ length old = longer initial old c.loop-form.invariant.grown in
    let at : c.loop-form.walk.at ≤ c.args.term = c.loop-form.invariant.sound.within in
    record {
      grown = extends_through initial old new c.loop-form.invariant.grown c.form_at_hand-outcome.ensures.extends;
      sound = (advances c).sound;
      forms = taken (form_with c.args.runs.now) (form_with c.args.runs.now) old new c.loop-form.walk c.take.new.self c.form_at_hand-outcome.result (λ (t : Term). refl) c.form_at_hand-outcome.ensures.extends (omega arith) c.loop-form.invariant.forms c.form_at_hand-outcome.ensures.form c.in_ok-form.ensures.forms;
    }

pub returns-in-Some : goal.returns-in-Some
returns-in-Some c =
    let initial = c.args.bank.now in
    let old = c.loop-form.bank in
    let new = c.form_at_hand-outcome.new.bank in
    let runs = c.args.runs.now in
    let at_end = ends c.loop-form.walk c.take.new.self c.args.term c.form_at_hand-outcome.result c.in_ok-form.field-0 c.in-Some.form c.in-Some.is (c.in_ok-form.ensures.end c.args.term c.loop-form.invariant.sound) in
    record {
      form = ended (form_with runs) (form_with runs) initial old new c.loop-form.walk.at c.args.term c.in-Some.form c.form_at_hand-outcome.result (λ (t : Term). refl)
          c.loop-form.invariant.grown c.requires.within c.form_at_hand-outcome.ensures.form at_end.0 at_end.1;
      extends = extends_through initial old new c.loop-form.invariant.grown c.form_at_hand-outcome.ensures.extends;
    }
