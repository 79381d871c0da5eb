use Rattle.std.proofs.Common.{◌≤◌, ◌∙◌, sym, subst, map}
use Rattle.std.proofs.lemmas.Option.{same_Some}
use Rattle.cnf_core.specs.declared.literals.TheConstants.{MAX_VARIABLE}
use Rattle.cert_text_parse.specs.Views.{literal_of}
use Rattle.discharge.specs.Closers.{OpenLog, open_of}
use Rattle.cert_check.proofs.Taking.{kept_takes}
use Rattle.cert_check.proofs.logs.add_step.Goals as goal

pub step-requires : goal.step-requires
step-requires c = record { «open» = (c.requires.0, c.requires.1) }

pub returns-3 : goal.returns-3
returns-3 c = λ log is.
    let bounded = subst (λ (l : OpenLog). l.variables ≤ MAX_VARIABLE) (same_Some c.requires.0 log (sym c.requires.1 ∙ is)) c.requires.2 in
    kept_takes log (open_of c.step.new.self) (map literal_of c.args.literals.now) c.as_slice.result.now c.args.hints.now c.as_slice-2.result.now c.step.result bounded
    (c.as_slice.ensures.value ∙ c.in-Ok-attempt.ensures) (c.as_slice-2.ensures.value ∙ c.in-Ok-attempt-hints.ensures) (c.step.ensures log is)
