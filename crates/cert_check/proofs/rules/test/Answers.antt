use Rattle.std.proofs.Common.{◌∙◌, ℕ, List, sym, ap, subst}
use Rattle.proof_tree_spec.specs.Frames.{Frame}
use Rattle.cert_check_jobs.specs.Cuts.{start_seen}
use Rattle.cert_check_jobs.specs.Extras.{started}
use Rattle.cert_check.specs.Steps.{IsTestAt}
use Rattle.cert_check.proofs.rules.test.Goals as goal

pub returns-clause-test : goal.returns-clause-test
returns-clause-test c = λ f is.
    subst (λ (path : List ℕ). IsTestAt f path c.args.symbols.now c.line_read.new.bank c.line_read.result)
    (c.start_path.ensures ∙ ap (λ (g : Frame). (started g (start_seen c.args.cuts.now.start)).path) (sym is.frame_is)) (c.line_read.ensures.line f is)
