use Rattle.std.proofs.Common.{◌∙◌, ℕ, Option, Some, None, sym, subst}
use Rattle.std.proofs.lemmas.Bool.{false≢true}
use Rattle.proof_tree.specs.Frames.{side_of}
use Rattle.cert_check_jobs.specs.Points.{IsUnlessCall}
use Rattle.cert_check_jobs.proofs.Sought.{call_taken, no_call_kept, nothing_sought}
use Rattle.cert_check_jobs.proofs.points.unless_call.Goals as goal

pub returns-then-is_call : goal.returns-then-is_call
returns-then-is_call c =
    subst (λ (o : Option ℕ). IsUnlessCall (side_of c.args.run.now) o None) (sym c.in-Some.is)
    (call_taken (side_of c.args.run.now) c.in-Some.node (c.is_call.ensures.0 c.if-is_call.true))

pub returns-else-is_call : goal.returns-else-is_call
returns-else-is_call c =
    subst (λ (o : Option ℕ). IsUnlessCall (side_of c.args.run.now) o (Some c.in-Some.node)) (sym c.in-Some.is)
    (no_call_kept (side_of c.args.run.now) c.in-Some.node (λ call. false≢true (sym c.if-is_call.false ∙ c.is_call.ensures.1 call)))

pub returns-in-None : goal.returns-in-None
returns-in-None c = subst (λ (o : Option ℕ). IsUnlessCall (side_of c.args.run.now) o None) (sym c.in-None.is) (nothing_sought (side_of c.args.run.now))
