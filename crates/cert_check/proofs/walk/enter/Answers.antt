use Rattle.std.proofs.Common.{◌∙◌, ◌++◌, ◌∷◌, [], ℕ, Vec, Global, Ok, Err, ap, refl}
use Rattle.cert_check_frames.proofs.Indexed.{item_there}
use Rattle.cert_check_spec.specs.declared.RuleWord.TheVariants as fault
use Rattle.cert_check.specs.declared.fault.Named.TheVariants as named
use Rattle.attempt.specs.declared.refusal.Refusal.TheVariants.{Fault}
use Rattle.cert_check.specs.declared.fault.NamedFault.TheVariants.{Broken}
use Rattle.cert_check.specs.declared.walk.Walk.{Walk}
use Rattle.cert_check.specs.Walks.{BeginsAt}
use Rattle.cert_check.proofs.Entered.{begins_for}
use Rattle.cert_check.proofs.walk.enter.Goals as goal

pub returns-then-function-stack : goal.returns-then-function-stack
returns-then-function-stack c =
    begins_for c.args.listed.now c.args.walk.now c.args.walk.now c.args.index c.args.stack (Err (Fault (Broken (named.Listed c.args.index) fault.Stack))) c.index-listed-index.result
    (item_there c.args.listed.now c.args.index c.index-listed-index.result c.requires c.index-listed-index.is) (refl, c.if-function-stack.true)

pub returns-3 : goal.returns-3
returns-3 c =
    let now : Walk = record c.open.new.walk { parts = c.push.new.self } in
    let begins : BeginsAt c.index-listed-index.result c.args.walk.now now c.args.index c.args.stack (Ok (tt {0})) = (
      c.open.new.walk,
      c.in-Ok-attempt.ensures,
      c.if-function-stack.false,
      c.in-Ok-attempt-2.ensures.items ∙ ap (λ (parts : Vec ℕ Global). parts.items ++ c.args.index ∷ []) c.in-Ok-attempt.ensures.parts,
      refl,
    ) in
    begins_for c.args.listed.now c.args.walk.now now c.args.index c.args.stack (Ok (tt {0})) c.index-listed-index.result
    (item_there c.args.listed.now c.args.index c.index-listed-index.result c.requires c.index-listed-index.is) begins
