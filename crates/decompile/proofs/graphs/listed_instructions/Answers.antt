use Rattle.std.proofs.Common.{◌≡◌, ℕ, List, sym, subst, rules}
use Rattle.std.specs.Result.{IfErr}
use Rattle.std.proofs.lemmas.Result.{IfErr-weaker}
use Rattle.decompile.specs.declared.items.Item.{Item}
use Rattle.attempt.specs.declared.refusal.Refusal.{Refusal}
use Rattle.decompile.specs.declared.error.GraphFault.{GraphFault}
use Rattle.decompile.specs.Callees.{IsFirstUnlisted}
use Rattle.decompile.specs.Errors.{IsGraphError}
use Rattle.decompile.proofs.Whole.{sized}
use Rattle.decompile.proofs.Listed.{first_unlisted}
use Rattle.decompile.proofs.graphs.listed_instructions.Goals as goal

pub returns-in_err-check_callees-clause-fault : goal.returns-in_err-check_callees-clause-fault
returns-in_err-check_callees-clause-fault c =
    let are = sized c.args.image.now c.args.entry c.args.size c.in-Ok.items.items c.in-Ok.ensures.found c.requires.function in
    let unlisted : IsFirstUnlisted c.args.image.now c.args.entry c.args.size c.args.entries.now c.in-Ok.items.items c.in_err-check_callees.field-0.0 =
    subst (λ (is : List Item). IsFirstUnlisted c.args.image.now c.args.entry c.args.size c.args.entries.now is c.in_err-check_callees.field-0.0) c.as_slice.ensures.value (c.in_err-check_callees.ensures.refused c.args.image.now) in
    let same : IfErr c.from_residual.result (λ (error : Refusal GraphFault). error ≡ c.in_err-check_callees.field-0.0) = search rules in
    IfErr-weaker c.from_residual.result (λ (error : Refusal GraphFault). error ≡ c.in_err-check_callees.field-0.0)
    (λ (error : Refusal GraphFault). (maximum : ℕ) → IsGraphError c.args.image.now c.args.entry c.args.entries.now maximum error)
    (λ error is maximum. subst (λ (e : Refusal GraphFault). IsGraphError c.args.image.now c.args.entry c.args.entries.now maximum e) (sym is)
    (first_unlisted c.args.image.now c.args.entry c.args.size c.args.entries.now c.in-Ok.items.items c.requires.function are.0 are.1
    maximum c.in_err-check_callees.field-0.0 unlisted))
    same
