use Rattle.std.proofs.Common.{◌≡◌, List, [], ◌∷◌, ◌++◌, None, sym, ◌∙◌, ap, subst}
use Rattle.std.specs.Prelude.{Result, Ok}
use Rattle.c_types_spec.specs.Core as core
use Rattle.c_types_spec.specs.Names.{Fault}
use Rattle.c_types.specs.declared.typed.Body.{Body}
use Rattle.c_types.specs.Typed.{bodies_of, body_in, body_of}
use Rattle.c_types.proofs.Bodied.{not_found}
use Rattle.c_types.proofs.Lookups.{body-added}
use Rattle.c_types.proofs.unit.push_body.Goals as goal

pub returns-in-Ok-None : goal.returns-in-Ok-None
returns-in-Ok-None c =
    let old = c.args.bodies.now.entries in
    let body = c.into_inner-body.result in
    let with_body : Body → Result (List core.Body) Fault = λ b. Ok (bodies_of old ++ body_of b ∷ []) in
    let made : List core.Body → Result (List core.Body) Fault = λ l. Ok l in
    ap with_body (sym c.into_inner-body.ensures)
    ∙ ap made (sym (ap bodies_of c.in-Ok-None.ensures.entries ∙ body-added body.name body old (sym c.in-Ok-None.ensures.old ∙ c.in-Ok-None.field-0-is)))

pub unreachable-requires : goal.unreachable-requires
unreachable-requires c =
    not_found c.args.bodies.now.entries c.into_inner-body.result.name.now _ (subst (λ (b : Body). body_in (bodies_of c.args.bodies.now.entries) b.name.now ≡ None) (sym c.into_inner-body.ensures) c.requires)
    (sym c.in-Ok-Some.ensures.old ∙ c.in-Ok-Some.field-0-is)
