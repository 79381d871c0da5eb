use Rattle.std.proofs.Common.{◌≡◌, ◌∙◌, ap, Ok, []}
use Rattle.c_parse_laws.specs.Units.{read_external_declarations}
use Rattle.c_syntax.specs.Units.{unit_of}
use Rattle.c_parse_token.specs.Lists.{list_of}
use Rattle.c_parse.proofs.Reported.{unit-found, unit-same, unit-only}
use Rattle.c_parse.proofs.parse.Goals as goal

pub returns-in-Ok-clause-found : goal.returns-in-Ok-clause-found
returns-in-Ok-clause-found c =
    let e : read_external_declarations (list_of c.args.tokens.now) ≡ Ok (unit_of c.in-Ok.read, []) = c.in-Ok.ensures.gives ∙ ap (λ t. Ok (unit_of c.in-Ok.read, list_of t)) c.in-Ok.ensures.whole in
    unit-found (list_of c.args.tokens.now) (unit_of c.in-Ok.read) e

pub returns-in-Ok-clause-same : goal.returns-in-Ok-clause-same
returns-in-Ok-clause-same c other h =
    let e : read_external_declarations (list_of c.args.tokens.now) ≡ Ok (unit_of c.in-Ok.read, []) = c.in-Ok.ensures.gives ∙ ap (λ t. Ok (unit_of c.in-Ok.read, list_of t)) c.in-Ok.ensures.whole in
    unit-same (list_of c.args.tokens.now) (unit_of c.in-Ok.read) other e h

pub returns-in-Err-clause-only : goal.returns-in-Err-clause-only
returns-in-Err-clause-only c other h = unit-only (list_of c.args.tokens.now) other c.fault_at.result h c.fault_at.ensures
