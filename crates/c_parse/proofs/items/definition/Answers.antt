use Rattle.std.proofs.Common.{◌∙◌, ℕ, sym, ap, Ok}
use Rattle.std.specs.Prelude.{Vec}
use Rattle.std.specs.declared.alloc.Global.{Global}
use Rattle.std.specs.declared.boxed.Box.{Box}
use Rattle.c_syntax_spec.specs.Unit as tree
use Rattle.exact_read.specs.Grammar.{bind}
use Rattle.c_parse_laws.specs.Units.{Read, read_body}
use Rattle.c_syntax.specs.declared.statement.Part.{Part}
use Rattle.c_syntax.specs.declared.unit.ExternalDeclaration.{ExternalDeclaration}
use Rattle.c_syntax.specs.Expressions.{specifiers_of}
use Rattle.c_syntax.specs.Statements.{parts_in}
use Rattle.c_syntax.specs.Units.{function_of, external_declaration_of}
use Rattle.c_parse_token.specs.Lists.{list_of, names_of}
use Rattle.c_parse_token.proofs.Errors.{gives-from}
use Rattle.c_parse.specs.Following.{read_block}
use Rattle.c_parse.proofs.Bodies.{body-same}
use Rattle.c_parse.proofs.items.definition.Goals as goal

pub returns-clause-gives : goal.returns-clause-gives
returns-clause-gives c =
    let names = names_of c.args.names.now in
    let tokens = list_of c.args.tokens.now.rest.now in
    let specifiers = specifiers_of c.args.specifiers.value in
    let function = function_of c.args.declarator.value in
    let whole = read_body names specifiers function tokens in
    gives-from (read_block names tokens) whole (λ (body : Vec Part Global × ℕ). (parts_in body.0, body.1)) (λ (x : Box ExternalDeclaration Global). (external_declaration_of x.value, names)) _ c.in-Err-attempt.field-0
    (λ fault e. body-same names specifiers function tokens ∙ ap (λ o. bind {Y = Read} o (λ body after. Ok ((tree.Definition specifiers function body.0 body.1, names), after))) e) c.in-Err-attempt.ensures.gives

pub returns-3-clause-gives : goal.returns-3-clause-gives
returns-3-clause-gives c =
    let names = names_of c.args.names.now in
    let tokens = list_of c.args.tokens.now.rest.now in
    let specifiers = specifiers_of c.args.specifiers.value in
    let function = function_of c.args.declarator.value in
    body-same names specifiers function tokens
    ∙ ap (λ o. bind {Y = Read} o (λ body after. Ok ((tree.Definition specifiers function body.0 body.1, names), after))) c.in-Ok-attempt.ensures.gives
    ∙ ap (λ i. Ok ((external_declaration_of i, names), list_of c.body.new.tokens.rest.now)) (sym c.in-Ok-allocated.ensures)
