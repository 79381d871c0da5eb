use Rattle.std.proofs.Common.{arith, ◌∙◌, sym, ap, map, length}
use Rattle.std.proofs.lemmas.Bool.{eqb-true, eqb-false}
use Rattle.std.proofs.lemmas.List.{length-map}
use Rattle.std.specs.declared.alloc.Global.{Global}
use Rattle.std.specs.declared.boxed.Box.{Box}
use Rattle.c_token.specs.Pieces.{placed_of}
use Rattle.c_parse_laws.specs.Units.{read_external_declaration, read_external_declarations}
use Rattle.c_syntax.specs.declared.unit.ExternalDeclaration.{ExternalDeclaration}
use Rattle.c_syntax.specs.Expressions.{unboxed}
use Rattle.c_syntax.specs.Units.{external_declaration_of}
use Rattle.c_parse_token.specs.Lists.{list_of, names_of}
use Rattle.c_parse_token.proofs.Steps.{fewer}
use Rattle.c_parse_token.proofs.Errors.{gives-from}
use Rattle.c_parse.proofs.AllItems.{items-begun, items-more, items-error, items-done, items-joined, no-tokens}
use Rattle.c_parse.proofs.items.items.Goals as goal

pub items-init : goal.items-init
items-init c = record { going = items-begun (list_of c.args.tokens.now.rest.now) (map external_declaration_of (unboxed c.args.all.now)) (names_of c.args.names.now) (ap (λ l. map external_declaration_of (map (λ b. b.value) l)) c.requires.none) c.requires.unnamed }

pub items-preserved : goal.items-preserved
items-preserved c =
    record {
      going = items-more (read_external_declarations (list_of c.args.tokens.now.rest.now)) (map external_declaration_of (unboxed c.items.all)) (map external_declaration_of (unboxed c.push.new.self)) (names_of c.items.names) (names_of c.item.new.names) (external_declaration_of c.in-Ok-attempt.field-0.value) (list_of c.items.tokens.rest.now) (list_of c.item.new.tokens.rest.now) (items-joined c.items.all c.push.new.self c.in-Ok-attempt.field-0 c.in-Ok-allocated.ensures.items) c.items.invariant.going c.in-Ok-attempt.ensures.gives (fewer c.item.new.tokens.rest.now c.items.tokens.rest.now c.in-Ok-attempt.ensures.shorter);
    }

pub returns-in-items-clause-gives : goal.returns-in-items-clause-gives
returns-in-items-clause-gives c =
    let some = eqb-false (length c.items.tokens.rest.now) 0 (sym c.is_empty.ensures ∙ c.items-test.true) in
    let whole = read_external_declarations (list_of c.args.tokens.now.rest.now) in
    gives-from (read_external_declaration (names_of c.items.names) (list_of c.items.tokens.rest.now)) whole (λ (x : Box ExternalDeclaration Global). (external_declaration_of x.value, names_of c.item.new.names)) (λ (_ : Unit {0}). map external_declaration_of (unboxed c.items.all)) _ c.in-Err-attempt.field-0
    (items-error whole (map external_declaration_of (unboxed c.items.all)) (names_of c.items.names) (list_of c.items.tokens.rest.now) c.items.invariant.going (rw (length-map c.items.tokens.rest.now placed_of) (omega (arith, some)))) c.in-Err-attempt.ensures.gives

pub returns-clause-gives : goal.returns-clause-gives
returns-clause-gives c =
    let none = no-tokens c.items.tokens.rest.now (eqb-true (length c.items.tokens.rest.now) 0 (sym c.is_empty.ensures ∙ c.items-test.false)) in
    items-done (read_external_declarations (list_of c.args.tokens.now.rest.now)) (map external_declaration_of (unboxed c.items.all)) (names_of c.items.names) (list_of c.items.tokens.rest.now) (ap list_of none) c.items.invariant.going
