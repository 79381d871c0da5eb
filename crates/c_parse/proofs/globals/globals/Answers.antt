use Rattle.std.proofs.Common.{◌≡◌, ◌∙◌, sym, ap, map, ◌++◌, ◌∷◌, [], Ok}
use Rattle.std.specs.declared.alloc.Global.{Global}
use Rattle.std.specs.declared.boxed.Box.{Box}
use Rattle.c_syntax_spec.specs.Unit as tree
use Rattle.c_parse_spec.specs.declared.Role.{Role}
use Rattle.c_parse_spec.specs.Units.{names_after}
use Rattle.exact_read.specs.Grammar.{read_map}
use Rattle.c_parse_laws.specs.Units.{end_of_global, read_globals}
use Rattle.c_syntax.specs.declared.unit.ExternalDeclaration.{ExternalDeclaration}
use Rattle.c_syntax.specs.Expressions.{specifiers_of, unboxed}
use Rattle.c_syntax.specs.Units.{global_of, external_declaration_of}
use Rattle.c_parse_token.specs.Lists.{list_of, names_of}
use Rattle.c_parse_token.proofs.Errors.{gives-from}
use Rattle.c_parse.specs.Following.{read_value, read_globals_after}
use Rattle.c_parse.proofs.Listed.{globals-begun, globals-first_error, globals-joined}
use Rattle.c_parse.proofs.globals.globals.Goals as goal

pub returns-clause-gives : goal.returns-clause-gives
returns-clause-gives c =
    let tokens = list_of c.args.tokens.now.rest.now in
    let shared = specifiers_of c.deref-shared.result.now in
    let first = global_of c.args.first.value in
    let names = names_of c.args.names.now in
    let whole = read_globals names (specifiers_of c.args.specifiers.value) first tokens in
    let same : whole ≡ read_globals names shared first tokens = ap (λ s. read_globals names (specifiers_of s) first tokens) (sym c.deref-shared.ensures) in
    gives-from (read_map end_of_global (read_value (names_after c.is_typedef.result first names)) tokens) whole (λ (x : Role). x) (λ (x : Box ExternalDeclaration Global). (external_declaration_of x.value, names_of c.declared.new.names)) _ c.in-Err-attempt.field-0
    (λ fault e. same ∙ globals-first_error names shared c.is_typedef.result first tokens c.is_typedef.ensures fault e) c.in-Err-attempt.ensures.gives

pub returns-2-clause-gives : goal.returns-2-clause-gives
returns-2-clause-gives c =
    let tokens = list_of c.args.tokens.now.rest.now in
    let shared = specifiers_of c.deref-shared.result.now in
    let first = global_of c.args.first.value in
    let names = names_of c.args.names.now in
    let after = names_of c.declared.new.names in
    let all = map global_of (unboxed c.declared.new.all) in
    let rest = list_of c.declared.new.tokens.rest.now in
    let whole = read_globals names (specifiers_of c.args.specifiers.value) first tokens in
    let same : whole ≡ read_globals names shared first tokens = ap (λ s. read_globals names (specifiers_of s) first tokens) (sym c.deref-shared.ensures) in
    let one : all ≡ first ∷ [] = globals-joined c.new-all.result c.declared.new.all c.args.first c.in-Ok-attempt.ensures.now.1 ∙ ap (λ l. map global_of (map (λ b. b.value) l) ++ first ∷ []) c.new-all.ensures.items in
    let begun : read_globals names shared first tokens ≡ read_globals_after shared all (after, c.in-Ok-attempt.field-0) rest = globals-begun names after shared c.is_typedef.result first all c.in-Ok-attempt.field-0 tokens rest c.is_typedef.ensures c.in-Ok-attempt.ensures.now.0 one c.in-Ok-attempt.ensures.gives in
    gives-from (read_globals_after shared all (after, c.in-Ok-attempt.field-0) rest) whole (λ (_ : Unit {0}). (tree.Declaration shared (map global_of (unboxed c.more_globals.new.all)), names_of c.more_globals.new.names)) (λ (x : Box ExternalDeclaration Global). (external_declaration_of x.value, names_of c.more_globals.new.names)) _ c.in-Err-attempt-2.field-0
    (λ fault e. same ∙ begun ∙ e) c.in-Err-attempt-2.ensures.gives

pub returns-4-clause-gives : goal.returns-4-clause-gives
returns-4-clause-gives c =
    let tokens = list_of c.args.tokens.now.rest.now in
    let shared = specifiers_of c.deref-shared.result.now in
    let first = global_of c.args.first.value in
    let names = names_of c.args.names.now in
    let after = names_of c.declared.new.names in
    let all = map global_of (unboxed c.declared.new.all) in
    let rest = list_of c.declared.new.tokens.rest.now in
    let last = names_of c.more_globals.new.names in
    let left = list_of c.more_globals.new.tokens.rest.now in
    let same : read_globals names (specifiers_of c.args.specifiers.value) first tokens ≡ read_globals names shared first tokens = ap (λ s. read_globals names (specifiers_of s) first tokens) (sym c.deref-shared.ensures) in
    let one : all ≡ first ∷ [] = globals-joined c.new-all.result c.declared.new.all c.args.first c.in-Ok-attempt.ensures.now.1 ∙ ap (λ l. map global_of (map (λ b. b.value) l) ++ first ∷ []) c.new-all.ensures.items in
    let begun : read_globals names shared first tokens ≡ read_globals_after shared all (after, c.in-Ok-attempt.field-0) rest = globals-begun names after shared c.is_typedef.result first all c.in-Ok-attempt.field-0 tokens rest c.is_typedef.ensures c.in-Ok-attempt.ensures.now.0 one c.in-Ok-attempt.ensures.gives in
    same ∙ begun ∙ c.in-Ok-attempt-2.ensures.gives
    ∙ ap (λ s. Ok ((tree.Declaration (specifiers_of s) (map global_of (unboxed c.more_globals.new.all)), last), left)) c.deref-shared.ensures
    ∙ ap (λ i. Ok ((external_declaration_of i, last), left)) (sym c.in-Ok-allocated.ensures)
