-- The bodies of a core are those of the functions that its unit defines.
use Rattle.std.proofs.Common.{◌≡◌, ℕ, true, List, [], ◌∷◌, ◌++◌, map, Ok, IfOk, refl, sym, ap, subst, ◌∙◌, append_assoc, append-nil}
use Rattle.std.proofs.lemmas.List.{map-append}
use Rattle.c_syntax_spec.specs.Unit as tree
use Rattle.c_types_spec.specs.Types.{CType}
use Rattle.c_types_spec.specs.Core.{Body}
use Rattle.c_types_spec.specs.Names.{State, start, open_block, close_block, start_function, start_body}
use Rattle.c_types_spec.specs.Declarations.{function}
use Rattle.c_types_spec.specs.Expressions.{specifiers, pointers_to}
use Rattle.c_types_spec.specs.Statements.{parts}
use Rattle.c_types_spec.specs.Units.{parameters, signature_of, context_of, defined_function, is_typedef, globals, external_declaration, external_declarations, typed}
use Rattle.c_types_laws.proofs.Results.{if_bind, if_more, if_any}
use Rattle.c_types_laws.specs.Statements.{defined_by, defined, bodies, AreDefined}

abbrev named : List Body → List (List ℕ)
named list = map (λ (body : Body). body.name) list

-- a body has the name of its declarator
defined_function-name : (given : tree.FunctionDeclarator) (base : CType) (body : tree.Parts) (close : ℕ) (st : State) → IfOk (defined_function given base body close st) (λ made. made.0.name ≡ given.name.spelling)
unfolding defined_function
defined_function-name given base body close st =
    let begun = start_function (open_block st) in
    let result = pointers_to given.pointers base in
    let Is : Body × State → Type 0 = λ made. made.0.name ≡ given.name.spelling in
    if_bind Is Is _ (λ made. Ok (made.0, close_block made.1))
    (if_bind (λ _. Unit {0}) Is (parameters given.parameters true [] begun) _ (if_any _)
    (λ types _.
    let signature = signature_of types.0 result in
    if_bind (λ _. Unit {0}) Is (function given.name signature true types.1) _ (if_any _)
    (λ declared _.
    if_bind (λ _. Unit {0}) Is (parts body (context_of signature body) [] (start_body declared.1)) _ (if_any _)
    (λ made _. refl))))
    (λ made k. k)

-- the bodies after those so far
abbrev Adds : List Body → List (List ℕ) → List Body × State → Type 0
Adds done names made = named made.0 ≡ named done ++ names

external_declaration-adds : (item : tree.ExternalDeclaration) (done : List Body) (st : State) → IfOk (external_declaration item done st) (Adds done (defined_by item))
unfolding external_declaration
external_declaration-adds tree.EmptyDeclaration done st = sym (append-nil (named done))
external_declaration-adds (tree.Declaration words list) done st =
    if_bind (λ _. Unit {0}) (Adds done []) (specifiers words st) _ (if_any _)
    (λ base _. if_bind (λ _. Unit {0}) (Adds done []) (globals list base.0 (is_typedef words) base.1) _ (if_any _)
    (λ made _. sym (append-nil (named done))))
external_declaration-adds (tree.Definition words given body close) done st =
    if_bind (λ _. Unit {0}) (Adds done (given.name.spelling ∷ [])) (specifiers words st) _ (if_any _)
    (λ base _. if_bind (λ made. made.0.name ≡ given.name.spelling) (Adds done (given.name.spelling ∷ [])) (defined_function given base.0 body close base.1) _ (defined_function-name given base.0 body close base.1)
    (λ made e. map-append (λ (body : Body). body.name) done (made.0 ∷ []) ∙ ap (λ name. named done ++ name ∷ []) e))

external_declarations-adds : (unit : tree.TranslationUnit) (done : List Body) (st : State) → IfOk (external_declarations unit done st) (Adds done (defined unit))
unfolding external_declarations
external_declarations-adds [] done st = sym (append-nil (named done))
external_declarations-adds (first ∷ rest) done st =
    if_bind (Adds done (defined_by first)) (Adds done (defined (first ∷ rest))) (external_declaration first done st) _ (external_declaration-adds first done st)
    (λ made e. if_more (Adds made.0 (defined rest)) (Adds done (defined (first ∷ rest))) (external_declarations rest made.0 made.1) (external_declarations-adds rest made.0 made.1)
    (λ end f. f ∙ ap (λ names. names ++ defined rest) e ∙ append_assoc (named done) (defined_by first) (defined rest)))

typed-bodies : (unit : tree.TranslationUnit) → IfOk (typed unit) (λ core. bodies core ≡ defined unit)
unfolding typed
typed-bodies unit =
    if_bind (Adds [] (defined unit)) (λ core. bodies core ≡ defined unit) (external_declarations unit [] start) _ (external_declarations-adds unit [] start) (λ made e. e)

pub are_defined : AreDefined
are_defined unit core e = subst (λ r. IfOk r (λ core. bodies core ≡ defined unit)) e (typed-bodies unit)
