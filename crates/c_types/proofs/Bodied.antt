-- No function has two bodies.
use Rattle.std.proofs.Common.{◌≡◌, ◌∙◌, ℕ, List, [], ◌∷◌, ◌++◌, refl, sym, ap, inl, inr}
use Rattle.std.specs.Prelude.{Result, Ok, Err, Option, Some, None, bytes_eq, find, option_map}
use Rattle.std.specs.Borrow.{Bor}
use Rattle.std.specs.Map.{lookup}
use Rattle.std.proofs.lemmas.Bool.{cases_Bool}
use Rattle.std.proofs.lemmas.Option.{none-some}
use Rattle.c_syntax_spec.specs.Expression.{Specifiers}
use Rattle.c_syntax_spec.specs.Unit as tree
use Rattle.c_types_spec.specs.Types.{CType}
use Rattle.c_types_spec.specs.Core as core
use Rattle.c_types_spec.specs.Names.{Fault, State, start, bind}
use Rattle.c_types_spec.specs.Expressions.{specifiers}
use Rattle.c_types_spec.specs.Units.{defined_function, external_declaration, external_declarations}
use Rattle.c_types_laws.proofs.Scopes.{Each}
use Rattle.c_types_laws.proofs.Units.{new_body}
use Rattle.c_types.specs.declared.typed.Body.{Body}
use Rattle.c_types.specs.Typed.{bodies_of, body_in, body_of_name}
use Rattle.c_types.specs.Reached.{IsReached}
use Rattle.c_types.proofs.Lookups.{body-found, same-bytes}

same_made : {A B : Type 0} (r : Result (A × B) Fault) → bind r (λ made. Ok (made.0, made.1)) ≡ r
same_made (Ok made) = refl
same_made (Err fault) = refl

by_first : (rest : tree.TranslationUnit) (x : tree.ExternalDeclaration) (r : Result (List core.Body × State) Fault)
    → ((made : List core.Body × State) → external_declarations (rest ++ x ∷ []) made.0 made.1 ≡ bind (external_declarations rest made.0 made.1) (λ more. external_declaration x more.0 more.1))
    → bind r (λ made. external_declarations (rest ++ x ∷ []) made.0 made.1) ≡ bind (bind r (λ made. external_declarations rest made.0 made.1)) (λ more. external_declaration x more.0 more.1)
by_first rest x (Ok made) h = h made
by_first rest x (Err fault) h = refl

declared_more : (unit : tree.TranslationUnit) (x : tree.ExternalDeclaration) (done : List core.Body) (st : State)
    → external_declarations (unit ++ x ∷ []) done st ≡ bind (external_declarations unit done st) (λ more. external_declaration x more.0 more.1)
unfolding external_declarations
declared_more [] x done st = same_made (external_declaration x done st)
declared_more (first ∷ rest) x done st = by_first rest x (external_declaration first done st) (λ made. declared_more rest x made.0 made.1)

pub reached_none : (bodies : List core.Body) (st : State) → bodies ≡ [] → st ≡ start → IsReached bodies st
unfolding external_declarations
reached_none bodies st none first = ([], ap (λ s. Ok ([], s)) (sym first) ∙ ap (λ l. Ok (l, st)) (sym none))

pub reached_more : (bodies : List core.Body) (st : State) (x : tree.ExternalDeclaration) (more : List core.Body) (after : State) → IsReached bodies st → external_declaration x bodies st ≡ Ok (more, after) → IsReached more after
reached_more bodies st x more after reached is = (
  reached.0 ++ x ∷ [],
  declared_more reached.0 x [] start ∙ (ap (λ r. bind r (λ made. external_declaration x made.0 made.1)) reached.1 ∙ is),
)

none_named : (bodies : List core.Body) (name : List ℕ) → Each (λ (x : core.Body). x.name ≡ name → ⊥) bodies → body_in bodies name ≡ None
none_named [] name h = refl
none_named (x ∷ bodies) name h = elim (cases_Bool (bytes_eq x.name name)) [
  | inl e ↦ absurd (h.0 (same-bytes x.name name e))
  | inr e ↦ rw e (none_named bodies name h.1)
]

-- the body that is made next is of no name so far
pub not_yet : (bodies : List core.Body) (st : State) → IsReached bodies st → (words : Specifiers) (base : CType) (here : State) → specifiers words st ≡ Ok (base, here)
    → (given : tree.FunctionDeclarator) (body : tree.Parts) (close : ℕ) (made : core.Body) (after : State) → defined_function given base body close here ≡ Ok (made, after) → body_in bodies made.name ≡ None
not_yet bodies st reached words base here e given body close made after f =
    none_named bodies made.name (new_body reached.0 bodies st reached.1 words base here e given body close made after f)

-- what is found is there
pub not_found : (entries : List (Bor (List ℕ) × Body)) (name : List ℕ) (old : Body) → body_in (bodies_of entries) name ≡ None → lookup (λ (k : Bor (List ℕ)). bytes_eq name k.now) entries ≡ Some old → ⊥
not_found entries name old none found = none-some (body_of_name name old) (sym none ∙ (sym (body-found entries name) ∙ ap (λ o. option_map (λ b. body_of_name name b) o) found))
