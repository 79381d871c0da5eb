-- Lists of trees behind pointers, one more at a time.
use Rattle.std.proofs.Common.{◌≡◌, ℕ, suc, ◌+◌, ◌<◌, ◌≤◌, List, [], ◌∷◌, ◌++◌, length, map, drop, get_or, filter_map, Option, Some, None, refl, sym, ap, ◌∙◌}
use Rattle.std.specs.Prelude.{Bool, Ok}
use Rattle.std.specs.List.{cons_option}
use Rattle.std.specs.declared.alloc.Global.{Global as Allocator}
use Rattle.std.specs.declared.boxed.Box.{Box}
use Rattle.std.proofs.lemmas.List.{drop_more, drop_all}
use Rattle.c_syntax.specs.declared.unit.Parameter.{Parameter}
use Rattle.c_syntax.specs.declared.unit.Global.{Global}
use Rattle.c_syntax.specs.declared.unit.ExternalDeclaration.{ExternalDeclaration}
use Rattle.c_syntax.specs.Units.{parameter_of, global_of, external_declaration_of}
use Rattle.c_types_spec.specs.declared.Scalar.{Scalar}
use Rattle.c_types_spec.specs.Types as types
use Rattle.c_types_spec.specs.Core.{Body}
use Rattle.c_types_spec.specs.Names.{State, bind}
use Rattle.c_types_spec.specs.Units.{declared_parameter, parameters, external_declaration, external_declarations, scalars_of}
use Rattle.c_types_layout.specs.declared.types.CType.{CType}
use Rattle.c_types_layout.specs.Types.{type_of}
use Rattle.c_types_expression.specs.Trees.{unboxed}

pub parameters-more : (list : List (Box Parameter Allocator)) (i : ℕ) (d : Box Parameter Allocator) → i < length list → map parameter_of (unboxed (drop i list)) ≡ parameter_of (get_or list i d).value ∷ map parameter_of (unboxed (drop (i + 1) list))
parameters-more list i d h = ap (λ l. map parameter_of (unboxed l)) (drop_more list i d h)

pub globals-more : (list : List (Box Global Allocator)) (i : ℕ) (d : Box Global Allocator) → i < length list → map global_of (unboxed (drop i list)) ≡ global_of (get_or list i d).value ∷ map global_of (unboxed (drop (i + 1) list))
globals-more list i d h = ap (λ l. map global_of (unboxed l)) (drop_more list i d h)

pub declarations-more : (list : List (Box ExternalDeclaration Allocator)) (i : ℕ) (d : Box ExternalDeclaration Allocator) → i < length list → map external_declaration_of (unboxed (drop i list)) ≡ external_declaration_of (get_or list i d).value ∷ map external_declaration_of (unboxed (drop (i + 1) list))
declarations-more list i d h = ap (λ l. map external_declaration_of (unboxed l)) (drop_more list i d h)

pub ruleset lists = (parameters-more, globals-more, declarations-more)

-- one more parameter, after those so far

pub parameters-row : (list : List (Box Parameter Allocator)) (i : ℕ) (item : Box Parameter Allocator) (x : Parameter) (has_body : Bool) (done : List types.CType) (st : State) → item ≡ get_or list i item → x ≡ item.value → i < length list
    → parameters (map parameter_of (unboxed (drop i list))) has_body done st ≡ bind (declared_parameter (parameter_of x) has_body st) (λ more. parameters (map parameter_of (unboxed (drop (i + 1) list))) has_body (done ++ more.0 ∷ []) more.1)
unfolding parameters
parameters-row list i item x has_body done st is same h =
    ap (λ l. parameters l has_body done st) (parameters-more list i item h)
    ∙ ap (λ y. bind (declared_parameter (parameter_of y) has_body st) (λ more. parameters (map parameter_of (unboxed (drop (i + 1) list))) has_body (done ++ more.0 ∷ []) more.1))
    (ap (λ (b : Box Parameter Allocator). b.value) (sym is) ∙ sym same)

pub parameters-none : (list : List (Box Parameter Allocator)) (i : ℕ) (has_body : Bool) (done : List types.CType) (st : State) → length list ≤ i → parameters (map parameter_of (unboxed (drop i list))) has_body done st ≡ Ok (done, st)
unfolding parameters
parameters-none list i has_body done st h = ap (λ l. parameters (map parameter_of (unboxed l)) has_body done st) (drop_all i list h)

pub types-more : (list : List CType) (x : CType) → map type_of (list ++ x ∷ []) ≡ map type_of list ++ type_of x ∷ []
types-more [] x = refl
types-more (y ∷ list) x = ap (λ l. type_of y ∷ l) (types-more list x)

-- one more external declaration, after the bodies so far

pub declarations-row : (list : List (Box ExternalDeclaration Allocator)) (i : ℕ) (item : Box ExternalDeclaration Allocator) (x : ExternalDeclaration) (done : List Body) (st : State) → item ≡ get_or list i item → x ≡ item.value → i < length list
    → external_declarations (map external_declaration_of (unboxed (drop i list))) done st ≡ bind (external_declaration (external_declaration_of x) done st) (λ more. external_declarations (map external_declaration_of (unboxed (drop (i + 1) list))) more.0 more.1)
unfolding external_declarations
declarations-row list i item x done st is same h =
    ap (λ l. external_declarations l done st) (declarations-more list i item h)
    ∙ ap (λ y. bind (external_declaration (external_declaration_of y) done st) (λ more. external_declarations (map external_declaration_of (unboxed (drop (i + 1) list))) more.0 more.1))
    (ap (λ (b : Box ExternalDeclaration Allocator). b.value) (sym is) ∙ sym same)

pub declarations-none : (list : List (Box ExternalDeclaration Allocator)) (i : ℕ) (done : List Body) (st : State) → length list ≤ i → external_declarations (map external_declaration_of (unboxed (drop i list))) done st ≡ Ok (done, st)
unfolding external_declarations
declarations-none list i done st h = ap (λ l. external_declarations (map external_declaration_of (unboxed l)) done st) (drop_all i list h)

-- ---- types

pub types-count : (list : List CType) → length (map type_of list) ≡ length list
types-count [] = refl
types-count (x ∷ list) = ap suc (types-count list)

pub ruleset counts = (types-count)

pub scalars-more : (list : List CType) (i : ℕ) (d : CType) → i < length list
    → scalars_of (map type_of (drop i list)) ≡ cons_option (types.scalar_of (type_of (get_or list i d))) (scalars_of (map type_of (drop (i + 1) list)))
scalars-more list i d h = ap (λ l. scalars_of (map type_of l)) (drop_more list i d h)

pub scalars-none : (list : List CType) (i : ℕ) → length list ≤ i → scalars_of (map type_of (drop i list)) ≡ []
scalars-none list i h = ap (λ l. scalars_of (map type_of l)) (drop_all i list h)

scalars-first : (first : Option Scalar) (xs ys : List Scalar) → cons_option first (xs ++ ys) ≡ cons_option first xs ++ ys
scalars-first None xs ys = refl
scalars-first (Some x) xs ys = refl

pub scalars-both : (xs ys : List types.CType) → scalars_of (xs ++ ys) ≡ scalars_of xs ++ scalars_of ys
scalars-both [] ys = refl
scalars-both (x ∷ xs) ys = ap (λ l. cons_option (types.scalar_of x) l) (scalars-both xs ys) ∙ scalars-first (types.scalar_of x) (scalars_of xs) (scalars_of ys)

pub ruleset scalar_lists = (scalars-more, scalars-none, scalars-both)
