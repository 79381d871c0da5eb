-- What is expected after the parts of types.
use Rattle.std.proofs.Common.{◌≡◌, true, false, List, [], ◌∷◌, map, sym, ap, ◌∙◌, subst, refl, length, arith, Some, None}
use Rattle.std.specs.declared.alloc.Global.{Global}
use Rattle.std.specs.declared.boxed.Box.{Box}
use Rattle.std.specs.Option.{option_map_or}
use Rattle.c_syntax_spec.specs.Expression as tree
use Rattle.c_parse_spec.specs.declared.Role.TheVariants.{Nothing, OperandEnd, MemberEnd}
use Rattle.c_parse_spec.specs.Expressions as grammar
use Rattle.c_parse_laws.specs.Types as types
use Rattle.c_syntax.specs.declared.expression.Expression.{Expression}
use Rattle.c_syntax.specs.declared.expression.Constant.{Constant, roll-out-Constant}
use Rattle.c_syntax.specs.declared.expression.Declarator.{Declarator, out-Declarator, roll-out-Declarator}
use Rattle.c_syntax.specs.declared.expression.Dimensions.{Dimensions, roll-out-Dimensions}
use Rattle.c_syntax.specs.Names.{name_of}
use Rattle.c_syntax.specs.Expressions.{expression_of, expressions_of, expressions_in, value_in, declarator_of, dimensions_of, constant_of}
use Rattle.c_syntax.proofs.Views.{Constant-struct-view, Declarator-struct-view, Dimensions-struct-view}

constant-parts : (x : Constant) → constant_of x ≡ (name_of x.name, value_in x.value)
constant-parts x = subst (λ z. constant_of z ≡ (name_of x.name, value_in x.value)) (roll-out-Constant x) (Constant-struct-view x.name x.value)

pub end-valued : (x : Constant) (value : Box Expression Global) → x.value ≡ Some value → OperandEnd ≡ types.constant_end (constant_of x)
end-valued x value is = sym (ap types.constant_end (constant-parts x) ∙ ap (λ v. option_map_or (λ _. OperandEnd) (value_in v) Nothing) is)

pub end-plain : (x : Constant) → x.value ≡ None → Nothing ≡ types.constant_end (constant_of x)
end-plain x is = sym (ap types.constant_end (constant-parts x) ∙ ap (λ v. option_map_or (λ _. OperandEnd) (value_in v) Nothing) is)

array-parts : (x : Dimensions) → dimensions_of x ≡ (x.is_open, expressions_in x.lengths)
array-parts x = subst (λ z. dimensions_of z ≡ (x.is_open, expressions_in x.lengths)) (roll-out-Dimensions x) (Dimensions-struct-view x.is_open x.lengths)

declarator-parts : (x : Declarator) → declarator_of x ≡ tree.Declared (out-Declarator x).pointers (name_of (out-Declarator x).name) (out-Declarator x).dimensions.value.is_open (expressions_in (out-Declarator x).dimensions.value.lengths)
declarator-parts x =
    let d = out-Declarator x in
    subst (λ z. declarator_of z ≡ tree.Declared d.pointers (name_of d.name) (dimensions_of d.dimensions.value).0 (dimensions_of d.dimensions.value).1) (roll-out-Declarator x) (Declarator-struct-view d.pointers d.name d.dimensions)
    ∙ ap (λ array. tree.Declared d.pointers (name_of d.name) array.0 array.1) (array-parts d.dimensions.value)

-- by the lengths of an array
pub end-open : (x : Declarator) (array : Dimensions) → array ≡ (out-Declarator x).dimensions.value → array.is_open ≡ true → Nothing ≡ grammar.member_end (declarator_of x)
end-open x array same is =
    let d = out-Declarator x in
    sym (ap grammar.member_end (declarator-parts x) ∙ ap (λ a. grammar.member_end (tree.Declared d.pointers (name_of d.name) a.is_open (expressions_in a.lengths))) (sym same) ∙ ap (λ left_out. grammar.member_end (tree.Declared d.pointers (name_of d.name) left_out (expressions_in array.lengths))) is)

pub end-simple : (x : Declarator) (array : Dimensions) → array ≡ (out-Declarator x).dimensions.value → array.is_open ≡ false → length array.lengths.items ≡ 0 → MemberEnd ≡ grammar.member_end (declarator_of x)
end-simple x array same is none =
    let d = out-Declarator x in
    sym (ap grammar.member_end (declarator-parts x) ∙ ap (λ a. grammar.member_end (tree.Declared d.pointers (name_of d.name) a.is_open (expressions_in a.lengths))) (sym same) ∙ ap (λ left_out. grammar.member_end (tree.Declared d.pointers (name_of d.name) left_out (expressions_in array.lengths))) is
    ∙ by_items array.lengths.items none)
  where
    by_items : (lengths : List (Box Expression Global)) → length lengths ≡ 0 → grammar.member_end (tree.Declared (out-Declarator x).pointers (name_of (out-Declarator x).name) false (expressions_of (map expression_of (map (λ b. b.value) lengths)))) ≡ MemberEnd
    by_items [] none = refl
    by_items (x ∷ rest) none = absurd (omega arith)

pub end-array : (x : Declarator) (array : Dimensions) → array ≡ (out-Declarator x).dimensions.value → array.is_open ≡ false → (length array.lengths.items ≡ 0 → ⊥) → Nothing ≡ grammar.member_end (declarator_of x)
end-array x array same is some =
    let d = out-Declarator x in
    sym (ap grammar.member_end (declarator-parts x) ∙ ap (λ a. grammar.member_end (tree.Declared d.pointers (name_of d.name) a.is_open (expressions_in a.lengths))) (sym same) ∙ ap (λ left_out. grammar.member_end (tree.Declared d.pointers (name_of d.name) left_out (expressions_in array.lengths))) is
    ∙ by_items array.lengths.items some)
  where
    by_items : (lengths : List (Box Expression Global)) → (length lengths ≡ 0 → ⊥) → grammar.member_end (tree.Declared (out-Declarator x).pointers (name_of (out-Declarator x).name) false (expressions_of (map expression_of (map (λ b. b.value) lengths)))) ≡ Nothing
    by_items [] some = absurd (some refl)
    by_items (x ∷ rest) some = refl
