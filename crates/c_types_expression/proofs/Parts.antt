-- The parts of types, and lists of them by their items.
use Rattle.std.proofs.Common.{◌≡◌, ℕ, ◌+◌, ◌<◌, List, [], ◌∷◌, length, drop, map, get_or, refl, sym, ap, ◌∙◌, subst}
use Rattle.std.specs.declared.alloc.Global.{Global}
use Rattle.std.specs.declared.boxed.Box.{Box}
use Rattle.std.proofs.lemmas.List.{drop_more, drop_all}
use Rattle.c_syntax_spec.specs.Expression as tree
use Rattle.c_syntax.specs.declared.expression.Expression.{Expression}
use Rattle.c_syntax.specs.declared.expression.Constant.{Constant, roll-out-Constant}
use Rattle.c_syntax.specs.declared.expression.Declarator.{Declarator, out-Declarator, roll-out-Declarator}
use Rattle.c_syntax.specs.declared.expression.Dimensions.{Dimensions, roll-out-Dimensions}
use Rattle.c_syntax.specs.declared.expression.Member.{Member, out-Member, roll-out-Member}
use Rattle.c_syntax.specs.declared.expression.Specifiers.{Specifiers, out-Specifiers, roll-out-Specifiers}
use Rattle.c_syntax.specs.declared.expression.TypeName.{TypeName, out-TypeName, roll-out-TypeName}
use Rattle.std.specs.Prelude.{Option, option_map, Vec}
use Rattle.c_syntax.specs.declared.expression.Name.{Name}
use Rattle.c_syntax.specs.declared.expression.TypeSpecifier.{TypeSpecifier}
use Rattle.c_syntax.specs.declared.expression.TypeSpecifier.TheVariants as made
use Rattle.c_syntax.specs.Names.{name_of, storage_of}
use Rattle.c_syntax.specs.Expressions.{expression_of, constant_before, value_in, declarator_of, dimensions_of, constant_of, member_of, specifiers_of, type_specifier_of, type_name_of, expressions_in as vec_expressions, declarators_in as vec_declarators}
use Rattle.c_syntax.proofs.Views.{Struct-view, Enum-view, Constant-struct-view, Declarator-struct-view, Dimensions-struct-view, Member-struct-view, Specifiers-struct-view, TypeName-struct-view}
use Rattle.c_types_expression.specs.Trees.{expressions_in, declarators_in, members_in, constants_in}

pub constant-parts : (x : Constant) → constant_of x ≡ (name_of x.name, value_in x.value)
constant-parts x = subst (λ z. constant_of z ≡ (name_of x.name, value_in x.value)) (roll-out-Constant x) (Constant-struct-view x.name x.value)

pub dimensions-parts : (x : Dimensions) → dimensions_of x ≡ (x.is_open, vec_expressions x.lengths)
dimensions-parts x = subst (λ z. dimensions_of z ≡ (x.is_open, vec_expressions x.lengths)) (roll-out-Dimensions x) (Dimensions-struct-view x.is_open x.lengths)

pub declarator-parts : (x : Declarator) → declarator_of x ≡ tree.Declared (out-Declarator x).pointers (name_of (out-Declarator x).name) (out-Declarator x).dimensions.value.is_open (vec_expressions (out-Declarator x).dimensions.value.lengths)
declarator-parts x =
    let d = out-Declarator x in
    subst (λ z. declarator_of z ≡ tree.Declared d.pointers (name_of d.name) (dimensions_of d.dimensions.value).0 (dimensions_of d.dimensions.value).1) (roll-out-Declarator x) (Declarator-struct-view d.pointers d.name d.dimensions)
    ∙ ap (λ array. tree.Declared d.pointers (name_of d.name) array.0 array.1) (dimensions-parts d.dimensions.value)

pub member-parts : (x : Member) → member_of x ≡ (specifiers_of (out-Member x).specifiers.value, vec_declarators (out-Member x).declarators)
member-parts x =
    let m = out-Member x in
    subst (λ z. member_of z ≡ (specifiers_of m.specifiers.value, vec_declarators m.declarators)) (roll-out-Member x) (Member-struct-view m.specifiers m.declarators)

pub specifiers-parts : (x : Specifiers) → specifiers_of x ≡ tree.Specified (storage_of (out-Specifiers x).storage) (type_specifier_of (out-Specifiers x).base.value) (out-Specifiers x).offset
specifiers-parts x =
    let s = out-Specifiers x in
    subst (λ z. specifiers_of z ≡ tree.Specified (storage_of s.storage) (type_specifier_of s.base.value) s.offset) (roll-out-Specifiers x) (Specifiers-struct-view s.storage s.base s.offset)

pub type_name-parts : (x : TypeName) → type_name_of x ≡ tree.Pointers (specifiers_of (out-TypeName x).specifiers.value) (out-TypeName x).pointers
type_name-parts x =
    let t = out-TypeName x in
    subst (λ z. type_name_of z ≡ tree.Pointers (specifiers_of t.specifiers.value) t.pointers) (roll-out-TypeName x) (TypeName-struct-view t.specifiers t.pointers)

-- ---- lists

pub expressions-more : (list : List (Box Expression Global)) (i : ℕ) (d : Box Expression Global) → i < length list → expressions_in (drop i list) ≡ tree.expressions (expression_of (get_or list i d).value) (expressions_in (drop (i + 1) list))
expressions-more list i d h = ap (λ l. expressions_in l) (drop_more list i d h)

pub declarators-more : (list : List (Box Declarator Global)) (i : ℕ) (d : Box Declarator Global) → i < length list → declarators_in (drop i list) ≡ tree.declarators (declarator_of (get_or list i d).value) (declarators_in (drop (i + 1) list))
declarators-more list i d h = ap (λ l. declarators_in l) (drop_more list i d h)

pub members-more : (list : List (Box Member Global)) (i : ℕ) (d : Box Member Global) → i < length list → members_in (drop i list) ≡ tree.members (member_of (get_or list i d).value).0 (member_of (get_or list i d).value).1 (members_in (drop (i + 1) list))
members-more list i d h = ap (λ l. members_in l) (drop_more list i d h)

pub constants-more : (list : List (Box Constant Global)) (i : ℕ) (d : Box Constant Global) → i < length list → constants_in (drop i list) ≡ constant_before (constant_of (get_or list i d).value) (constants_in (drop (i + 1) list))
constants-more list i d h = ap (λ l. constants_in l) (drop_more list i d h)

pub ruleset parts = (constant-parts, dimensions-parts, declarator-parts, member-parts, specifiers-parts, type_name-parts, expressions-more, declarators-more)

pub struct-read : (base : TypeSpecifier) (tag : Option Name) (list : Vec (Box Member Global) Global) (slice : List (Box Member Global)) → base ≡ made.Struct tag list → slice ≡ list.items → tree.Struct (option_map name_of tag) (members_in slice) ≡ type_specifier_of base
struct-read base tag list slice e s = ap (λ l. tree.Struct (option_map name_of tag) (members_in l)) s ∙ sym (ap type_specifier_of e ∙ Struct-view tag list)

pub enum-read : (base : TypeSpecifier) (tag : Option Name) (list : Vec (Box Constant Global) Global) (slice : List (Box Constant Global)) → base ≡ made.Enum tag list → slice ≡ list.items → tree.Enum (option_map name_of tag) (constants_in slice) ≡ type_specifier_of base
enum-read base tag list slice e s = ap (λ l. tree.Enum (option_map name_of tag) (constants_in l)) s ∙ sym (ap type_specifier_of e ∙ Enum-view tag list)
