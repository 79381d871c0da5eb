-- What the names and tags of the program mean.
use Rattle.std.specs.Prelude.{ℕ, List, map, Option, Some, None, Vec}
use Rattle.std.specs.Borrow.{Bor}
use Rattle.std.specs.declared.alloc.Global.{Global}
use Rattle.c_types_spec.specs.Types as types
use Rattle.c_types_spec.specs.Names as names
use Rattle.c_types_layout.specs.Types.{type_of}
use Rattle.c_types_layout.specs.declared.types.CType.{CType}
use Rattle.c_types_scope.specs.declared.meaning.Signature.{Signature}
use Rattle.c_types_scope.specs.declared.meaning.Meaning.{Meaning}
use Rattle.c_types_scope.specs.declared.meaning.Meaning.TheVariants.{Local, Object, Function, Typedef, Enumerator}
use Rattle.c_types_scope.specs.declared.meaning.Tag.{Tag}
use Rattle.c_types_scope.specs.declared.meaning.Tag.TheVariants.{Struct, Enum}
use Rattle.c_types_scope.specs.Scopes.{Kept}

abbrev pub types_in : Vec CType Global → List types.CType
types_in list = map type_of list.items

abbrev pub signature_of : Signature → names.Signature
signature_of signature = record { parameters = types_in signature.parameters; result = type_of signature.returned }

abbrev pub meaning_of : Meaning → names.Meaning
meaning_of (Local number type) = names.Local number (type_of type)
meaning_of (Object type) = names.Object (type_of type)
meaning_of (Function signature has_body) = names.Function (signature_of signature.value) has_body
meaning_of (Typedef type) = names.Typedef (type_of type)
meaning_of (Enumerator value) = names.Enumerator value

abbrev pub tag_of : Tag → names.Tag
tag_of (Struct number) = names.StructTag number
tag_of (Enum scalar) = names.EnumTag scalar

-- of a name that may be hidden
abbrev pub seen_meaning : Option Meaning → names.Meaning
seen_meaning None = names.Hidden
seen_meaning (Some meaning) = meaning_of meaning

abbrev pub seen_tag : Option Tag → names.Tag
seen_tag None = names.HiddenTag
seen_tag (Some tag) = tag_of tag

-- scopes with what each name means in another form
abbrev pub scope_by : {M N : Type 0} → (M → N) → List (List ℕ × M) → List (List ℕ × N)
scope_by seen scope = map (λ entry. (entry.0, seen entry.1)) scope

abbrev pub scopes_by : {M N : Type 0} → (Option M → N) → Kept M → names.Scopes N
scopes_by seen kept = record { file = scope_by seen kept.0; blocks = map (λ block. scope_by seen block) kept.1 }
