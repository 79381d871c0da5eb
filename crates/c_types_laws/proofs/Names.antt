-- What names, tags and constants give, and what enumeration constants change.
use Rattle.std.proofs.Common.{◌≡◌, ℕ, ℤ, pos, Bool, true, false, List, [], ◌∷◌, ◌++◌, Option, Some, None, IfSome, IfOk, IsTrue, not, is_some, slice_get, bytes_eq, refl, sym, subst, ◌∙◌}
use Rattle.std.proofs.lemmas.Option.{none-some}
use Rattle.c_token_spec.specs.Words.{entry_of}
use Rattle.c_token_spec.specs.declared.token.NumberType.{NumberType}
use Rattle.c_syntax_spec.specs.Expression.{Name}
use Rattle.c_types_spec.specs.declared.Scalar.{Scalar}
use Rattle.c_types_spec.specs.declared.TypeFaultKind.{TypeFaultKind}
use Rattle.c_types_spec.specs.declared.TypeFaultKind.TheVariants.{Twice, Mismatch}
use Rattle.c_types_spec.specs.Types.{CType, Integer, Struct, Structs, Layout, size_of, alignment_of, with_member, is_large, padded, is_wide, Undefined, Unfinished, number_scalar, int}
use Rattle.c_types_spec.specs.Values.{converted, is_of}
use Rattle.c_types_spec.specs.Names.{Meaning, Local, Object, Function, Typedef, Enumerator, Hidden, Tag, StructTag, EnumTag, HiddenTag, put, declared, in_scope, in_innermost, State, declare, faults_at}
use Rattle.c_types_spec.specs.Declarations.{named_by, mentioned, named, not_wide, number_operand, typedef_by, typedef_named, struct_by, struct_named, enum_by, enum_named, begun_by, struct_begun, is_undefined, enum_scalar, new_tag, tag_declared, enum_finished, enumerator, is_declared, member, member_faults, layout_fits, sized_member}
use Rattle.c_types_spec.specs.Operands.{Category, Value, InLocal, InMemory}
use Rattle.c_types_spec.specs.HasType.{Scope}
use Rattle.c_types_spec.specs.HasType as typing
use Rattle.c_types_laws.proofs.Results.{if_bind, if_test}
use Rattle.c_types_laws.proofs.Values.{is_of-converted}
use Rattle.c_types_laws.proofs.Scopes.{Each, each_append, in_scope-each, each_put, put_other, bytes_eq-same}
use Rattle.c_types_laws.proofs.States.{IsScalar, IsInner, IsOuter, IsTag, AreInner, AreOuter, Holds, Means, in_scope-means, Known, known_itself, begins_itself, Stays, stays_mentions, Covers, each_get}
use Rattle.c_types_laws.proofs.Operands.{IsOperand}
use Rattle.c_types_laws.proofs.Types.{IsCType, Small, small_if, number_scalar-is, is_integer, IsSmallMember, IsSmallLayout, AreSmall, max_alignment, alignment_of-is}
use Rattle.c_types_laws.proofs.Readings.{Reads, Always, Anything, reads_by, reads_give, reads_then, reads_after, Makes, MakesTo, Any, makes_by, makes_give, makes_refuse, makes_state, makes_then, makes_after, makes_check, makes_new_struct, makes_define_struct, makes_declare_tag, faults_at-none, if_check}

-- a type that is not wide is narrow
pub not_wide-small : (type : CType) (offset : ℕ) → IsCType type → IfOk (not_wide type offset) (λ t. Small type × (t ≡ type))
not_wide-small type offset is = if_test (λ t. Small type × (t ≡ type)) (is_wide type) _ _ (λ e. tt) (λ e. (small_if type is e, refl))

-- ---- names in expressions

module _ (target : Option Scalar) where
  named_by-typed : (st : State) (holds : Holds st) (scope : Scope) (first : ℕ) (covers : Covers scope first st) (name : Name) (o : Option Meaning) → IfSome o (Means st name.spelling) → IfOk (named_by o name) (IsOperand scope target)
  named_by-typed st holds scope first covers name (Some (Local number type)) h =
      let is = each_get IsScalar st.locals number type holds.scalars h in
      ((is.0, is.1, covers.locals_are number type is.0 h is.1), is.2)
  named_by-typed st holds scope first covers name (Some (Object type)) h = (typing.global_address name.spelling (covers.objects_are name.spelling type h.0), h.1)
  named_by-typed st holds scope first covers name (Some (Function signature has_body)) h = tt
  named_by-typed st holds scope first covers name (Some (Typedef type)) h = tt
  named_by-typed st holds scope first covers name (Some (Enumerator value)) h = (typing.constant int (converted int value) refl (is_of-converted int value), refl)
  named_by-typed st holds scope first covers name (Some Hidden) h = tt
  named_by-typed st holds scope first covers name None h = tt

  mentioned-reads : (H : Scope → Type 0) (category : Category) (name : List ℕ) → Reads H Anything (mentioned category name)
  mentioned-reads H (InMemory address displacement) name = record { from = λ st holds. (stays_mentions st (st.mentions ++ name ∷ []) holds, λ scope first covers h. tt) }
  mentioned-reads H (InLocal local) name = reads_give H Anything _ (λ scope h. tt)
  mentioned-reads H (Value core) name = reads_give H Anything _ (λ scope h. tt)

  pub named-reads : (name : Name) → Reads Always (λ scope x. IsOperand scope target x) (named name)
  unfolding named
  named-reads name =
      reads_then (reads_by Always (λ scope y. IsOperand scope target y) _ (λ st holds scope first covers h. named_by-typed st holds scope first covers name (in_scope st.names name.spelling) (in_scope-means st name.spelling holds)))
      (λ x. reads_after (mentioned-reads _ x.category name.spelling) (reads_give _ (λ scope y. IsOperand scope target y) x (λ scope h. h.1)))

  pub number_operand-typed : (scope : Scope) (value : ℕ) (type : NumberType) (offset : ℕ) → IfOk (number_operand value type offset) (IsOperand scope target)
  unfolding number_operand
  number_operand-typed scope value type offset =
      if_bind (λ t. Small (Integer (number_scalar type)) × (t ≡ Integer (number_scalar type))) (IsOperand scope target) (not_wide (Integer (number_scalar type)) offset) _ (not_wide-small (Integer (number_scalar type)) offset (number_scalar-is type))
      (λ t narrow. (typing.constant (number_scalar type) (converted (number_scalar type) (pos value)) narrow.0 (is_of-converted (number_scalar type) (pos value)), narrow.0))

-- ---- types by name

pub typedef_named-makes : (name : Name) → Makes IsCType (typedef_named name)
unfolding typedef_named
typedef_named-makes name = makes_by IsCType _ (λ st holds. by_meaning st (in_scope st.names name.spelling) (in_scope-means st name.spelling holds))
  where
    by_meaning : (st : State) (o : Option Meaning) → IfSome o (Means st name.spelling) → IfOk (typedef_by o name) IsCType
    by_meaning st (Some (Typedef type)) h = h
    by_meaning st o h = tt

struct_by-makes : (o : Option Tag) (tag : Name) → Makes IsCType (struct_by o tag)
struct_by-makes (Some (StructTag number)) tag = makes_give IsCType (Struct number) tt
struct_by-makes (Some (EnumTag type)) tag = makes_refuse IsCType _ _
struct_by-makes (Some HiddenTag) tag = makes_refuse IsCType _ _
struct_by-makes None tag = makes_then (makes_new_struct Undefined tt) (λ number _. makes_after (makes_declare_tag tag.spelling (StructTag number) tt) (makes_give IsCType (Struct number) tt))

pub struct_named-makes : (tag : Name) → Makes IsCType (struct_named tag)
unfolding struct_named
struct_named-makes tag = makes_state IsCType (λ st. struct_by (in_scope st.tags tag.spelling) tag) (λ st holds. struct_by-makes (in_scope st.tags tag.spelling) tag)

pub enum_named-makes : (tag : Name) → Makes IsCType (enum_named tag)
unfolding enum_named
enum_named-makes tag = makes_by IsCType _ (λ st holds. by_tag (in_scope st.tags tag.spelling) (in_scope-each IsTag st.tags tag.spelling holds.file_tags holds.block_tags))
  where
    by_tag : (o : Option Tag) → IfSome o IsTag → IfOk (enum_by o tag) IsCType
    by_tag (Some (EnumTag type)) h = h
    by_tag (Some (StructTag number)) h = tt
    by_tag (Some HiddenTag) h = tt
    by_tag None h = tt

begun_by-makes : (o : Option Tag) (tag : Name) → Makes Any (begun_by o tag)
begun_by-makes (Some (StructTag number)) tag =
    makes_after (makes_check tag.offset (λ st. (not (is_undefined (slice_get st.structs number)), Twice) ∷ [])) (makes_after (makes_define_struct number Unfinished tt) (makes_give Any number tt))
begun_by-makes (Some (EnumTag type)) tag = makes_refuse Any _ _
begun_by-makes (Some HiddenTag) tag = makes_refuse Any _ _
begun_by-makes None tag = makes_then (makes_new_struct Unfinished tt) (λ number _. makes_after (makes_declare_tag tag.spelling (StructTag number) tt) (makes_give Any number tt))

pub struct_begun-makes : (tag : Option Name) → Makes Any (struct_begun tag)
unfolding struct_begun
struct_begun-makes None = makes_new_struct Unfinished tt
struct_begun-makes (Some tag) = makes_state Any (λ st. begun_by (in_innermost st.tags tag.spelling) tag) (λ st holds. begun_by-makes (in_innermost st.tags tag.spelling) tag)

pub new_tag-makes : (tag : Option Name) → Makes Any (new_tag tag)
unfolding new_tag
new_tag-makes None = makes_give Any _ tt
new_tag-makes (Some tag) = makes_check tag.offset (λ st. (is_some (in_innermost st.tags tag.spelling), Twice) ∷ [])

enum_scalar-is : (is_negative : Bool) → IsTrue (is_integer (enum_scalar is_negative))
enum_scalar-is true = refl
enum_scalar-is false = refl

tag_declared-makes : (tag : Option Name) (meaning : Tag) → IsTag meaning → Makes Any (tag_declared tag meaning)
tag_declared-makes None meaning h = makes_give Any _ tt
tag_declared-makes (Some tag) meaning h = makes_declare_tag tag.spelling meaning h

pub enum_finished-makes : (tag : Option Name) (is_negative : Bool) → Makes IsCType (enum_finished tag is_negative)
unfolding enum_finished
enum_finished-makes tag is_negative =
    makes_after (new_tag-makes tag) (makes_after (tag_declared-makes tag (EnumTag (enum_scalar is_negative)) (enum_scalar-is is_negative)) (makes_give IsCType (Integer (enum_scalar is_negative)) (enum_scalar-is is_negative)))

-- a member, whose type is narrow
pub member-small : (structs : Structs) (layout : Layout) (name : Name) (type : CType) → AreSmall structs → IsCType type → IsSmallLayout layout → IfOk (member structs layout name type) IsSmallLayout
unfolding member
member-small structs layout name type sound is small =
    if_bind (λ _. Each (λ (test : Bool × TypeFaultKind). test.0 ≡ false) (member_faults structs layout name type)) IsSmallLayout (faults_at name.offset (member_faults structs layout name type)) _
    (faults_at-none name.offset (member_faults structs layout name type))
    (λ x none. by_size (size_of structs type) (small_if type is none.1.1.1.0))
  where
    fits : (now : Layout) → IsSmallLayout now → IfOk (layout_fits now name.offset) IsSmallLayout
    fits now h = if_test IsSmallLayout (is_large (Some (padded now))) _ _ (λ e. tt) (λ e. h)

    by_size : (o : Option ℕ) → Small type → IfOk (sized_member structs layout name type o) IsSmallLayout
    by_size (Some size) narrow = fits (with_member layout name.spelling type size (alignment_of structs type))
        (each_append IsSmallMember layout.members (_ ∷ []) small.0 (narrow, tt), max_alignment layout.alignment (alignment_of structs type) small.1 (alignment_of-is structs type sound narrow))
    by_size None narrow = tt

-- ---- a name that is declared anew

-- a name that is not in the file scope changes nothing that is known
pub known_new : (file : List (List ℕ × Meaning)) (name : List ℕ) (m : Meaning) → entry_of file name ≡ None → Known file (put name m file)
known_new file name m none = record {
  objects = λ other type e. (type, kept other (Object type) e);
  functions = λ other signature has_body e. (has_body, kept other (Function signature has_body) e, λ h. h);
}
  where
    by_test : (other : List ℕ) (old : Meaning) → entry_of file other ≡ Some old → (b : Bool) → bytes_eq name other ≡ b → entry_of (put name m file) other ≡ Some old
    by_test other old e true same = absurd (none-some old (sym (subst (λ n. entry_of file n ≡ None) (bytes_eq-same name other same) none) ∙ e))
    by_test other old e false differ = put_other name other m file differ ∙ e

    kept : (other : List ℕ) (old : Meaning) → entry_of file other ≡ Some old → entry_of (put name m file) other ≡ Some old
    kept other old e = by_test other old e (bytes_eq name other) refl

not_some : {A : Type 0} (o : Option A) → is_some o ≡ false → o ≡ None
not_some None e = refl
not_some (Some x) e = absurd (cc)

-- what the innermost scope takes: in a block a name of a block, in the file scope one of that
abbrev pub IsEither : State → Meaning → Type 0
IsEither st m = IsInner st.locals m × IsOuter m

pub declared-stays : (st : State) (name : List ℕ) (m : Meaning) → Holds st → IsEither st m → is_some (in_innermost st.names name) ≡ false → Stays st (record st { names = declared name m st.names })
declared-stays st name m holds is new = by_blocks st.names.file st.names.blocks refl holds.outer holds.inner new
  where
    by_blocks : (file : List (List ℕ × Meaning)) (blocks : List (List (List ℕ × Meaning))) → st.names ≡ record { file = file; blocks = blocks } → AreOuter file → Each (AreInner st.locals) blocks
        → is_some (in_innermost (record { file = file; blocks = blocks }) name) ≡ false
        → Stays (record st { names = record { file = file; blocks = blocks } }) (record st { names = declared name m (record { file = file; blocks = blocks }) })
    by_blocks file [] e outer inner none =
        let none_yet : entry_of file name ≡ None = not_some (entry_of file name) none in
        record {
          grows = record {
            more_locals = begins_itself st.locals;
            more_results = begins_itself st.results;
            depth = refl;
            known = known_new file name m none_yet;
            holds = record { outer = each_put IsOuter name m file is.1 outer; inner = tt; scalars = holds.scalars; others = holds.others; file_tags = holds.file_tags; block_tags = holds.block_tags; small_structs = holds.small_structs };
          };
          same_locals = refl;
          same_results = refl;
          same_loops = refl;
          same_calls = refl;
        }
    by_blocks file (block ∷ blocks) e outer inner none =
        record {
          grows = record {
            more_locals = begins_itself st.locals;
            more_results = begins_itself st.results;
            depth = refl;
            known = known_itself file;
            holds = record { outer = outer; inner = ((is.0, inner.0), inner.1); scalars = holds.scalars; others = holds.others; file_tags = holds.file_tags; block_tags = holds.block_tags; small_structs = holds.small_structs };
          };
          same_locals = refl;
          same_results = refl;
          same_loops = refl;
          same_calls = refl;
        }

pub enumerator-makes : (name : Name) (value : ℤ) → Makes Any (enumerator name value)
unfolding enumerator
enumerator-makes name value = record {
  makes = λ st holds. if_check (MakesTo Any st) name.offset (λ now. (is_declared now name, Twice) ∷ (not (is_of int value), Mismatch) ∷ []) (declare name.spelling (Enumerator value)) st
      (λ none. (declared-stays st name.spelling (Enumerator value) holds (tt, tt) none.0, tt));
}
