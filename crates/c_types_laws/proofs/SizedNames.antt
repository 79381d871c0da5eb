-- What names, tags and constants give is of small sizes; structs are laid out below the limit.
use Rattle.std.proofs.Common.{◌≡◌, ℕ, zero, suc, ℤ, not, Bool, true, false, List, [], ◌∷◌, ◌++◌, length, Option, Some, None, IfSome, IfOk, IsTrue, slice_get, is_some, refl, sym, ap, subst, ◌∙◌, inl}
use Rattle.std.specs.List.{slice_set}
use Rattle.std.proofs.lemmas.Bool.{not-false}
use Rattle.std.proofs.lemmas.Option.{none-some, same_Some}
use Rattle.c_token_spec.specs.declared.token.NumberType.{NumberType}
use Rattle.c_syntax_spec.specs.Expression.{Name}
use Rattle.c_types_spec.specs.declared.TypeFaultKind.{TypeFaultKind}
use Rattle.c_types_spec.specs.declared.TypeFaultKind.TheVariants.{Twice, Mismatch}
use Rattle.c_types_spec.specs.Types.{CType, Integer, Struct, Structs, Definition, Undefined, Unfinished, Defined, Layout, size_of, alignment_of, with_member, is_large, padded, is_wide, number_scalar, int}
use Rattle.c_types_spec.specs.Values.{is_of}
use Rattle.c_types_spec.specs.Operands.{Category, Value, InLocal, InMemory}
use Rattle.c_types_spec.specs.Names.{Meaning, Local, Object, Function, Typedef, Enumerator, Hidden, Tag, StructTag, EnumTag, HiddenTag, in_scope, in_innermost, State, Typing, ◌>>=◌, declare, define_struct, give, ◌>>◌, declare_tag, faults_at}
use Rattle.c_types_spec.specs.Declarations.{named_by, mentioned, named, not_wide, number_operand, typedef_by, typedef_named, struct_by, struct_named, enum_by, enum_named, begun_by, struct_begun, is_undefined, enum_scalar, new_tag, tag_declared, enum_finished, enumerator, is_declared, member, member_faults, layout_fits, sized_member}
use Rattle.c_types_spec.specs.Expressions.{struct_finished}
use Rattle.c_types_laws.proofs.Results.{if_bind, if_test}
use Rattle.c_types_laws.proofs.Scopes.{Each, each_append, each_set, in_scope-each, declared-each}
use Rattle.c_types_laws.proofs.States.{IsTag, get_append, get_last}
use Rattle.c_types_laws.proofs.Types.{number_scalar-is, is_integer}
use Rattle.c_types_laws.proofs.Readings.{Any, faults_at-none, if_check}
use Rattle.c_types_laws.proofs.Sized.{is_begun, Kept, Agrees, IsSized, IsDeclared, IsLaidOut, AreParts, IsFineDefinition, AreFine, sized_complete, parts_more, not_large}
use Rattle.c_types_laws.proofs.Gauged.{IsGauged}
use Rattle.c_types_laws.proofs.Parts.{IsFineMeaning, Sound, Gives, GivesTo, gives_by, gives_give, gives_refuse, gives_state, gives_check, gives_test, gives_then, gives_after, gives_declare, gives_declare_tag, gives_new_struct, gives_mention}

-- ---- lists that are set

pub set_apart : (xs : Structs) (n i : ℕ) (new d : Definition) → (n ≡ i → ⊥) → slice_get xs i ≡ Some d → slice_get (slice_set xs n new) i ≡ Some d
set_apart [] n i new d apart e = absurd (none-some d e)
set_apart (x ∷ xs) zero zero new d apart e = absurd (apart refl)
set_apart (x ∷ xs) zero (suc i) new d apart e = e
set_apart (x ∷ xs) (suc n) zero new d apart e = e
set_apart (x ∷ xs) (suc n) (suc i) new d apart e = set_apart xs n i new d (λ f. apart (ap suc f)) e

set_get : (xs : Structs) (n : ℕ) (new old : Definition) → slice_get xs n ≡ Some old → slice_get (slice_set xs n new) n ≡ Some new
set_get [] n new old e = absurd (none-some old e)
set_get (x ∷ xs) zero new old e = refl
set_get (x ∷ xs) (suc n) new old e = set_get xs n new old e

get_end : (xs : Structs) (d : Definition) → slice_get xs (length xs) ≡ Some d → ⊥
get_end [] d e = none-some d e
get_end (x ∷ xs) d e = get_end xs d e

undefined : (o : Option Definition) → is_undefined o ≡ true → o ≡ Some Undefined
undefined (Some Undefined) e = refl
undefined o e = absurd (cc)

module _ (whole : Structs) where
  pub not_wide-sized : (type : CType) (offset : ℕ) → IsSized whole type → IfOk (not_wide type offset) (IsSized whole)
  not_wide-sized type offset n = if_test (IsSized whole) (is_wide type) _ _ (λ e. tt) (λ e. n)

  -- ---- names

  pub meaning-fine : (st : State) (name : List ℕ) → Sound whole st → IfSome (in_scope st.names name) (IsFineMeaning whole)
  meaning-fine st name sound = in_scope-each (IsFineMeaning whole) st.names name sound.file_names sound.block_names

  named_by-gauged : (o : Option Meaning) (name : Name) → IfSome o (IsFineMeaning whole) → IfOk (named_by o name) (IsGauged whole)
  named_by-gauged (Some (Local number type)) name h = (tt, h)
  named_by-gauged (Some (Object type)) name h = ((tt, inl refl), h)
  named_by-gauged (Some (Function signature has_body)) name h = tt
  named_by-gauged (Some (Typedef type)) name h = tt
  named_by-gauged (Some (Enumerator value)) name h = (tt, refl)
  named_by-gauged (Some Hidden) name h = tt
  named_by-gauged None name h = tt

  mentioned-gives : (H : Type 0) (category : Category) (name : List ℕ) → Gives whole H Any (mentioned category name)
  mentioned-gives H (InMemory address displacement) name = gives_mention H name
  mentioned-gives H (InLocal local) name = gives_give H Any _ (λ h. tt)
  mentioned-gives H (Value core) name = gives_give H Any _ (λ h. tt)

  pub named-gives : (name : Name) → Gives whole (Unit {0}) (IsGauged whole) (named name)
  unfolding named
  named-gives name =
      gives_then (gives_by _ (IsGauged whole) _ (λ st agrees sound h. named_by-gauged (in_scope st.names name.spelling) name (meaning-fine st name.spelling sound)))
      (λ x. gives_after (mentioned-gives _ x.category name.spelling) (gives_give _ (IsGauged whole) x (λ h. h.1)))

  pub number_operand-gauged : (value : ℕ) (type : NumberType) (offset : ℕ) → IfOk (number_operand value type offset) (IsGauged whole)
  unfolding number_operand
  number_operand-gauged value type offset =
      if_bind (IsSized whole) (IsGauged whole) (not_wide (Integer (number_scalar type)) offset) _ (not_wide-sized (Integer (number_scalar type)) offset (number_scalar-is type)) (λ t n. (tt, number_scalar-is type))

  pub typedef_named-gives : (name : Name) → Gives whole (Unit {0}) (IsSized whole) (typedef_named name)
  unfolding typedef_named
  typedef_named-gives name = gives_by _ _ _ (λ st agrees sound h. by_meaning (in_scope st.names name.spelling) (meaning-fine st name.spelling sound))
    where
      by_meaning : (o : Option Meaning) → IfSome o (IsFineMeaning whole) → IfOk (typedef_by o name) (IsSized whole)
      by_meaning (Some (Typedef type)) h = h
      by_meaning o h = tt

  -- ---- tags

  struct_by-gives : (H : Type 0) (o : Option Tag) (tag : Name) → Gives whole H (IsSized whole) (struct_by o tag)
  struct_by-gives H (Some (StructTag number)) tag = gives_give H (IsSized whole) (Struct number) (λ h. tt)
  struct_by-gives H (Some (EnumTag type)) tag = gives_refuse H (IsSized whole) _ _
  struct_by-gives H (Some HiddenTag) tag = gives_refuse H (IsSized whole) _ _
  struct_by-gives H None tag =
      gives_then (gives_new_struct H Undefined tt) (λ number. gives_after (gives_declare_tag _ tag.spelling (StructTag number) tt) (gives_give _ (IsSized whole) (Struct number) (λ h. tt)))

  pub struct_named-gives : (tag : Name) → Gives whole (Unit {0}) (IsSized whole) (struct_named tag)
  unfolding struct_named
  struct_named-gives tag = gives_state (Unit {0}) (IsSized whole) (λ st. struct_by (in_scope st.tags tag.spelling) tag) (λ st. struct_by-gives _ (in_scope st.tags tag.spelling) tag)

  pub enum_named-gives : (tag : Name) → Gives whole (Unit {0}) (IsSized whole) (enum_named tag)
  unfolding enum_named
  enum_named-gives tag = gives_by _ _ _ (λ st agrees sound h. by_tag (in_scope st.tags tag.spelling) (in_scope-each IsTag st.tags tag.spelling sound.file_tags sound.block_tags))
    where
      by_tag : (o : Option Tag) → IfSome o IsTag → IfOk (enum_by o tag) (IsSized whole)
      by_tag (Some (EnumTag type)) h = h
      by_tag (Some (StructTag number)) h = tt
      by_tag (Some HiddenTag) h = tt
      by_tag None h = tt

  pub new_tag-gives : (tag : Option Name) → Gives whole (Unit {0}) Any (new_tag tag)
  unfolding new_tag
  new_tag-gives None = gives_give _ Any _ (λ h. tt)
  new_tag-gives (Some tag) = gives_test _ tag.offset (λ st. (is_some (in_innermost st.tags tag.spelling), Twice) ∷ [])

  enum_scalar-is : (is_negative : Bool) → IsTrue (is_integer (enum_scalar is_negative))
  enum_scalar-is true = refl
  enum_scalar-is false = refl

  tag_declared-gives : (tag : Option Name) (meaning : Tag) → IsTag meaning → Gives whole (Unit {0}) Any (tag_declared tag meaning)
  tag_declared-gives None meaning h = gives_give _ Any _ (λ l. tt)
  tag_declared-gives (Some tag) meaning h = gives_declare_tag _ tag.spelling meaning h

  pub enum_finished-gives : (tag : Option Name) (is_negative : Bool) → Gives whole (Unit {0}) (IsSized whole) (enum_finished tag is_negative)
  unfolding enum_finished
  enum_finished-gives tag is_negative =
      gives_after (new_tag-gives tag) (gives_after (tag_declared-gives tag (EnumTag (enum_scalar is_negative)) (enum_scalar-is is_negative)) (gives_give _ (IsSized whole) (Integer (enum_scalar is_negative)) (λ h. enum_scalar-is is_negative)))

  pub enumerator-gives : (name : Name) (value : ℤ) → Gives whole (Unit {0}) Any (enumerator name value)
  unfolding enumerator
  enumerator-gives name value =
      gives_check _ Any name.offset (λ now. (is_declared now name, Twice) ∷ (not (is_of int value), Mismatch) ∷ []) (declare name.spelling (Enumerator value)) (λ st none. gives_declare _ name.spelling (Enumerator value) (λ h. tt))

  -- ---- members

  fits : (now : Layout) (offset : ℕ) → AreParts whole now → IfOk (layout_fits now offset) (IsLaidOut whole)
  fits now offset parts = if_test (IsLaidOut whole) (is_large (Some (padded now))) _ _ (λ e. tt) (λ e. record { parts = parts; below = not_large (padded now) e })

  pub member-laid : (structs : Structs) (layout : Layout) (name : Name) (type : CType) → Agrees structs whole → AreFine whole structs → IsDeclared whole type → IsLaidOut whole layout → IfOk (member structs layout name type) (IsLaidOut whole)
  unfolding member
  member-laid structs layout name type agrees fine is laid =
      if_bind (λ _. Each (λ (test : Bool × TypeFaultKind). test.0 ≡ false) (member_faults structs layout name type)) (IsLaidOut whole) (faults_at name.offset (member_faults structs layout name type)) _
      (faults_at-none name.offset (member_faults structs layout name type))
      (λ x none. by_size (size_of structs type) refl (sized_complete whole structs type agrees fine is none.1.0 none.1.1.0))
    where
      by_size : (o : Option ℕ) → size_of structs type ≡ o → IsSized whole type → IfOk (sized_member structs layout name type o) (IsLaidOut whole)
      by_size (Some size) e sized =
          fits (with_member layout name.spelling type size (alignment_of structs type)) name.offset (parts_more whole structs layout name.spelling type size (alignment_of structs type) agrees fine sized e laid.parts)
      by_size None e sized = tt

  -- ---- structs

  -- a struct whose members follow: none were declared
  record Begun (st : State) (made : ℕ × State) : Type 0 where
    pub kept : Kept st.structs made.1.structs
    pub unfinished : slice_get made.1.structs made.0 ≡ Some Unfinished
    pub fresh : (d : Definition) → slice_get st.structs made.0 ≡ Some d → is_begun d ≡ true → ⊥
    pub sound : Sound whole st → Sound whole made.1

  new_begun : (st : State) → Begun st (length st.structs, record st { structs = st.structs ++ Unfinished ∷ [] })
  new_begun st = record {
    kept = record { stay = λ i d e f. get_append st.structs (Unfinished ∷ []) i d e };
    unfinished = get_last st.structs Unfinished;
    fresh = λ d e f. get_end st.structs d e;
    sound = λ s. record { file_names = s.file_names; block_names = s.block_names; file_tags = s.file_tags; block_tags = s.block_tags; fine = each_append (IsFineDefinition whole) st.structs (Unfinished ∷ []) s.fine (tt, tt) };
  }

  again_begun : (st : State) (number : ℕ) → slice_get st.structs number ≡ Some Undefined → Begun st (number, record st { structs = slice_set st.structs number Unfinished })
  again_begun st number e =
      let fresh : (d : Definition) → slice_get st.structs number ≡ Some d → is_begun d ≡ true → ⊥ = λ d f g. by_kind d (same_Some Undefined d (sym e ∙ f)) g in
      record {
        kept = record { stay = λ i d f g. set_apart st.structs number i Unfinished d (λ same. fresh d (subst (λ n. slice_get st.structs n ≡ Some d) (sym same) f) g) f };
        unfinished = set_get st.structs number Unfinished Undefined e;
        fresh = fresh;
        sound = λ s. record { file_names = s.file_names; block_names = s.block_names; file_tags = s.file_tags; block_tags = s.block_tags; fine = each_set (IsFineDefinition whole) st.structs number Unfinished tt s.fine };
      }
    where
      by_kind : (d : Definition) → Undefined ≡ d → is_begun d ≡ true → ⊥
      by_kind d f g = let h : is_begun Undefined ≡ true = subst (λ x. is_begun x ≡ true) (sym f) g in cc

  tagged : (st : State) (tag : List ℕ) (number : ℕ) (structs : Structs) → Begun st (number, record st { structs = structs }) → Begun st (number, record st { structs = structs; tags = Rattle.c_types_spec.specs.Names.declared tag (StructTag number) st.tags })
  tagged st tag number structs b = record {
    kept = b.kept;
    unfinished = b.unfinished;
    fresh = b.fresh;
    sound = λ s. let both = declared-each IsTag st.tags tag (StructTag number) tt s.file_tags s.block_tags in
        record { file_names = s.file_names; block_names = s.block_names; file_tags = both.0; block_tags = both.1; fine = (b.sound s).fine };
  }

  begun_by-begins : (o : Option Tag) (tag : Name) (st : State) → IfOk (begun_by o tag st) (Begun st)
  begun_by-begins (Some (StructTag number)) tag st =
      if_check (Begun st) tag.offset (λ now. (not (is_undefined (slice_get now.structs number)), Twice) ∷ []) _ st
      (λ none. again_begun st number (undefined (slice_get st.structs number) (not-false (is_undefined (slice_get st.structs number)) none.0)))
  begun_by-begins (Some (EnumTag type)) tag st = tt
  begun_by-begins (Some HiddenTag) tag st = tt
  begun_by-begins None tag st = tagged st tag.spelling (length st.structs) (st.structs ++ Unfinished ∷ []) (new_begun st)

  struct_begun-begins : (tag : Option Name) (st : State) → IfOk (struct_begun tag st) (Begun st)
  unfolding struct_begun
  struct_begun-begins None st = new_begun st
  struct_begun-begins (Some tag) st = begun_by-begins (in_innermost st.tags tag.spelling) tag st

  clash : (o : Option Definition) (layout : Layout) → o ≡ Some Unfinished → o ≡ Some (Defined layout) → ⊥
  clash o layout e f = let g : Unfinished ≡ Defined layout = same_Some Unfinished (Defined layout) (sym e ∙ f) in cc

  defined : (st : State) (begun : ℕ × State) (made : Layout × State) → Begun st begun → GivesTo whole (Unit {0}) (IsLaidOut whole) begun.1 made
      → GivesTo whole (Unit {0}) (IsSized whole) st (Struct begun.0, record made.1 { structs = slice_set made.1.structs begun.0 (Defined made.0) })
  defined st begun made b k =
      let unfinished = k.0.stay begun.0 Unfinished b.unfinished refl in (
        record {
          stay = λ i d e f. set_apart made.1.structs begun.0 i (Defined made.0) d (λ same. b.fresh d (subst (λ n. slice_get st.structs n ≡ Some d) (sym same) e) f) (k.0.stay i d (b.kept.stay i d e f) f);
        },
        λ agrees sound h.
            let before : Agrees made.1.structs whole = record {
              agree = λ i layout e. agrees.agree i layout (set_apart made.1.structs begun.0 i (Defined made.0) (Defined layout)
                  (λ same. clash (slice_get made.1.structs begun.0) layout unfinished (subst (λ n. slice_get made.1.structs n ≡ Some (Defined layout)) (sym same) e)) e);
            } in
            let all = k.1 before (b.sound sound) tt in
            (record { file_names = all.0.file_names; block_names = all.0.block_names; file_tags = all.0.file_tags; block_tags = all.0.block_tags; fine = each_set (IsFineDefinition whole) made.1.structs begun.0 (Defined made.0) all.1 all.0.fine }, tt),
      )

  pub struct-gives : (tag : Option Name) (m : Typing Layout) → Gives whole (Unit {0}) (IsLaidOut whole) m → Gives whole (Unit {0}) (IsSized whole) (do
    number ← struct_begun tag
    layout ← m
    struct_finished number layout)
  unfolding struct_finished
  struct-gives tag m h = record {
    from = λ st. if_bind (Begun st) (GivesTo whole (Unit {0}) (IsSized whole) st) (struct_begun tag st) _ (struct_begun-begins tag st)
        (λ begun b. if_bind (GivesTo whole (Unit {0}) (IsLaidOut whole) begun.1) (GivesTo whole (Unit {0}) (IsSized whole) st) (m begun.1) _ (h.from begun.1)
        (λ made k. defined st begun made b k));
  }
