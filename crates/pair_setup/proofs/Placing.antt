-- A global by the number of its name.
use Rattle.std.proofs.Common.{◌≡◌, ◌∙◌, ℕ, zero, suc, List, [], ◌∷◌, Option, Some, None, refl, sym, ap, subst, arith, true≢false}
use Rattle.std.proofs.lemmas.Option.{some_pair_parts}
use Rattle.std.specs.Prelude.{◌↔◌, is_some, Bool, IsTrue, Contains, slice_get}
use Rattle.std.specs.Borrow.{Bor}
use Rattle.elf_read_spec.specs.Image.{Image}
use Rattle.c_types_spec.specs.Types.{Structs}
use Rattle.c_types_spec.specs.Units.{global_size}
use Rattle.c_types_spec.specs.Core.{Global}
use Rattle.c_types_layout.specs.Types.{type_of}
use Rattle.c_types_layout.specs.Structs.{structs_of}
use Rattle.c_types_layout.specs.declared.types.CType.{CType}
use Rattle.c_types_scope.specs.declared.meaning.Meaning.{Meaning}
use Rattle.c_types_scope.specs.declared.meaning.Meaning.TheVariants.{Local, Object, Function, Typedef, Enumerator}
use Rattle.c_types.specs.declared.typed.Typed as program
use Rattle.c_types.specs.Typed.{typed_of, global_of}
use Rattle.pair_setup_calls.specs.Names.{IsNumber, AreApart, names_of}
use Rattle.pair_setup_calls.proofs.Indices.{Entries, names_in, name-read}
use Rattle.pair_setup_calls.proofs.Declared.{globals_by}
use Rattle.pair_setup_spec.specs.Faults.{IsPlaced}
use Rattle.pair_setup.specs.Globals.{IsMisplacedAt, IsUnplaced, object_type}
use Rattle.pair_setup.proofs.Added.{none_contained}

abbrev Entry : Type 0
Entry = Bor (List ℕ) × Meaning

-- an entry that means an object
record IsObject (structs : Structs) (entries : Entries) (declared : Global) : Type 0 where
  index : ℕ
  key : Bor (List ℕ)
  type : CType
  entry_is : slice_get entries index ≡ Some (key, Object type)
  declared_is : declared ≡ global_of key.now (global_size structs (type_of type))

later : (structs : Structs) (entry : Entry) (entries : Entries) (declared : Global) → IsObject structs entries declared → IsObject structs (entry ∷ entries) declared
later structs entry entries declared o = record { index = suc o.index; key = o.key; type = o.type; entry_is = o.entry_is; declared_is = o.declared_is }

object-of : (structs : Structs) (entries : Entries) (declared : Global) → Contains (globals_by structs entries) declared → IsObject structs entries declared
object-of structs [] declared among = absurd (none_contained declared among)
object-of structs ((key, Object type) ∷ entries) declared (zero, below, here) =
    record { index = 0; key = key; type = type; entry_is = refl; declared_is = sym here }
object-of structs ((key, Object type) ∷ entries) declared (suc k, below, here) =
    later structs (key, Object type) entries declared (object-of structs entries declared (k, omega (arith, below), here))
object-of structs ((key, Local n type) ∷ entries) declared among = later structs (key, Local n type) entries declared (object-of structs entries declared among)
object-of structs ((key, Function signature has_body) ∷ entries) declared among = later structs (key, Function signature has_body) entries declared (object-of structs entries declared among)
object-of structs ((key, Typedef type) ∷ entries) declared among = later structs (key, Typedef type) entries declared (object-of structs entries declared among)
object-of structs ((key, Enumerator value) ∷ entries) declared among = later structs (key, Enumerator value) entries declared (object-of structs entries declared among)

moved : (structs : Structs) (first : Global) (list : List Global) (declared : Global) → Contains list declared → Contains (first ∷ list) declared
moved structs first list declared (k, below, here) = (suc k, omega (arith, below), here)

-- what equal entries have

same-entry : (key other : Bor (List ℕ)) (meaning another : Meaning) → ◌≡◌ {A = Option Entry} (Some (key, meaning)) (Some (other, another)) → (key ≡ other) × (meaning ≡ another)
same-entry key other meaning another e = some_pair_parts key other meaning another e

same-some : (type other : CType) → ◌≡◌ {A = Option CType} (Some type) (Some other) → type ≡ other
same-some type other e = cc

none-some : (type : CType) → ◌≡◌ {A = Option CType} None (Some type) → ⊥
none-some type e = true≢false (sym (ap is_some e))

same-object : (type other : CType) → ◌≡◌ {A = Meaning} (Object type) (Object other) → type ≡ other
same-object type other e = cc

object-there : (structs : Structs) (entries : Entries) (index : ℕ) (key : Bor (List ℕ)) (type : CType) → slice_get entries index ≡ Some (key, Object type)
    → Contains (globals_by structs entries) (global_of key.now (global_size structs (type_of type)))
object-there structs [] index key type is = absurd (cc)
object-there structs ((one, Object of) ∷ entries) zero key type is =
    let both = same-entry one key (Object of) (Object type) is in (
      0,
      omega arith,
      ap (λ (k : Bor (List ℕ)). global_of k.now (global_size structs (type_of of))) both.0
          ∙ ap (λ (t : CType). global_of key.now (global_size structs (type_of t))) (same-object of type both.1),
    )
object-there structs ((one, Local n of) ∷ entries) zero key type is = absurd (let both : (Local n of) ≡ Object type = (same-entry one key (Local n of) (Object type) is).1 in cc)
object-there structs ((one, Function signature has_body) ∷ entries) zero key type is = absurd (let both : (Function signature has_body) ≡ Object type = (same-entry one key (Function signature has_body) (Object type) is).1 in cc)
object-there structs ((one, Typedef of) ∷ entries) zero key type is = absurd (let both : (Typedef of) ≡ Object type = (same-entry one key (Typedef of) (Object type) is).1 in cc)
object-there structs ((one, Enumerator value) ∷ entries) zero key type is = absurd (let both : (Enumerator value) ≡ Object type = (same-entry one key (Enumerator value) (Object type) is).1 in cc)
object-there structs ((one, Object of) ∷ entries) (suc index) key type is =
    moved structs (global_of one.now (global_size structs (type_of of))) (globals_by structs entries) _ (object-there structs entries index key type is)
object-there structs ((one, Local n of) ∷ entries) (suc index) key type is = object-there structs entries index key type is
object-there structs ((one, Function signature has_body) ∷ entries) (suc index) key type is = object-there structs entries index key type is
object-there structs ((one, Typedef of) ∷ entries) (suc index) key type is = object-there structs entries index key type is
object-there structs ((one, Enumerator value) ∷ entries) (suc index) key type is = object-there structs entries index key type is

name-at : (entries : Entries) (index : ℕ) (entry : Entry) → slice_get entries index ≡ Some entry → IsNumber (names_in entries) index entry.0.now
name-at entries index entry is = sym (name-read entries index (Some entry) (sym is))

meaning-object : (meaning : Meaning) (type : CType) → Some type ≡ object_type meaning → meaning ≡ Object type
meaning-object (Object of) type is = ap Object (let both : Some type ≡ Some of = is in let same : of ≡ type = cc in same)
meaning-object (Local n of) type is = absurd (cc)
meaning-object (Function signature has_body) type is = absurd (cc)
meaning-object (Typedef of) type is = absurd (cc)
meaning-object (Enumerator value) type is = absurd (cc)

module _ (image : Image) (u : program.Typed) (apart : AreApart (names_of u)) (number : ℕ) where
  -- a global of the number is that of its entry
  record IsAt (m : IsMisplacedAt image (typed_of u) (names_of u) number) : Type 0 where
    key : Bor (List ℕ)
    type : CType
    entry_is : slice_get u.names.entries number ≡ Some (key, Object type)
    declared_is : m.declared ≡ global_of key.now (global_size (structs_of u.structs.items) (type_of type))

  at-number : (m : IsMisplacedAt image (typed_of u) (names_of u) number) → IsAt m
  at-number m = record {
    key = o.key;
    type = o.type;
    entry_is = subst (λ k. slice_get u.names.entries k ≡ Some (o.key, Object o.type)) same o.entry_is;
    declared_is = o.declared_is;
  }
    where
      o : IsObject (structs_of u.structs.items) u.names.entries m.declared
      o = object-of (structs_of u.structs.items) u.names.entries m.declared m.is_declared

      same : o.index ≡ number
      same = apart o.index number m.declared.global
          (subst (IsNumber (names_of u) o.index) (sym (ap (λ (g : Global). g.global) o.declared_is)) (name-at u.names.entries o.index (o.key, Object o.type) o.entry_is)) m.number_is

  pub misplaced-past : None ≡ slice_get u.names.entries number → IsMisplacedAt image (typed_of u) (names_of u) number → ⊥
  misplaced-past none m = let e = (at-number m).entry_is in cc

  module _ (key : Bor (List ℕ)) (meaning : Meaning) (is : Some (key, meaning) ≡ slice_get u.names.entries number) where
    at-object : (m : IsMisplacedAt image (typed_of u) (names_of u) number) (o : Option CType) → object_type meaning ≡ o → IsUnplaced image (structs_of u.structs.items) key.now o
    at-object m None e = at (at-number m)
      where
        at : IsAt m → ⊥
        at a =
            let same : meaning ≡ Object a.type = (same-entry key a.key meaning (Object a.type) (is ∙ a.entry_is)).1 in
            none-some a.type (sym e ∙ ap object_type same)
    at-object m (Some type) e = λ placed. m.misplaced (at (at-number m) placed)
      where
        at : IsAt m → IsPlaced image (global_of key.now (global_size (structs_of u.structs.items) (type_of type))) → IsPlaced image m.declared
        at a placed =
            let both = same-entry key a.key meaning (Object a.type) (is ∙ a.entry_is) in
            let same_key : key ≡ a.key = both.0 in
            let same_type : type ≡ a.type = same-some type a.type (sym e ∙ ap object_type both.1) in
            subst (IsPlaced image) (ap (λ (k : Bor (List ℕ)). global_of k.now (global_size (structs_of u.structs.items) (type_of type))) same_key
            ∙ ap (λ (t : CType). global_of a.key.now (global_size (structs_of u.structs.items) (type_of t))) same_type ∙ sym a.declared_is) placed

    from-object : (o : Option CType) → o ≡ object_type meaning → IsUnplaced image (structs_of u.structs.items) key.now o → IsMisplacedAt image (typed_of u) (names_of u) number
    from-object None e h = absurd h
    from-object (Some type) e h =
        let meaning_is = meaning-object meaning type e in
        let there : slice_get u.names.entries number ≡ Some (key, Object type) = sym is ∙ ap (λ (m : Meaning). Some (key, m)) meaning_is in
        record {
          declared = global_of key.now (global_size (structs_of u.structs.items) (type_of type));
          is_declared = object-there (structs_of u.structs.items) u.names.entries number key type there;
          number_is = name-at u.names.entries number (key, Object type) there;
          misplaced = h;
        }

    pub misplaced-is : (found : Bool) → IsTrue found ↔ IsUnplaced image (structs_of u.structs.items) key.now (object_type meaning)
        → IsTrue found ↔ IsMisplacedAt image (typed_of u) (names_of u) number
    misplaced-is found h = (λ t. from-object (object_type meaning) refl (h.0 t), λ m. h.1 (at-object m (object_type meaning) refl))
