-- What a function of a number adds: its number where it has no body, and the marked globals that its body names.
use Rattle.std.proofs.Common.{◌≡◌, ◌∙◌, ℕ, List, sym, ap, subst, true≢false}
use Rattle.std.specs.Prelude.{Bool, true, false, Contains, get_or, Some, None, IsSome, slice_get}
use Rattle.c_types_spec.specs.Core.{Body, Typed}
use Rattle.pair_setup_spec.specs.SourceReach.{body_of}
use Rattle.pair_setup_calls.specs.Graph.{Grows}
use Rattle.pair_setup_calls.proofs.Growing.{grows-as, grows-kept}
use Rattle.pair_setup_calls.specs.Names.{IsNumber}
use Rattle.pair_setup.specs.Names.{LacksBodyAt, NamesMarked, IsMarked, IsOf}
use Rattle.pair_setup.proofs.Added.{some-of}

module _ (unit : Typed) (names : List (List ℕ)) (number : ℕ) where
  -- ---- bodies

  pub has-body : (bodies : List ℕ → Body) → IsSome (slice_get names number) → ((name : List ℕ) → IsNumber names number name → Some (bodies name) ≡ body_of unit name)
      → LacksBodyAt unit names number → ⊥
  has-body bodies named found lacks =
      let n = some-of (slice_get names number) named in
      let one = found n.0 n.1 in let other = lacks n.0 n.1 in cc

  pub no-lacking : (bodies : List ℕ → Body) → IsSome (slice_get names number) → ((name : List ℕ) → IsNumber names number name → Some (bodies name) ≡ body_of unit name)
      → (xs : List ℕ) → Grows (λ t. (t ≡ number) × LacksBodyAt unit names t) xs xs
  no-lacking bodies named found xs =
      grows-kept (λ t. (t ≡ number) × LacksBodyAt unit names t) xs (λ t h. absurd (has-body bodies named found (subst (LacksBodyAt unit names) h.0 h.1)))

  pub one-lacking : ((name : List ℕ) → IsNumber names number name → None ≡ body_of unit name) → (xs ys : List ℕ) → Grows (λ t. t ≡ number) xs ys
      → Grows (λ t. (t ≡ number) × LacksBodyAt unit names t) xs ys
  one-lacking none xs ys g = grows-as (λ t. t ≡ number) (λ t. (t ≡ number) × LacksBodyAt unit names t) xs ys there (λ t h. h.0) g
    where
      there : (t : ℕ) → t ≡ number → (t ≡ number) × LacksBodyAt unit names t
      there t e = (e, λ name is. sym (none name (subst (λ j. IsNumber names j name) e is)))

  -- ---- globals

  pub no-body-names : (marks : List Bool) → ((name : List ℕ) → IsNumber names number name → None ≡ body_of unit name) → (xs : List ℕ)
      → Grows (NamesMarked unit names marks number) xs xs
  no-body-names marks none xs = grows-kept (NamesMarked unit names marks number) xs (λ t h. absurd (never t h))
    where
      never : (t : ℕ) → NamesMarked unit names marks number t → ⊥
      never t h = let is = h.0.body_is in let other = none h.0.name h.0.name_is in cc

  pub body-names : (marks : List Bool) (bodies : List ℕ → Body) (list : List (List ℕ)) → IsSome (slice_get names number)
      → ((name : List ℕ) → IsNumber names number name → Some (bodies name) ≡ body_of unit name) → ((name : List ℕ) → list ≡ (bodies name).mentions)
      → (xs ys : List ℕ) → Grows (IsOf (λ name t. IsNumber names t name × IsMarked marks t) list) xs ys → Grows (NamesMarked unit names marks number) xs ys
  body-names marks bodies list named found list_is xs ys g =
      grows-as (IsOf (λ name t. IsNumber names t name × IsMarked marks t) list) (NamesMarked unit names marks number) xs ys there back g
    where
      there : (t : ℕ) → IsOf (λ name t. IsNumber names t name × IsMarked marks t) list t → NamesMarked unit names marks number t
      there t h =
          let n = some-of (slice_get names number) named in (
            record {
              name = n.0;
              name_is = n.1;
              body = bodies n.0;
              body_is = sym (found n.0 n.1);
              other = h.0;
              named = subst (λ l. Contains l h.0) (list_is n.0) h.1;
              global_is = h.2.0;
            },
            h.2.1,
          )

      back : (t : ℕ) → NamesMarked unit names marks number t → IsOf (λ name t. IsNumber names t name × IsMarked marks t) list t
      back t (usage, marked) =
          let same : bodies usage.name ≡ usage.body = (let one = found usage.name usage.name_is in let other = usage.body_is in
          let both : Some (bodies usage.name) ≡ Some usage.body = one ∙ other in cc) in
          (usage.other, subst (λ l. Contains l usage.other) (sym (list_is usage.name ∙ ap (λ (b : Body). b.mentions) same)) usage.named, (usage.global_is, marked))

-- ---- marks

pub marked-add : (marks : List Bool) (number : ℕ) → get_or marks number false ≡ true → (xs ys : List ℕ) → Grows (λ t. t ≡ number) xs ys
    → Grows (λ t. (t ≡ number) × IsMarked marks t) xs ys
marked-add marks number is xs ys g =
    grows-as (λ t. t ≡ number) (λ t. (t ≡ number) × IsMarked marks t) xs ys (λ t e. (e, subst (IsMarked marks) (sym e) is)) (λ t h. h.0) g

pub unmarked-kept : (marks : List Bool) (number : ℕ) → get_or marks number false ≡ false → (xs : List ℕ) → Grows (λ t. (t ≡ number) × IsMarked marks t) xs xs
unmarked-kept marks number is xs = grows-kept (λ t. (t ≡ number) × IsMarked marks t) xs (λ t h. absurd (never t h))
  where
    never : (t : ℕ) → (t ≡ number) × IsMarked marks t → ⊥
    never t h = let marked = subst (IsMarked marks) h.0 h.1 in true≢false (sym marked ∙ is)

module _ (names : List (List ℕ)) (marks : List Bool) (name : List ℕ) where
  pub named-marked : (number : ℕ) → IsNumber names number name → ((i : ℕ) → IsNumber names i name → Some number ≡ Some i) → (xs ys : List ℕ)
      → Grows (λ t. (t ≡ number) × IsMarked marks t) xs ys → Grows (λ t. IsNumber names t name × IsMarked marks t) xs ys
  named-marked number is only xs ys g =
      grows-as (λ t. (t ≡ number) × IsMarked marks t) (λ t. IsNumber names t name × IsMarked marks t) xs ys
      (λ t h. (subst (λ j. IsNumber names j name) (sym h.0) is, h.1)) back g
    where
      back : (t : ℕ) → IsNumber names t name × IsMarked marks t → (t ≡ number) × IsMarked marks t
      back t h = (same t h.0, h.1)
        where
          same : (t : ℕ) → IsNumber names t name → t ≡ number
          same t is = let e = only t is in cc

  pub unnamed-kept : ((i : ℕ) → IsNumber names i name → None ≡ Some i) → (xs : List ℕ) → Grows (λ t. IsNumber names t name × IsMarked marks t) xs xs
  unnamed-kept only xs = grows-kept (λ t. IsNumber names t name × IsMarked marks t) xs (λ t h. absurd (never t h.0))
    where
      never : (t : ℕ) → IsNumber names t name → ⊥
      never t is = let e = only t is in cc
