-- Items of one kind that are added to a list, up to one that ends them.
use Rattle.std.specs.Prelude.{map}
use Rattle.std.proofs.Common.{◌≡◌, ℕ, ◌<◌, List, [], ◌∷◌, ◌++◌, length, refl, ap, sym, ◌∙◌, subst, append_assoc, append-nil}
use Rattle.std.proofs.lemmas.List.{map-append}
use Rattle.exact_read.specs.Reading.{Outcome}
use Rattle.exact_read.specs.Grammar.{bind, read_map}
use Rattle.cert_text_laws.specs.Readers.{Reader, given, refused, read_items}
use Rattle.cert_text_laws.specs.Going.{ItemsLeft}
use Rattle.cert_text_laws.proofs.Loops.{items-start, items-step, items-fault, items-end}

-- those that were added are read as `going` says, and `collect` takes them as `view` says
pub record RunLeft {I X Y : Type 0} (item : Unit {0} → Reader I) (after : Unit {0} → I → List (Unit {0})) (going : X → I) (collect : List I → List Y) (view : X → Y) (old : List ℕ) (before now : List X) (rest : List ℕ) : Type 0 where
  pub added : List X
  pub is : now ≡ before ++ added
  pub left : ItemsLeft item after (read_items item after (tt {0} ∷ []) old) (map going added) (tt {0} ∷ []) rest
  pub collected : (more : List I) → collect (map going added ++ more) ≡ map view added ++ collect more

module _ {I X Y : Type 0} (item : Unit {0} → Reader I) (after : Unit {0} → I → List (Unit {0})) (going : X → I) (collect : List I → List Y) (view : X → Y) (old : List ℕ) where
  whole : Outcome ℕ (Unit {0}) (List I)
  whole = read_items item after (tt {0} ∷ []) old

  pub run_start : (before : List X) → RunLeft item after going collect view old before before old
  run_start before = record { added = []; is = sym (append-nil before); left = items-start item after (tt {0} ∷ []) old; collected = λ more. refl }

  module _ (before now : List X) (rest middle : List ℕ) (r : RunLeft item after going collect view old before now rest) where
    pub run_step : (x : X) → after (tt {0}) (going x) ≡ tt {0} ∷ [] → ((more : List I) → collect (going x ∷ more) ≡ view x ∷ collect more) → item (tt {0}) rest ≡ given (going x) middle
        → length middle < length rest → RunLeft item after going collect view old before (now ++ x ∷ []) middle
    unfolding whole
    run_step x on one e less = record {
      added = r.added ++ x ∷ [];
      is = ap (λ l. l ++ x ∷ []) r.is ∙ append_assoc before r.added (x ∷ []);
      left = subst (λ b. ItemsLeft item after whole b (tt {0} ∷ []) middle) (sym (map-append going r.added (x ∷ [])))
          (subst (λ s. ItemsLeft item after whole (map going r.added ++ going x ∷ []) s middle) (ap (λ s. s ++ []) on)
          (items-step item after whole (map going r.added) (tt {0}) [] rest middle (going x) r.left e less));
      collected = λ more.
          ap (λ l. collect (l ++ more)) (map-append going r.added (x ∷ []))
          ∙ ap collect (append_assoc (map going r.added) (going x ∷ []) more)
          ∙ r.collected (going x ∷ more)
          ∙ ap (λ l. map view r.added ++ l) (one more)
          ∙ sym (append_assoc (map view r.added) (view x ∷ []) (collect more))
          ∙ ap (λ l. l ++ collect more) (sym (map-append view r.added (x ∷ [])));
    }

    pub run_end : (last : I) → after (tt {0}) last ≡ [] → collect (last ∷ []) ≡ [] → item (tt {0}) rest ≡ given last middle → length middle < length rest
        → read_map collect (read_items item after (tt {0} ∷ [])) old ≡ given (map view r.added) middle
    unfolding whole
    run_end last off none e less =
        ap (λ o. bind o (λ items rest. given (collect items) rest))
        (items-end item after whole (map going r.added ++ last ∷ []) middle
        (subst (λ s. ItemsLeft item after whole (map going r.added ++ last ∷ []) s middle) (ap (λ s. s ++ []) off)
        (items-step item after whole (map going r.added) (tt {0}) [] rest middle last r.left e less)))
        ∙ ap (λ items. given items middle) (r.collected (last ∷ []) ∙ ap (λ l. map view r.added ++ l) none ∙ append-nil (map view r.added))

    pub run_fault : item (tt {0}) rest ≡ refused middle → read_map collect (read_items item after (tt {0} ∷ [])) old ≡ refused middle
    unfolding whole
    run_fault e = ap (λ o. bind o (λ items rest. given (collect items) rest)) (items-fault item after whole (map going r.added) (tt {0}) [] rest middle r.left e)
