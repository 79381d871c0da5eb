-- The steps of a walk.
use Rattle.std.proofs.Common.{◌≡◌, ℕ, ◌+◌, ◌<◌, ◌≤◌, [], ◌∷◌, ◌++◌, length, eqb, Option, Some, None, Result, Ok, sym, ap, ◌∙◌, subst, arith}
use Rattle.std.specs.Prelude.{MatchOption}
use Rattle.std.specs.Map.{update}
use Rattle.std.proofs.lemmas.Option.{MatchOption-at_none, MatchOption-at_some}
use Rattle.std.proofs.lemmas.Map.{update_here, update_apart}
use Rattle.term_norm.specs.declared.walk.Stop.{Stop}
use Rattle.term_norm.specs.declared.walk.Walk.{Walk}
use Rattle.term_norm.specs.Walk.{form_at, Waits, first, left, IsWalk, Advances}
use Rattle.term_norm.proofs.Waits.{below_bound, has_none, Waits-push, Waits-pop, first-push, first_alone, left-same, left-made, less_by_one}

-- the one at hand waits for an argument
pub waited : (old new : Walk) (start id : ℕ) → ((k : ℕ) → form_at new k ≡ form_at old k) → new.at ≡ id → new.waiting.items ≡ old.waiting.items ++ old.at ∷ []
    → id < old.at → form_at old id ≡ None → IsWalk old start → Advances old new start
waited old new start id same at items less none walk =
    let pushed : Waits (form_at new) (start + 1) (old.waiting.items ++ old.at ∷ []) id =
    Waits-push (form_at old) (form_at new) (start + 1) old.waiting.items old.at id same walk.waits less none in
    let left_same : left (form_at new) (start + 1) ≡ left (form_at old) (start + 1) = left-same (form_at old) (form_at new) (start + 1) (λ k _. same k) in
    let inside : old.at ≤ start = walk.within in
    let lower : new.at < old.at = omega arith in
    record {
      sound = record {
        within = omega arith;
        waits = subst (λ a. Waits (form_at new) (start + 1) new.waiting.items a) (sym at) (subst (λ ws. Waits (form_at new) (start + 1) ws id) (sym items) pushed);
        begins = ap (λ ws. first ws new.at) items ∙ first-push old.waiting.items old.at new.at ∙ walk.begins;
      };
      less = rw left_same (omega arith);
    }

-- none waits: the first is at hand
pub alone : (walk : Walk) (start : ℕ) → IsWalk walk start → length walk.waiting.items ≡ 0 → walk.at ≡ start
alone walk start sound e = sym (first_alone walk.waiting.items walk.at e) ∙ sound.begins

-- the first has no form yet
pub goes_on : (old new : Walk) (start : ℕ) (outcome : Result ℕ Stop) (end : Option ℕ) → end ≡ None → MatchOption end (Advances old new start) (λ last. (outcome ≡ Ok last) × (old.at ≡ start)) → Advances old new start
goes_on old new start outcome end none h = MatchOption-at_none (Advances old new start) (λ last. (outcome ≡ Ok last) × (old.at ≡ start)) none h

-- the first has a form
pub ends : (old new : Walk) (start : ℕ) (outcome : Result ℕ Stop) (end : Option ℕ) (last : ℕ) → end ≡ Some last
    → MatchOption end (Advances old new start) (λ last. (outcome ≡ Ok last) × (old.at ≡ start)) → (outcome ≡ Ok last) × (old.at ≡ start)
ends old new start outcome end last is h = MatchOption-at_some (Advances old new start) (λ last. (outcome ≡ Ok last) × (old.at ≡ start)) last is h

module _ (old new : Walk) (start form : ℕ) (noted : (k : ℕ) → form_at new k ≡ update eqb (form_at old) old.at (Some form) k) (walk : IsWalk old start) where
  -- the last that waits is at hand again
  pub popped : (next : ℕ) → new.at ≡ next → old.waiting.items ≡ new.waiting.items ++ next ∷ [] → Advances old new start
  popped next at items =
      let before : Waits (form_at old) (start + 1) (new.waiting.items ++ next ∷ []) old.at = subst (λ ws. Waits (form_at old) (start + 1) ws old.at) items walk.waits in
      let above : (k : ℕ) → old.at < k → form_at new k ≡ form_at old k =
      λ k less. noted k ∙ update_apart (form_at old) old.at (Some form) k (λ (e : k ≡ old.at). omega (arith, e, less)) in
      let waits : Waits (form_at new) (start + 1) new.waiting.items next = Waits-pop (form_at old) (form_at new) (start + 1) new.waiting.items next old.at above before in
      let next_below : next < start + 1 = below_bound (form_at new) (start + 1) new.waiting.items next waits in
      let here : form_at new old.at ≡ Some form = noted old.at ∙ update_here (form_at old) old.at (Some form) in
      let inside : old.at ≤ start = walk.within in
      let fewer : left (form_at old) (start + 1) ≡ left (form_at new) (start + 1) + 1 =
      left-made (form_at old) (form_at new) (start + 1) old.at form (omega arith) (has_none (form_at old) (start + 1) old.waiting.items old.at walk.waits) here
      (λ k apart. noted k ∙ update_apart (form_at old) old.at (Some form) k apart) in
      record {
        sound = record {
          within = omega arith;
          waits = subst (λ a. Waits (form_at new) (start + 1) new.waiting.items a) (sym at) waits;
          begins = ap (λ a. first new.waiting.items a) at ∙ sym (first-push new.waiting.items next old.at) ∙ ap (λ ws. first ws old.at) (sym items) ∙ walk.begins;
        };
        less = less_by_one (left (form_at new) (start + 1)) (left (form_at old) (start + 1)) (start + 1) new.at old.at fewer (omega arith);
      }
