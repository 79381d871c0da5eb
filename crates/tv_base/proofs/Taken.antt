-- Reads one after another.
use Rattle.std.proofs.Common.{◌≡◌, ℕ, ◌+◌, ◌≤◌, ◌⊎◌, List, [], ◌∷◌, ◌++◌, length, drop, Option, Some, None, option_map, refl, sym, ◌∙◌, ap, subst, inl, inr, append_assoc, append-nil, take_all, arith}
use Rattle.std.proofs.lemmas.List.{drop_all}
use Rattle.std.proofs.Math.Seq.{drop-append_seam, take-append_seam, drop-append-add}
use Rattle.tv_base.specs.Reading.{HandsOver, IsAtEnd, IsTaken, IsPartlyTaken}

map-append-twice : (xs ys : List ℕ) (now : Option (List ℕ))
    → option_map (λ r. xs ++ r) (option_map (λ r. ys ++ r) now) ≡ option_map (λ r. xs ++ ys ++ r) now
map-append-twice xs ys None = refl
map-append-twice xs ys (Some r) = ap Some (sym (append_assoc xs ys r))

no_rest : (xs ys : List ℕ) → xs ++ ys ≡ [] → ys ≡ []
no_rest [] ys e = e
no_rest (x ∷ xs) ys e = cc

at_end_some : (xs : List ℕ) (now : Option (List ℕ)) → IsAtEnd (option_map (λ r. xs ++ r) now) → IsAtEnd now
at_end_some xs None end = end
at_end_some xs (Some r) end = no_rest xs r end

-- the end stays the end
pub at_end : (before now : Option (List ℕ)) (xs : List ℕ) → HandsOver before xs now → IsAtEnd before → IsAtEnd now
at_end before now xs read end = at_end_some xs now (subst IsAtEnd read end)

taken_some : (most : ℕ) (items : List ℕ) (now : Option (List ℕ)) → length items ≤ most
    → (length items ≡ most) ⊎ IsAtEnd now → IsTaken most (option_map (λ r. items ++ r) now) items now
taken_some most items None bound why = record { first = tt; rest = refl }
taken_some most items (Some r) bound (inl e) =
    subst (λ n. IsTaken n (Some (items ++ r)) items (Some r)) e
    (record { first = sym (take-append_seam items r); rest = ap Some (sym (drop-append_seam items r)) })
taken_some most items (Some r) bound (inr end) =
    subst (λ z. IsTaken most (Some z) items (Some r)) (sym (ap (λ z. items ++ z) end ∙ append-nil items))
    (record { first = sym (take_all most items bound); rest = ap Some (end ∙ sym (drop_all most items bound)) })

-- all that was asked for, or all that was left
pub taken : (most : ℕ) (before now : Option (List ℕ)) (items : List ℕ) → HandsOver before items now → length items ≤ most
    → (length items ≡ most) ⊎ IsAtEnd now → IsTaken most before items now
taken most before now items read bound why =
    subst (λ b. IsTaken most b items now) (sym read) (taken_some most items now bound why)

drop_rest : (items : List ℕ) (n : ℕ) (now : Option (List ℕ))
    → option_map (drop n) now ≡ option_map (drop (length items + n)) (option_map (λ r. items ++ r) now)
drop_rest items n None = refl
drop_rest items n (Some r) = ap Some (sym (drop-append-add items r n))

-- reads that went well before the one that was refused
pub partly_taken : (most room : ℕ) (before middle now : Option (List ℕ)) (items : List ℕ) → HandsOver before items middle
    → length items + room ≤ most → IsPartlyTaken room middle now → IsPartlyTaken most before now
partly_taken most room before middle now items read bound (n, h, e) = (
  length items + n,
  omega arith,
  e ∙ drop_rest items n middle ∙ ap (option_map (drop (length items + n))) (sym read),
)
