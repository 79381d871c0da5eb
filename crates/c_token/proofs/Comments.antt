-- The end of a comment, one byte further.
use Rattle.std.proofs.Common.{◌≡◌, ℕ, suc, ◌+◌, ◌<◌, false, Option, Some, None, option_map, List, ◌∷◌, drop, length, get_or, refl, ap, sym, ◌∙◌, arith}
use Rattle.std.specs.Prelude.{nat_eq, codes}
use Rattle.std.specs.List.{starts_with}
use Rattle.std.proofs.Math.Seq.{drop-cons}
use Rattle.c_token_spec.specs.Blanks.{close_len}

further : (i : ℕ) (found : Option ℕ) → option_map (λ n. i + n) (option_map suc found) ≡ option_map (λ n. i + 1 + n) found
further i None = refl
further i (Some n) = let e : i + suc n ≡ i + 1 + n = omega arith in ap (λ k. Some k) e

close_later : (byte : ℕ) (text : List ℕ) → starts_with nat_eq (byte ∷ text) (codes "*/") ≡ false → close_len (byte ∷ text) ≡ option_map suc (close_len text)
close_later byte text no_close = rw no_close refl

pub close_len-step : (text : List ℕ) (i : ℕ) → i < length text → starts_with nat_eq (drop i text) (codes "*/") ≡ false → option_map (λ n. i + 1 + n) (close_len (drop (i + 1) text)) ≡ option_map (λ n. i + n) (close_len (drop i text))
close_len-step text i h no_close =
    let cut : drop i text ≡ get_or text i 0 ∷ drop (suc i) text = drop-cons text i 0 h in
    let one : i + 1 ≡ suc i = omega arith in
    let next : drop (i + 1) text ≡ drop (suc i) text = ap (λ n. drop n text) one in
    let later : close_len (drop i text) ≡ option_map suc (close_len (drop (suc i) text)) = ap close_len cut ∙ close_later (get_or text i 0) (drop (suc i) text) (ap (λ t. starts_with nat_eq t (codes "*/")) (sym cut) ∙ no_close) in
    sym (ap (option_map (λ n. i + n)) later ∙ further i (close_len (drop (suc i) text)) ∙ ap (λ t. option_map (λ n. i + 1 + n) (close_len t)) (sym next))
