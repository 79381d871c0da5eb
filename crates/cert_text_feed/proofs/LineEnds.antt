-- The first line feed of bytes.
use Rattle.std.specs.Prelude.{◌==◌, take, get_or}
use Rattle.std.proofs.Common.{◌≡◌, ℕ, ◌+◌, ◌<◌, ◌≤◌, true, false, ◌&&◌, not, List, [], ◌∷◌, ◌++◌, length, Some, ap, sym, ◌∙◌, arith}
use Rattle.std.proofs.lemmas.List.{take_more, take_all}
use Rattle.std.proofs.lemmas.List.Folds.{list_all_more}
use Rattle.cert_text_feed.specs.Readings.{is_open}
use Rattle.cert_text_feed.specs.Steps.{IsLineEnd}

pub open_more : (bytes : List ℕ) (n : ℕ) (byte : ℕ) → n < length bytes → byte ≡ get_or bytes n byte → (byte == 10) ≡ false → is_open (take n bytes) ≡ true → is_open (take (n + 1) bytes) ≡ true
open_more bytes n byte inside is other h =
    list_all_more (λ b. not (b == 10)) bytes n byte inside ∙ ap (λ t. t && not (get_or bytes n byte == 10)) h ∙ ap (λ b. not (b == 10)) (sym is) ∙ ap not other

pub line_there : (bytes : List ℕ) (n : ℕ) (byte : ℕ) → n < length bytes → byte ≡ get_or bytes n byte → byte ≡ 10 → is_open (take n bytes) ≡ true → IsLineEnd bytes (Some (n + 1))
line_there bytes n byte inside is feed h = (take n bytes, take_more bytes n byte inside ∙ ap (λ b. take n bytes ++ b ∷ []) (sym is ∙ feed), h, omega (arith, inside))

pub none_there : (bytes : List ℕ) (n : ℕ) → length bytes ≤ n → is_open (take n bytes) ≡ true → is_open bytes ≡ true
none_there bytes n past h = ap is_open (sym (take_all n bytes past)) ∙ h
