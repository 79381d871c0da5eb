-- Reading back the numbers and the tables of a file, from where they were written.
use Rattle.std.proofs.Common.{◌≡◌, ◌+◌, ◌^◌, ◌<◌, ◌++◌, ◌∙◌, ℕ, Bool, true, List, ◌∷◌, drop, filter, ap, sym, refl}
use Rattle.std.proofs.lemmas.List.{drop-drop}
use Rattle.byteorder.specs.Endian.{little_number}
use Rattle.byteorder.specs.Numbers.{little_number-reads_back}
use Rattle.elf_read_spec.specs.File.{u16_at, u32_at}
use Rattle.elf_make.specs.Layout.{half, word}

pub read_word : (n : ℕ) (rest : List ℕ) → n < 2 ^ 32 → little_number 4 (word n ++ rest) ≡ n
unfolding word
read_word n rest h = little_number-reads_back 4 n rest h

pub read_half : (n : ℕ) (rest : List ℕ) → n < 2 ^ 16 → little_number 2 (half n ++ rest) ≡ n
unfolding half
read_half n rest h = little_number-reads_back 2 n rest h

-- a number at a distance from where the file is known
pub word_at : (file part rest : List ℕ) (base k n : ℕ) → drop base file ≡ part → drop k part ≡ word n ++ rest → n < 2 ^ 32
    → u32_at file (base + k) ≡ n
unfolding u32_at
word_at file part rest base k n here there small =
    ap (λ xs. little_number 4 xs) (sym (drop-drop k base file) ∙ ap (λ xs. drop k xs) here ∙ there) ∙ read_word n rest small

pub half_at : (file part rest : List ℕ) (base k n : ℕ) → drop base file ≡ part → drop k part ≡ half n ++ rest → n < 2 ^ 16
    → u16_at file (base + k) ≡ n
unfolding u16_at
half_at file part rest base k n here there small =
    ap (λ xs. little_number 2 xs) (sym (drop-drop k base file) ∙ ap (λ xs. drop k xs) here ∙ there) ∙ read_half n rest small

-- the same from the start of the file
pub front_word : (file rest : List ℕ) (k n : ℕ) → drop k file ≡ word n ++ rest → n < 2 ^ 32 → u32_at file k ≡ n
unfolding u32_at
front_word file rest k n there small = ap (λ xs. little_number 4 xs) there ∙ read_word n rest small

pub front_half : (file rest : List ℕ) (k n : ℕ) → drop k file ≡ half n ++ rest → n < 2 ^ 16 → u16_at file k ≡ n
unfolding u16_at
front_half file rest k n there small = ap (λ xs. little_number 2 xs) there ∙ read_half n rest small

-- the first entry of a table passes a test
pub filter_taken : (p : ℕ → Bool) (x : ℕ) (xs : List ℕ) → p x ≡ true → filter p (x ∷ xs) ≡ x ∷ filter p xs
filter_taken p x xs e = rw e refl
