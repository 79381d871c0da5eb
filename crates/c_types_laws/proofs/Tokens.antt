-- A name among the tokens of a text is a name of certificates.
use Rattle.std.proofs.Common.{◌≡◌, ℕ, suc, ◌+◌, ◌==◌, ◌&&◌, ◌||◌, nat_eq, nat_le, Bool, true, false, cond, if◌then◌else◌, List, [], ◌∷◌, codes, length, take, drop, Option, Some, None, Result, Ok, Err, IfOk, refl, sym, ap, subst, ◌∙◌, one-add}
use Rattle.std.specs.Option.{option_map_or}
use Rattle.std.specs.List.{prefix_len, list_all, starts_with, AllByRecursion}
use Rattle.c_token_spec.specs.declared.token.Keyword.{Keyword}
use Rattle.c_token_spec.specs.declared.token.Punctuator.{Punctuator}
use Rattle.c_token_spec.specs.declared.token.NumberType.{NumberType}
use Rattle.c_token_spec.specs.declared.token.TokenFaultKind.{TokenFaultKind}
use Rattle.c_token_spec.specs.declared.token.TokenFaultKind.TheVariants.{Byte, Number as number_fault, Character as character_fault, Comment}
use Rattle.c_token_spec.specs.Words.{is_digit, begins_word, is_word_byte, keyword_of}
use Rattle.c_token_spec.specs.Punctuators.{punctuator_of}
use Rattle.c_token_spec.specs.Numbers.{number_len, number_of}
use Rattle.c_token_spec.specs.Characters.{character_of}
use Rattle.c_token_spec.specs.Blanks.{is_blank_byte, close_len, is_marker}
use Rattle.c_token_spec.specs.Lexical.{Token, Name, Word, Number, Character, Mark, Placed, Piece, Blank, Lexeme, Fault, word_piece, number_piece, character_piece, comment_piece, mark_piece, first_piece, with_token, Lexes, ended, blank, lexeme, fault}
use Rattle.cert_text_spec.specs.Lines.{is_letter, is_of_name, is_name}

-- ---- the bytes of names

or_grouped : (a b c : Bool) → (a || b) || c ≡ a || (b || c)
or_grouped true b c = refl
or_grouped false b c = refl

or_turned : (a b c : Bool) → (b ≡ true → c ≡ true) → a || b ≡ true → c || a ≡ true
or_turned true b true h e = refl
or_turned true b false h e = refl
or_turned false b c h e = ap (λ x. x || false) (h e)

is_letter-of : (c : ℕ) → begins_word c ≡ true → is_letter c ≡ true
is_letter-of c e = sym (or_grouped (nat_le 65 c && nat_le c 90) (nat_le 97 c && nat_le c 122) (c == 95)) ∙ e

is_of_name-of : (c : ℕ) → is_word_byte c ≡ true → is_of_name c ≡ true
is_of_name-of c e = or_turned (is_digit c) (begins_word c) (is_letter c) (is_letter-of c) e

is_word_byte-of : (c : ℕ) → begins_word c ≡ true → is_word_byte c ≡ true
is_word_byte-of c e = or_last (is_digit c) (begins_word c) e
  where
    or_last : (a b : Bool) → b ≡ true → a || b ≡ true
    or_last true b h = refl
    or_last false b h = h

-- the bytes at the start of a text that pass a test pass another
all_taken : (p q : ℕ → Bool) → ((c : ℕ) → p c ≡ true → q c ≡ true) → (text : List ℕ) → list_all q (take (prefix_len p text) text) ≡ true
all_taken p q h [] = refl
all_taken p q h (c ∷ text) = by (p c) refl (all_taken p q h text)
  where
    by : (b : Bool) → p c ≡ b → list_all q (take (prefix_len p text) text) ≡ true → list_all q (take (cond b (1 + prefix_len p text) 0) (c ∷ text)) ≡ true
    by true e k =
        subst (λ n. list_all q (take n (c ∷ text)) ≡ true) (sym (one-add (prefix_len p text)))
        (ap (λ b. b && list_all q (take (prefix_len p text) text)) (h c e) ∙ k)
    by false e k = refl

-- a word is a name
word-is_name : (c : ℕ) (text : List ℕ) → begins_word c ≡ true → is_name (take (prefix_len is_word_byte (c ∷ text)) (c ∷ text)) ≡ true
word-is_name c text e = by (is_word_byte c) (is_word_byte-of c e)
  where
    by : (b : Bool) → b ≡ true → is_name (take (cond b (1 + prefix_len is_word_byte text) 0) (c ∷ text)) ≡ true
    by true h =
        subst (λ n. is_name (take n (c ∷ text)) ≡ true) (sym (one-add (prefix_len is_word_byte text)))
        (ap (λ b. b && list_all is_of_name (take (prefix_len is_word_byte text) text)) (is_letter-of c e)
        ∙ all_taken is_word_byte is_of_name is_of_name-of text)
    by false h = (let bad : false ≡ true = h in absurd (cc))

-- ---- tokens

-- a name is a name of certificates
abbrev pub IsNamed : Token → Type 0
IsNamed (Name text) = is_name text ≡ true
IsNamed (Word keyword) = Unit {0}
IsNamed (Number value type) = Unit {0}
IsNamed (Character value) = Unit {0}
IsNamed (Mark punctuator) = Unit {0}

abbrev pub AreNamed : List Placed → Type 0
AreNamed tokens = AllByRecursion (λ (placed : Placed). IsNamed placed.token) tokens

abbrev IsPiece : Piece → Type 0
IsPiece (Blank count fresh) = Unit {0}
IsPiece (Lexeme token count) = IsNamed token
IsPiece (Fault kind) = Unit {0}

by_test : (b : Bool) (x y : Piece) → (b ≡ true → IsPiece x) → (b ≡ false → IsPiece y) → IsPiece (if b then x else y)
by_test true x y f g = f refl
by_test false x y f g = g refl

word_piece-is : (c : ℕ) (text : List ℕ) → begins_word c ≡ true → IsPiece (word_piece (c ∷ text))
word_piece-is c text e = by (keyword_of (take (prefix_len is_word_byte (c ∷ text)) (c ∷ text)))
  where
    by : (found : Option Keyword) → IsNamed (option_map_or Word found (Name (take (prefix_len is_word_byte (c ∷ text)) (c ∷ text))))
    by (Some keyword) = tt
    by None = word-is_name c text e

number_piece-is : (c : ℕ) (text : List ℕ) → IsPiece (number_piece c text)
number_piece-is c text = by (number_of (c ∷ take (number_len c text) text))
  where
    by : (found : Option (ℕ × NumberType)) → IsPiece (option_map_or (λ number. Lexeme (Number number.0 number.1) (suc (number_len c text))) found (Fault number_fault))
    by (Some number) = tt
    by None = tt

character_piece-is : (text : List ℕ) → IsPiece (character_piece text)
character_piece-is text = by (character_of text)
  where
    by : (found : Option (ℕ × ℕ)) → IsPiece (option_map_or (λ found. Lexeme (Character found.0) (suc found.1)) found (Fault character_fault))
    by (Some found) = tt
    by None = tt

comment_piece-is : (text : List ℕ) → IsPiece (comment_piece text)
comment_piece-is text = by (close_len (drop 2 text))
  where
    by : (found : Option ℕ) → IsPiece (option_map_or (λ count. Blank (2 + count) false) found (Fault Comment))
    by (Some count) = tt
    by None = tt

mark_piece-is : (text : List ℕ) → IsPiece (mark_piece text)
mark_piece-is text = by (punctuator_of text)
  where
    by : (found : Option (List ℕ × Punctuator)) → IsPiece (option_map_or (λ found. Lexeme (Mark found.1) (length found.0)) found (Fault Byte))
    by (Some found) = tt
    by None = tt

first_piece-is : (fresh : Bool) (c : ℕ) (text : List ℕ) → IsPiece (first_piece fresh c text)
unfolding first_piece
first_piece-is fresh c text =
    by_test (is_blank_byte c) _ _ (λ e. tt) (λ e.
    by_test (starts_with nat_eq (c ∷ text) (codes "//")) _ _ (λ e. tt) (λ e.
    by_test (starts_with nat_eq (c ∷ text) (codes "/*")) _ _ (λ e. comment_piece-is (c ∷ text)) (λ e.
    by_test (fresh && (c == 35) && is_marker text) _ _ (λ e. tt) (λ e.
    by_test (begins_word c) _ _ (word_piece-is c text) (λ e.
    by_test (is_digit c) _ _ (λ e. number_piece-is c text) (λ e.
    by_test (c == 39) _ _ (λ e. character_piece-is text) (λ e. mark_piece-is (c ∷ text))))))))

-- ---- texts

with_token-named : (placed : Placed) (outcome : Result (List Placed) (TokenFaultKind × ℕ)) → IsNamed placed.token → IfOk outcome AreNamed → IfOk (with_token placed outcome) AreNamed
with_token-named placed (Ok tokens) h k = (h, k)
with_token-named placed (Err why) h k = tt

pub tokens-named : (fresh : Bool) (offset : ℕ) (text : List ℕ) (outcome : Result (List Placed) (TokenFaultKind × ℕ)) → Lexes fresh offset text outcome → IfOk outcome AreNamed
tokens-named _ _ _ _ (ended fresh offset) = tt
tokens-named _ _ _ _ (blank fresh after offset c text count outcome e rest) = tokens-named after (offset + count) (drop count (c ∷ text)) outcome rest
tokens-named _ _ _ _ (lexeme fresh offset c text token count outcome e rest) =
    with_token-named (record { token = token; offset = offset }) outcome (subst IsPiece e (first_piece-is fresh c text))
    (tokens-named false (offset + count) (drop count (c ∷ text)) outcome rest)
tokens-named _ _ _ _ (fault fresh offset c text kind e) = tt
