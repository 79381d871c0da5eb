-- What one token does to the place of the scan.
use Rattle.std.proofs.Common.{◌≡◌, ℕ, ◌+◌, ◌-◌, ◌==◌, ◌&&◌, Bool, true, false, if◌then◌else◌, refl, ap, ◌∙◌, arith, List}
use Rattle.c_token_spec.specs.declared.token.Keyword.{Keyword}
use Rattle.c_token_spec.specs.declared.token.Keyword.TheVariants.{Struct, Enum}
use Rattle.c_token_spec.specs.declared.token.Punctuator.{Punctuator}
use Rattle.c_token_spec.specs.declared.token.Punctuator.TheVariants.{LeftParenthesis, LeftBracket, LeftBrace, RightParenthesis, RightBracket, RightBrace, Assign, Comma, Semicolon}
use Rattle.c_token_spec.specs.Lexical.{Token, Name, Word, Number, Character, Mark}
use Rattle.c_parse_spec.specs.Initials.{Begun, Nothing, Keyword as AfterWord, Tagged, Place, depth_after, in_value_outside, begun_after, after, completes}

abbrev pub at : (depth : ℕ) → (in_value : Bool) → Begun → Place
at depth in_value begun = record { depth = depth; in_value = in_value; begun = begun }

-- no bracket, no `=`, `,` or `;`, and neither `struct` nor `enum`
abbrev pub is_plain_mark : Punctuator → Bool
is_plain_mark LeftParenthesis = false
is_plain_mark LeftBracket = false
is_plain_mark LeftBrace = false
is_plain_mark RightParenthesis = false
is_plain_mark RightBracket = false
is_plain_mark RightBrace = false
is_plain_mark Assign = false
is_plain_mark Comma = false
is_plain_mark Semicolon = false
is_plain_mark other = true

abbrev pub is_plain_word : Keyword → Bool
is_plain_word Struct = false
is_plain_word Enum = false
is_plain_word other = true

abbrev pub is_plain : Token → Bool
is_plain (Name text) = true
is_plain (Word keyword) = is_plain_word keyword
is_plain (Number value type) = true
is_plain (Character value) = true
is_plain (Mark punctuator) = is_plain_mark punctuator

abbrev pub is_separator : Token → Bool
is_separator (Mark Assign) = true
is_separator (Mark Comma) = true
is_separator (Mark Semicolon) = true
is_separator other = false

abbrev pub is_opening : Token → Bool
is_opening (Mark LeftParenthesis) = true
is_opening (Mark LeftBracket) = true
is_opening (Mark LeftBrace) = true
is_opening other = false

abbrev pub is_closing : Token → Bool
is_closing (Mark RightParenthesis) = true
is_closing (Mark RightBracket) = true
is_closing (Mark RightBrace) = true
is_closing other = false

abbrev pub is_brace : Token → Bool
is_brace (Mark LeftBrace) = true
is_brace other = false

-- `struct` and `enum`
abbrev pub is_tag_word : Token → Bool
is_tag_word (Word Struct) = true
is_tag_word (Word Enum) = true
is_tag_word other = false

-- ---- places

places : (d e : ℕ) (v w : Bool) (b c : Begun) → d ≡ e → v ≡ w → b ≡ c → at d v b ≡ at e w c
places d e v w b c f g h = ap (λ x. at x v b) f ∙ ap (λ x. at e x b) g ∙ ap (λ x. at e w x) h

same : (test v : Bool) → (if test then v else v) ≡ v
same true v = refl
same false v = refl

kept : (test v w : Bool) → w ≡ v → (if test then w else v) ≡ v
kept true v w e = e
kept false v w e = refl

elsewhere : (test v w : Bool) → test ≡ false → (if test then w else v) ≡ v
elsewhere true v w e = absurd (cc)
elsewhere false v w e = refl

-- what may be begun where a part begins or ends: nothing, or no bare `struct` or `enum`
pub data Stage : Type 0 where
  Fresh : Stage
  Loose : Stage

abbrev pub Fits : Stage → Begun → Type 0
Fits Fresh Nothing = Unit {0}
Fits Fresh AfterWord = ⊥
Fits Fresh Tagged = ⊥
Fits Loose Nothing = Unit {0}
Fits Loose AfterWord = ⊥
Fits Loose Tagged = Unit {0}

mark_depth : (m : Punctuator) (d : ℕ) → is_plain_mark m ≡ true → depth_after d (Mark m) ≡ d
mark_depth LeftParenthesis d e = absurd (cc)
mark_depth LeftBracket d e = absurd (cc)
mark_depth LeftBrace d e = absurd (cc)
mark_depth RightParenthesis d e = absurd (cc)
mark_depth RightBracket d e = absurd (cc)
mark_depth RightBrace d e = absurd (cc)
mark_depth other d e = refl

mark_value : (m : Punctuator) (v : Bool) → is_plain_mark m ≡ true → in_value_outside v (Mark m) ≡ v
mark_value Assign v e = absurd (cc)
mark_value Comma v e = absurd (cc)
mark_value Semicolon v e = absurd (cc)
mark_value other v e = refl

word_begun : (k : Keyword) (b : Begun) → is_plain_word k ≡ true → begun_after b (Word k) ≡ Nothing
word_begun Struct b e = absurd (cc)
word_begun Enum b e = absurd (cc)
word_begun other b e = refl

name_begun : (b : Begun) (text : List ℕ) → Fits Loose b → begun_after b (Name text) ≡ Nothing
name_begun Nothing text h = refl
name_begun AfterWord text h = absurd h
name_begun Tagged text h = refl

pub plain_after : (token : Token) (d : ℕ) (v : Bool) (b : Begun) → is_plain token ≡ true → Fits Loose b → after (at d v b) token ≡ at d v Nothing
plain_after (Name text) d v b e h = places d d _ v _ Nothing refl (same (d == 0) v) (name_begun b text h)
plain_after (Word k) d v b e h = places d d _ v _ Nothing refl (same (d == 0) v) (word_begun k b e)
plain_after (Number value type) d v b e h = places d d _ v _ Nothing refl (same (d == 0) v) refl
plain_after (Character value) d v b e h = places d d _ v _ Nothing refl (same (d == 0) v) refl
plain_after (Mark m) d v b e h = places _ d _ v _ Nothing (mark_depth m d e) (kept (d == 0) v _ (mark_value m v e)) refl

pub separator_after : (token : Token) (d : ℕ) (v : Bool) (b : Begun) → is_separator token ≡ true → d == 0 ≡ false → after (at d v b) token ≡ at d v Nothing
separator_after (Mark Assign) d v b e h = places d d _ v Nothing Nothing refl (elsewhere (d == 0) v true h) refl
separator_after (Mark Comma) d v b e h = places d d _ v Nothing Nothing refl (elsewhere (d == 0) v false h) refl
separator_after (Mark Semicolon) d v b e h = places d d _ v Nothing Nothing refl (elsewhere (d == 0) v false h) refl
separator_after other d v b e h = absurd (cc)

pub opening_after : (token : Token) (d : ℕ) (v : Bool) (b : Begun) → is_opening token ≡ true → after (at d v b) token ≡ at (d + 1) v Nothing
opening_after (Mark LeftParenthesis) d v b e = places _ (d + 1) _ v Nothing Nothing refl (same (d == 0) v) refl
opening_after (Mark LeftBracket) d v b e = places _ (d + 1) _ v Nothing Nothing refl (same (d == 0) v) refl
opening_after (Mark LeftBrace) d v b e = places _ (d + 1) _ v Nothing Nothing refl (same (d == 0) v) refl
opening_after other d v b e = absurd (cc)

one_less : (d : ℕ) → d + 1 - 1 ≡ d
one_less d = omega arith

pub closing_after : (token : Token) (d : ℕ) (v : Bool) (b : Begun) → is_closing token ≡ true → after (at (d + 1) v b) token ≡ at d v Nothing
closing_after (Mark RightParenthesis) d v b e = places _ d _ v Nothing Nothing (one_less d) (same (d + 1 == 0) v) refl
closing_after (Mark RightBracket) d v b e = places _ d _ v Nothing Nothing (one_less d) (same (d + 1 == 0) v) refl
closing_after (Mark RightBrace) d v b e = places _ d _ v Nothing Nothing (one_less d) (same (d + 1 == 0) v) refl
closing_after other d v b e = absurd (cc)

pub word_after : (token : Token) (d : ℕ) (v : Bool) (b : Begun) → is_tag_word token ≡ true → after (at d v b) token ≡ at d v AfterWord
word_after (Word Struct) d v b e = places d d _ v AfterWord AfterWord refl (same (d == 0) v) refl
word_after (Word Enum) d v b e = places d d _ v AfterWord AfterWord refl (same (d == 0) v) refl
word_after other d v b e = absurd (cc)

pub tag_after : (text : List ℕ) (d : ℕ) (v : Bool) → after (at d v AfterWord) (Name text) ≡ at d v Tagged
tag_after text d v = places d d _ v Tagged Tagged refl (same (d == 0) v) refl

-- ---- definitions

-- a token that is no `{` completes none
pub no_list : (b : Begun) (token : Token) → is_brace token ≡ false → completes b token ≡ false
no_list Nothing token e = refl
no_list AfterWord (Mark LeftBrace) e = absurd (cc)
no_list AfterWord other e = refl
no_list Tagged (Mark LeftBrace) e = absurd (cc)
no_list Tagged other e = refl

pub plain_no_brace : (token : Token) → is_plain token ≡ true → is_brace token ≡ false
plain_no_brace (Mark LeftBrace) e = absurd (cc)
plain_no_brace other e = refl

pub separator_no_brace : (token : Token) → is_separator token ≡ true → is_brace token ≡ false
separator_no_brace (Mark LeftBrace) e = absurd (cc)
separator_no_brace other e = refl

pub closing_no_brace : (token : Token) → is_closing token ≡ true → is_brace token ≡ false
closing_no_brace (Mark LeftBrace) e = absurd (cc)
closing_no_brace other e = refl

pub word_no_brace : (token : Token) → is_tag_word token ≡ true → is_brace token ≡ false
word_no_brace (Mark LeftBrace) e = absurd (cc)
word_no_brace other e = refl

pub never : (v c : Bool) → c ≡ false → v && c ≡ false
never true c e = e
never false c e = refl

pub positive : (d : ℕ) → d + 1 == 0 ≡ false
positive d = grind arith
