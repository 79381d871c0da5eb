-- A text has one list of tokens, or one first fault.
use Rattle.std.proofs.Common.{◌≡◌, ◌+◌, ℕ, Bool, true, false, List, [], ◌∷◌, drop, Result, Ok, Err, refl, ap, sym, ◌∙◌, subst}
use Rattle.c_token_spec.specs.declared.token.TokenFaultKind.{TokenFaultKind}
use Rattle.c_token_spec.specs.Lexical.{Placed, Token, Blank, Lexeme, Fault, first_piece, with_token, Lexes, ended, blank, lexeme, fault, AreTokens, IsTokenFault}

abbrev Outcome : Type 0
Outcome = Result (List Placed) (TokenFaultKind × ℕ)

at_end : (fresh : Bool) (offset : ℕ) (other : Outcome) → Lexes fresh offset [] other → other ≡ Ok []
at_end _ _ _ (ended fresh offset) = refl

-- after what a text begins with, the rest has the outcome
after_blank : (fresh after : Bool) (offset byte : ℕ) (text : List ℕ) (count : ℕ) → first_piece fresh byte text ≡ Blank count after → (other : Outcome)
    → Lexes fresh offset (byte ∷ text) other → Lexes after (offset + count) (drop count (byte ∷ text)) other
after_blank f a o b t c piece other (blank fresh after offset byte text count outcome piece2 more) =
    let count_is : count ≡ c = cc in
    let after_is : after ≡ a = cc in
    subst (λ x. Lexes x (o + c) (drop c (b ∷ t)) other) after_is (subst (λ n. Lexes after (o + n) (drop n (b ∷ t)) other) count_is more)
after_blank f a o b t c piece other (lexeme fresh offset byte text token count outcome piece2 more) = absurd (cc)
after_blank f a o b t c piece other (fault fresh offset byte text kind piece2) = absurd (cc)

record Following (offset byte : ℕ) (text : List ℕ) (token : Token) (count : ℕ) (other : Outcome) : Type 0 where
  outcome : Outcome
  is : other ≡ with_token (record { token = token; offset = offset }) outcome
  more : Lexes false (offset + count) (drop count (byte ∷ text)) outcome

after_lexeme : (fresh : Bool) (offset byte : ℕ) (text : List ℕ) (token : Token) (count : ℕ) → first_piece fresh byte text ≡ Lexeme token count
    → (other : Outcome) → Lexes fresh offset (byte ∷ text) other → Following offset byte text token count other
after_lexeme f o b t k c piece other (blank fresh after offset byte text count outcome piece2 more) = absurd (cc)
after_lexeme f o b t k c piece other (lexeme fresh offset byte text token count outcome piece2 more) =
    let count_is : count ≡ c = cc in
    let token_is : token ≡ k = cc in
    record {
      outcome = outcome;
      is = ap (λ (x : Token). with_token (record { token = x; offset = o }) outcome) token_is;
      more = subst (λ n. Lexes false (o + n) (drop n (b ∷ t)) outcome) count_is more;
    }
after_lexeme f o b t k c piece other (fault fresh offset byte text kind piece2) = absurd (cc)

at_fault : (fresh : Bool) (offset byte : ℕ) (text : List ℕ) (kind : TokenFaultKind) → first_piece fresh byte text ≡ Fault kind → (other : Outcome)
    → Lexes fresh offset (byte ∷ text) other → other ≡ Err (kind, offset)
at_fault f o b t k piece other (blank fresh after offset byte text count outcome piece2 more) = absurd (cc)
at_fault f o b t k piece other (lexeme fresh offset byte text token count outcome piece2 more) = absurd (cc)
at_fault f o b t k piece other (fault fresh offset byte text kind piece2) =
    let kind_is : kind ≡ k = cc in
    ap (λ (x : TokenFaultKind). Err (x, o)) kind_is

one_outcome : (fresh : Bool) (offset : ℕ) (text : List ℕ) (one other : Outcome) → Lexes fresh offset text one → Lexes fresh offset text other → one ≡ other
one_outcome _ _ _ _ other (ended fresh offset) h = sym (at_end fresh offset other h)
one_outcome _ _ _ _ other (blank fresh after offset byte text count outcome piece more) h =
    one_outcome after (offset + count) (drop count (byte ∷ text)) outcome other more (after_blank fresh after offset byte text count piece other h)
one_outcome _ _ _ _ other (lexeme fresh offset byte text token count outcome piece more) h =
    let following = after_lexeme fresh offset byte text token count piece other h in
    ap (with_token (record { token = token; offset = offset })) (one_outcome false (offset + count) (drop count (byte ∷ text)) outcome following.outcome more following.more)
    ∙ sym following.is
one_outcome _ _ _ _ other (fault fresh offset byte text kind piece) h = sym (at_fault fresh offset byte text kind piece other h)

-- ---- what an outcome says

abbrev is_ok : Outcome → Bool
is_ok (Ok tokens) = true
is_ok (Err reported) = false

abbrev tokens_in : Outcome → List Placed
tokens_in (Ok tokens) = tokens
tokens_in (Err reported) = []

abbrev kind_in : TokenFaultKind → Outcome → TokenFaultKind
kind_in other (Ok tokens) = other
kind_in other (Err reported) = reported.0

abbrev place_in : Outcome → ℕ
place_in (Ok tokens) = 0
place_in (Err reported) = reported.1

pub one_tokens : (text : List ℕ) (one other : List Placed) → AreTokens text one → AreTokens text other → one ≡ other
one_tokens text one other x y = ap tokens_in (one_outcome true 0 text (Ok one) (Ok other) x y)

pub tokens_or_fault : (text : List ℕ) (tokens : List Placed) (kind : TokenFaultKind) (offset : ℕ) → AreTokens text tokens → IsTokenFault text kind offset → ⊥
tokens_or_fault text tokens kind offset x y =
    let apart : true ≡ false = ap is_ok (one_outcome true 0 text (Ok tokens) (Err (kind, offset)) x y) in
    absurd (cc)

pub one_token_fault : (text : List ℕ) (one other : TokenFaultKind) (offset place : ℕ) → IsTokenFault text one offset → IsTokenFault text other place
    → (one ≡ other) × (offset ≡ place)
one_token_fault text one other offset place x y =
    let same = one_outcome true 0 text (Err (one, offset)) (Err (other, place)) x y in
    (ap (kind_in one) same, ap place_in same)
