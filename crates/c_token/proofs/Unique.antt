-- A text has one outcome: its tokens, or one first fault.
use Rattle.std.proofs.Common.{◌≡◌, ℕ, ◌+◌, Bool, true, false, List, [], ◌∷◌, Ok, Err, drop, refl, ap, sym, ◌∙◌, subst}
use Rattle.c_token_spec.specs.declared.token.TokenFaultKind.{TokenFaultKind}
use Rattle.c_token_spec.specs.Lexical.{Token, Placed, Blank, Lexeme, Fault, first_piece, with_token, Lexes, ended, blank, lexeme, fault}
use Rattle.c_token.proofs.Steps.{Outcome}

-- what follows a blank, whatever the outcome
following : (fresh after : Bool) (offset byte : ℕ) (text : List ℕ) (count : ℕ) (outcome : Outcome) → first_piece fresh byte text ≡ Blank count after → Lexes fresh offset (byte ∷ text) outcome → Lexes after (offset + count) (drop count (byte ∷ text)) outcome
following fresh after offset byte text count outcome e (blank f a o b t n r e' more) =
    let p : Blank n a ≡ Blank count after = sym e' ∙ e in
    let h1 : n ≡ count = cc in
    let h2 : a ≡ after = cc in
    subst (λ k. Lexes after (offset + k) (drop k (byte ∷ text)) outcome) h1 (subst (λ v. Lexes v (offset + n) (drop n (byte ∷ text)) outcome) h2 more)
following fresh after offset byte text count outcome e (lexeme f o b t token n r e' more) = absurd (cc)
following fresh after offset byte text count outcome e (fault f o b t kind e') = absurd (cc)

-- what follows a token
record Following (offset byte : ℕ) (text : List ℕ) (token : Token) (count : ℕ) (outcome : Outcome) : Type 0 where
  more : Outcome
  rest : Lexes false (offset + count) (drop count (byte ∷ text)) more
  is : outcome ≡ with_token (record { token = token; offset = offset }) more

after_token : (fresh : Bool) (offset byte : ℕ) (text : List ℕ) (token : Token) (count : ℕ) (outcome : Outcome) → first_piece fresh byte text ≡ Lexeme token count → Lexes fresh offset (byte ∷ text) outcome → Following offset byte text token count outcome
after_token fresh offset byte text token count outcome e (blank f a o b t n r e' more) = absurd (cc)
after_token fresh offset byte text token count outcome e (lexeme f o b t other n r e' more) =
    let p : Lexeme other n ≡ Lexeme token count = sym e' ∙ e in
    let h1 : n ≡ count = cc in
    let h2 : other ≡ token = cc in
    record { more = r; rest = subst (λ k. Lexes false (offset + k) (drop k (byte ∷ text)) r) h1 more; is = ap (λ v. with_token (record { token = v; offset = offset }) r) h2 }
after_token fresh offset byte text token count outcome e (fault f o b t kind e') = absurd (cc)

at_fault : (fresh : Bool) (offset byte : ℕ) (text : List ℕ) (kind : TokenFaultKind) (outcome : Outcome) → first_piece fresh byte text ≡ Fault kind → Lexes fresh offset (byte ∷ text) outcome → outcome ≡ Err (kind, offset)
at_fault fresh offset byte text kind outcome e (blank f a o b t n r e' more) = absurd (cc)
at_fault fresh offset byte text kind outcome e (lexeme f o b t token n r e' more) = absurd (cc)
at_fault fresh offset byte text kind outcome e (fault f o b t other e') = let p : Fault other ≡ Fault kind = sym e' ∙ e in let h : other ≡ kind = cc in ap (λ k. Err (k, offset)) h

at_end : (fresh : Bool) (offset : ℕ) (outcome : Outcome) → Lexes fresh offset [] outcome → outcome ≡ Ok []
at_end fresh offset outcome (ended f o) = refl

pub Lexes-unique : (fresh : Bool) (offset : ℕ) (text : List ℕ) (one two : Outcome) → Lexes fresh offset text one → Lexes fresh offset text two → one ≡ two
Lexes-unique fresh offset text one two (ended f o) other = sym (at_end fresh offset two other)
Lexes-unique fresh offset text one two (blank f after o byte t count r e more) other =
    Lexes-unique after (offset + count) (drop count (byte ∷ t)) one two more (following fresh after offset byte t count two e other)
Lexes-unique fresh offset text one two (lexeme f o byte t token count r e more) other =
    let b = after_token fresh offset byte t token count two e other in
    ap (with_token (record { token = token; offset = offset })) (Lexes-unique false (offset + count) (drop count (byte ∷ t)) r b.more more b.rest) ∙ sym b.is
Lexes-unique fresh offset text one two (fault f o byte t kind e) other = sym (at_fault fresh offset byte t kind two e other)

pub not_both : (text : List ℕ) (kind : TokenFaultKind) (offset : ℕ) (placed : List Placed) → Lexes true 0 text (Err (kind, offset)) → Lexes true 0 text (Ok placed) → ⊥
not_both text kind offset placed one two =
    let left : Outcome = Err (kind, offset) in
    let right : Outcome = Ok placed in
    let e : left ≡ right = Lexes-unique true 0 text left right one two in
    absurd (cc)

pub same_tokens : (text : List ℕ) (one two : List Placed) → Lexes true 0 text (Ok one) → Lexes true 0 text (Ok two) → one ≡ two
same_tokens text one two a b =
    let left : Outcome = Ok one in
    let right : Outcome = Ok two in
    let e : left ≡ right = Lexes-unique true 0 text left right a b in
    cc
