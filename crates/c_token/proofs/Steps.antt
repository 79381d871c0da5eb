-- The tokens of a text, one piece further.
use Rattle.std.proofs.Common.{◌≡◌, ℕ, ◌+◌, Bool, true, false, List, [], ◌∷◌, ◌++◌, Result, Ok, Err, drop, refl, ap, sym, subst, append_assoc, append-nil}
use Rattle.c_token_spec.specs.declared.token.TokenFaultKind.{TokenFaultKind}
use Rattle.c_token_spec.specs.Lexical.{Token, Placed, Blank, Lexeme, Fault, first_piece, with_token, Lexes, ended, blank, lexeme, fault}

abbrev pub Outcome : Type 0
Outcome = Result (List Placed) (TokenFaultKind × ℕ)

-- some tokens before those of an outcome
abbrev pub with_tokens : List Placed → Outcome → Outcome
with_tokens placed (Ok tokens) = Ok (placed ++ tokens)
with_tokens placed (Err stop) = Err stop

-- the outcome at an offset continues what was read before it
pub record GoesOn (whole : List ℕ) (placed : List Placed) (fresh : Bool) (offset : ℕ) (rest : List ℕ) : Type 0 where
  pub on : (outcome : Outcome) → Lexes fresh offset rest outcome → Lexes true 0 whole (with_tokens placed outcome)

pub at_start : (whole : List ℕ) → GoesOn whole [] true 0 whole
at_start whole = record { on = start whole }
  where
    start : (whole : List ℕ) (outcome : Outcome) → Lexes true 0 whole outcome → Lexes true 0 whole (with_tokens [] outcome)
    start whole (Ok tokens) h = h
    start whole (Err f) h = h

one_more : (placed : List Placed) (token : Placed) (outcome : Outcome) → with_tokens placed (with_token token outcome) ≡ with_tokens (placed ++ token ∷ []) outcome
one_more placed token (Ok tokens) = ap (λ t. Ok t) (sym (append_assoc placed (token ∷ []) tokens))
one_more placed token (Err f) = refl

pub after_blank : {whole : List ℕ} {placed : List Placed} {fresh : Bool} {offset : ℕ} {rest : List ℕ} (byte : ℕ) (text : List ℕ) (count : ℕ) (after : Bool) → GoesOn whole placed fresh offset rest → rest ≡ byte ∷ text → first_piece fresh byte text ≡ Blank count after → GoesOn whole placed after (offset + count) (drop count rest)
after_blank {fresh = fresh} {offset = offset} byte text count after before cut piece =
    record { on = λ outcome h. before.on outcome (subst (λ t. Lexes fresh offset t outcome) (sym cut) (blank fresh after offset byte text count outcome piece (subst (λ t. Lexes after (offset + count) (drop count t) outcome) cut h))) }

pub after_token : {whole : List ℕ} {placed : List Placed} {fresh : Bool} {offset : ℕ} {rest : List ℕ} (byte : ℕ) (text : List ℕ) (token : Token) (count : ℕ) → GoesOn whole placed fresh offset rest → rest ≡ byte ∷ text → first_piece fresh byte text ≡ Lexeme token count → GoesOn whole (placed ++ record { token = token; offset = offset } ∷ []) false (offset + count) (drop count rest)
after_token {whole = whole} {placed = placed} {fresh = fresh} {offset = offset} byte text token count before cut piece =
    let placed_here : Placed = record { token = token; offset = offset } in
    record {
      on = λ outcome h. subst (Lexes true 0 whole) (one_more placed placed_here outcome)
          (before.on (with_token placed_here outcome) (subst (λ t. Lexes fresh offset t (with_token placed_here outcome)) (sym cut) (lexeme fresh offset byte text token count outcome piece (subst (λ t. Lexes false (offset + count) (drop count t) outcome) cut h))));
    }

pub at_fault : {whole : List ℕ} {placed : List Placed} {fresh : Bool} {offset : ℕ} {rest : List ℕ} (byte : ℕ) (text : List ℕ) (kind : TokenFaultKind) → GoesOn whole placed fresh offset rest → rest ≡ byte ∷ text → first_piece fresh byte text ≡ Fault kind → Lexes true 0 whole (Err (kind, offset))
at_fault {fresh = fresh} {offset = offset} byte text kind before cut piece = before.on (Err (kind, offset)) (subst (λ t. Lexes fresh offset t (Err (kind, offset))) (sym cut) (fault fresh offset byte text kind piece))

pub at_end : {whole : List ℕ} {placed : List Placed} {fresh : Bool} {offset : ℕ} {rest : List ℕ} → GoesOn whole placed fresh offset rest → rest ≡ [] → Lexes true 0 whole (Ok placed)
at_end {whole} {placed} {fresh} {offset} {rest} before cut =
    subst (λ t. Lexes true 0 whole (Ok t)) (append-nil placed) (before.on (Ok []) (subst (λ t. Lexes fresh offset t (Ok [])) (sym cut) (ended fresh offset)))
