-- The words of integer types are read exactly.
use Rattle.std.proofs.Common.{◌≡◌, ℕ, true, List, [], ◌∷◌, ◌++◌, Bool, not, Ok, refl, sym, subst, append-nil, ap, append_assoc, zero, suc, ◌≤◌, arith, length, false, cond, ◌∙◌, IsTrue, Err}
use Rattle.std.specs.Option.{is_some}
use Rattle.c_token_spec.specs.declared.token.Keyword.{Keyword}
use Rattle.c_token_spec.specs.Lexical.{Placed, Token, Name as name_token, Word, Number as number_token, Character as character_token, Mark}
use Rattle.c_parse_spec.specs.declared.Role.{Role}
use Rattle.c_parse_spec.specs.declared.Role.TheVariants.{Nothing}
use Rattle.c_parse_spec.specs.Leaves.{Leaf, plain, keyword_at, marks}
use Rattle.c_parse_spec.specs.Expressions.{integer_type_of}
use Rattle.exact_read.specs.Reading.{Outcome, plains, Within, Stops, limit, Fault, LimitExceeded, Wrong}
use Rattle.exact_read.specs.Exact.{IsTaken, Exact}
use Rattle.exact_read.specs.Grammar.{read_at_most, bind, anything}
use Rattle.exact_read.proofs.Basics.{limit-bind}
use Rattle.c_parse_laws.specs.Parsers.{token}
use Rattle.c_parse_laws.specs.Types.{goes_on, word_of, read_words}

-- each keyword names a type with those before it
pub data WordsAre : (words more : List Keyword) → List Leaf → Type 0 where
  none : (words : List Keyword) → WordsAre words [] []
  some : (words : List Keyword) (w : Keyword) (more : List Keyword) (offset : ℕ) (text : List Leaf) → is_some (integer_type_of (words ++ w ∷ [])) ≡ true → WordsAre (words ++ w ∷ []) more text → WordsAre words (w ∷ more) (plain (keyword_at w offset) ∷ text)

abbrev stops_words : List Keyword → Placed → Bool
stops_words words t = not (goes_on words t.token)

-- words are always read
data Went (words : List Keyword) (before : List Placed) : Outcome Placed Role (List Keyword) → Type 0 where
  went : (more : List Keyword) (rest : List Placed) (text : List Leaf) → before ≡ plains marks text ++ rest → WordsAre words more text → Within marks text → Stops (stops_words (words ++ more)) rest → Went words before (Ok (more, rest))

abbrev words_at : ℕ → List Keyword → List Placed → Outcome Placed Role (List Keyword)
words_at = read_at_most (λ words next. goes_on words next.token) (λ words. token Nothing plain (λ next. word_of next.token)) (λ words w. words ++ w ∷ [])

went_none : (words : List Keyword) (before : List Placed) → Stops (stops_words words) before → Went words before (Ok ([], before))
went_none words before stops = went [] before [] refl (none words) tt (subst (λ w. Stops (stops_words w) before) (sym (append-nil words)) stops)

went_more : (words : List Keyword) (w : Keyword) (offset : ℕ) (before : List Placed) (o : Outcome Placed Role (List Keyword)) → is_some (integer_type_of (words ++ w ∷ [])) ≡ true → Went (words ++ w ∷ []) before o → Went words (keyword_at w offset ∷ before) (bind o (λ xs after. Ok (w ∷ xs, after)))
went_more words w offset before o e (went more rest text cut are within stops) =
    went (w ∷ more) rest (plain (keyword_at w offset) ∷ text) (ap (λ t. keyword_at w offset ∷ t) cut) (some words w more offset text e are) (refl, within) (subst (λ l. Stops (stops_words l) rest) (append_assoc words (w ∷ []) more) stops)

words_go : (n : ℕ) (words : List Keyword) (before : List Placed) → length before ≤ n → Went words before (words_at n words before)
words_go zero words [] h = went_none words [] tt
words_go zero words (t ∷ more) h = absurd (omega arith)
words_go (suc n) words [] h = went_none words [] tt
words_go (suc n) words (t ∷ more) h = by_token t.token t.offset (λ ws. words_go n ws more (omega arith))
  where
    by_word : (w : Keyword) (o : ℕ) → ((ws : List Keyword) → Went ws more (words_at n ws more)) → (b : Bool) → goes_on words (Word w) ≡ b → Went words (keyword_at w o ∷ more) (cond b (bind (words_at n (words ++ w ∷ []) more) (λ xs after. Ok (w ∷ xs, after))) (Ok ([], keyword_at w o ∷ more)))
    by_word w o again true e = went_more words w o more (words_at n (words ++ w ∷ []) more) e (again (words ++ w ∷ []))
    by_word w o again false e = went_none words (keyword_at w o ∷ more) (rw e refl)

    by_token : (k : Token) (o : ℕ) → ((ws : List Keyword) → Went ws more (words_at n ws more)) → Went words (record { token = k; offset = o } ∷ more) (words_at (suc n) words (record { token = k; offset = o } ∷ more))
    by_token (Word w) o again = by_word w o again (goes_on words (Word w)) refl
    by_token (name_token spelling) o again = went_none words _ refl
    by_token (number_token value type) o again = went_none words _ refl
    by_token (character_token value) o again = went_none words _ refl
    by_token (Mark p) o again = went_none words _ refl

words_again : (n : ℕ) (words more : List Keyword) (text : List Leaf) (rest : List Placed) → WordsAre words more text → length (plains marks text ++ rest) ≤ n → Stops (stops_words (words ++ more)) rest → words_at n words (plains marks text ++ rest) ≡ limit marks text rest (Ok (more, rest))
words_again zero words more text rest (none ws) h stops = refl
words_again (suc n) words more text [] (none ws) h stops = refl
words_again (suc n) words more text (t ∷ rest) (none ws) h stops = rw (not_true (goes_on ws t.token) (subst (λ l. IsTrue (not (goes_on l t.token))) (append-nil ws) stops)) refl
  where
    not_true : (b : Bool) → IsTrue (not b) → b ≡ false
    not_true true x = absurd (cc)
    not_true false x = refl
words_again zero words more text rest (some ws w xs offset t e are) h stops = absurd (omega arith)
words_again (suc n) words more text rest (some ws w xs offset t e are) h stops =
    let again = words_again n (ws ++ w ∷ []) xs t rest are (omega arith) (subst (λ l. Stops (stops_words l) rest) (sym (append_assoc ws (w ∷ []) xs)) stops) in
    rw e (ap (λ o. bind o (λ vs after. Ok (w ∷ vs, after))) again ∙ limit-bind marks t rest xs (λ vs after. Ok (w ∷ vs, after)))

pub exact-words : (words : List Keyword) → Exact marks anything (WordsAre words) (λ more t. not (goes_on (words ++ more) t.token)) (read_words words)
exact-words words =
    record {
      takes = λ before more rest enters e. taken before more rest (subst (Went words before) e (words_go (length before) words before (omega arith)));
      again = λ more text rest are stops enters. words_again (length (plains marks text ++ rest)) words more text rest are (omega arith) stops;
      wrongs = λ before kind rest enters e. absurd (never before (Wrong kind) rest (subst (Went words before) e (words_go (length before) words before (omega arith))));
      exceeds = λ before rest enters e. absurd (never before LimitExceeded rest (subst (Went words before) e (words_go (length before) words before (omega arith))));
    }
  where
    taken : (before : List Placed) (more : List Keyword) (rest : List Placed) → Went words before (Ok (more, rest)) → IsTaken marks (WordsAre words) (λ more t. not (goes_on (words ++ more) t.token)) before more rest
    taken before more rest (went m r text cut are within stops) = record { text = text; cut = cut; derives = are; within = within; stops = stops }

    never : (before : List Placed) (fault : Fault Role) (rest : List Placed) → Went words before (Err (fault, rest)) → ⊥
    never before fault rest h = elim h [ ]
