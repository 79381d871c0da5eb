-- An example: digits in brackets, as `(042)`, over bytes.
use Rattle.std.proofs.Common.{◌≡◌, ℕ, Bool, true, false, List, [], ◌∷◌, ◌++◌, Option, Some, None, refl, sym, ap, ◌∙◌, subst, IsTrue, cond, ◌||◌, not, eqb-true}
use Rattle.std.specs.Prelude.{◌==◌, ◌&&◌, nat_le, if◌then◌else◌}
use Rattle.exact_read.specs.Reading.{Parser, Marks, plains, Stops}
use Rattle.exact_read.specs.Exact.{Exact}
use Rattle.exact_read.specs.Grammar.{anything, read_one, One, read_many, Many, none, read_then, Then, read_whole}
use Rattle.exact_read.proofs.Parts.{exact-one, exact-same, stops_anything}
use Rattle.exact_read.proofs.Then.{Joins, exact-then}
use Rattle.exact_read.proofs.Many.{Items, exact-many}
use Rattle.exact_read.proofs.Whole.{ExactWhole, exact-whole}

-- bytes as they are; no limit is ever exceeded
abbrev pub bytes : Marks ℕ ℕ
bytes = record { plain = λ byte. byte; over = λ byte. false }

abbrev pub class_of : (ℕ → Bool) → ℕ → Option ℕ
class_of test byte = if test byte then Some byte else None

abbrev pub is_digit : ℕ → Bool
is_digit byte = nat_le 48 byte && nat_le byte 57

abbrev pub is_open : ℕ → Bool
is_open byte = byte == 40

abbrev pub is_close : ℕ → Bool
is_close byte = byte == 41

-- a byte that passes a test
abbrev pub byte : (ℕ → Bool) → Parser ℕ (Unit {0}) ℕ
byte test = read_one bytes (λ b. b) (class_of test) (tt {0})

abbrev pub Byte : (ℕ → Bool) → ℕ → List ℕ → Type 0
Byte test = One (λ b. b) (class_of test)

-- digits, as long as one comes next
abbrev pub digits : Parser ℕ (Unit {0}) (List ℕ)
digits = read_many (λ _. is_digit) (λ _. byte is_digit) (λ _ _. tt {0}) (tt {0})

abbrev pub Digits : List ℕ → List ℕ → Type 0
Digits = Many (λ (_ : Unit {0}) (_ : ℕ). tt {0}) (λ _. Byte is_digit) (tt {0})

abbrev pub bracketed : Parser ℕ (Unit {0}) (ℕ × (List ℕ × ℕ))
bracketed = read_then (byte is_open) (λ _. read_then digits (λ _. byte is_close))

abbrev pub Bracketed : ℕ × (List ℕ × ℕ) → List ℕ → Type 0
Bracketed = Then (Byte is_open) (λ _. Then Digits (λ _. Byte is_close))

exact-byte : (entry test : ℕ → Bool) (sample : ℕ) → test sample ≡ true → Exact bytes entry (Byte test) (λ _. anything) (byte test)
exact-byte entry test sample passes = exact-one bytes entry (λ b. b) (class_of test) (tt {0}) (λ b. refl) sample sample (rw passes refl)

passes_class : (test : ℕ → Bool) (byte value : ℕ) (passes : Bool) → test byte ≡ passes → cond passes (Some byte) None ≡ Some value → test byte ≡ true
passes_class test byte value true e is = e
passes_class test byte value false e is = absurd (cc)

or_anything : (a : Bool) → IsTrue (a || true)
or_anything true = refl
or_anything false = refl

opens_anything : (rest : List ℕ) → Stops (λ token. is_digit token || true) rest
opens_anything [] = tt
opens_anything (token ∷ more) = or_anything (is_digit token)

items : Items bytes (λ (_ : Unit {0}). is_digit) (λ _. anything) (λ _. Byte is_digit) (λ _ _. anything) (λ _ _. tt {0})
items =
    record {
      begins = λ context x text one. (one.token, [], one.cut, passes_class is_digit one.token x (is_digit one.token) refl one.is);
      opens_next = λ context x rest stops. opens_anything rest;
      stops_item = λ context x rest opens. stops_anything rest;
    }

exact-digits : Exact bytes anything Digits (λ _ token. not (is_digit token)) digits
exact-digits =
    exact-same anything Digits digits (λ token h. or_anything (is_digit token)) (λ xs text h. h) (λ xs text h. h) (λ before. refl)
    (exact-many items (λ _. exact-byte is_digit is_digit 48 refl) (tt {0}))

-- the byte of a class that is one byte
only_byte : (byte wanted value : ℕ) → class_of (λ b. b == wanted) byte ≡ Some value → byte ≡ wanted
only_byte byte wanted value is = eqb-true byte wanted (passes_class (λ b. b == wanted) byte value (byte == wanted) refl is)

-- digits end where the bracket closes
digits_end : Joins bytes Digits (λ _ token. not (is_digit token)) (λ _. Byte is_close) (λ _ _. anything)
digits_end =
    record {
      ends = λ xs value left right rest one two stops. closes right two.token rest two.cut (only_byte two.token 41 value two.is);
      goes_on = λ xs left one. (41, 41 ∷ [], record { token = 41; is = refl; cut = refl });
    }
  where
    closes : (right : List ℕ) (token : ℕ) (rest : List ℕ) → right ≡ token ∷ [] → token ≡ 41 → Stops (λ t. not (is_digit t)) (plains bytes right ++ rest)
    closes right token rest cut is = subst (λ r. Stops (λ t. not (is_digit t)) (plains bytes r ++ rest)) (sym (cut ∙ ap (λ t. t ∷ []) is)) refl

brackets_end : Joins bytes (Byte is_open) (λ _. anything) (λ _. Then Digits (λ _. Byte is_close)) (λ _ _. anything)
brackets_end =
    record {
      ends = λ x pair left right rest one two stops. stops_anything (plains bytes right ++ rest);
      goes_on = λ x left one. (([], 41), 41 ∷ [], record { left = []; right = 41 ∷ []; cut = refl; first = none (tt {0}); second = record { token = 41; is = refl; cut = refl } });
    }

pub exact-bracketed : Exact bytes anything Bracketed (λ _. anything) bracketed
exact-bracketed =
    exact-then (exact-byte anything is_open 40 refl)
    (λ _. exact-then exact-digits (λ _. exact-byte (λ token. not (is_digit token)) is_close 41 refl) digits_end)
    brackets_end

-- whole inputs: exactly the digits in brackets are read, and every other is refused at its first wrong byte
pub exact-example : ExactWhole bytes Bracketed (read_whole (tt {0}) bracketed)
exact-example = exact-whole (tt {0}) exact-bracketed
