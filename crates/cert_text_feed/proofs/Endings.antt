-- Each line ends with its only line feed.
use Rattle.std.specs.Prelude.{◌==◌, ◌%◌, ◌*◌, flat_map, All, codes, decimal}
use Rattle.std.specs.List.{list_all}
use Rattle.std.proofs.Common.{◌≡◌, ℕ, zero, suc, ◌+◌, ◌<◌, ◌≤◌, ◌^◌, Bool, true, false, ◌&&◌, not, List, [], ◌∷◌, ◌++◌, Option, Some, None, refl, ap, sym, ◌∙◌, cond, append_assoc, append-nil, arith, eqb-true}
use Rattle.std.proofs.lemmas.Bool.Decides.{nat_tests}
use Rattle.std.proofs.lemmas.Fmt.{decimal_by_steps}
use Rattle.std.proofs.lemmas.List.Elements.{All-head, All-tail}
use Rattle.std.proofs.lemmas.List.Folds.{list_all-append}
use Rattle.clause_check_spec.specs.declared.Literal.{Literal}
use Rattle.clause_check_spec.specs.Log.{Step}
use Rattle.proof_tree_spec.specs.declared.Counts.{Counts}
use Rattle.proof_tree_spec.specs.declared.Place.{Place}
use Rattle.proof_tree_spec.specs.declared.Place.TheVariants as place
use Rattle.proof_tree_spec.specs.Proofs.{BinaryPoint, SourcePoint, Points}
use Rattle.term_core_spec.specs.declared.Width.{Width}
use Rattle.term_core_spec.specs.declared.Width.TheVariants.{W8, W16, W32, W64}
use Rattle.tv_limits.specs.declared.TheConstants.{NESTING_LIMIT}
use Rattle.cert_text_spec.specs.declared.Operator.{Operator}
use Rattle.cert_text_spec.specs.declared.Operator.TheVariants as operator
use Rattle.cert_text_spec.specs.declared.Symbol.{Symbol}
use Rattle.cert_text_spec.specs.declared.Symbol.TheVariants as symbol
use Rattle.cert_text_spec.specs.Derivation.{Derives, none, some, spelled}
use Rattle.cert_text_spec.specs.Terms.{Expected, ATerm, AVariable, Arguments, Fits, after, text_at, word, operator_word, width_word, width_bound, number, operator_number, number_text, ending, symbol_text, argument_text, IsBelow, IsTerm, term_text}
use Rattle.cert_text_spec.specs.Points.{IsNumber, address_text, binary_text, place_text, source_text, number_of, IsBinaryPoint, IsSourcePoint, ArePoints}
use Rattle.cert_text_spec.specs.Lines.{Line, Header, Function, InlineBinary, InlineSource, Leaf, Case, RestrictBinary, RestrictSource, Split, Call, Relation, Log, LogStep, End, IsLine, IsPositive, IsStep, AreCounts, is_name, is_of_name, is_letter, literal_text, step_text, number_line, points_text, counts_text, line_text}
use Rattle.cert_text_laws.specs.Readers.{given, refused, is_hexadecimal, digit_value, read_hexadecimal, read_address}
use Rattle.cert_text_laws.proofs.Bytes.{given_parts}
use Rattle.cert_text_laws.proofs.Addresses.{simply-address}
use Rattle.cert_text_feed.specs.Readings.{is_open}

-- ---- bytes without a line feed

pub open-append : (xs ys : List ℕ) → is_open xs ≡ true → is_open ys ≡ true → is_open (xs ++ ys) ≡ true
open-append xs ys a b = list_all-append (λ byte. not (byte == 10)) xs ys ∙ ap (λ t. t && is_open ys) a ∙ b

above : (c : ℕ) → 10 < c → is_open (c ∷ []) ≡ true
above c h = grind (arith, nat_tests)

-- where a test fails of the line feed, bytes that pass it are open
open-passing : (test : ℕ → Bool) → test 10 ≡ false → (bytes : List ℕ) → list_all test bytes ≡ true → is_open bytes ≡ true
open-passing test fails [] e = refl
open-passing test fails (c ∷ bytes) e = by_first (test c) refl (list_all test bytes) refl e (λ h. open-passing test fails bytes h)
  where
    by_feed : (b : Bool) → (c == 10) ≡ b → test c ≡ true → is_open bytes ≡ true → (not b && is_open bytes) ≡ true
    by_feed false same t o = o
    by_feed true same t o = let f : test c ≡ false = ap test (eqb-true c 10 same) ∙ fails in absurd (cc)

    by_first : (a : Bool) → test c ≡ a → (b : Bool) → list_all test bytes ≡ b → (a && b) ≡ true → (list_all test bytes ≡ true → is_open bytes ≡ true) → is_open (c ∷ bytes) ≡ true
    by_first true t true all e again = by_feed (c == 10) refl t (again all)
    by_first true t false all e again = absurd (cc)
    by_first false t b all e again = absurd (cc)

open-all : {X : Type 0} (P : X → Type 0) (text : X → List ℕ) → ((x : X) → P x → is_open (text x) ≡ true) → (xs : List X) → All P xs → is_open (flat_map text xs) ≡ true
open-all P text each [] all = refl
open-all P text each (x ∷ xs) all = open-append (text x) (flat_map text xs) (each x (All-head P x xs all)) (open-all P text each xs (All-tail P x xs all))

open-decimal : (n : ℕ) → n < 2 ^ 64 → is_open (decimal n) ≡ true
open-decimal n h =
    decimal_by_steps (λ m digits. is_open digits ≡ true) (λ m small. above (48 + m) (omega arith))
    (λ m digits big f. open-append digits ((48 + m % 10) ∷ []) f (above (48 + m % 10) (omega arith))) n h

open-number : (n : ℕ) → IsNumber n → is_open (decimal n) ≡ true
open-number n h = open-decimal n (omega arith)

-- ---- addresses

open-hexadecimal : (digits value : ℕ) (text : List ℕ) (x : ℕ) → read_hexadecimal digits value text ≡ given x [] → list_all is_hexadecimal text ≡ true
open-hexadecimal zero value text x e = ap (λ t. list_all is_hexadecimal t) (given_parts {X = ℕ} e).1
open-hexadecimal (suc digits) value [] x e = refl
open-hexadecimal (suc digits) value (c ∷ text) x e = by_digit (is_hexadecimal c) refl e (λ h. open-hexadecimal digits (value * 16 + digit_value c) text x h)
  where
    by_digit : (b : Bool) → is_hexadecimal c ≡ b → cond b (read_hexadecimal digits (value * 16 + digit_value c) text) (refused (c ∷ text)) ≡ given x []
        → (read_hexadecimal digits (value * 16 + digit_value c) text ≡ given x [] → list_all is_hexadecimal text ≡ true) → list_all is_hexadecimal (c ∷ text) ≡ true
    by_digit true is e again = ap (λ t. t && list_all is_hexadecimal text) is ∙ again e
    by_digit false is e again = absurd (cc)

open-address : (a : ℕ) → IsNumber a → is_open (address_text a) ≡ true
open-address a h =
    open-passing is_hexadecimal refl (address_text a)
    (open-hexadecimal 8 0 (address_text a) a
    (ap read_address (sym (append-nil (address_text a))) ∙ simply-address.again a (address_text a) [] (record { number = h; is = refl }) tt))

-- ---- points

open-binary : (p : BinaryPoint) → IsBinaryPoint p → is_open (binary_text p) ≡ true
open-binary p h =
    open-append (flat_map (λ a. address_text a ++ codes "/") p.path) (address_text p.address)
    (open-all IsNumber (λ a. address_text a ++ codes "/") (λ a n. open-append (address_text a) (codes "/") (open-address a n) refl) p.path h.path)
    (open-address p.address h.address)

open-place : (p : Place) → IsNumber (number_of p) → is_open (place_text p) ≡ true
open-place (place.Test n) h = open-append (codes "t") (decimal n) refl (open-number n h)
open-place (place.Body n) h = open-append (codes "b") (decimal n) refl (open-number n h)
open-place (place.Call n) h = open-append (codes "k") (decimal n) refl (open-number n h)

open-source : (p : SourcePoint) → IsSourcePoint p → is_open (source_text p) ≡ true
open-source p h =
    open-append (flat_map (λ n. codes "k" ++ (decimal n ++ codes "/")) p.path) (place_text p.place)
    (open-all IsNumber (λ n. codes "k" ++ (decimal n ++ codes "/"))
    (λ n i. open-append (codes "k") (decimal n ++ codes "/") refl (open-append (decimal n) (codes "/") (open-number n i) refl)) p.path h.path)
    (open-place p.place h.place)

-- ---- terms

open-width : (w : Width) → is_open (width_word w) ≡ true
open-width W8 = refl
open-width W16 = refl
open-width W32 = refl
open-width W64 = refl

open-operator : (o : Operator) → is_open (operator_word o) ≡ true
open-operator operator.Equal = refl
open-operator operator.Less = refl
open-operator operator.Choose = refl
open-operator operator.Not = refl
open-operator operator.And = refl
open-operator operator.Or = refl
open-operator operator.Add = refl
open-operator operator.Subtract = refl
open-operator operator.Multiply = refl
open-operator operator.BitAnd = refl
open-operator operator.BitOr = refl
open-operator operator.BitXor = refl
open-operator operator.Complement = refl
open-operator operator.ShiftLeft = refl
open-operator operator.ShiftRight = refl
open-operator operator.ShiftRightSigned = refl
open-operator operator.Divide = refl
open-operator operator.Remainder = refl
open-operator operator.Join = refl
open-operator operator.Load = refl
open-operator (operator.ZeroExtend n) = refl
open-operator (operator.SignExtend n) = refl
open-operator (operator.Low n) = refl
open-operator (operator.Byte n) = refl

open-word : (s : Symbol) → is_open (word s) ≡ true
open-word (symbol.Truth true) = refl
open-word (symbol.Truth false) = refl
open-word (symbol.Constant w n) = open-width w
open-word (symbol.Register n) = refl
open-word (symbol.Entry n) = refl
open-word (symbol.Inlined n) = refl
open-word (symbol.Local n) = refl
open-word (symbol.IsSet n) = refl
open-word (symbol.Parameter n) = refl
open-word symbol.SourceMemory = refl
open-word symbol.ZoneMemory = refl
open-word symbol.BinaryMemory = refl
open-word (symbol.Open o) = open-operator o
open-word symbol.Close = refl

-- no bound of a number is above 2^64
small-width : (w : Width) → width_bound w ≤ 2 ^ 64
small-width W8 = omega arith
small-width W16 = omega arith
small-width W32 = omega arith
small-width W64 = omega arith

abbrev bound_of : Option (ℕ × ℕ) → ℕ
bound_of None = 0
bound_of (Some (n, bound)) = bound

small-operator : (o : Operator) → bound_of (operator_number o) ≤ 2 ^ 64
small-operator operator.Equal = omega arith
small-operator operator.Less = omega arith
small-operator operator.Choose = omega arith
small-operator operator.Not = omega arith
small-operator operator.And = omega arith
small-operator operator.Or = omega arith
small-operator operator.Add = omega arith
small-operator operator.Subtract = omega arith
small-operator operator.Multiply = omega arith
small-operator operator.BitAnd = omega arith
small-operator operator.BitOr = omega arith
small-operator operator.BitXor = omega arith
small-operator operator.Complement = omega arith
small-operator operator.ShiftLeft = omega arith
small-operator operator.ShiftRight = omega arith
small-operator operator.ShiftRightSigned = omega arith
small-operator operator.Divide = omega arith
small-operator operator.Remainder = omega arith
small-operator operator.Join = omega arith
small-operator operator.Load = omega arith
small-operator (operator.ZeroExtend n) = omega arith
small-operator (operator.SignExtend n) = omega arith
small-operator (operator.Low n) = omega arith
small-operator (operator.Byte n) = omega arith

small-symbol : (s : Symbol) → bound_of (number s) ≤ 2 ^ 64
small-symbol (symbol.Truth b) = omega arith
small-symbol (symbol.Constant w n) = small-width w
small-symbol (symbol.Register n) = omega arith
small-symbol (symbol.Entry n) = omega arith
small-symbol (symbol.Inlined n) = omega arith
small-symbol (symbol.Local n) = omega arith
small-symbol (symbol.IsSet n) = omega arith
small-symbol (symbol.Parameter n) = omega arith
small-symbol symbol.SourceMemory = omega arith
small-symbol symbol.ZoneMemory = omega arith
small-symbol symbol.BinaryMemory = omega arith
small-symbol (symbol.Open o) = small-operator o
small-symbol symbol.Close = omega arith

open-ending : (s : Symbol) → is_open (ending s) ≡ true
open-ending (symbol.Truth b) = refl
open-ending (symbol.Constant w n) = refl
open-ending (symbol.Register n) = refl
open-ending (symbol.Entry n) = refl
open-ending (symbol.Inlined n) = refl
open-ending (symbol.Local n) = refl
open-ending (symbol.IsSet n) = refl
open-ending (symbol.Parameter n) = refl
open-ending symbol.SourceMemory = refl
open-ending symbol.ZoneMemory = refl
open-ending symbol.BinaryMemory = refl
open-ending (symbol.Open o) = refl
open-ending symbol.Close = refl

open-optional : (n : Option (ℕ × ℕ)) → IsBelow n → bound_of n ≤ 2 ^ 64 → is_open (number_text n) ≡ true
open-optional None h small = refl
open-optional (Some (n, bound)) h small = open-decimal n (omega arith)

open-symbol : (s : Symbol) → IsBelow (number s) → is_open (symbol_text s) ≡ true
open-symbol s h =
    open-append (word s) (number_text (number s) ++ ending s) (open-word s)
    (open-append (number_text (number s)) (ending s) (open-optional (number s) h (small-symbol s)) (open-ending s))

open-argument : (s : Symbol) → is_open (symbol_text s) ≡ true → is_open (argument_text s) ≡ true
open-argument (symbol.Truth b) h = open-append (codes " ") (symbol_text (symbol.Truth b)) refl h
open-argument (symbol.Constant w n) h = open-append (codes " ") (symbol_text (symbol.Constant w n)) refl h
open-argument (symbol.Register n) h = open-append (codes " ") (symbol_text (symbol.Register n)) refl h
open-argument (symbol.Entry n) h = open-append (codes " ") (symbol_text (symbol.Entry n)) refl h
open-argument (symbol.Inlined n) h = open-append (codes " ") (symbol_text (symbol.Inlined n)) refl h
open-argument (symbol.Local n) h = open-append (codes " ") (symbol_text (symbol.Local n)) refl h
open-argument (symbol.IsSet n) h = open-append (codes " ") (symbol_text (symbol.IsSet n)) refl h
open-argument (symbol.Parameter n) h = open-append (codes " ") (symbol_text (symbol.Parameter n)) refl h
open-argument symbol.SourceMemory h = open-append (codes " ") (symbol_text symbol.SourceMemory) refl h
open-argument symbol.ZoneMemory h = open-append (codes " ") (symbol_text symbol.ZoneMemory) refl h
open-argument symbol.BinaryMemory h = open-append (codes " ") (symbol_text symbol.BinaryMemory) refl h
open-argument (symbol.Open o) h = open-append (codes " ") (symbol_text (symbol.Open o)) refl h
open-argument symbol.Close h = h

open-at : (e : Expected) (s : Symbol) → IsBelow (number s) → is_open (text_at e s) ≡ true
open-at (ATerm room) s h = open-symbol s h
open-at AVariable s h = open-symbol s h
open-at (Arguments room) s h = open-argument s (open-symbol s h)

open-spelled : (expected : List Expected) (symbols : List Symbol) → Derives Fits after expected symbols → is_open (spelled after text_at expected symbols) ≡ true
unfolding spelled
open-spelled expected symbols none = refl
open-spelled expected symbols (some e others s rest fits d) = open-append (text_at e s) (spelled after text_at (after e s ++ others) rest) (open-at e s fits.below) (open-spelled (after e s ++ others) rest d)

open-term : (symbols : List Symbol) → IsTerm symbols → is_open (term_text symbols) ≡ true
unfolding term_text
open-term symbols h = open-spelled (ATerm NESTING_LIMIT ∷ []) symbols h

-- ---- lines

-- the text ends with its only line feed
pub record EndsOnce (text : List ℕ) : Type 0 where
  pub front : List ℕ
  pub is : text ≡ front ++ 10 ∷ []
  pub unended : is_open front ≡ true

after_front : (front text : List ℕ) → is_open front ≡ true → EndsOnce text → EndsOnce (front ++ text)
after_front front text h e =
    record {
      front = front ++ e.front;
      is = ap (λ t. front ++ t) e.is ∙ sym (append_assoc front e.front (10 ∷ []));
      unended = open-append front e.front h e.unended;
    }

ends_there : (front : List ℕ) → is_open front ≡ true → EndsOnce (front ++ codes "\n")
ends_there front h = record { front = front; is = refl; unended = h }

ends_number : (n : ℕ) → IsNumber n → EndsOnce (number_line n)
ends_number n h = ends_there (decimal n) (open-number n h)

spaced : (text more : List ℕ) → is_open text ≡ true → EndsOnce more → EndsOnce (text ++ (codes " " ++ more))
spaced text more h e = after_front text (codes " " ++ more) h (after_front (codes " ") more refl e)

-- a part with a space after it, in brackets of its own
open-spaced : (text : List ℕ) → is_open text ≡ true → is_open (text ++ codes " ") ≡ true
open-spaced text h = open-append text (codes " ") h refl

open-pair : (one two : List ℕ) → is_open one ≡ true → is_open two ≡ true → is_open (one ++ (codes " " ++ (two ++ codes " "))) ≡ true
open-pair one two a b = open-append one (codes " " ++ (two ++ codes " ")) a (open-append (codes " ") (two ++ codes " ") refl (open-spaced two b))

open-points : (p : Points) → ArePoints p → is_open (points_text p) ≡ true
open-points p h = open-pair (binary_text p.binary) (source_text p.source) (open-binary p.binary h.binary) (open-source p.source h.source)

open-counts : (c : Counts) → AreCounts c → is_open (counts_text c) ≡ true
open-counts c h = open-pair (decimal c.binary) (decimal c.source) (open-number c.binary h.binary) (open-number c.source h.source)

open-name : (name : List ℕ) → is_name name ≡ true → is_open name ≡ true
open-name [] e = absurd (cc)
open-name (c ∷ name) e = by_first (is_letter c) refl (list_all is_of_name name) refl e
  where
    by_first : (a : Bool) → is_letter c ≡ a → (b : Bool) → list_all is_of_name name ≡ b → (a && b) ≡ true → is_open (c ∷ name) ≡ true
    by_first true one true all e = open-append (c ∷ []) name (open-passing is_letter refl (c ∷ []) (ap (λ t. t && true) one)) (open-passing is_of_name refl name all)
    by_first true one false all e = absurd (cc)
    by_first false one b all e = absurd (cc)

open-literal : (l : Literal) → IsPositive l.variable → is_open (literal_text l ++ codes " ") ≡ true
open-literal l h = open-spaced (literal_text l) (open-append (cond l.is_negated (codes "-") []) (decimal l.variable) (by_sign l.is_negated) (open-number l.variable h.1))
  where
    by_sign : (b : Bool) → is_open (cond b (codes "-") []) ≡ true
    by_sign true = refl
    by_sign false = refl

ends_step : (step : Step) → IsStep step → EndsOnce (step_text step)
ends_step step h =
    after_front (flat_map (λ l. literal_text l ++ codes " ") step.literals) (codes "0 " ++ (flat_map (λ n. decimal n ++ codes " ") step.hints ++ codes "0\n"))
    (open-all (λ (l : Literal). IsPositive l.variable) (λ l. literal_text l ++ codes " ") open-literal step.literals h.literals)
    (after_front (codes "0 ") (flat_map (λ n. decimal n ++ codes " ") step.hints ++ codes "0\n") refl
    (after_front (flat_map (λ n. decimal n ++ codes " ") step.hints) (codes "0\n")
    (open-all IsPositive (λ n. decimal n ++ codes " ") (λ n p. open-spaced (decimal n) (open-number n p.1)) step.hints h.hints) (ends_there (codes "0") refl)))

pub ends_once : (line : Line) → IsLine line → EndsOnce (line_text line)
ends_once Header h = ends_there (codes "tv-cert 1") refl
ends_once (Function name stack) h =
    after_front (codes "function ") (name ++ (codes " stack " ++ number_line stack)) refl
    (after_front name (codes " stack " ++ number_line stack) (open-name name h.0) (after_front (codes " stack ") (number_line stack) refl (ends_number stack h.1)))
ends_once (InlineBinary p) h = after_front (codes "inline a ") (binary_text p ++ codes "\n") refl (ends_there (binary_text p) (open-binary p h))
ends_once (InlineSource p) h = after_front (codes "inline c ") (source_text p ++ codes "\n") refl (ends_there (source_text p) (open-source p h))
ends_once (Leaf logs) h = after_front (codes "leaf ") (number_line logs) refl (ends_number logs h)
ends_once (Case test) h = after_front (codes "case ") (term_text test ++ codes "\n") refl (ends_there (term_text test) (open-term test h))
ends_once (RestrictBinary p count) h =
    after_front (codes "restrict a ") (binary_text p ++ (codes " " ++ number_line count)) refl (spaced (binary_text p) (number_line count) (open-binary p h.0) (ends_number count h.1))
ends_once (RestrictSource p count) h =
    after_front (codes "restrict c ") (source_text p ++ (codes " " ++ number_line count)) refl (spaced (source_text p) (number_line count) (open-source p h.0) (ends_number count h.1))
ends_once (Split p enter step relations) h =
    after_front (codes "split ") (points_text p ++ (counts_text enter ++ (counts_text step ++ number_line relations))) refl
    (after_front (points_text p) (counts_text enter ++ (counts_text step ++ number_line relations)) (open-points p h.0)
    (after_front (counts_text enter) (counts_text step ++ number_line relations) (open-counts enter h.1)
    (after_front (counts_text step) (number_line relations) (open-counts step h.2) (ends_number relations h.3))))
ends_once (Call p counts before later) h =
    after_front (codes "call ") (points_text p ++ (counts_text counts ++ (decimal before ++ (codes " " ++ number_line later)))) refl
    (after_front (points_text p) (counts_text counts ++ (decimal before ++ (codes " " ++ number_line later))) (open-points p h.0)
    (after_front (counts_text counts) (decimal before ++ (codes " " ++ number_line later)) (open-counts counts h.1)
    (spaced (decimal before) (number_line later) (open-number before h.2) (ends_number later h.3))))
ends_once (Relation t) h = after_front (codes "rel ") (term_text t ++ codes "\n") refl (ends_there (term_text t) (open-term t h))
ends_once (Log steps) h = after_front (codes "log ") (number_line steps) refl (ends_number steps h)
ends_once (LogStep step) h = after_front (codes "s ") (step_text step) refl (ends_step step h)
ends_once End h = ends_there (codes "end") refl
