-- Symbols and terms are read exactly.
use Rattle.std.specs.Prelude.{codes, decimal, nat_lt}
use Rattle.std.proofs.lemmas.Bool.Decides.{nat_tests}
use Rattle.std.specs.List.{list_all}
use Rattle.std.proofs.Common.{◌≡◌, ℕ, zero, suc, ◌<◌, ◌≤◌, ◌^◌, Bool, true, false, not, List, [], ◌∷◌, ◌++◌, ◌&&◌, drop, Option, Some, None, Err, refl, ap, sym, ◌∙◌, subst, append_assoc, append-nil, IsTrue, arith, cond, length}
use Rattle.exact_read.specs.Reading.{LimitExceeded, Stops}
use Rattle.exact_read.proofs.Parts.{stops_anything}
use Rattle.exact_read.proofs.Basics.{err_parts}
use Rattle.term_core_spec.specs.declared.Width.{Width}
use Rattle.term_core_spec.specs.declared.Width.TheVariants.{W8, W16, W32, W64}
use Rattle.tv_limits.specs.declared.TheConstants.{NESTING_LIMIT}
use Rattle.cert_text_spec.specs.declared.Operator.{Operator}
use Rattle.cert_text_spec.specs.declared.Operator.TheVariants as operator
use Rattle.cert_text_spec.specs.declared.Symbol.{Symbol}
use Rattle.cert_text_spec.specs.declared.Symbol.TheVariants as symbol
use Rattle.cert_text_spec.specs.Derivation.{Derives, none, some}
use Rattle.cert_text_spec.specs.Points.{IsNumber}
use Rattle.cert_text_spec.specs.Lines.{is_digit}
use Rattle.cert_text_spec.specs.Terms.{Expected, ATerm, AVariable, Arguments, operator_word, word, width_bound, operator_number, number, number_text, ending, symbol_text, IsBelow, begins_term, begins_variable, can_stand, after, argument_text, text_at, Fits, IsTerm, term_text}
use Rattle.cert_text_laws.specs.Readers.{refused, given, Reads, Word, here as at_front, there as further, not_digit}
use Rattle.cert_text_laws.specs.Heads.{atoms, variables, opens, words_of, firsts, words_at, read_no_digit, read_optional, read_call, read_rest, numbered_operator, numbered, read_symbol, read_term}
use Rattle.cert_text_laws.proofs.Bytes.{Taken, Refused, Simply, exact-simply, given_parts, refused_rest, reads-then, reads-as, reads-same}
use Rattle.cert_text_laws.proofs.Ends.{prefix_free, reads-listed, reads-ended}
use Rattle.cert_text_laws.proofs.Decimals.{Decimal, reads-decimal}
use Rattle.cert_text_laws.proofs.Items.{Each, ItemText, Productions, reads-items}
use Rattle.cert_text_laws.proofs.Loops.{item-shorter}
use Rattle.cert_text_laws.proofs.Points.{reads-number}

-- ---- the words

data In (s : Symbol) : List Symbol → Type 0 where
  here : (rest : List Symbol) → In s (s ∷ rest)
  there : (first : Symbol) (rest : List Symbol) → In s rest → In s (first ∷ rest)

in_words : (lead : List ℕ) (s : Symbol) (symbols : List Symbol) → In s symbols → Word s (lead ++ word s) (words_of lead symbols)
in_words lead s symbols (here rest) = at_front (words_of lead rest)
in_words lead s symbols (there first rest i) = further (lead ++ word first, first) (words_of lead rest) (in_words lead s rest i)

record OfWords (lead : List ℕ) (s : Symbol) (text : List ℕ) (symbols : List Symbol) : Type 0 where
  listed : In s symbols
  is : text ≡ lead ++ word s

of_words : (lead : List ℕ) (s : Symbol) (text : List ℕ) (symbols : List Symbol) → Word s text (words_of lead symbols) → OfWords lead s text symbols
of_words lead s text [] w = absurd (elim w [ ])
of_words lead s text (first ∷ symbols) (at_front rest) = record { listed = here symbols; is = refl }
of_words lead s text (first ∷ symbols) (further entry rest w) = let o = of_words lead s text symbols w in record { listed = there first symbols o.listed; is = o.is }

in_left : (s : Symbol) (xs ys : List Symbol) → In s xs → In s (xs ++ ys)
in_left s xs ys (here rest) = here (rest ++ ys)
in_left s xs ys (there first rest i) = there first (rest ++ ys) (in_left s rest ys i)

in_right : (s : Symbol) (xs ys : List Symbol) → In s ys → In s (xs ++ ys)
in_right s [] ys i = i
in_right s (x ∷ xs) ys i = there x (xs ++ ys) (in_right s xs ys i)

passes : (test : Symbol → Bool) (s : Symbol) (symbols : List Symbol) → list_all test symbols ≡ true → In s symbols → test s ≡ true
passes test s symbols e (here rest) = first_true (test s) (list_all test rest) e
  where
    first_true : (a b : Bool) → (a && b) ≡ true → a ≡ true
    first_true true b e = refl
    first_true false b e = e
passes test s symbols e (there first rest i) = passes test s rest (second_true (test first) (list_all test rest) e) i
  where
    second_true : (a b : Bool) → (a && b) ≡ true → b ≡ true
    second_true true b e = e
    second_true false b e = absurd (cc)

atom_in : (s : Symbol) → begins_term s 0 ≡ true → In (numbered s 0) atoms
atom_in (symbol.Truth true) e = here _
atom_in (symbol.Truth false) e = there _ _ (here _)
atom_in (symbol.Constant W8 n) e = there _ _ (there _ _ (here _))
atom_in (symbol.Constant W16 n) e = there _ _ (there _ _ (there _ _ (here _)))
atom_in (symbol.Constant W32 n) e = there _ _ (there _ _ (there _ _ (there _ _ (here _))))
atom_in (symbol.Constant W64 n) e = there _ _ (there _ _ (there _ _ (there _ _ (there _ _ (here _)))))
atom_in (symbol.Register n) e = there _ _ (there _ _ (there _ _ (there _ _ (there _ _ (there _ _ (here _))))))
atom_in (symbol.Entry n) e = there _ _ (there _ _ (there _ _ (there _ _ (there _ _ (there _ _ (there _ _ (here _)))))))
atom_in (symbol.Inlined n) e = there _ _ (there _ _ (there _ _ (there _ _ (there _ _ (there _ _ (there _ _ (there _ _ (here _))))))))
atom_in (symbol.Local n) e = there _ _ (there _ _ (there _ _ (there _ _ (there _ _ (there _ _ (there _ _ (there _ _ (there _ _ (here _)))))))))
atom_in (symbol.IsSet n) e = there _ _ (there _ _ (there _ _ (there _ _ (there _ _ (there _ _ (there _ _ (there _ _ (there _ _ (there _ _ (here _))))))))))
atom_in (symbol.Parameter n) e = there _ _ (there _ _ (there _ _ (there _ _ (there _ _ (there _ _ (there _ _ (there _ _ (there _ _ (there _ _ (there _ _ (here _)))))))))))
atom_in (symbol.SourceMemory) e = there _ _ (there _ _ (there _ _ (there _ _ (there _ _ (there _ _ (there _ _ (there _ _ (there _ _ (there _ _ (there _ _ (there _ _ (here _))))))))))))
atom_in (symbol.ZoneMemory) e = there _ _ (there _ _ (there _ _ (there _ _ (there _ _ (there _ _ (there _ _ (there _ _ (there _ _ (there _ _ (there _ _ (there _ _ (there _ _ (here _)))))))))))))
atom_in (symbol.BinaryMemory) e = there _ _ (there _ _ (there _ _ (there _ _ (there _ _ (there _ _ (there _ _ (there _ _ (there _ _ (there _ _ (there _ _ (there _ _ (there _ _ (there _ _ (here _))))))))))))))
atom_in (symbol.Open o) e = absurd (cc)
atom_in symbol.Close e = absurd (cc)

open_in : (o : Operator) → In (symbol.Open (numbered_operator o 0)) opens
open_in operator.Equal = here _
open_in operator.Less = there _ _ (here _)
open_in operator.Choose = there _ _ (there _ _ (here _))
open_in operator.Not = there _ _ (there _ _ (there _ _ (here _)))
open_in operator.And = there _ _ (there _ _ (there _ _ (there _ _ (here _))))
open_in operator.Or = there _ _ (there _ _ (there _ _ (there _ _ (there _ _ (here _)))))
open_in operator.Add = there _ _ (there _ _ (there _ _ (there _ _ (there _ _ (there _ _ (here _))))))
open_in operator.Subtract = there _ _ (there _ _ (there _ _ (there _ _ (there _ _ (there _ _ (there _ _ (here _)))))))
open_in operator.Multiply = there _ _ (there _ _ (there _ _ (there _ _ (there _ _ (there _ _ (there _ _ (there _ _ (here _))))))))
open_in operator.BitAnd = there _ _ (there _ _ (there _ _ (there _ _ (there _ _ (there _ _ (there _ _ (there _ _ (there _ _ (here _)))))))))
open_in operator.BitOr = there _ _ (there _ _ (there _ _ (there _ _ (there _ _ (there _ _ (there _ _ (there _ _ (there _ _ (there _ _ (here _))))))))))
open_in operator.BitXor = there _ _ (there _ _ (there _ _ (there _ _ (there _ _ (there _ _ (there _ _ (there _ _ (there _ _ (there _ _ (there _ _ (here _)))))))))))
open_in operator.Complement = there _ _ (there _ _ (there _ _ (there _ _ (there _ _ (there _ _ (there _ _ (there _ _ (there _ _ (there _ _ (there _ _ (there _ _ (here _))))))))))))
open_in operator.ShiftLeft = there _ _ (there _ _ (there _ _ (there _ _ (there _ _ (there _ _ (there _ _ (there _ _ (there _ _ (there _ _ (there _ _ (there _ _ (there _ _ (here _)))))))))))))
open_in operator.ShiftRight = there _ _ (there _ _ (there _ _ (there _ _ (there _ _ (there _ _ (there _ _ (there _ _ (there _ _ (there _ _ (there _ _ (there _ _ (there _ _ (there _ _ (here _))))))))))))))
open_in operator.ShiftRightSigned = there _ _ (there _ _ (there _ _ (there _ _ (there _ _ (there _ _ (there _ _ (there _ _ (there _ _ (there _ _ (there _ _ (there _ _ (there _ _ (there _ _ (there _ _ (here _)))))))))))))))
open_in operator.Divide = there _ _ (there _ _ (there _ _ (there _ _ (there _ _ (there _ _ (there _ _ (there _ _ (there _ _ (there _ _ (there _ _ (there _ _ (there _ _ (there _ _ (there _ _ (there _ _ (here _))))))))))))))))
open_in operator.Remainder = there _ _ (there _ _ (there _ _ (there _ _ (there _ _ (there _ _ (there _ _ (there _ _ (there _ _ (there _ _ (there _ _ (there _ _ (there _ _ (there _ _ (there _ _ (there _ _ (there _ _ (here _)))))))))))))))))
open_in operator.Join = there _ _ (there _ _ (there _ _ (there _ _ (there _ _ (there _ _ (there _ _ (there _ _ (there _ _ (there _ _ (there _ _ (there _ _ (there _ _ (there _ _ (there _ _ (there _ _ (there _ _ (there _ _ (here _))))))))))))))))))
open_in operator.Load = there _ _ (there _ _ (there _ _ (there _ _ (there _ _ (there _ _ (there _ _ (there _ _ (there _ _ (there _ _ (there _ _ (there _ _ (there _ _ (there _ _ (there _ _ (there _ _ (there _ _ (there _ _ (there _ _ (here _)))))))))))))))))))
open_in (operator.ZeroExtend n) = there _ _ (there _ _ (there _ _ (there _ _ (there _ _ (there _ _ (there _ _ (there _ _ (there _ _ (there _ _ (there _ _ (there _ _ (there _ _ (there _ _ (there _ _ (there _ _ (there _ _ (there _ _ (there _ _ (there _ _ (here _))))))))))))))))))))
open_in (operator.SignExtend n) = there _ _ (there _ _ (there _ _ (there _ _ (there _ _ (there _ _ (there _ _ (there _ _ (there _ _ (there _ _ (there _ _ (there _ _ (there _ _ (there _ _ (there _ _ (there _ _ (there _ _ (there _ _ (there _ _ (there _ _ (there _ _ (here _)))))))))))))))))))))
open_in (operator.Low n) = there _ _ (there _ _ (there _ _ (there _ _ (there _ _ (there _ _ (there _ _ (there _ _ (there _ _ (there _ _ (there _ _ (there _ _ (there _ _ (there _ _ (there _ _ (there _ _ (there _ _ (there _ _ (there _ _ (there _ _ (there _ _ (there _ _ (here _))))))))))))))))))))))
open_in (operator.Byte n) = there _ _ (there _ _ (there _ _ (there _ _ (there _ _ (there _ _ (there _ _ (there _ _ (there _ _ (there _ _ (there _ _ (there _ _ (there _ _ (there _ _ (there _ _ (there _ _ (there _ _ (there _ _ (there _ _ (there _ _ (there _ _ (there _ _ (there _ _ (here _)))))))))))))))))))))))

first_in : (room : ℕ) (s : Symbol) → begins_term s room ≡ true → In (numbered s 0) (firsts room)
first_in zero s e = atom_in s e
first_in (suc room) (symbol.Open o) e = in_right (symbol.Open (numbered_operator o 0)) atoms opens (open_in o)
first_in (suc room) symbol.Close e = absurd (cc)
first_in (suc room) (symbol.Truth b) e = in_left (numbered (symbol.Truth b) 0) atoms opens (atom_in (symbol.Truth b) refl)
first_in (suc room) (symbol.Constant w n) e = in_left (numbered (symbol.Constant w n) 0) atoms opens (atom_in (symbol.Constant w n) refl)
first_in (suc room) (symbol.Register n) e = in_left (numbered (symbol.Register n) 0) atoms opens (atom_in (symbol.Register n) refl)
first_in (suc room) (symbol.Entry n) e = in_left (numbered (symbol.Entry n) 0) atoms opens (atom_in (symbol.Entry n) refl)
first_in (suc room) (symbol.Inlined n) e = in_left (numbered (symbol.Inlined n) 0) atoms opens (atom_in (symbol.Inlined n) refl)
first_in (suc room) (symbol.Local n) e = in_left (numbered (symbol.Local n) 0) atoms opens (atom_in (symbol.Local n) refl)
first_in (suc room) (symbol.IsSet n) e = in_left (numbered (symbol.IsSet n) 0) atoms opens (atom_in (symbol.IsSet n) refl)
first_in (suc room) (symbol.Parameter n) e = in_left (numbered (symbol.Parameter n) 0) atoms opens (atom_in (symbol.Parameter n) refl)
first_in (suc room) (symbol.SourceMemory) e = in_left (numbered (symbol.SourceMemory) 0) atoms opens (atom_in (symbol.SourceMemory) refl)
first_in (suc room) (symbol.ZoneMemory) e = in_left (numbered (symbol.ZoneMemory) 0) atoms opens (atom_in (symbol.ZoneMemory) refl)
first_in (suc room) (symbol.BinaryMemory) e = in_left (numbered (symbol.BinaryMemory) 0) atoms opens (atom_in (symbol.BinaryMemory) refl)

variable_in : (s : Symbol) → begins_variable s ≡ true → In (numbered s 0) variables
variable_in (symbol.Inlined n) e = here _
variable_in (symbol.Local n) e = there _ _ (here _)
variable_in (symbol.IsSet n) e = there _ _ (there _ _ (here _))
variable_in (symbol.Parameter n) e = there _ _ (there _ _ (there _ _ (here _)))
variable_in s e = absurd (cc)

-- a number changes nothing of where a symbol can occur
same_first : (s : Symbol) (n room : ℕ) → begins_term (numbered s n) room ≡ begins_term s room
same_first (symbol.Open o) n room = refl
same_first symbol.Close n room = refl
same_first s n room = refl

same_variable : (s : Symbol) (n : ℕ) → begins_variable (numbered s n) ≡ begins_variable s
same_variable (symbol.Open o) n = refl
same_variable symbol.Close n = refl
same_variable s n = refl

-- ---- the number after a word

record NoDigit (u : Unit {0}) (text : List ℕ) : Type 0 where
  is : text ≡ []

simply-no_digit : Simply NoDigit not_digit read_no_digit
simply-no_digit = record { takes = taken; again = λ u text rest d stops. ap (λ t. read_no_digit (t ++ rest)) d.is ∙ again rest stops; wrongs = wrong; never = never }
  where
    taken : (before : List ℕ) (u : Unit {0}) (rest : List ℕ) → read_no_digit before ≡ given u rest → Taken NoDigit not_digit before u rest
    taken [] u rest e = record { text = []; cut = (given_parts e).1; derives = record { is = refl }; stops = subst (Stops not_digit) (given_parts e).1 tt }
    taken (c ∷ before) u rest e = by_test (is_digit c) refl e
      where
        by_test : (b : Bool) → is_digit c ≡ b → cond b (refused (c ∷ before)) (given (tt {0}) (c ∷ before)) ≡ given u rest → Taken NoDigit not_digit (c ∷ before) u rest
        by_test true d h = absurd (cc)
        by_test false d h = record { text = []; cut = (given_parts h).1; derives = record { is = refl }; stops = subst (Stops not_digit) (given_parts h).1 (ap not d) }

    again : (rest : List ℕ) → Stops not_digit rest → read_no_digit rest ≡ given (tt {0}) rest
    again [] stops = refl
    again (c ∷ rest) stops = by_test (is_digit c) stops
      where
        by_test : (b : Bool) → IsTrue (not b) → cond b (refused (c ∷ rest)) (given (tt {0}) (c ∷ rest)) ≡ given (tt {0}) (c ∷ rest)
        by_test true h = absurd (cc)
        by_test false h = refl

    wrong : (before rest : List ℕ) → read_no_digit before ≡ refused rest → Refused NoDigit read_no_digit before rest
    wrong [] rest e = absurd (cc)
    wrong (c ∷ before) rest e = by_test (is_digit c) refl e
      where
        by_test : (b : Bool) → is_digit c ≡ b → cond b (refused (c ∷ before)) (given (tt {0}) (c ∷ before)) ≡ refused rest → Refused NoDigit read_no_digit (c ∷ before) rest
        by_test false d h = absurd (cc)
        by_test true d h =
            let r : c ∷ before ≡ rest = refused_rest {X = Unit {0}} h in
            record {
              prefix = [];
              cut = r;
              value = tt;
              more = [];
              derives = record { is = refl };
              whatever = λ k old new here. let same : c ∷ before ≡ k ∷ old = r ∙ here in let s : c ≡ k = cc in subst (λ x. read_no_digit (x ∷ new) ≡ refused (x ∷ new)) s (rw d refl);
            }

    never : (before rest : List ℕ) → read_no_digit before ≡ Err (LimitExceeded, rest) → ⊥
    never [] rest e = cc
    never (c ∷ before) rest e = by_test (is_digit c) e
      where
        wrong_kind : refused {X = Unit {0}} (c ∷ before) ≡ Err (LimitExceeded, rest) → ⊥
        wrong_kind h = let q = (err_parts {X = Unit {0}} h).0 in cc

        by_test : (b : Bool) → cond b (refused (c ∷ before)) (given (tt {0}) (c ∷ before)) ≡ Err (LimitExceeded, rest) → ⊥
        by_test true h = wrong_kind h
        by_test false h = cc

no_digit_read : Reads NoDigit not_digit read_no_digit
no_digit_read = record { exact = exact-simply simply-no_digit; sample = tt; sample_text = []; derives = record { is = refl } }

abbrev Optional : Option (ℕ × ℕ) → ℕ → List ℕ → Type 0
Optional None n text = (n ≡ 0) × (text ≡ [])
Optional (Some (m, bound)) n text = Decimal 0 bound n text

abbrev Fine : Option (ℕ × ℕ) → Type 0
Fine None = Unit {0}
Fine (Some (m, bound)) = (9 < bound) × (bound ≤ 2 ^ 64)

optional_read : (o : Option (ℕ × ℕ)) → Fine o → Reads (Optional o) not_digit (read_optional o)
optional_read None f =
    reads-as (λ u. 0) (Optional None) (λ u text d. (refl, d.is)) (λ n text d. (tt, d.0, record { is = d.1 })) no_digit_read
optional_read (Some (m, bound)) f = reads-decimal 0 bound (omega arith) f.0 f.1

fine_operator : (o : Operator) → Fine (operator_number o)
fine_operator (operator.ZeroExtend n) = (omega arith, omega arith)
fine_operator (operator.SignExtend n) = (omega arith, omega arith)
fine_operator (operator.Low n) = (omega arith, omega arith)
fine_operator (operator.Byte n) = (omega arith, omega arith)
fine_operator o = tt

fine_width : (w : Width) → (9 < width_bound w) × (width_bound w ≤ 2 ^ 64)
fine_width W8 = (omega arith, omega arith)
fine_width W16 = (omega arith, omega arith)
fine_width W32 = (omega arith, omega arith)
fine_width W64 = (omega arith, omega arith)

record CallText (n : ℕ) (text : List ℕ) : Type 0 where
  number : IsNumber n
  is : text ≡ decimal n ++ codes "/"

call_read : Reads CallText not_digit read_call
call_read =
    reads-as (λ p. p.0) CallText
    (λ p text d. record { number = d.first.derives.below; is = d.cut ∙ ap (λ t. d.left ++ t) d.second.is ∙ append-nil d.left ∙ d.first.cut ∙ ap (λ t. t ++ codes "/") d.first.derives.is })
    (λ n text c. (
      (n, tt {0}),
      refl,
      record {
        left = decimal n ++ codes "/";
        right = [];
        cut = c.is ∙ sym (append-nil (decimal n ++ codes "/"));
        first = record { inside = decimal n; derives = record { from = omega arith; below = c.number; is = refl }; cut = refl };
        second = record { is = refl };
      },
    ))
    (reads-then (reads-ended 47 [] refl reads-number) (λ n. no_digit_read) (λ n u text rest d stops. stops_anything (text ++ rest)))

abbrev RestText : Symbol → ℕ → List ℕ → Type 0
RestText (symbol.Inlined m) n text = CallText n text
RestText s n text = Optional (number s) n text

rest_read : (s : Symbol) → Reads (RestText s) not_digit (read_rest s)
rest_read (symbol.Inlined m) = call_read
rest_read (symbol.Truth b) = optional_read None tt
rest_read (symbol.Constant w m) = optional_read (Some (m, width_bound w)) (fine_width w)
rest_read (symbol.Register m) = optional_read (Some (m, 2 ^ 32)) (omega arith, omega arith)
rest_read (symbol.Entry m) = optional_read (Some (m, 2 ^ 32)) (omega arith, omega arith)
rest_read (symbol.Local m) = optional_read (Some (m, 2 ^ 32)) (omega arith, omega arith)
rest_read (symbol.IsSet m) = optional_read (Some (m, 2 ^ 32)) (omega arith, omega arith)
rest_read (symbol.Parameter m) = optional_read (Some (m, 2 ^ 32)) (omega arith, omega arith)
rest_read symbol.SourceMemory = optional_read None tt
rest_read symbol.ZoneMemory = optional_read None tt
rest_read symbol.BinaryMemory = optional_read None tt
rest_read (symbol.Open o) = optional_read (operator_number o) (fine_operator o)
rest_read symbol.Close = optional_read None tt

-- a symbol from its word and what follows
record Made (s : Symbol) (n : ℕ) (text : List ℕ) : Type 0 where
  below : IsBelow (number (numbered s n))
  is : word s ++ text ≡ symbol_text (numbered s n)

plain_text : (before text : List ℕ) → text ≡ [] → before ++ text ≡ before ++ ([] ++ [])
plain_text before text e = ap (λ t. before ++ t) e

with_decimal : (before text : List ℕ) (n : ℕ) → text ≡ decimal n → before ++ text ≡ before ++ (decimal n ++ [])
with_decimal before text n e = ap (λ t. before ++ t) (e ∙ sym (append-nil (decimal n)))

made_operator : (o : Operator) (n : ℕ) (text : List ℕ) → Optional (operator_number o) n text → Made (symbol.Open o) n text
made_operator (operator.ZeroExtend m) n text d = record { below = d.below; is = with_decimal (codes "(zext ") text n d.is }
made_operator (operator.SignExtend m) n text d = record { below = d.below; is = with_decimal (codes "(sext ") text n d.is }
made_operator (operator.Low m) n text d = record { below = d.below; is = with_decimal (codes "(low ") text n d.is }
made_operator (operator.Byte m) n text d = record { below = d.below; is = with_decimal (codes "(byte ") text n d.is }
made_operator o n text d = record { below = tt; is = plain_text (operator_word o) text d.1 }

made : (s : Symbol) (n : ℕ) (text : List ℕ) → RestText s n text → Made s n text
made (symbol.Inlined m) n text d = record { below = d.number; is = ap (λ t. codes "k" ++ t) d.is }
made (symbol.Truth b) n text d = record { below = tt; is = plain_text (word (symbol.Truth b)) text d.1 }
made (symbol.Constant w m) n text d = record { below = d.below; is = with_decimal (word (symbol.Constant w m)) text n d.is }
made (symbol.Register m) n text d = record { below = d.below; is = with_decimal (codes "x") text n d.is }
made (symbol.Entry m) n text d = record { below = d.below; is = with_decimal (codes "e") text n d.is }
made (symbol.Local m) n text d = record { below = d.below; is = with_decimal (codes "v") text n d.is }
made (symbol.IsSet m) n text d = record { below = d.below; is = with_decimal (codes "s") text n d.is }
made (symbol.Parameter m) n text d = record { below = d.below; is = with_decimal (codes "p") text n d.is }
made symbol.SourceMemory n text d = record { below = tt; is = plain_text (codes "m") text d.1 }
made symbol.ZoneMemory n text d = record { below = tt; is = plain_text (codes "z") text d.1 }
made symbol.BinaryMemory n text d = record { below = tt; is = plain_text (codes "am") text d.1 }
made (symbol.Open o) n text d = made_operator o n text d
made symbol.Close n text d = record { below = tt; is = plain_text (codes ")") text d.1 }

-- and back
record Parts (s : Symbol) : Type 0 where
  value : ℕ
  text : List ℕ
  rest : RestText (numbered s 0) value text
  same : s ≡ numbered (numbered s 0) value
  is : symbol_text s ≡ word (numbered s 0) ++ text

of_decimal : (bound n : ℕ) → n < bound → Decimal 0 bound n (decimal n)
of_decimal bound n h = record { from = omega arith; below = h; is = refl }

ends_nil : (before : List ℕ) (n : ℕ) → before ++ (decimal n ++ []) ≡ before ++ decimal n
ends_nil before n = ap (λ t. before ++ t) (append-nil (decimal n))

parts_operator : (o : Operator) → IsBelow (operator_number o) → Parts (symbol.Open o)
parts_operator (operator.ZeroExtend n) h = record { value = n; text = decimal n; rest = of_decimal (2 ^ 32) n h; same = refl; is = ends_nil (codes "(zext ") n }
parts_operator (operator.SignExtend n) h = record { value = n; text = decimal n; rest = of_decimal (2 ^ 32) n h; same = refl; is = ends_nil (codes "(sext ") n }
parts_operator (operator.Low n) h = record { value = n; text = decimal n; rest = of_decimal (2 ^ 32) n h; same = refl; is = ends_nil (codes "(low ") n }
parts_operator (operator.Byte n) h = record { value = n; text = decimal n; rest = of_decimal (2 ^ 32) n h; same = refl; is = ends_nil (codes "(byte ") n }
parts_operator o h = record { value = 0; text = []; rest = (refl, refl); same = refl; is = refl }

parts : (s : Symbol) → IsBelow (number s) → Parts s
parts (symbol.Inlined n) h = record { value = n; text = decimal n ++ codes "/"; rest = record { number = h; is = refl }; same = refl; is = refl }
parts (symbol.Truth b) h = record { value = 0; text = []; rest = (refl, refl); same = refl; is = refl }
parts (symbol.Constant w n) h = record { value = n; text = decimal n; rest = of_decimal (width_bound w) n h; same = refl; is = ends_nil (word (symbol.Constant w n)) n }
parts (symbol.Register n) h = record { value = n; text = decimal n; rest = of_decimal (2 ^ 32) n h; same = refl; is = ends_nil (codes "x") n }
parts (symbol.Entry n) h = record { value = n; text = decimal n; rest = of_decimal (2 ^ 32) n h; same = refl; is = ends_nil (codes "e") n }
parts (symbol.Local n) h = record { value = n; text = decimal n; rest = of_decimal (2 ^ 32) n h; same = refl; is = ends_nil (codes "v") n }
parts (symbol.IsSet n) h = record { value = n; text = decimal n; rest = of_decimal (2 ^ 32) n h; same = refl; is = ends_nil (codes "s") n }
parts (symbol.Parameter n) h = record { value = n; text = decimal n; rest = of_decimal (2 ^ 32) n h; same = refl; is = ends_nil (codes "p") n }
parts symbol.SourceMemory h = record { value = 0; text = []; rest = (refl, refl); same = refl; is = refl }
parts symbol.ZoneMemory h = record { value = 0; text = []; rest = (refl, refl); same = refl; is = refl }
parts symbol.BinaryMemory h = record { value = 0; text = []; rest = (refl, refl); same = refl; is = refl }
parts (symbol.Open o) h = parts_operator o h
parts symbol.Close h = record { value = 0; text = []; rest = (refl, refl); same = refl; is = refl }

-- ---- symbols, where something is expected

argument_is : (s : Symbol) (room : ℕ) → begins_term s room ≡ true → argument_text s ≡ codes " " ++ symbol_text s
argument_is symbol.Close room e = absurd (cc)
argument_is s room e = refl

argument_allowed : (s : Symbol) (room : ℕ) → begins_term s room ≡ true → can_stand (Arguments room) s ≡ true
argument_allowed symbol.Close room e = refl
argument_allowed s room e = e

firsts_begin : (room : ℕ) (s : Symbol) → In s (firsts room) → begins_term s room ≡ true
firsts_begin zero s i = passes (λ t. begins_term t 0) s atoms refl i
firsts_begin (suc room) s i = passes (λ t. begins_term t (suc room)) s (atoms ++ opens) (all_begin) i
  where
    positive : (n : ℕ) → nat_lt 0 (suc n) ≡ true
    positive n = grind (arith, nat_tests)

    all_begin : list_all (λ t. begins_term t (suc room)) (atoms ++ opens) ≡ true
    all_begin = rw (positive room) refl

to_symbol : (e : Expected) (s : Symbol) (n : ℕ) (left right : List ℕ) → Word s left (words_at e) → RestText s n right → ItemText Fits text_at e (numbered s n) (left ++ right)
to_symbol (ATerm room) s n left right w r =
    let o = of_words [] s left (firsts room) w in
    let m = made s n right r in
    record { fits = record { stands = same_first s n room ∙ firsts_begin room s o.listed; below = m.below }; is = ap (λ t. t ++ right) o.is ∙ m.is }
to_symbol AVariable s n left right w r =
    let o = of_words [] s left variables w in
    let m = made s n right r in
    record { fits = record { stands = same_variable s n ∙ passes begins_variable s variables refl o.listed; below = m.below }; is = ap (λ t. t ++ right) o.is ∙ m.is }
to_symbol (Arguments room) s n left right (at_front rest) r = let m = made symbol.Close n right r in record { fits = record { stands = refl; below = tt }; is = m.is }
to_symbol (Arguments room) s n left right (further entry rest w) r =
    let o = of_words (codes " ") s left (firsts room) w in
    let m = made s n right r in
    let begins : begins_term (numbered s n) room ≡ true = same_first s n room ∙ firsts_begin room s o.listed in
    record { fits = record { stands = argument_allowed (numbered s n) room begins; below = m.below }; is = ap (λ t. t ++ right) o.is ∙ ap (λ t. codes " " ++ t) m.is ∙ sym (argument_is (numbered s n) room begins) }

-- the word of a symbol where it can occur
record WordAt (e : Expected) (s : Symbol) : Type 0 where
  lead : List ℕ
  listed : Word (numbered s 0) (lead ++ word (numbered s 0)) (words_at e)
  is : text_at e s ≡ lead ++ symbol_text s

argument_word : (room : ℕ) (s : Symbol) → begins_term s room ≡ true → WordAt (Arguments room) s
argument_word room s h =
    record { lead = codes " "; listed = further (word symbol.Close, symbol.Close) (words_of (codes " ") (firsts room)) (in_words (codes " ") (numbered s 0) (firsts room) (first_in room s h)); is = argument_is s room h }

word_at : (e : Expected) (s : Symbol) → can_stand e s ≡ true → WordAt e s
word_at (ATerm room) s h = record { lead = []; listed = in_words [] (numbered s 0) (firsts room) (first_in room s h); is = refl }
word_at AVariable s h = record { lead = []; listed = in_words [] (numbered s 0) variables (variable_in s h); is = refl }
word_at (Arguments room) symbol.Close h = record { lead = []; listed = at_front (words_of (codes " ") (firsts room)); is = refl }
word_at (Arguments room) s h = argument_word room s h

free : (e : Expected) → prefix_free (words_at e) ≡ true
free (ATerm zero) = refl
free (ATerm (suc room)) = refl
free AVariable = refl
free (Arguments zero) = refl
free (Arguments (suc room)) = refl

some_word : (e : Expected) → (s : Symbol) × (text : List ℕ) × Word s text (words_at e)
some_word (ATerm room) = (symbol.SourceMemory, codes "m", in_words [] symbol.SourceMemory (firsts room) (first_in room symbol.SourceMemory refl))
some_word AVariable = (symbol.Inlined 0, codes "k", at_front _)
some_word (Arguments room) = (symbol.Close, codes ")", at_front _)

pub symbol_read : (e : Expected) → Reads (ItemText Fits text_at e) not_digit (read_symbol e)
symbol_read e =
    let w = some_word e in
    reads-as (λ p. numbered p.0 p.1) (ItemText Fits text_at e)
    (λ p text d. subst (λ t. ItemText Fits text_at e (numbered p.0 p.1) t) (sym d.cut) (to_symbol e p.0 p.1 d.left d.right d.first d.second))
    (λ s text i.
    let a = word_at e s i.fits.stands in
    let p = parts s i.fits.below in (
      (numbered s 0, p.value),
      p.same,
      record {
        left = a.lead ++ word (numbered s 0);
        right = p.text;
        cut = i.is ∙ a.is ∙ ap (λ t. a.lead ++ t) p.is ∙ sym (append_assoc a.lead (word (numbered s 0)) p.text);
        first = a.listed;
        second = p.rest;
      },
    ))
    (reads-then (reads-listed (words_at e) w.0 w.1 w.2 (free e)) rest_read (λ s n text rest d stops. stops_anything (text ++ rest)))

-- ---- terms

Later : Expected → Type 0
Later (ATerm room) = ⊥
Later AVariable = Unit {0}
Later (Arguments room) = Unit {0}

open_first : (o : Operator) → operator_word o ≡ 40 ∷ drop 1 (operator_word o)
open_first (operator.ZeroExtend n) = refl
open_first o = refl

record FirstByte (e : Expected) (s : Symbol) : Type 0 where
  byte : ℕ
  more : List ℕ
  is : text_at e s ≡ byte ∷ more
  stops : Later e → IsTrue (not_digit byte)

byte_of_word : (s : Symbol) → (c : ℕ) × (more : List ℕ) × (word s ≡ c ∷ more)
byte_of_word (symbol.Truth true) = (116, codes "rue", refl)
byte_of_word (symbol.Truth false) = (102, codes "alse", refl)
byte_of_word (symbol.Constant W8 n) = (56, codes ":", refl)
byte_of_word (symbol.Constant W16 n) = (49, codes "6:", refl)
byte_of_word (symbol.Constant W32 n) = (51, codes "2:", refl)
byte_of_word (symbol.Constant W64 n) = (54, codes "4:", refl)
byte_of_word (symbol.Register n) = (120, [], refl)
byte_of_word (symbol.Entry n) = (101, [], refl)
byte_of_word (symbol.Inlined n) = (107, [], refl)
byte_of_word (symbol.Local n) = (118, [], refl)
byte_of_word (symbol.IsSet n) = (115, [], refl)
byte_of_word (symbol.Parameter n) = (112, [], refl)
byte_of_word symbol.SourceMemory = (109, [], refl)
byte_of_word symbol.ZoneMemory = (122, [], refl)
byte_of_word symbol.BinaryMemory = (97, codes "m", refl)
byte_of_word (symbol.Open o) = (40, drop 1 (operator_word o), open_first o)
byte_of_word symbol.Close = (41, [], refl)

first_byte : (e : Expected) (s : Symbol) → can_stand e s ≡ true → FirstByte e s
unfolding Later
first_byte (ATerm room) s h =
    let b = byte_of_word s in
    record { byte = b.0; more = b.1 ++ (number_text (number s) ++ ending s); is = ap (λ w. w ++ (number_text (number s) ++ ending s)) b.2; stops = λ l. absurd l }
first_byte AVariable (symbol.Inlined n) h = record { byte = 107; more = decimal n ++ codes "/"; is = refl; stops = λ l. refl }
first_byte AVariable (symbol.Local n) h = record { byte = 118; more = decimal n ++ []; is = refl; stops = λ l. refl }
first_byte AVariable (symbol.IsSet n) h = record { byte = 115; more = decimal n ++ []; is = refl; stops = λ l. refl }
first_byte AVariable (symbol.Parameter n) h = record { byte = 112; more = decimal n ++ []; is = refl; stops = λ l. refl }
first_byte AVariable s h = absurd (cc)
first_byte (Arguments room) symbol.Close h = record { byte = 41; more = []; is = refl; stops = λ l. refl }
first_byte (Arguments room) s h = record { byte = 32; more = symbol_text s; is = refl; stops = λ l. refl }

later_first : (s : Symbol) (room : ℕ) → Each Later (after (ATerm room) s)
unfolding Later
later_first (symbol.Open o) room = (tt, tt)
later_first (symbol.Inlined n) room = (tt, tt)
later_first s room = tt

later_argument : (s : Symbol) (room : ℕ) → Each Later (after (Arguments room) s)
unfolding Later
later_argument (symbol.Open o) room = (tt, (tt, tt))
later_argument (symbol.Inlined n) room = (tt, (tt, tt))
later_argument symbol.Close room = tt
later_argument s room = (tt, tt)

term_productions : Productions Fits after text_at Later not_digit
term_productions =
    record {
      first = λ e s fits. let f = first_byte e s fits.stands in (f.byte, f.more, f.is, f.stops);
      later = later;
      ends = ends;
    }
  where
    later : (e : Expected) (s : Symbol) → Each Later (after e s)
    later (ATerm room) s = later_first s room
    later AVariable s = later_first s 0
    later (Arguments room) s = later_argument s room

    ends : (e : Expected) → (symbols : List Symbol) × Derives Fits after (e ∷ []) symbols
    ends (ATerm room) = (symbol.SourceMemory ∷ [], some (ATerm room) [] symbol.SourceMemory [] (record { stands = refl; below = tt }) none)
    ends AVariable = (symbol.Local 0 ∷ [], some AVariable [] (symbol.Local 0) [] (record { stands = refl; below = omega arith }) none)
    ends (Arguments room) = (symbol.Close ∷ [], some (Arguments room) [] symbol.Close [] (record { stands = refl; below = tt }) none)

pub record TermText (symbols : List Symbol) (text : List ℕ) : Type 0 where
  pub is_term : IsTerm symbols
  pub is : text ≡ term_text symbols

pub reads-term : Reads TermText not_digit read_term
unfolding term_text
reads-term =
    reads-same TermText (λ symbols text d. record { is_term = d.derives; is = d.is }) (λ symbols text t. record { derives = t.is_term; is = t.is })
    (reads-items Fits after text_at Later not_digit read_symbol term_productions symbol_read (ATerm NESTING_LIMIT))

-- a symbol takes a byte at least
pub symbol_shorter : (e : Expected) (rest middle : List ℕ) (s : Symbol) → read_symbol e rest ≡ given s middle → length middle < length rest
symbol_shorter e rest middle s is = item-shorter read_symbol after term_productions symbol_read e rest middle s is
