-- The words of an integer type: where some name one, so do the first of them.
use Rattle.std.proofs.Common.{ℕ, length, Bool, List, true, false, ◌&&◌, Option, ◌≡◌, refl, suc, ◌+◌, ◌-◌, arith, [], ◌∷◌, ◌++◌, ap, ◌∙◌, cond, length-append, Some, eqb-true, ◌≤◌, sym, subst, append_assoc, append-nil}
use Rattle.std.specs.Prelude.{filter, ◌==◌, option_map, find, nat_le}
use Rattle.std.specs.Option.{is_some}
use Rattle.std.specs.List.{list_all}
use Rattle.std.proofs.lemmas.List.Elements.{filter-append}
use Rattle.std.proofs.lemmas.Bool.{le-leb}
use Rattle.c_token_spec.specs.declared.token.Keyword.{Keyword}
use Rattle.c_token_spec.specs.declared.token.Keyword.TheVariants.{Char, Signed, Unsigned, Short, Int, Long}
use Rattle.c_syntax_spec.specs.declared.IntegerType.{IntegerType}
use Rattle.c_parse_spec.specs.Expressions.{is_char, is_signed, is_unsigned, is_short, is_int, is_long, combinations, integer_type_of}

-- how many words there are, and how often each of the six is among them
record Counts : Type 0 where
  all : ℕ
  chars : ℕ
  signeds : ℕ
  unsigneds : ℕ
  shorts : ℕ
  ints : ℕ
  longs : ℕ

number_of : (Keyword → Bool) → List Keyword → ℕ
number_of test words = length (filter test words)

one_if : Bool → ℕ
one_if true = 1
one_if false = 0

counts : List Keyword → Counts
unfolding number_of
counts words =
    record { all = length words; chars = number_of is_char words; signeds = number_of is_signed words; unsigneds = number_of is_unsigned words; shorts = number_of is_short words; ints = number_of is_int words; longs = number_of is_long words }

fits : List Keyword → Counts → Bool
unfolding number_of
fits words k =
    (length words == k.all) && (number_of is_char words == k.chars) && (number_of is_signed words == k.signeds) && (number_of is_unsigned words == k.unsigneds)
    && (number_of is_short words == k.shorts) && (number_of is_int words == k.ints) && (number_of is_long words == k.longs)

type_by : Counts → Option IntegerType
unfolding fits
type_by k = option_map (λ entry. entry.1) (find (λ entry. fits entry.0 k) combinations)

type_counts : (words : List Keyword) → integer_type_of words ≡ type_by (counts words)
unfolding integer_type_of type_by fits counts number_of
type_counts words = refl

-- one word more, and one less
more : Keyword → Counts → Counts
unfolding one_if
more word k =
    record { all = suc k.all; chars = k.chars + one_if (is_char word); signeds = k.signeds + one_if (is_signed word); unsigneds = k.unsigneds + one_if (is_unsigned word); shorts = k.shorts + one_if (is_short word); ints = k.ints + one_if (is_int word); longs = k.longs + one_if (is_long word) }

less : Keyword → Counts → Counts
unfolding one_if
less word k =
    record { all = k.all - 1; chars = k.chars - one_if (is_char word); signeds = k.signeds - one_if (is_signed word); unsigneds = k.unsigneds - one_if (is_unsigned word); shorts = k.shorts - one_if (is_short word); ints = k.ints - one_if (is_int word); longs = k.longs - one_if (is_long word) }

minus : (n m : ℕ) → (n + m) - m ≡ n
minus n m = omega arith

less_more : (word : Keyword) (k : Counts) → less word (more word k) ≡ k
unfolding less more
less_more word k =
    let a : suc k.all - 1 ≡ k.all = omega arith in
    rw (a, minus k.chars (one_if (is_char word)), minus k.signeds (one_if (is_signed word)), minus k.unsigneds (one_if (is_unsigned word)), minus k.shorts (one_if (is_short word)), minus k.ints (one_if (is_int word)), minus k.longs (one_if (is_long word))) refl

number_last : (test : Keyword → Bool) (words : List Keyword) (word : Keyword) → number_of test (words ++ word ∷ []) ≡ number_of test words + one_if (test word)
unfolding number_of one_if
number_last test words word = ap length (filter-append test words (word ∷ [])) ∙ length-append (filter test words) (filter test (word ∷ [])) ∙ ap (λ n. length (filter test words) + n) (by_test (test word))
  where
    by_test : (b : Bool) → length (cond b (word ∷ []) []) ≡ one_if b
    by_test true = refl
    by_test false = refl

counts_last : (words : List Keyword) (word : Keyword) → counts (words ++ word ∷ []) ≡ more word (counts words)
unfolding counts more
counts_last words word =
    let a : length (words ++ word ∷ []) ≡ suc (length words) = length-append words (word ∷ []) ∙ omega arith in
    rw (a, number_last is_char words word, number_last is_signed words word, number_last is_unsigned words word, number_last is_short words word, number_last is_int words word, number_last is_long words word) refl

-- an entry of the table that fits
data Listed {A : Type 0} (x : A) : List A → Type 0 where
  here : (rest : List A) → Listed x (x ∷ rest)
  later : (y : A) (rest : List A) → Listed x rest → Listed x (y ∷ rest)

record Found {A : Type 0} (test : A → Bool) (list : List A) : Type 0 where
  entry : A
  listed : Listed entry list
  passes : test entry ≡ true

found_in : {A B : Type 0} (f : A → B) (test : A → Bool) (list : List A) → is_some (option_map f (find test list)) ≡ true → Found test list
found_in f test [] e = absurd (cc)
found_in {A} {B} f test (x ∷ list) e = by_test (test x) refl (λ h. found_in f test list h) e
  where
    by_test : (b : Bool) → test x ≡ b → (is_some (option_map f (find test list)) ≡ true → Found test list) → is_some (option_map f (cond b (Some x) (find test list))) ≡ true → Found test (x ∷ list)
    by_test true p again h = record { entry = x; listed = here list; passes = p }
    by_test false p again h = let r = again h in record { entry = r.entry; listed = later x list r.listed; passes = r.passes }

all_listed : {A : Type 0} (test : A → Bool) (x : A) (list : List A) → list_all test list ≡ true → Listed x list → test x ≡ true
all_listed test x list e (here rest) = by_first (test x) (list_all test rest) e
  where
    by_first : (a b : Bool) → (a && b) ≡ true → a ≡ true
    by_first true b h = refl
    by_first false b h = absurd (cc)
all_listed test x list e (later y rest h) = all_listed test x rest (by_rest (test y) (list_all test rest) e) h
  where
    by_rest : (a b : Bool) → (a && b) ≡ true → b ≡ true
    by_rest true b h = h
    by_rest false b h = absurd (cc)

and_parts : (a b : Bool) → (a && b) ≡ true → (a ≡ true) × (b ≡ true)
and_parts true b e = (refl, e)
and_parts false b e = absurd (cc)

fits_counts : (words : List Keyword) (k : Counts) → fits words k ≡ true → counts words ≡ k
unfolding fits counts
fits_counts words k e =
    let p1 = and_parts _ (number_of is_long words == k.longs) e in
    let p2 = and_parts _ (number_of is_int words == k.ints) p1.0 in
    let p3 = and_parts _ (number_of is_short words == k.shorts) p2.0 in
    let p4 = and_parts _ (number_of is_unsigned words == k.unsigneds) p3.0 in
    let p5 = and_parts _ (number_of is_signed words == k.signeds) p4.0 in
    let p6 = and_parts (length words == k.all) (number_of is_char words == k.chars) p5.0 in
    rw (
      eqb-true (length words) k.all p6.0,
      eqb-true (number_of is_char words) k.chars p6.1,
      eqb-true (number_of is_signed words) k.signeds p5.1,
      eqb-true (number_of is_unsigned words) k.unsigneds p4.1,
      eqb-true (number_of is_short words) k.shorts p3.1,
      eqb-true (number_of is_int words) k.ints p2.1,
      eqb-true (number_of is_long words) k.longs p1.1,
    ) refl

found_counts : (k : Counts) → is_some (type_by k) ≡ true → (entry : List Keyword × IntegerType) × (Listed entry combinations × (counts entry.0 ≡ k))
unfolding type_by
found_counts k e = let f = found_in (λ (entry : List Keyword × IntegerType). entry.1) (λ entry. fits entry.0 k) combinations e in (f.entry, (f.listed, fits_counts f.entry.0 k f.passes))

-- without one of its words an entry is one of the table still, if any word is left
abbrev implies : Bool → Bool → Bool
implies a b = cond a b true

has : Keyword → Counts → Bool
unfolding one_if
has Char k = nat_le 1 k.chars
has Signed k = nat_le 1 k.signeds
has Unsigned k = nat_le 1 k.unsigneds
has Short k = nat_le 1 k.shorts
has Int k = nat_le 1 k.ints
has Long k = nat_le 1 k.longs
has other k = false

keeps_without : (word : Keyword) → List Keyword × IntegerType → Bool
keeps_without word entry = implies (has word (counts entry.0) && nat_le 2 (length entry.0)) (is_some (type_by (less word (counts entry.0))))

table_keeps : (word : Keyword) → list_all (keeps_without word) combinations ≡ true
unfolding keeps_without has type_by fits counts number_of less one_if
table_keeps Char = refl
table_keeps Signed = refl
table_keeps Unsigned = refl
table_keeps Short = refl
table_keeps Int = refl
table_keeps Long = refl
table_keeps other = refl

-- one of the six words
abbrev pub six : Keyword → Bool
six Char = true
six Signed = true
six Unsigned = true
six Short = true
six Int = true
six Long = true
six other = false

has_more : (word : Keyword) (k : Counts) → six word ≡ true → has word (more word k) ≡ true
unfolding has more one_if
has_more Char k e = le-leb 1 (k.chars + 1) (omega arith)
has_more Signed k e = le-leb 1 (k.signeds + 1) (omega arith)
has_more Unsigned k e = le-leb 1 (k.unsigneds + 1) (omega arith)
has_more Short k e = le-leb 1 (k.shorts + 1) (omega arith)
has_more Int k e = le-leb 1 (k.ints + 1) (omega arith)
has_more Long k e = le-leb 1 (k.longs + 1) (omega arith)
has_more other k e = absurd (cc)

-- every entry has the six words alone
only_six : List Keyword × IntegerType → Bool
unfolding counts
only_six entry = (let k = counts entry.0 in k.chars + k.signeds + k.unsigneds + k.shorts + k.ints + k.longs) == length entry.0

table_six : list_all only_six combinations ≡ true
unfolding only_six counts number_of
table_six = refl

at_most_one : (word : Keyword) → one_if (is_char word) + one_if (is_signed word) + one_if (is_unsigned word) + one_if (is_short word) + one_if (is_int word) + one_if (is_long word) ≤ 1
unfolding one_if
at_most_one Char = omega arith
at_most_one Signed = omega arith
at_most_one Unsigned = omega arith
at_most_one Short = omega arith
at_most_one Int = omega arith
at_most_one Long = omega arith
at_most_one other = omega arith

number_first : (test : Keyword → Bool) (word : Keyword) (words : List Keyword) → number_of test (word ∷ words) ≡ one_if (test word) + number_of test words
unfolding number_of one_if
number_first test word words = by_test (test word)
  where
    by_test : (b : Bool) → length (cond b (word ∷ filter test words) (filter test words)) ≡ one_if b + length (filter test words)
    by_test true = omega arith
    by_test false = omega arith

total : List Keyword → ℕ
total words = number_of is_char words + number_of is_signed words + number_of is_unsigned words + number_of is_short words + number_of is_int words + number_of is_long words

total_none : total [] ≤ 0
unfolding total number_of
total_none = omega arith

total_step : (words : List Keyword) (word : Keyword) → total words ≤ length words → total (word ∷ words) ≤ suc (length words)
unfolding total
total_step words word rest =
    let one = at_most_one word in
    omega (arith, number_first is_char word words, number_first is_signed word words, number_first is_unsigned word words, number_first is_short word words, number_first is_int word words, number_first is_long word words)

total_least : (words : List Keyword) → total words ≤ length words
total_least [] = total_none
total_least (word ∷ words) = total_step words word (total_least words)

-- a word after others with which they name a type is one of the six
not_six : (word : Keyword) → six word ≡ false → (one_if (is_char word) ≡ 0) × (one_if (is_signed word) ≡ 0) × (one_if (is_unsigned word) ≡ 0) × (one_if (is_short word) ≡ 0) × (one_if (is_int word) ≡ 0) × (one_if (is_long word) ≡ 0)
unfolding one_if
not_six Char e = absurd (cc)
not_six Signed e = absurd (cc)
not_six Unsigned e = absurd (cc)
not_six Short e = absurd (cc)
not_six Int e = absurd (cc)
not_six Long e = absurd (cc)
not_six other e = (refl, refl, refl, refl, refl, refl)

no_type : (words : List Keyword) (word : Keyword) → six word ≡ false → is_some (integer_type_of (words ++ word ∷ [])) ≡ true → ⊥
unfolding only_six counts more total
no_type words word e h =
    let f = found_counts (counts (words ++ word ∷ [])) (ap is_some (sym (type_counts (words ++ word ∷ []))) ∙ h) in
    let k : counts f.0.0 ≡ more word (counts words) = f.1.1 ∙ counts_last words word in
    let t = eqb-true _ (length f.0.0) (all_listed only_six f.0 combinations table_six f.1.0) in
    let n = not_six word e in
    let least = total_least words in
    omega (arith, ap (λ c. c.all) k, ap (λ c. c.chars) k, ap (λ c. c.signeds) k, ap (λ c. c.unsigneds) k, ap (λ c. c.shorts) k, ap (λ c. c.ints) k, ap (λ c. c.longs) k, n.0, n.1, n.2, n.3, n.4, n.5)

pub word_six : (words : List Keyword) (word : Keyword) → is_some (integer_type_of (words ++ word ∷ [])) ≡ true → six word ≡ true
word_six words word h = by_test (six word) refl
  where
    by_test : (b : Bool) → six word ≡ b → six word ≡ true
    by_test true e = e
    by_test false e = absurd (no_type words word e h)

-- without its last word
implied : (a b c : Bool) → implies (a && b) c ≡ true → a ≡ true → b ≡ true → c ≡ true
implied true true c h e f = h
implied false b c h e f = absurd (cc)
implied true false c h e f = absurd (cc)

long_enough : (entry : List Keyword) (first : Keyword) (words : List Keyword) (word : Keyword) → counts entry ≡ more word (counts (first ∷ words)) → 2 ≤ length entry
unfolding counts more
long_enough entry first words word k = omega (arith, ap (λ c. c.all) k)

pub shorter_type : (first : Keyword) (words : List Keyword) (word : Keyword) → is_some (integer_type_of ((first ∷ words) ++ word ∷ [])) ≡ true → is_some (integer_type_of (first ∷ words)) ≡ true
unfolding keeps_without
shorter_type first words word h =
    let list : List Keyword = first ∷ words in
    let f = found_counts (counts (list ++ word ∷ [])) (ap is_some (sym (type_counts (list ++ word ∷ []))) ∙ h) in
    let k : counts f.0.0 ≡ more word (counts list) = f.1.1 ∙ counts_last list word in
    let kept = all_listed (keeps_without word) f.0 combinations (table_keeps word) f.1.0 in
    let has_word : has word (counts f.0.0) ≡ true = ap (has word) k ∙ has_more word (counts list) (word_six list word h) in
    let long : nat_le 2 (length f.0.0) ≡ true = le-leb 2 (length f.0.0) (long_enough f.0.0 first words word k) in
    ap is_some (type_counts list) ∙ sym (ap (λ c. is_some (type_by c)) (ap (less word) k ∙ less_more word (counts list)))
    ∙ implied (has word (counts f.0.0)) (nat_le 2 (length f.0.0)) (is_some (type_by (less word (counts f.0.0)))) kept has_word long

-- the first of some words
pub first_words : (first : Keyword) (words more : List Keyword) → is_some (integer_type_of (first ∷ (words ++ more))) ≡ true → is_some (integer_type_of (first ∷ words)) ≡ true
first_words first words [] h = subst (λ w. is_some (integer_type_of (first ∷ w)) ≡ true) (append-nil words) h
first_words first words (word ∷ more) h =
    shorter_type first words word (first_words first (words ++ word ∷ []) more (subst (λ w. is_some (integer_type_of (first ∷ w)) ≡ true) (sym (append_assoc words (word ∷ []) more)) h))
