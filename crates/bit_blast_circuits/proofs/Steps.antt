-- Loops over words: what is left of a build at an index, one index on, and at the end.
use Rattle.std.proofs.Common.{◌≡◌, ◌≤◌, ◌<◌, ◌+◌, ◌++◌, ℕ, false, [], ◌∷◌, ◌⊎◌, length, drop, get_or, min, refl, ap, sym, ◌∙◌, subst, arith, inl, inr}
use Rattle.std.proofs.lemmas.List.{append-nil, append_assoc, drop_more, drop_all}
use Rattle.std.proofs.lemmas.Bool.{cases_lt}
use Rattle.clause_check_spec.specs.declared.Literal.{Literal}
use Rattle.clause_check_spec.specs.Clause.{Cnf}
use Rattle.bit_blast_spec.specs.Gates.{Build, give, ◌>>=◌}
use Rattle.bit_blast_spec.specs.Circuits.{Bits, xor_gate, majority_gate, each, each_two, fold_gates, sum_bits, carry_bit}
use Rattle.bit_blast_circuits.specs.Built.{IsBuilt, Continues}
use Rattle.bit_blast_circuits.proofs.Built.{continues_then, continues_give, continues_join, continues_end}

-- ---- words that are made bit by bit: what the rest gives follows the bits so far

pub record Adds (whole : Build Bits) (old now : Cnf) (out : Bits) (rest : Build Bits) : Type 0 where
  pub continues : Continues whole old now rest (λ bits. out ++ bits)

-- no bit yet
pub adds_start : (whole : Build Bits) (old : Cnf) (out : Bits) → out ≡ [] → Adds whole old old out whole
adds_start whole old out none =
    subst (λ bits. Adds whole old old bits whole) (sym none) (record { continues = record { ends = λ b end rest. rest } })

-- one bit more
pub adds_bit : {whole : Build Bits} {old now : Cnf} {rest : Build Bits} (out more : Bits) (bit : Literal) → more ≡ out ++ bit ∷ []
    → Continues whole old now (rest >>= λ bits. give (bit ∷ bits)) (λ bits. out ++ bits) → Adds whole old now more rest
adds_bit {whole = whole} {old = old} {now = now} {rest = rest} out more bit same on =
    subst (λ bits. Adds whole old now bits rest) (sym same) (record {
      continues = continues_join (λ bits. out ++ bit ∷ bits) (λ bits. (out ++ bit ∷ []) ++ bits) (λ bits. sym (append_assoc out (bit ∷ []) bits))
          (continues_give (λ bits. bit ∷ bits) on);
    })

-- no bit is left
pub adds_end : {whole : Build Bits} {old now : Cnf} (out : Bits) (rest : Build Bits) → rest ≡ give [] → Adds whole old now out rest → IsBuilt whole old out now
adds_end {whole = whole} {old = old} {now = now} out rest none on =
    subst (λ bits. IsBuilt whole old bits now) (append-nil out)
    (continues_end [] (subst (λ build. Continues whole old now build (λ bits. out ++ bits)) none on.continues))

-- ---- words at an index

-- a bit is that of an index
abbrev pub IsAt : Bits → ℕ → Literal → Type 0
IsAt xs index x = x ≡ get_or xs index x

pub bit_before : (xs : Bits) (index : ℕ) (x : Literal) → index < length xs → IsAt xs index x → drop index xs ≡ x ∷ drop (index + 1) xs
bit_before xs index x below here = drop_more xs index x below ∙ ap (λ y. y ∷ drop (index + 1) xs) (sym here)

-- past the shorter of two words
shorter_done : (xs ys : Bits) (index : ℕ) → min (length xs) (length ys) ≤ index → (drop index xs ≡ []) ⊎ (drop index ys ≡ [])
shorter_done xs ys index past =
    elim (cases_lt index (length xs)) [
      | inl below ↦ inr (drop_all index ys (omega (arith, past, below)))
      | inr done ↦ inl (drop_all index xs done)
    ]

-- what is the same at the end of either word
pub at_shorter : {X : Type 0} (F : Bits → Bits → X) (v : X) → ((ys : Bits) → F [] ys ≡ v) → ((xs : Bits) → F xs [] ≡ v) → (xs ys : Bits) (index : ℕ)
    → min (length xs) (length ys) ≤ index → F (drop index xs) (drop index ys) ≡ v
at_shorter F v left right xs ys index past =
    elim (shorter_done xs ys index past) [
      | inl e ↦ ap (λ zs. F zs (drop index ys)) e ∙ left (drop index ys)
      | inr e ↦ ap (F (drop index xs)) e ∙ right (drop index xs)
    ]

-- what is so of both words from an index on, by their bits there
pub both_before : (P : Bits → Bits → Type 0) (xs ys : Bits) (index : ℕ) (x y : Literal) → index < length xs → index < length ys → IsAt xs index x → IsAt ys index y
    → P (drop index xs) (drop index ys) → P (x ∷ drop (index + 1) xs) (y ∷ drop (index + 1) ys)
both_before P xs ys index x y below also first second here =
    subst (λ zs. P zs (y ∷ drop (index + 1) ys)) (bit_before xs index x below first)
    (subst (λ zs. P (drop index xs) zs) (bit_before ys index y also second) here)

-- ---- one gate for each index

each_two_nothing : (gate : Literal → Literal → Build Literal) (ys : Bits) → each_two gate [] ys ≡ give []
unfolding each_two
each_two_nothing gate ys = refl

each_two_none : (gate : Literal → Literal → Build Literal) (xs : Bits) → each_two gate xs [] ≡ give []
unfolding each_two
each_two_none gate [] = refl
each_two_none gate (x ∷ xs) = refl

pub each_two_end : {whole : Build Bits} {old now : Cnf} (gate : Literal → Literal → Build Literal) (xs ys : Bits) (index : ℕ) (out : Bits)
    → min (length xs) (length ys) ≤ index → Adds whole old now out (each_two gate (drop index xs) (drop index ys)) → IsBuilt whole old out now
each_two_end gate xs ys index out past on =
    adds_end out (each_two gate (drop index xs) (drop index ys))
    (at_shorter (each_two gate) (give []) (each_two_nothing gate) (each_two_none gate) xs ys index past) on

each_two_step : {whole : Build Bits} {old now mid : Cnf} (gate : Literal → Literal → Build Literal) (x y o : Literal) (xs ys out more : Bits) → more ≡ out ++ o ∷ []
    → Adds whole old now out (each_two gate (x ∷ xs) (y ∷ ys)) → IsBuilt (gate x y) now o mid → Adds whole old mid more (each_two gate xs ys)
unfolding each_two
each_two_step gate x y o xs ys out more same on made =
    adds_bit out more o same (continues_then (λ o. each_two gate xs ys >>= λ rest. give (o ∷ rest)) on.continues made)

pub each_two_at : {whole : Build Bits} {old now mid : Cnf} (gate : Literal → Literal → Build Literal) (x y o : Literal) (xs ys : Bits) (index : ℕ) (out more : Bits)
    → index < length xs → index < length ys → IsAt xs index x → IsAt ys index y → more ≡ out ++ o ∷ []
    → Adds whole old now out (each_two gate (drop index xs) (drop index ys)) → IsBuilt (gate x y) now o mid
    → Adds whole old mid more (each_two gate (drop (index + 1) xs) (drop (index + 1) ys))
each_two_at {whole = whole} {old = old} {now = now} gate x y o xs ys index out more below also first second same on made =
    each_two_step gate x y o (drop (index + 1) xs) (drop (index + 1) ys) out more same
    (both_before (λ xs ys. Adds whole old now out (each_two gate xs ys)) xs ys index x y below also first second on) made

each_nothing : (gate : Literal → Build Literal) → each gate [] ≡ give []
unfolding each
each_nothing gate = refl

pub each_end : {whole : Build Bits} {old now : Cnf} (gate : Literal → Build Literal) (xs : Bits) (index : ℕ) (out : Bits)
    → length xs ≤ index → Adds whole old now out (each gate (drop index xs)) → IsBuilt whole old out now
each_end gate xs index out past on =
    adds_end out (each gate (drop index xs)) (ap (each gate) (drop_all index xs past) ∙ each_nothing gate) on

each_step : {whole : Build Bits} {old now mid : Cnf} (gate : Literal → Build Literal) (x o : Literal) (xs out more : Bits) → more ≡ out ++ o ∷ []
    → Adds whole old now out (each gate (x ∷ xs)) → IsBuilt (gate x) now o mid → Adds whole old mid more (each gate xs)
unfolding each
each_step gate x o xs out more same on made = adds_bit out more o same (continues_then (λ o. each gate xs >>= λ rest. give (o ∷ rest)) on.continues made)

pub each_at : {whole : Build Bits} {old now mid : Cnf} (gate : Literal → Build Literal) (x o : Literal) (xs : Bits) (index : ℕ) (out more : Bits)
    → index < length xs → IsAt xs index x → more ≡ out ++ o ∷ [] → Adds whole old now out (each gate (drop index xs)) → IsBuilt (gate x) now o mid
    → Adds whole old mid more (each gate (drop (index + 1) xs))
each_at {whole = whole} {old = old} {now = now} gate x o xs index out more below first same on made =
    each_step gate x o (drop (index + 1) xs) out more same
    (subst (λ zs. Adds whole old now out (each gate zs)) (bit_before xs index x below first) on) made

-- ---- folds

pub fold_end : {whole : Build Literal} {old now : Cnf} (gate : Literal → Literal → Build Literal) (so_far : Literal) (xs : Bits) (index : ℕ)
    → length xs ≤ index → Continues whole old now (fold_gates gate so_far (drop index xs)) (λ o. o) → IsBuilt whole old so_far now
unfolding fold_gates
fold_end {whole = whole} {old = old} {now = now} gate so_far xs index past on =
    continues_end so_far (subst (λ zs. Continues whole old now (fold_gates gate so_far zs) (λ o. o)) (drop_all index xs past) on)

fold_step : {whole : Build Literal} {old now mid : Cnf} (gate : Literal → Literal → Build Literal) (so_far x o : Literal) (xs : Bits)
    → Continues whole old now (fold_gates gate so_far (x ∷ xs)) (λ o. o) → IsBuilt (gate so_far x) now o mid → Continues whole old mid (fold_gates gate o xs) (λ o. o)
unfolding fold_gates
fold_step gate so_far x o xs on made = continues_then (λ o. fold_gates gate o xs) on made

pub fold_at : {whole : Build Literal} {old now mid : Cnf} (gate : Literal → Literal → Build Literal) (so_far x o : Literal) (xs : Bits) (index : ℕ)
    → index < length xs → IsAt xs index x → Continues whole old now (fold_gates gate so_far (drop index xs)) (λ o. o) → IsBuilt (gate so_far x) now o mid
    → Continues whole old mid (fold_gates gate o (drop (index + 1) xs)) (λ o. o)
fold_at {whole = whole} {old = old} {now = now} gate so_far x o xs index below first on made =
    fold_step gate so_far x o (drop (index + 1) xs)
    (subst (λ zs. Continues whole old now (fold_gates gate so_far zs) (λ o. o)) (bit_before xs index x below first) on) made

-- ---- sums

sum_nothing : (carry : Literal) (ys : Bits) → sum_bits [] ys carry ≡ give []
unfolding sum_bits
sum_nothing carry ys = refl

sum_none : (carry : Literal) (xs : Bits) → sum_bits xs [] carry ≡ give []
unfolding sum_bits
sum_none carry [] = refl
sum_none carry (x ∷ xs) = refl

pub sum_end : {whole : Build Bits} {old now : Cnf} (xs ys : Bits) (carry : Literal) (index : ℕ) (out : Bits)
    → min (length xs) (length ys) ≤ index → Adds whole old now out (sum_bits (drop index xs) (drop index ys) carry) → IsBuilt whole old out now
sum_end xs ys carry index out past on =
    adds_end out (sum_bits (drop index xs) (drop index ys) carry)
    (at_shorter (λ xs ys. sum_bits xs ys carry) (give []) (sum_nothing carry) (sum_none carry) xs ys index past) on

sum_step : {whole : Build Bits} {old s0 s1 s2 s3 : Cnf} (x y carry half bit next : Literal) (xs ys out more : Bits) → more ≡ out ++ bit ∷ []
    → Adds whole old s0 out (sum_bits (x ∷ xs) (y ∷ ys) carry) → IsBuilt (xor_gate x y) s0 half s1 → IsBuilt (xor_gate half carry) s1 bit s2
    → IsBuilt (majority_gate x y carry) s2 next s3 → Adds whole old s3 more (sum_bits xs ys next)
unfolding sum_bits
sum_step x y carry half bit next xs ys out more same on of_half of_bit of_next =
    adds_bit out more bit same
    (continues_then (λ next. sum_bits xs ys next >>= λ rest. give (bit ∷ rest))
    (continues_then (λ bit. majority_gate x y carry >>= λ next. sum_bits xs ys next >>= λ rest. give (bit ∷ rest))
    (continues_then (λ half. xor_gate half carry >>= λ bit. majority_gate x y carry >>= λ next. sum_bits xs ys next >>= λ rest. give (bit ∷ rest)) on.continues of_half)
    of_bit) of_next)

pub sum_at : {whole : Build Bits} {old s0 s1 s2 s3 : Cnf} (x y carry half bit next : Literal) (xs ys : Bits) (index : ℕ) (out more : Bits)
    → index < length xs → index < length ys → IsAt xs index x → IsAt ys index y → more ≡ out ++ bit ∷ []
    → Adds whole old s0 out (sum_bits (drop index xs) (drop index ys) carry)
    → IsBuilt (xor_gate x y) s0 half s1 → IsBuilt (xor_gate half carry) s1 bit s2
    → IsBuilt (majority_gate x y carry) s2 next s3
    → Adds whole old s3 more (sum_bits (drop (index + 1) xs) (drop (index + 1) ys) next)
sum_at {whole = whole} {old = old} {s0 = s0} x y carry half bit next xs ys index out more below also first second same on of_half of_bit of_next =
    sum_step x y carry half bit next (drop (index + 1) xs) (drop (index + 1) ys) out more same
    (both_before (λ xs ys. Adds whole old s0 out (sum_bits xs ys carry)) xs ys index x y below also first second on) of_half of_bit of_next

-- ---- carries

carry_nothing : (carry : Literal) (ys : Bits) → carry_bit [] ys carry ≡ give carry
unfolding carry_bit
carry_nothing carry ys = refl

carry_none : (carry : Literal) (xs : Bits) → carry_bit xs [] carry ≡ give carry
unfolding carry_bit
carry_none carry [] = refl
carry_none carry (x ∷ xs) = refl

pub carry_end : {whole : Build Literal} {old now : Cnf} (xs ys : Bits) (carry : Literal) (index : ℕ)
    → min (length xs) (length ys) ≤ index → Continues whole old now (carry_bit (drop index xs) (drop index ys) carry) (λ o. o) → IsBuilt whole old carry now
carry_end {whole = whole} {old = old} {now = now} xs ys carry index past on =
    continues_end carry (subst (λ rest. Continues whole old now rest (λ o. o))
    (at_shorter (λ xs ys. carry_bit xs ys carry) (give carry) (carry_nothing carry) (carry_none carry) xs ys index past) on)

carry_step : {whole : Build Literal} {old now mid : Cnf} (x y carry next : Literal) (xs ys : Bits)
    → Continues whole old now (carry_bit (x ∷ xs) (y ∷ ys) carry) (λ o. o) → IsBuilt (majority_gate x y carry) now next mid
    → Continues whole old mid (carry_bit xs ys next) (λ o. o)
unfolding carry_bit
carry_step x y carry next xs ys on made = continues_then (λ next. carry_bit xs ys next) on made

pub carry_at : {whole : Build Literal} {old now mid : Cnf} (x y carry next : Literal) (xs ys : Bits) (index : ℕ) → index < length xs → index < length ys → IsAt xs index x → IsAt ys index y
    → Continues whole old now (carry_bit (drop index xs) (drop index ys) carry) (λ o. o) → IsBuilt (majority_gate x y carry) now next mid
    → Continues whole old mid (carry_bit (drop (index + 1) xs) (drop (index + 1) ys) next) (λ o. o)
carry_at {whole = whole} {old = old} {now = now} x y carry next xs ys index below also first second on made =
    carry_step x y carry next (drop (index + 1) xs) (drop (index + 1) ys)
    (both_before (λ xs ys. Continues whole old now (carry_bit xs ys carry) (λ o. o)) xs ys index x y below also first second on) made
