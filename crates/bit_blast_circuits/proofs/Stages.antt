-- Loops over rows, stages and new bits, and clauses that are claimed one after the other.
use Rattle.std.proofs.Common.{◌≡◌, ◌≤◌, ◌<◌, ◌+◌, ◌-◌, ◌*◌, ◌++◌, ℕ, suc, true, false, List, [], ◌∷◌, length, drop, take, get_or, min, refl, ap, sym, ◌∙◌, subst, arith, inl, inr}
use Rattle.std.specs.Prelude.{nat_lt, if◌then◌else◌}
use Rattle.std.proofs.lemmas.List.{drop_all, drop_more}
use Rattle.std.proofs.lemmas.Bool.{cases_lt}
use Rattle.clause_check_spec.specs.declared.Literal.{Literal}
use Rattle.clause_check_spec.specs.Clause.{Clause, Cnf, negation}
use Rattle.term_core_spec.specs.Term.{Term}
use Rattle.bit_blast_spec.specs.Gates.{Bit, literal_of, Build, give, ◌>>=◌, make, claim}
use Rattle.bit_blast_spec.specs.Circuits.{Bits, none, zeros, or_all, choose_bits, sum_bits, and_each, add_rows, product_bits, shift_stages, new_bits, without_divisor}
use Rattle.bit_blast_circuits.specs.Built.{IsBuilt, Continues}
use Rattle.bit_blast_circuits.specs.Kinds.{add_row}
use Rattle.bit_blast_circuits.proofs.Built.{no_gates_after, gives_grouped, give_gives, continues_start, continues_then, continues_end, claims_more}
use Rattle.bit_blast_circuits.proofs.Steps.{Adds, adds_start, adds_bit, adds_end, IsAt, bit_before}

-- ---- rows

continues_grouped : {A B C D : Type 0} {whole : Build A} {old now : Cnf} {join : D → A} (build : Build B) (more : B → Build C) (rest : C → Build D)
    → Continues whole old now (build >>= λ b. more b >>= rest) join → Continues whole old now ((build >>= more) >>= rest) join
continues_grouped {now = now} build more rest on = record { ends = λ d end made. on.ends d end (gives_grouped build more rest now end d made) }

pub rows_end : {whole : Build Bits} {old now : Cnf} (xs ys so_far : Bits) (count index : ℕ) → length ys ≤ index
    → Continues whole old now (add_rows xs count (drop index ys) so_far) (λ bits. bits) → IsBuilt whole old so_far now
unfolding add_rows
rows_end {whole = whole} {old = old} {now = now} xs ys so_far count index past on =
    continues_end so_far (subst (λ zs. Continues whole old now (add_rows xs count zs so_far) (λ bits. bits)) (drop_all index ys past) on)

rows_step : {whole : Build Bits} {old now mid : Cnf} (xs ys so_far sum : Bits) (y : Literal) (index : ℕ)
    → Continues whole old now (add_rows xs index (y ∷ ys) so_far) (λ bits. bits) → IsBuilt (add_row xs index y so_far) now sum mid
    → Continues whole old mid (add_rows xs (suc index) ys sum) (λ bits. bits)
unfolding add_rows
rows_step xs ys so_far sum y index on made =
    continues_then (λ sum. add_rows xs (suc index) ys sum)
    (continues_grouped (and_each (take (length xs - index) xs) y) (λ row. sum_bits so_far (zeros index ++ row) none) (λ sum. add_rows xs (suc index) ys sum) on)
    made

pub rows_at : {whole : Build Bits} {old now mid : Cnf} (xs ys so_far sum : Bits) (y : Literal) (index : ℕ) → index < length ys → IsAt ys index y
    → Continues whole old now (add_rows xs index (drop index ys) so_far) (λ bits. bits) → IsBuilt (add_row xs index y so_far) now sum mid
    → Continues whole old mid (add_rows xs (index + 1) (drop (index + 1) ys) sum) (λ bits. bits)
rows_at {whole = whole} {old = old} {now = now} {mid = mid} xs ys so_far sum y index below first on made =
    let next : suc index ≡ index + 1 = omega arith in
    subst (λ n. Continues whole old mid (add_rows xs n (drop (index + 1) ys) sum) (λ bits. bits)) next
    (rows_step xs (drop (index + 1) ys) so_far sum y index
    (subst (λ zs. Continues whole old now (add_rows xs index zs so_far) (λ bits. bits)) (bit_before ys index y below first) on) made)

product_some : {now mid : Cnf} (xs ys row : Bits) (y : Literal) → IsBuilt (and_each xs y) now row mid
    → Continues (product_bits xs (y ∷ ys)) now mid (add_rows xs 1 ys row) (λ bits. bits)
unfolding product_bits
product_some {now = now} xs ys row y made = continues_then (λ row. add_rows xs 1 ys row) (continues_start (product_bits xs (y ∷ ys)) now) made

pub product_start : {now mid : Cnf} (xs ys row : Bits) (y : Literal) → 0 < length ys → IsAt ys 0 y → IsBuilt (and_each xs y) now row mid
    → Continues (product_bits xs ys) now mid (add_rows xs 1 (drop 1 ys) row) (λ bits. bits)
product_start {now = now} {mid = mid} xs ys row y some first made =
    subst (λ zs. Continues (product_bits xs zs) now mid (add_rows xs 1 (drop 1 ys) row) (λ bits. bits)) (sym (bit_before ys 0 y some first))
    (product_some xs (drop 1 ys) row y made)

pub product_none : (xs ys out : Bits) (old : Cnf) → length ys ≤ 0 → out ≡ [] → IsBuilt (product_bits xs ys) old out old
unfolding product_bits
product_none xs ys out old past nothing =
    subst (λ bits. IsBuilt (product_bits xs ys) old bits old) (sym nothing)
    (subst (λ zs. IsBuilt (product_bits xs zs) old [] old) (sym (drop_all 0 ys past)) (give_gives [] old))

-- ---- stages

pub stages_start : (move : ℕ → Bits → Bits) (counts xs word : Bits) (old : Cnf) → word ≡ xs
    → Continues (shift_stages move 1 counts xs) old old (shift_stages move 1 counts word) (λ made. made)
stages_start move counts xs word old same =
    subst (λ ws. Continues (shift_stages move 1 counts xs) old old (shift_stages move 1 counts ws) (λ made. made)) (sym same) (continues_start (shift_stages move 1 counts xs) old)

pub stages_end : {whole : Build (Bits × Literal)} {old now : Cnf} (move : ℕ → Bits → Bits) (distance : ℕ) (counts xs : Bits) (stage : ℕ) (past : Literal)
    → length counts ≤ stage → past ≡ none → Continues whole old now (shift_stages move distance (drop stage counts) xs) (λ made. made) → IsBuilt whole old (xs, past) now
unfolding shift_stages
stages_end {whole = whole} {old = old} {now = now} move distance counts xs stage past done nothing on =
    subst (λ o. IsBuilt whole old (xs, o) now) (sym nothing)
    (continues_end (xs, none) (subst (λ cs. Continues whole old now (shift_stages move distance cs xs) (λ made. made)) (drop_all stage counts done) on))

stages_step : {whole : Build (Bits × Literal)} {old now mid : Cnf} (move : ℕ → Bits → Bits) (distance : ℕ) (c : Literal) (counts xs moved : Bits)
    → nat_lt distance (length xs) ≡ true → Continues whole old now (shift_stages move distance (c ∷ counts) xs) (λ made. made)
    → IsBuilt (choose_bits c (move distance xs) xs) now moved mid → Continues whole old mid (shift_stages move (2 * distance) counts moved) (λ made. made)
unfolding shift_stages
stages_step {whole = whole} {old = old} {now = now} move distance c counts xs moved small on made =
    continues_then (λ moved. shift_stages move (2 * distance) counts moved)
    (subst (λ b. Continues whole old now
    (if b then choose_bits c (move distance xs) xs >>= (λ moved. shift_stages move (2 * distance) counts moved) else or_all (c ∷ counts) >>= (λ past. give (xs, past)))
    (λ made. made)) small on) made

stages_past : {whole : Build (Bits × Literal)} {old now mid : Cnf} (move : ℕ → Bits → Bits) (distance : ℕ) (c past : Literal) (counts xs : Bits)
    → nat_lt distance (length xs) ≡ false → Continues whole old now (shift_stages move distance (c ∷ counts) xs) (λ made. made)
    → IsBuilt (or_all (c ∷ counts)) now past mid → IsBuilt whole old (xs, past) mid
unfolding shift_stages
stages_past {whole = whole} {old = old} {now = now} move distance c past counts xs large on made =
    continues_end (xs, past)
    (continues_then (λ past. give (xs, past))
    (subst (λ b. Continues whole old now
    (if b then choose_bits c (move distance xs) xs >>= (λ moved. shift_stages move (2 * distance) counts moved) else or_all (c ∷ counts) >>= (λ past. give (xs, past)))
    (λ made. made)) large on) made)

pub stages_at : {whole : Build (Bits × Literal)} {old now mid : Cnf} (move : ℕ → Bits → Bits) (distance double : ℕ) (c : Literal) (counts xs moved : Bits) (stage : ℕ)
    → stage < length counts → IsAt counts stage c → nat_lt distance (length xs) ≡ true → double ≡ 2 * distance
    → Continues whole old now (shift_stages move distance (drop stage counts) xs) (λ made. made)
    → IsBuilt (choose_bits c (move distance xs) xs) now moved mid
    → Continues whole old mid (shift_stages move double (drop (stage + 1) counts) moved) (λ made. made)
stages_at {whole = whole} {old = old} {now = now} {mid = mid} move distance double c counts xs moved stage below here small twice on made =
    subst (λ n. Continues whole old mid (shift_stages move n (drop (stage + 1) counts) moved) (λ made. made)) (sym twice)
    (stages_step move distance c (drop (stage + 1) counts) xs moved small
    (subst (λ cs. Continues whole old now (shift_stages move distance cs xs) (λ made. made)) (bit_before counts stage c below here) on) made)

-- what is read past the end
abbrev blank : Literal
blank = record { variable = 0; is_negated = false }

pub stages_past_at : {whole : Build (Bits × Literal)} {old now mid : Cnf} (move : ℕ → Bits → Bits) (distance : ℕ) (past : Literal) (counts xs : Bits) (stage : ℕ)
    → stage < length counts → nat_lt distance (length xs) ≡ false → Continues whole old now (shift_stages move distance (drop stage counts) xs) (λ made. made)
    → IsBuilt (or_all (drop stage counts)) now past mid → IsBuilt whole old (xs, past) mid
stages_past_at {whole = whole} {old = old} {now = now} {mid = mid} move distance past counts xs stage below large on made =
    let here = drop_more counts stage blank below in
    stages_past move distance (get_or counts stage blank) past (drop (stage + 1) counts) xs large
    (subst (λ cs. Continues whole old now (shift_stages move distance cs xs) (λ made. made)) here on)
    (subst (λ cs. IsBuilt (or_all cs) now past mid) here made)

-- the words that a stage chooses from
pub chosen_same : (move : ℕ → Bits → Bits) (distance : ℕ) (c : Literal) (word first shifted second third : Bits) → second ≡ shifted → shifted ≡ move distance first → first ≡ word
    → third ≡ word → choose_bits c second third ≡ choose_bits c (move distance word) word
chosen_same move distance c word first shifted second third e f g h =
    ap (λ zs. choose_bits c zs third) (e ∙ f ∙ ap (move distance) g) ∙ ap (choose_bits c (move distance word)) h

-- ---- new bits

bit_made : (term : Term) (index : ℕ) (old new : Cnf) (bit : Literal) → bit ≡ literal_of (old.variables + 1)
    → new ≡ record { variables = old.variables + 1; clauses = old.clauses } → IsBuilt (make (Bit term index)) old bit new
bit_made term index old new bit same grown = record {
  answer = same;
  grown = grown ∙ sym (no_gates_after (record { variables = old.variables + 1; clauses = old.clauses }));
}

new_step : {whole : Build Bits} {old now mid : Cnf} (term : Term) (index count : ℕ) (bit : Literal) (out more : Bits) → more ≡ out ++ bit ∷ []
    → Adds whole old now out (new_bits term index (suc count)) → IsBuilt (make (Bit term index)) now bit mid → Adds whole old mid more (new_bits term (suc index) count)
unfolding new_bits
new_step term index count bit out more same on made =
    adds_bit out more bit same (continues_then (λ bit. new_bits term (suc index) count >>= λ rest. give (bit ∷ rest)) on.continues made)

pub new_at : {whole : Build Bits} {old now mid : Cnf} (term : Term) (index count i : ℕ) (bit : Literal) (out more : Bits) → i < count → more ≡ out ++ bit ∷ []
    → bit ≡ literal_of (now.variables + 1) → mid ≡ record { variables = now.variables + 1; clauses = now.clauses }
    → Adds whole old now out (new_bits term (index + i) (count - i)) → Adds whole old mid more (new_bits term (index + (i + 1)) (count - (i + 1)))
new_at {whole = whole} {old = old} {now = now} {mid = mid} term index count i bit out more below same named grown on =
    let left : count - i ≡ suc (count - (i + 1)) = omega arith in
    let next : suc (index + i) ≡ index + (i + 1) = omega arith in
    subst (λ n. Adds whole old mid more (new_bits term n (count - (i + 1)))) next
    (new_step term (index + i) (count - (i + 1)) bit out more same (subst (λ n. Adds whole old now out (new_bits term (index + i) n)) left on)
    (bit_made term (index + i) now mid bit named grown))

pub new_start : (term : Term) (index count : ℕ) (old : Cnf) (out : Bits) → out ≡ [] → Adds (new_bits term index count) old old out (new_bits term (index + 0) (count - 0))
new_start term index count old out nothing =
    let here : index ≡ index + 0 = omega arith in
    let all : count ≡ count - 0 = omega arith in
    subst (λ n. Adds (new_bits term index count) old old out (new_bits term n (count - 0))) here
    (subst (λ n. Adds (new_bits term index count) old old out (new_bits term index n)) all (adds_start (new_bits term index count) old out nothing))

new_none : (term : Term) (index count : ℕ) → count ≡ 0 → new_bits term index count ≡ give []
unfolding new_bits
new_none term index count none = ap (new_bits term index) none

pub new_end : {whole : Build Bits} {old now : Cnf} (term : Term) (index count i : ℕ) (out : Bits) → count ≤ i
    → Adds whole old now out (new_bits term (index + i) (count - i)) → IsBuilt whole old out now
new_end term index count i out past on = adds_end out (new_bits term (index + i) (count - i)) (new_none term (index + i) (count - i) (omega arith)) on

-- ---- clauses that are claimed

-- quotient and remainder where the divisor is 0, from an index on
pub record Claims (whole : List Clause) (old now : Cnf) (rest : List Clause) : Type 0 where
  pub ends : (end : Cnf) → IsBuilt (claim rest) now tt end → IsBuilt (claim whole) old tt end

pub claims_start : (whole : List Clause) (old : Cnf) → Claims whole old old whole
claims_start whole old = record { ends = λ end made. made }

claims_none : {whole : List Clause} {old now : Cnf} → Claims whole old now [] → IsBuilt (claim whole) old tt now
claims_none {now = now} on = on.ends now (record { answer = refl; grown = sym (no_gates_after now) })

claims_on : {whole : List Clause} {old now mid : Cnf} (cs ds : List Clause) → Claims whole old now (cs ++ ds) → IsBuilt (claim cs) now tt mid → Claims whole old mid ds
claims_on cs ds on made = record { ends = λ end rest. on.ends end (claims_more cs ds made rest) }

divisor_step : {whole : List Clause} {old s0 s1 s2 s3 : Cnf} (n q r x : Literal) (qs rs xs : Bits)
    → Claims whole old s0 (without_divisor n (q ∷ qs) (r ∷ rs) (x ∷ xs)) → IsBuilt (claim ((n ∷ q ∷ []) ∷ [])) s0 tt s1
    → IsBuilt (claim ((n ∷ negation r ∷ x ∷ []) ∷ [])) s1 tt s2 → IsBuilt (claim ((n ∷ r ∷ negation x ∷ []) ∷ [])) s2 tt s3
    → Claims whole old s3 (without_divisor n qs rs xs)
divisor_step n q r x qs rs xs on a b c =
    claims_on ((n ∷ r ∷ negation x ∷ []) ∷ []) (without_divisor n qs rs xs)
    (claims_on ((n ∷ negation r ∷ x ∷ []) ∷ []) ((n ∷ r ∷ negation x ∷ []) ∷ without_divisor n qs rs xs)
    (claims_on ((n ∷ q ∷ []) ∷ []) ((n ∷ negation r ∷ x ∷ []) ∷ (n ∷ r ∷ negation x ∷ []) ∷ without_divisor n qs rs xs) on a) b) c

pub divisor_at : {whole : List Clause} {old s0 s3 : Cnf} (s1 s2 : Cnf) (n a b c not_b not_c : Literal) (q r x : Bits) (index : ℕ)
    → index < length q → index < length r → index < length x → IsAt q index a → IsAt r index b → IsAt x index c → not_b ≡ negation b → not_c ≡ negation c
    → Claims whole old s0 (without_divisor n (drop index q) (drop index r) (drop index x)) → IsBuilt (claim ((n ∷ a ∷ []) ∷ [])) s0 tt s1
    → IsBuilt (claim ((n ∷ not_b ∷ c ∷ []) ∷ [])) s1 tt s2 → IsBuilt (claim ((n ∷ b ∷ not_c ∷ []) ∷ [])) s2 tt s3
    → Claims whole old s3 (without_divisor n (drop (index + 1) q) (drop (index + 1) r) (drop (index + 1) x))
divisor_at {whole = whole} {old = old} {s0 = s0} {s3 = s3} s1 s2 n a b c not_b not_c q r x index below_q below_r below_x at_q at_r at_x e f on first second third =
    divisor_step n a b c (drop (index + 1) q) (drop (index + 1) r) (drop (index + 1) x)
    (subst (λ zs. Claims whole old s0 (without_divisor n zs (b ∷ drop (index + 1) r) (c ∷ drop (index + 1) x))) (bit_before q index a below_q at_q)
    (subst (λ zs. Claims whole old s0 (without_divisor n (drop index q) zs (c ∷ drop (index + 1) x))) (bit_before r index b below_r at_r)
    (subst (λ zs. Claims whole old s0 (without_divisor n (drop index q) (drop index r) zs)) (bit_before x index c below_x at_x) on)))
    first
    (subst (λ l. IsBuilt (claim ((n ∷ l ∷ c ∷ []) ∷ [])) s1 tt s2) e second)
    (subst (λ l. IsBuilt (claim ((n ∷ b ∷ l ∷ []) ∷ [])) s2 tt s3) f third)

no_remainders : (n : Literal) (qs xs : Bits) → without_divisor n qs [] xs ≡ []
no_remainders n [] xs = refl
no_remainders n (q ∷ qs) xs = refl

no_dividends : (n : Literal) (qs rs : Bits) → without_divisor n qs rs [] ≡ []
no_dividends n [] rs = refl
no_dividends n (q ∷ qs) [] = refl
no_dividends n (q ∷ qs) (r ∷ rs) = refl

divisor_none : (n : Literal) (q r x : Bits) (index : ℕ) → min (min (length q) (length r)) (length x) ≤ index
    → without_divisor n (drop index q) (drop index r) (drop index x) ≡ []
divisor_none n q r x index past =
    elim (cases_lt index (length q)) [
      | inr done ↦ ap (λ zs. without_divisor n zs (drop index r) (drop index x)) (drop_all index q done)
      | inl below ↦ elim (cases_lt index (length r)) [
        | inr done ↦ ap (λ zs. without_divisor n (drop index q) zs (drop index x)) (drop_all index r done) ∙ no_remainders n (drop index q) (drop index x)
        | inl also ↦ ap (without_divisor n (drop index q) (drop index r)) (drop_all index x (omega (arith, past, below, also))) ∙ no_dividends n (drop index q) (drop index r)
      ]
    ]

pub divisor_end : {whole : List Clause} {old now : Cnf} (n : Literal) (q r x : Bits) (index : ℕ) → min (min (length q) (length r)) (length x) ≤ index
    → Claims whole old now (without_divisor n (drop index q) (drop index r) (drop index x)) → IsBuilt (claim whole) old tt now
divisor_end {whole = whole} {old = old} {now = now} n q r x index past on =
    claims_none (subst (λ clauses. Claims whole old now clauses) (divisor_none n q r x index past) on)
