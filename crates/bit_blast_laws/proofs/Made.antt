-- What is made one after the other.
use Rattle.std.proofs.Common.{◌≡◌, ◌≤◌, ◌+◌, ℕ, zero, suc, List, [], ◌∷◌, ◌++◌, map, take, drop, replicate, refl, sym, subst, arith}
use Rattle.clause_check_spec.specs.declared.Literal.{Literal}
use Rattle.clause_check_spec.specs.Clause.{negation}
use Rattle.bit_blast_spec.specs.Gates.{Gate, Truth, Bit, And, Xor, Mux, Majority, Claim, next, last_of, literal_of, Build, give, ◌>>=◌}
use Rattle.bit_blast_spec.specs.Circuits.{Bits, one, none, and_gate, or_gate, xor_gate, mux_gate, majority_gate, each, each_two, fold_gates, and_all, or_all, sign_of}
use Rattle.bit_blast_laws.specs.Named.{IsNamed, AreNamed, GatesName, WellMade}

-- ---- names stay

next_rises : (last : ℕ) (gate : Gate) → last ≤ next last gate
next_rises last Truth = omega arith
next_rises last (Bit term index) = omega arith
next_rises last (And a b) = omega arith
next_rises last (Xor a b) = omega arith
next_rises last (Mux c a b) = omega arith
next_rises last (Majority a b c) = omega arith
next_rises last (Claim clause) = omega arith

pub last_rises : (last : ℕ) (gates : List Gate) → last ≤ last_of last gates
last_rises last [] = omega arith
last_rises last (gate ∷ gates) = let h = next_rises last gate in let k = last_rises (next last gate) gates in omega (arith, h, k)

pub still_named : (last more : ℕ) (l : Literal) → last ≤ more → IsNamed last l → IsNamed more l
still_named last more l h named = record { some = named.some; made = (let e = named.made in omega (arith, e, h)) }

pub still_all : (last more : ℕ) (found : Bits) → last ≤ more → AreNamed last found → AreNamed more found
still_all last more [] h named = tt
still_all last more (l ∷ found) h named = (still_named last more l h named.0, still_all last more found h named.1)

pub names_negation : (last : ℕ) (l : Literal) → IsNamed last l → IsNamed last (negation l)
names_negation last l named = record { some = named.some; made = named.made }

pub names_negations : (last : ℕ) (found : Bits) → AreNamed last found → AreNamed last (map negation found)
names_negations last [] named = tt
names_negations last (l ∷ found) named = (names_negation last l named.0, names_negations last found named.1)

pub names-append : (last : ℕ) (xs ys : Bits) → AreNamed last xs → AreNamed last ys → AreNamed last (xs ++ ys)
names-append last [] ys h k = k
names-append last (x ∷ xs) ys h k = (h.0, names-append last xs ys h.1 k)

pub names-take : (last count : ℕ) (xs : Bits) → AreNamed last xs → AreNamed last (take count xs)
names-take last zero xs h = tt
names-take last (suc count) [] h = tt
names-take last (suc count) (x ∷ xs) h = (h.0, names-take last count xs h.1)

pub names-drop : (last count : ℕ) (xs : Bits) → AreNamed last xs → AreNamed last (drop count xs)
names-drop last zero xs h = h
names-drop last (suc count) [] h = tt
names-drop last (suc count) (x ∷ xs) h = names-drop last count xs h.1

pub names-replicate : (last count : ℕ) (l : Literal) → IsNamed last l → AreNamed last (replicate count l)
names-replicate last zero l h = tt
names-replicate last (suc count) l h = (h, names-replicate last count l h)

pub names_one : (last : ℕ) → 1 ≤ last → IsNamed last one
names_one last h = record { some = omega arith; made = h }

pub names_none : (last : ℕ) → 1 ≤ last → IsNamed last none
names_none last h = record { some = omega arith; made = h }

pub names_sign : (last : ℕ) (xs : Bits) → 1 ≤ last → AreNamed last xs → IsNamed last (sign_of xs)
names_sign last [] h named = names_none last h
names_sign last (x ∷ []) h named = named.0
names_sign last (x ∷ y ∷ xs) h named = names_sign last (y ∷ xs) h named.1

-- ---- one after the other

pub last_of-append : (last : ℕ) (gates more : List Gate) → last_of last (gates ++ more) ≡ last_of (last_of last gates) more
last_of-append last [] more = refl
last_of-append last (gate ∷ gates) more = last_of-append (next last gate) gates more

pub names_gates : (last : ℕ) (gates more : List Gate) → GatesName last gates → GatesName (last_of last gates) more → GatesName last (gates ++ more)
names_gates last [] more h k = k
names_gates last (gate ∷ gates) more h k = (h.0, names_gates (next last gate) gates more h.1 k)

-- first some gates, and then those that use their outcome
pub then_made : {A B : Type 0} (NamesA : ℕ → A → Type 0) (NamesB : ℕ → B → Type 0) (build : Build A) (more : A → Build B) (last : ℕ) → WellMade A NamesA last (build last)
    → WellMade B NamesB (last_of last (build last).gates) (more (build last).out (last_of last (build last).gates))
    → WellMade B NamesB last ((build >>= more) last)
then_made NamesA NamesB build more last first second =
    let middle = last_of last (build last).gates in
    let rest = more (build last).out middle in
    let whole = last_of-append last (build last).gates rest.gates in
    record {
      gates = names_gates last (build last).gates rest.gates first.gates second.gates;
      out = subst (λ n. NamesB n rest.out) (sym whole) second.out;
      rises = subst (λ n. last ≤ n) (sym whole) (let h = first.rises in let k = second.rises in omega (arith, h, k));
    }

pub give_made : {A : Type 0} (Names : ℕ → A → Type 0) (x : A) (last : ℕ) → Names last x → WellMade A Names last (give x last)
give_made Names x last h = record { gates = tt; out = h; rises = omega arith }

-- a gate of one new variable
new_one : (last : ℕ) → IsNamed (last + 1) (literal_of (last + 1))
new_one last = record { some = omega arith; made = omega arith }

-- ---- single bits

-- a gate of two literals
unfoldable pub TwoMade : (Literal → Literal → Build Literal) → Type 0
TwoMade gate = (a b : Literal) (last : ℕ) → 1 ≤ last → IsNamed last a → IsNamed last b → WellMade Literal IsNamed last (gate a b last)

pub and_made : TwoMade and_gate
unfolding TwoMade
and_made a b last some h k = record { gates = ((h, k), tt); out = new_one last; rises = omega arith }

pub xor_made : TwoMade xor_gate
unfolding TwoMade
xor_made a b last some h k = record { gates = ((h, k), tt); out = new_one last; rises = omega arith }

pub or_made : TwoMade or_gate
unfolding TwoMade
or_made a b last some h k = record {
  gates = ((names_negation last a h, names_negation last b k), tt);
  out = names_negation (last + 1) (literal_of (last + 1)) (new_one last);
  rises = omega arith;
}

pub mux_made : (c a b : Literal) (last : ℕ) → IsNamed last c → IsNamed last a → IsNamed last b → WellMade Literal IsNamed last (mux_gate c a b last)
mux_made c a b last g h k = record { gates = ((g, h, k), tt); out = new_one last; rises = omega arith }

pub majority_made : (a b c : Literal) (last : ℕ) → IsNamed last a → IsNamed last b → IsNamed last c → WellMade Literal IsNamed last (majority_gate a b c last)
majority_made a b c last g h k = record { gates = ((g, h, k), tt); out = new_one last; rises = omega arith }

-- ---- bit by bit

pub each_made : (gate : Literal → Build Literal) (low : ℕ)
    → ((a : Literal) (last : ℕ) → low ≤ last → IsNamed last a → WellMade Literal IsNamed last (gate a last))
    → (xs : Bits) (last : ℕ) → low ≤ last → AreNamed last xs → WellMade Bits AreNamed last (each gate xs last)
unfolding each
each_made gate low made [] last h named = give_made AreNamed [] last tt
each_made gate low made (x ∷ xs) last h named =
    let first = made x last h named.0 in
    let middle = last_of last (gate x last).gates in
    then_made IsNamed AreNamed (gate x) (λ o. each gate xs >>= λ rest. give (o ∷ rest)) last first
    (let rises = first.rises in
    let second = each_made gate low made xs middle (omega (arith, h, rises)) (still_all last middle xs rises named.1) in
    then_made AreNamed AreNamed (each gate xs) (λ rest. give ((gate x last).out ∷ rest)) middle second
    (give_made AreNamed ((gate x last).out ∷ (each gate xs middle).out) (last_of middle (each gate xs middle).gates)
    (still_named middle (last_of middle (each gate xs middle).gates) (gate x last).out second.rises first.out, second.out)))

pub each_two_made : (gate : Literal → Literal → Build Literal) (low : ℕ)
    → ((a b : Literal) (last : ℕ) → low ≤ last → IsNamed last a → IsNamed last b → WellMade Literal IsNamed last (gate a b last))
    → (xs ys : Bits) (last : ℕ) → low ≤ last → AreNamed last xs → AreNamed last ys → WellMade Bits AreNamed last (each_two gate xs ys last)
unfolding each_two
each_two_made gate low made [] ys last h nx ny = give_made AreNamed [] last tt
each_two_made gate low made (x ∷ xs) [] last h nx ny = give_made AreNamed [] last tt
each_two_made gate low made (x ∷ xs) (y ∷ ys) last h nx ny =
    let first = made x y last h nx.0 ny.0 in
    let middle = last_of last (gate x y last).gates in
    then_made IsNamed AreNamed (gate x y) (λ o. each_two gate xs ys >>= λ rest. give (o ∷ rest)) last first
    (let rises = first.rises in
    let second = each_two_made gate low made xs ys middle (omega (arith, h, rises)) (still_all last middle xs rises nx.1) (still_all last middle ys rises ny.1) in
    then_made AreNamed AreNamed (each_two gate xs ys) (λ rest. give ((gate x y last).out ∷ rest)) middle second
    (give_made AreNamed ((gate x y last).out ∷ (each_two gate xs ys middle).out) (last_of middle (each_two gate xs ys middle).gates)
    (still_named middle (last_of middle (each_two gate xs ys middle).gates) (gate x y last).out second.rises first.out, second.out)))

pub fold_made : (gate : Literal → Literal → Build Literal) → TwoMade gate → (so_far : Literal) (found : Bits) (last : ℕ) → 1 ≤ last → IsNamed last so_far → AreNamed last found
    → WellMade Literal IsNamed last (fold_gates gate so_far found last)
unfolding fold_gates TwoMade
fold_made gate made so_far [] last some h named = give_made IsNamed so_far last h
fold_made gate made so_far (bit ∷ found) last some h named =
    let first = made so_far bit last some h named.0 in
    let middle = last_of last (gate so_far bit last).gates in
    let rises = first.rises in
    then_made IsNamed IsNamed (gate so_far bit) (λ o. fold_gates gate o found) last first
    (fold_made gate made (gate so_far bit last).out found middle (omega (arith, some, rises)) first.out (still_all last middle found rises named.1))

pub and_all_made : (found : Bits) (last : ℕ) → 1 ≤ last → AreNamed last found → WellMade Literal IsNamed last (and_all found last)
unfolding and_all
and_all_made [] last some named = give_made IsNamed one last (names_one last some)
and_all_made (bit ∷ found) last some named = fold_made and_gate and_made bit found last some named.0 named.1

pub or_all_made : (found : Bits) (last : ℕ) → 1 ≤ last → AreNamed last found → WellMade Literal IsNamed last (or_all found last)
unfolding or_all
or_all_made [] last some named = give_made IsNamed none last (names_none last some)
or_all_made (bit ∷ found) last some named = fold_made or_gate or_made bit found last some named.0 named.1
