-- Builds one after the other.
use Rattle.std.proofs.Common.{◌≡◌, ◌++◌, ℕ, List, [], ◌∷◌, refl, ap, ◌∙◌}
use Rattle.std.proofs.lemmas.List.{append_assoc}
use Rattle.bit_blast_spec.specs.Gates.{Gate, next, last_of, Made, Build, following, ◌>>=◌}

last_of-append : (last : ℕ) (gates more : List Gate) → last_of last (gates ++ more) ≡ last_of (last_of last gates) more
last_of-append last [] more = refl
last_of-append last (gate ∷ gates) more = last_of-append (next last gate) gates more

abbrev after_gates : {A : Type 0} → List Gate → Made A → Made A
after_gates gates made = record { out = made.out; gates = gates ++ made.gates }

-- the first build counts by what it makes alone
pub same_first : {A B : Type 0} (last : ℕ) (build other : Build A) (more : A → Build B) → build last ≡ other last → (build >>= more) last ≡ (other >>= more) last
same_first last build other more e = ap (λ made. following last made more) e

-- the second by what it makes after the first
pub same_second : {A B : Type 0} (last : ℕ) (build : Build A) (more other : A → Build B)
    → ((a : A) (n : ℕ) → a ≡ (build last).out → more a n ≡ other a n) → (build >>= more) last ≡ (build >>= other) last
same_second last build more other same =
    ap (after_gates (build last).gates) (same (build last).out (last_of last (build last).gates) refl)

pub bind_assoc : {A B C : Type 0} (last : ℕ) (build : Build A) (more : A → Build B) (rest : B → Build C)
    → ((build >>= more) >>= rest) last ≡ (build >>= λ a. more a >>= rest) last
bind_assoc {C = C} last build more rest =
    let first = (build last).gates in
    let middle = more (build last).out (last_of last (build last).gates) in
    let made : ℕ → Made C = λ n. record { out = (rest middle.out n).out; gates = (first ++ middle.gates) ++ (rest middle.out n).gates } in
    let end = last_of (last_of last first) middle.gates in
    let over : List Gate → Made C = λ gates. record { out = (rest middle.out end).out; gates = gates } in
    ap made (last_of-append last first middle.gates) ∙ ap over (append_assoc first middle.gates (rest middle.out end).gates)
