-- Stacks of steps.
use Rattle.std.proofs.Common.{◌≡◌, ℕ, ◌+◌, ◌*◌, ◌<◌, List, [], ◌∷◌, ◌++◌, refl, ap, sym, ◌∙◌, arith}
use Rattle.std.proofs.lemmas.List.{append_assoc, append-nil}
use Rattle.term_core_spec.specs.Term.{Term, Leaf, Unary, Binary, Ternary, Quaternary, Octonary}
use Rattle.bit_blast_spec.specs.Gates.{Gate, Made, Build, ◌>>=◌}
use Rattle.bit_blast_spec.specs.Goal.{Table, visit}
use Rattle.bit_blast.specs.Steps.{Step, Visit, Finish, act, run, visits, arguments, size, weight, weights}
use Rattle.bit_blast.proofs.Builds.{same_first, same_second, bind_assoc}

-- the last step comes first
pub run-last : (steps : List Step) (step : Step) (table : Table) (last : ℕ) → run (steps ++ step ∷ []) table last ≡ (act step table >>= run steps) last
run-last [] step table last =
    let over : List Gate → Made Table = λ gates. record { out = (act step table last).out; gates = gates } in
    ap over (sym (append-nil (act step table last).gates))
run-last (first ∷ steps) step table last =
    same_first last (run (steps ++ step ∷ []) table) (act step table >>= run steps) (act first) (run-last steps step table last)
    ∙ bind_assoc last (act step table) (run steps) (act first)

-- ---- visits of terms one after the other, and what comes then

abbrev pub visit_then : List Term → (Table → Build Table) → Table → Build Table
visit_then [] more table = more table
visit_then (term ∷ terms) more table = visit term table >>= visit_then terms more

pub run-visits : (steps : List Step) (terms : List Term) (table : Table) (last : ℕ) → run (steps ++ visits terms) table last ≡ visit_then terms (run steps) table last
run-visits steps [] table last = ap (λ s. run s table last) (append-nil steps)
run-visits steps (term ∷ terms) table last =
    ap (λ s. run s table last) (sym (append_assoc steps (visits terms) (Visit term ∷ [])))
    ∙ run-last (steps ++ visits terms) (Visit term) table last
    ∙ same_second last (visit term table) (run (steps ++ visits terms)) (visit_then terms (run steps)) (λ t n e. run-visits steps terms t n)

pub then-assoc : (terms : List Term) (more rest : Table → Build Table) (table : Table) (last : ℕ)
    → (visit_then terms more table >>= rest) last ≡ visit_then terms (λ t. more t >>= rest) table last
then-assoc [] more rest table last = refl
then-assoc (term ∷ terms) more rest table last =
    bind_assoc last (visit term table) (visit_then terms more) rest
    ∙ same_second last (visit term table) (λ t. visit_then terms more t >>= rest) (visit_then terms (λ t. more t >>= rest)) (λ t n e. then-assoc terms more rest t n)

pub then-same : (terms : List Term) (more other : Table → Build Table) (table : Table) (last : ℕ) → ((t : Table) (n : ℕ) → more t n ≡ other t n)
    → visit_then terms more table last ≡ visit_then terms other table last
then-same [] more other table last same = same table last
then-same (term ∷ terms) more other table last same =
    same_second last (visit term table) (visit_then terms more) (visit_then terms other) (λ t n e. then-same terms more other t n same)

-- ---- weights

pub weights-append : (steps more : List Step) → weights (steps ++ more) ≡ weights steps + weights more
weights-append [] more = omega arith
weights-append (step ∷ steps) more = omega (arith, weights-append steps more)

abbrev sizes : List Term → ℕ
sizes [] = 0
sizes (term ∷ terms) = size term + sizes terms

visits_weigh : (terms : List Term) → weights (visits terms) ≡ 2 * sizes terms
visits_weigh [] = refl
visits_weigh (term ∷ terms) = omega (arith, weights-append (visits terms) (Visit term ∷ []), visits_weigh terms)

size_is : (term : Term) → size term ≡ 1 + sizes (arguments term)
size_is (Leaf leaf) = refl
size_is (Unary operator a) = omega arith
size_is (Binary operator a b) = omega arith
size_is (Ternary operator a b c) = omega arith
size_is (Quaternary operator a b c d) = omega arith
size_is (Octonary a b c d e f g h) = omega arith

-- the steps of a visit weigh less than the visit
pub steps_weigh : (term : Term) → weights (Finish term ∷ visits (arguments term)) < weight (Visit term)
steps_weigh term = omega (arith, size_is term, visits_weigh (arguments term))
