-- A visit is its steps.
use Rattle.std.proofs.Common.{◌≡◌, ℕ, Bool, true, false, List, [], ◌∷◌, ◌++◌, refl, ap, sym, ◌∙◌}
use Rattle.std.specs.Prelude.{if◌then◌else◌}
use Rattle.std.proofs.lemmas.List.{append_assoc}
use Rattle.term_core_spec.specs.declared.WordOperator.TheVariants as word
use Rattle.term_core_spec.specs.declared.BinaryOperator.{BinaryOperator}
use Rattle.term_core_spec.specs.declared.BinaryOperator.TheVariants as binary
use Rattle.term_core_spec.specs.Term.{Term, Leaf, Unary, Binary, Ternary, Quaternary, Octonary}
use Rattle.bit_blast_spec.specs.Gates.{Build, give, ◌>>=◌}
use Rattle.bit_blast_spec.specs.Goal.{Table, is_there, once, visit}
use Rattle.bit_blast.specs.Steps.{Step, Visit, Finish, run, visits, arguments, finish, needs, AllThere, IsClosed}
use Rattle.bit_blast.proofs.Runs.{run-last, visit_then, run-visits, then-assoc, then-same}
use Rattle.bit_blast.proofs.Keeps.{visit_is, then_under, arguments_smaller}

-- ---- a term that is there

pub once_there : (term : Term) (table : Table) (build : Build Table) → is_there term table ≡ true → once term table build ≡ give table
once_there term table build there = ap (λ b. if b then give table else build) there

pub once_absent : (term : Term) (table : Table) (build : Build Table) → is_there term table ≡ false → once term table build ≡ build
once_absent term table build absent = ap (λ b. if b then give table else build) absent

pub visit_there : (term : Term) (table : Table) → is_there term table ≡ true → visit term table ≡ give table
visit_there term table there = visit_is term table ∙ once_there term table (visit_then (arguments term) (finish term) table) there

then_there : (terms : List Term) (more : Table → Build Table) (table : Table) (last : ℕ) → AllThere terms table → visit_then terms more table last ≡ more table last
then_there [] more table last all = refl
then_there (term ∷ terms) more table last all =
    ap (λ (build : Build Table). (build >>= visit_then terms more) last) (visit_there term table all.0) ∙ then_there terms more table last all.1

-- ---- the arguments among what a term needs

binary_needs : (operator : BinaryOperator) (a b : Term) (table : Table) → AllThere (needs (Binary operator a b)) table → AllThere (a ∷ b ∷ []) table
binary_needs binary.And a b table all = all
binary_needs binary.Or a b table all = all
binary_needs binary.Equal a b table all = all
binary_needs binary.Less a b table all = all
binary_needs binary.Load a b table all = all
binary_needs binary.Join a b table all = all
binary_needs (binary.Word word.Divide) a b table all = (all.0, (all.1.0, tt))
binary_needs (binary.Word word.Remainder) a b table all = (all.0, (all.1.0, tt))
binary_needs (binary.Word word.Add) a b table all = all
binary_needs (binary.Word word.Subtract) a b table all = all
binary_needs (binary.Word word.Multiply) a b table all = all
binary_needs (binary.Word word.And) a b table all = all
binary_needs (binary.Word word.Or) a b table all = all
binary_needs (binary.Word word.Xor) a b table all = all
binary_needs (binary.Word word.ShiftLeft) a b table all = all
binary_needs (binary.Word word.ShiftRight) a b table all = all
binary_needs (binary.Word word.ShiftRightSigned) a b table all = all

pub needs_arguments : (term : Term) (table : Table) → AllThere (needs term) table → AllThere (arguments term) table
needs_arguments (Leaf leaf) table all = all
needs_arguments (Unary operator a) table all = all
needs_arguments (Binary operator a b) table all = binary_needs operator a b table all
needs_arguments (Ternary operator a b c) table all = all
needs_arguments (Quaternary operator a b c d) table all = all
needs_arguments (Octonary a b c d e f g h) table all = all

-- ---- the steps

module _ (steps : List Step) (term : Term) (table : Table) (last : ℕ) where
  finished : (t : Table) (n : ℕ) → run (steps ++ Finish term ∷ []) t n ≡ (once term t (finish term t) >>= run steps) n
  finished t n = run-last steps (Finish term) t n

  by_steps : run (steps ++ Finish term ∷ visits (arguments term)) table last ≡ visit_then (arguments term) (λ t. once term t (finish term t) >>= run steps) table last
  by_steps =
      ap (λ s. run s table last) (sym (append_assoc steps (Finish term ∷ []) (visits (arguments term))))
      ∙ run-visits (steps ++ Finish term ∷ []) (arguments term) table last
      ∙ then-same (arguments term) (run (steps ++ Finish term ∷ [])) (λ t. once term t (finish term t) >>= run steps) table last finished

  there_steps : is_there term table ≡ true → AllThere (arguments term) table
      → (visit term table >>= run steps) last ≡ visit_then (arguments term) (λ t. once term t (finish term t) >>= run steps) table last
  there_steps there all =
      ap (λ (build : Build Table). (build >>= run steps) last) (visit_there term table there ∙ sym (once_there term table (finish term table) there))
      ∙ sym (then_there (arguments term) (λ t. once term t (finish term t) >>= run steps) table last all)

  absent_steps : is_there term table ≡ false
      → (visit term table >>= run steps) last ≡ visit_then (arguments term) (λ t. once term t (finish term t) >>= run steps) table last
  absent_steps absent =
      ap (λ (build : Build Table). (build >>= run steps) last)
      (visit_is term table ∙ once_absent term table (visit_then (arguments term) (finish term) table) absent)
      ∙ then-assoc (arguments term) (finish term) (run steps) table last
      ∙ then_under term (arguments term) (arguments_smaller term) (λ t. finish term t >>= run steps) (λ t. once term t (finish term t) >>= run steps)
      (λ t n h. ap (λ (build : Build Table). (build >>= run steps) n) (sym (once_absent term t (finish term t) h)))
      table last absent

  pub visit_steps : IsClosed table → run (steps ++ Visit term ∷ []) table last ≡ run (steps ++ Finish term ∷ visits (arguments term)) table last
  visit_steps closed = run-last steps (Visit term) table last ∙ by (is_there term table) refl ∙ sym by_steps
    where
      by : (b : Bool) → is_there term table ≡ b
          → (visit term table >>= run steps) last ≡ visit_then (arguments term) (λ t. once term t (finish term t) >>= run steps) table last
      by true e = there_steps e (needs_arguments term table (closed term e))
      by false e = absent_steps e
