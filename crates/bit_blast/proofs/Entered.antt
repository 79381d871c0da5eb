-- Terms that are entered.
use Rattle.std.proofs.Common.{◌≡◌, ◌<◌, ◌+◌, ℕ, true, false, Bool, [], ◌∷◌, ◌++◌, length, Some, refl, ap, sym, ◌∙◌, subst, arith, length-append}
use Rattle.std.specs.Prelude.{slice_get, if◌then◌else◌, is_some}
use Rattle.std.specs.List.{find}
use Rattle.std.proofs.lemmas.List.{append_assoc, map-append, length-map}
use Rattle.clause_check_spec.specs.Clause.{Cnf}
use Rattle.term_core_spec.specs.declared.WordOperator.TheVariants as word
use Rattle.term_core_spec.specs.declared.BinaryOperator.TheVariants as binary
use Rattle.term_core_spec.specs.Term.{Term, divide, remainder}
use Rattle.term_core_spec.specs.Same.{same_term}
use Rattle.term_core_spec.proofs.Same.{same_is}
use Rattle.term_bank.specs.declared.node.TermNode.{TermNode}
use Rattle.term_bank.specs.declared.node.TermNode.TheVariants.{Binary}
use Rattle.term_bank.specs.Nodes.{tree_at, Holds}
use Rattle.term_bank.proofs.Growth.{slice_get-seam, tree_at-front}
use Rattle.bit_blast_spec.specs.Gates.{give, ◌>>=◌}
use Rattle.bit_blast_spec.specs.Circuits.{Bits, new_bits, division}
use Rattle.bit_blast_spec.specs.Goal.{Table, is_there, bits_in, divided}
use Rattle.bit_blast_circuits.specs.Built.{IsBuilt}
use Rattle.bit_blast_circuits.proofs.Built.{give_gives, then_gives}
use Rattle.bit_blast.specs.Terms.{terms_in}
use Rattle.bit_blast.specs.declared.entry.Division.TheVariants.{Quotient, Remainder}
use Rattle.bit_blast.specs.Entries.{division_of}

-- ---- indices

terms_more : (t : Table) (term : Term) (found : Bits) (more : Table) → terms_in (t ++ (term, found) ∷ more) ≡ terms_in t ++ term ∷ terms_in more
terms_more t term found more = map-append (λ (e : Term × Bits). e.0) t ((term, found) ∷ more)

-- the entry after others
pub entry_holds : (t : Table) (term : Term) (found : Bits) (more : Table) (index : ℕ) → index ≡ length t → Holds (terms_in (t ++ (term, found) ∷ more)) index term
entry_holds t term found more index e =
    let at : index ≡ length (terms_in t) = omega (arith, length-map t (λ (e : Term × Bits). e.0)) in
    subst (λ n. slice_get (terms_in (t ++ (term, found) ∷ more)) n ≡ Some term) (sym at)
    (ap (λ list. slice_get list (length (terms_in t))) (terms_more t term found more) ∙ slice_get-seam (terms_in t) (terms_in more) term)

second_holds : (t : Table) (first term : Term) (bits found : Bits) (index : ℕ) → index ≡ length t
    → Holds (terms_in (t ++ (first, bits) ∷ (term, found) ∷ [])) (index + 1) term
second_holds t first term bits found index e =
    subst (λ (list : Table). Holds (terms_in list) (index + 1) term) (append_assoc t ((first, bits) ∷ []) ((term, found) ∷ []))
    (entry_holds (t ++ (first, bits) ∷ []) term found [] (index + 1) (omega (arith, length-append t ((first, bits) ∷ []))))

pub same_terms : (t : Table) (more : Table) (index : ℕ) → index < length t → tree_at (terms_in (t ++ more)) index ≡ tree_at (terms_in t) index
same_terms t more index below =
    let within : index < length (terms_in t) = omega (arith, length-map t (λ (e : Term × Bits). e.0)) in
    ap (λ list. tree_at list index) (map-append (λ (e : Term × Bits). e.0) t more) ∙ tree_at-front (terms_in t) (terms_in more) index within

-- ---- one term

-- ---- a quotient and its remainder

pub quotient_node : (node : TermNode) (x y : ℕ) → division_of node ≡ Quotient x y → node ≡ Binary (binary.Word word.Divide) x y
quotient_node (Binary (binary.Word word.Divide) a b) x y e = cc
quotient_node node x y e = absurd (cc)

pub remainder_node : (node : TermNode) (x y : ℕ) → division_of node ≡ Remainder x y → node ≡ Binary (binary.Word word.Remainder) x y
remainder_node (Binary (binary.Word word.Remainder) a b) x y e = cc
remainder_node node x y e = absurd (cc)

-- neither is there when the remainder follows
pub remainder_absent : (t : Table) (x y : Term) (q : Bits) → is_there (remainder x y) t ≡ false → is_there (remainder x y) (t ++ (divide x y, q) ∷ []) ≡ false
remainder_absent [] x y q absent = by (same_term (remainder x y) (divide x y)) refl
  where
    by : (b : Bool) → same_term (remainder x y) (divide x y) ≡ b → is_some (if b then Some (divide x y, q) else find (λ (e : Term × Bits). same_term (remainder x y) e.0) []) ≡ false
    by true e = let one : remainder x y ≡ divide x y = same_is (remainder x y) (divide x y) e in absurd (cc)
    by false e = refl
remainder_absent (entry ∷ t) x y q absent = by (same_term (remainder x y) entry.0) absent (remainder_absent t x y q)
  where
    by : (b : Bool) → is_some (if b then Some entry else find (λ (e : Term × Bits). same_term (remainder x y) e.0) t) ≡ false
        → (is_there (remainder x y) t ≡ false → is_there (remainder x y) (t ++ (divide x y, q) ∷ []) ≡ false)
        → is_some (if b then Some entry else find (λ (e : Term × Bits). same_term (remainder x y) e.0) (t ++ (divide x y, q) ∷ [])) ≡ false
    by true e later = e
    by false e later = later e

pub division_gives : (x y : Term) (t u : Table) (g0 g1 g2 g3 : Cnf) (count : ℕ) (q r : Bits) → count ≡ length (bits_in t x)
    → IsBuilt (new_bits (divide x y) 0 count) g0 q g1 → IsBuilt (new_bits (remainder x y) 0 count) g1 r g2
    → IsBuilt (division q r (bits_in t x) (bits_in t y)) g2 tt g3
    → u ≡ t ++ (divide x y, q) ∷ (remainder x y, r) ∷ []
    → IsBuilt (divided x y t) g0 u g3
unfolding divided
division_gives x y t u g0 g1 g2 g3 count q r long made_q made_r made grown =
    let q_gives = subst (λ n. IsBuilt (new_bits (divide x y) 0 n) g0 q g1) long made_q in
    let r_gives = subst (λ n. IsBuilt (new_bits (remainder x y) 0 n) g1 r g2) long made_r in
    subst (λ (after : Table). IsBuilt (divided x y t) g0 after g3) (sym grown)
    (then_gives
    (λ (q' : Bits). new_bits (remainder x y) 0 (length (bits_in t x)) >>= λ r'. division q' r' (bits_in t x) (bits_in t y) >>= λ unit.
    give (t ++ (divide x y, q') ∷ (remainder x y, r') ∷ []))
    q_gives
    (then_gives (λ (r' : Bits). division q r' (bits_in t x) (bits_in t y) >>= λ unit. give (t ++ (divide x y, q) ∷ (remainder x y, r') ∷ []))
    r_gives
    (then_gives (λ unit. give (t ++ (divide x y, q) ∷ (remainder x y, r) ∷ [])) made (give_gives (t ++ (divide x y, q) ∷ (remainder x y, r) ∷ []) g3))))

pub quotient_holds : (x y : Term) (t u : Table) (n index : ℕ) → u ≡ (divided x y t n).out → index ≡ length t → Holds (terms_in u) index (divide x y)
unfolding divided
quotient_holds x y t u n index grown e = subst (λ (list : Table). Holds (terms_in list) index (divide x y)) (sym grown) (entry_holds t (divide x y) _ _ index e)

pub remainder_holds : (x y : Term) (t u : Table) (n index : ℕ) → u ≡ (divided x y t n).out → index ≡ length t → Holds (terms_in u) (index + 1) (remainder x y)
unfolding divided
remainder_holds x y t u n index grown e = subst (λ (list : Table). Holds (terms_in list) (index + 1) (remainder x y)) (sym grown) (second_holds t (divide x y) (remainder x y) _ _ index e)

-- ---- the remainder after the quotient

module _ (t u : Table) (x y : ℕ) (q : Bits) (below_x : x < length t) (below_y : y < length t)
    (grown : u ≡ t ++ (divide (tree_at (terms_in t) x) (tree_at (terms_in t) y), q) ∷ []) where
  same_x : tree_at (terms_in u) x ≡ tree_at (terms_in t) x
  same_x = ap (λ (list : Table). tree_at (terms_in list) x) grown ∙ same_terms t ((divide (tree_at (terms_in t) x) (tree_at (terms_in t) y), q) ∷ []) x below_x

  same_y : tree_at (terms_in u) y ≡ tree_at (terms_in t) y
  same_y = ap (λ (list : Table). tree_at (terms_in list) y) grown ∙ same_terms t ((divide (tree_at (terms_in t) x) (tree_at (terms_in t) y), q) ∷ []) y below_y

  same_remainder : remainder (tree_at (terms_in u) x) (tree_at (terms_in u) y) ≡ remainder (tree_at (terms_in t) x) (tree_at (terms_in t) y)
  same_remainder = let ex = same_x in let ey = same_y in cc

  pub second_absent : is_there (remainder (tree_at (terms_in t) x) (tree_at (terms_in t) y)) t ≡ false
      → is_there (remainder (tree_at (terms_in u) x) (tree_at (terms_in u) y)) u ≡ false
  second_absent absent =
      ap (λ (term : Term). is_there term u) same_remainder
      ∙ ap (is_there (remainder (tree_at (terms_in t) x) (tree_at (terms_in t) y))) grown
      ∙ remainder_absent t (tree_at (terms_in t) x) (tree_at (terms_in t) y) q absent

  pub second_grown : (w : Table) (r : Bits) → w ≡ u ++ (remainder (tree_at (terms_in u) x) (tree_at (terms_in u) y), r) ∷ []
      → w ≡ t ++ (divide (tree_at (terms_in t) x) (tree_at (terms_in t) y), q) ∷ (remainder (tree_at (terms_in t) x) (tree_at (terms_in t) y), r) ∷ []
  second_grown w r e =
      e ∙ ap (λ (term : Term). u ++ (term, r) ∷ []) same_remainder
      ∙ ap (λ (list : Table). list ++ (remainder (tree_at (terms_in t) x) (tree_at (terms_in t) y), r) ∷ []) grown
      ∙ append_assoc t ((divide (tree_at (terms_in t) x) (tree_at (terms_in t) y), q) ∷ []) ((remainder (tree_at (terms_in t) x) (tree_at (terms_in t) y), r) ∷ [])

  pub second_longer : length u ≡ length t + 1
  second_longer = omega (arith, ap (λ (list : Table). length list) grown, length-append t ((divide (tree_at (terms_in t) x) (tree_at (terms_in t) y), q) ∷ []))
