-- What is read is a line, whose spelling the symbols are.
use Rattle.std.proofs.Common.{◌≡◌, ◌∙◌, ℕ, ◌==◌, Bool, true, false, if◌then◌else◌, List, [], ◌∷◌, ◌++◌, length, map, Option, Some, None, refl, sym, ap, subst, inl, inr, append_assoc, append-nil, arith}
use Rattle.std.proofs.lemmas.List.{map-append}
use Rattle.std.specs.Prelude.{option_map, option_and_then}
use Rattle.std.proofs.lemmas.Bool.{eqb-true}
use Rattle.std.proofs.lemmas.Option.{same_Some, cond_some}
use Rattle.term_core_spec.specs.declared.Sort.{Sort}
use Rattle.term_core_spec.specs.declared.Sort.TheVariants.{Truth, Word}
use Rattle.term_core_spec.specs.declared.Width.TheVariants.{W64}
use Rattle.term_core_spec.specs.declared.Atom.{Atom}
use Rattle.term_core_spec.specs.declared.Atom.TheVariants as atom
use Rattle.term_core_spec.specs.declared.Variable.{Variable}
use Rattle.term_core_spec.specs.declared.UnaryOperator.{UnaryOperator}
use Rattle.term_core_spec.specs.declared.BinaryOperator.{BinaryOperator}
use Rattle.term_core_spec.specs.declared.TernaryOperator.TheVariants.{Choose}
use Rattle.term_core_spec.specs.declared.QuaternaryOperator.TheVariants.{Join}
use Rattle.term_core_spec.specs.Term.{Term, Leaf, Unary, Binary, Octonary, Occurs, choose, join_four}
use Rattle.term_core_spec.specs.Sort.{is_truth, sort_if, all_bytes, sort_of, sort_of_atom, sort_of_unary, sort_of_binary, sort_of_ternary, sort_of_quaternary}
use Rattle.term_core_spec.proofs.Sorts.{same_sort-true}
use Rattle.cert_text_spec.specs.declared.Operator.{Operator}
use Rattle.cert_text_spec.specs.declared.Operator.TheVariants as operator
use Rattle.cert_text_spec.specs.declared.Symbol.{Symbol}
use Rattle.cert_text_spec.specs.declared.Symbol.TheVariants as symbol
use Rattle.proof_tree_spec.specs.Scope.{Setting, IsInScope, IsLine}
use Rattle.cert_check_spec.specs.Terms as terms
use Rattle.cert_check_spec.specs.Terms.{IsVariable, IsTermOf, applied}
use Rattle.cert_check_terms.specs.Operators.{unary_of, binary_of, is_choose, is_join}
use Rattle.cert_check_terms.specs.Variables.{own_variable, local_at, is_set_at}
use Rattle.cert_check_terms.specs.Reading.{Sorted, with_sort, sorted, one, two, three, four, eight, around, leaf, Entry, Bracket, Whole, Reading, with_calls, pushed, opened, pushed_variable, Closing, closing, closed, closed_by, plain, named, other, step, run, only, finished, begun, line_of}
use Rattle.cert_check_terms.proofs.Arities.{unary_from, binary_from, choose_is, join_is}
use Rattle.cert_check_terms.proofs.Names.{IsName, own_from, local_from, is_set_from}

sorted_from : (t : Term) (o : Option Sort) (x : Sorted) → sorted t o ≡ Some x → (u : Sort) × (o ≡ Some u) × (with_sort t u ≡ x)
sorted_from t (Some u) x e = (u, refl, same_Some (with_sort t u) x e)
sorted_from t None x e = absurd (cc)

-- what is there if a test holds
cond_none : {X : Type 0} (b : Bool) (o : Option X) (x : X) → (if b then o else None) ≡ Some x → (b ≡ true) × (o ≡ Some x)
cond_none true o x e = (refl, e)
cond_none false o x e = absurd (cc)

module _ (s : Setting) (path : List ℕ) where
  -- the symbols are the spelling of the term, which has the sort, and whose variables are in scope
  record IsGood (a : List Symbol) (x : Sorted) : Type 0 where
    spelled : IsTermOf s a x.term
    has : sort_of x.term ≡ Some x.its_sort
    seen : (v : Variable) → Occurs v x.term → IsInScope s path v

  -- one symbol list after the other spells these
  abbrev AreGood : List Symbol → List Sorted → Type 0
  AreGood a [] = a ≡ []
  AreGood a (x ∷ xs) = (front : List Symbol) × (more : List Symbol) × (a ≡ front ++ more) × IsGood front x × AreGood more xs

  -- ---- operators around their arguments

  one_good : (o : Operator) (a : List Symbol) (x y : Sorted) → IsGood a x → option_and_then (one x) (unary_of o) ≡ Some y → IsGood (applied o a) y
  unfolding sort_of Occurs
  one_good o a x y good e = by (unary_of o) refl e
    where
      by : (u : Option UnaryOperator) → unary_of o ≡ u → option_and_then (one x) u ≡ Some y → IsGood (applied o a) y
      by (Some u) is h =
          let made = sorted_from (Unary u x.term) (sort_of_unary u x.its_sort) y h in
          subst (IsGood (applied o a)) made.2 (record {
            spelled = terms.one o u a x.term (unary_from o u is) good.spelled;
            has = ap (option_and_then (sort_of_unary u)) good.has ∙ made.1;
            seen = λ v h. good.seen v h;
          })
      by None is h = absurd (cc)

  two_good : (o : Operator) (a b : List Symbol) (x y z : Sorted) → IsGood a x → IsGood b y → option_and_then (two x y) (binary_of o) ≡ Some z → IsGood (applied o (a ++ b)) z
  unfolding sort_of Occurs
  two_good o a b x y z gx gy e = by (binary_of o) refl e
    where
      by : (u : Option BinaryOperator) → binary_of o ≡ u → option_and_then (two x y) u ≡ Some z → IsGood (applied o (a ++ b)) z
      by (Some u) is h =
          let made = sorted_from (Binary u x.term y.term) (sort_of_binary u x.its_sort y.its_sort) z h in
          let ex = gx.has in
          let ey = gy.has in
          let em = made.1 in
          subst (IsGood (applied o (a ++ b))) made.2 (record {
            spelled = terms.two o u a b x.term y.term (binary_from o u is) gx.spelled gy.spelled;
            has = rw (ex, ey) em;
            seen = λ v h. elim h [ inl l ↦ gx.seen v l | inr r ↦ gy.seen v r ];
          })
      by None is h = absurd (cc)

  three_good : (a b c : List Symbol) (x y z w : Sorted) → IsGood a x → IsGood b y → IsGood c z → three x y z ≡ Some w → IsGood (applied operator.Choose (a ++ (b ++ c))) w
  unfolding sort_of Occurs
  three_good a b c x y z w gx gy gz e =
      let made = sorted_from (choose x.term y.term z.term) (sort_of_ternary Choose x.its_sort y.its_sort z.its_sort) w e in
      let ex = gx.has in
      let ey = gy.has in
      let ez = gz.has in
      let em = made.1 in
      subst (IsGood (applied operator.Choose (a ++ (b ++ c)))) made.2 (record {
        spelled = terms.three a b c x.term y.term z.term gx.spelled gy.spelled gz.spelled;
        has = rw (ex, ey, ez) em;
        seen = λ v h. elim h [ inl l ↦ gx.seen v l | inr (inl m) ↦ gy.seen v m | inr (inr r) ↦ gz.seen v r ];
      })

  four_good : (a b c d : List Symbol) (x y z w q : Sorted) → IsGood a x → IsGood b y → IsGood c z → IsGood d w → four x y z w ≡ Some q
      → IsGood (applied operator.Join (a ++ (b ++ (c ++ d)))) q
  unfolding sort_of Occurs
  four_good a b c d x y z w q gx gy gz gw e =
      let made = sorted_from (join_four x.term y.term z.term w.term) (sort_of_quaternary Join x.its_sort y.its_sort z.its_sort w.its_sort) q e in
      let ex = gx.has in
      let ey = gy.has in
      let ez = gz.has in
      let ew = gw.has in
      let em = made.1 in
      subst (IsGood (applied operator.Join (a ++ (b ++ (c ++ d))))) made.2 (record {
        spelled = terms.four a b c d x.term y.term z.term w.term gx.spelled gy.spelled gz.spelled gw.spelled;
        has = rw (ex, ey, ez, ew) em;
        seen = λ v h. elim h [ inl l ↦ gx.seen v l | inr (inl m) ↦ gy.seen v m | inr (inr (inl n)) ↦ gz.seen v n | inr (inr (inr r)) ↦ gw.seen v r ];
      })

  eight_good : (a1 a2 a3 a4 a5 a6 a7 a8 : List Symbol) (x1 x2 x3 x4 x5 x6 x7 x8 y : Sorted) → IsGood a1 x1 → IsGood a2 x2 → IsGood a3 x3 → IsGood a4 x4
      → IsGood a5 x5 → IsGood a6 x6 → IsGood a7 x7 → IsGood a8 x8 → eight x1 x2 x3 x4 x5 x6 x7 x8 ≡ Some y
      → IsGood (applied operator.Join (a1 ++ (a2 ++ (a3 ++ (a4 ++ (a5 ++ (a6 ++ (a7 ++ a8)))))))) y
  unfolding sort_of Occurs
  eight_good a1 a2 a3 a4 a5 a6 a7 a8 x1 x2 x3 x4 x5 x6 x7 x8 y g1 g2 g3 g4 g5 g6 g7 g8 e =
      let made = sorted_from (Octonary x1.term x2.term x3.term x4.term x5.term x6.term x7.term x8.term)
      (sort_if
      (all_bytes (Some x1.its_sort ∷ Some x2.its_sort ∷ Some x3.its_sort ∷ Some x4.its_sort ∷ Some x5.its_sort ∷ Some x6.its_sort ∷ Some x7.its_sort ∷ Some x8.its_sort ∷ []))
      (Word W64)) y e in
      let e1 = g1.has in
      let e2 = g2.has in
      let e3 = g3.has in
      let e4 = g4.has in
      let e5 = g5.has in
      let e6 = g6.has in
      let e7 = g7.has in
      let e8 = g8.has in
      let em = made.1 in
      subst (IsGood (applied operator.Join (a1 ++ (a2 ++ (a3 ++ (a4 ++ (a5 ++ (a6 ++ (a7 ++ a8))))))))) made.2 (record {
        spelled = terms.eight a1 a2 a3 a4 a5 a6 a7 a8 x1.term x2.term x3.term x4.term x5.term x6.term x7.term x8.term
            g1.spelled g2.spelled g3.spelled g4.spelled g5.spelled g6.spelled g7.spelled g8.spelled;
        has = rw (e1, e2, e3, e4, e5, e6, e7, e8) em;
        seen = λ v h. elim h [
          | inl o ↦ g1.seen v o
          | inr (inl o) ↦ g2.seen v o
          | inr (inr (inl o)) ↦ g3.seen v o
          | inr (inr (inr (inl o))) ↦ g4.seen v o
          | inr (inr (inr (inr (inl o)))) ↦ g5.seen v o
          | inr (inr (inr (inr (inr (inl o))))) ↦ g6.seen v o
          | inr (inr (inr (inr (inr (inr (inl o)))))) ↦ g7.seen v o
          | inr (inr (inr (inr (inr (inr (inr o)))))) ↦ g8.seen v o
        ];
      })

  around_good : (o : Operator) (a : List Symbol) (xs : List Sorted) (y : Sorted) → AreGood a xs → around o xs ≡ Some y → IsGood (applied o a) y
  around_good o a [] y are e = absurd (cc)
  around_good o a (x1 ∷ []) y (a1, m1, c1, g1, n1) e =
      let is : a1 ≡ a = sym (c1 ∙ ap (λ (m : List Symbol). a1 ++ m) n1 ∙ append-nil a1) in
      subst (λ (b : List Symbol). IsGood (applied o b) y) is (one_good o a1 x1 y g1 e)
  around_good o a (x1 ∷ x2 ∷ []) y (a1, m1, c1, g1, (a2, m2, c2, g2, n2)) e =
      let is2 : a2 ≡ m1 = sym (c2 ∙ ap (λ (m : List Symbol). a2 ++ m) n2 ∙ append-nil a2) in
      let is : a1 ++ a2 ≡ a = ap (λ (m : List Symbol). a1 ++ m) is2 ∙ sym c1 in
      subst (λ (b : List Symbol). IsGood (applied o b) y) is (two_good o a1 a2 x1 x2 y g1 g2 e)
  around_good o a (x1 ∷ x2 ∷ x3 ∷ []) y (a1, m1, c1, g1, (a2, m2, c2, g2, (a3, m3, c3, g3, n3))) e =
      let is3 : a3 ≡ m2 = sym (c3 ∙ ap (λ (m : List Symbol). a3 ++ m) n3 ∙ append-nil a3) in
      let is2 : a2 ++ a3 ≡ m1 = ap (λ (m : List Symbol). a2 ++ m) is3 ∙ sym c2 in
      let is : a1 ++ (a2 ++ a3) ≡ a = ap (λ (m : List Symbol). a1 ++ m) is2 ∙ sym c1 in
      let parts = cond_none (is_choose o) (three x1 x2 x3) y e in
      subst (λ (p : Operator). IsGood (applied p a) y) (sym (choose_is o parts.0))
      (subst (λ (b : List Symbol). IsGood (applied operator.Choose b) y) is (three_good a1 a2 a3 x1 x2 x3 y g1 g2 g3 parts.1))
  around_good o a (x1 ∷ x2 ∷ x3 ∷ x4 ∷ []) y (a1, m1, c1, g1, (a2, m2, c2, g2, (a3, m3, c3, g3, (a4, m4, c4, g4, n4)))) e =
      let is4 : a4 ≡ m3 = sym (c4 ∙ ap (λ (m : List Symbol). a4 ++ m) n4 ∙ append-nil a4) in
      let is3 : a3 ++ a4 ≡ m2 = ap (λ (m : List Symbol). a3 ++ m) is4 ∙ sym c3 in
      let is2 : a2 ++ (a3 ++ a4) ≡ m1 = ap (λ (m : List Symbol). a2 ++ m) is3 ∙ sym c2 in
      let is : a1 ++ (a2 ++ (a3 ++ a4)) ≡ a = ap (λ (m : List Symbol). a1 ++ m) is2 ∙ sym c1 in
      let parts = cond_none (is_join o) (four x1 x2 x3 x4) y e in
      subst (λ (p : Operator). IsGood (applied p a) y) (sym (join_is o parts.0))
      (subst (λ (b : List Symbol). IsGood (applied operator.Join b) y) is (four_good a1 a2 a3 a4 x1 x2 x3 x4 y g1 g2 g3 g4 parts.1))
  around_good o a (x1 ∷ x2 ∷ x3 ∷ x4 ∷ x5 ∷ []) y are e = absurd (cc)
  around_good o a (x1 ∷ x2 ∷ x3 ∷ x4 ∷ x5 ∷ x6 ∷ []) y are e = absurd (cc)
  around_good o a (x1 ∷ x2 ∷ x3 ∷ x4 ∷ x5 ∷ x6 ∷ x7 ∷ []) y are e = absurd (cc)
  around_good o a (x1 ∷ x2 ∷ x3 ∷ x4 ∷ x5 ∷ x6 ∷ x7 ∷ x8 ∷ []) y
      (a1, m1, c1, g1, (a2, m2, c2, g2, (a3, m3, c3, g3, (a4, m4, c4, g4, (a5, m5, c5, g5, (a6, m6, c6, g6, (a7, m7, c7, g7, (a8, m8, c8, g8, n8)))))))) e =
      let is8 : a8 ≡ m7 = sym (c8 ∙ ap (λ (m : List Symbol). a8 ++ m) n8 ∙ append-nil a8) in
      let is7 : a7 ++ a8 ≡ m6 = ap (λ (m : List Symbol). a7 ++ m) is8 ∙ sym c7 in
      let is6 : a6 ++ (a7 ++ a8) ≡ m5 = ap (λ (m : List Symbol). a6 ++ m) is7 ∙ sym c6 in
      let is5 : a5 ++ (a6 ++ (a7 ++ a8)) ≡ m4 = ap (λ (m : List Symbol). a5 ++ m) is6 ∙ sym c5 in
      let is4 : a4 ++ (a5 ++ (a6 ++ (a7 ++ a8))) ≡ m3 = ap (λ (m : List Symbol). a4 ++ m) is5 ∙ sym c4 in
      let is3 : a3 ++ (a4 ++ (a5 ++ (a6 ++ (a7 ++ a8)))) ≡ m2 = ap (λ (m : List Symbol). a3 ++ m) is4 ∙ sym c3 in
      let is2 : a2 ++ (a3 ++ (a4 ++ (a5 ++ (a6 ++ (a7 ++ a8))))) ≡ m1 = ap (λ (m : List Symbol). a2 ++ m) is3 ∙ sym c2 in
      let is : a1 ++ (a2 ++ (a3 ++ (a4 ++ (a5 ++ (a6 ++ (a7 ++ a8)))))) ≡ a = ap (λ (m : List Symbol). a1 ++ m) is2 ∙ sym c1 in
      let parts = cond_none (is_join o) (eight x1 x2 x3 x4 x5 x6 x7 x8) y e in
      subst (λ (p : Operator). IsGood (applied p a) y) (sym (join_is o parts.0))
      (subst (λ (b : List Symbol). IsGood (applied operator.Join b) y) is (eight_good a1 a2 a3 a4 a5 a6 a7 a8 x1 x2 x3 x4 x5 x6 x7 x8 y g1 g2 g3 g4 g5 g6 g7 g8 parts.1))
  around_good o a (x1 ∷ x2 ∷ x3 ∷ x4 ∷ x5 ∷ x6 ∷ x7 ∷ x8 ∷ x9 ∷ xs) y are e = absurd (cc)

  -- ---- entries

  data AreRead : List Symbol → List Entry → Type 0 where
    nothing : AreRead [] []
    a_bracket : (done : List Symbol) (entries : List Entry) (o : Operator) → AreRead done entries → AreRead (done ++ symbol.Open o ∷ []) (Bracket o ∷ entries)
    a_subterm : (done : List Symbol) (entries : List Entry) (a : List Symbol) (x : Sorted) → AreRead done entries → IsGood a x → AreRead (done ++ a) (Whole x ∷ entries)

  record IsClosing (all : List Symbol) (c : Closing) : Type 0 where
    before : List Symbol
    inner : List Symbol
    cut : all ≡ before ++ symbol.Open c.operator ∷ inner
    below_read : AreRead before c.below
    good : AreGood inner c.arguments

  closing_good : (done more : List Symbol) (entries : List Entry) (xs : List Sorted) (c : Closing) → AreRead done entries → AreGood more xs → closing entries xs ≡ Some c
      → IsClosing (done ++ more) c
  closing_good _ more _ xs c nothing are e = absurd (cc)
  closing_good _ more _ xs c (a_bracket done entries o read) are e =
      subst (IsClosing ((done ++ symbol.Open o ∷ []) ++ more)) (same_Some (record { operator = o; arguments = xs; below = entries }) c e) (record {
        before = done;
        inner = more;
        cut = append_assoc done (symbol.Open o ∷ []) more;
        below_read = read;
        good = are;
      })
  closing_good _ more _ xs c (a_subterm done entries a x read good) are e =
      subst (λ (b : List Symbol). IsClosing b c) (sym (append_assoc done a more))
      (closing_good done (a ++ more) entries (x ∷ xs) c read (a, more, refl, good, are) e)

  pushed_read : (done a : List Symbol) (entries now : List Entry) (o : Option Sorted) → AreRead done entries → ((x : Sorted) → o ≡ Some x → IsGood a x)
      → pushed entries o ≡ Some now → AreRead (done ++ a) now
  pushed_read done a entries now (Some x) read good e =
      subst (AreRead (done ++ a)) (same_Some (Whole x ∷ entries) now e) (a_subterm done entries a x read (good x refl))
  pushed_read done a entries now None read good e = absurd (cc)

  -- ---- symbols

  leaf_good : (a : List Symbol) (l : Atom) (x : Sorted) → IsTermOf s a (Leaf l) → ((v : Variable) → Occurs v (Leaf l) → IsInScope s path v) → leaf l ≡ Some x → IsGood a x
  unfolding sort_of
  leaf_good a l x is seen e =
      let made = sorted_from (Leaf l) (sort_of_atom l) x e in
      subst (IsGood a) made.2 (record { spelled = is; has = made.1; seen = seen })

  nothing_occurs : (l : Atom) → ((v : Variable) → l ≡ atom.Open v → ⊥) → (v : Variable) → Occurs v (Leaf l) → IsInScope s path v
  unfolding Occurs
  nothing_occurs (atom.Truth b) h v o = absurd o
  nothing_occurs (atom.Constant w n) h v o = absurd o
  nothing_occurs (atom.Open u) h v o = absurd (h u refl)

  variable_good : (a : List Symbol) (v : Variable) (x : Sorted) → IsVariable s a v → IsInScope s path v → opened v ≡ Some x → IsGood a x
  unfolding Occurs
  variable_good a v x is inside e = leaf_good a (atom.Open v) x (terms.a_variable a v is) (λ w o. subst (IsInScope s path) (sym o) inside) e

  name_read : (done a : List Symbol) (entries now : List Entry) (v : Option Variable) → AreRead done entries
      → ((w : Variable) → v ≡ Some w → IsVariable s a w × IsInScope s path w) → pushed_variable entries v ≡ Some now → AreRead (done ++ a) now
  name_read done a entries now (Some w) read is e = pushed_read done a entries now (opened w) read (λ x h. variable_good a w x (is w refl).0 (is w refl).1 h) e
  name_read done a entries now None read is e = absurd (cc)

  close_read : (done : List Symbol) (entries now : List Entry) → AreRead done entries → closed_by entries ≡ Some now → AreRead (done ++ symbol.Close ∷ []) now
  close_read done entries now read e = by (closing entries []) refl e
    where
      by : (o : Option Closing) → closing entries [] ≡ o → option_and_then closed o ≡ Some now → AreRead (done ++ symbol.Close ∷ []) now
      by (Some c) is h =
          let of = closing_good done [] entries [] c read refl is in
          let cut : (of.before ++ symbol.Open c.operator ∷ of.inner) ++ symbol.Close ∷ [] ≡ done ++ symbol.Close ∷ [] =
          ap (λ (b : List Symbol). b ++ symbol.Close ∷ []) (sym of.cut ∙ append-nil done) in
          subst (λ (b : List Symbol). AreRead b now) (sym (append_assoc of.before (symbol.Open c.operator ∷ of.inner) (symbol.Close ∷ [])) ∙ cut)
          (pushed_read of.before (applied c.operator of.inner) c.below now (around c.operator c.arguments) of.below_read
          (λ x g. around_good c.operator of.inner c.arguments x of.good g) h)
      by None is h = absurd (cc)

  plain_read : (done : List Symbol) (entries now : List Entry) (x : Symbol) → AreRead done entries → plain s entries x ≡ Some now → AreRead (done ++ x ∷ []) now
  plain_read done entries now (symbol.Truth b) read e =
      pushed_read done (symbol.Truth b ∷ []) entries now (leaf (atom.Truth b)) read
      (λ y h. leaf_good (symbol.Truth b ∷ []) (atom.Truth b) y (terms.truth_value b) (nothing_occurs (atom.Truth b) (λ v h. cc)) h) e
  plain_read done entries now (symbol.Constant w n) read e =
      pushed_read done (symbol.Constant w n ∷ []) entries now (leaf (atom.Constant w n)) read
      (λ y h. leaf_good (symbol.Constant w n ∷ []) (atom.Constant w n) y (terms.number w n) (nothing_occurs (atom.Constant w n) (λ v h. cc)) h) e
  plain_read done entries now (symbol.Open o) read e =
      subst (AreRead (done ++ symbol.Open o ∷ [])) (same_Some (Bracket o ∷ entries) now e) (a_bracket done entries o read)
  plain_read done entries now symbol.Close read e = close_read done entries now read e
  plain_read done entries now x read e = name_read done (x ∷ []) entries now (own_variable s x) read (λ w h. own_from s path x w h) e

  record IsSoFar (done : List Symbol) (r : Reading) : Type 0 where
    before : List Symbol
    cut : done ≡ before ++ map symbol.Inlined r.calls
    read : AreRead before r.entries

  named_read : (done : List Symbol) (r q : Reading) (x : Symbol) (v : Option Variable) → IsSoFar done r → ((w : Variable) → v ≡ Some w → IsName s path r.calls x w)
      → named r.entries v ≡ Some q → IsSoFar (done ++ x ∷ []) q
  named_read done r q x v far is e = by (pushed_variable r.entries v) refl e
    where
      by : (o : Option (List Entry)) → pushed_variable r.entries v ≡ o → option_map (with_calls []) o ≡ Some q → IsSoFar (done ++ x ∷ []) q
      by (Some now) was h =
          subst (IsSoFar (done ++ x ∷ [])) (same_Some (with_calls [] now) q h) (record {
            before = done ++ x ∷ [];
            cut = sym (append-nil (done ++ x ∷ []));
            read = subst (λ (b : List Symbol). AreRead b now)
                (sym (append_assoc far.before (map symbol.Inlined r.calls) (x ∷ [])) ∙ ap (λ (b : List Symbol). b ++ x ∷ []) (sym far.cut))
                (name_read far.before (map symbol.Inlined r.calls ++ x ∷ []) r.entries now v far.read is was);
          })
      by None was h = absurd (cc)

  empty_from : {X : Type 0} (xs : List X) → (length xs == 0) ≡ true → xs ≡ []
  empty_from [] e = refl
  empty_from (x ∷ xs) e = absurd (let zero_long = eqb-true (length (x ∷ xs)) 0 e in omega (arith, zero_long))

  other_read : (done : List Symbol) (r q : Reading) (x : Symbol) → IsSoFar done r → other s r x ≡ Some q → IsSoFar (done ++ x ∷ []) q
  other_read done r q x far e =
      let parts = cond_none (length r.calls == 0) (option_map (with_calls r.calls) (plain s r.entries x)) q e in
      by (plain s r.entries x) refl (empty_from r.calls parts.0) parts.1
    where
      by : (o : Option (List Entry)) → plain s r.entries x ≡ o → r.calls ≡ [] → option_map (with_calls r.calls) o ≡ Some q → IsSoFar (done ++ x ∷ []) q
      by (Some now) was none h =
          let whole : done ≡ far.before = far.cut ∙ ap (λ (c : List ℕ). far.before ++ map symbol.Inlined c) none ∙ append-nil far.before in
          subst (IsSoFar (done ++ x ∷ [])) (same_Some (with_calls r.calls now) q h) (record {
            before = done ++ x ∷ [];
            cut = sym (append-nil (done ++ x ∷ [])) ∙ ap (λ (c : List ℕ). (done ++ x ∷ []) ++ map symbol.Inlined c) (sym none);
            read = subst (λ (b : List Symbol). AreRead (b ++ x ∷ []) now) (sym whole) (plain_read far.before r.entries now x far.read was);
          })
      by None was none h = absurd (cc)

  step_read : (done : List Symbol) (r q : Reading) (x : Symbol) → IsSoFar done r → step s path r x ≡ Some q → IsSoFar (done ++ x ∷ []) q
  step_read done r q (symbol.Inlined n) far e =
      subst (IsSoFar (done ++ symbol.Inlined n ∷ [])) (same_Some (with_calls (r.calls ++ n ∷ []) r.entries) q e) (record {
        before = far.before;
        cut = ap (λ (b : List Symbol). b ++ symbol.Inlined n ∷ []) far.cut
            ∙ (append_assoc far.before (map symbol.Inlined r.calls) (symbol.Inlined n ∷ [])
            ∙ ap (λ (b : List Symbol). far.before ++ b) (sym (map-append symbol.Inlined r.calls (n ∷ []))));
        read = far.read;
      })
  step_read done r q (symbol.Local n) far e = named_read done r q (symbol.Local n) (local_at s path r.calls n) far (λ w h. local_from s path r.calls n w h) e
  step_read done r q (symbol.IsSet n) far e = named_read done r q (symbol.IsSet n) (is_set_at s path r.calls n) far (λ w h. is_set_from s path r.calls n w h) e
  step_read done r q x far e = other_read done r q x far e

  run_read : (done symbols : List Symbol) (r q : Reading) → IsSoFar done r → run s path r symbols ≡ Some q → IsSoFar (done ++ symbols) q
  unfolding run
  run_read done [] r q far e = subst (λ (b : List Symbol). IsSoFar b q) (sym (append-nil done)) (subst (IsSoFar done) (same_Some r q e) far)
  run_read done (x ∷ symbols) r q far e = by (step s path r x) refl (λ p next h. run_read (done ++ x ∷ []) symbols p q next h) e
    where
      by : (o : Option Reading) → step s path r x ≡ o
          → ((p : Reading) → IsSoFar (done ++ x ∷ []) p → run s path p symbols ≡ Some q → IsSoFar ((done ++ x ∷ []) ++ symbols) q)
          → option_and_then (λ (p : Reading). run s path p symbols) o ≡ Some q → IsSoFar (done ++ x ∷ symbols) q
      by (Some p) was later h =
          subst (λ (b : List Symbol). IsSoFar b q) (append_assoc done (x ∷ []) symbols)
          (later p (step_read done r p x far was) h)
      by None was later h = absurd (cc)

  -- ---- lines

  pub record IsSpelled (symbols : List Symbol) (line : Term) : Type 0 where
    pub is_term : IsTermOf s symbols line
    pub is_line : IsLine s path line

  only_spelled : (done : List Symbol) (entries : List Entry) (line : Term) → AreRead done entries → only entries ≡ Some line → IsSpelled done line
  only_spelled _ _ line nothing e = absurd (cc)
  only_spelled _ _ line (a_bracket done entries o read) e = absurd (cc)
  only_spelled _ _ line (a_subterm _ _ a x nothing good) e =
      let parts = cond_some (is_truth x.its_sort) x.term line e in
      let truth : x.its_sort ≡ Truth = same_sort-true x.its_sort Truth parts.0 in
      subst (IsSpelled a) parts.1 (record {
        is_term = good.spelled;
        is_line = record { truth = good.has ∙ ap Some truth; visible = good.seen };
      })
  only_spelled _ _ line (a_subterm _ _ a x (a_bracket done entries o read) good) e = absurd (cc)
  only_spelled _ _ line (a_subterm _ _ a x (a_subterm done entries b y read other_good) good) e = absurd (cc)

  pub line_spelled : (symbols : List Symbol) (line : Term) → line_of s path symbols ≡ Some line → IsSpelled symbols line
  line_spelled symbols line e = by (run s path begun symbols) refl e
    where
      by : (o : Option Reading) → run s path begun symbols ≡ o → option_and_then finished o ≡ Some line → IsSpelled symbols line
      by (Some r) was h =
          let far = run_read [] symbols begun r (record { before = []; cut = refl; read = nothing }) was in
          let parts = cond_none (length r.calls == 0) (only r.entries) line h in
          let none = empty_from r.calls parts.0 in
          let whole : far.before ≡ symbols = sym (far.cut ∙ ap (λ (c : List ℕ). far.before ++ map symbol.Inlined c) none ∙ append-nil far.before) in
          subst (λ (b : List Symbol). IsSpelled b line) whole (only_spelled far.before r.entries line far.read parts.1)
      by None was h = absurd (cc)
