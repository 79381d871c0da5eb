-- The line that symbols spell is read.
use Rattle.std.proofs.Common.{◌≡◌, ◌∙◌, ℕ, ◌*◌, ◌<◌, true, ◌&&◌, List, [], ◌∷◌, ◌++◌, map, Option, Some, None, refl, sym, ap, subst, inl, inr, arith, append_assoc, append-nil}
use Rattle.std.specs.Prelude.{nat_lt, option_map, option_and_then}
use Rattle.std.proofs.lemmas.Bool.{and_parts, ltb-true}
use Rattle.std.proofs.lemmas.Option.{same_Some}
use Rattle.term_core_spec.specs.declared.Width.{Width}
use Rattle.term_core_spec.specs.declared.Width.TheVariants.{W8, W16, W32, W64}
use Rattle.term_core_spec.specs.declared.Sort.{Sort}
use Rattle.term_core_spec.specs.declared.Sort.TheVariants.{Truth, Word, Memory}
use Rattle.term_core_spec.specs.declared.Atom.{Atom}
use Rattle.term_core_spec.specs.declared.Atom.TheVariants as atom
use Rattle.term_core_spec.specs.declared.Variable.{Variable}
use Rattle.term_core_spec.specs.declared.UnaryOperator.{UnaryOperator}
use Rattle.term_core_spec.specs.declared.UnaryOperator.TheVariants as unary
use Rattle.term_core_spec.specs.declared.BinaryOperator.{BinaryOperator}
use Rattle.term_core_spec.specs.declared.TernaryOperator.TheVariants.{Choose}
use Rattle.term_core_spec.specs.declared.QuaternaryOperator.TheVariants.{Join}
use Rattle.term_core_spec.specs.Term.{Term, Leaf, Unary, Binary, Octonary, Occurs, truth, open_term, choose, join_four}
use Rattle.term_core_spec.specs.Sort.{bits, bits_of, is_word, is_byte, sort_if, all_bytes, sort_of, sort_of_atom, sort_of_unary, sort_of_binary, sort_of_ternary, sort_of_quaternary}
use Rattle.term_core_spec.proofs.Sorts.{sort_if-some, with_one-some, with_two-some, with_three-some, with_four-some}
use Rattle.cert_text_spec.specs.declared.Operator.{Operator}
use Rattle.cert_text_spec.specs.declared.Operator.TheVariants as operator
use Rattle.cert_text_spec.specs.declared.Symbol.{Symbol}
use Rattle.cert_text_spec.specs.declared.Symbol.TheVariants as symbol
use Rattle.proof_tree_spec.specs.Scope.{Setting, IsInScope, IsLine}
use Rattle.cert_check_spec.specs.Terms as terms
use Rattle.cert_check_spec.specs.Terms.{IsVariable, IsUnary, IsBinary, IsTermOf, applied}
use Rattle.cert_check_terms.specs.Variables.{AreApart, own_variable}
use Rattle.cert_check_terms.specs.Reading.{Sorted, with_sort, sorted, one, two, three, four, eight, leaf, Entry, Bracket, Whole, Reading, with_calls, pushed, pushed_variable, plain, named, step, run, finished, begun, line_of}
use Rattle.cert_check_terms.proofs.Arities.{IsSmall, unary_to, binary_to}
use Rattle.cert_check_terms.proofs.Names.{register_to, entry_to, parameter_to, local_to, is_set_to}

-- ---- sorts

-- a byte that a word has is one of eight
small_if : (u : UnaryOperator) (s t : Sort) → sort_of_unary u s ≡ Some t → IsSmall u
unfolding sort_of_unary
small_if u s t e place is = by s (sort_if-some (is_word s && nat_lt (8 * place) (bits_of s)) (Word W8) t at_byte).0
  where
    at_byte : sort_of_unary (unary.Byte place) s ≡ Some t
    at_byte = subst (λ (v : UnaryOperator). sort_of_unary v s ≡ Some t) is e

    within : (w : Width) → 8 * place < bits w → place < 8
    within W8 h = omega (arith, h)
    within W16 h = omega (arith, h)
    within W32 h = omega (arith, h)
    within W64 h = omega (arith, h)

    by : (r : Sort) → (is_word r && nat_lt (8 * place) (bits_of r)) ≡ true → place < 8
    by (Word w) h = within w (ltb-true (8 * place) (bits w) h)
    by Truth h = absurd (cc)
    by Memory h = absurd (cc)

-- each has a sort that is a byte's
some_byte : (o : Option Sort) (rest : List (Option Sort)) → all_bytes (o ∷ rest) ≡ true → (s : Sort) × (o ≡ Some s) × (all_bytes rest ≡ true)
some_byte (Some s) rest e = (s, refl, (and_parts (is_byte s) (all_bytes rest) e).1)
some_byte None rest e = absurd (cc)

module _ (s : Setting) (path : List ℕ) where
  -- ---- reading on

  goes : (r q : Reading) (x : Symbol) (rest : List Symbol) → step s path r x ≡ Some q → run s path r (x ∷ rest) ≡ run s path q rest
  unfolding run
  goes r q x rest e = ap (option_and_then (λ (p : Reading). run s path p rest)) e

  -- the symbols are read as a subterm on top
  abbrev IsReadAs : List Symbol → Sorted → Type 0
  IsReadAs a x = (entries : List Entry) (rest : List Symbol)
      → run s path (with_calls [] entries) (a ++ rest) ≡ run s path (with_calls [] (Whole x ∷ entries)) rest

  abbrev onto : List Sorted → List Entry → List Entry
  onto [] entries = entries
  onto (x ∷ xs) entries = onto xs (Whole x ∷ entries)

  -- as several
  abbrev AreReadAs : List Symbol → List Sorted → Type 0
  AreReadAs a xs = (entries : List Entry) (rest : List Symbol)
      → run s path (with_calls [] entries) (a ++ rest) ≡ run s path (with_calls [] (onto xs entries)) rest

  last : (a : List Symbol) (x : Sorted) → IsReadAs a x → AreReadAs a (x ∷ [])
  last a x read entries rest = read entries rest

  also : (a b : List Symbol) (x : Sorted) (xs : List Sorted) → IsReadAs a x → AreReadAs b xs → AreReadAs (a ++ b) (x ∷ xs)
  also a b x xs read reads entries rest =
      ap (run s path (with_calls [] entries)) (append_assoc a b rest) ∙ (read entries (b ++ rest) ∙ reads (Whole x ∷ entries) rest)

  bracketed : (o : Operator) (a : List Symbol) (xs : List Sorted) (y : Sorted) → AreReadAs a xs
      → ((entries : List Entry) → plain s (onto xs (Bracket o ∷ entries)) symbol.Close ≡ Some (Whole y ∷ entries)) → IsReadAs (applied o a) y
  bracketed o a xs y reads closes entries rest =
      goes (with_calls [] entries) (with_calls [] (Bracket o ∷ entries)) (symbol.Open o) ((a ++ symbol.Close ∷ []) ++ rest) refl
      ∙ (ap (run s path (with_calls [] (Bracket o ∷ entries))) (append_assoc a (symbol.Close ∷ []) rest)
      ∙ (reads (Bracket o ∷ entries) (symbol.Close ∷ rest)
      ∙ goes (with_calls [] (onto xs (Bracket o ∷ entries))) (with_calls [] (Whole y ∷ entries)) symbol.Close rest
      (ap (option_map (with_calls [])) (closes entries))))

  -- ---- atoms

  atom_read : (x : Symbol) (a : Atom) (t : Sort) → sort_of_atom a ≡ Some t
      → ((entries : List Entry) → step s path (with_calls [] entries) x ≡ option_map (with_calls []) (pushed entries (leaf a)))
      → IsReadAs (x ∷ []) (with_sort (Leaf a) t)
  atom_read x a t has steps entries rest =
      goes (with_calls [] entries) (with_calls [] (Whole (with_sort (Leaf a) t) ∷ entries)) x rest
      (steps entries ∙ ap (λ (o : Option Sort). option_map (with_calls []) (pushed entries (sorted (Leaf a) o))) has)

  open_sort : (v : Variable) → sort_of_atom (atom.Open v) ≡ Some v.sort
  unfolding sort_of_atom
  open_sort v = refl

  own_read : (x : Symbol) (v : Variable)
      → ((entries : List Entry) → step s path (with_calls [] entries) x ≡ option_map (with_calls []) (pushed_variable entries (own_variable s x)))
      → own_variable s x ≡ Some v → IsReadAs (x ∷ []) (with_sort (open_term v) v.sort)
  own_read x v steps is =
      atom_read x (atom.Open v) v.sort (open_sort v)
      (λ entries. steps entries ∙ ap (λ (o : Option Variable). option_map (with_calls []) (pushed_variable entries o)) is)

  -- ---- variables of bodies

  calls_read : (calls more : List ℕ) (entries : List Entry) (rest : List Symbol)
      → run s path (with_calls calls entries) (map symbol.Inlined more ++ rest) ≡ run s path (with_calls (calls ++ more) entries) rest
  calls_read calls [] entries rest = ap (λ (c : List ℕ). run s path (with_calls c entries) rest) (sym (append-nil calls))
  calls_read calls (n ∷ more) entries rest =
      goes (with_calls calls entries) (with_calls (calls ++ n ∷ []) entries) (symbol.Inlined n) (map symbol.Inlined more ++ rest) refl
      ∙ (calls_read (calls ++ n ∷ []) more entries rest
      ∙ ap (λ (c : List ℕ). run s path (with_calls c entries) rest) (append_assoc calls (n ∷ []) more))

  name_read : (calls : List ℕ) (x : Symbol) (v : Variable)
      → ((entries : List Entry) → step s path (with_calls calls entries) x ≡ named entries (Some v))
      → IsReadAs (map symbol.Inlined calls ++ x ∷ []) (with_sort (open_term v) v.sort)
  name_read calls x v steps entries rest =
      ap (run s path (with_calls [] entries)) (append_assoc (map symbol.Inlined calls) (x ∷ []) rest)
      ∙ (calls_read [] calls entries (x ∷ rest)
      ∙ goes (with_calls calls entries) (with_calls [] (Whole (with_sort (open_term v) v.sort) ∷ entries)) x rest
      (steps entries ∙ ap (λ (o : Option Sort). option_map (with_calls []) (pushed entries (sorted (open_term v) o))) (open_sort v)))

  module _ (apart : AreApart s.bodies) where
    variable_read : (a : List Symbol) (v : Variable) → IsVariable s a v → IsInScope s path v → IsReadAs a (with_sort (open_term v) v.sort)
    variable_read _ _ (terms.register n) inside = own_read (symbol.Register n) _ (λ entries. refl) (register_to n inside)
    variable_read _ _ (terms.entry n) inside = own_read (symbol.Entry n) _ (λ entries. refl) (entry_to s.argument_words n inside.0 inside.1)
    variable_read _ _ (terms.parameter n t is) inside = own_read (symbol.Parameter n) _ (λ entries. refl) (parameter_to s.parameters n t is)
    variable_read _ _ (terms.local b n t among is) inside =
        name_read b.path (symbol.Local n) _ (λ entries. ap (named entries) (local_to s path b n t apart among is inside))
    variable_read _ _ (terms.is_set b n among below) inside =
        name_read b.path (symbol.IsSet n) _ (λ entries. ap (named entries) (is_set_to s path b n apart among below inside))
    variable_read _ _ terms.source_memory inside = own_read symbol.SourceMemory _ (λ entries. refl) refl
    variable_read _ _ terms.zone_memory inside = own_read symbol.ZoneMemory _ (λ entries. refl) refl
    variable_read _ _ terms.binary_memory inside = own_read symbol.BinaryMemory _ (λ entries. refl) refl

    -- ---- terms

    abbrev IsSeen : Term → Type 0
    IsSeen t = (v : Variable) → Occurs v t → IsInScope s path v

    atom_sort : (a : Atom) (t : Sort) → sort_of (Leaf a) ≡ Some t → sort_of_atom a ≡ Some t
    unfolding sort_of
    atom_sort a t e = e

    seen_leaf : (v : Variable) → IsSeen (open_term v) → IsInScope s path v
    unfolding Occurs
    seen_leaf v seen = seen v refl

    leaf_read : (a : List Symbol) (v : Variable) (t : Sort) → IsVariable s a v → sort_of (open_term v) ≡ Some t → IsSeen (open_term v) → IsReadAs a (with_sort (open_term v) t)
    leaf_read a v t is has seen =
        subst (λ (u : Sort). IsReadAs a (with_sort (open_term v) u)) (same_Some v.sort t (sym (open_sort v) ∙ atom_sort (atom.Open v) t has))
        (variable_read a v is (seen_leaf v seen))

    unary_closes : (o : Operator) (u : UnaryOperator) (x : Term) (a t : Sort) → IsUnary o u → sort_of_unary u a ≡ Some t → (entries : List Entry)
        → plain s (onto (with_sort x a ∷ []) (Bracket o ∷ entries)) symbol.Close ≡ Some (Whole (with_sort (Unary u x) t) ∷ entries)
    unary_closes o u x a t is has entries =
        ap (λ (v : Option UnaryOperator). pushed entries (option_and_then (one (with_sort x a)) v)) (unary_to o u is (small_if u a t has))
        ∙ ap (λ (r : Option Sort). pushed entries (sorted (Unary u x) r)) has

    binary_closes : (o : Operator) (u : BinaryOperator) (x y : Term) (a b t : Sort) → IsBinary o u → sort_of_binary u a b ≡ Some t → (entries : List Entry)
        → plain s (onto (with_sort x a ∷ with_sort y b ∷ []) (Bracket o ∷ entries)) symbol.Close ≡ Some (Whole (with_sort (Binary u x y) t) ∷ entries)
    binary_closes o u x y a b t is has entries =
        ap (λ (v : Option BinaryOperator). pushed entries (option_and_then (two (with_sort x a) (with_sort y b)) v)) (binary_to o u is)
        ∙ ap (λ (r : Option Sort). pushed entries (sorted (Binary u x y) r)) has

    term_read : (a : List Symbol) (x : Term) (t : Sort) → IsTermOf s a x → sort_of x ≡ Some t → IsSeen x → IsReadAs a (with_sort x t)
    unfolding sort_of Occurs
    term_read _ _ t (terms.truth_value b) has seen = atom_read (symbol.Truth b) (atom.Truth b) t has (λ entries. refl)
    term_read _ _ t (terms.number w n) has seen = atom_read (symbol.Constant w n) (atom.Constant w n) t has (λ entries. refl)
    term_read _ _ t (terms.a_variable a v is) has seen = leaf_read a v t is has seen
    term_read _ _ t (terms.one o u a x is dx) has seen =
        let e = with_one-some (sort_of_unary u) (sort_of x) t has in
        bracketed o a (with_sort x e.0 ∷ []) (with_sort (Unary u x) t) (last a (with_sort x e.0) (term_read a x e.0 dx e.1 seen)) (unary_closes o u x e.0 t is e.2)
    term_read _ _ t (terms.two o u a1 a2 x1 x2 is d1 d2) has seen =
        let e = with_two-some (sort_of_binary u) (sort_of x1) (sort_of x2) t has in
        bracketed o (a1 ++ a2) (with_sort x1 e.0 ∷ with_sort x2 e.1 ∷ []) (with_sort (Binary u x1 x2) t)
        (also a1 a2 (with_sort x1 e.0) (with_sort x2 e.1 ∷ []) (term_read a1 x1 e.0 d1 e.2 (λ v h. seen v (inl h)))
        (last a2 (with_sort x2 e.1) (term_read a2 x2 e.1 d2 e.3 (λ v h. seen v (inr h)))))
        (binary_closes o u x1 x2 e.0 e.1 t is e.4)
    term_read _ _ t (terms.three a1 a2 a3 x1 x2 x3 d1 d2 d3) has seen =
        let e = with_three-some (sort_of_ternary Choose) (sort_of x1) (sort_of x2) (sort_of x3) t has in
        bracketed operator.Choose (a1 ++ (a2 ++ a3)) (with_sort x1 e.0 ∷ with_sort x2 e.1 ∷ with_sort x3 e.2 ∷ []) (with_sort (choose x1 x2 x3) t)
        (also a1 (a2 ++ a3) (with_sort x1 e.0) (with_sort x2 e.1 ∷ with_sort x3 e.2 ∷ []) (term_read a1 x1 e.0 d1 e.3 (λ v h. seen v (inl h)))
        (also a2 a3 (with_sort x2 e.1) (with_sort x3 e.2 ∷ []) (term_read a2 x2 e.1 d2 e.4 (λ v h. seen v (inr (inl h))))
        (last a3 (with_sort x3 e.2) (term_read a3 x3 e.2 d3 e.5 (λ v h. seen v (inr (inr h)))))))
        (λ entries. ap (λ (r : Option Sort). pushed entries (sorted (choose x1 x2 x3) r)) e.6)
    term_read _ _ t (terms.four a1 a2 a3 a4 x1 x2 x3 x4 d1 d2 d3 d4) has seen =
        let e = with_four-some (sort_of_quaternary Join) (sort_of x1) (sort_of x2) (sort_of x3) (sort_of x4) t has in
        bracketed operator.Join (a1 ++ (a2 ++ (a3 ++ a4))) (with_sort x1 e.0 ∷ with_sort x2 e.1 ∷ with_sort x3 e.2 ∷ with_sort x4 e.3 ∷ []) (with_sort (join_four x1 x2 x3 x4) t)
        (also a1 (a2 ++ (a3 ++ a4)) (with_sort x1 e.0) (with_sort x2 e.1 ∷ with_sort x3 e.2 ∷ with_sort x4 e.3 ∷ []) (term_read a1 x1 e.0 d1 e.4 (λ v h. seen v (inl h)))
        (also a2 (a3 ++ a4) (with_sort x2 e.1) (with_sort x3 e.2 ∷ with_sort x4 e.3 ∷ []) (term_read a2 x2 e.1 d2 e.5 (λ v h. seen v (inr (inl h))))
        (also a3 a4 (with_sort x3 e.2) (with_sort x4 e.3 ∷ []) (term_read a3 x3 e.2 d3 e.6 (λ v h. seen v (inr (inr (inl h)))))
        (last a4 (with_sort x4 e.3) (term_read a4 x4 e.3 d4 e.7 (λ v h. seen v (inr (inr (inr h)))))))))
        (λ entries. ap (λ (r : Option Sort). pushed entries (sorted (join_four x1 x2 x3 x4) r)) e.8)
    term_read _ _ t (terms.eight a1 a2 a3 a4 a5 a6 a7 a8 x1 x2 x3 x4 x5 x6 x7 x8 d1 d2 d3 d4 d5 d6 d7 d8) has seen =
        let bytes = (sort_if-some (all_bytes (sort_of x1 ∷ sort_of x2 ∷ sort_of x3 ∷ sort_of x4 ∷ sort_of x5 ∷ sort_of x6 ∷ sort_of x7 ∷ sort_of x8 ∷ [])) (Word W64) t has).0 in
        let b1 = some_byte (sort_of x1) (sort_of x2 ∷ sort_of x3 ∷ sort_of x4 ∷ sort_of x5 ∷ sort_of x6 ∷ sort_of x7 ∷ sort_of x8 ∷ []) bytes in
        let b2 = some_byte (sort_of x2) (sort_of x3 ∷ sort_of x4 ∷ sort_of x5 ∷ sort_of x6 ∷ sort_of x7 ∷ sort_of x8 ∷ []) b1.2 in
        let b3 = some_byte (sort_of x3) (sort_of x4 ∷ sort_of x5 ∷ sort_of x6 ∷ sort_of x7 ∷ sort_of x8 ∷ []) b2.2 in
        let b4 = some_byte (sort_of x4) (sort_of x5 ∷ sort_of x6 ∷ sort_of x7 ∷ sort_of x8 ∷ []) b3.2 in
        let b5 = some_byte (sort_of x5) (sort_of x6 ∷ sort_of x7 ∷ sort_of x8 ∷ []) b4.2 in
        let b6 = some_byte (sort_of x6) (sort_of x7 ∷ sort_of x8 ∷ []) b5.2 in
        let b7 = some_byte (sort_of x7) (sort_of x8 ∷ []) b6.2 in
        let b8 = some_byte (sort_of x8) [] b7.2 in
        let y1 = with_sort x1 b1.0 in
        let y2 = with_sort x2 b2.0 in
        let y3 = with_sort x3 b3.0 in
        let y4 = with_sort x4 b4.0 in
        let y5 = with_sort x5 b5.0 in
        let y6 = with_sort x6 b6.0 in
        let y7 = with_sort x7 b7.0 in
        let y8 = with_sort x8 b8.0 in
        bracketed operator.Join (a1 ++ (a2 ++ (a3 ++ (a4 ++ (a5 ++ (a6 ++ (a7 ++ a8))))))) (y1 ∷ y2 ∷ y3 ∷ y4 ∷ y5 ∷ y6 ∷ y7 ∷ y8 ∷ [])
        (with_sort (Octonary x1 x2 x3 x4 x5 x6 x7 x8) t)
        (also a1 (a2 ++ (a3 ++ (a4 ++ (a5 ++ (a6 ++ (a7 ++ a8)))))) y1 (y2 ∷ y3 ∷ y4 ∷ y5 ∷ y6 ∷ y7 ∷ y8 ∷ []) (term_read a1 x1 b1.0 d1 b1.1 (λ v h. seen v (inl h)))
        (also a2 (a3 ++ (a4 ++ (a5 ++ (a6 ++ (a7 ++ a8))))) y2 (y3 ∷ y4 ∷ y5 ∷ y6 ∷ y7 ∷ y8 ∷ []) (term_read a2 x2 b2.0 d2 b2.1 (λ v h. seen v (inr (inl h))))
        (also a3 (a4 ++ (a5 ++ (a6 ++ (a7 ++ a8)))) y3 (y4 ∷ y5 ∷ y6 ∷ y7 ∷ y8 ∷ []) (term_read a3 x3 b3.0 d3 b3.1 (λ v h. seen v (inr (inr (inl h)))))
        (also a4 (a5 ++ (a6 ++ (a7 ++ a8))) y4 (y5 ∷ y6 ∷ y7 ∷ y8 ∷ []) (term_read a4 x4 b4.0 d4 b4.1 (λ v h. seen v (inr (inr (inr (inl h))))))
        (also a5 (a6 ++ (a7 ++ a8)) y5 (y6 ∷ y7 ∷ y8 ∷ []) (term_read a5 x5 b5.0 d5 b5.1 (λ v h. seen v (inr (inr (inr (inr (inl h)))))))
        (also a6 (a7 ++ a8) y6 (y7 ∷ y8 ∷ []) (term_read a6 x6 b6.0 d6 b6.1 (λ v h. seen v (inr (inr (inr (inr (inr (inl h))))))))
        (also a7 a8 y7 (y8 ∷ []) (term_read a7 x7 b7.0 d7 b7.1 (λ v h. seen v (inr (inr (inr (inr (inr (inr (inl h)))))))))
        (last a8 y8 (term_read a8 x8 b8.0 d8 b8.1 (λ v h. seen v (inr (inr (inr (inr (inr (inr (inr h)))))))))))))))))
        (λ entries.
        ap (λ (r : Option Sort). pushed entries (sorted (Octonary x1 x2 x3 x4 x5 x6 x7 x8) r))
        (sorts_are (sort_of x1) (sort_of x2) (sort_of x3) (sort_of x4) (sort_of x5) (sort_of x6) (sort_of x7) (sort_of x8) b1.0 b2.0 b3.0 b4.0 b5.0 b6.0 b7.0 b8.0 t
        b1.1 b2.1 b3.1 b4.1 b5.1 b6.1 b7.1 b8.1 has))
      where
        sorts_are : (o1 o2 o3 o4 o5 o6 o7 o8 : Option Sort) (r1 r2 r3 r4 r5 r6 r7 r8 u : Sort) → o1 ≡ Some r1 → o2 ≡ Some r2 → o3 ≡ Some r3 → o4 ≡ Some r4
            → o5 ≡ Some r5 → o6 ≡ Some r6 → o7 ≡ Some r7 → o8 ≡ Some r8
            → sort_if (all_bytes (o1 ∷ o2 ∷ o3 ∷ o4 ∷ o5 ∷ o6 ∷ o7 ∷ o8 ∷ [])) (Word W64) ≡ Some u
            → sort_if (all_bytes (Some r1 ∷ Some r2 ∷ Some r3 ∷ Some r4 ∷ Some r5 ∷ Some r6 ∷ Some r7 ∷ Some r8 ∷ [])) (Word W64) ≡ Some u
        sorts_are o1 o2 o3 o4 o5 o6 o7 o8 r1 r2 r3 r4 r5 r6 r7 r8 u e1 e2 e3 e4 e5 e6 e7 e8 h =
            let h1 = subst (λ (v : Option Sort). sort_if (all_bytes (v ∷ o2 ∷ o3 ∷ o4 ∷ o5 ∷ o6 ∷ o7 ∷ o8 ∷ [])) (Word W64) ≡ Some u) e1 h in
            let h2 = subst (λ (v : Option Sort). sort_if (all_bytes (Some r1 ∷ v ∷ o3 ∷ o4 ∷ o5 ∷ o6 ∷ o7 ∷ o8 ∷ [])) (Word W64) ≡ Some u) e2 h1 in
            let h3 = subst (λ (v : Option Sort). sort_if (all_bytes (Some r1 ∷ Some r2 ∷ v ∷ o4 ∷ o5 ∷ o6 ∷ o7 ∷ o8 ∷ [])) (Word W64) ≡ Some u) e3 h2 in
            let h4 = subst (λ (v : Option Sort). sort_if (all_bytes (Some r1 ∷ Some r2 ∷ Some r3 ∷ v ∷ o5 ∷ o6 ∷ o7 ∷ o8 ∷ [])) (Word W64) ≡ Some u) e4 h3 in
            let h5 = subst (λ (v : Option Sort). sort_if (all_bytes (Some r1 ∷ Some r2 ∷ Some r3 ∷ Some r4 ∷ v ∷ o6 ∷ o7 ∷ o8 ∷ [])) (Word W64) ≡ Some u) e5 h4 in
            let h6 = subst (λ (v : Option Sort). sort_if (all_bytes (Some r1 ∷ Some r2 ∷ Some r3 ∷ Some r4 ∷ Some r5 ∷ v ∷ o7 ∷ o8 ∷ [])) (Word W64) ≡ Some u) e6 h5 in
            let h7 = subst (λ (v : Option Sort). sort_if (all_bytes (Some r1 ∷ Some r2 ∷ Some r3 ∷ Some r4 ∷ Some r5 ∷ Some r6 ∷ v ∷ o8 ∷ [])) (Word W64) ≡ Some u) e7 h6 in
            let h8 = subst (λ (v : Option Sort). sort_if (all_bytes (Some r1 ∷ Some r2 ∷ Some r3 ∷ Some r4 ∷ Some r5 ∷ Some r6 ∷ Some r7 ∷ v ∷ [])) (Word W64) ≡ Some u) e8 h7 in
            h8

    -- ---- lines

    pub line_read : (symbols : List Symbol) (line : Term) → IsTermOf s symbols line → IsLine s path line → line_of s path symbols ≡ Some line
    unfolding run
    line_read symbols line is fine =
        ap (λ (a : List Symbol). option_and_then finished (run s path begun a)) (sym (append-nil symbols))
        ∙ ap (option_and_then finished) (term_read symbols line Truth is fine.truth fine.visible [] [])
