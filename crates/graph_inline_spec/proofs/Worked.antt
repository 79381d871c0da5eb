-- What the laws ask holds of two small calls.
use Rattle.std.proofs.Common.{◌≡◌, ◌≢◌, ◌∙◌, inl, inr, ℕ, zero, suc, true, refl, sym, ap, subst, arith, [], ◌∷◌, All, Option, Some, None}
use Rattle.std.specs.Prelude.{slice_get}
use Rattle.std.proofs.lemmas.List.Elements.{All-cons, All-nil}
use Rattle.std.proofs.lemmas.Option.{none-some}
use Rattle.term_core_spec.specs.declared.Variable.{Variable}
use Rattle.term_core_spec.specs.Sort.{sort_of, sort_of_atom, sort_of_binary}
use Rattle.term_core_spec.specs.Substitution.{renamed}
use Rattle.term_core_spec.specs.Term.{Occurs, truth, open_term, equal}
use Rattle.graph_core_spec.specs.Graph.{IsBinding, Node, Basic, Cond, Call, Graph, IsNode}
use Rattle.graph_inline_spec.specs.Inlined.{start_term}
use Rattle.graph_inline_spec.specs.Inlining.{TermSpeaksOf, SpeaksOf, IsOfCallee, IsElsewhere, IsOwn, CanInline, NeverCalls, Inlines}
use Rattle.graph_inline_spec.specs.Samples.{plus, word, local, is_set, result, c_callee, c_caller, c_own, c_inlined, x, e, code_callee, code_caller, code_inlined, CanInlineBoth}

-- ---- which variables terms speak of

module _ (P : Variable → Type 0) where
  speaks_open : (v : Variable) → P v → TermSpeaksOf P (open_term v)
  unfolding Occurs
  speaks_open v p w o = subst P (sym o) p

  speaks_word : (n : ℕ) → TermSpeaksOf P (word n)
  unfolding Occurs
  speaks_word n w o = absurd o

  speaks_truth : TermSpeaksOf P (truth true)
  unfolding Occurs
  speaks_truth w o = absurd o

  speaks_plus : (v : Variable) (n : ℕ) → P v → TermSpeaksOf P (plus v n)
  unfolding Occurs
  speaks_plus v n p w (inl o) = subst P (sym o) p
  speaks_plus v n p w (inr o) = absurd o

  speaks_equal : (v w : Variable) → P v → P w → TermSpeaksOf P (equal (open_term v) (open_term w))
  unfolding Occurs
  speaks_equal v w p q u (inl o) = subst P (sym o) p
  speaks_equal v w p q u (inr o) = subst P (sym o) q

-- ---- lists of nodes and bindings

one : {X : Type 0} (P : X → Type 0) (a : X) → P a → All P (a ∷ [])
one P a p = All-cons P a [] p (All-nil P)

two : {X : Type 0} (P : X → Type 0) (a b : X) → P a → P b → All P (a ∷ b ∷ [])
two P a b p q = All-cons P a (b ∷ []) p (one P b q)

three : {X : Type 0} (P : X → Type 0) (a b c : X) → P a → P b → P c → All P (a ∷ b ∷ c ∷ [])
three P a b c p q r = All-cons P a (b ∷ c ∷ []) p (two P b c q r)

four : {X : Type 0} (P : X → Type 0) (a b c d : X) → P a → P b → P c → P d → All P (a ∷ b ∷ c ∷ d ∷ [])
four P a b c d p q r s = All-cons P a (b ∷ c ∷ d ∷ []) p (three P b c d q r s)

-- the first node and the third call nothing, and the others what is said
first_calls : ℕ → Node → ℕ
first_calls other (Basic bindings to) = other
first_calls other (Cond test on_true on_false) = other
first_calls other (Call d inputs outputs landing) = d

called : (other : ℕ) → Option Node → ℕ
called other None = other
called other (Some node) = first_calls other node

calls_one : (caller callee : Graph) → ((m : ℕ) → called 1 (slice_get caller.nodes m) ≡ 1) → ((m : ℕ) → called 1 (slice_get callee.nodes m) ≡ 1)
    → NeverCalls (caller ∷ callee ∷ []) 0
unfolding called first_calls
calls_one caller callee p q zero m d inputs outputs landing there same =
    let here : d ≡ 1 = sym (ap (called 1) there) ∙ p m in omega (arith, here, same)
calls_one caller callee p q (suc zero) m d inputs outputs landing there same =
    let here : d ≡ 1 = sym (ap (called 1) there) ∙ q m in omega (arith, here, same)
calls_one caller callee p q (suc (suc h)) m d inputs outputs landing there same = absurd (none-some _ there)

-- ---- the call in C

elsewhere : (v : Variable) → v.instance ≡ 0 → IsElsewhere 2 v
elsewhere v e = inr (λ bad. omega (arith, e, bad))

c_first : IsOfCallee c_own (local 0 0)
c_first = inr (0, omega arith, refl)

c_result : IsOfCallee c_own (result 0)
c_result = inr (4, omega arith, refl)

c_can : CanInline c_caller 1 c_callee c_own 2
unfolding sort_of sort_of_atom sort_of_binary
c_can = record {
  number = 1;
  inputs = _;
  outputs = _;
  landing = 2;
  call = refl;
  own_variables = All-cons IsOwn (local 0 0) (is_set 0 0 ∷ local 1 0 ∷ is_set 1 0 ∷ result 0 ∷ []) (refl, refl) (four IsOwn (is_set 0 0) (local 1 0) (is_set 1 0) (result 0) (refl, refl) (refl, refl) (refl, refl) (refl, refl));
  fresh =
      four (SpeaksOf (IsElsewhere 2)) _ _ _ _ (All-nil _) (
        two (λ b. TermSpeaksOf (IsElsewhere 2) b.term) _ _ (speaks_open (IsElsewhere 2) (local 0 0) (elsewhere (local 0 0) refl)) (speaks_truth (IsElsewhere 2)),
        two (λ b. IsElsewhere 2 b.variable) _ _ (elsewhere (local 1 0) refl) (elsewhere (is_set 1 0) refl),
      )
      (All-nil _)
      (one (λ b. IsElsewhere 2 b.variable × TermSpeaksOf (IsElsewhere 2) b.term) _ (elsewhere (result 0) refl, speaks_plus (IsElsewhere 2) (local 1 0) 2 (elsewhere (local 1 0) refl)));
  listed =
      two (SpeaksOf (IsOfCallee c_own)) _ _ (All-nil _)
      (one (λ b. IsOfCallee c_own b.variable × TermSpeaksOf (IsOfCallee c_own) b.term) _ (c_result, speaks_plus (IsOfCallee c_own) (local 0 0) 1 c_first));
  takes =
      two (λ b. TermSpeaksOf (IsOfCallee c_own) b.term) _ _ (speaks_open (IsOfCallee c_own) (result 0) c_result) (speaks_truth (IsOfCallee c_own));
  valid_caller = record {
    entry = omega arith;
    nodes =
        four (IsNode 4) _ _ _ _ (All-nil _, omega arith) (two IsBinding _ _ refl refl, two IsBinding _ _ refl refl, omega arith)
        (All-nil _, omega arith) (one IsBinding _ refl, tt);
  };
  valid_callee = record { entry = omega arith; nodes = two (IsNode 2) _ _ (All-nil _, omega arith) (one IsBinding _ refl, tt) };
}

c_inlines : Inlines (c_caller ∷ c_callee ∷ []) 0 1 c_own 2 (c_inlined ∷ c_callee ∷ [])
unfolding c_can renamed start_term called first_calls
c_inlines = record {
  caller = c_caller;
  callee = c_callee;
  can = c_can;
  here = refl;
  there = refl;
  changed = refl;
  others = others;
  never_called = calls_one c_caller c_callee calls_of_caller calls_of_callee;
}
  where
    others : (h : ℕ) → h ≢ 0 → slice_get (c_inlined ∷ c_callee ∷ []) h ≡ slice_get (c_caller ∷ c_callee ∷ []) h
    others zero other = absurd (other refl)
    others (suc h) other = refl

    calls_of_caller : (m : ℕ) → called 1 (slice_get c_caller.nodes m) ≡ 1
    calls_of_caller zero = refl
    calls_of_caller (suc zero) = refl
    calls_of_caller (suc (suc zero)) = refl
    calls_of_caller (suc (suc (suc zero))) = refl
    calls_of_caller (suc (suc (suc (suc m)))) = refl

    calls_of_callee : (m : ℕ) → called 1 (slice_get c_callee.nodes m) ≡ 1
    calls_of_callee zero = refl
    calls_of_callee (suc zero) = refl
    calls_of_callee (suc (suc m)) = refl

-- ---- the call in code

code_can : CanInline code_caller 1 code_callee (e 1 0 ∷ []) 2
unfolding sort_of sort_of_atom sort_of_binary
code_can = record {
  number = 1;
  inputs = _;
  outputs = _;
  landing = 2;
  call = refl;
  own_variables = one IsOwn (e 1 0) (refl, refl);
  fresh =
      four (SpeaksOf (IsElsewhere 2)) _ _ _ _ (All-nil _) (
        three (λ b. TermSpeaksOf (IsElsewhere 2) b.term) _ _ _ (speaks_word (IsElsewhere 2) 0x1000c) (speaks_word (IsElsewhere 2) 0x1000c)
            (speaks_open (IsElsewhere 2) (x 2) (inl refl)),
        All-nil (λ b. IsElsewhere 2 b.variable),
      )
      (All-nil _)
      (one (λ b. IsElsewhere 2 b.variable × TermSpeaksOf (IsElsewhere 2) b.term) _ (inl refl, speaks_plus (IsElsewhere 2) (x 10) 2 (inl refl)));
  listed =
      three (SpeaksOf (IsOfCallee (e 1 0 ∷ []))) _ _ _ (All-nil _)
      (one (λ b. IsOfCallee (e 1 0 ∷ []) b.variable × TermSpeaksOf (IsOfCallee (e 1 0 ∷ [])) b.term) _ (inl refl, speaks_plus (IsOfCallee (e 1 0 ∷ [])) (x 10) 1 (inl refl)))
      (speaks_equal (IsOfCallee (e 1 0 ∷ [])) (x 1) (e 1 0) (inl refl) (inr (0, omega arith, refl)));
  takes = All-nil (λ b. TermSpeaksOf (IsOfCallee (e 1 0 ∷ [])) b.term);
  valid_caller = record {
    entry = omega arith;
    nodes =
        four (IsNode 4) _ _ _ _ (All-nil _, omega arith) (three IsBinding _ _ _ refl refl refl, All-nil IsBinding, omega arith)
        (All-nil _, omega arith) (one IsBinding _ refl, tt);
  };
  valid_callee = record {
    entry = omega arith;
    nodes = three (IsNode 3) _ _ _ (All-nil _, omega arith) (one IsBinding _ refl, omega arith) (refl, tt, tt);
  };
}

code_inlines : Inlines (code_caller ∷ code_callee ∷ []) 0 1 (e 1 0 ∷ []) 2 (code_inlined ∷ code_callee ∷ [])
unfolding code_can renamed start_term called first_calls
code_inlines = record {
  caller = code_caller;
  callee = code_callee;
  can = code_can;
  here = refl;
  there = refl;
  changed = refl;
  others = others;
  never_called = calls_one code_caller code_callee calls_of_caller calls_of_callee;
}
  where
    others : (h : ℕ) → h ≢ 0 → slice_get (code_inlined ∷ code_callee ∷ []) h ≡ slice_get (code_caller ∷ code_callee ∷ []) h
    others zero other = absurd (other refl)
    others (suc h) other = refl

    calls_of_caller : (m : ℕ) → called 1 (slice_get code_caller.nodes m) ≡ 1
    calls_of_caller zero = refl
    calls_of_caller (suc zero) = refl
    calls_of_caller (suc (suc zero)) = refl
    calls_of_caller (suc (suc (suc zero))) = refl
    calls_of_caller (suc (suc (suc (suc m)))) = refl

    calls_of_callee : (m : ℕ) → called 1 (slice_get code_callee.nodes m) ≡ 1
    calls_of_callee zero = refl
    calls_of_callee (suc zero) = refl
    calls_of_callee (suc (suc zero)) = refl
    calls_of_callee (suc (suc (suc m))) = refl

pub both : CanInlineBoth
both = (c_inlines, code_inlines)
