-- What is expected after a symbol of a term.
use Rattle.std.specs.Prelude.{◌-◌, pred}
use Rattle.std.proofs.Common.{◌≡◌, ℕ, zero, suc, ◌<◌, ◌≤◌, true, List, [], ◌∷◌, ◌++◌, Some, None, refl, ap, sym, ◌∙◌, subst, arith}
use Rattle.std.proofs.lemmas.Bool.Decides.{nat_tests}
use Rattle.tv_limits.specs.declared.TheConstants.{NESTING_LIMIT}
use Rattle.cert_text_spec.specs.declared.Symbol.{Symbol}
use Rattle.cert_text_spec.specs.declared.Symbol.TheVariants as symbol
use Rattle.cert_text_spec.specs.declared.Operator.{Operator}
use Rattle.cert_text_spec.specs.Terms as terms
use Rattle.cert_text_laws.specs.Readers.{given, refused}
use Rattle.cert_text_laws.specs.Heads.{read_symbol, words_at, read_term}
use Rattle.cert_text_laws.proofs.Bytes.{simply-exact}
use Rattle.cert_text_laws.proofs.Symbols.{symbol_read, symbol_shorter}
use Rattle.cert_text_laws.proofs.Loops.{items-start, items-step, items-fault, items-end}
use Rattle.cert_text_laws.specs.Going.{ItemsLeft}
use Rattle.cert_text_parse.specs.declared.symbols.Expected.{Expected}
use Rattle.cert_text_parse.specs.declared.symbols.Expected.TheVariants as expected
use Rattle.cert_text_parse.specs.declared.terms.Lead.{Lead}
use Rattle.cert_text_parse.specs.declared.terms.Lead.TheVariants as lead
use Rattle.cert_text_parse.specs.declared.terms.Going.{Going}
use Rattle.cert_text_parse.specs.Terms.{IsTop, expected_of, opened, stack_at, stack_of, top_at, below_at, next}

-- a symbol that was read can occur there
pub symbol_allowed : (e : terms.Expected) (text rest : List ℕ) (s : Symbol) → read_symbol e text ≡ given s rest → terms.can_stand e s ≡ true
symbol_allowed e text rest s is = ((simply-exact (symbol_read e).exact).takes text s rest is).derives.fits.stands

-- an operator is an argument only where it has room
pub opens_within : (n : ℕ) (o : Operator) → terms.can_stand (terms.Arguments (NESTING_LIMIT - suc n)) (symbol.Open o) ≡ true → suc (suc n) ≤ NESTING_LIMIT
opens_within n o h = grind (arith, nat_tests)

opened_more : (n : ℕ) → terms.Arguments (NESTING_LIMIT - suc n - 1) ∷ terms.Arguments (NESTING_LIMIT - suc n) ∷ opened n ≡ opened (suc (suc n))
unfolding opened
opened_more n = ap (λ r. terms.Arguments r ∷ terms.Arguments (NESTING_LIMIT - suc n) ∷ opened n) less
  where
    less : NESTING_LIMIT - suc n - 1 ≡ NESTING_LIMIT - suc (suc n)
    less = omega arith

-- only where nothing is open a term itself is expected
abbrev pub IsAlone : Lead → ℕ → Type 0
IsAlone lead.Term n = n ≡ 0
IsAlone l n = Unit {0}

-- what is expected after a symbol that can occur there
pub next_stack : (l : Lead) (n : ℕ) (s : Symbol) → IsAlone l n → stack_at l n ≡ top_at l n ∷ below_at l n → terms.can_stand (top_at l n) s ≡ true
    → stack_of (next (record { lead = l; depth = n }) s) ≡ terms.after (top_at l n) s ++ below_at l n
unfolding opened
next_stack lead.Term zero symbol.Close a e h = absurd (cc)
next_stack lead.Term zero s a e h = refl
next_stack lead.Term (suc n) s a e h = absurd (omega (arith, a))
next_stack lead.Variable n (symbol.Inlined m) a e h = refl
next_stack lead.Variable n (symbol.Local m) a e h = refl
next_stack lead.Variable n (symbol.IsSet m) a e h = refl
next_stack lead.Variable n (symbol.Parameter m) a e h = refl
next_stack lead.Variable n s a e h = absurd (cc)
next_stack lead.Argument zero s a e h = absurd (cc)
next_stack lead.Argument (suc n) (symbol.Open o) a e h = sym (opened_more n)
next_stack lead.Argument (suc n) s a e h = refl

-- not more are open than may be
pub next_within : (l : Lead) (n : ℕ) (s : Symbol) → IsAlone l n → n ≤ NESTING_LIMIT → stack_at l n ≡ top_at l n ∷ below_at l n → terms.can_stand (top_at l n) s ≡ true
    → (next (record { lead = l; depth = n }) s).depth ≤ NESTING_LIMIT
unfolding opened
next_within lead.Term zero (symbol.Open o) a w e h = omega arith
next_within lead.Term zero (symbol.Inlined m) a w e h = omega arith
next_within lead.Term zero symbol.Close a w e h = omega arith
next_within lead.Term zero s a w e h = omega arith
next_within lead.Term (suc n) s a w e h = absurd (omega (arith, a))
next_within lead.Variable n (symbol.Inlined m) a w e h = w
next_within lead.Variable n (symbol.Local m) a w e h = w
next_within lead.Variable n (symbol.IsSet m) a w e h = w
next_within lead.Variable n (symbol.Parameter m) a w e h = w
next_within lead.Variable n s a w e h = absurd (cc)
next_within lead.Argument zero s a w e h = absurd (cc)
next_within lead.Argument (suc n) (symbol.Open o) a w e h = opens_within n o h
next_within lead.Argument (suc n) symbol.Close a w e h = omega (arith, w)
next_within lead.Argument (suc n) s a w e h = w

pub next_alone : (g : Going) (s : Symbol) → IsAlone (next g s).lead (next g s).depth
next_alone g (symbol.Inlined n) = tt
next_alone g (symbol.Open o) = tt
next_alone g symbol.Close = tt
next_alone g s = tt

-- what is expected where operators are open
pub none_open : (n : ℕ) → n ≡ 0 → opened n ≡ []
unfolding opened
none_open zero e = refl
none_open (suc n) e = absurd (omega (arith, e))

pub some_open : (n : ℕ) → 0 < n → opened n ≡ terms.Arguments (NESTING_LIMIT - n) ∷ opened (pred n)
unfolding opened
some_open zero l = absurd (omega arith)
some_open (suc n) l = refl

module _ (g : Going) where
  pub none_expected : lead.Argument ≡ g.lead → g.depth ≡ 0 → stack_of g ≡ []
  none_expected l e = ap (λ k. stack_at k g.depth) (sym l) ∙ none_open g.depth e

  pub some_expected : (room : ℕ) → lead.Argument ≡ g.lead → 0 < g.depth → room ≡ NESTING_LIMIT - g.depth → IsTop g (Some (expected.Arguments room))
  some_expected room l some e =
      subst (λ k. (terms.Arguments room ≡ top_at k g.depth) × (stack_at k g.depth ≡ top_at k g.depth ∷ below_at k g.depth)) l (ap terms.Arguments e, some_open g.depth some)

-- the words of arguments
pub last_words : (room : ℕ) → room ≡ 0 → words_at (terms.Arguments 0) ≡ words_at (terms.Arguments room)
last_words room e = ap (λ r. words_at (terms.Arguments r)) (sym e)

pub argument_words : (room : ℕ) → 0 < room → words_at (terms.Arguments 1) ≡ words_at (terms.Arguments room)
argument_words zero l = absurd (omega arith)
argument_words (suc n) l = refl

-- ---- the symbols so far, and what is expected after them

pub record TermLeft (old : List ℕ) (symbols : List Symbol) (g : Going) (rest : List ℕ) : Type 0 where
  pub left : ItemsLeft read_symbol terms.after (read_term old) symbols (stack_of g) rest
  pub within : g.depth ≤ NESTING_LIMIT
  pub alone : IsAlone g.lead g.depth

module _ (old : List ℕ) (symbols : List Symbol) where
  pub term_starts : symbols ≡ [] → TermLeft old symbols (record { lead = lead.Term; depth = 0 }) old
  unfolding opened
  term_starts e = record {
    left = subst (λ s. ItemsLeft read_symbol terms.after (read_term old) s (terms.ATerm NESTING_LIMIT ∷ []) old) (sym e) (items-start read_symbol terms.after (terms.ATerm NESTING_LIMIT ∷ []) old);
    within = omega arith;
    alone = refl;
  }

  module _ (g : Going) (rest : List ℕ) (t : TermLeft old symbols g rest) where
    pub term_ends : IsTop g None → read_term old ≡ given symbols rest
    term_ends e = items-end read_symbol terms.after (read_term old) symbols rest (subst (λ s. ItemsLeft read_symbol terms.after (read_term old) symbols s rest) e t.left)

    module _ (e : Expected) (top : IsTop g (Some e)) (middle : List ℕ) where
      at_top : ItemsLeft read_symbol terms.after (read_term old) symbols (top_at g.lead g.depth ∷ below_at g.lead g.depth) rest
      at_top = subst (λ s. ItemsLeft read_symbol terms.after (read_term old) symbols s rest) top.1 t.left

      pub term_fault : read_symbol (expected_of e) rest ≡ refused middle → read_term old ≡ refused middle
      term_fault h = items-fault read_symbol terms.after (read_term old) symbols (top_at g.lead g.depth) (below_at g.lead g.depth) rest middle at_top (ap (λ x. read_symbol x rest) (sym top.0) ∙ h)

      pub term_next : (s : Symbol) → read_symbol (expected_of e) rest ≡ given s middle → TermLeft old (symbols ++ s ∷ []) (next g s) middle
      term_next s h =
          let read : read_symbol (top_at g.lead g.depth) rest ≡ given s middle = ap (λ x. read_symbol x rest) (sym top.0) ∙ h in
          let allowed = symbol_allowed (top_at g.lead g.depth) rest middle s read in
          record {
            left = subst (λ stack. ItemsLeft read_symbol terms.after (read_term old) (symbols ++ s ∷ []) stack middle) (sym (next_stack g.lead g.depth s t.alone top.1 allowed))
                (items-step read_symbol terms.after (read_term old) symbols (top_at g.lead g.depth) (below_at g.lead g.depth) rest middle s at_top read (symbol_shorter (top_at g.lead g.depth) rest middle s read));
            within = next_within g.lead g.depth s t.alone t.within top.1 allowed;
            alone = next_alone g s;
          }
