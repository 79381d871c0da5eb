-- The text of a term, symbol by symbol.
use Rattle.std.specs.Prelude.{pred, replicate, drop, if◌then◌else◌}
use Rattle.std.proofs.Common.{◌≡◌, ℕ, zero, suc, ◌+◌, ◌<◌, ◌≤◌, Bool, true, false, List, [], ◌∷◌, ◌++◌, length, get_or, refl, ap, sym, ◌∙◌, subst, append_assoc, append-nil, arith, drop-cons, eqb-true, add-one}
use Rattle.tv_limits.specs.declared.TheConstants.{NESTING_LIMIT}
use Rattle.cert_text_spec.specs.declared.Symbol.{Symbol}
use Rattle.cert_text_spec.specs.declared.Symbol.TheVariants as symbol
use Rattle.cert_text_spec.specs.Derivation.{spelled}
use Rattle.cert_text_spec.specs.Terms.{Expected, ATerm, AVariable, Arguments, after, after_first, after_argument, text_at, term_text}
use Rattle.cert_text.specs.declared.terms.Going.{Going}
use Rattle.cert_text.specs.Texts.{is_done, next_going, text_going}

-- ---- what is expected, but for how much room there is

abbrev pub is_argument : Expected → Bool
is_argument (Arguments room) = true
is_argument e = false

abbrev kinds : List Expected → List Bool
kinds [] = []
kinds (e ∷ expected) = is_argument e ∷ kinds expected

kinds-append : (a b : List Expected) → kinds (a ++ b) ≡ kinds a ++ kinds b
kinds-append [] b = refl
kinds-append (e ∷ a) b = ap (λ k. is_argument e ∷ k) (kinds-append a b)

abbrev tail : List Bool → List Bool
tail [] = []
tail (k ∷ ks) = ks

abbrev going_kinds : Going → List Bool
going_kinds g = if g.begins then false ∷ replicate g.depth true else replicate g.depth true

-- what is expected where the text goes on so
pub record IsAt (g : Going) (expected : List Expected) : Type 0 where
  pub kinds_are : kinds expected ≡ going_kinds g

pub at_start : IsAt (record { begins = true; depth = 0 }) (ATerm NESTING_LIMIT ∷ [])
at_start = record { kinds_are = refl }

-- where nothing is expected
none_expected : (expected : List Expected) → kinds expected ≡ [] → expected ≡ []
none_expected [] e = refl
none_expected (x ∷ expected) e = absurd (cc)

pub over : (begins : Bool) (depth : ℕ) (expected : List Expected) → IsAt (record { begins = begins; depth = depth }) expected → is_done (record { begins = begins; depth = depth }) ≡ true → expected ≡ []
over true depth expected a h = absurd (cc)
over false zero expected a h = none_expected expected a.kinds_are
over false (suc depth) expected a h = absurd (let e : suc depth ≡ 0 = eqb-true (suc depth) 0 h in omega (arith, e))

-- ---- a symbol where something is expected

-- a first symbol leaves these
abbrev first_kinds : Symbol → List Bool
first_kinds (symbol.Open o) = true ∷ []
first_kinds (symbol.Inlined n) = false ∷ []
first_kinds s = []

after_first_kinds : (s : Symbol) (room : ℕ) → kinds (after_first s room) ≡ first_kinds s
after_first_kinds (symbol.Open o) room = refl
after_first_kinds (symbol.Inlined n) room = refl
after_first_kinds (symbol.Truth b) room = refl
after_first_kinds (symbol.Constant w n) room = refl
after_first_kinds (symbol.Register n) room = refl
after_first_kinds (symbol.Entry n) room = refl
after_first_kinds (symbol.Local n) room = refl
after_first_kinds (symbol.IsSet n) room = refl
after_first_kinds (symbol.Parameter n) room = refl
after_first_kinds symbol.SourceMemory room = refl
after_first_kinds symbol.ZoneMemory room = refl
after_first_kinds symbol.BinaryMemory room = refl
after_first_kinds symbol.Close room = refl

-- after a term or a variable
begun : (s : Symbol) (depth : ℕ) → first_kinds s ++ replicate depth true ≡ going_kinds (next_going (record { begins = true; depth = depth }) s)
begun (symbol.Open o) depth = refl
begun (symbol.Inlined n) depth = refl
begun (symbol.Truth b) depth = refl
begun (symbol.Constant w n) depth = refl
begun (symbol.Register n) depth = refl
begun (symbol.Entry n) depth = refl
begun (symbol.Local n) depth = refl
begun (symbol.IsSet n) depth = refl
begun (symbol.Parameter n) depth = refl
begun symbol.SourceMemory depth = refl
begun symbol.ZoneMemory depth = refl
begun symbol.BinaryMemory depth = refl
begun symbol.Close depth = refl

abbrev argument_kinds : Symbol → List Bool
argument_kinds symbol.Close = []
argument_kinds s = first_kinds s ++ true ∷ []

after_argument_kinds : (s : Symbol) (room : ℕ) → kinds (after_argument s room) ≡ argument_kinds s
after_argument_kinds symbol.Close room = refl
after_argument_kinds (symbol.Open o) room = refl
after_argument_kinds (symbol.Inlined n) room = refl
after_argument_kinds (symbol.Truth b) room = refl
after_argument_kinds (symbol.Constant w n) room = refl
after_argument_kinds (symbol.Register n) room = refl
after_argument_kinds (symbol.Entry n) room = refl
after_argument_kinds (symbol.Local n) room = refl
after_argument_kinds (symbol.IsSet n) room = refl
after_argument_kinds (symbol.Parameter n) room = refl
after_argument_kinds symbol.SourceMemory room = refl
after_argument_kinds symbol.ZoneMemory room = refl
after_argument_kinds symbol.BinaryMemory room = refl

-- after an argument or its bracket
argued : (s : Symbol) (depth : ℕ) → argument_kinds s ++ replicate depth true ≡ going_kinds (next_going (record { begins = false; depth = suc depth }) s)
argued symbol.Close depth = refl
argued (symbol.Open o) depth = refl
argued (symbol.Inlined n) depth = refl
argued (symbol.Truth b) depth = refl
argued (symbol.Constant w n) depth = refl
argued (symbol.Register n) depth = refl
argued (symbol.Entry n) depth = refl
argued (symbol.Local n) depth = refl
argued (symbol.IsSet n) depth = refl
argued (symbol.Parameter n) depth = refl
argued symbol.SourceMemory depth = refl
argued symbol.ZoneMemory depth = refl
argued symbol.BinaryMemory depth = refl

-- a symbol is spelled, and leaves what is expected after it
pub record Spelled (g : Going) (s : Symbol) (expected : List Expected) : Type 0 where
  pub next : List Expected
  pub is_at : IsAt (next_going g s) next
  pub text : (rest : List Symbol) → spelled after text_at expected (s ∷ rest) ≡ text_going g s ++ spelled after text_at next rest

begun_at : (s : Symbol) (depth : ℕ) (others : List Expected) (kinds_of : kinds others ≡ replicate depth true) (room : ℕ) → IsAt (next_going (record { begins = true; depth = depth }) s) (after_first s room ++ others)
begun_at s depth others k room = record { kinds_are = kinds-append (after_first s room) others ∙ ap (λ a. a ++ kinds others) (after_first_kinds s room) ∙ ap (λ b. first_kinds s ++ b) k ∙ begun s depth }

pub symbol_spelled : (begins : Bool) (depth : ℕ) (s : Symbol) (expected : List Expected) → IsAt (record { begins = begins; depth = depth }) expected → is_done (record { begins = begins; depth = depth }) ≡ false
    → Spelled (record { begins = begins; depth = depth }) s expected
unfolding spelled
symbol_spelled true depth s [] a h = absurd (let e : [] ≡ false ∷ replicate depth true = a.kinds_are in cc)
symbol_spelled true depth s (ATerm room ∷ others) a h = record { next = after_first s room ++ others; is_at = begun_at s depth others (ap tail a.kinds_are) room; text = λ rest. refl }
symbol_spelled true depth s (AVariable ∷ others) a h = record { next = after_first s 0 ++ others; is_at = begun_at s depth others (ap tail a.kinds_are) 0; text = λ rest. refl }
symbol_spelled true depth s (Arguments room ∷ others) a h = absurd (let e : true ∷ kinds others ≡ false ∷ replicate depth true = a.kinds_are in cc)
symbol_spelled false zero s expected a h = absurd (cc)
symbol_spelled false (suc depth) s [] a h = absurd (let e : [] ≡ true ∷ replicate depth true = a.kinds_are in cc)
symbol_spelled false (suc depth) s (ATerm room ∷ others) a h = absurd (let e : false ∷ kinds others ≡ true ∷ replicate depth true = a.kinds_are in cc)
symbol_spelled false (suc depth) s (AVariable ∷ others) a h = absurd (let e : false ∷ kinds others ≡ true ∷ replicate depth true = a.kinds_are in cc)
symbol_spelled false (suc depth) s (Arguments room ∷ others) a h = record {
  next = after_argument s room ++ others;
  is_at = record { kinds_are = kinds-append (after_argument s room) others ∙ ap (λ a. a ++ kinds others) (after_argument_kinds s room) ∙ ap (λ b. argument_kinds s ++ b) (ap tail a.kinds_are) ∙ argued s depth };
  text = λ rest. refl;
}

-- ---- the loop

-- the text so far, and what is expected of the symbols that are left
pub record TermLeft (whole : List ℕ) (symbols : List Symbol) (text : List ℕ) (g : Going) : Type 0 where
  pub expected : List Expected
  pub is_at : IsAt g expected
  pub is : text ++ spelled after text_at expected symbols ≡ whole

pub term_starts : (old : List ℕ) (symbols : List Symbol) → TermLeft (old ++ term_text symbols) symbols old (record { begins = true; depth = 0 })
unfolding term_text
term_starts old symbols = record { expected = ATerm NESTING_LIMIT ∷ []; is_at = at_start; is = refl }

none_spelled : (symbols : List Symbol) → spelled after text_at [] symbols ≡ []
unfolding spelled
none_spelled [] = refl
none_spelled (s ∷ symbols) = refl

no_symbols : (expected : List Expected) → spelled after text_at expected [] ≡ []
unfolding spelled
no_symbols expected = refl

-- at the end of the term, and at that of the symbols
pub term_over : (whole : List ℕ) (symbols : List Symbol) (text : List ℕ) (g : Going) → TermLeft whole symbols text g → is_done g ≡ true → text ≡ whole
term_over whole symbols text g t h =
    sym (append-nil text) ∙ ap (λ a. text ++ a) (sym (none_spelled symbols)) ∙ ap (λ e. text ++ spelled after text_at e symbols) (sym (over g.begins g.depth t.expected t.is_at h)) ∙ t.is

pub term_ends : (whole : List ℕ) (symbols : List Symbol) (text : List ℕ) (g : Going) → TermLeft whole symbols text g → symbols ≡ [] → text ≡ whole
term_ends whole symbols text g t h = sym (append-nil text) ∙ ap (λ a. text ++ a) (sym (no_symbols t.expected)) ∙ ap (λ ss. text ++ spelled after text_at t.expected ss) (sym h) ∙ t.is

pub term_next : (whole : List ℕ) (symbols rest : List Symbol) (s : Symbol) (text new : List ℕ) (g : Going) → TermLeft whole symbols text g → symbols ≡ s ∷ rest → is_done g ≡ false → new ≡ text ++ text_going g s
    → TermLeft whole rest new (next_going g s)
term_next whole symbols rest s text new g t cut h added =
    let p = symbol_spelled g.begins g.depth s t.expected t.is_at h in
    record {
      expected = p.next;
      is_at = p.is_at;
      is =
          ap (λ a. a ++ spelled after text_at p.next rest) added ∙ append_assoc text (text_going g s) (spelled after text_at p.next rest)
          ∙ ap (λ a. text ++ a) (sym (p.text rest)) ∙ ap (λ ss. text ++ spelled after text_at t.expected ss) (sym cut) ∙ t.is;
    }

-- a symbol of a list
pub term_more : (whole : List ℕ) (symbols : List Symbol) (i : ℕ) (d : Symbol) (text new : List ℕ) (g after : Going) → i < length symbols → TermLeft whole (drop i symbols) text g → is_done g ≡ false
    → new ≡ text ++ text_going g (get_or symbols i d) → after ≡ next_going g (get_or symbols i d) → TermLeft whole (drop (i + 1) symbols) new after
term_more whole symbols i d text new g after inside t h added is =
    let cut : drop i symbols ≡ get_or symbols i d ∷ drop (i + 1) symbols = drop-cons symbols i d inside ∙ ap (λ n. get_or symbols i d ∷ drop n symbols) (sym (add-one i)) in
    subst (λ a. TermLeft whole (drop (i + 1) symbols) new a) (sym is) (term_next whole (drop i symbols) (drop (i + 1) symbols) (get_or symbols i d) text new g t cut h added)

closed : (begins : Bool) (n : ℕ) → (if begins then n else pred n) ≤ suc n
closed true n = omega arith
closed false zero = omega arith
closed false (suc n) = omega arith

-- a symbol opens one operator at most
deeper : (g : Going) (s : Symbol) → (next_going g s).depth ≤ suc g.depth
deeper g symbol.Close = closed g.begins g.depth
deeper g (symbol.Open o) = omega arith
deeper g (symbol.Inlined n) = omega arith
deeper g s = omega arith

pub depth_more : (g after : Going) (s : Symbol) (i : ℕ) → after ≡ next_going g s → g.depth ≤ i → after.depth ≤ i + 1
depth_more g after s i is l = subst (λ (a : Going). a.depth ≤ i + 1) (sym is) (omega (arith, deeper g s, l))
