-- The steps of a loop that reads the items of a derivation.
use Rattle.std.proofs.Common.{◌≡◌, ℕ, zero, suc, ◌<◌, Bool, List, [], ◌∷◌, ◌++◌, length, Ok, Err, refl, ap, sym, ◌∙◌, append_assoc, append-nil, arith, length-append}
use Rattle.exact_read.specs.Reading.{Outcome}
use Rattle.exact_read.specs.Grammar.{bind}
use Rattle.exact_read.proofs.Loops.{bind-bind, bind-same}
use Rattle.cert_text_laws.specs.Readers.{Reader, Reads, given, refused, read_at_most, read_items}
use Rattle.cert_text_laws.specs.Going.{ItemsLeft}
use Rattle.cert_text_laws.proofs.Bytes.{simply-exact}
use Rattle.cert_text_laws.proofs.Items.{ItemText, Productions}

bind-given : {X : Type 0} (o : Outcome ℕ (Unit {0}) X) → o ≡ bind o (λ x rest. given x rest)
bind-given (Ok pair) = refl
bind-given (Err fault) = refl

module _ {N I : Type 0} (item : N → Reader I) (after : N → I → List N) where
  pub items-start : (expected : List N) (rest : List ℕ) → ItemsLeft item after (read_items item after expected rest) [] expected rest
  items-start expected rest = record { fuel = suc (length rest); enough = omega arith; is = bind-given (read_at_most item after (suc (length rest)) expected rest) }

  module _ (whole : Outcome ℕ (Unit {0}) (List I)) (before : List I) where
    pub items-step : (n : N) (others : List N) (rest middle : List ℕ) (i : I) → ItemsLeft item after whole before (n ∷ others) rest → item n rest ≡ given i middle → length middle < length rest
        → ItemsLeft item after whole (before ++ i ∷ []) (after n i ++ others) middle
    items-step n others rest middle i left e less = by_fuel left.fuel left.enough left.is
      where
        by_fuel : (fuel : ℕ) → length rest < fuel → whole ≡ bind (read_at_most item after fuel (n ∷ others) rest) (λ items last. given (before ++ items) last) → ItemsLeft item after whole (before ++ i ∷ []) (after n i ++ others) middle
        by_fuel zero l is = absurd (omega arith)
        by_fuel (suc fuel) l is = record {
          fuel = fuel;
          enough = omega arith;
          is = is
              ∙ ap (λ o. bind (bind o (λ j r. bind (read_at_most item after fuel (after n j ++ others) r) (λ js last. given (j ∷ js) last))) (λ items last. given (before ++ items) last)) e
              ∙ bind-bind (read_at_most item after fuel (after n i ++ others) middle) (λ js last. given (i ∷ js) last) (λ items last. given (before ++ items) last)
              ∙ bind-same (read_at_most item after fuel (after n i ++ others) middle) (λ js last. given (before ++ i ∷ js) last) (λ js last. given ((before ++ i ∷ []) ++ js) last)
              (λ js last. ap (λ t. given t last) (sym (append_assoc before (i ∷ []) js)));
        }

    pub items-fault : (n : N) (others : List N) (rest wrong : List ℕ) → ItemsLeft item after whole before (n ∷ others) rest → item n rest ≡ refused wrong → whole ≡ refused wrong
    items-fault n others rest wrong left e = by_fuel left.fuel left.enough left.is
      where
        by_fuel : (fuel : ℕ) → length rest < fuel → whole ≡ bind (read_at_most item after fuel (n ∷ others) rest) (λ items last. given (before ++ items) last) → whole ≡ refused wrong
        by_fuel zero l is = absurd (omega arith)
        by_fuel (suc fuel) l is =
            is ∙ ap (λ o. bind (bind o (λ j r. bind (read_at_most item after fuel (after n j ++ others) r) (λ js last. given (j ∷ js) last))) (λ items last. given (before ++ items) last)) e

    pub items-end : (rest : List ℕ) → ItemsLeft item after whole before [] rest → whole ≡ given before rest
    items-end rest left = left.is ∙ ap (λ t. given t rest) (append-nil before)

  -- an item takes a byte at least
  pub item-shorter : {Fits : N → I → Type 0} {text : N → I → List ℕ} {Later : N → Type 0} {stop : ℕ → Bool} → Productions Fits after text Later stop → ((n : N) → Reads (ItemText Fits text n) stop (item n))
      → (n : N) (rest middle : List ℕ) (i : I) → item n rest ≡ given i middle → length middle < length rest
  item-shorter {text = text} p reads n rest middle i e =
      let t = (simply-exact (reads n).exact).takes rest i middle e in
      let f = p.first n i t.derives.fits in
      let cut : rest ≡ (f.0 ∷ f.1) ++ middle = t.cut ∙ ap (λ a. a ++ middle) (t.derives.is ∙ f.2) in
      omega (arith, ap length cut, length-append (f.0 ∷ f.1) middle)
