use Rattle.std.proofs.Common.{◌≡◌, ◌∙◌, ℕ, List, [], ◌∷◌, length, Some, None, refl, sym, ap, arith}
use Rattle.std.specs.Prelude.{slice_get}
use Rattle.std.proofs.lemmas.List.{length-append}
use Rattle.std.proofs.lemmas.Option.{slice_get_read}
use Rattle.sim_rules_terms.specs.declared.convention.Convention.{Convention}
use Rattle.cert_run.proofs.Listing.{one_convention}
use Rattle.cert_run.proofs.sides.add_conventions.Goals as goal

pub loop-index-init : goal.loop-index-init
loop-index-init c = record {
  count = ap (λ (l : List Convention). length l) c.requires;
  within = omega arith;
  each = λ q functions entries k g x there at.
      let bad : None ≡ Some x = ap (λ (l : List Convention). slice_get l k) (sym c.requires) ∙ at in
      absurd (cc);
}

pub loop-index-preserved : goal.loop-index-preserved
loop-index-preserved c =
    let n : ℕ = c.loop-index.index in
    let old : List Convention = c.loop-index.conventions.items in
    let next : Convention = c.in-Ok-attempt.field-0 in
    let pushed = c.in-Ok-attempt-2.ensures.items in
    let long = ap (λ (l : List Convention). length l) pushed ∙ length-append old (next ∷ []) in
    record {
      count = omega (arith, long, c.loop-index.invariant.count);
      within = omega (arith, c.loop-index-test.true);
      each = λ q functions entries k g x there at.
          one_convention q functions old next n c.loop-index.invariant.count (c.loop-index.invariant.each q functions entries)
          (λ f here. c.in-Ok-attempt.ensures q f (entries.each n f c.index-entries-index.result here (slice_get_read c.args.entries.now _ n _ refl c.loop-index-test.true c.index-entries-index.is)))
          k g x there (ap (λ (l : List Convention). slice_get l k) (sym pushed) ∙ at);
    }

pub returns-clause-are : goal.returns-clause-are
returns-clause-are c = λ q functions entries. record {
  count = omega (arith, entries.count, c.loop-index.invariant.count, c.loop-index.invariant.within, c.loop-index-test.false);
  each = c.loop-index.invariant.each q functions entries;
}

pub returns-clause-count : goal.returns-clause-count
returns-clause-count c = omega (arith, c.loop-index.invariant.count, c.loop-index.invariant.within, c.loop-index-test.false)
