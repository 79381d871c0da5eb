use Rattle.std.proofs.Common.{◌≡◌, ◌∙◌, ℕ, List, [], ◌∷◌, length, Some, None, refl, sym, ap, arith}
use Rattle.std.specs.Prelude.{slice_get}
use Rattle.std.proofs.lemmas.List.{length-append, length-map}
use Rattle.std.proofs.lemmas.Option.{slice_get_read}
use Rattle.validity_laws.specs.CheckStatements.{listed_of}
use Rattle.cert_check_frames.specs.declared.listed.Listed.{Listed as CodeListed}
use Rattle.cert_check_frames.proofs.Framed.{listed_next}
use Rattle.cert_check_frames.proofs.listing.list.Goals as goal

pub loop-index-init : goal.loop-index-init
loop-index-init c = record {
  count = ap (λ (l : List CodeListed). length l) c.new-all.ensures.items;
  within = omega arith;
  each = λ q firsts functions entries conventions graphs sites k code f there at.
      let bad : None ≡ Some code = ap (λ (l : List CodeListed). slice_get l k) (sym c.new-all.ensures.items) ∙ there in
      absurd (cc);
}

pub loop-index-preserved : goal.loop-index-preserved
loop-index-preserved c =
    let n : ℕ = c.loop-index.index in
    let old : List CodeListed = c.loop-index.all.items in
    let next : CodeListed = c.function-function.result in
    let pushed = c.in-Ok-attempt.ensures.items in
    let long = ap (λ (l : List CodeListed). length l) pushed ∙ length-append old (next ∷ []) in
    record {
      count = omega (arith, long, c.loop-index.invariant.count);
      within = omega (arith, c.loop-index-test.true);
      each = λ q firsts functions entries conventions graphs sites k code f there at.
          listed_next q firsts functions old next (c.loop-index.invariant.each q firsts functions entries conventions graphs sites) n c.loop-index.invariant.count
          (λ g here. c.function-function.ensures q firsts g
          (entries.each n g c.index-entries-index.result here (slice_get_read c.args.entries.now _ n _ refl c.loop-index-test.true c.index-entries-index.is))
          (conventions.each n g c.index-conventions-index.result here (slice_get_read c.args.conventions.now _ n _ c.requires c.loop-index-test.true c.index-conventions-index.is))
          graphs sites)
          k code f (ap (λ (l : List CodeListed). slice_get l k) (sym pushed) ∙ there) at;
    }

pub returns : goal.returns
returns c = λ q firsts functions entries conventions graphs sites.
    let long = length-map functions (listed_of q firsts) in
    record {
      count = omega (arith, long, entries.count, c.loop-index.invariant.count, c.loop-index.invariant.within, c.loop-index-test.false);
      each = c.loop-index.invariant.each q firsts functions entries conventions graphs sites;
    }
