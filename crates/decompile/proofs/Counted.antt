-- How many nodes a graph has.
use Rattle.std.proofs.Common.{◌≡◌, ◌∙◌, ℕ, suc, ◌+◌, ◌<◌, ◌≤◌, sym, ap, subst, arith, List, [], ◌∷◌, length}
use Rattle.std.specs.Prelude.{Contains}
use Rattle.std.proofs.lemmas.List.{length-append}
use Rattle.decompile_spec.specs.Blocks.{Setting}
use Rattle.decompile_laws.specs.Layout.{Item, block, blocks, laid}
use Rattle.attempt.specs.declared.refusal.Refusal.{Refusal}
use Rattle.attempt.specs.declared.refusal.Refusal.TheVariants.{Fault}
use Rattle.decompile.specs.declared.error.GraphFault.{GraphFault}
use Rattle.decompile.specs.declared.error.GraphFault.TheVariants.{Large}
use Rattle.decompile.specs.Counts.{further_nodes, counted, IsTooMany}
use Rattle.decompile.specs.declared.numbers.Counting.{Counting}
use Rattle.decompile.proofs.Sizes.{counting_of, block_long}

pub counted_from : (by : Counting) (n : ℕ) (items : List Item) → n ≤ counted by n items
counted_from by n [] = omega arith
counted_from by n (item ∷ rest) = omega (arith, counted_from by (n + (further_nodes by item + 1)) rest)

module _ (f : Setting) where
  blocks_counted : (n : ℕ) (items : List Item) → n + length (blocks f items) ≡ counted (counting_of f) n items
  blocks_counted n [] = omega arith
  blocks_counted n (item ∷ rest) =
      let rest_is = blocks_counted (n + (further_nodes (counting_of f) item + 1)) rest in
      omega (arith, rest_is, block_long f item, length-append (block f item) (blocks f rest))

  pub laid_counted : (items : List Item) → length (laid f items).nodes ≡ counted (counting_of f) 1 items
  laid_counted items = omega (arith, blocks_counted 1 items)

-- ---- one instruction more is counted

module _ (by : Counting) (count further inner next : ℕ) (item : Item) (rest all : List Item) (further_is : further ≡ further_nodes by item) (inner_is : inner ≡ further + 1)
    (next_is : next ≡ count + inner) (whole : counted by count (item ∷ rest) ≡ counted by 1 all) where
  sum : next ≡ count + (further_nodes by item + 1)
  sum = omega arith

  pub one_more : (same : ℕ) → same ≡ next → counted by same rest ≡ counted by 1 all
  one_more same e = ap (λ (n : ℕ). counted by n rest) (e ∙ sum) ∙ whole

  pub one_too_many : (maximum : ℕ) (error : Refusal GraphFault) → error ≡ Fault (Large next) → maximum < next → IsTooMany by maximum all error
  one_too_many maximum error e above =
      subst (λ (x : Refusal GraphFault). IsTooMany by maximum all x) (sym e) (above, omega (arith, counted_from by next rest, one_more next (λ i. next)))

-- the landing node at the entry alone is too many
pub none_fits : (by : Counting) (maximum : ℕ) (all : List Item) (error : Refusal GraphFault) → error ≡ Fault (Large 1) → maximum < 1 → IsTooMany by maximum all error
none_fits by maximum all error e above = subst (λ (x : Refusal GraphFault). IsTooMany by maximum all x) (sym e) (above, counted_from by 1 all)
