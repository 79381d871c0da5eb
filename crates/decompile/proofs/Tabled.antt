-- The tests of the index of a table, one after the other.
use Rattle.std.proofs.Common.{◌≡◌, ◌∙◌, ℕ, zero, suc, ◌+◌, ◌-◌, ◌*◌, ◌<◌, ◌≤◌, ◌==◌, Bool, true, false, cond, refl, sym, ap, arith, eq-eqb, List, [], ◌∷◌, ◌++◌, length}
use Rattle.std.proofs.lemmas.Bool.{ne_eqb}
use Rattle.std.proofs.lemmas.List.{append-nil}
use Rattle.elf_read_spec.specs.Image.{Image}
use Rattle.code_reach_tables.specs.declared.tables.TableJump.{TableJump}
use Rattle.code_reach_tables.specs.Tables.{target_at, targets_from}
use Rattle.term_core_spec.specs.Term.{open_term, equal}
use Rattle.graph_core_spec.specs.declared.Next.{Next}
use Rattle.graph_core_spec.specs.declared.Next.TheVariants as next
use Rattle.graph_core_spec.specs.Graph.{Node, Cond, Graph, with_nodes}
use Rattle.decompile_spec.specs.State.{table_index}
use Rattle.decompile_spec.specs.InstructionTerms.{number}
use Rattle.decompile_spec.specs.Blocks.{Of, Setting, toward, table_tests, next_test}
use Rattle.decompile.specs.Tables.{after_index, index_node}
use Rattle.decompile.proofs.Asked.{with-with}

-- a table has as many words as its count
pub targets_long : (image : Image) (address count : ℕ) → length (targets_from image address count) ≡ count
unfolding targets_from
targets_long image address zero = refl
targets_long image address (suc count) = ap suc (targets_long image (address + 4) count)

pub some_targets : (image : Image) (address count : ℕ) → 0 < count → (target : ℕ) × (rest : List ℕ) × (targets_from image address count ≡ target ∷ rest)
unfolding targets_from
some_targets image address zero some = absurd (omega (arith, some))
some_targets image address (suc count) some = (target_at image address, targets_from image (address + 4) count, refl)

pub no_targets : (image : Image) (address count : ℕ) → count ≡ 0 → targets_from image address count ≡ []
unfolding targets_from
no_targets image address zero none = refl
no_targets image address (suc count) none = absurd (omega (arith, none))

module _ (f : Setting) (image : Image) (address : ℕ) (jump : TableJump) where
  -- the tests from an index on
  abbrev pub from_index : (n : ℕ) → List Node
  from_index n = table_tests f address n (targets_from image (jump.first + 4 * n) (jump.count - n))

  -- where so many tests are left after one
  onward : (n left : ℕ) → n + 1 + left ≡ jump.count → next_test f address (n + 1) (targets_from image (jump.first + 4 * n + 4) left) ≡ after_index f address jump n
  unfolding targets_from
  onward n zero is = rw (eq-eqb (n + 1) jump.count (omega (arith, is))) refl
  onward n (suc left) is = rw (ne_eqb (n + 1) jump.count (λ same. omega (arith, is, same))) refl

  test_first : (n left : ℕ) → n + 1 + left ≡ jump.count → table_tests f address n (targets_from image (jump.first + 4 * n) (suc left))
      ≡ index_node f image address jump n ∷ table_tests f address (n + 1) (targets_from image (jump.first + 4 * (n + 1)) left)
  unfolding table_tests targets_from
  test_first n left is =
      ap (λ (to : Next). Cond (equal (open_term table_index) (number n)) (toward f (target_at image (jump.first + 4 * n))) to
      ∷ table_tests f address (n + 1) (targets_from image (jump.first + 4 * n + 4) left)) (onward n left is)
      ∙ ap (λ (a : ℕ). index_node f image address jump n ∷ table_tests f address (n + 1) (targets_from image a left))
      {x = jump.first + 4 * n + 4} {y = jump.first + 4 * (n + 1)} (omega arith)

  pub index_more : (n : ℕ) → n < jump.count → from_index n ≡ index_node f image address jump n ∷ from_index (n + 1)
  index_more n below =
      ap (λ (k : ℕ). table_tests f address n (targets_from image (jump.first + 4 * n) k)) {x = jump.count - n} {y = suc (jump.count - (n + 1))} (omega (arith, below))
      ∙ test_first n (jump.count - (n + 1)) (omega (arith, below))

  -- one test more is added
  pub index_added : (n : ℕ) (old new expected : Graph) → n < jump.count → new ≡ with_nodes old (index_node f image address jump n ∷ [])
      → with_nodes old (from_index n) ≡ expected → with_nodes new (from_index (n + 1)) ≡ expected
  index_added n old new expected below so whole =
      ap (λ (g : Graph). with_nodes g (from_index (n + 1))) so
      ∙ with-with old (index_node f image address jump n ∷ []) (from_index (n + 1))
      ∙ ap (with_nodes old) (sym (index_more n below))
      ∙ whole

  -- all are added
  pub all_added : (n : ℕ) (new expected : Graph) → jump.count ≤ n → with_nodes new (from_index n) ≡ expected → new ≡ expected
  unfolding table_tests targets_from
  all_added n new expected past whole =
      sym (ap make (append-nil new.nodes))
      ∙ ap (λ (k : ℕ). with_nodes new (table_tests f address n (targets_from image (jump.first + 4 * n) k))) {x = 0} {y = jump.count - n} (omega (arith, past))
      ∙ whole
    where
      make : List Node → Graph
      make nodes = record { nodes = nodes; entry = new.entry }

  pub from_first : from_index 0 ≡ table_tests f address 0 (targets_from image jump.first jump.count)
  from_first =
      ap (λ (a : ℕ). table_tests f address 0 (targets_from image a (jump.count - 0))) {x = jump.first + 4 * 0} {y = jump.first} (omega arith)
      ∙ ap (λ (k : ℕ). table_tests f address 0 (targets_from image jump.first k)) {x = jump.count - 0} {y = jump.count} (omega arith)
