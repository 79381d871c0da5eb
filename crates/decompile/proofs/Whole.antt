-- The answer of the program is the graph of the function.
use Rattle.std.proofs.Common.{◌≡◌, ◌∙◌, ℕ, zero, suc, ◌+◌, ◌-◌, ◌^◌, ◌<◌, ◌≤◌, refl, sym, ap, subst, arith, List, [], ◌∷◌, All, length, map, Some}
use Rattle.std.specs.Prelude.{Contains, replicate}
use Rattle.std.specs.List.Sorted.{IsStrictlyIncreasing}
use Rattle.std.proofs.lemmas.List.{length-map, length-replicate}
use Rattle.std.proofs.lemmas.Option.{same_Some}
use Rattle.std.proofs.lemmas.List.Elements.{All-head, All-tail}
use Rattle.elf_read_spec.specs.Image.{Image, size_at}
use Rattle.memory_spec.specs.Runs.{Run}
use Rattle.elf_read.specs.declared.parts.Extent.{Extent}
use Rattle.code_reach_spec.specs.Faults.{HasNoFault}
use Rattle.graph_core_spec.specs.Graph.{Graph}
use Rattle.decompile_spec.specs.Blocks.{Setting}
use Rattle.decompile_spec.specs.CodeGraph.{IsCodeGraph, IsCall}
use Rattle.decompile_laws.proofs.Reached.{code_there}
use Rattle.decompile_laws.specs.Layout.{Item, laid, AreItems, AreNumbered, LaidAreCodeGraphs}
use Rattle.decompile_laws.specs.Valid.{CodeGraphsAreValid}
use Rattle.decompile.specs.declared.items.Item.{Item as CodeItem}
use Rattle.decompile.specs.Items.{item_of, AreInstructions}
use Rattle.decompile.specs.Answer.{first_in, setting, counting, IsFunctionGraph}
use Rattle.decompile.specs.Counts.{numbered, counted}
use Rattle.decompile_accesses.specs.Runs.{run_of, blanked}
use Rattle.decompile.specs.Settings.{HaveExtents}
use Rattle.decompile.proofs.Blanks.{same_laid}
use Rattle.decompile.proofs.Counted.{laid_counted}
use Rattle.decompile.proofs.Rising.{one_list}
use Rattle.decompile.proofs.Numbered.{key, same_keys, keys-numbered, are_numbered, are_first_nodes}

-- ---- the instructions that were read

pub rising_items : (image : Image) (items : List CodeItem) → IsStrictlyIncreasing (map (λ (item : Item). item.address) (map (item_of image) items)) → IsStrictlyIncreasing (map (λ (item : CodeItem). item.address) items)
rising_items image items up = subst (λ (xs : List ℕ). IsStrictlyIncreasing xs) (same_keys image items) up

pub sized : (image : Image) (entry size : ℕ) (items : List CodeItem) → AreInstructions image entry items → size_at image entry ≡ Some size
    → HasNoFault image entry size × AreItems image entry size (map (item_of image) items)
sized image entry size items are size_is =
    let same : are.size ≡ size = same_Some are.size size (sym are.size_is ∙ size_is) in
    (subst (HasNoFault image entry) same are.sound, subst (λ (n : ℕ). AreItems image entry n (map (item_of image) items)) same are.are_items)

pub in_space : (image : Image) (entry size : ℕ) → HasNoFault image entry size → entry + size ≤ 2 ^ 32
in_space image entry size sound = (code_there image entry size sound).range_fixed.in_space

-- ---- the runs end at 2^32 at the latest

run_small : (extents : List Extent) (runs : List Run) → map run_of extents ≡ map blanked runs → All (λ e. e.first ≤ e.last) extents → All (λ e. e.last < 2 ^ 32) extents
    → (run : Run) → Contains runs run → run.start + length run.bytes ≤ 2 ^ 32
run_small extents [] same ordered below run (k, within, is) = absurd (omega arith)
run_small [] (r ∷ runs) same ordered below run among = absurd cc
run_small (e ∷ extents) (r ∷ runs) same ordered below run (zero, within, is) =
    let one : run_of e ≡ blanked r = cc in
    let start : e.first ≡ r.start = ap (λ (x : Run). x.start) one in
    let long : length (replicate (e.last + 1 - e.first) 0) ≡ length (replicate (length r.bytes) 0) = ap (λ (x : Run). length x.bytes) one in
    let count : e.last + 1 - e.first ≡ length r.bytes = sym (length-replicate (e.last + 1 - e.first) 0) ∙ long ∙ length-replicate (length r.bytes) 0 in
    let order : e.first ≤ e.last = All-head (λ (x : Extent). x.first ≤ x.last) e extents ordered in
    let small : e.last < 2 ^ 32 = All-head (λ (x : Extent). x.last < 2 ^ 32) e extents below in
    let here : r.start + length r.bytes ≤ 2 ^ 32 = omega arith in
    subst (λ (x : Run). x.start + length x.bytes ≤ 2 ^ 32) is here
run_small (e ∷ extents) (r ∷ runs) same ordered below run (suc k, within, is) =
    let rest : map run_of extents ≡ map blanked runs = cc in
    run_small extents runs rest (All-tail (λ (x : Extent). x.first ≤ x.last) e extents ordered) (All-tail (λ (x : Extent). x.last < 2 ^ 32) e extents below) run (k, omega arith, is)

-- ---- the whole

module _ (image : Image) (entry size : ℕ) (entries : List ℕ) (items : List Item) (extents : List Extent) (firsts : List (ℕ × ℕ)) (graph : Graph)
    (sound : HasNoFault image entry size) (listed : (address callee : ℕ) → IsCall image entry size address callee → Contains entries callee)
    (are : AreItems image entry size items) (have : HaveExtents image extents)
    (numbers : firsts ≡ numbered (counting entry size (length extents)) 1 items) (made : graph ≡ laid (setting entry size (map run_of extents) entries firsts) items) where
  abbrev own : Setting
  own = setting entry size have.runs entries firsts

  same_count : length extents ≡ length have.runs
  same_count = sym (length-map extents run_of) ∙ ap length have.same ∙ length-map have.runs blanked

  up : IsStrictlyIncreasing (map key firsts)
  up = subst (λ (xs : List ℕ). IsStrictlyIncreasing xs) (sym (ap (map key) numbers ∙ keys-numbered (counting entry size (length extents)) 1 items)) are.rising

  numbers_there : AreNumbered own (first_in firsts) 1 items
  numbers_there =
      are_numbered own firsts up [] 1 items (ap (λ (n : ℕ). numbered (counting entry size n) 1 items) (sym same_count) ∙ sym numbers)

  laid_so : graph ≡ laid own items
  laid_so = made ∙ ap (λ (rs : List Run). laid (setting entry size rs entries firsts) items) have.same ∙ same_laid own items

  is_graph : LaidAreCodeGraphs → IsCodeGraph image own graph
  is_graph layout = subst (IsCodeGraph image own) (sym laid_so) (layout image own (first_in firsts) items have.are_runs are (λ name. refl) numbers_there)

  pub whole : size_at image entry ≡ Some size → LaidAreCodeGraphs → CodeGraphsAreValid → IsFunctionGraph image entry entries graph firsts
  whole size_is layout valid = record {
    size = size;
    size_is = size_is;
    runs = have.runs;
    only_runs = λ others are_too. one_list image others have.runs are_too have.are_runs;
    sound = sound;
    listed = listed;
    graph_is = is_graph layout;
    firsts_are = are_first_nodes image own (counting entry size (length extents)) items firsts are numbers (λ address index. refl);
    valid = valid image own graph sound (run_small extents have.runs have.same have.ordered have.below) (is_graph layout);
  }

  -- it has as many nodes as were counted
  pub made_counted : length graph.nodes ≡ counted (counting entry size (length extents)) 1 items
  made_counted =
      ap (λ (g : Graph). length g.nodes) made
      ∙ laid_counted (setting entry size (map run_of extents) entries firsts) items
      ∙ ap (λ (n : ℕ). counted (counting entry size n) 1 items) (length-map extents run_of)
