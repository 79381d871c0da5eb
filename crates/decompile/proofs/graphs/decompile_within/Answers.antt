use Rattle.std.proofs.Common.{◌≡◌, ◌∙◌, ◌≤◌, ℕ, List, All, Some, length, map, sym, ap, subst, arith, rules}
use Rattle.std.proofs.lemmas.Grind.{common_steps}
use Rattle.std.specs.List.Sorted.{IsStrictlyIncreasing}
use Rattle.elf_read_spec.specs.Image.{size_at}
use Rattle.elf_read.specs.declared.parts.Extent.{Extent}
use Rattle.graph_core.specs.Graphs.{graph_of}
use Rattle.decompile_laws.specs.Layout.{laid}
use Rattle.decompile.specs.declared.items.Item.{Item}
use Rattle.decompile.specs.Items.{item_of}
use Rattle.decompile.specs.Answer.{setting, counting}
use Rattle.decompile.specs.Counts.{numbered, counted, IsTooMany}
use Rattle.memory_spec.specs.Runs.{Run}
use Rattle.std.proofs.lemmas.List.{length-map}
use Rattle.decompile_accesses.specs.Runs.{blanked, run_of}
use Rattle.decompile.proofs.Answered.{answered, answered_size, too_many}
use Rattle.decompile.proofs.Whole.{rising_items, sized, in_space}
use Rattle.decompile.proofs.graphs.decompile_within.Goals as goal

pub first_nodes-requires : goal.first_nodes-requires
first_nodes-requires c =
    subst (λ (items : List Item). IsStrictlyIncreasing (map (λ (item : Item). item.address) items)) (sym c.as_slice-2.ensures.value)
    (rising_items c.args.image.now c.in_ok-items.items.items c.in_ok-items.ensures.found.0.are_items.rising)

pub invariant_of-function : goal.invariant_of-function
invariant_of-function c =
    let size_is : size_at c.args.image.now c.args.entry ≡ Some c.unwrap-size.result = search rules in
    record {
      in_space = in_space c.args.image.now c.args.entry c.unwrap-size.result
          (sized c.args.image.now c.args.entry c.unwrap-size.result c.in_ok-items.items.items c.in_ok-items.ensures.found.0 size_is).0;
      ordered = subst (λ (runs : List Extent). All (λ (run : Extent). run.first ≤ run.last) runs) (sym c.as_slice-3.ensures.value) c.in_ok-runs.ensures.ordered;
      rising = c.requires.rising;
    }

pub returns-in_err-items-clause-error : goal.returns-in_err-items-clause-error
returns-in_err-items-clause-error c =
    let fact = c.in_err-items.ensures.fault c.args.maximum in
    first_of (search (rules, fact), grind (arith, common_steps, fact))

pub returns-in_err-count_nodes-clause-error : goal.returns-in_err-count_nodes-clause-error
returns-in_err-count_nodes-clause-error c =
    let size_is : size_at c.args.image.now c.args.entry ≡ Some c.unwrap-size.result = search rules in
    let count : c.len-extents.result ≡ length c.in_ok-runs.runs.items = omega arith in
    let many : IsTooMany (counting c.args.entry c.unwrap-size.result (length c.in_ok-runs.runs.items)) c.args.maximum (map (item_of c.args.image.now) c.in_ok-items.items.items) c.in_err-count_nodes.field-0.0 =
    subst (λ (is : List Item). IsTooMany (counting c.args.entry c.unwrap-size.result (length c.in_ok-runs.runs.items)) c.args.maximum (map (item_of c.args.image.now) is) c.in_err-count_nodes.field-0.0) c.as_slice.ensures.value
    (subst (λ (n : ℕ). IsTooMany (counting c.args.entry c.unwrap-size.result n) c.args.maximum (map (item_of c.args.image.now) c.as_slice.result.now) c.in_err-count_nodes.field-0.0) count (c.in_err-count_nodes.ensures.large c.args.image.now)) in
    let fact = too_many c.args.image.now c.args.entry c.unwrap-size.result c.args.entries.now c.in_ok-items.items.items c.in_ok-runs.runs.items size_is c.in_ok-items.ensures.found
    c.in_ok-runs.ensures c.laid_are_code_graphs.ensures c.code_graphs_are_valid.ensures c.args.maximum c.in_err-count_nodes.field-0.0 many in
    first_of (search (rules, fact), grind (arith, common_steps, fact))

pub returns-clause-graph : goal.returns-clause-graph
returns-clause-graph c =
    let size_is : size_at c.args.image.now c.args.entry ≡ Some c.unwrap-size.result = search rules in
    let count : c.len-extents.result ≡ length c.in_ok-runs.runs.items = omega arith in
    let numbers : c.in_ok-firsts.firsts.entries ≡ numbered (counting c.args.entry c.unwrap-size.result (length c.in_ok-runs.runs.items)) 1 (map (item_of c.args.image.now) c.in_ok-items.items.items) =
    c.in_ok-firsts.ensures c.args.image.now ∙ ap (λ (n : ℕ). numbered (counting c.args.entry c.unwrap-size.result n) 1 (map (item_of c.args.image.now) c.as_slice-2.result.now)) count
    ∙ ap (λ (items : List Item). numbered (counting c.args.entry c.unwrap-size.result (length c.in_ok-runs.runs.items)) 1 (map (item_of c.args.image.now) items)) c.as_slice-2.ensures.value in
    let made : graph_of c.in_ok-graph.graph
    ≡ laid (setting c.args.entry c.unwrap-size.result (map run_of c.in_ok-runs.runs.items) c.args.entries.now c.in_ok-firsts.firsts.entries) (map (item_of c.args.image.now) c.in_ok-items.items.items) =
    c.in_ok-graph.ensures
    ∙ ap (λ (runs : List Extent). laid (setting c.args.entry c.unwrap-size.result (map run_of runs) c.args.entries.now c.in_ok-firsts.firsts.entries) (map (item_of c.args.image.now) c.as_slice-4.result.now)) c.as_slice-3.ensures.value
    ∙ ap (λ (items : List Item). laid (setting c.args.entry c.unwrap-size.result (map run_of c.in_ok-runs.runs.items) c.args.entries.now c.in_ok-firsts.firsts.entries) (map (item_of c.args.image.now) items)) c.as_slice-4.ensures.value in
    answered c.args.image.now c.args.entry c.unwrap-size.result c.args.entries.now c.in_ok-items.items.items c.in_ok-runs.runs.items size_is c.in_ok-items.ensures.found
    c.in_ok-runs.ensures c.in_ok-firsts.firsts.entries (graph_of c.in_ok-graph.graph) numbers made c.laid_are_code_graphs.ensures c.code_graphs_are_valid.ensures

pub returns-clause-within : goal.returns-clause-within
returns-clause-within c =
    let size_is : size_at c.args.image.now c.args.entry ≡ Some c.unwrap-size.result = search rules in
    let count : c.len-extents.result ≡ length c.in_ok-runs.runs.items = omega arith in
    let count_too : c.len-extents.result ≡ length c.in_ok-runs.runs.items = omega arith in
    let numbers : c.in_ok-firsts.firsts.entries ≡ numbered (counting c.args.entry c.unwrap-size.result (length c.in_ok-runs.runs.items)) 1 (map (item_of c.args.image.now) c.in_ok-items.items.items) =
    c.in_ok-firsts.ensures c.args.image.now ∙ ap (λ (n : ℕ). numbered (counting c.args.entry c.unwrap-size.result n) 1 (map (item_of c.args.image.now) c.as_slice-2.result.now)) count_too
    ∙ ap (λ (items : List Item). numbered (counting c.args.entry c.unwrap-size.result (length c.in_ok-runs.runs.items)) 1 (map (item_of c.args.image.now) items)) c.as_slice-2.ensures.value in
    let made : graph_of c.in_ok-graph.graph
    ≡ laid (setting c.args.entry c.unwrap-size.result (map run_of c.in_ok-runs.runs.items) c.args.entries.now c.in_ok-firsts.firsts.entries) (map (item_of c.args.image.now) c.in_ok-items.items.items) =
    c.in_ok-graph.ensures
    ∙ ap (λ (runs : List Extent). laid (setting c.args.entry c.unwrap-size.result (map run_of runs) c.args.entries.now c.in_ok-firsts.firsts.entries) (map (item_of c.args.image.now) c.as_slice-4.result.now)) c.as_slice-3.ensures.value
    ∙ ap (λ (items : List Item). laid (setting c.args.entry c.unwrap-size.result (map run_of c.in_ok-runs.runs.items) c.args.entries.now c.in_ok-firsts.firsts.entries) (map (item_of c.args.image.now) items)) c.as_slice-4.ensures.value in
    let total : c.in_ok-count_nodes.field-0 ≡ counted (counting c.args.entry c.unwrap-size.result (length c.in_ok-runs.runs.items)) 1 (map (item_of c.args.image.now) c.in_ok-items.items.items) =
    c.in_ok-count_nodes.ensures.count c.args.image.now ∙ ap (λ (n : ℕ). counted (counting c.args.entry c.unwrap-size.result n) 1 (map (item_of c.args.image.now) c.as_slice.result.now)) count
    ∙ ap (λ (items : List Item). counted (counting c.args.entry c.unwrap-size.result (length c.in_ok-runs.runs.items)) 1 (map (item_of c.args.image.now) items)) c.as_slice.ensures.value in
    let size = answered_size c.args.image.now c.args.entry c.unwrap-size.result c.args.entries.now c.in_ok-items.items.items c.in_ok-runs.runs.items size_is c.in_ok-items.ensures.found
    c.in_ok-runs.ensures c.in_ok-firsts.firsts.entries (graph_of c.in_ok-graph.graph) numbers made in
    omega (arith, size, total, c.in_ok-count_nodes.ensures.within)

pub returns-clause-firsts : goal.returns-clause-firsts
returns-clause-firsts c =
    let size_is : size_at c.args.image.now c.args.entry ≡ Some c.unwrap-size.result = search rules in
    let count : c.len-extents.result ≡ length c.in_ok-runs.runs.items = omega arith in
    let numbers : c.in_ok-firsts.firsts.entries ≡ numbered (counting c.args.entry c.unwrap-size.result (length c.in_ok-runs.runs.items)) 1 (map (item_of c.args.image.now) c.in_ok-items.items.items) =
    c.in_ok-firsts.ensures c.args.image.now ∙ ap (λ (n : ℕ). numbered (counting c.args.entry c.unwrap-size.result n) 1 (map (item_of c.args.image.now) c.as_slice-2.result.now)) count
    ∙ ap (λ (items : List Item). numbered (counting c.args.entry c.unwrap-size.result (length c.in_ok-runs.runs.items)) 1 (map (item_of c.args.image.now) items)) c.as_slice-2.ensures.value in
    let have = c.in_ok-runs.ensures in
    let long : length c.in_ok-runs.runs.items ≡ length have.runs =
    sym (length-map c.in_ok-runs.runs.items run_of) ∙ (ap (λ (runs : List Run). length runs) have.same ∙ length-map have.runs blanked) in
    record {
      size = c.unwrap-size.result;
      size_is = size_is;
      runs = have.runs;
      runs_are = have.are_runs;
      items = map (item_of c.args.image.now) c.in_ok-items.items.items;
      items_are = (sized c.args.image.now c.args.entry c.unwrap-size.result c.in_ok-items.items.items c.in_ok-items.ensures.found.0 size_is).1;
      numbers = numbers ∙ ap (λ (n : ℕ). numbered (counting c.args.entry c.unwrap-size.result n) 1 (map (item_of c.args.image.now) c.in_ok-items.items.items)) long;
    }
