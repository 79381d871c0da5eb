-- What is answered of a function whose instructions and runs were read.
use Rattle.std.proofs.Common.{◌≡◌, ℕ, refl, arith, List, All, Some, length, map}
use Rattle.std.specs.Prelude.{Contains}
use Rattle.elf_read_spec.specs.Image.{Image, size_at}
use Rattle.elf_read.specs.declared.parts.Extent.{Extent}
use Rattle.code_reach_spec.specs.Faults.{HasNoFault}
use Rattle.graph_core_spec.specs.Graph.{Graph}
use Rattle.decompile_spec.specs.CodeGraph.{IsCall}
use Rattle.decompile_laws.specs.Layout.{AreItems, laid, LaidAreCodeGraphs}
use Rattle.decompile_laws.specs.Valid.{CodeGraphsAreValid}
use Rattle.decompile.specs.declared.items.Item.{Item}
use Rattle.attempt.specs.declared.refusal.Refusal.{Refusal}
use Rattle.attempt.specs.declared.refusal.Refusal.TheVariants.{Fault, NoMemory}
use Rattle.decompile.specs.declared.error.GraphFault.{GraphFault}
use Rattle.decompile.specs.declared.error.GraphFault.TheVariants.{Code, Unlisted, Large}
use Rattle.decompile.specs.Items.{item_of, AreInstructions}
use Rattle.decompile.specs.Answer.{setting, counting, IsFunctionGraph}
use Rattle.decompile.specs.Callees.{IsListed}
use Rattle.decompile.specs.Counts.{numbered, counted, IsTooMany}
use Rattle.decompile.specs.Errors.{IsGraphError}
use Rattle.decompile_accesses.specs.Runs.{run_of}
use Rattle.decompile.specs.Settings.{HaveExtents}
use Rattle.decompile.proofs.Listed.{all_listed}
use Rattle.decompile.proofs.Whole.{sized, whole, made_counted}

module _ (image : Image) (entry size : ℕ) (entries : List ℕ) (items : List Item) (extents : List Extent) (size_is : size_at image entry ≡ Some size)
    (found : AreInstructions image entry items × All (IsListed image entry size entries) items) (have : HaveExtents image extents) where
  are : HasNoFault image entry size × AreItems image entry size (map (item_of image) items)
  are = sized image entry size items found.0 size_is

  listed : (address callee : ℕ) → IsCall image entry size address callee → Contains entries callee
  listed = all_listed image entry size entries items size_is are.0 are.1 found.1

  module _ (firsts : List (ℕ × ℕ)) (graph : Graph) (numbers : firsts ≡ numbered (counting entry size (length extents)) 1 (map (item_of image) items))
      (made : graph ≡ laid (setting entry size (map run_of extents) entries firsts) (map (item_of image) items)) where
    pub answered : LaidAreCodeGraphs → CodeGraphsAreValid → IsFunctionGraph image entry entries graph firsts
    answered = whole image entry size entries (map (item_of image) items) extents firsts graph are.0 listed are.1 have numbers made size_is

    pub answered_size : length graph.nodes ≡ counted (counting entry size (length extents)) 1 (map (item_of image) items)
    answered_size = made_counted image entry size entries (map (item_of image) items) extents firsts graph are.0 listed are.1 have numbers made

  pub too_many : LaidAreCodeGraphs → CodeGraphsAreValid → (maximum : ℕ) (error : Refusal GraphFault) → IsTooMany (counting entry size (length extents)) maximum (map (item_of image) items) error
      → IsGraphError image entry entries maximum error
  too_many layout valid maximum (Fault (Code fault)) is = absurd is
  too_many layout valid maximum (Fault (Unlisted address callee)) is = absurd is
  too_many layout valid maximum NoMemory is = tt
  too_many layout valid maximum (Fault (Large count)) is = record {
    graph = laid (setting entry size (map run_of extents) entries firsts) (map (item_of image) items);
    firsts = firsts;
    graph_is = answered firsts _ refl refl layout valid;
    nodes = omega (arith, is.1, answered_size firsts (laid (setting entry size (map run_of extents) entries firsts) (map (item_of image) items)) refl refl);
    above = is.0;
  }
    where
      firsts : List (ℕ × ℕ)
      firsts = numbered (counting entry size (length extents)) 1 (map (item_of image) items)
