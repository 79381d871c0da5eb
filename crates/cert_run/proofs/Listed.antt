-- The listed functions of pairs, as certificates speak of them, are those of what is made.
use Rattle.std.proofs.Common.{◌≡◌, ◌∙◌, ℕ, zero, suc, List, [], ◌∷◌, All, length, get_or, map, Some, refl, sym, ap, ap₂, arith}
use Rattle.std.specs.Prelude.{slice_get}
use Rattle.std.proofs.Math.Path.{fun_ext}
use Rattle.memory_spec.specs.Runs.{Run}
use Rattle.elf_read_spec.specs.Image.{Image}
use Rattle.elf_read_spec.specs.Runs.{AreRuns}
use Rattle.graph_core_spec.specs.Graph.{Graph, Graphs}
use Rattle.decompile_spec.specs.Blocks.{NodeName}
use Rattle.decompile_laws.specs.Layout.{numbers_by}
use Rattle.decompile.specs.Answer.{first_in, number_in}
use Rattle.c_types_spec.specs.Core.{Typed}
use Rattle.pair_setup_spec.specs.Outcome as outcome
use Rattle.pair_setup_spec.specs.Outcome.{IsPaired, Pairs}
use Rattle.agreement_laws.specs.EntryFrame.{Pair}
use Rattle.validity_laws.specs.CheckStatements.{listed_of}
use Rattle.cert_run_spec.specs.Files.{AreFunctionsOf, AreListed, AreSides, CodeSide, firsts_at, firsts_of, no_side, sides_of}
use Rattle.pair_setup.specs.Graphs.{AreCode, IsCodeBy}
use Rattle.cert_run.specs.Sides.{function_in, functions_in, numbering_by, pair_with}
use Rattle.cert_run.proofs.Named.{has_body}
use Rattle.cert_run.proofs.Whole.{sound_at}

-- ---- graphs with their first nodes

abbrev side_with : Graph → (firsts : List (ℕ × ℕ)) → CodeSide
side_with graph firsts = record { graph = graph; firsts = firsts }

sides_from : Graphs → (firsts : List (List (ℕ × ℕ))) → List CodeSide
sides_from [] firsts = []
sides_from (graph ∷ graphs) [] = []
sides_from (graph ∷ graphs) (first ∷ firsts) = side_with graph first ∷ sides_from graphs firsts

graphs_from : (graphs : Graphs) (firsts : List (List (ℕ × ℕ))) → length graphs ≡ length firsts
    → map (λ (side : CodeSide). side.graph) (sides_from graphs firsts) ≡ graphs
unfolding sides_from
graphs_from [] firsts e = refl
graphs_from (graph ∷ graphs) [] e = absurd (omega (arith, e))
graphs_from (graph ∷ graphs) (first ∷ firsts) e = ap (λ (l : Graphs). graph ∷ l) (graphs_from graphs firsts (omega (arith, e)))

firsts_from : (graphs : Graphs) (firsts : List (List (ℕ × ℕ))) (n : ℕ) → length graphs ≡ length firsts
    → (get_or (sides_from graphs firsts) n no_side).firsts ≡ get_or firsts n []
unfolding sides_from
firsts_from [] [] n e = refl
firsts_from [] (first ∷ firsts) n e = absurd (omega (arith, e))
firsts_from (graph ∷ graphs) [] n e = absurd (omega (arith, e))
firsts_from (graph ∷ graphs) (first ∷ firsts) zero e = refl
firsts_from (graph ∷ graphs) (first ∷ firsts) (suc n) e = firsts_from graphs firsts n (omega (arith, e))

same_firsts : (graphs : Graphs) (firsts : List (List (ℕ × ℕ))) → length graphs ≡ length firsts → firsts_of (sides_from graphs firsts) ≡ firsts
unfolding sides_from
same_firsts [] [] e = refl
same_firsts [] (first ∷ firsts) e = absurd (omega (arith, e))
same_firsts (graph ∷ graphs) [] e = absurd (omega (arith, e))
same_firsts (graph ∷ graphs) (first ∷ firsts) e = ap (λ (l : List (List (ℕ × ℕ))). first ∷ l) (same_firsts graphs firsts (omega (arith, e)))

sides_are : (image : Image) (entries left : List ℕ) (graphs : Graphs) (firsts : List (List (ℕ × ℕ))) → length graphs ≡ length left → length firsts ≡ length left
    → ((k entry : ℕ) (graph : Graph) → slice_get left k ≡ Some entry → slice_get graphs k ≡ Some graph → IsCodeBy image entries entry graph (get_or firsts k []))
    → AreSides image entries left (sides_from graphs firsts)
unfolding AreSides sides_from
sides_are image entries [] [] firsts a b each = tt
sides_are image entries [] (graph ∷ graphs) firsts a b each = absurd (omega (arith, a))
sides_are image entries (entry ∷ left) [] firsts a b each = absurd (omega (arith, a))
sides_are image entries (entry ∷ left) (graph ∷ graphs) [] a b each = absurd (omega (arith, b))
sides_are image entries (entry ∷ left) (graph ∷ graphs) (first ∷ firsts) a b each = (
  (let is = each 0 entry graph refl refl in record { graph_is = is.graph_is; firsts_are = is.firsts_are }),
  sides_are image entries left graphs firsts (omega (arith, a)) (omega (arith, b)) (λ k. each (suc k)),
)

-- ---- both sides

same_sides : (image : Image) (unit : Typed) (runs : List Run) (entries : List ℕ) (graphs : Graphs) (firsts : List (List (ℕ × ℕ))) → length graphs ≡ length firsts
    → sides_of image unit runs entries (sides_from graphs firsts) ≡ pair_with image unit (numbering_by entries runs firsts) graphs
same_sides image unit runs entries graphs firsts e =
    let sides : List CodeSide = sides_from graphs firsts in
    let made : (ℕ → NodeName → ℕ) → Graphs → Pair =
    λ numbers all. pair_with image unit (record { runs = runs; graph_number = number_in entries; node_number = numbers }) all in
    let before : ℕ → NodeName → ℕ = λ entry. numbers_by (first_in (firsts_at entries sides entry)) in
    let numbers : before ≡ (λ (entry : ℕ). numbers_by (first_in (get_or firsts (number_in entries entry) []))) =
    fun_ext (λ entry. ap (λ (l : List (ℕ × ℕ)). numbers_by (first_in l)) (firsts_from graphs firsts (number_in entries entry) e)) in
    ap (made before) (graphs_from graphs firsts e) ∙ ap (λ (n : ℕ → NodeName → ℕ). made n graphs) numbers

-- ---- functions

functions_are : (image : Image) (unit : Typed) (functions : List outcome.Function) → All (λ (f : outcome.Function). outcome.HasNoFault image unit f.name) functions
    → AreFunctionsOf unit functions (map (function_in unit) functions)
unfolding AreFunctionsOf
functions_are image unit [] sound = tt
functions_are image unit (f ∷ functions) sound =
    let first : outcome.HasNoFault image unit f.name = sound 0 f (omega arith) in (
      record { entry_is = refl; stack_is = refl; body_is = (has_body unit f first.names.bodies).body_is },
      functions_are image unit functions (λ k d h. sound (suc k) d (omega (arith, h))),
    )

module _ (image : Image) (unit : Typed) (list : List (List ℕ)) (pairs : Pairs) (paired : IsPaired image unit list pairs)
    (runs : List Run) (graphs : Graphs) (are_runs : AreRuns image runs) (code : AreCode image pairs.entries graphs) where
  pub are_listed : AreListed image unit pairs (map (listed_of (pair_with image unit (numbering_by pairs.entries runs code.firsts) graphs) code.firsts) (functions_in unit pairs))
  are_listed = record {
    runs = runs;
    runs_are = are_runs;
    sides = sides_from graphs code.firsts;
    sides_are = sides_are image pairs.entries pairs.entries graphs code.firsts code.graph_count code.first_count code.each;
    functions = functions_in unit pairs;
    functions_are = functions_are image unit pairs.functions (sound_at image unit list pairs paired);
    listed_are =
        ap₂ (λ (p : Pair) (firsts : List (List (ℕ × ℕ))). map (listed_of p firsts) (functions_in unit pairs))
        (sym (same_sides image unit runs pairs.entries graphs code.firsts (code.graph_count ∙ sym code.first_count)))
        (sym (same_firsts graphs code.firsts (code.graph_count ∙ sym code.first_count)));
  }
