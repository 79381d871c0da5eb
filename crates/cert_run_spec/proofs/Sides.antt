-- The graphs of two files are those that the laws of certificates ask for.
use Rattle.std.proofs.Common.{◌≡◌, ◌∙◌, ◌<◌, ℕ, zero, suc, Bool, true, false, List, [], ◌∷◌, length, map, get_or, Some, refl, sym, ap, subst, arith}
use Rattle.std.specs.Prelude.{◌==◌, All, Contains, slice_get, option_map}
use Rattle.std.proofs.lemmas.Bool.{eqb-true, eqb-false}
use Rattle.std.proofs.lemmas.Option.{slice_get-map, slice_get-get_or}
use Rattle.std.proofs.lemmas.List.Elements.{All-nil, All-cons}
use Rattle.memory_spec.specs.Runs.{Run}
use Rattle.elf_read_spec.specs.Image.{Image, size_at}
use Rattle.elf_read_spec.specs.Runs.{AreRuns}
use Rattle.code_reach_spec.specs.Faults.{HasNoFault}
use Rattle.graph_core_spec.specs.Graph.{Graph}
use Rattle.decompile_spec.specs.Blocks.{Setting}
use Rattle.decompile_spec.specs.CodeGraph.{IsCodeGraph}
use Rattle.decompile_laws.specs.Together as together
use Rattle.decompile.specs.Answer.{number_in, setting}
use Rattle.cert_run_spec.specs.Files.{CodeSide, IsSide, AreSides, no_side, numbering_of}
use Rattle.cert_run_spec.proofs.Listing.{one_side}

module _ (image : Image) (entries : List ℕ) where
  -- ---- the side at an entry

  -- the side with the number of the entry
  record HasSide (left : List ℕ) (sides : List CodeSide) (entry : ℕ) : Type 0 where
    below : number_in left entry < length sides
    side : IsSide image entries entry (get_or sides (number_in left entry) no_side)

  number_here : (e entry : ℕ) (left : List ℕ) → (e == entry) ≡ true → number_in (e ∷ left) entry ≡ 0
  number_here e entry left is = rw is refl

  number_later : (e entry : ℕ) (left : List ℕ) → (e == entry) ≡ false → number_in (e ∷ left) entry ≡ suc (number_in left entry)
  number_later e entry left is = rw is (omega arith)

  first_side : (e entry : ℕ) (left : List ℕ) (s : CodeSide) (sides : List CodeSide) → IsSide image entries e s → (e == entry) ≡ true → HasSide (e ∷ left) (s ∷ sides) entry
  first_side e entry left s sides of is =
      let number = number_here e entry left is in
      record {
        below = omega (arith, number);
        side = subst (λ n. IsSide image entries entry (get_or (s ∷ sides) n no_side)) (sym number) (subst (λ n. IsSide image entries n s) (eqb-true e entry is) of);
      }

  later_side : (e entry : ℕ) (left : List ℕ) (s : CodeSide) (sides : List CodeSide) → HasSide left sides entry → (e == entry) ≡ false → HasSide (e ∷ left) (s ∷ sides) entry
  later_side e entry left s sides more is =
      let number = number_later e entry left is in
      record {
        below = omega (arith, number, more.below);
        side = subst (λ n. IsSide image entries entry (get_or (s ∷ sides) n no_side)) (sym number) more.side;
      }

  in_rest : (e entry : ℕ) (left : List ℕ) → Contains (e ∷ left) entry → (e ≡ entry → ⊥) → Contains left entry
  in_rest e entry left (zero, within, same) apart = absurd (apart same)
  in_rest e entry left (suc n, within, same) apart = (n, omega (arith, within), same)

  has_side : (left : List ℕ) (sides : List CodeSide) → AreSides image entries left sides → (entry : ℕ) → Contains left entry → HasSide left sides entry
  unfolding AreSides
  has_side [] sides are entry (k, below, is) = absurd (omega (arith, below))
  has_side (e ∷ left) [] are entry among = absurd are
  has_side (e ∷ left) (s ∷ sides) are entry among = by (e == entry) refl (λ inside. has_side left sides are.1 entry inside)
    where
      by : (b : Bool) → (e == entry) ≡ b → (Contains left entry → HasSide left sides entry) → HasSide (e ∷ left) (s ∷ sides) entry
      by true is rest = first_side e entry left s sides are.0 is
      by false is rest = later_side e entry left s sides (rest (in_rest e entry left among (eqb-false e entry is))) is

  -- ---- the numbering

  module _ (sides : List CodeSide) (are : AreSides image entries entries sides) (runs : List Run) (runs_are : AreRuns image runs) where
    -- a side of an entry has the graph of its function, in the numbering of all
    code_graph : (entry size : ℕ) (side : CodeSide) → Contains entries entry → IsSide image entries entry side → size_at image entry ≡ Some size
        → HasNoFault image entry size × IsCodeGraph image (together.setting (numbering_of runs entries sides) entry size) side.graph
    code_graph entry size side among is sized =
        let found = has_side entries sides are entry among in
        let side_is = one_side image entries entry (get_or sides (number_in entries entry) no_side) side found.side is in
        let other = is.graph_is.size_is in
        let size_is : is.graph_is.size ≡ size = cc in
        let runs_is : is.graph_is.runs ≡ runs = sym (is.graph_is.only_runs runs runs_are) in
        let setting_is : setting entry is.graph_is.size is.graph_is.runs entries side.firsts ≡ together.setting (numbering_of runs entries sides) entry size =
        ap (λ (n : ℕ). setting entry n is.graph_is.runs entries side.firsts) size_is
        ∙ (ap (λ (r : List Run). setting entry size r entries side.firsts) runs_is
        ∙ ap (λ (s : CodeSide). setting entry size runs entries s.firsts) (sym side_is)) in (
          subst (HasNoFault image entry) size_is is.graph_is.sound,
          subst (λ (f : Setting). IsCodeGraph image f side.graph) setting_is is.graph_is.graph_is,
        )

    abbrev IsGraphOfCode : Graph → Type 0
    IsGraphOfCode graph =
        (entry : ℕ) × (size : ℕ) × HasNoFault image entry size × IsCodeGraph image (together.setting (numbering_of runs entries sides) entry size) graph

    all_code : (left : List ℕ) (some : List CodeSide) → ((entry : ℕ) → Contains left entry → Contains entries entry) → AreSides image entries left some
        → All IsGraphOfCode (map (λ (side : CodeSide). side.graph) some)
    unfolding AreSides
    all_code [] [] inside each = All-nil IsGraphOfCode
    all_code [] (s ∷ some) inside each = absurd each
    all_code (e ∷ left) [] inside each = absurd each
    all_code (e ∷ left) (s ∷ some) inside each =
        All-cons IsGraphOfCode s.graph (map (λ (side : CodeSide). side.graph) some) (
          e,
          each.0.graph_is.size,
          (code_graph e each.0.graph_is.size s (inside e (0, omega arith, refl)) each.0 each.0.graph_is.size_is).0,
          (code_graph e each.0.graph_is.size s (inside e (0, omega arith, refl)) each.0 each.0.graph_is.size_is).1,
        )
        (all_code left some (λ entry c. inside entry (suc c.0, omega (arith, c.1), c.2)) each.1)

    pub code_of : All IsGraphOfCode (map (λ (side : CodeSide). side.graph) sides)
    code_of = all_code entries sides (λ entry among. among) are

    -- the graph of a function that is reached
    pub graph_there : (entry size : ℕ) → Contains entries entry → size_at image entry ≡ Some size
        → (graph : Graph) × (slice_get (map (λ (side : CodeSide). side.graph) sides) (number_in entries entry) ≡ Some graph)
        × IsCodeGraph image (together.setting (numbering_of runs entries sides) entry size) graph
    graph_there entry size among sized =
        let found = has_side entries sides are entry among in
        let k = number_in entries entry in
        let side = get_or sides k no_side in (
          side.graph,
          slice_get-map (λ (s : CodeSide). s.graph) sides k ∙ ap (option_map (λ (s : CodeSide). s.graph)) (slice_get-get_or sides k no_side found.below),
          (code_graph entry size side among found.side sized).1,
        )
