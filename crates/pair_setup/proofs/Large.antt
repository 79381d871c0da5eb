-- Graphs that are too large, by entries and by numbers.
use Rattle.std.proofs.Common.{◌≡◌, ◌∙◌, ◌<◌, ◌≤◌, ℕ, suc, List, [], Bool, true, false, length, get_or, sym, ap, subst, inl, arith}
use Rattle.std.specs.Prelude.{◌↔◌, nat_le, IsTrue, Some, None, IsSome, slice_get}
use Rattle.std.proofs.lemmas.Bool.{le-leb, leb-true}
use Rattle.std.proofs.lemmas.List.Elements.{Contains-get_or}
use Rattle.elf_read_spec.specs.Image.{Image}
use Rattle.memory_spec.specs.Runs.{Run}
use Rattle.graph_core_spec.specs.Graph.{Graph}
use Rattle.decompile_spec.specs.CodeGraph.{IsCodeGraph}
use Rattle.decompile_laws.specs.Layout.{numbers_by}
use Rattle.decompile_laws.specs.Valid.{CodeGraphsHaveOneSize}
use Rattle.decompile.specs.Answer.{IsFunctionGraph, number_in, first_in}
use Rattle.decompile.specs.Errors.{IsLarge}
use Rattle.c_types_spec.specs.Core.{Action, Body, Typed}
use Rattle.c_graph_spec.specs.Guards.{Place}
use Rattle.c_graph_spec.specs.Layout.{Setting, size}
use Rattle.c_graph_spec.specs.SourceGraph.{graph_of, setting_of}
use Rattle.pair_setup_calls.specs.Names.{IsNumber}
use Rattle.pair_setup_spec.specs.SourceReach.{body_of}
use Rattle.tv_limits.specs.declared.TheConstants.{MAX_NODES}
use Rattle.pair_setup_spec.specs.Nodes.{IsLargeCode}
use Rattle.pair_setup.specs.Sizes.{AnyLargeCode, AnyLargeSource, IsLargeAt}
use Rattle.pair_setup.specs.Graphs.{AreCodeIf, AreSmallIf}
use Rattle.pair_setup_calls.proofs.Cycles.{NoneBelow, none-all}
use Rattle.pair_setup.proofs.Added.{some-of}
use Rattle.c_graph_laws.proofs.Lengths.{graph_long}

-- ---- code

module _ (image : Image) (entry : ℕ) (entries : List ℕ) where
  -- a graph within the limit: none is above it
  pub not-large : CodeGraphsHaveOneSize → (graph : Graph) (firsts : List (ℕ × ℕ)) → IsFunctionGraph image entry entries graph firsts → length graph.nodes ≤ MAX_NODES
      → IsLargeCode image entry → ⊥
  not-large law graph firsts is within large = omega (arith, same, within, large.above)
    where
      size_same : large.size ≡ is.size
      size_same = let both : Some large.size ≡ Some is.size = sym large.size_is ∙ is.size_is in cc

      runs_same : large.runs ≡ is.runs
      runs_same = is.only_runs large.runs large.graph_is.runs_are

      moved : IsCodeGraph image (record { entry = entry; size = is.size; runs = is.runs; graph_number = large.graph_number; at = large.node_number }) large.graph
      moved = subst (λ (s : ℕ). IsCodeGraph image (record { entry = entry; size = s; runs = is.runs; graph_number = large.graph_number; at = large.node_number }) large.graph) size_same
          (subst (λ (r : List Run). IsCodeGraph image (record { entry = entry; size = large.size; runs = r; graph_number = large.graph_number; at = large.node_number }) large.graph) runs_same large.graph_is)

      same : length large.graph.nodes ≡ length graph.nodes
      same = law image entry is.size is.runs large.graph_number (number_in entries) large.node_number (numbers_by (first_in firsts)) large.graph graph moved is.graph_is

  pub is-large : (count : ℕ) → IsLarge image entry entries MAX_NODES count → IsLargeCode image entry
  is-large count l = record {
    size = l.graph_is.size;
    size_is = l.graph_is.size_is;
    runs = l.graph_is.runs;
    graph_number = number_in entries;
    node_number = numbers_by (first_in l.firsts);
    graph = l.graph;
    graph_is = l.graph_is.graph_is;
    above = omega (arith, l.nodes, l.above);
  }

pub any-code : (image : Image) (entries : List ℕ) (i : ℕ) → i < length entries → IsLargeCode image (get_or entries i 0) → AnyLargeCode image entries
any-code image entries i below large = record { entry = get_or entries i 0; among = Contains-get_or entries i 0 below; large = large }

pub no-code : (image : Image) (entries : List ℕ) (i : ℕ) → i ≡ length entries → NoneBelow (IsLargeCode image) entries i → AnyLargeCode image entries → ⊥
no-code image entries i all none any = none-all (IsLargeCode image) entries i all none any.entry any.among any.large

-- ---- source

abbrev nowhere : Place
nowhere = record { globals = λ name. None; runs = [] }

module _ (unit : Typed) (names : List (List ℕ)) (number : ℕ) where
  pub source-large : (bodies : List ℕ → Body) (action : Action) (nodes : ℕ) → IsSome (slice_get names number)
      → ((name : List ℕ) → IsNumber names number name → Some (bodies name) ≡ body_of unit name) → ((name : List ℕ) → (bodies name).action ≡ action)
      → ((f : Setting) → nodes ≡ size f action) → IsTrue (nat_le MAX_NODES nodes) ↔ IsLargeAt unit names number
  source-large bodies action nodes named found action_is counted = (there, back)
    where
      long : (place : Place) (body : Body) → body.action ≡ action → length (graph_of unit place body).nodes ≡ suc nodes
      long place body is = graph_long unit place body ∙ ap suc (ap (size (setting_of unit place body)) is ∙ sym (counted (setting_of unit place body)))

      there : IsTrue (nat_le MAX_NODES nodes) → IsLargeAt unit names number
      there t =
          let n = some-of (slice_get names number) named in
          let above : MAX_NODES ≤ nodes = leb-true MAX_NODES nodes t in
          record {
            name = n.0;
            number_is = n.1;
            large = record {
              body = bodies n.0;
              body_is = sym (found n.0 n.1);
              where_it_is = nowhere;
              above = omega (arith, above, long nowhere (bodies n.0) (action_is n.0));
            };
          }

      back : IsLargeAt unit names number → IsTrue (nat_le MAX_NODES nodes)
      back l =
          let large = l.large in
          let same : bodies l.name ≡ large.body = (let both : Some (bodies l.name) ≡ Some large.body = found l.name l.number_is ∙ large.body_is in cc) in
          le-leb MAX_NODES nodes (omega (arith, large.above, long large.where_it_is large.body (sym (ap (λ (b : Body). b.action) same) ∙ action_is l.name)))

  pub source-none : ((name : List ℕ) → IsNumber names number name → None ≡ body_of unit name) → IsLargeAt unit names number → ⊥
  source-none none l = let is = l.large.body_is in let other = none l.name l.number_is in cc

pub any-source : (unit : Typed) (names : List (List ℕ)) (numbers : List ℕ) (i : ℕ) → i < length numbers → IsLargeAt unit names (get_or numbers i 0) → AnyLargeSource unit names numbers
any-source unit names numbers i below large = record { number = get_or numbers i 0; among = Contains-get_or numbers i 0 below; large = large }

pub no-source : (unit : Typed) (names : List (List ℕ)) (numbers : List ℕ) (i : ℕ) → i ≡ length numbers → NoneBelow (IsLargeAt unit names) numbers i → AnyLargeSource unit names numbers → ⊥
no-source unit names numbers i all none any = none-all (IsLargeAt unit names) numbers i all none any.number any.among any.large

-- ---- both

pub with-source : (image : Image) (unit : Typed) (names : List (List ℕ)) (numbers entries : List ℕ) (graphs : List Graph) (firsts : List (List (ℕ × ℕ)))
    → (AnyLargeSource unit names numbers → ⊥) → (small : Bool) → AreCodeIf image entries graphs firsts small
    → AreSmallIf image unit names numbers entries graphs firsts small
with-source image unit names numbers entries graphs firsts none true is = (is.0, is.1, none)
with-source image unit names numbers entries graphs firsts none false is = inl is
