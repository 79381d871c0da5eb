-- Graphs of code, one after the other.
use Rattle.std.proofs.Common.{◌≡◌, ◌∙◌, ℕ, ◌+◌, ◌<◌, List, [], ◌∷◌, ◌++◌, length, get_or, Some, refl, sym, ap, subst, arith, inl, inr}
use Rattle.std.specs.Prelude.{slice_get}
use Rattle.std.proofs.lemmas.Bool.{cases_lt}
use Rattle.std.proofs.lemmas.List.{length-append, map-append}
use Rattle.std.proofs.lemmas.Option.{slice_get_within, same_Some}
use Rattle.elf_read_spec.specs.Image.{Image}
use Rattle.graph_core_spec.specs.Graph.{Graph}
use Rattle.indexmap.specs.IndexMap.{IndexMap}
use Rattle.graph_core.specs.declared.graph.Graph as code
use Rattle.graph_core.specs.Graphs.{graph_of, graphs_of}
use Rattle.pair_setup.specs.Graphs.{AreCodeOf, AreKeptOf, IsCodeBy, IsSmallCode, firsts_in, firsts_of}
use Rattle.pair_setup.proofs.Seams.{read_before, read_last, default_before, default_last}

none_coded : (image : Image) (entries : List ℕ) (graphs : List Graph) → graphs ≡ [] → AreCodeOf image entries 0 graphs
none_coded image entries graphs e = record {
  firsts = [];
  graph_count = ap (λ (l : List Graph). length l) e;
  first_count = refl;
  each = λ k entry graph at there.
      let within : k < length graphs = slice_get_within graphs k graph there in
      let none : length graphs ≡ 0 = ap (λ (l : List Graph). length l) e in
      absurd (omega (arith, within, none));
}

one_coded : (image : Image) (entries : List ℕ) (n : ℕ) (graphs : List Graph) (entry : ℕ) (graph : Graph) (made : List (ℕ × ℕ)) → AreCodeOf image entries n graphs
    → slice_get entries n ≡ Some entry → IsSmallCode image entries entry graph made → AreCodeOf image entries (n + 1) (graphs ++ graph ∷ [])
one_coded image entries n graphs entry graph made are at is = record {
  firsts = firsts;
  graph_count = omega (arith, length-append graphs (graph ∷ []), are.graph_count);
  first_count = omega (arith, length-append are.firsts (made ∷ []), are.first_count);
  each = each;
}
  where
    firsts : List (List (ℕ × ℕ))
    firsts = are.firsts ++ made ∷ []

    each : (k other : ℕ) (g : Graph) → slice_get entries k ≡ Some other → slice_get (graphs ++ graph ∷ []) k ≡ Some g
        → IsCodeBy image entries other g (get_or firsts k [])
    each k other g there read = elim (cases_lt k n) [
      | inl earlier ↦
          subst (λ (f : List (ℕ × ℕ)). IsCodeBy image entries other g f)
          (sym (default_before are.firsts made [] k (omega (arith, earlier, are.first_count))))
          (are.each k other g there (read_before graphs graph g k (omega (arith, earlier, are.graph_count)) read))
      | inr later ↦
          let within = slice_get_within (graphs ++ graph ∷ []) k g read in
          let long = length-append graphs (graph ∷ []) in
          let here : k ≡ n = omega (arith, within, long, later, are.graph_count) in
          let same_graph : graph ≡ g = read_last graphs graph g (ap (slice_get (graphs ++ graph ∷ [])) (are.graph_count ∙ sym here) ∙ read) in
          let same_entry : entry ≡ other = same_Some entry other (sym at ∙ ap (slice_get entries) (sym here) ∙ there) in
          let same_firsts : made ≡ get_or firsts k [] =
          sym (ap (λ (i : ℕ). get_or firsts i []) (here ∙ sym are.first_count) ∙ default_last are.firsts made []) in
          subst (λ (e : ℕ). IsCodeBy image entries e g (get_or firsts k [])) same_entry
          (subst (λ (h : Graph). IsCodeBy image entries entry h (get_or firsts k [])) same_graph
          (subst (λ (f : List (ℕ × ℕ)). IsCodeBy image entries entry graph f) same_firsts is.code))
    ]

-- ---- with the first nodes of instructions

pub none_kept : {S : Type 0} (image : Image) (entries : List ℕ) (graphs : List code.Graph) (firsts : List (IndexMap ℕ ℕ S)) → graphs ≡ [] → firsts ≡ []
    → AreKeptOf image entries 0 (graphs_of graphs) (firsts_of firsts)
unfolding none_coded
none_kept image entries graphs firsts none no_firsts = record {
  code = none_coded image entries (graphs_of graphs) (ap (λ (l : List code.Graph). graphs_of l) none);
  are = sym (ap firsts_of no_firsts);
}

pub one_kept : {S : Type 0} (image : Image) (entries : List ℕ) (n : ℕ) (graphs new_graphs : List code.Graph) (firsts new_firsts : List (IndexMap ℕ ℕ S)) (entry : ℕ)
    (graph : code.Graph) (made : IndexMap ℕ ℕ S) → AreKeptOf image entries n (graphs_of graphs) (firsts_of firsts) → slice_get entries n ≡ Some entry
    → IsSmallCode image entries entry (graph_of graph) (firsts_in made) → new_graphs ≡ graphs ++ graph ∷ [] → new_firsts ≡ firsts ++ made ∷ []
    → AreKeptOf image entries (n + 1) (graphs_of new_graphs) (firsts_of new_firsts)
unfolding one_coded
one_kept image entries n graphs new_graphs firsts new_firsts entry graph made are at is graphs_are firsts_are =
    subst (λ (l : List Graph). AreKeptOf image entries (n + 1) l (firsts_of new_firsts))
    (sym (ap (λ (l : List code.Graph). graphs_of l) graphs_are ∙ map-append graph_of graphs (graph ∷ [])))
    (record {
      code = one_coded image entries n (graphs_of graphs) entry (graph_of graph) (firsts_in made) are.code at is;
      are = ap (λ (l : List (List (ℕ × ℕ))). l ++ firsts_in made ∷ []) are.are
          ∙ sym (ap firsts_of firsts_are ∙ map-append firsts_in firsts (made ∷ []));
    })
