use Rattle.std.proofs.Common.{◌∙◌, List, Vec, Global, length, map, sym, ap, subst}
use Rattle.cert_check_frames.specs.Entries.{listed_places}
use Rattle.cert_check_frames.specs.declared.listed.PlaceNode.{PlaceNode}
use Rattle.memory_spec.specs.declared.Run as run
use Rattle.memory_spec.specs.Viewed.{runs_of}
use Rattle.graph_core.specs.Graphs.{graphs_of}
use Rattle.graph_core.specs.declared.graph.Graph as code
use Rattle.cert_check_frames.specs.Entries.{AreEntries}
use Rattle.cert_check_frames.specs.declared.entries.Entry.{Entry}
use Rattle.cert_run.proofs.sides.Sides.listed.Goals as goal

pub list-requires : goal.list-requires
list-requires c = ap (λ (l : List Entry). length l) c.as_slice-2.ensures.value ∙ c.requires

pub returns : goal.returns
returns c = λ q firsts functions entries conventions graphs sites.
    c.list.ensures q firsts functions (subst (λ (l : List Entry). AreEntries q functions l) (sym c.as_slice-2.ensures.value) entries) conventions (record {
      code_are = graphs.code_are;
      sources_are = ap (λ (l : List code.Graph). graphs_of l) c.as_slice-source.ensures.value ∙ graphs.sources_are;
      runs_are = ap (λ (l : List run.Run). runs_of l) c.as_slice-runs.ensures.value ∙ graphs.runs_are;
    }) (record {
      firsts_are = sites.firsts_are;
      places_are = ap (λ (l : List (Vec PlaceNode Global)). map listed_places l) c.as_slice.ensures.value ∙ sites.places_are;
    })
