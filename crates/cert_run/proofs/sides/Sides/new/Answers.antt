use Rattle.std.proofs.Common.{◌∙◌, ℕ, List, map, refl, sym, ap, subst}
use Rattle.cert_check_frames.specs.Entries.{firsts_in}
use Rattle.graph_core_spec.specs.Graph.{Graphs}
use Rattle.memory_spec.specs.Runs.{Run}
use Rattle.memory_spec.specs.declared.Run as code
use Rattle.memory_spec.specs.Viewed.{runs_of}
use Rattle.c_graph_spec.specs.SourceGraph as spec
use Rattle.c_types.specs.Typed.{typed_of}
use Rattle.pair_setup_calls.specs.Names.{texts_of}
use Rattle.validity_spec.specs.Claim.{globals_of}
use Rattle.graph_core.specs.Graphs.{graphs_of}
use Rattle.graph_core.specs.declared.graph.Graph as graph
use Rattle.pair_setup_spec.specs.Outcome.{Pairs}
use Rattle.pair_setup.specs.Answers.{pairs_of}
use Rattle.cert_check_frames.specs.Entries.{AreEntries}
use Rattle.cert_check_frames.specs.declared.entries.File.{File}
use Rattle.cert_run.specs.Entries.{AreEntriesFor}
use Rattle.cert_run.specs.Sides.{functions_in, numbering_by, pair_with}
use Rattle.cert_run.proofs.Listed.{are_listed}
use Rattle.cert_run.proofs.Listing.{are_entries, texts_long}
use Rattle.cert_run.proofs.Ready.{enough_functions, ready}
use Rattle.cert_run.proofs.Whole.{sides_of}
use Rattle.cert_run.proofs.sides.Sides.new.Goals as goal

pub entries-requires : goal.entries-requires
entries-requires c = record {
  rising = c.requires.paired.paired.rising;
  ready = ready c.args.image.now (typed_of c.args.unit.now) (texts_of c.args.list.now) c.args.pairs.now c.requires.paired.paired;
}

pub returns-4 : goal.returns-4
returns-4 c = λ read.
    let image = c.args.image.now in
    let unit = typed_of c.args.unit.now in
    let list = texts_of c.args.list.now in
    let pairs : Pairs = pairs_of list c.args.pairs.now in
    let runs : List Run = runs_of c.in-Ok-attempt.field-0.items in
    let graphs : Graphs = graphs_of c.args.pairs.now.code.items in
    let made = c.in-Ok-attempt-entries.field-0.items in
    let file : File = record { pointer = c.global_pointer.result; runs = c.as_slice-2.result } in
    let entries =
    subst (λ (n : ℕ). AreEntriesFor unit pairs.entries file list c.args.pairs.now.functions.items n made) (sym (texts_long c.args.list.now)) c.in-Ok-attempt-entries.ensures in
    record {
      pair = pair_with image unit (numbering_by pairs.entries runs c.requires.paired.code.firsts) graphs;
      are = sides_of image unit list pairs c.requires.paired.paired runs graphs c.requires.typed c.requires.sizes read c.in-Ok-attempt.ensures.runs c.requires.paired.code;
      graphs = record {
        code_are = ap (λ (l : List graph.Graph). graphs_of l) c.as_slice-code.ensures.value;
        sources_are =
            c.in-Ok-attempt-2.ensures.graphs_are
            ∙ ap (λ (r : List code.Run). spec.graphs_of unit (record { globals = globals_of image; runs = runs_of r })) c.as_slice.ensures.value;
        runs_are = refl;
      };
      firsts = c.requires.paired.code.firsts;
      sites = record {
        firsts_are = ap (λ l. map firsts_in l) c.as_slice-firsts.ensures.value ∙ sym c.requires.paired.firsts;
        places_are =
            c.in-Ok-attempt-2.ensures.places_are
            ∙ ap (λ (r : List code.Run). map (spec.points_of unit (record { globals = globals_of image; runs = runs_of r })) unit.bodies) c.as_slice.ensures.value;
      };
      entries =
          subst (λ (r : List code.Run). AreEntries (pair_with image unit (numbering_by pairs.entries (runs_of r) c.requires.paired.code.firsts) graphs) (functions_in unit pairs) made)
          c.as_slice-2.ensures.value
          (are_entries unit pairs.entries file list c.args.pairs.now.functions.items image c.requires.paired.code.firsts graphs (sym c.global_pointer.ensures)
          (enough_functions list c.args.pairs.now.functions.items c.requires.paired.paired.listed) made entries);
      listed = are_listed image unit list pairs c.requires.paired.paired runs graphs c.in-Ok-attempt.ensures.runs c.requires.paired.code;
    }
