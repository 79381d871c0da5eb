use Rattle.std.proofs.Common.{List, ℕ, refl, subst}
use Rattle.c_types.specs.Typed.{typed_of}
use Rattle.pair_setup_calls.specs.Names.{names_of, texts_of}
use Rattle.graph_core.specs.Graphs.{graphs_of}
use Rattle.pair_setup.specs.Graphs.{firsts_of}
use Rattle.pair_setup.specs.Answers.{AreSmall, IsLargeError}
use Rattle.pair_setup.proofs.Outcomes.{are-paired, large-error}
use Rattle.pair_setup.proofs.Sound.{sound_entries}
use Rattle.pair_setup.proofs.pairing.listed_pairs.Goals as goal

pub small_entries-requires : goal.small_entries-requires
small_entries-requires c = record {
  none = c.new-code.ensures.items;
  no_firsts = c.new-firsts.ensures.items;
  sound =
      sound_entries c.args.image.now (typed_of c.args.unit.now) (names_of c.args.unit.now) (texts_of c.args.list.now) c.in-Ok-attempt.field-0.items c.checked.new.seen.keys
      c.checked.new.entries.keys c.in-Ok-attempt.ensures.checked;
}

pub returns-3-clause-pairs : goal.returns-3-clause-pairs
returns-3-clause-pairs c =
    let graphs = graphs_of c.small_entries.new.graphs.items in
    let firsts = firsts_of c.small_entries.new.firsts.items in
    let small =
    subst (λ (l : List ℕ). AreSmall c.args.image.now (typed_of c.args.unit.now) (names_of c.args.unit.now) l c.checked.new.entries.keys c.in-Ok-attempt-entries.field-0.items graphs firsts)
    c.as_slice-numbers.ensures.keys c.in-Ok-attempt-entries.ensures.small in
    record {
      paired =
          are-paired c.args.image.now (typed_of c.args.unit.now) (names_of c.args.unit.now) (texts_of c.args.list.now) c.in-Ok-attempt.field-0.items c.checked.new.seen.keys
          c.checked.new.entries.keys c.in-Ok-attempt.ensures.checked c.in-Ok-attempt-entries.field-0.items graphs firsts
          (record { functions = c.in-Ok-attempt.field-0; entries = c.in-Ok-attempt-entries.field-0; code = c.small_entries.new.graphs; firsts = c.small_entries.new.firsts }) c.requires.some small refl refl;
      code = small.graphs_are.code;
      firsts = small.graphs_are.are;
    }

pub returns-2-clause-error : goal.returns-2-clause-error
returns-2-clause-error c =
    large-error c.args.image.now (typed_of c.args.unit.now) (names_of c.args.unit.now) (texts_of c.args.list.now) c.in-Ok-attempt.field-0.items c.checked.new.seen.keys
    c.checked.new.entries.keys c.in-Ok-attempt.ensures.checked c.in-Err-attempt-entries.field-0
    (subst (λ (l : List ℕ). IsLargeError c.args.image.now (typed_of c.args.unit.now) (names_of c.args.unit.now) l c.checked.new.entries.keys c.in-Err-attempt-entries.field-0)
    c.as_slice-numbers.ensures.keys c.in-Err-attempt-entries.ensures.error)
