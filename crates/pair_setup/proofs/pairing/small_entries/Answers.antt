use Rattle.std.proofs.Common.{◌∙◌, sym, subst}
use Rattle.std.specs.Prelude.{List, ℕ, All}
use Rattle.std.specs.List.Sorted.{IsStrictlyIncreasing}
use Rattle.c_types.specs.Typed.{typed_of}
use Rattle.pair_setup_calls.specs.Names.{names_of}
use Rattle.graph_core.specs.Graphs.{graphs_of}
use Rattle.pair_setup.specs.Graphs.{IsSound, firsts_of}
use Rattle.pair_setup.proofs.Rising.{increasing, large-back, small-moved}
use Rattle.pair_setup.proofs.Sound.{sound_moved}
use Rattle.pair_setup.proofs.pairing.small_entries.Goals as goal

pub add_small-requires : goal.add_small-requires
add_small-requires c = record {
  none = c.requires.none;
  no_firsts = c.requires.no_firsts;
  sound = subst (λ (l : List ℕ). All (IsSound c.args.image.now l) l) (sym c.as_slice.ensures.keys)
      (sound_moved c.args.image.now c.args.entries.now.keys c.sort.new.self.keys c.sort.ensures.reordered.0 c.requires.sound);
  rising = subst IsStrictlyIncreasing (sym c.as_slice.ensures.keys) (increasing c.sort.new.self.keys c.in-Ok-attempt.ensures.sorted c.sort.ensures.unique);
}

pub returns-then-not-small-clause-error : goal.returns-then-not-small-clause-error
returns-then-not-small-clause-error c =
    large-back c.args.image.now (typed_of c.args.unit.now) (names_of c.args.unit.now) c.args.numbers.now c.args.entries.now.keys c.sort.new.self.keys c.as_slice.result.now
    c.sort.ensures.reordered.0 c.as_slice.ensures.keys (graphs_of c.add_small.new.graphs.items) (firsts_of c.add_small.new.firsts.items)
    c.in-Ok-attempt-small.field-0 c.if-not-small.true c.in-Ok-attempt-small.ensures

pub returns-4-clause-small : goal.returns-4-clause-small
returns-4-clause-small c =
    small-moved c.args.image.now (typed_of c.args.unit.now) (names_of c.args.unit.now) c.args.numbers.now c.args.entries.now.keys c.sort.new.self.keys c.as_slice.result.now
    c.sort.ensures.reordered.0 c.as_slice.ensures.keys c.in-Ok-attempt-found.field-0.items (c.in-Ok-attempt-found.ensures.items ∙ c.as_slice-2.ensures.keys)
    (increasing c.sort.new.self.keys c.in-Ok-attempt.ensures.sorted c.sort.ensures.unique) (graphs_of c.add_small.new.graphs.items) (firsts_of c.add_small.new.firsts.items)
    c.in-Ok-attempt-small.field-0 c.if-not-small.false c.in-Ok-attempt-small.ensures
