use Rattle.std.proofs.Common.{rules, ◌≡◌, ◌-◌, ◌*◌, length, take, drop, ap, arith}
use Rattle.std.proofs.lemmas.Bool.{lt-ltb, le-ltb}
use Rattle.std.proofs.lemmas.List.{take_rest}
use Rattle.bit_blast_spec.specs.Circuits.{choose_bits, or_all}
use Rattle.bit_blast_circuits.specs.Kinds.{move_of}
use Rattle.bit_blast_circuits.proofs.Built.{same_gives}
use Rattle.bit_blast_circuits.proofs.Stages.{stages_start, stages_at, stages_past_at, stages_end, chosen_same}
use Rattle.bit_blast_circuits.proofs.gates.Gates.shift_stages.Goals as goal

pub loop-stage-init : goal.loop-stage-init
loop-stage-init c = stages_start (move_of c.args.shift) c.args.counts.now c.args.xs.now c.in_ok-word.word.items c.args.self.now c.in_ok-word.ensures.items

pub loop-stage-preserved : goal.loop-stage-preserved
loop-stage-preserved c =
    let move = move_of c.args.shift in
    let width : c.len.result ≡ length c.loop-stage.word.items = search rules in
    stages_at move c.loop-stage.distance (c.loop-stage.distance * 2) c.index-counts-stage.result c.args.counts.now c.loop-stage.word.items c.in_ok-word-2.word.items c.loop-stage.stage (omega arith) c.index-counts-stage.is
    (lt-ltb c.loop-stage.distance (length c.loop-stage.word.items) (omega arith)) (omega arith) c.loop-stage.invariant
    (same_gives (choose_bits c.index-counts-stage.result c.deref-in-loop-stage.result.now c.deref-in-loop-stage-2.result.now)
    (choose_bits c.index-counts-stage.result (move c.loop-stage.distance c.loop-stage.word.items) c.loop-stage.word.items)
    (chosen_same move c.loop-stage.distance c.index-counts-stage.result c.loop-stage.word.items c.deref.result.now c.in_ok-shifted.shifted.items
    c.deref-in-loop-stage.result.now c.deref-in-loop-stage-2.result.now
    c.deref-in-loop-stage.ensures.value c.in_ok-shifted.ensures c.deref.ensures.value c.deref-in-loop-stage-2.ensures.value)
    c.in_ok-word-2.ensures)

pub returns : goal.returns
returns c =
    stages_end (move_of c.args.shift) c.loop-stage.distance c.args.counts.now c.loop-stage.word.items c.loop-stage.stage c.none.result (omega arith) c.none.ensures c.loop-stage.invariant

pub returns-then-distance-len : goal.returns-then-distance-len
returns-then-distance-len c =
    let width : c.len.result ≡ length c.loop-stage.word.items = search rules in
    stages_past_at (move_of c.args.shift) c.loop-stage.distance c.in_ok-past.past c.args.counts.now c.loop-stage.word.items c.loop-stage.stage (omega arith)
    (le-ltb c.loop-stage.distance (length c.loop-stage.word.items) (omega arith)) c.loop-stage.invariant
    (same_gives (or_all (take (length c.args.counts.now - c.loop-stage.stage) (drop c.loop-stage.stage c.args.counts.now))) (or_all (drop c.loop-stage.stage c.args.counts.now))
    (ap or_all (take_rest c.args.counts.now c.loop-stage.stage)) c.in_ok-past.ensures)
