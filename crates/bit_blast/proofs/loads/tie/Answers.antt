use Rattle.std.proofs.Common.{◌+◌, drop, get_or, map, List, subst, arith}
use Rattle.std.proofs.lemmas.List.{drop_all}
use Rattle.bit_blast_spec.specs.Gates.{claim}
use Rattle.bit_blast_spec.specs.Circuits.{Bits, equal_bits}
use Rattle.bit_blast_spec.specs.Goal.{Load, tie, equal_where}
use Rattle.bit_blast_circuits.specs.Built.{IsBuilt, Continues}
use Rattle.bit_blast.specs.BitsAt.{bits_at}
use Rattle.bit_blast.specs.declared.loads.LoadIndices.{LoadIndices}
use Rattle.bit_blast.specs.Loads.{load_at}
use Rattle.bit_blast.proofs.Loading.{blank_load, within_at}
use Rattle.bit_blast.proofs.Within.{whole_built, left_at, count_so_far}
use Rattle.bit_blast.proofs.Ties.{tie_one, tie_end, from_index}
use Rattle.bit_blast.proofs.loads.tie.Goals as goal

pub bits-requires-in-ties : goal.bits-requires-in-ties
bits-requires-in-ties c = (within_at c.args.table.now c.args.later.now c.ties.other-index blank_load c.requires.others (omega arith)).1

pub bits-requires-in-ties-3 : goal.bits-requires-in-ties-3
bits-requires-in-ties-3 c = (within_at c.args.table.now c.args.later.now c.ties.other-index blank_load c.requires.others (omega arith)).2

pub ties-preserved : goal.ties-preserved
ties-preserved c =
    let t = c.args.table.now in
    let load = c.args.load in
    let other : LoadIndices = get_or c.args.later.now c.ties.other-index blank_load in
    tie_one (load_at t load) (load_at t other) (map (load_at t) (drop (c.ties.other-index + 1) c.args.later.now)) (tie (load_at t load) (map (load_at t) c.args.later.now))
    c.args.gates.now c.ties.gates c.equal_bits.new.self c.claim_equal.new.gates c.in-Ok-attempt.field-0
    (subst (λ (loads : List Load). Continues (tie (load_at t load) (map (load_at t) c.args.later.now)) c.args.gates.now c.ties.gates (tie (load_at t load) loads) (λ (u : Unit {0}). u))
    (from_index (load_at t) c.args.later.now c.ties.other-index blank_load (omega arith)) c.ties.invariant)
    (subst (λ (x : Bits). IsBuilt (equal_bits x (bits_at t other.address)) c.ties.gates c.in-Ok-attempt.field-0 c.equal_bits.new.self) c.bits.ensures
    (subst (λ (y : Bits). IsBuilt (equal_bits c.bits.result.now y) c.ties.gates c.in-Ok-attempt.field-0 c.equal_bits.new.self) c.bits-in-ties.ensures c.in-Ok-attempt.ensures))
    (subst (λ (x : Bits). IsBuilt (claim (equal_where c.in-Ok-attempt.field-0 x (bits_at t other.byte))) c.equal_bits.new.self tt c.claim_equal.new.gates) c.bits-in-ties-2.ensures
    (subst (λ (y : Bits). IsBuilt (claim (equal_where c.in-Ok-attempt.field-0 c.bits-in-ties-2.result.now y)) c.equal_bits.new.self tt c.claim_equal.new.gates) c.bits-in-ties-3.ensures c.in-Ok-attempt-2.ensures))

pub returns : goal.returns
returns c =
    let t = c.args.table.now in
    let load = c.args.load in
    whole_built (tie_end (load_at t load) (tie (load_at t load) (map (load_at t) c.args.later.now)) c.args.gates.now c.ties.gates
    (subst (λ (rest : List LoadIndices). Continues (tie (load_at t load) (map (load_at t) c.args.later.now)) c.args.gates.now c.ties.gates (tie (load_at t load) (map (load_at t) rest)) (λ (u : Unit {0}). u))
    (drop_all c.ties.other-index c.args.later.now (omega arith)) c.ties.invariant))

pub returns-then-last-maximum : goal.returns-then-last-maximum
returns-then-last-maximum c =
    left_at c.args.maximum (tie (load_at c.args.table.now c.args.load) (map (load_at c.args.table.now) c.args.later.now)) c.args.gates.now c.ties.gates tt
    (omega (arith, c.last.ensures, c.if-last-maximum.true)) (count_so_far c.ties.invariant)
