use Rattle.std.proofs.Common.{◌+◌, drop, get_or, map, List, subst, sym, arith}
use Rattle.std.proofs.lemmas.List.{drop_all, take_rest}
use Rattle.bit_blast_spec.specs.Goal.{Load, tie, tie_all}
use Rattle.bit_blast.specs.declared.loads.LoadIndices.{LoadIndices}
use Rattle.bit_blast.specs.Loads.{load_at, AreWithin}
use Rattle.bit_blast.specs.Within.{BuiltWithin}
use Rattle.bit_blast.proofs.Within.{ContinuesWithin, within_start, left_at}
use Rattle.bit_blast.proofs.Loading.{blank_load, within_at, within_drop}
use Rattle.bit_blast.proofs.Ties.{ties_one, ties_end, from_index}
use Rattle.bit_blast.proofs.loads.tie_all.Goals as goal

pub tie-requires-clause-first : goal.tie-requires-clause-first
tie-requires-clause-first c = within_at c.args.table.now c.args.loads.now c.ties.index blank_load c.requires (omega arith)

pub tie-requires-clause-others : goal.tie-requires-clause-others
tie-requires-clause-others c =
    subst (AreWithin c.args.table.now) (sym (take_rest c.args.loads.now (c.ties.index + 1)))
    (within_drop c.args.table.now c.args.loads.now (c.ties.index + 1) c.requires)

pub ties-preserved : goal.ties-preserved
ties-preserved c =
    let t = c.args.table.now in
    ties_one c.args.maximum (load_at t (get_or c.args.loads.now c.ties.index blank_load)) (map (load_at t) (drop (c.ties.index + 1) c.args.loads.now))
    (tie_all (map (load_at t) c.args.loads.now)) c.args.gates.now c.ties.gates c.tie.new.gates (omega (arith, c.last.ensures, c.if-last-maximum.false))
    (subst (λ (loads : List Load). ContinuesWithin c.args.maximum (tie_all (map (load_at t) c.args.loads.now)) c.args.gates.now c.ties.gates (tie_all loads))
    (from_index (load_at t) c.args.loads.now c.ties.index blank_load (omega arith)) c.ties.invariant)
    (subst (λ (later : List LoadIndices). BuiltWithin c.args.maximum (tie (load_at t (get_or c.args.loads.now c.ties.index blank_load)) (map (load_at t) later)) c.ties.gates tt c.tie.new.gates)
    (take_rest c.args.loads.now (c.ties.index + 1)) c.in-Ok-attempt.ensures)

pub returns : goal.returns
returns c =
    let t = c.args.table.now in
    ties_end c.args.maximum (tie_all (map (load_at t) c.args.loads.now)) c.args.gates.now c.ties.gates
    (subst (λ (rest : List LoadIndices). ContinuesWithin c.args.maximum (tie_all (map (load_at t) c.args.loads.now)) c.args.gates.now c.ties.gates (tie_all (map (load_at t) rest)))
    (drop_all c.ties.index c.args.loads.now (omega arith)) c.ties.invariant)

pub ties-init : goal.ties-init
ties-init c = within_start c.args.maximum (tie_all (map (load_at c.args.table.now) c.args.loads.now)) c.args.gates.now

pub returns-then-last-maximum : goal.returns-then-last-maximum
returns-then-last-maximum c =
    left_at c.args.maximum (tie_all (map (load_at c.args.table.now) c.args.loads.now)) c.args.gates.now c.ties.gates tt
    (omega (arith, c.last.ensures, c.if-last-maximum.true)) c.ties.invariant.count
