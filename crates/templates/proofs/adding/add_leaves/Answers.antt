use Rattle.std.proofs.Common.{ℕ, ◌+◌, ◌<◌, ◌≤◌, [], ◌∷◌, length, map, get_or, drop, ap, arith}
use Rattle.std.proofs.lemmas.List.Concat.{flat_map_single}
use Rattle.term_core_spec.specs.Term.{Term, Leaf}
use Rattle.templates.specs.Added.{leaf_of}
use Rattle.templates.proofs.Growth.{begins, goes, finished, as_added, next_of}
use Rattle.templates.proofs.adding.add_leaves.Goals as goal

pub loop-number-init : goal.loop-number-init
loop-number-init c = begins c.args.bank.now c.args.ids.now.items (λ n. leaf_of c.args.leaves n ∷ []) c.args.numbers.now c.requires

pub loop-number-preserved : goal.loop-number-preserved
loop-number-preserved c =
    let old = c.args.bank.now in
    let now = c.loop-number.bank in
    let next = c.add.new.bank in
    let i = c.loop-number.number-index in
    let ns = c.args.numbers.now in
    let n : ℕ = get_or ns i 0 in
    let below : i < length ns = omega arith in
    goes old c.args.ids.now.items (λ n. leaf_of c.args.leaves n ∷ []) ns now next c.loop-number.ids.items c.add.new.ids.items n (drop i ns) (drop (i + 1) ns)
    c.loop-number.invariant (next_of ns i 0 below)
    (as_added now next c.loop-number.ids.items c.add.new.ids.items (Leaf c.atom.result ∷ []) (leaf_of c.args.leaves n ∷ []) (ap (λ (t : Term). t ∷ []) c.atom.ensures) c.in-Ok-attempt.ensures)

pub returns : goal.returns
returns c =
    let ns = c.args.numbers.now in
    let past : length ns ≤ c.loop-number.number-index = omega arith in
    finished c.args.bank.now c.loop-number.bank c.args.ids.now.items c.loop-number.ids.items (λ n. leaf_of c.args.leaves n ∷ []) ns c.loop-number.number-index
    (map (leaf_of c.args.leaves) ns) past c.loop-number.invariant (flat_map_single (leaf_of c.args.leaves) ns)
