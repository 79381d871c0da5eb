use Rattle.std.proofs.Common.{◌∙◌, ℕ, ◌+◌, ◌<◌, ◌≤◌, [], ◌∷◌, length, map, get_or, drop, sym, ap₂, arith}
use Rattle.std.proofs.lemmas.List.Concat.{flat_map_single}
use Rattle.std.proofs.lemmas.Simd.{map-map}
use Rattle.term_core_spec.specs.Term.{Term, Binary}
use Rattle.term_bank.specs.Nodes.{tree_at}
use Rattle.c_graph_terms.proofs.Banks.{kept, within_later}
use Rattle.c_graph_terms.proofs.Growing.{within_at}
use Rattle.templates.specs.Added.{on_each}
use Rattle.templates.proofs.Growth.{begins, goes, finished, as_added, next_of}
use Rattle.templates.proofs.adding.add_on_each.Goals as goal

pub loop-y-init : goal.loop-y-init
loop-y-init c = begins c.args.bank.now c.args.ids.now.items (λ y. Binary c.args.operator (tree_at c.args.bank.now c.args.x) (tree_at c.args.bank.now y) ∷ []) c.args.ys.now c.requires.ids

pub add-requires : goal.add-requires
add-requires c =
    let old = c.args.bank.now in
    let now = c.loop-y.bank in
    let i = c.loop-y.y-index in
    let ys = c.args.ys.now in
    let below : i < length ys = omega arith in
    let grown = c.loop-y.invariant.added.is_grown in
    record {
      node = (within_later old now c.args.x grown c.requires.x, within_later old now (get_or ys i 0) grown (within_at (length old) ys i c.requires.ys below));
      ids = c.loop-y.invariant.added.within;
    }

pub loop-y-preserved : goal.loop-y-preserved
loop-y-preserved c =
    let old = c.args.bank.now in
    let now = c.loop-y.bank in
    let next = c.add.new.bank in
    let i = c.loop-y.y-index in
    let ys = c.args.ys.now in
    let x = c.args.x in
    let y : ℕ = get_or ys i 0 in
    let below : i < length ys = omega arith in
    let grown = c.loop-y.invariant.added.is_grown in
    let same = ap₂ (λ (a b : Term). Binary c.args.operator a b ∷ []) (kept old now x grown c.requires.x) (kept old now y grown (within_at (length old) ys i c.requires.ys below)) in
    goes old c.args.ids.now.items (λ y. Binary c.args.operator (tree_at old x) (tree_at old y) ∷ []) ys now next c.loop-y.ids.items c.add.new.ids.items y (drop i ys) (drop (i + 1) ys)
    c.loop-y.invariant (next_of ys i 0 below)
    (as_added now next c.loop-y.ids.items c.add.new.ids.items (Binary c.args.operator (tree_at now x) (tree_at now y) ∷ []) (Binary c.args.operator (tree_at old x) (tree_at old y) ∷ [])
    same c.in-Ok-attempt.ensures)

pub returns : goal.returns
returns c =
    let old = c.args.bank.now in
    let ys = c.args.ys.now in
    let past : length ys ≤ c.loop-y.y-index = omega arith in
    finished old c.loop-y.bank c.args.ids.now.items c.loop-y.ids.items (λ y. Binary c.args.operator (tree_at old c.args.x) (tree_at old y) ∷ []) ys c.loop-y.y-index
    (on_each c.args.operator (tree_at old c.args.x) (map (tree_at old) ys)) past c.loop-y.invariant
    (flat_map_single (λ y. Binary c.args.operator (tree_at old c.args.x) (tree_at old y)) ys
    ∙ sym (map-map (λ t. Binary c.args.operator (tree_at old c.args.x) t) (tree_at old) ys))
