use Rattle.std.proofs.Common.{ℕ, ◌+◌, ◌<◌, ◌≤◌, List, length, map, get_or, drop, sym, ap₂, arith}
use Rattle.std.proofs.lemmas.List.Folds.{flat_map-map}
use Rattle.term_core_spec.specs.Term.{Term}
use Rattle.term_bank.specs.Nodes.{tree_at}
use Rattle.c_graph_terms.proofs.Banks.{kept, within_later}
use Rattle.c_graph_terms.proofs.Growing.{within_at, all_later, trees_kept}
use Rattle.templates.specs.Added.{on_each, on_all}
use Rattle.templates.proofs.Growth.{begins, goes, finished, as_added, next_of}
use Rattle.templates.proofs.adding.add_on_all.Goals as goal

pub loop-x-init : goal.loop-x-init
loop-x-init c = begins c.args.bank.now c.args.ids.now.items (λ x. on_each c.args.operator (tree_at c.args.bank.now x) (map (tree_at c.args.bank.now) c.args.ys.now)) c.args.xs.now c.requires.ids

pub add_on_each-requires : goal.add_on_each-requires
add_on_each-requires c =
    let old = c.args.bank.now in
    let now = c.loop-x.bank in
    let i = c.loop-x.x-index in
    let xs = c.args.xs.now in
    let below : i < length xs = omega arith in
    let grown = c.loop-x.invariant.added.is_grown in
    record {
      x = within_later old now (get_or xs i 0) grown (within_at (length old) xs i c.requires.xs below);
      ys = all_later old now c.args.ys.now grown c.requires.ys;
      ids = c.loop-x.invariant.added.within;
    }

pub loop-x-preserved : goal.loop-x-preserved
loop-x-preserved c =
    let old = c.args.bank.now in
    let now = c.loop-x.bank in
    let next = c.add_on_each.new.bank in
    let i = c.loop-x.x-index in
    let xs = c.args.xs.now in
    let ys = c.args.ys.now in
    let x : ℕ = get_or xs i 0 in
    let below : i < length xs = omega arith in
    let grown = c.loop-x.invariant.added.is_grown in
    let same = ap₂ (λ (a : Term) (l : List Term). on_each c.args.operator a l) (kept old now x grown (within_at (length old) xs i c.requires.xs below)) (trees_kept old now ys grown c.requires.ys) in
    goes old c.args.ids.now.items (λ x. on_each c.args.operator (tree_at old x) (map (tree_at old) ys)) xs now next c.loop-x.ids.items c.add_on_each.new.ids.items x (drop i xs) (drop (i + 1) xs)
    c.loop-x.invariant (next_of xs i 0 below)
    (as_added now next c.loop-x.ids.items c.add_on_each.new.ids.items (on_each c.args.operator (tree_at now x) (map (tree_at now) ys)) (on_each c.args.operator (tree_at old x) (map (tree_at old) ys))
    same c.in-Ok-attempt.ensures)

pub returns : goal.returns
returns c =
    let old = c.args.bank.now in
    let xs = c.args.xs.now in
    let ys = c.args.ys.now in
    let past : length xs ≤ c.loop-x.x-index = omega arith in
    finished old c.loop-x.bank c.args.ids.now.items c.loop-x.ids.items (λ x. on_each c.args.operator (tree_at old x) (map (tree_at old) ys)) xs c.loop-x.x-index
    (on_all c.args.operator (map (tree_at old) xs) (map (tree_at old) ys)) past c.loop-x.invariant
    (sym (flat_map-map (λ t. on_each c.args.operator t (map (tree_at old) ys)) (tree_at old) xs))
