use Rattle.std.proofs.Common.{◌≡◌, ◌∙◌, ℕ, ◌+◌, ◌<◌, List, length, ◌++◌, ◌∷◌, [], ap, arith}
use Rattle.std.proofs.lemmas.List.{length_push}
use Rattle.std.proofs.lemmas.List.Elements.{All-push, All-same}
use Rattle.term_substitution.proofs.moving.descend.Goals as goal

pub node-node-requires-in-Some : goal.node-node-requires-in-Some
node-node-requires-in-Some c =
    let less = c.in-Some.ensures.below c.down.lowest c.down.invariant.children in
    let within = c.down.invariant.within in
    omega (arith, less, within)

pub down-smaller : goal.down-smaller
down-smaller c = c.in-Some.ensures.below c.down.lowest c.down.invariant.children

pub down-preserved : goal.down-preserved
down-preserved c =
    let less = c.in-Some.ensures.below c.down.lowest c.down.invariant.children in
    let within = c.down.invariant.within in
    let count = c.down.invariant.path.count in
    let longer : length c.push.new.self.items ≡ length c.down.path.items + 1 =
    ap (λ (l : List ℕ). length l) c.in_ok-push.ensures.items ∙ length_push c.down.path.items c.down.lowest in
    record {
      within = omega (arith, less, within);
      new = c.in-Some.ensures.new;
      children = c.node-node-in-Some.ensures.children;
      tree = c.node-node-in-Some.ensures.tree;
      path = record {
        within = All-same (λ k. k < length c.args.from.now) c.push.new.self.items (c.down.path.items ++ c.down.lowest ∷ []) c.in_ok-push.ensures.items
            (All-push (λ k. k < length c.args.from.now) c.down.path.items c.down.lowest c.down.invariant.path.within within);
        count = omega (arith, less, count, longer);
      };
    }
