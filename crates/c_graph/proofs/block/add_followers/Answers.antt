use Rattle.std.proofs.Common.{◌≡◌, ◌∙◌, ℕ, ◌+◌, ◌-◌, ◌<◌, ◌≤◌, List, [], ◌∷◌, ◌++◌, length, drop, sym, ap, subst, arith}
use Rattle.graph_core_spec.specs.declared.Next.{Next}
use Rattle.c_types_core.specs.Actions.{action_of}
use Rattle.c_types_core.specs.declared.action.Action.{Action}
use Rattle.c_graph_spec.specs.Layout as spec
use Rattle.c_graph_spec.specs.Layout.{Exits}
use Rattle.c_graph_layout.specs.Counts.{size_of}
use Rattle.c_graph_layout.specs.Exits.{exits_of}
use Rattle.c_graph_layout.specs.Lists.{block_of}
use Rattle.c_graph_layout.proofs.Blocks.{block_at, block_left, block_past}
use Rattle.c_graph_layout.proofs.Begun.{entry_at, entry_past}
use Rattle.c_graph.specs.Laid.{AreFollowed}
use Rattle.c_graph.proofs.Following.{followed_more, followed_none, next_is}
use Rattle.c_graph.proofs.block.add_followers.Goals as goal

pub loop-i-init : goal.loop-i-init
loop-i-init c =
    let xs = c.args.actions.now in
    let e : Exits = exits_of c.args.exits in
    let none : size_of (block_of (drop (length xs) xs)) ≡ 0 = block_past xs (length xs) (omega arith) in
    record {
      within = omega arith;
      begins = omega arith;
      is = λ f. sym (entry_past f xs (length xs) c.args.end c.args.to e (omega arith));
      followed = λ f. followed_none f xs c.args.end c.args.to e (length xs) c.args.found.now.items c.requires.none (omega arith);
    }

pub loop-i-preserved : goal.loop-i-preserved
loop-i-preserved c =
    let xs = c.args.actions.now in
    let e : Exits = exits_of c.args.exits in
    let i : ℕ = c.loop-i.i - 1 in
    let x : Action = c.index-actions-i.result in
    let many = c.in-Ok-attempt.field-0 in
    let begin = c.saturating_sub-begin.result in
    let inside = c.loop-i.invariant.within in
    let within : i < length xs = omega arith in
    let next : i + 1 ≡ c.loop-i.i = omega arith in
    let here : size_of (block_of (drop i xs)) ≡ size_of (action_of x) + size_of (block_of (drop c.loop-i.i xs)) =
    block_at xs i x within c.index-actions-i.is ∙ ap (λ (n : ℕ). size_of (action_of x) + size_of (block_of (drop n xs))) next in
    let left = block_left xs i in
    let all = c.requires.within in
    let count : many ≡ size_of (action_of x) = c.in-Ok-attempt.ensures.counted in
    let before : c.loop-i.begin + size_of (block_of (drop c.loop-i.i xs)) ≡ c.args.end = c.loop-i.invariant.begins in
    let less : begin ≡ c.loop-i.begin - many = c.saturating_sub-begin.ensures in
    record {
      within = omega arith;
      begins = omega arith;
      is = λ f.
          let size : many ≡ spec.size f (action_of x) = c.in-Ok-attempt.ensures.size f in
          let there : c.loop-i.begin ≡ begin + spec.size f (action_of x) = omega arith in
          c.in-Ok-attempt-next.ensures f ∙ ap (λ n. spec.entry f (action_of x) begin n e) (c.loop-i.invariant.is f)
          ∙ ap (λ (n : ℕ). spec.entry f (action_of x) begin (spec.entry f (block_of (drop n xs)) c.loop-i.begin c.args.to e) e) (sym next)
          ∙ sym (entry_at f xs i begin c.loop-i.begin x c.args.to e within c.index-actions-i.is there);
      followed = λ f.
          let now : AreFollowed f xs c.args.end c.args.to e (i + 1) c.loop-i.found.items = subst (λ (n : ℕ). AreFollowed f xs c.args.end c.args.to e n c.loop-i.found.items) (sym next) (c.loop-i.invariant.followed f) in
          let goes = next_is f xs c.args.end c.loop-i.begin c.args.to e c.loop-i.i c.loop-i.next before (c.loop-i.invariant.is f) ∙ ap (λ (n : ℕ). spec.entry f (block_of (drop n xs)) (c.args.end - size_of (block_of (drop n xs))) c.args.to e) (sym next) in
          subst (AreFollowed f xs c.args.end c.args.to e i) (sym c.in_ok-push.ensures.items) (followed_more f xs c.args.end c.args.to e i c.loop-i.found.items c.loop-i.next within now goes);
    }

pub returns : goal.returns
returns c = λ f.
    let none : c.loop-i.i ≡ 0 = omega arith in
    subst (λ (n : ℕ). AreFollowed f c.args.actions.now c.args.end c.args.to (exits_of c.args.exits) n c.loop-i.found.items) none (c.loop-i.invariant.followed f)
