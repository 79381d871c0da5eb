use Rattle.std.proofs.Common.{◌≡◌, ◌∙◌, ℕ, ◌+◌, ◌-◌, ◌<◌, true, false, length, drop, sym, ap, arith}
use Rattle.std.proofs.lemmas.Result.{IfOk-weaker}
use Rattle.c_types_spec.specs.Core as tree
use Rattle.c_types_core.specs.Expressions.{core_of}
use Rattle.c_types_core.specs.Actions.{action_of}
use Rattle.c_types_core.specs.declared.action.Action.{Action}
use Rattle.c_types_core.specs.declared.action.Group.{out-Group}
use Rattle.c_types_core.proofs.ActionViews.{Switch-view}
use Rattle.c_graph_spec.specs.Layout as spec
use Rattle.c_graph_spec.specs.Layout.{Setting, Exits}
use Rattle.c_graph_layout.specs.Counts.{size_of}
use Rattle.c_graph_layout.specs.Exits.{exits_of}
use Rattle.c_graph_layout.specs.Lists.{block_of, groups_of}
use Rattle.c_graph_layout.proofs.Blocks.{block_at, block_left, block_past}
use Rattle.c_graph_layout.proofs.Begun.{entry_at, entry_past, otherwise_at, otherwise_past, switch_entry}
use Rattle.c_graph_layout.proofs.entries.+entries.Goals as goal

pub block_entry-loop-i-init : goal.block_entry-loop-i-init
block_entry-loop-i-init t c =
    let xs = c.args.actions.now in
    let past : size_of (block_of (drop (length xs) xs)) ≡ 0 = block_past xs (length xs) (omega arith) in
    let begin : c.in-Ok-attempt.field-0 ≡ c.args.at + size_of (block_of xs) = c.in-Ok-attempt.ensures in
    record {
      within = omega arith;
      begins = omega arith;
      is = λ f. sym (entry_past f xs (length xs) c.in-Ok-attempt.field-0 c.args.to (exits_of c.args.exits) (omega arith));
    }

pub block_entry-loop-i-preserved : goal.block_entry-loop-i-preserved
block_entry-loop-i-preserved t c =
    let xs = c.args.actions.now in
    let i : ℕ = c.loop-i.i - 1 in
    let x : Action = c.index-actions-i.result in
    let many = c.in-Ok-attempt-many.field-0 in
    let begin = c.saturating_sub-begin.result in
    let e : Exits = exits_of c.args.exits in
    let inside = c.loop-i.invariant.within in
    let within : i < length xs = omega arith in
    let next : i + 1 ≡ c.loop-i.i = omega arith in
    let here : size_of (block_of (drop i xs)) ≡ size_of (action_of x) + size_of (block_of (drop c.loop-i.i xs)) =
    block_at xs i x within c.index-actions-i.is ∙ ap (λ (n : ℕ). size_of (action_of x) + size_of (block_of (drop n xs))) next in
    let left = block_left xs i in
    let count : many ≡ size_of (action_of x) = c.in-Ok-attempt-many.ensures.counted in
    let before : c.loop-i.begin + size_of (block_of (drop c.loop-i.i xs)) ≡ c.args.at + size_of (block_of xs) = c.loop-i.invariant.begins in
    let less : begin ≡ c.loop-i.begin - many = c.saturating_sub-begin.ensures in
    record {
      within = omega arith;
      begins = omega arith;
      is = λ f.
          let size : many ≡ spec.size f (action_of x) = c.in-Ok-attempt-many.ensures.size f in
          let there : c.loop-i.begin ≡ begin + spec.size f (action_of x) = omega arith in
          c.in-Ok-attempt-next.ensures f ∙ ap (λ n. spec.entry f (action_of x) begin n e) (c.loop-i.invariant.is f)
          ∙ ap (λ (n : ℕ). spec.entry f (action_of x) begin (spec.entry f (block_of (drop n xs)) c.loop-i.begin c.args.to e) e) (sym next)
          ∙ sym (entry_at f xs i begin c.loop-i.begin x c.args.to e within c.index-actions-i.is there);
    }

pub entry-returns-in-Ok-attempt-other : goal.entry-returns-in-Ok-attempt-other
entry-returns-in-Ok-attempt-other t c = λ f.
    let e : Exits = exits_of c.args.exits in
    let test : tree.Core = core_of c.in-Switch.test.value in
    let items = c.in-Switch.groups.items in
    let tests_is : c.in-Ok-attempt-tests.field-0 ≡ spec.count f test = c.in-Ok-attempt-tests.ensures f ∙ ap (λ x. spec.count f (core_of x)) c.deref-in-Switch.ensures in
    let many_is : c.in-Ok-attempt-many.field-0 ≡ c.in-Ok-attempt-tests.field-0 + spec.case_count (groups_of items) =
    c.in-Ok-attempt-many.ensures ∙ ap (λ l. c.in-Ok-attempt-tests.field-0 + spec.case_count (groups_of l)) c.as_slice-in-Switch.ensures.value in
    let begin_is : c.in-Ok-attempt-begin.field-0 ≡ c.args.at + c.in-Ok-attempt-many.field-0 = c.in-Ok-attempt-begin.ensures in
    let other_is : c.in-Ok-attempt-other.field-0 ≡ spec.otherwise f (groups_of items) c.in-Ok-attempt-begin.field-0 c.args.to e =
    c.in-Ok-attempt-other.ensures f ∙ ap (λ l. spec.otherwise f (groups_of l) c.in-Ok-attempt-begin.field-0 c.args.to e) c.as_slice-in-Switch-2.ensures.value in
    c.first-in-Switch.ensures
    ∙ switch_entry f test (groups_of items) c.args.at c.in-Ok-attempt-tests.field-0 c.in-Ok-attempt-many.field-0 c.in-Ok-attempt-begin.field-0 c.args.to c.in-Ok-attempt-other.field-0 e tests_is many_is begin_is other_is
    ∙ sym (ap (λ (a : tree.Action). spec.entry f a c.args.at c.args.to e) (ap action_of c.in-Switch.is ∙ Switch-view _ _))

pub otherwise-returns-then-has_default : goal.otherwise-returns-then-has_default
otherwise-returns-then-has_default t c = λ f.
    let xs = c.args.groups.now in
    let i = c.loop-group.group-index in
    let g = c.group-item.result in
    let e : Exits = exits_of c.args.exits in
    let inside : Exits = spec.exits c.args.to e.continues in
    let test : spec.has_default (out-Group g).labels.items ≡ true = ap spec.has_default (sym c.as_slice.ensures.value) ∙ sym c.has_default.ensures ∙ c.if-has_default.true in
    let path : spec.entry f (action_of c.deref.result.now) c.loop-group.begin c.args.to inside ≡ spec.otherwise f (groups_of xs) c.args.at c.args.to e =
    ap (λ a. spec.entry f (action_of a) c.loop-group.begin c.args.to inside) c.deref.ensures
    ∙ sym (otherwise_at f xs i c.loop-group.begin g true c.args.to e c.loop-group-test.true c.group-item.is test) ∙ c.loop-group.invariant f in
    IfOk-weaker c.entry.result _ _ (λ n h. h ∙ path) (c.entry.ensures f)

pub otherwise-loop-group-preserved : goal.otherwise-loop-group-preserved
otherwise-loop-group-preserved t c = λ f.
    let xs = c.args.groups.now in
    let i = c.loop-group.group-index in
    let g = c.group-item.result in
    let e : Exits = exits_of c.args.exits in
    let test : spec.has_default (out-Group g).labels.items ≡ false = ap spec.has_default (sym c.as_slice.ensures.value) ∙ sym c.has_default.ensures ∙ c.if-has_default.false in
    let many : c.in-Ok-attempt.field-0 ≡ spec.size f (action_of (out-Group g).body.value) = c.in-Ok-attempt.ensures.size f ∙ ap (λ a. spec.size f (action_of a)) c.deref-in-loop-group.ensures in
    let begin : c.in-Ok-attempt-begin.field-0 ≡ c.loop-group.begin + spec.size f (action_of (out-Group g).body.value) = c.in-Ok-attempt-begin.ensures ∙ ap (λ n. c.loop-group.begin + n) many in
    ap (λ n. spec.otherwise f (groups_of (drop (i + 1) xs)) n c.args.to e) begin
    ∙ sym (otherwise_at f xs i c.loop-group.begin g false c.args.to e c.loop-group-test.true c.group-item.is test) ∙ c.loop-group.invariant f

pub otherwise-returns : goal.otherwise-returns
otherwise-returns t c = λ f.
    let xs = c.args.groups.now in
    let e : Exits = exits_of c.args.exits in
    sym (sym (c.loop-group.invariant f) ∙ otherwise_past f xs c.loop-group.group-index c.loop-group.begin c.args.to e c.loop-group-test.false)
