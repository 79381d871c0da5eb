use Rattle.std.proofs.Common.{◌≡◌, ◌∙◌, ℕ, ◌+◌, ◌-◌, ◌<◌, length, sym, subst, arith}
use Rattle.term_bank.specs.Nodes.{tree_at, build}
use Rattle.term_bank.proofs.Substitution.{is_at}
use Rattle.graph_inline.specs.Marks.{AreClosed}
use Rattle.graph_inline.proofs.Closing.{node_below, closes, closes_unmarked, more_marked}
use Rattle.graph_inline.proofs.Marked.{closed_at_end}
use Rattle.graph_inline.proofs.marking.mark_subterms.Goals as goal

pub loop-id-init : goal.loop-id-init
loop-id-init c = record { count = c.requires; closed = subst (λ (k : ℕ). AreClosed k c.args.bank.now c.args.marks.now) (sym c.len-id.ensures) (closed_at_end c.args.bank.now c.args.marks.now c.requires); more = λ id marked. marked }

pub mark_arguments-requires : goal.mark_arguments-requires
mark_arguments-requires c =
    node_below (c.loop-id.id - 1) (length c.loop-id.marks) c.node.result (omega (arith, c.loop-id.invariant.count, c.loop-id-test.true)) c.node.ensures.children

pub loop-id-preserved-then-marks-id : goal.loop-id-preserved-then-marks-id
loop-id-preserved-then-marks-id c =
    let trees = c.args.bank.now in
    let n : ℕ = c.loop-id.id - 1 in
    let before : c.loop-id.id ≡ n + 1 = omega (arith, c.loop-id-test.true) in
    let inside : n < length trees = omega (arith, c.loop-id-test.true) in
    let tree : tree_at trees n ≡ build trees c.node.result = is_at trees n (build trees c.node.result) c.node.ensures.tree in
    record {
      count = c.mark_arguments.ensures.count ∙ c.loop-id.invariant.count;
      closed = closes trees c.are_distinct.ensures c.loop-id.marks c.mark_arguments.new.marks n c.node.result c.mark_arguments.ensures.marks c.node.ensures.children inside tree
          (subst (λ (k : ℕ). AreClosed k trees c.loop-id.marks) before c.loop-id.invariant.closed);
      more = λ id marked.
          more_marked trees c.are_distinct.ensures c.loop-id.marks c.mark_arguments.new.marks n c.node.result c.mark_arguments.ensures.marks c.node.ensures.children inside tree id
          (c.loop-id.invariant.more id marked);
    }

pub loop-id-preserved : goal.loop-id-preserved
loop-id-preserved c =
    let n : ℕ = c.loop-id.id - 1 in
    let before : c.loop-id.id ≡ n + 1 = omega (arith, c.loop-id-test.true) in
    record {
      count = c.loop-id.invariant.count;
      closed = closes_unmarked c.args.bank.now c.loop-id.marks n c.if-marks-id.false (subst (λ (k : ℕ). AreClosed k c.args.bank.now c.loop-id.marks) before c.loop-id.invariant.closed);
      more = c.loop-id.invariant.more;
    }
