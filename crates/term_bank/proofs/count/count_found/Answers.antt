use Rattle.std.proofs.Common.{◌≡◌, ◌+◌, ap, ◌∙◌, arith, subst}
use Rattle.term_bank.specs.Subterms.{with_id}
use Rattle.term_bank.proofs.Subterms.{IsFound, is_id, found_first, found_more, counted, too_many}
use Rattle.term_bank.proofs.count.count_found.Goals as goal

pub loop-i-init : goal.loop-i-init
loop-i-init c =
    found_first c.args.bank.now c.args.id c.insert.new.self.keys c.requires.within (c.in_ok-insert.ensures.keys ∙ ap (λ l. with_id l c.args.id) c.requires.empty)

pub loop-i-preserved : goal.loop-i-preserved
loop-i-preserved c =
    found_more c.args.bank.now c.args.id c.loop-i.found.keys c.add_arguments.new.found.keys c.loop-i.i c.index.result.now c.node.result
    c.loop-i.invariant c.index.ensures c.node.ensures.children c.node.ensures.tree c.in_ok-add_arguments.ensures

pub returns-then-i-count : goal.returns-then-i-count
returns-then-i-count c =
    counted c.args.bank.now c.args.id c.loop-i.found.keys c.args.maximum c.loop-i.i c.are_distinct.ensures c.len-count.ensures.unique c.loop-i.invariant (omega arith) (omega arith)

pub returns-then-maximum-more : goal.returns-then-maximum-more
returns-then-maximum-more c =
    too_many c.args.bank.now c.args.id c.add_arguments.new.found.keys c.args.maximum (c.loop-i.i + 1) c.are_distinct.ensures c.len-more.ensures.unique
    (found_more c.args.bank.now c.args.id c.loop-i.found.keys c.add_arguments.new.found.keys c.loop-i.i c.index.result.now c.node.result
    c.loop-i.invariant c.index.ensures c.node.ensures.children c.node.ensures.tree c.in_ok-add_arguments.ensures)
    (omega arith)

pub returns-then-maximum-last : goal.returns-then-maximum-last
returns-then-maximum-last c =
    too_many c.args.bank.now c.args.id c.loop-i.found.keys c.args.maximum c.loop-i.i c.are_distinct.ensures c.len-last.ensures.unique c.loop-i.invariant (omega arith)

pub returns : goal.returns
returns c =
    let last : c.loop-i.i ≡ c.len-last.result = omega arith in
    counted c.args.bank.now c.args.id c.loop-i.found.keys c.args.maximum c.len-last.result c.are_distinct.ensures c.len-last.ensures.unique
    (subst (IsFound c.args.bank.now c.args.id c.loop-i.found.keys) last c.loop-i.invariant) (omega arith) (omega arith)

pub node-requires : goal.node-requires
node-requires c = c.loop-i.invariant.within c.index.result.now (is_id c.loop-i.found.keys c.loop-i.i c.index.result.now c.index.ensures)
