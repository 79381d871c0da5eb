use Rattle.std.proofs.Common.{◌≡◌, ◌∙◌, List, [], ◌∷◌, ◌++◌, ap, append_assoc}
use Rattle.term_core_spec.specs.Term.{Term, equal, bit_and, not_term, less, subtract}
use Rattle.term_core.specs.Trees.{term_of}
use Rattle.proof_tree.specs.Frames.{terms_of}
use Rattle.sim_rules_spec.specs.Calling.{register, word, at_entry}
use Rattle.sim_calls.proofs.callee.add_zone_lines.Goals as goal

then : (first middle new xs : List Term) (b : Term) → middle ≡ first ++ xs → new ≡ middle ++ b ∷ [] → new ≡ first ++ (xs ++ b ∷ [])
then first middle new xs b e f = f ∙ ap (λ (l : List Term). l ++ b ∷ []) e ∙ append_assoc first xs (b ∷ [])

pub returns : goal.returns
returns c =
    let from = term_of c.args.from.now in
    let to = term_of c.args.to.now in
    let l0 = terms_of c.args.lines.now.items in
    let l1 = terms_of c.add_line.new.lines.items in
    let l2 = terms_of c.add_line-2.new.lines.items in
    let l3 = terms_of c.add_line-3.new.lines.items in
    let l4 = terms_of c.add_line-4.new.lines.items in
    let l5 = terms_of c.add_line-5.new.lines.items in
    let l6 = terms_of c.add_line-6.new.lines.items in
    let t1 = equal (bit_and (register 1) (word 3)) (word 0) in
    let t2 = equal (bit_and (register 2) (word 15)) (word 0) in
    let t3 = not_term (less (register 2) from) in
    let t4 = not_term (less (subtract (register 2) from) (word c.args.stack)) in
    let t5 = not_term (less to (register 2)) in
    let t6 = equal (register 3) (at_entry 3) in
    let e1 = c.in_ok-add_line.ensures t1 c.aligned.ensures in
    let e2 = c.in_ok-add_line-2.ensures t2 c.aligned-2.ensures in
    let e3 = c.in_ok-add_line-3.ensures t3 (c.not_below.ensures (register 2) from c.stack_pointer.ensures c.copy.ensures) in
    let e4 = c.in_ok-add_line-4.ensures t4 c.has_room.ensures in
    let e5 = c.in_ok-add_line-5.ensures t5 (c.not_below-2.ensures to (register 2) c.copy-2.ensures c.stack_pointer-2.ensures) in
    let e6 = c.in_ok-add_line-6.ensures t6 c.global_pointer.ensures in
    then l0 l5 l6 (t1 ∷ t2 ∷ t3 ∷ t4 ∷ t5 ∷ []) t6
    (then l0 l4 l5 (t1 ∷ t2 ∷ t3 ∷ t4 ∷ []) t5
    (then l0 l3 l4 (t1 ∷ t2 ∷ t3 ∷ []) t4
    (then l0 l2 l3 (t1 ∷ t2 ∷ []) t3
    (then l0 l1 l2 (t1 ∷ []) t2 e1 e2) e3) e4) e5) e6
