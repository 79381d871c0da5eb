use Rattle.std.proofs.Common.{[], ◌∷◌}
use Rattle.term_core_spec.specs.Term.{equal, bit_and, not_term, less}
use Rattle.proof_tree.specs.Frames.{terms_of}
use Rattle.sim_rules_spec.specs.Calling.{at_entry, global_pointer_lines, word}
use Rattle.cert_check_relations.proofs.Grown.{one_then}
use Rattle.cert_check_relations.proofs.relations.add_entry.Goals as goal

pub returns-5 : goal.returns-5
returns-5 c =
    let l0 = terms_of c.args.lines.now.items in
    let l1 = terms_of c.add_line.new.lines.items in
    let l2 = terms_of c.add_line-2.new.lines.items in
    let l3 = terms_of c.add_line-3.new.lines.items in
    let l4 = terms_of c.add_pointer.new.lines.items in
    let t1 = equal (bit_and (at_entry 1) (word 3)) (word 0) in
    let t2 = equal (bit_and (at_entry 2) (word 15)) (word 0) in
    let t3 = not_term (less (at_entry 2) (word c.args.stack)) in
    one_then l0 l3 l4 (t1 ∷ t2 ∷ t3 ∷ []) (global_pointer_lines c.args.pointer)
    (one_then l0 l2 l3 (t1 ∷ t2 ∷ []) (t3 ∷ [])
    (one_then l0 l1 l2 (t1 ∷ []) (t2 ∷ []) (c.in-Ok-attempt.ensures t1 c.aligned.ensures) (c.in-Ok-attempt-2.ensures t2 c.aligned-2.ensures))
    (c.in-Ok-attempt-3.ensures t3 c.has_room.ensures))
    c.in-Ok-attempt-4.ensures
