use Rattle.std.proofs.Common.{◌≡◌, ◌∙◌}
use Rattle.term_core_spec.specs.Term.{byte}
use Rattle.term_bank.specs.Nodes.{tree_at}
use Rattle.term_norm_rules.proofs.Sameness.{same_byte, not_same_byte}
use Rattle.term_norm_rules.proofs.bytes.is_byte_of.Goals as goal

pub returns-in-Unary-Byte-default : goal.returns-in-Unary-Byte-default
returns-in-Unary-Byte-default c =
    let arm = c.in-Unary-Byte-default in
    let place : arm.at ≡ c.args.place = cc in
    c.same.ensures
    ∙ same_byte (tree_at c.args.bank.now c.args.x) (tree_at c.args.bank.now arm.a) (tree_at c.args.bank.now c.args.word) arm.at c.args.place (rw arm.field-0-is at arm.ensures.tree) place

pub returns-in_default : goal.returns-in_default
returns-in_default c =
    let arm = c.in-Unary-Byte-default in
    let is : tree_at c.args.bank.now c.args.x ≡ byte arm.at (tree_at c.args.bank.now arm.a) = rw arm.field-0-is at arm.ensures.tree in
    not_same_byte (tree_at c.args.bank.now c.args.x) (tree_at c.args.bank.now c.args.word) c.args.place
    (λ e. let place : c.from.result ≡ c.args.place = cc in c.if-from-place.false place)
