use Rattle.std.proofs.Common.{subst, arith, rules}
use Rattle.c_types_spec.specs.Expressions as rule
use Rattle.c_types_layout.specs.Types.{type_of}
use Rattle.c_types_scope.specs.States.{state_of, Runs}
use Rattle.c_types_layout.specs.Structs.{layout_of}
use Rattle.c_types_expression.proofs.Parts.{struct-read, enum-read}
use Rattle.c_types_expression.proofs.Rows.{members-next, members-failed}
use Rattle.c_types_expression.proofs.expression.+expressions.Goals as goal

pub type_specifier-returns-in-Struct : goal.type_specifier-returns-in-Struct
type_specifier-returns-in-Struct t c =
    subst (λ b. Runs type_of c.structure.result c.structure.new.state (rule.type_specifier b (state_of c.args.state.now)))
    (struct-read c.args.base.now c.in-Struct.tag c.in-Struct.list c.as_slice.result.now c.in-Struct.is c.as_slice.ensures.value) c.structure.ensures

pub type_specifier-returns-in-Enum : goal.type_specifier-returns-in-Enum
type_specifier-returns-in-Enum t c =
    subst (λ b. Runs type_of c.enumeration.result c.enumeration.new.state (rule.type_specifier b (state_of c.args.state.now)))
    (enum-read c.args.base.now c.in-Enum.tag c.in-Enum.list c.as_slice-in-Enum.result.now c.in-Enum.is c.as_slice-in-Enum.ensures.value) c.enumeration.ensures

pub members-loop-item-preserved : goal.members-loop-item-preserved
members-loop-item-preserved t c =
    members-next c.args.list.now c.loop-item.item-index c.item-item.result c.deref.result.now (layout_of c.loop-item.layout) (layout_of c.member_row.new.layout) (state_of c.loop-item.state) (state_of c.member_row.new.state) _
    c.item-item.is c.deref.ensures (omega arith) c.in-Ok.ensures c.loop-item.invariant

pub members-returns-in-Err : goal.members-returns-in-Err
members-returns-in-Err t c =
    members-failed c.args.list.now c.loop-item.item-index c.item-item.result c.deref.result.now (layout_of c.loop-item.layout) (state_of c.loop-item.state) _ c.in-Err.fault (λ _. layout_of c.member_row.new.layout) c.member_row.new.state
    c.item-item.is c.deref.ensures (omega arith) c.in-Err.ensures c.loop-item.invariant

pub expression-index-requires : goal.expression-index-requires
expression-index-requires t c = (search rules, (_, _, _, c.in-Index.is))

pub expression-binary-requires : goal.expression-binary-requires
expression-binary-requires t c = (search rules, (_, _, _, _, c.in-Binary.is))

pub expression-choice-requires : goal.expression-choice-requires
expression-choice-requires t c = (search rules, (_, _, _, _, c.in-Conditional.is))

pub index-unreachable-requires : goal.index-unreachable-requires
index-unreachable-requires t c = c.in_default.not-Index c.requires.0 c.requires.1 c.requires.2 c.requires.3

pub binary-unreachable-requires : goal.binary-unreachable-requires
binary-unreachable-requires t c = c.in_default.not-Binary c.requires.0 c.requires.1 c.requires.2 c.requires.3 c.requires.4

pub choice-unreachable-requires : goal.choice-unreachable-requires
choice-unreachable-requires t c = c.in_default.not-Conditional c.requires.0 c.requires.1 c.requires.2 c.requires.3 c.requires.4
