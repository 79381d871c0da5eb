use Rattle.std.proofs.Common.{[], length, sym, subst}
use Rattle.cert_check_terms.specs.Reading as spec
use Rattle.cert_check_terms.specs.Views.{entries_of, arguments_of, AreSubtermsInside}
use Rattle.cert_check_terms.specs.Outcomes.{IsMade}
use Rattle.cert_check_terms.proofs.Stacks.{unchanged, closed_next, not_closed}
use Rattle.cert_check_terms.proofs.closing.close.Goals as goal

pub around-made-requires : goal.around-made-requires
around-made-requires c = subst (AreSubtermsInside (length c.args.bank.now)) (sym c.as_slice.ensures.value) (c.in-Ok.ensures c.args.bank.now c.requires).arguments_inside

pub returns-in-Ok-clause-next : goal.returns-in-Ok-clause-next
returns-in-Ok-clause-next c =
    closed_next c.args.bank.now c.around-made.new.bank c.around-made.ensures.extends c.args.entries.now.items c.take_arguments.new.entries.items c.push_made.new.entries.items
    c.take_arguments.new.arguments.items c.in-Ok.operator c.around-made.result c.push_made.result (c.in-Ok.ensures c.args.bank.now c.requires)
    (subst (λ xs. IsMade c.around-made.new.bank (spec.around c.in-Ok.operator (arguments_of c.args.bank.now xs)) c.around-made.result) c.as_slice.ensures.value c.around-made.ensures.made)
    c.push_made.ensures

pub returns-in-Err-clause-next : goal.returns-in-Err-clause-next
returns-in-Err-clause-next c =
    not_closed c.args.bank.now (spec.closing (entries_of c.args.bank.now c.args.entries.now.items) []) c.take_arguments.new.entries.items c.take_arguments.new.entries.items
    c.take_arguments.new.arguments.items c.in-Err.fault (c.in-Err.ensures c.args.bank.now c.requires)

pub returns-in-Err-clause-extends : goal.returns-in-Err-clause-extends
returns-in-Err-clause-extends c = unchanged c.args.bank.now
