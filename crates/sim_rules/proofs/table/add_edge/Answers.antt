use Rattle.std.proofs.Common.{inl, inr}
use Rattle.std.proofs.lemmas.Result.{on_ok_weaker}
use Rattle.sim_rules.specs.Tables.{lists_of}
use Rattle.sim_rules.proofs.Gaining.{gains-at, gains-err, gains-ret}
use Rattle.sim_rules.proofs.table.add_edge.Goals as goal

pub returns-in-At : goal.returns-in-At
returns-in-At c =
    on_ok_weaker c.add_source.result (gains-at c.args.from c.args.to (lists_of c.args.before.now.items) (lists_of c.add_source.new.before.items) c.in-At.node c.in-At.is) c.add_source.ensures

pub returns-in-Ret : goal.returns-in-Ret
returns-in-Ret c =
    let old = lists_of c.args.before.now.items in
    elim c.in-Ret.is [ inl is ↦ gains-ret c.args.from c.args.to old old is | inr is ↦ gains-err c.args.from c.args.to old old is ]
