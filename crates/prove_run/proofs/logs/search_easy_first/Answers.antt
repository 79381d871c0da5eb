use Rattle.memory_spec.specs.Viewed.{runs_of}
use Rattle.prove_run.proofs.Searched.{searched_before, within_now}
use Rattle.prove_run.proofs.logs.search_easy_first.Goals as goal

pub search_each-requires : goal.search_each-requires
search_each-requires g c = within_now c.args.bank.now c.refuted.new.bank c.args.goals.now c.refuted.ensures.extends c.requires

pub returns-in-Ok-None : goal.returns-in-Ok-None
returns-in-Ok-None g c =
    searched_before (runs_of c.args.runs.now) c.args.bank.now c.refuted.new.bank c.args.goals.now c.refuted.ensures.extends c.requires c.search_each.result c.search_each.ensures
