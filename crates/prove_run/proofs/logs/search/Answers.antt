use Rattle.memory_spec.specs.Viewed.{runs_of}
use Rattle.prove_run.proofs.Searched.{searched_before, within_now}
use Rattle.prove_run.proofs.logs.search.Goals as goal

pub search_easy_first-requires : goal.search_easy_first-requires
search_easy_first-requires g c = within_now c.args.bank.now c.note_premises.new.bank c.args.goals.now c.note_premises.ensures c.requires

pub returns-in-Ok : goal.returns-in-Ok
returns-in-Ok g c =
    searched_before (runs_of c.args.runs.now) c.args.bank.now c.note_premises.new.bank c.args.goals.now c.note_premises.ensures c.requires c.search_easy_first.result c.search_easy_first.ensures
