use Rattle.std.proofs.Common.{refl}
use Rattle.term_norm.proofs.Steps.{popped}
use Rattle.term_norm.proofs.walk.Walk.note.Goals as goal

pub returns-in-Some-clause-end : goal.returns-in-Some-clause-end
returns-in-Some-clause-end c = λ start walk. popped c.args.self.now _ start c.args.form c.in_ok-insert.ensures.updates.0 walk c.in-Some.id refl c.in-Some.ensures.items
