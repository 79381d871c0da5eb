use Rattle.std.proofs.Common.{refl}
use Rattle.term_norm.proofs.Steps.{waited}
use Rattle.term_norm.proofs.walk.Walk.wait.Goals as goal

pub returns-clause-on : goal.returns-clause-on
returns-clause-on c = λ start walk. waited c.args.self.now _ start c.args.id (λ k. refl) refl c.in_ok-push.ensures.items c.requires.below c.requires.wanted walk
