use Rattle.c_types_scope.proofs.Tied.{taken-tied}
use Rattle.c_types_scope.proofs.entries.take_back.Goals as goal

pub returns-after-set_place-clause-tied : goal.returns-after-set_place-clause-tied
returns-after-set_place-clause-tied g c =
    taken-tied c.set_place.result c.args.entries.now.items c.pop.new.self.items c.in-Some.entry c.args.newest.now.entries c.set_place.new.newest.entries
    c.in-Some.ensures.items c.set_place.ensures.set c.set_place.ensures.absent
