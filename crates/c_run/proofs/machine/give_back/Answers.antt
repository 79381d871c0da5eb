use Rattle.std.proofs.Common.{refl, arith}
use Rattle.std.proofs.lemmas.List.{nil_from_length}
use Rattle.c_run.proofs.Driving.{gives_back, goes_back}
use Rattle.c_run.proofs.machine.give_back.Goals as goal

pub returns-in_default : goal.returns-in_default
returns-in_default c = λ memory. gives_back _ c.args.machine.now memory (nil_from_length c.args.machine.now.waiting.items (omega (arith, c.args.machine.now.waiting.ok.0, c.in_default.ensures.cases.0)))

pub returns : goal.returns
returns c = λ memory. tt {0}

pub returns-2 : goal.returns-2
returns-2 c = λ memory. goes_back _ c.args.machine.now memory (record { frame = c.receive.new.frame; waiting = c.pop.new.self; left = c.args.machine.now.left }) c.in-Some.caller c.in-Some.ensures.items c.in-Ok-attempt.ensures refl
