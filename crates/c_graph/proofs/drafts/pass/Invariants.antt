use Rattle.c_graph.specs.Frames.{setting_in}
use Rattle.c_graph.proofs.Drafted.{Passing}
use Rattle.c_graph.proofs.drafts.pass.Given as goal

abbrev pub invariant-loop-number : goal.invariant-loop-number
invariant-loop-number l = Passing (setting_in l.frame) l.arguments l.number l.fn.bank l.bank l.fn.tests.items l.tests.items l.fn.inputs.items l.inputs.items
