use Rattle.std.proofs.Common.{◌-◌, length, drop}
use Rattle.std.specs.HashMap.{get}
use Rattle.term_core_spec.specs.Same.{same_variable}
use Rattle.term_bank.specs.Nodes.{Extends}
use Rattle.path_cond.specs.States.{IsMapOf}
use Rattle.cert_check_frames.specs.Listed.{terms_given}
use Rattle.cert_check_frames.proofs.entry.add_facts.Given as goal

-- the terms of the last variables so far
abbrev pub invariant-loop-index : goal.invariant-loop-index
invariant-loop-index l = record {
  terms : IsMapOf l.bank (get same_variable l.known) (terms_given (drop (length l.facts - l.index) l.facts));
  extends : Extends l.fn.bank l.bank;
}
