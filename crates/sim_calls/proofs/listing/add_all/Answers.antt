use Rattle.std.proofs.Common.{List}
use Rattle.term_core_spec.specs.declared.Variable.{Variable}
use Rattle.term_core.specs.Trees.{term_of}
use Rattle.sim_calls.proofs.Listings.{lists_later}
use Rattle.sim_calls.proofs.listing.add_all.Goals as goal

pub returns : goal.returns
returns c =
    let v1 : List Variable = c.add_lines.new.variables.keys in
    let v2 : List Variable = c.add_line.new.variables.keys in
    let v3 : List Variable = c.add_bank.new.variables.keys in
    record {
      of_lines = λ i line there.
          lists_later v2 v3 c.in_ok-add_bank.ensures.kept line (lists_later v1 v2 c.in_ok-add_line.ensures.kept line (c.in_ok-add_lines.ensures.listed i line there));
      of_last = lists_later v2 v3 c.in_ok-add_bank.ensures.kept (term_of c.args.last.now) c.in_ok-add_line.ensures.listed;
      of_bank = c.in_ok-add_bank.ensures.listed;
    }
