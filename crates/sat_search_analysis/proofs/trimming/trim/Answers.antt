use Rattle.std.proofs.Common.{length, subst}
use Rattle.sat_search_spec.specs.Trimming.{IsTrimming}
use Rattle.sat_search_analysis.specs.Passes.{IsBackward}
use Rattle.sat_search_analysis.proofs.Trimmed.{trimmed}
use Rattle.sat_search_analysis.proofs.trimming.trim.Goals as goal

pub returns : goal.returns
returns c = λ cnf e closing.
    trimmed cnf c.args.given c.args.log.now c.in_ok-needed.needed.items c.trim_steps.new.places.items c.trim_steps.new.trimmed.items e closing
    c.in_ok-needed.ensures.needed
    (subst (λ needed. IsBackward c.args.given c.args.log.now
    → IsTrimming c.args.given c.args.log.now needed (length c.args.log.now) c.trim_steps.new.places.items c.trim_steps.new.trimmed.items)
    c.as_slice.ensures.value c.in_ok-trim_steps.ensures)
