use Rattle.std.proofs.Common.{◌≡◌, ◌∙◌, ◌-◌, ℕ, sym, ap, arith}
use Rattle.code_reach.specs.declared.flows.Flow.{Flow}
use Rattle.code_reach.specs.Flows.{flow_seen}
use Rattle.decompile.specs.Counts.{further_by}
use Rattle.decompile.proofs.Tabled.{targets_long}
use Rattle.decompile.proofs.numbers.further_nodes.Goals as goal

pub returns-in-Switches : goal.returns-in-Switches
returns-in-Switches c =
    λ image.
    let count : c.saturating_sub.result ≡ c.in-Switches.jump.count - 1 = omega arith in
    count ∙ ap (λ (n : ℕ). n - 1) (sym (targets_long image c.in-Switches.jump.first c.in-Switches.jump.count))
    ∙ sym (ap (λ (flow : Flow). further_by c.args.by c.args.item.now.keeps c.args.item.now.instruction (flow_seen image flow)) c.in-Switches.is)
