use Rattle.std.proofs.Common.{◌≡◌, ◌∙◌, Some, sym, ap}
use Rattle.pair_setup_calls.specs.Graph.{Grows}
use Rattle.pair_setup_calls.proofs.Growing.{grows-as, grows-kept}
use Rattle.pair_setup.specs.Walks.{IsCalled}
use Rattle.pair_setup.proofs.Added.{on-ok}
use Rattle.pair_setup.proofs.walk.add_callee.Goals as goal

pub returns-in-Some : goal.returns-in-Some
returns-in-Some c =
    let there : Some c.in-Some.target ≡ c.args.step.callee = sym c.in-Some.is in
    on-ok c.add.result (Grows (λ t. t ≡ c.in-Some.target) c.args.entries.now.keys c.add.new.entries.keys) (Grows (IsCalled c.args.step) c.args.entries.now.keys c.add.new.entries.keys)
    (grows-as (λ t. t ≡ c.in-Some.target) (IsCalled c.args.step) c.args.entries.now.keys c.add.new.entries.keys (λ t e. sym there ∙ ap Some (sym e))
    (λ t e. let both : Some c.in-Some.target ≡ Some t = there ∙ e in cc)) c.add.ensures

pub returns-in-None : goal.returns-in-None
returns-in-None c = grows-kept (IsCalled c.args.step) c.args.entries.now.keys (λ t e. absurd (let none = c.in-None.is in cc))
