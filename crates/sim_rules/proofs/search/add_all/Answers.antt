use Rattle.std.proofs.Common.{◌≡◌, ℕ, List, [], take, get_or, sym, ap, subst}
use Rattle.std.specs.Prelude.{Contains}
use Rattle.std.proofs.lemmas.List.{take_all}
use Rattle.proof_tree.specs.Ahead.{Grows}
use Rattle.proof_tree.proofs.Ahead.{grows-insert, grows-none, none_contained}
use Rattle.sim_rules.proofs.Growing.{grows_one}
use Rattle.sim_rules.proofs.search.add_all.Goals as goal

pub loop-i-init : goal.loop-i-init
loop-i-init c = grows-none (λ k. Contains [] k) c.args.found.now.keys none_contained

pub loop-i-preserved : goal.loop-i-preserved
loop-i-preserved c =
    let x = get_or c.args.nodes.now c.loop-i.i 0 in
    grows_one c.args.nodes.now c.args.found.now.keys c.loop-i.found.keys c.insert.new.self.keys c.loop-i.i 0 c.loop-i-test.true c.loop-i.invariant
    (subst (λ (l : List ℕ). Grows (λ k. x ≡ k) c.loop-i.found.keys l) (sym c.in-Ok-attempt.ensures.keys) (grows-insert c.loop-i.found.keys x))

pub returns : goal.returns
returns c = subst (λ (l : List ℕ). Grows (λ k. Contains l k) c.args.found.now.keys c.loop-i.found.keys) (take_all c.loop-i.i c.args.nodes.now c.loop-i-test.false) c.loop-i.invariant
