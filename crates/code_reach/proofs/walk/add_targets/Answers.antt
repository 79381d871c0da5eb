use Rattle.std.proofs.Common.{◌≡◌, ◌⊎◌, ℕ, List, [], ◌∷◌, sym, ap, subst, inl, inr}
use Rattle.std.specs.Prelude.{Contains}
use Rattle.elf_read_spec.specs.Image.{Image}
use Rattle.code_reach_spec.specs.Faults.{targets_of}
use Rattle.code_reach.specs.declared.flows.Flow.{Flow}
use Rattle.code_reach.specs.declared.flows.Flow.TheVariants.{Branches, Jumps, Links}
use Rattle.code_reach.specs.Flows.{flow_seen}
use Rattle.code_reach.specs.Growth.{Grows}
use Rattle.code_reach.proofs.Growing.{target-one}
use Rattle.code_reach.proofs.walk.add_targets.Goals as goal

only_target : (image : Image) (flow : Flow) (target : ℕ) → (flow ≡ Branches target) ⊎ ((flow ≡ Jumps target) ⊎ (flow ≡ Links target))
    → targets_of (flow_seen image flow) ≡ target ∷ []
only_target image flow target (inl e) = ap (λ (f : Flow). targets_of (flow_seen image f)) e
only_target image flow target (inr (inl e)) = ap (λ (f : Flow). targets_of (flow_seen image f)) e
only_target image flow target (inr (inr e)) = ap (λ (f : Flow). targets_of (flow_seen image f)) e

pub returns-in_ok-add-in-Branches : goal.returns-in_ok-add-in-Branches
returns-in_ok-add-in-Branches c =
    subst (λ (ts : List ℕ). Grows (Contains ts) c.args.targets.now.keys c.add.new.items.keys)
    (sym (only_target c.args.image.now c.args.flow c.in-Branches.target c.in-Branches.is))
    (target-one c.in-Branches.target c.args.targets.now.keys c.add.new.items.keys c.in_ok-add-in-Branches.ensures)
