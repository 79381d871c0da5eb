use Rattle.std.proofs.Common.{◌≡◌, ◌⊎◌, ℕ, sym, subst, inl, inr, OnOk}
use Rattle.elf_read_spec.specs.Image.{Image}
use Rattle.code_reach_spec.specs.Code as spec
use Rattle.code_reach.specs.declared.flows.Flow.{Flow}
use Rattle.code_reach.specs.declared.flows.Flow.TheVariants.{Links, Stops}
use Rattle.code_reach.specs.Flows.{flow_seen}
use Rattle.decompile.specs.Built.{AddsFlow}
use Rattle.decompile.proofs.function.Function.add_block.Goals as goal

-- what holds of an error's flow, whichever it is
of_error : (image : Image) (P : spec.Flow → Type 0) (flow : Flow) → ((target : ℕ) × (flow ≡ Links target)) ⊎ (flow ≡ Stops)
    → ((target : ℕ) → P (spec.Links target)) → P spec.Stops → P (flow_seen image flow)
of_error image P flow (inl links) on_link on_stop = subst (λ (f : Flow). P (flow_seen image f)) (sym links.1) (on_link links.0)
of_error image P flow (inr stops) on_link on_stop = subst (λ (f : Flow). P (flow_seen image f)) (sym stops) on_stop

pub returns-in-Links : goal.returns-in-Links
returns-in-Links c =
    of_error c.args.image.now (λ (flow : spec.Flow). OnOk c.add_error.result (AddsFlow c.args.self.now c.args.graph.now c.add_error.new.graph c.args.item.now flow))
    c.args.item.now.flow c.in-Links.is c.add_error.ensures.links c.add_error.ensures.stops
