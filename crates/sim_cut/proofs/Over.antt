-- The rules over frames of two given systems.
use Rattle.std.proofs.Common.{ℕ, Bool, sym, subst}
use Rattle.graph_core_spec.specs.TransitionSystem.{TransitionSystem, IsTransitionSystem}
use Rattle.graph_core_spec.specs.Simulation.{Frame, Hold, Simulates}
use Rattle.proof_tree_spec.specs.declared.Counts.{Counts}
use Rattle.proof_tree_spec.specs.Cuts.{AreCounts, IsAllowed, IsClear, IsKept, Splits, Calls, Holds, IsOver, IsFine}
use Rattle.sim_cut.proofs.Soundness.{split_is_sound, call_is_sound, hold_is_sound, fine_on}

module _ {A C : Type 0} (f : Frame A C) (entry : ℕ → A → C → Bool) (always : ℕ → A → Bool) (source_always : ℕ → C → Bool)
    (binary : TransitionSystem A) (source : TransitionSystem C)
    {binary_leads binary_lands : ℕ → ℕ → Type 0} {binary_kept : A → Type 0} {binary_count : ℕ}
    (binary_laws : IsTransitionSystem binary binary_leads binary_lands binary_kept binary_count)
    {source_leads source_lands : ℕ → ℕ → Type 0} {source_kept : C → Type 0} {source_count : ℕ}
    (source_laws : IsTransitionSystem source source_leads source_lands source_kept source_count)
    (over : IsOver f binary source)
    (kept : IsKept f (IsFine binary binary_kept always) (IsFine source source_kept source_always) entry) where
  binary_there : IsTransitionSystem f.binary binary_leads binary_lands binary_kept binary_count
  binary_there = subst (λ (w : TransitionSystem A). IsTransitionSystem w binary_leads binary_lands binary_kept binary_count) (sym over.of_binary) binary_laws

  source_there : IsTransitionSystem f.source source_leads source_lands source_kept source_count
  source_there = subst (λ (w : TransitionSystem C). IsTransitionSystem w source_leads source_lands source_kept source_count) (sym over.of_source) source_laws

  binary_fine : (x : A) → IsFine binary binary_kept always x → IsFine binary binary_kept always (f.binary.step x)
  binary_fine = subst (λ (w : TransitionSystem A). (x : A) → IsFine binary binary_kept always x → IsFine binary binary_kept always (w.step x)) (sym over.of_binary)
      (fine_on binary binary_laws always)

  source_fine : (y : C) → IsFine source source_kept source_always y → IsFine source source_kept source_always (f.source.step y)
  source_fine = subst (λ (w : TransitionSystem C). (y : C) → IsFine source source_kept source_always y → IsFine source source_kept source_always (w.step y)) (sym over.of_source)
      (fine_on source source_laws source_always)

  pub split : (cut : Hold A C) (enter step : Counts) → AreCounts enter → AreCounts step → IsAllowed f binary_leads source_leads cut
      → Splits f (IsFine binary binary_kept always) (IsFine source source_kept source_always) entry cut enter step
      → Simulates f (IsFine binary binary_kept always) (IsFine source source_kept source_always)
  split = split_is_sound f entry binary_there source_there over.counted binary_fine source_fine kept

  pub call : (call landing : Hold A C) → binary_lands call.binary landing.binary → source_lands call.source landing.source
      → IsAllowed f binary_leads source_leads call → IsClear f landing
      → Calls f (IsFine binary binary_kept always) (IsFine source source_kept source_always) entry call landing
      → Simulates f (IsFine binary binary_kept always) (IsFine source source_kept source_always)
  call = call_is_sound f entry binary_there source_there over.counted binary_fine source_fine kept

  pub hold : (cut : Hold A C) (step : Counts) → AreCounts step → IsAllowed f binary_leads source_leads cut
      → Holds f (IsFine binary binary_kept always) (IsFine source source_kept source_always) entry cut step
      → Simulates f (IsFine binary binary_kept always) (IsFine source source_kept source_always)
  hold = hold_is_sound f entry binary_there source_there over.counted binary_fine source_fine kept
