use Rattle.std.proofs.Common.{◌≡◌, ◌⊎◌, ℕ, inl, inr}
use Rattle.std.proofs.lemmas.Result.{on_ok_weaker}
use Rattle.graph_core_spec.specs.declared.Next.TheVariants as next
use Rattle.sim_rules.specs.Tables.{lists_of}
use Rattle.sim_rules.proofs.Gaining.{gains-as, gains-then}
use Rattle.sim_rules.proofs.table.add_both.Goals as goal

pub returns-2 : goal.returns-2
returns-2 c =
    let E : ℕ → ℕ → Type 0 = λ k n. (c.args.from ≡ k) × (c.args.on_true ≡ next.At n) in
    let F : ℕ → ℕ → Type 0 = λ k n. (c.args.from ≡ k) × (c.args.on_false ≡ next.At n) in
    let both : ℕ → ℕ → Type 0 = λ k n. (c.args.from ≡ k) × ((c.args.on_true ≡ next.At n) ⊎ (c.args.on_false ≡ next.At n)) in
    let old = lists_of c.args.before.now.items in
    let mid = lists_of c.add_edge.new.before.items in
    let new = lists_of c.add_edge-2.new.before.items in
    on_ok_weaker c.add_edge-2.result
    (λ second. gains-as (λ k n. E k n ⊎ F k n) both old new (λ k n h. elim h [ inl a ↦ (a.0, inl a.1) | inr a ↦ (a.0, inr a.1) ]) (λ k n h. elim h.1 [ inl a ↦ inl (h.0, a) | inr a ↦ inr (h.0, a) ])
    (gains-then E F old mid new c.in-Ok-attempt.ensures second))
    c.add_edge-2.ensures
