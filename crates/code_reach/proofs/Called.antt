-- Calls as the program finds them are those of the function.
use Rattle.std.proofs.Common.{◌≡◌, ℕ, Bool, true, false, cond, refl, sym, ◌∙◌, ap, subst}
use Rattle.std.specs.Prelude.{Option, Some, None, IsSome, option_and_then}
use Rattle.rv_instr.specs.declared.Instr.{Instr}
use Rattle.elf_read_spec.specs.Image.{Image, size_at}
use Rattle.code_reach_spec.specs.Code.{InRange, Flow, Falls, Branches, Jumps, Calls, Links, Returns, Switches, Stops, TableJump, with_table, table_at, flow_of, instr_before, instr_at, flow_at, IsReachable, CallsOn, call, tail}
use Rattle.code_reach_spec.specs.FaultAt.{in_range}
use Rattle.code_reach.specs.Flows.{called_by, plain_flow_there, callee_at}
use Rattle.code_reach.specs.Surveys.{CallsFrom}
use Rattle.code_reach.proofs.Growing.{in-range, out-range}

module _ (image : Image) (entry size address : ℕ) where
  -- a jump by a table calls nothing
  kept : (t : Option TableJump) (flow : Flow) → called_by entry size flow ≡ called_by entry size (with_table t flow)
  kept None flow = refl
  kept (Some jump) Falls = refl
  kept (Some jump) (Branches target) = refl
  kept (Some jump) (Jumps target) = refl
  kept (Some jump) (Calls target) = refl
  kept (Some jump) (Links target) = refl
  kept (Some jump) Returns = refl
  kept (Some jump) (Switches other) = refl
  kept (Some jump) Stops = refl

  pub called-plain : option_and_then (called_by entry size) (plain_flow_there image entry address) ≡ callee_at image entry size address
  unfolding flow_at
  called-plain = by (instr_at image address)
    where
      by : (o : Option Instr) → option_and_then (called_by entry size) (option_and_then (λ i. Some (flow_of (instr_before image entry address) address i)) o)
          ≡ option_and_then (called_by entry size) (option_and_then (λ i. Some (with_table (table_at image entry address i) (flow_of (instr_before image entry address) address i))) o)
      by None = refl
      by (Some i) = kept (table_at image entry address i) (flow_of (instr_before image entry address) address i)

  callee-by : (flow : Flow) → flow_at image entry address ≡ Some flow → callee_at image entry size address ≡ called_by entry size flow
  callee-by flow is = ap (option_and_then (called_by entry size)) is

  outside : (target : ℕ) (b : Bool) → in_range entry size target ≡ b → (InRange entry size target → ⊥) → b ≡ false
  outside target true e out = absurd (out (in-range entry size target e))
  outside target false e out = refl

  tail-call : (target found : ℕ) (b : Bool) → in_range entry size target ≡ b → cond b None (Some target) ≡ Some found
      → (target ≡ found) × (InRange entry size target → ⊥)
  tail-call target found true e is = absurd (cc)
  tail-call target found false e is = ((cc), out-range entry size target e)

  pub called-on : (target : ℕ) → IsReachable image entry size address → CallsFrom image entry size address target → CallsOn image entry size target
  called-on target reached c = at (flow_at image entry address) refl
    where
      by : (flow : Flow) → flow_at image entry address ≡ Some flow → called_by entry size flow ≡ Some target → CallsOn image entry size target
      by Falls is e = absurd (cc)
      by (Branches t) is e = absurd (cc)
      by (Jumps t) is e =
          let out = tail-call t target (in_range entry size t) refl e in
          tail address target reached (is ∙ ap (λ z. Some (Jumps z)) out.0) (subst (λ z. InRange entry size z → ⊥) out.0 out.1) c.entry_there
      by (Calls t) is e = let same : t ≡ target = cc in call address target reached (is ∙ ap (λ z. Some (Calls z)) same) c.entry_there
      by (Links t) is e = absurd (cc)
      by Returns is e = absurd (cc)
      by (Switches jump) is e = absurd (cc)
      by Stops is e = absurd (cc)

      at : (o : Option Flow) → flow_at image entry address ≡ o → CallsOn image entry size target
      at None is = let none = ap (option_and_then (called_by entry size)) is in let some = c.callee_is in absurd (cc)
      at (Some flow) is = by flow is (sym (callee-by flow is) ∙ c.callee_is)

  pub from-call : (target : ℕ) → flow_at image entry address ≡ Some (Calls target) → IsSome (size_at image target) → CallsFrom image entry size address target
  from-call target is some = record { callee_is = callee-by (Calls target) is; entry_there = some }

  pub from-tail_call : (target : ℕ) → flow_at image entry address ≡ Some (Jumps target) → (InRange entry size target → ⊥) → IsSome (size_at image target)
      → CallsFrom image entry size address target
  from-tail_call target is out some = record {
    callee_is = callee-by (Jumps target) is ∙ ap (λ b. cond b None (Some target)) (outside target (in_range entry size target) refl out);
    entry_there = some;
  }
