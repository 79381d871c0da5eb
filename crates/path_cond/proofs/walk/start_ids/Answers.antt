use Rattle.std.proofs.Common.{◌≡◌, ◌∙◌, ℕ, ◌<◌, List, length, Some, refl, sym, ap, inl, inr, arith}
use Rattle.std.specs.Prelude.{slice_get}
use Rattle.std.specs.HashMap.{get}
use Rattle.std.proofs.lemmas.Bool.{cases_lt}
use Rattle.std.proofs.lemmas.Option.{same_Some, slice_get_within}
use Rattle.term_core_spec.specs.declared.Variable.{Variable}
use Rattle.term_core_spec.specs.Same.{same_variable}
use Rattle.term_core_spec.specs.Term.{Term}
use Rattle.term_bank.specs.Nodes.{Holds}
use Rattle.term_bank.proofs.Substitution.{kept}
use Rattle.term_substitution.specs.States.{state_of}
use Rattle.path_cond.specs.Ids.{id_at}
use Rattle.path_cond.proofs.Banks.{extends_itself, extends_then}
use Rattle.path_cond.proofs.Current.{same_terms, below_later}
use Rattle.path_cond.proofs.Uniting.{put_here, put_there}
use Rattle.path_cond.proofs.walk.start_ids.Goals as goal

pub loop-number-init : goal.loop-number-init
loop-number-init c = record { extends = extends_itself c.args.bank.now; bound = λ k v less there. absurd (omega arith) }

pub start_term-requires : goal.start_term-requires
start_term-requires c = below_later c.args.bank.now c.loop-number.bank c.loop-number.invariant.extends (get same_variable c.args.start.now) c.requires

pub loop-number-preserved : goal.loop-number-preserved
loop-number-preserved c =
    let b0 : List Term = c.args.bank.now in
    let b1 : List Term = c.loop-number.bank in
    let b2 : List Term = c.start_term.new.bank in
    let start = get same_variable c.args.start.now in
    let n : ℕ = c.loop-number.number in
    let x : Variable = c.index.result.now in
    let put = c.in_ok-ids.ensures in
    record {
      extends = extends_then b0 b1 b2 c.loop-number.invariant.extends c.start_term.ensures.extends;
      bound = λ k v less there. elim (cases_lt k n) [
        | inl earlier ↦
            let at = c.loop-number.invariant.bound k v earlier there in (
              at.0,
              put_there (id_at c.loop-number.ids) (id_at c.in_ok-ids.ids) n c.in_ok-id.id put k (λ e. omega arith) ∙ at.1,
              kept b1 b2 at.0 (state_of b0 start v) c.start_term.ensures.extends at.2,
            )
        | inr here ↦
            let at : n ≡ k = omega arith in
            let same : x ≡ v = same_Some x v (sym c.index.ensures ∙ ap (slice_get c.args.variables.now.keys) at ∙ there) in
            let holds : Holds b2 c.in_ok-id.id (state_of b0 start v) =
            c.in_ok-id.ensures.tree ∙ ap Some (same_terms b0 b1 c.loop-number.invariant.extends start c.requires x ∙ ap (state_of b0 start) same) in
            (c.in_ok-id.id, ap (id_at c.in_ok-ids.ids) (sym at) ∙ put_here (id_at c.loop-number.ids) (id_at c.in_ok-ids.ids) n c.in_ok-id.id put, holds)
      ];
    }

pub returns-clause-state : goal.returns-clause-state
returns-clause-state c = record {
  bound = λ k v there.
      let within : k < length c.args.variables.now.keys = slice_get_within c.args.variables.now.keys k v there in
      c.loop-number.invariant.bound k v (omega arith) there;
  others = λ v out. refl;
}
