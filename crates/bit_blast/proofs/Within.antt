-- Builds that stop where they have more variables than a maximum.
use Rattle.std.proofs.Common.{◌≡◌, ◌≤◌, ◌<◌, ℕ, Result, Ok, Err, refl, ap, sym, subst, arith}
use Rattle.std.specs.Prelude.{IsErrAnd, IfErr}
use Rattle.clause_check_spec.specs.Clause.{Cnf}
use Rattle.bit_blast_spec.specs.Gates.{last_of, Build, give, ◌>>=◌}
use Rattle.bit_blast_circuits.specs.Built.{with_gates, IsBuilt, Continues}
use Rattle.bit_blast_circuits.proofs.Built.{last_of-append, continues_start, continues_then, continues_end}
use Rattle.bit_blast_laws.proofs.Made.{last_rises}
use Rattle.attempt.specs.declared.refusal.Refusal.{Refusal}
use Rattle.bit_blast.specs.declared.error.BlastFault.{BlastFault}
use Rattle.bit_blast.specs.Within.{BuiltWithin, IfLarge}

-- ---- counts of variables

-- with the variables of the rest there are those of the whole
whole_count : {A B : Type 0} {whole : Build A} {old now : Cnf} {rest : Build B} {join : B → A} → Continues whole old now rest join
    → last_of now.variables (rest now.variables).gates ≡ last_of old.variables (whole old.variables).gates
whole_count {now = now} {rest = rest} on =
    let end = with_gates now (rest now.variables).gates in
    let built = on.ends (rest now.variables).out end (record { answer = refl; grown = refl }) in
    ap (λ (cnf : Cnf). cnf.variables) built.grown

pub count_so_far : {A B : Type 0} {whole : Build A} {old now : Cnf} {rest : Build B} {join : B → A} → Continues whole old now rest join
    → now.variables ≤ last_of old.variables (whole old.variables).gates
count_so_far {now = now} {rest = rest} on = omega (arith, last_rises now.variables (rest now.variables).gates, whole_count on)

-- the first part of the rest makes no more variables than the whole
pub count_first : {A B C : Type 0} {whole : Build A} {old now : Cnf} {join : C → A} (build : Build B) (more : B → Build C)
    → Continues whole old now (build >>= more) join → last_of now.variables (build now.variables).gates ≤ last_of old.variables (whole old.variables).gates
count_first {now = now} build more on =
    let first = build now.variables in
    let second = more first.out (last_of now.variables first.gates) in
    omega (arith, last_rises (last_of now.variables first.gates) second.gates, last_of-append now.variables first.gates second.gates, whole_count on)

-- ---- builds

pub whole_built : {A : Type 0} {maximum : ℕ} {whole : Build A} {old now : Cnf} {x : A} → IsBuilt whole old x now → BuiltWithin maximum whole old x now
whole_built built = record { done = λ small. built; count = omega (arith, ap (λ (cnf : Cnf). cnf.variables) built.grown) }

pub left_at : {A : Type 0} (maximum : ℕ) (whole : Build A) (old now : Cnf) (x : A) → maximum < now.variables
    → now.variables ≤ last_of old.variables (whole old.variables).gates → BuiltWithin maximum whole old x now
left_at maximum whole old now x above count = record { done = λ small. absurd (omega arith); count = count }

-- a build that has begun, or was left
pub record ContinuesWithin {A : Type 0} (maximum : ℕ) (whole : Build A) (old now : Cnf) (rest : Build A) : Type 0 where
  pub on : now.variables ≤ maximum → Continues whole old now rest (λ a. a)
  pub count : now.variables ≤ last_of old.variables (whole old.variables).gates

pub within_start : {A : Type 0} (maximum : ℕ) (whole : Build A) (old : Cnf) → ContinuesWithin maximum whole old old whole
within_start maximum whole old = record { on = λ small. continues_start whole old; count = last_rises old.variables (whole old.variables).gates }

pub within_then : {A B : Type 0} {maximum : ℕ} {whole : Build A} {old now mid : Cnf} {b : B} (build : Build B) (more : B → Build A) → now.variables ≤ maximum
    → ContinuesWithin maximum whole old now (build >>= more) → BuiltWithin maximum build now b mid → ContinuesWithin maximum whole old mid (more b)
within_then build more small so_far step = record {
  on = λ still. continues_then more (so_far.on small) (step.done still);
  count = omega (arith, step.count, count_first build more (so_far.on small));
}

pub within_end : {A : Type 0} {maximum : ℕ} {whole : Build A} {old now : Cnf} (x : A) → ContinuesWithin maximum whole old now (give x) → BuiltWithin maximum whole old x now
within_end x so_far = record { done = λ small. continues_end x (so_far.on small); count = so_far.count }
