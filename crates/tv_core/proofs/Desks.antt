-- What calls leave of a desk, one after the other.
use Rattle.std.proofs.Common.{◌≡◌, ◌+◌, ℕ, List, Option, take, drop, Ok, Err, arith, ap, ◌∙◌, subst, inr}
use Rattle.std.specs.Prelude.{Vec, Result, IfSome, IfOk, OnOk, OnErr, IsErrOf, option_map}
use Rattle.std.specs.Global.{Global}
use Rattle.std.proofs.lemmas.Result.{IfOk-weaker}
use Rattle.attempt.specs.declared.refusal.Refusal.{Refusal}
use Rattle.attempt.specs.declared.refusal.Refusal.TheVariants.{Fault, NoMemory}
use Rattle.tv_base.specs.declared.faults.OutsideFault.{OutsideFault}
use Rattle.tv_base.specs.declared.faults.OutsideFault.TheVariants.{Failed}
use Rattle.tv_base.specs.Faults.{HasCause}
use Rattle.tv_base.specs.Reading.{with_name, IsTaken, IsPartlyTaken}
use Rattle.tv_core.specs.Objects.{Contents, DeskState}
use Rattle.tv_core.specs.Ends.{TakesAtMost}
use Rattle.tv_core.specs.Files.{KeepsDesk, AreOf, BeginsFile, ReadsFile}

always : {T E : Type 0} (r : Result T E) (P : Type 0) → P → OnOk r P
always (Ok x) P p = p
always (Err e) P p = tt

pub never_failed : {T : Type 0} (r : Result T (Refusal OutsideFault)) → OnErr r (IsErrOf r NoMemory) → IsErrOf r (Fault Failed) → ⊥
never_failed (Ok x) h e = cc
never_failed (Err f) h e = cc

module _ {T : Type 0} (before now : DeskState) (r : Result T (Refusal OutsideFault)) where
  -- after a call that kept it
  pub then_keeps : (middle : DeskState) → middle.files ≡ before.files → middle.faults ≡ before.faults → KeepsDesk middle now r → KeepsDesk before now r
  then_keeps middle files faults k = record {
    same_files = k.same_files ∙ files;
    cause = subst (λ n. HasCause n now.faults r) faults k.cause;
    unfailing = IfOk-weaker r (λ _. now.faults ≡ middle.faults) (λ _. now.faults ≡ before.faults) (λ _ e. e ∙ faults) k.unfailing;
    no_memory = λ e. k.no_memory e ∙ faults;
  }

  -- a call that is out of memory at most
  pub ended_keeps : now.files ≡ before.files → now.faults ≡ before.faults → OnErr r (IsErrOf r NoMemory) → KeepsDesk before now r
  ended_keeps files faults memory = record {
    same_files = files;
    cause = record { later = omega arith; failed = λ e. absurd (never_failed r memory e) };
    unfailing = always r (now.faults ≡ before.faults) faults;
    no_memory = λ e. faults;
  }

pub same_fault : {T U : Type 0} (before now : DeskState) (f : Refusal OutsideFault) → KeepsDesk {T = T} before now (Err f) → KeepsDesk {T = U} before now (Err f)
same_fault {T = T} before now f k = record {
  same_files = k.same_files;
  cause = record { later = k.cause.later; failed = λ e. let is : f ≡ Fault Failed = cc in k.cause.failed (ap Err is) };
  unfailing = tt;
  no_memory = λ e. let is : f ≡ NoMemory = cc in k.no_memory (ap Err is);
}

-- ---- a file that is read

read_taken : (files : Contents) (name : List ℕ) (most : ℕ) (before middle now : Option (List ℕ)) (r : Result (Vec ℕ Global) (Refusal OutsideFault)) → middle ≡ files name
    → IfOk r (λ bytes. IsTaken most middle bytes.items now) → OnErr r (IsPartlyTaken most middle now) → TakesAtMost files name most before now
read_taken files name most before middle now (Ok bytes) begun taken part = inr (most, omega arith, taken.rest ∙ ap (option_map (drop most)) begun)
read_taken files name most before middle now (Err f) begun taken part = inr (part.0, part.1, part.2 ∙ ap (option_map (drop part.0)) begun)

pub read_begun : (name : List ℕ) (maximum : ℕ) (before now : DeskState) (left : Option (List ℕ)) (opened : Option (List (List ℕ))) (r : Result (Vec ℕ Global) (Refusal OutsideFault))
    → left ≡ before.files name → opened ≡ with_name before.opened name → now.opened ≡ opened
    → IfOk r (λ bytes. IsTaken (maximum + 1) left bytes.items now.left) → OnErr r (IsPartlyTaken (maximum + 1) left now.left) → ReadsFile name maximum before now r
read_begun name maximum before now left opened r begun named same taken part = record {
  bytes = IfOk-weaker r (λ bytes. IsTaken (maximum + 1) left bytes.items now.left) (λ bytes. AreOf before.files name maximum bytes.items)
      (λ bytes t. subst (λ o. IfSome o (λ text. bytes.items ≡ take (maximum + 1) text)) begun t.first) taken;
  taken = read_taken before.files name (maximum + 1) before.left left now.left r begun taken part;
  opened = always r (now.opened ≡ with_name before.opened name) (same ∙ named);
  opened_part = inr (same ∙ named);
}

-- of a file that is read, what it takes of the desk
pub begins : (name : List ℕ) (maximum : ℕ) (before now : DeskState) (r : Result (Vec ℕ Global) (Refusal OutsideFault)) → ReadsFile name maximum before now r → BeginsFile name maximum before now
begins name maximum before now r h = record { taken = h.taken; opened = h.opened_part }
