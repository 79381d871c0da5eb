-- What calls on a list leave of a desk.
use Rattle.std.proofs.Common.{◌≡◌, ◌≤◌, ℕ, List, [], get_or, refl, sym, subst, inl, inr}
use Rattle.std.specs.Prelude.{length, Result, IfOk, OnErr, IsErrOf}
use Rattle.std.proofs.lemmas.Result.{IfOk-weaker}
use Rattle.std.specs.declared.alloc.AllocError.{AllocError}
use Rattle.elf_read_spec.specs.Image.{Image}
use Rattle.c_types_spec.specs.Core.{Typed}
use Rattle.pair_setup_spec.specs.Outcome.{IsPaired}
use Rattle.pair_setup.specs.Answers.{pairs_of}
use Rattle.pair_setup.specs.declared.outcome.Pairs.{Pairs as CodePairs}
use Rattle.tv_limits.specs.declared.Quantity.TheVariants.{Functions}
use Rattle.report_text_spec.specs.Verdict.{maximum_of}
use Rattle.report_text.specs.Verdicts.{verdict_of}
use Rattle.report_text.specs.declared.verdicts.Verdict.{Verdict as CodeVerdict}
use Rattle.attempt.specs.declared.refusal.Refusal.{Refusal}
use Rattle.attempt.specs.declared.refusal.Refusal.TheVariants.{NoMemory}
use Rattle.tv_base.specs.declared.faults.OutsideFault.{OutsideFault}
use Rattle.tv_limits.specs.declared.TheConstants.{MAX_CERTIFICATE_BYTES}
use Rattle.tv_words.specs.Commands.{Command, Prove, Proving, Check, Checking, Show, Showing}
use Rattle.tv_core_spec.specs.Decisions.{Decision, plain}
use Rattle.tv_core.specs.Objects.{DeskState}
use Rattle.tv_core.specs.Decisions.{decision_of, IsFromMemory, IsPlainFromMemory}
use Rattle.tv_core.specs.declared.decision.Decision.{Decision as CodeDecision}
use Rattle.tv_core.specs.Files.{AreOf, BeginsFile, KeepsDesk}
use Rattle.tv_core.specs.Listed.{AnswersList, AnswersPaired, AreBytesOf, IsAnswer, IsCertificateDecision, JudgesAll, JudgesList, Shows}
use Rattle.tv_core.proofs.Desks.{ended_keeps}
use Rattle.tv_core.proofs.Judging.{reads_nothing}
use Rattle.tv_core.proofs.Judged.{answered, left_to_read}
use Rattle.tv_core.proofs.Plain.{ok_from_memory, only_memory, plain_memory_ok, plain_only_memory}

-- ---- a list

module _ (image : Image) (unit : Typed) (command : Command) (list : List (List ℕ)) where
  -- the desk stays as it is
  pub judged_here : (state : DeskState) (r : Result CodeDecision (Refusal OutsideFault)) → IfOk r (λ d. AnswersList state.files image unit command list (decision_of d))
      → OnErr r (IsErrOf r NoMemory) → JudgesList image unit command list state state r
  judged_here state r h memory = record {
    judges = h;
    reads = λ elf c lists. reads_nothing elf c command state state refl refl;
    kept = ended_keeps state state r refl refl memory;
  }

  pub judged_paired : (pairs : CodePairs) (before now : DeskState) (r : Result CodeDecision (Refusal OutsideFault)) → length list ≤ maximum_of Functions
      → IsPaired image unit list (pairs_of list pairs) → AnswersPaired image unit command list (pairs_of list pairs) before now r → JudgesList image unit command list before now r
  judged_paired pairs before now r few paired h = record {
    judges = IfOk-weaker r (λ d. (bytes : List ℕ) × AreBytesOf before.files command bytes × IsAnswer image unit command list (pairs_of list pairs) bytes d)
        (λ d. AnswersList before.files image unit command list (decision_of d))
        (λ d a. answered before.files image unit list pairs few paired command a.0 d a.1 a.2) h.answer;
    reads = λ elf c lists. record {
      taken = h.taken;
      opened = elim h.opened [
        | inl e ↦ inl e
        | inr o ↦ inr (o.0, o.1, o.2, left_to_read before.files image unit list pairs few paired elf c command lists)
      ];
    };
    kept = h.kept;
  }

  -- an answer that leaves the desk as it is
  pub answered_here : (pairs : CodePairs) (state : DeskState) (r : Result CodeDecision (Refusal OutsideFault))
      → IfOk r (λ d. (bytes : List ℕ) × AreBytesOf state.files command bytes × IsAnswer image unit command list (pairs_of list pairs) bytes d)
      → OnErr r (IsErrOf r NoMemory) → AnswersPaired image unit command list (pairs_of list pairs) state state r
  answered_here pairs state r h memory =
      record { answer = h; taken = inl refl; opened = inl refl; kept = ended_keeps state state r refl refl memory }

-- the same of an equal list
pub renamed_list : (image : Image) (unit : Typed) (command : Command) (one two : List (List ℕ)) (before now : DeskState) (r : Result CodeDecision (Refusal OutsideFault)) → one ≡ two
    → JudgesList image unit command one before now r → JudgesList image unit command two before now r
renamed_list image unit command one two before now r e h = subst (λ list. JudgesList image unit command list before now r) e h

-- ---- the three commands

module _ (image : Image) (unit : Typed) (command : Command) (list : List (List ℕ)) (pairs : CodePairs) where
  pub proved_here : (state : DeskState) (job : Proving) (answer : Result CodeDecision AllocError) (r : Result CodeDecision (Refusal OutsideFault)) → command ≡ Prove job
      → IsFromMemory answer r → IfOk answer (JudgesAll image unit list (pairs_of list pairs)) → AnswersPaired image unit command list (pairs_of list pairs) state state r
  proved_here state job answer r e from h =
      subst (λ k. AnswersPaired image unit k list (pairs_of list pairs) state state r) (sym e)
      (answered_here image unit (Prove job) list pairs state r
      (IfOk-weaker r (JudgesAll image unit list (pairs_of list pairs))
      (λ d. (bytes : List ℕ) × AreBytesOf state.files (Prove job) bytes × IsAnswer image unit (Prove job) list (pairs_of list pairs) bytes d)
      (λ d a. ([], tt, a)) (ok_from_memory (JudgesAll image unit list (pairs_of list pairs)) answer r from h)) (only_memory answer r from))

  pub checked_there : (before now : DeskState) (job : Checking) (r : Result CodeDecision (Refusal OutsideFault)) → command ≡ Check job
      → IfOk r (λ d. (bytes : List ℕ) × AreOf before.files job.certificate MAX_CERTIFICATE_BYTES bytes
      × IsCertificateDecision image unit (pairs_of list pairs) bytes (decision_of d))
      → BeginsFile job.certificate MAX_CERTIFICATE_BYTES before now → KeepsDesk before now r → AnswersPaired image unit command list (pairs_of list pairs) before now r
  checked_there before now job r e h begun kept =
      subst (λ k. AnswersPaired image unit k list (pairs_of list pairs) before now r) (sym e)
      (record {
        answer = h;
        taken = inr (job.certificate, refl, begun.taken);
        opened = elim begun.opened [ inl same ↦ inl same | inr named ↦ inr (job.certificate, refl, named) ];
        kept = kept;
      })

  abbrev ShowsAt : Decision → Type 0
  ShowsAt d = (d ≡ plain d.verdict) × ((name : List ℕ) → Shows image unit (get_or list 0 name) d.verdict)

  shows_at : (name : List ℕ) (answer : Result CodeVerdict AllocError) → ((d : List ℕ) → get_or list 0 d ≡ name)
      → IfOk answer (λ v. Shows image unit name (verdict_of v)) → IfOk answer (λ v. ShowsAt (plain (verdict_of v)))
  shows_at name answer at h =
      IfOk-weaker answer (λ v. Shows image unit name (verdict_of v)) (λ v. ShowsAt (plain (verdict_of v)))
      (λ v a. (refl, λ d. subst (λ n. Shows image unit n (verdict_of v)) (sym (at d)) a)) h

  pub shown_here : (state : DeskState) (job : Showing) (name : List ℕ) (answer : Result CodeVerdict AllocError) (r : Result CodeDecision (Refusal OutsideFault)) → command ≡ Show job
      → IsPlainFromMemory answer r → ((d : List ℕ) → get_or list 0 d ≡ name) → IfOk answer (λ v. Shows image unit name (verdict_of v))
      → AnswersPaired image unit command list (pairs_of list pairs) state state r
  shown_here state job name answer r e from at h =
      subst (λ k. AnswersPaired image unit k list (pairs_of list pairs) state state r) (sym e)
      (answered_here image unit (Show job) list pairs state r
      (IfOk-weaker r (λ d. ShowsAt (decision_of d))
      (λ d. (bytes : List ℕ) × AreBytesOf state.files (Show job) bytes × IsAnswer image unit (Show job) list (pairs_of list pairs) bytes d)
      (λ d a. ([], tt, a)) (plain_memory_ok ShowsAt answer r from (shows_at name answer at h))) (plain_only_memory answer r from))
