-- What is decided of an image and a source, by the parts of what a call ensures.
use Rattle.std.proofs.Common.{◌≡◌, ◌∙◌, ℕ, List, [], Option, Some, None, Ok, Err, refl, inl}
use Rattle.std.specs.Prelude.{IfSome, Result, IfOk, OnErr, IsErrOf}
use Rattle.std.proofs.lemmas.Result.{IfOk-weaker}
use Rattle.elf_read_spec.specs.Image.{Image}
use Rattle.elf_read_spec.specs.File.{IsElf}
use Rattle.c_token_spec.specs.Lexical.{AreTokens}
use Rattle.c_token.specs.declared.Token.{Token}
use Rattle.c_syntax_spec.specs.Unit.{TranslationUnit}
use Rattle.c_parse_spec.specs.Faults.{IsUnit}
use Rattle.c_parse_spec.specs.Source.{HasTree}
use Rattle.c_types_spec.specs.Core.{Typed}
use Rattle.c_types_spec.specs.Units.{typed}
use Rattle.c_parse_spec.specs.Initials.{DefinesIn, DefinesNothing, definition_in}
use Rattle.validity_spec.specs.Source.{IsC}
use Rattle.c_parse_token.specs.Lists.{list_of}
use Rattle.report_text.specs.Verdicts.{verdict_of}
use Rattle.report_text.specs.declared.verdicts.Verdict.{Verdict}
use Rattle.attempt.specs.declared.refusal.Refusal.{Refusal}
use Rattle.attempt.specs.declared.refusal.Refusal.TheVariants.{NoMemory}
use Rattle.tv_base.specs.declared.faults.OutsideFault.{OutsideFault}
use Rattle.tv_words.specs.Commands.{Command, Prove, Check, Show}
use Rattle.tv_core_spec.specs.Decisions.{Decision, plain}
use Rattle.tv_core_spec.specs.Listing.{Task, Verify, names_of}
use Rattle.tv_core_spec.specs.Verdicts.{Lists, Judges, IsSound}
use Rattle.tv_core.specs.Tasks.{asked_of, task_of}
use Rattle.tv_core.specs.Objects.{Contents, DeskState}
use Rattle.tv_core.specs.Decisions.{decision_of, IsPlainly}
use Rattle.tv_core.specs.declared.decision.Decision.{Decision as CodeDecision}
use Rattle.tv_core.specs.Ends.{IsText}
use Rattle.tv_core.specs.Files.{JudgesBy, JudgesWith, ReadsCertificate}
use Rattle.tv_core.specs.Listed.{AnswersList, JudgesList}
use Rattle.tv_core.proofs.Desks.{ended_keeps}
use Rattle.tv_core.proofs.Plain.{plainly_ok, plainly_memory}

pub has_tree : (text : List ℕ) (lexed : List Token) (tree : TranslationUnit) → AreTokens text (list_of lexed) → IsUnit (list_of lexed) tree → HasTree text tree
has_tree text lexed tree lexes parses = record { tokens = list_of lexed; lexes = lexes; parses = parses }

-- what the tokens define within initial values
pub defines_in : (text : List ℕ) (lexed : List Token) (offset : ℕ) → AreTokens text (list_of lexed) → definition_in (list_of lexed) ≡ Some offset → DefinesIn text offset
defines_in text lexed offset lexes first = record { tokens = list_of lexed; lexes = lexes; first = first }

pub defines_nothing : (text : List ℕ) (lexed : List Token) → AreTokens text (list_of lexed) → definition_in (list_of lexed) ≡ None → DefinesNothing text
defines_nothing text lexed lexes nowhere = record { tokens = list_of lexed; lexes = lexes; nowhere = nowhere }

-- the source of a tree that has types
pub is_source : (text : List ℕ) (tree : TranslationUnit) (unit : Typed) → HasTree text tree → DefinesNothing text → typed tree ≡ Ok unit → IsC text unit
is_source text tree unit derives defines has_types = record { tree = tree; derives = derives; defines_nothing = defines; has_types = has_types }

-- ---- some text of the certificate

-- the text that contracts see, or one that they don't
text_seen : (seen : Option (List ℕ)) → (text : List ℕ) × IfSome seen (λ s. s ≡ text)
text_seen None = ([], tt)
text_seen (Some text) = (text, refl)

pub some_text : (files : Contents) (given : Option (List ℕ)) → (text : List ℕ) × IsText files given text
some_text files None = ([], tt)
some_text files (Some name) = text_seen (files name)

-- a decision that doesn't look at the certificate
pub with_any_text : (files : Contents) (elf c : List ℕ) (command : Command) (decision : Decision)
    → ((task : Task) → Judges elf c task decision × IsSound elf c task decision.verdict) → JudgesWith files elf c command decision
with_any_text files elf c command decision h =
    let text = some_text files (asked_of command).given in
    let judged = h (task_of command text.0) in (text.0, text.1, judged.0, judged.1)

-- ---- calls that leave the desk as it is

pub reads_nothing : (elf c : List ℕ) (command : Command) (before now : DeskState) → now.left ≡ before.left → now.opened ≡ before.opened → ReadsCertificate elf c command before now
reads_nothing elf c command before now left opened = record { taken = inl left; opened = inl opened }

module _ (files : Contents) (elf c : List ℕ) (command : Command) where
  refused_verdict : (answer : Result Verdict (Refusal OutsideFault)) → ((task : Task) → IfOk answer (λ v. Judges elf c task (plain (verdict_of v))))
      → ((task : Task) → IfOk answer (λ v. IsSound elf c task (verdict_of v))) → IfOk answer (λ v. JudgesWith files elf c command (plain (verdict_of v)))
  refused_verdict (Ok v) exact sound = with_any_text files elf c command (plain (verdict_of v)) (λ task. (exact task, sound task))
  refused_verdict (Err fault) exact sound = tt

  pub refused_by_any : (answer : Result Verdict (Refusal OutsideFault)) (r : Result CodeDecision (Refusal OutsideFault)) → IsPlainly answer r
      → ((task : Task) → IfOk answer (λ v. Judges elf c task (plain (verdict_of v)))) → ((task : Task) → IfOk answer (λ v. IsSound elf c task (verdict_of v)))
      → IfOk r (λ d. JudgesWith files elf c command (decision_of d))
  refused_by_any answer r is exact sound = plainly_ok (JudgesWith files elf c command) answer r is (refused_verdict answer exact sound)

module _ (image : Image) (c : List ℕ) (command : Command) (state : DeskState) where
  abbrev JudgesImage : Decision → Type 0
  JudgesImage d = (elf : List ℕ) → IsElf elf image → JudgesWith state.files elf c command d

  judged_refusal : (answer : Result Verdict (Refusal OutsideFault))
      → ((elf : List ℕ) (task : Task) → IsElf elf image → IfOk answer (λ v. Judges elf c task (plain (verdict_of v))))
      → ((elf : List ℕ) (task : Task) → IfOk answer (λ v. IsSound elf c task (verdict_of v))) → IfOk answer (λ v. JudgesImage (plain (verdict_of v)))
  judged_refusal (Ok v) exact sound =
      λ elf is. with_any_text state.files elf c command (plain (verdict_of v)) (λ task. (exact elf task is, sound elf task))
  judged_refusal (Err fault) exact sound = tt

  -- the source is refused
  pub by_refusal : (answer : Result Verdict (Refusal OutsideFault)) (r : Result CodeDecision (Refusal OutsideFault)) → IsPlainly answer r
      → ((elf : List ℕ) (task : Task) → IsElf elf image → IfOk answer (λ v. Judges elf c task (plain (verdict_of v))))
      → ((elf : List ℕ) (task : Task) → IfOk answer (λ v. IsSound elf c task (verdict_of v))) → OnErr answer (IsErrOf answer NoMemory)
      → JudgesBy image c command state state r
  by_refusal answer r is exact sound memory = record {
    judged = plainly_ok JudgesImage answer r is (judged_refusal answer exact sound);
    reads = λ elf elf_is. reads_nothing elf c command state state refl refl;
    kept = ended_keeps state state r refl refl (plainly_memory answer r is memory);
  }

  pub by_memory : JudgesBy image c command state state (Err NoMemory)
  by_memory = record {
    judged = tt;
    reads = λ elf is. reads_nothing elf c command state state refl refl;
    kept = ended_keeps state state (Err NoMemory) refl refl refl;
  }

-- of a file of the image
pub of_file : (image : Image) (files : Contents) (elf c : List ℕ) (command : Command) (r : Result CodeDecision (Refusal OutsideFault)) → IsElf elf image
    → IfOk r (λ d. (other : List ℕ) → IsElf other image → JudgesWith files other c command (decision_of d))
    → IfOk r (λ d. JudgesWith files elf c command (decision_of d))
of_file image files elf c command r is h =
    IfOk-weaker r (λ d. (other : List ℕ) → IsElf other image → JudgesWith files other c command (decision_of d))
    (λ d. JudgesWith files elf c command (decision_of d)) (λ d judged. judged elf is) h

-- ---- the list

list_of_check : (functions : Option (List (List ℕ))) (one other : List ℕ) (image : Image) (unit : Typed)
    → names_of (Verify functions one) image unit ≡ names_of (Verify functions other) image unit
list_of_check None one other image unit = refl
list_of_check (Some names) one other image unit = refl

-- the list of a command doesn't look at the certificate
same_list : (command : Command) (one other : List ℕ) (image : Image) (unit : Typed) → names_of (task_of command one) image unit ≡ names_of (task_of command other) image unit
same_list (Prove job) one other image unit = refl
same_list (Check job) one other image unit = list_of_check job.functions one other image unit
same_list (Show job) one other image unit = refl

lists_all : (elf c : List ℕ) (command : Command) (image : Image) (unit : Typed) (names : List (List ℕ)) → IsElf elf image → IsC c unit
    → names ≡ names_of (task_of command []) image unit → (text : List ℕ) → Lists elf c (task_of command text) image unit names
lists_all elf c command image unit names is_elf is_c e text = record { is_elf = is_elf; is_c = is_c; listed = e ∙ same_list command [] text image unit }

pub by_list : (image : Image) (unit : Typed) (c : List ℕ) (command : Command) (names : List (List ℕ)) (before now : DeskState) (r : Result CodeDecision (Refusal OutsideFault)) → IsC c unit
    → names ≡ names_of (task_of command []) image unit → JudgesList image unit command names before now r → JudgesBy image c command before now r
by_list image unit c command names before now r is_c e h = record {
  judged = IfOk-weaker r (λ d. AnswersList before.files image unit command names (decision_of d))
      (λ d. (elf : List ℕ) → IsElf elf image → JudgesWith before.files elf c command (decision_of d))
      (λ d answers. λ elf is. answers elf c (lists_all elf c command image unit names is is_c e)) h.judges;
  reads = λ elf is. h.reads elf c (lists_all elf c command image unit names is is_c e);
  kept = h.kept;
}
