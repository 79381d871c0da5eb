-- What follows from the definition of verdicts.
use Rattle.std.specs.Prelude.{◌≡◌, ◌-◌, ℕ, List, length, IsTrue, Option, Some, None, bytes_eq, ⊤}
use Rattle.std.specs.List.{IsDistinct}
use Rattle.cert_text_spec.specs.Lines.{End, line_text}
use Rattle.cert_check_spec.specs.declared.RuleWord.TheVariants.{Missing}
use Rattle.report_text_spec.specs.Verdict.{NotProof, Checked, Judged, Judgement, all_valid}
use Rattle.tv_core_spec.specs.Source.{Source, CVerdict}
use Rattle.tv_core_spec.specs.Decisions.{Decision, plain, first_unproved}
use Rattle.tv_core_spec.specs.Listing.{Task, Judge, Verify}
use Rattle.tv_core_spec.specs.Verdicts.{IsVerdict, AreAlike}

-- of two files one thing is decided at most, but for what searches find: where two decisions differ, functions were
-- searched, and what one search proves no other refutes. So each refusal, and all of `check` and `show`, is the only one
abbrev pub OneVerdict : Type 0
OneVerdict =
    (elf c : List ℕ) (task : Task) (one other : Decision) → IsVerdict elf c task one → IsVerdict elf c task other → AreAlike elf c task one other

-- a text has one verdict at most: it is refused for one reason at one offset, or is C and has one typed core
abbrev pub OneSource : Type 0
OneSource = (text : List ℕ) (one other : Source) → CVerdict text one → CVerdict text other → one ≡ other

-- and it has one
abbrev pub EachSource : Type 0
EachSource = (text : List ℕ) → (source : Source) × CVerdict text source

-- a task gives no name twice, if it gives any
abbrev pub GivesNoneTwice : Option (List (List ℕ)) → Type 0
GivesNoneTwice (Some names) = IsDistinct bytes_eq names
GivesNoneTwice None = ⊤

-- where all functions of a list are judged valid, the certificate that is written is a proof of them: with it the same
-- files have the verdict that each is valid
abbrev pub ProvedIsChecked : Type 0
ProvedIsChecked =
    (elf c : List ℕ) (functions : Option (List (List ℕ))) (judgements : List Judgement) (certificate : List ℕ) (decision : Decision)
    → IsVerdict elf c (Judge functions) decision → decision.verdict ≡ Judged judgements → decision.certificate ≡ Some certificate
    → IsTrue (all_valid judgements) → GivesNoneTwice functions → IsVerdict elf c (Verify functions certificate) (plain (Checked judgements))

-- where some aren't, each part of the certificate that is written is accepted: with it the same files have the verdict
-- that the first function that isn't called valid is missing, at the last line, `end`
abbrev pub UnprovedIsMissing : Type 0
UnprovedIsMissing =
    (elf c : List ℕ) (functions : Option (List (List ℕ))) (judgements : List Judgement) (certificate : List ℕ) (decision : Decision) (name : List ℕ)
    → IsVerdict elf c (Judge functions) decision → decision.verdict ≡ Judged judgements → decision.certificate ≡ Some certificate
    → first_unproved judgements ≡ Some name → GivesNoneTwice functions
    → IsVerdict elf c (Verify functions certificate) (plain (NotProof name (length certificate - length (line_text End)) Missing))
