-- The hints of a certificate in memory are numbers of certificates, and so are those of what was found that it is written of.
use Rattle.std.proofs.Common.{◌≡◌, ◌+◌, ◌≤◌, ℕ, zero, suc, List, [], ◌∷◌, ◌++◌, length, map, take, drop, sym, subst, arith}
use Rattle.std.specs.Prelude.{All}
use Rattle.std.proofs.lemmas.List.Elements.{All-nil, All-cons, All-head, All-tail, All-take, All-drop}
use Rattle.clause_check_spec.specs.Log.{Step}
use Rattle.cert_text_spec.specs.Points.{IsNumber}
use Rattle.cert_text_spec.specs.Lines as spec
use Rattle.cert_text_spec.specs.Lines.{Header, Function, Leaf, Log, LogStep, End}
use Rattle.cert_text_parse.specs.declared.lines.Line.{Line}
use Rattle.cert_text_parse.specs.declared.lines.Line.TheVariants as code
use Rattle.cert_text_parse.specs.declared.lines.Literal.{Literal}
use Rattle.cert_text_parse.specs.Views.{line_at, literals_in, hints_in}
use Rattle.cert_text.specs.declared.certificates.Cert.{Cert}
use Rattle.cert_text.specs.Certificates.{certificate_of, lines_of}
use Rattle.cert_check_spec.specs.Verdict.{Listed}
use Rattle.prove_run_spec.specs.Trails.{Found, Proved, Unproved}
use Rattle.prove_run_spec.specs.Written.{log_lines, logs_lines, part_lines, parts_lines, proof_lines}
use Rattle.cert_run_spec.specs.Written.{HasSmallHints}

-- its hints are, if it is a step
abbrev HasNumbers : spec.Line → Type 0
HasNumbers (LogStep step) = All IsNumber step.hints
HasNumbers line = Unit {0}

-- ---- of a certificate in memory

at_line : (line : Line) (literals : List Literal) (hints : List ℕ) → All IsNumber hints → HasNumbers (line_at line literals hints)
at_line code.Header literals hints small = tt
at_line (code.Function part) literals hints small = tt
at_line (code.InlineBinary point) literals hints small = tt
at_line (code.InlineSource point) literals hints small = tt
at_line (code.Leaf logs) literals hints small = tt
at_line (code.Case test) literals hints small = tt
at_line (code.RestrictBinary r) literals hints small = tt
at_line (code.RestrictSource r) literals hints small = tt
at_line (code.Split s) literals hints small = tt
at_line (code.Call c) literals hints small = tt
at_line (code.Relation term) literals hints small = tt
at_line (code.Log steps) literals hints small = tt
at_line (code.Step k h) literals hints small = All-take IsNumber h hints small
at_line code.End literals hints small = tt

of_lines : (lines : List Line) (literals : List Literal) (hints : List ℕ) → All IsNumber hints → All HasNumbers (lines_of lines literals hints)
unfolding lines_of
of_lines [] literals hints small = All-nil HasNumbers
of_lines (line ∷ lines) literals hints small =
    let rest = drop (literals_in line) literals in
    let others = drop (hints_in line) hints in
    All-cons HasNumbers (line_at line literals hints) (lines_of lines rest others) (at_line line literals hints small)
    (of_lines lines rest others (All-drop IsNumber (hints_in line) hints small))

-- ---- of what was found

module _ {X : Type 0} (P : X → Type 0) where
  front : (xs ys : List X) → All P (xs ++ ys) → All P xs
  front [] ys all = All-nil P
  front (x ∷ xs) ys all = All-cons P x xs (All-head P x (xs ++ ys) all) (front xs ys (All-tail P x (xs ++ ys) all))

  back : (xs ys : List X) → All P (xs ++ ys) → All P ys
  back [] ys all = all
  back (x ∷ xs) ys all = back xs ys (All-tail P x (xs ++ ys) all)

abbrev HasSmallStep : Step → Type 0
HasSmallStep step = All IsNumber step.hints

abbrev HasSmallSteps : List Step → Type 0
HasSmallSteps log = All HasSmallStep log

of_log : (log : List Step) → All HasNumbers (map LogStep log) → All HasSmallStep log
of_log [] all = All-nil HasSmallStep
of_log (step ∷ log) all =
    All-cons HasSmallStep step log (All-head HasNumbers (LogStep step) (map LogStep log) all) (of_log log (All-tail HasNumbers (LogStep step) (map LogStep log) all))

of_logs : (logs : List (List Step)) → All HasNumbers (logs_lines logs) → All HasSmallSteps logs
unfolding logs_lines
of_logs [] all = All-nil HasSmallSteps
of_logs (log ∷ logs) all =
    let first = front HasNumbers (log_lines log) (logs_lines logs) all in
    All-cons HasSmallSteps log logs (of_log log (All-tail HasNumbers (Log (length log)) (map LogStep log) first))
    (of_logs logs (back HasNumbers (log_lines log) (logs_lines logs) all))

of_part : (name : List ℕ) (stack : ℕ) (logs : List (List Step)) → All HasNumbers (part_lines name stack logs) → All HasSmallSteps logs
of_part name stack logs all =
    let lines = logs_lines logs in
    of_logs logs (All-tail HasNumbers (Leaf (length logs)) lines (All-tail HasNumbers (Function name stack) (Leaf (length logs) ∷ lines) all))

of_parts : (listed : List Listed) (found : List Found) → length found ≡ length listed → All HasNumbers (parts_lines listed found) → All HasSmallHints found
unfolding parts_lines
of_parts [] [] count all = All-nil HasSmallHints
of_parts [] (one ∷ found) count all = absurd (omega (arith, count))
of_parts (f ∷ listed) [] count all = All-nil HasSmallHints
of_parts (f ∷ listed) (Proved logs ∷ found) count all =
    let part = part_lines f.name f.stack logs in
    let rest = parts_lines listed found in
    All-cons HasSmallHints (Proved logs) found (of_part f.name f.stack logs (front HasNumbers part rest all))
    (of_parts listed found (omega (arith, count)) (back HasNumbers part rest all))
of_parts (f ∷ listed) (Unproved trail ∷ found) count all =
    All-cons HasSmallHints (Unproved trail) found tt (of_parts listed found (omega (arith, count)) all)

-- what was found has small hints where a certificate in memory has its lines
pub small_hints : (cert : Cert) (listed : List Listed) (found : List Found) → All IsNumber cert.logs.hints.items → length found ≡ length listed
    → certificate_of cert ≡ proof_lines listed found → All HasSmallHints found
small_hints cert listed found numbers count lines =
    let parts = parts_lines listed found in
    let all : All HasNumbers (proof_lines listed found) =
    subst (All HasNumbers) lines (of_lines cert.lines.items cert.logs.literals.items cert.logs.hints.items numbers) in
    of_parts listed found count (front HasNumbers parts (End ∷ []) (All-tail HasNumbers Header (parts ++ End ∷ []) all))
