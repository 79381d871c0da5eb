-- What is handed out beside a report: the trails of the functions that are called unproved, or a certificate that is too
-- large.
use Rattle.std.proofs.Common.{◌≡◌, ◌≢◌, ◌<◌, ◌≤◌, ◌∙◌, ℕ, Bool, true, false, not, ◌&&◌, List, [], ◌∷◌, length, map, filter, Some, refl, sym, ap, subst, arith}
use Rattle.std.specs.Prelude.{◌↔◌, All, if◌then◌else◌}
use Rattle.std.proofs.lemmas.List.Elements.{All-nil, All-cons}
use Rattle.cert_text_spec.specs.Lines.{Line}
use Rattle.cert_check_spec.specs.Verdict.{Listed}
use Rattle.tv_limits.specs.declared.Quantity.TheVariants.{Elf, C, Functions, Nodes, Certificate, Visits, Terms, Variables, Call, Steps, Known}
use Rattle.report_text_spec.specs.Verdict.{Verdict, RefusedWords, TooLarge, RefusedElf, RefusedC, RefusedPair, RefusedCode, RefusedCertificate, NotProof, Checked, Judged, Showed, Judgement, all_valid, status_of, maximum_of}
use Rattle.prove_run_spec.specs.Trails.{Found, Proved, Unproved, AreFound}
use Rattle.prove_run_spec.specs.Written.{Failure, failures, proof_lines}
use Rattle.tv_words.specs.Commands.{Command, Prove, Check, Show}
use Rattle.cert_run_spec.specs.Written.{text_by}
use Rattle.tv_core_spec.specs.Decisions.{Decision, Trails, no_trails, plain, judgements_of, judged_by, over_by}
use Rattle.tv_core.specs.Ends.{AnswersSearched, AnswersOver, CheckDecides, ShowDecides, ProveDecides, IsOfCommand}

-- ---- the functions that are called unproved

abbrev unproved_of : List Judgement → List Judgement
unproved_of judgements = filter (λ (j : Judgement). not j.valid) judgements

-- they have a trail each, under their names
failure_names : (listed : List Listed) (found : List Found)
    → map (λ (u : Failure). u.name) (failures listed found) ≡ map (λ (j : Judgement). j.name) (unproved_of (judgements_of listed found))
unfolding failures judgements_of
failure_names [] found = refl
failure_names (f ∷ listed) [] = refl
failure_names (f ∷ listed) (Proved logs ∷ found) = failure_names listed found
failure_names (f ∷ listed) (Unproved trail ∷ found) = ap (λ names. f.name ∷ names) (failure_names listed found)

abbrev HasReasons : Failure → Type 0
HasReasons u = u.trails ≢ []

failure_reasons : (listed : List Listed) (found : List Found) → All HasReasons (failures listed found)
unfolding failures
failure_reasons [] found = All-nil HasReasons
failure_reasons (f ∷ listed) [] = All-nil HasReasons
failure_reasons (f ∷ listed) (Proved logs ∷ found) = failure_reasons listed found
failure_reasons (f ∷ listed) (Unproved trail ∷ found) =
    All-cons HasReasons (record { name = f.name; trails = trail ∷ [] }) (failures listed found) (λ e. absurd (cc)) (failure_reasons listed found)

some_judged : (listed : List Listed) (found : List Found) → length found ≡ length listed → listed ≢ [] → judgements_of listed found ≢ []
unfolding judgements_of
some_judged [] found e some = λ none. some refl
some_judged (f ∷ listed) [] e some = absurd (omega (arith, e))
some_judged (f ∷ listed) (one ∷ found) e some = λ none. absurd (cc)

-- ---- what `prove` answers

pub answers_searched : (listed : List Listed) (found : List Found) → AreFound listed found → length (text_by listed found) ≤ maximum_of Certificate → listed ≢ []
    → AnswersSearched (judgements_of listed found) (judged_by listed found)
answers_searched listed found are short some = record {
  some = some_judged listed found are.count some;
  text = text_by listed found;
  written = refl;
  short = short;
  names = failure_names listed found;
  reasons = failure_reasons listed found;
  none_over = refl;
}

pub answers_over : (listed : List Listed) (found : List Found) → maximum_of Certificate < length (text_by listed found) → AnswersOver (over_by listed found)
answers_over listed found long = record { lines = proof_lines listed found; handed_out = refl; long = long; unwritten = refl; no_failures = refl }

-- ---- what is handed out goes with the status

-- unproved functions at 1, and a certificate that is too large at 7 alone
pub record GoesWith (status : ℕ) (trails : Trails) : Type 0 where
  pub unproved : status ≡ 1 ↔ trails.failures ≢ []
  pub over : (lines : List Line) → trails.over ≡ Some lines → status ≡ 7

nothing_goes : (status : ℕ) → status ≢ 1 → GoesWith status no_trails
nothing_goes status other = record { unproved = (λ one. absurd (other one), λ some. absurd (some refl)); over = λ lines e. absurd (cc) }

alone_goes : (verdict : Verdict) (decision : Decision) → decision ≡ plain verdict → status_of verdict ≢ 1 → GoesWith (status_of verdict) decision.trails
alone_goes verdict decision e other = subst (GoesWith (status_of verdict)) (sym (ap (λ (d : Decision). d.trails) e)) (nothing_goes (status_of verdict) other)

-- ---- judgements

one_valid : (valid all : Bool) (j : Judgement) (rest : List Judgement) → (all ≡ true → rest ≡ []) → (valid && all) ≡ true → (if not valid then j ∷ rest else rest) ≡ []
one_valid true all j rest h e = h e
one_valid false all j rest h e = absurd (cc)

none_unproved : (js : List Judgement) → all_valid js ≡ true → unproved_of js ≡ []
none_unproved [] e = refl
none_unproved (j ∷ js) e = one_valid j.valid (all_valid js) j (unproved_of js) (none_unproved js) e

one_unproved : (valid all : Bool) (j : Judgement) (rest : List Judgement) → (rest ≡ [] → all ≡ true) → (if not valid then j ∷ rest else rest) ≡ [] → (valid && all) ≡ true
one_unproved true all j rest h e = h e
one_unproved false all j rest h e = absurd (cc)

all_proved : (js : List Judgement) → unproved_of js ≡ [] → all_valid js ≡ true
all_proved [] e = refl
all_proved (j ∷ js) e = one_unproved j.valid (all_valid js) j (unproved_of js) (all_proved js) e

none_mapped : {X Y : Type 0} (f : X → Y) (xs : List X) → map f xs ≡ [] → xs ≡ []
none_mapped f [] e = refl
none_mapped f (x ∷ xs) e = absurd (cc)

-- 0 or 1
abbrev code_of : Bool → ℕ
code_of all = if all then 0 else 1

module _ (judgements : List Judgement) (decision : Decision) (h : AnswersSearched judgements decision) where
  failures_there : all_valid judgements ≡ false → decision.trails.failures ≢ []
  failures_there unproved none =
      let names = sym h.names ∙ ap (map (λ (u : Failure). u.name)) none in
      let all = all_proved judgements (none_mapped (λ (j : Judgement). j.name) (unproved_of judgements) names) in
      absurd (cc)

  failures_none : all_valid judgements ≡ true → decision.trails.failures ≡ []
  failures_none all = none_mapped (λ (u : Failure). u.name) decision.trails.failures (h.names ∙ ap (map (λ (j : Judgement). j.name)) (none_unproved judgements all))

  by_all : (all : Bool) → all_valid judgements ≡ all → code_of all ≡ 1 ↔ decision.trails.failures ≢ []
  by_all true e = (λ one. absurd (omega (arith, one)), λ some. absurd (some (failures_none e)))
  by_all false e = (λ one. failures_there e, λ some. refl)

  searched_goes : GoesWith (status_of (Judged judgements)) decision.trails
  searched_goes = record { unproved = by_all (all_valid judgements) refl; over = λ lines e. let none = h.none_over in absurd (cc) }

-- ---- commands

over_goes : (decision : Decision) → AnswersOver decision → GoesWith 7 decision.trails
over_goes decision h = record { unproved = (λ one. absurd (omega (arith, one)), λ some. absurd (some h.no_failures)); over = λ lines e. refl }

prove_goes : (verdict : Verdict) (decision : Decision) → ProveDecides verdict decision → GoesWith (status_of verdict) decision.trails
prove_goes RefusedWords decision h = absurd h
prove_goes (TooLarge Certificate) decision h = over_goes decision h
prove_goes (TooLarge Elf) decision h = alone_goes (TooLarge Elf) decision h (λ one. omega (arith, one))
prove_goes (TooLarge C) decision h = alone_goes (TooLarge C) decision h (λ one. omega (arith, one))
prove_goes (TooLarge Functions) decision h = alone_goes (TooLarge Functions) decision h (λ one. omega (arith, one))
prove_goes (TooLarge Nodes) decision h = alone_goes (TooLarge Nodes) decision h (λ one. omega (arith, one))
prove_goes (TooLarge Visits) decision h = alone_goes (TooLarge Visits) decision h (λ one. omega (arith, one))
prove_goes (TooLarge Terms) decision h = alone_goes (TooLarge Terms) decision h (λ one. omega (arith, one))
prove_goes (TooLarge Variables) decision h = alone_goes (TooLarge Variables) decision h (λ one. omega (arith, one))
prove_goes (TooLarge Call) decision h = alone_goes (TooLarge Call) decision h (λ one. omega (arith, one))
prove_goes (TooLarge Steps) decision h = alone_goes (TooLarge Steps) decision h (λ one. omega (arith, one))
prove_goes (TooLarge Known) decision h = alone_goes (TooLarge Known) decision h (λ one. omega (arith, one))
prove_goes (RefusedElf fault offset) decision h = alone_goes (RefusedElf fault offset) decision h (λ one. omega (arith, one))
prove_goes (RefusedC kind offset) decision h = alone_goes (RefusedC kind offset) decision h (λ one. omega (arith, one))
prove_goes (RefusedPair kind name) decision h = alone_goes (RefusedPair kind name) decision h (λ one. omega (arith, one))
prove_goes (RefusedCode kind name address) decision h = alone_goes (RefusedCode kind name address) decision h (λ one. omega (arith, one))
prove_goes (RefusedCertificate offset) decision h = absurd h
prove_goes (NotProof name offset rule) decision h = absurd h
prove_goes (Checked judgements) decision h = absurd h
prove_goes (Judged judgements) decision h = searched_goes judgements decision h
prove_goes (Showed shown) decision h = absurd h

not_one_of_check : (verdict : Verdict) → CheckDecides verdict → status_of verdict ≢ 1
not_one_of_check RefusedWords h = absurd h
not_one_of_check (TooLarge quantity) h = λ one. omega (arith, one)
not_one_of_check (RefusedElf fault offset) h = λ one. omega (arith, one)
not_one_of_check (RefusedC kind offset) h = λ one. omega (arith, one)
not_one_of_check (RefusedPair kind name) h = λ one. omega (arith, one)
not_one_of_check (RefusedCode kind name address) h = λ one. omega (arith, one)
not_one_of_check (RefusedCertificate offset) h = λ one. omega (arith, one)
not_one_of_check (NotProof name offset rule) h = λ one. omega (arith, one)
not_one_of_check (Checked judgements) h = λ one. omega (arith, one)
not_one_of_check (Judged judgements) h = absurd h
not_one_of_check (Showed shown) h = absurd h

not_one_of_show : (function : List ℕ) (verdict : Verdict) → ShowDecides function verdict → status_of verdict ≢ 1
not_one_of_show function RefusedWords h = absurd h
not_one_of_show function (TooLarge quantity) h = λ one. omega (arith, one)
not_one_of_show function (RefusedElf fault offset) h = λ one. omega (arith, one)
not_one_of_show function (RefusedC kind offset) h = λ one. omega (arith, one)
not_one_of_show function (RefusedPair kind name) h = λ one. omega (arith, one)
not_one_of_show function (RefusedCode kind name address) h = λ one. omega (arith, one)
not_one_of_show function (RefusedCertificate offset) h = absurd h
not_one_of_show function (NotProof name offset rule) h = absurd h
not_one_of_show function (Checked judgements) h = absurd h
not_one_of_show function (Judged judgements) h = absurd h
not_one_of_show function (Showed shown) h = λ one. omega (arith, one)

-- what a command decides
pub command_goes : (command : Command) (decision : Decision) → IsOfCommand command decision → GoesWith (status_of decision.verdict) decision.trails
command_goes (Prove job) decision h = prove_goes decision.verdict decision h
command_goes (Check job) decision h = alone_goes decision.verdict decision h.1 (not_one_of_check decision.verdict h.0)
command_goes (Show job) decision h = alone_goes decision.verdict decision h.1 (not_one_of_show job.function decision.verdict h.0)

-- and a usage error
pub usage_goes : GoesWith 2 no_trails
usage_goes = nothing_goes 2 (λ one. omega (arith, one))
