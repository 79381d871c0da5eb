-- What is written of what a search found: the text of the certificate, and when its hints are numbers of certificates.
use Rattle.std.specs.Prelude.{ℕ, ⊤, List, All, flat_map}
use Rattle.clause_check_spec.specs.Log.{Step}
use Rattle.cert_text_spec.specs.Points.{IsNumber}
use Rattle.cert_text_spec.specs.Lines.{line_text}
use Rattle.cert_check_spec.specs.Verdict.{Listed}
use Rattle.prove_run_spec.specs.Trails.{Found, Proved, Unproved}
use Rattle.prove_run_spec.specs.Written.{proof_lines}

-- the text of the certificate of the functions that are proved
abbrev pub text_by : List Listed → List Found → List ℕ
text_by listed found = flat_map line_text (proof_lines listed found)

-- a certificate can be written of it: each hint of its logs is a number of certificates
abbrev pub HasSmallHints : Found → Type 0
HasSmallHints (Proved logs) = All (λ (log : List Step). All (λ (step : Step). All IsNumber step.hints) log) logs
HasSmallHints (Unproved trail) = ⊤
