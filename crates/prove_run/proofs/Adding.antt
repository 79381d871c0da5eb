-- Lines that are added to a certificate.
use Rattle.std.proofs.Common.{◌≡◌, ◌∙◌, ◌+◌, ◌<◌, ◌≤◌, ℕ, Vec, Global, true, false, List, [], ◌∷◌, ◌++◌, length, map, take, get_or, refl, sym, ap, ap₂, subst, arith, append_assoc, append-nil, length-append}
use Rattle.std.proofs.lemmas.List.{length-map, map_push, take_more, take_all}
use Rattle.clause_check_spec.specs.declared.Literal as clause
use Rattle.clause_check_spec.specs.Log.{Step}
use Rattle.cert_text_spec.specs.Lines as spec
use Rattle.cert_text_parse.specs.declared.lines.Literal.{Literal}
use Rattle.cert_text_parse.specs.declared.lines.Line.{Line}
use Rattle.cert_text_parse.specs.declared.lines.Line.TheVariants as code
use Rattle.cert_text_parse.specs.Views.{literal_of, line_of, line_at, step_of, is_step, literals_in, hints_in}
use Rattle.cert_text.specs.declared.certificates.Cert.{Cert}
use Rattle.cert_text.specs.Certificates.{lines_of, certificate_of, all_literals, all_hints}
use Rattle.cert_text.proofs.Additions.{literals_more, hints_more, one_more}
use Rattle.prove_run_spec.specs.Written.{log_lines, logs_lines}
use Rattle.prove_run.specs.Found.{logs_of}
use Rattle.prove_run.specs.Written.{AddsLiterals, AddsLines}

-- ---- a line more

-- a line with its literals and hints is added
pub line_more : (old new : Cert) (line : Line) (literals : List Literal) (hints : List ℕ) → new.lines.items ≡ old.lines.items ++ line ∷ []
    → new.logs.literals.items ≡ old.logs.literals.items ++ literals → new.logs.hints.items ≡ old.logs.hints.items ++ hints → literals_in line ≡ length literals
    → hints_in line ≡ length hints → AddsLines old new (line_at line literals hints ∷ [])
line_more old new line literals hints lines_are literals_are hints_are few less whole = record {
  whole = record {
    literals =
        ap all_literals lines_are ∙ literals_more old.lines.items line
        ∙ omega (arith, whole.literals, few, ap length literals_are, length-append old.logs.literals.items literals);
    hints =
        ap all_hints lines_are ∙ hints_more old.lines.items line
        ∙ omega (arith, whole.hints, less, ap length hints_are, length-append old.logs.hints.items hints);
  };
  now =
      (λ i. lines_of (lines_are i) (literals_are i) (hints_are i))
      ∙ one_more old.lines.items line old.logs.literals.items literals old.logs.hints.items hints whole.literals whole.hints;
}

-- a line that is no step has no literals and hints
plain_at : (line : Line) → is_step line ≡ false → line_at line [] [] ≡ line_of line
plain_at (code.Step k h) plain = absurd (let e : true ≡ false = plain in cc)
plain_at code.Header plain = refl
plain_at (code.Function b) plain = refl
plain_at (code.InlineBinary b) plain = refl
plain_at (code.InlineSource b) plain = refl
plain_at (code.Leaf n) plain = refl
plain_at (code.Case b) plain = refl
plain_at (code.RestrictBinary b) plain = refl
plain_at (code.RestrictSource b) plain = refl
plain_at (code.Split b) plain = refl
plain_at (code.Call b) plain = refl
plain_at (code.Relation b) plain = refl
plain_at (code.Log n) plain = refl
plain_at code.End plain = refl

plain_literals : (line : Line) → is_step line ≡ false → literals_in line ≡ 0
plain_literals (code.Step k h) plain = absurd (let e : true ≡ false = plain in cc)
plain_literals code.Header plain = refl
plain_literals (code.Function b) plain = refl
plain_literals (code.InlineBinary b) plain = refl
plain_literals (code.InlineSource b) plain = refl
plain_literals (code.Leaf n) plain = refl
plain_literals (code.Case b) plain = refl
plain_literals (code.RestrictBinary b) plain = refl
plain_literals (code.RestrictSource b) plain = refl
plain_literals (code.Split b) plain = refl
plain_literals (code.Call b) plain = refl
plain_literals (code.Relation b) plain = refl
plain_literals (code.Log n) plain = refl
plain_literals code.End plain = refl

plain_hints : (line : Line) → is_step line ≡ false → hints_in line ≡ 0
plain_hints (code.Step k h) plain = absurd (let e : true ≡ false = plain in cc)
plain_hints code.Header plain = refl
plain_hints (code.Function b) plain = refl
plain_hints (code.InlineBinary b) plain = refl
plain_hints (code.InlineSource b) plain = refl
plain_hints (code.Leaf n) plain = refl
plain_hints (code.Case b) plain = refl
plain_hints (code.RestrictBinary b) plain = refl
plain_hints (code.RestrictSource b) plain = refl
plain_hints (code.Split b) plain = refl
plain_hints (code.Call b) plain = refl
plain_hints (code.Relation b) plain = refl
plain_hints (code.Log n) plain = refl
plain_hints code.End plain = refl

pub plain_more : (old new : Cert) (line : Line) → is_step line ≡ false → new.lines.items ≡ old.lines.items ++ line ∷ [] → new.logs ≡ old.logs → AddsLines old new (line_of line ∷ [])
plain_more old new line plain lines_are same =
    subst (λ (l : spec.Line). AddsLines old new (l ∷ [])) (plain_at line plain)
    (line_more old new line [] [] lines_are (ap (λ l. l.literals.items) same ∙ sym (append-nil old.logs.literals.items))
    (ap (λ l. l.hints.items) same ∙ sym (append-nil old.logs.hints.items)) (plain_literals line plain) (plain_hints line plain))

-- ---- a step

take_whole : {X : Type 0} (xs : List X) (n : ℕ) → n ≡ length xs → take n xs ≡ xs
take_whole xs n is = take_all n xs (omega (arith, is))

pub step_more : (old new : Cert) (step : Step) (written : List clause.Literal) (named : List ℕ) (literals hints : ℕ)
    → new.lines.items ≡ old.lines.items ++ code.Step literals hints ∷ [] → AddsLiterals old.logs.literals.items new.logs.literals.items written → written ≡ step.literals
    → new.logs.hints.items ≡ old.logs.hints.items ++ named → named ≡ step.hints → literals ≡ length step.literals → hints ≡ length step.hints
    → AddsLines old new (spec.LogStep step ∷ [])
step_more old new step written named literals hints lines_are added literals_are hints_added hints_are few less =
    let count : literals ≡ length added.added = few ∙ ap length (sym literals_are) ∙ ap length (sym added.are) ∙ length-map added.added literal_of in
    let as_many : hints ≡ length named = less ∙ ap length (sym hints_are) in
    subst (λ (l : spec.Line). AddsLines old new (l ∷ []))
    ((λ i. step_of (take_whole added.added literals count i) (take_whole named hints as_many i))
    ∙ (λ i. spec.LogStep (record { literals = (added.are ∙ literals_are) i; hints = hints_are i })))
    (line_more old new (code.Step literals hints) added.added named lines_are added.now hints_added count as_many)

-- the literals so far
pub no_literals : (old : List Literal) (literals : List clause.Literal) → literals ≡ [] → AddsLiterals old old literals
no_literals old literals none = record { added = []; now = sym (append-nil old); are = sym none }

pub literal_more : (old now new : List Literal) (literals : List clause.Literal) (index : ℕ) (one : Literal) (l d : clause.Literal) → AddsLiterals old now (take index literals)
    → new ≡ now ++ one ∷ [] → index < length literals → l ≡ get_or literals index d → literal_of one ≡ l → AddsLiterals old new (take (index + 1) literals)
literal_more old now new literals index one l d before pushed below is same = record {
  added = before.added ++ one ∷ [];
  now = pushed ∙ ap (λ (xs : List Literal). xs ++ one ∷ []) before.now ∙ append_assoc old before.added (one ∷ []);
  are =
      map_push literal_of before.added one
      ∙ ap₂ (λ (xs : List clause.Literal) (x : clause.Literal). xs ++ x ∷ []) before.are (same ∙ is)
      ∙ sym (take_more literals index d below);
}

pub all_the_literals : (old new : List Literal) (literals : List clause.Literal) (index : ℕ) → length literals ≤ index → AddsLiterals old new (take index literals) → AddsLiterals old new literals
all_the_literals old new literals index past before = subst (AddsLiterals old new) (take_all index literals past) before

-- ---- lines after lines

pub nothing_more : (cert : Cert) → AddsLines cert cert []
nothing_more cert whole = record { whole = whole; now = sym (append-nil (certificate_of cert)) }

pub more_then : (a b c : Cert) (first second : List spec.Line) → AddsLines a b first → AddsLines b c second → AddsLines a c (first ++ second)
more_then a b c first second x y whole =
    let one = x whole in
    let two = y one.whole in
    record {
      whole = two.whole;
      now = two.now ∙ ap (λ (l : List spec.Line). l ++ second) one.now ∙ append_assoc (certificate_of a) first second;
    }

pub steps_more : (a b c : Cert) (log : List Step) (index : ℕ) (step d : Step) → AddsLines a b (map spec.LogStep (take index log)) → AddsLines b c (spec.LogStep step ∷ []) → index < length log
    → step ≡ get_or log index d → AddsLines a c (map spec.LogStep (take (index + 1) log))
steps_more a b c log index step d before one below is =
    subst (AddsLines a c)
    (ap (λ (x : Step). map spec.LogStep (take index log) ++ spec.LogStep x ∷ []) is ∙ sym (map_push spec.LogStep (take index log) (get_or log index d)) ∙ ap (map spec.LogStep) (sym (take_more log index d below)))
    (more_then a b c (map spec.LogStep (take index log)) (spec.LogStep step ∷ []) before one)

pub all_steps : (a b : Cert) (log : List Step) (index : ℕ) → length log ≤ index → AddsLines a b (map spec.LogStep (take index log)) → AddsLines a b (map spec.LogStep log)
all_steps a b log index past before = subst (λ (l : List Step). AddsLines a b (map spec.LogStep l)) (take_all index log past) before

logs_push : (logs : List (List Step)) (log : List Step) → logs_lines (logs ++ log ∷ []) ≡ logs_lines logs ++ log_lines log
unfolding logs_lines
logs_push [] log = append-nil (log_lines log)
logs_push (l ∷ logs) log = ap (λ (x : List spec.Line). log_lines l ++ x) (logs_push logs log) ∙ sym (append_assoc (log_lines l) (logs_lines logs) (log_lines log))

pub no_logs : (cert : Cert) → AddsLines cert cert (logs_lines (logs_of []))
unfolding logs_lines
no_logs cert = nothing_more cert

pub logs_more : (a b c : Cert) (logs : List (Vec Step Global)) (index : ℕ) (log d : Vec Step Global) → AddsLines a b (logs_lines (logs_of (take index logs)))
    → AddsLines b c (log_lines log.items) → index < length logs → log ≡ get_or logs index d → AddsLines a c (logs_lines (logs_of (take (index + 1) logs)))
logs_more a b c logs index log d before one below is =
    subst (AddsLines a c)
    (ap (λ (x : Vec Step Global). logs_lines (logs_of (take index logs)) ++ log_lines x.items) is
    ∙ sym (logs_push (logs_of (take index logs)) (get_or logs index d).items)
    ∙ ap logs_lines (sym (map_push (λ (l : Vec Step Global). l.items) (take index logs) (get_or logs index d)) ∙ ap logs_of (sym (take_more logs index d below))))
    (more_then a b c (logs_lines (logs_of (take index logs))) (log_lines log.items) before one)

pub all_logs : (a b : Cert) (logs : List (Vec Step Global)) (index : ℕ) → length logs ≤ index → AddsLines a b (logs_lines (logs_of (take index logs))) → AddsLines a b (logs_lines (logs_of logs))
all_logs a b logs index past before = subst (λ (l : List (Vec Step Global)). AddsLines a b (logs_lines (logs_of l))) (take_all index logs past) before

-- ---- the whole

empty_lines : (cert : Cert) → cert.lines.items ≡ [] → certificate_of cert ≡ []
unfolding lines_of
empty_lines cert none = ap (λ ls. lines_of ls cert.logs.literals.items cert.logs.hints.items) none

pub whole_lines : (old new : Cert) (lines : List spec.Line) → old.lines.items ≡ [] → old.logs.literals.items ≡ [] → old.logs.hints.items ≡ [] → AddsLines old new lines
    → certificate_of new ≡ lines
whole_lines old new lines none no_literal no_hint added =
    let more = added (record { literals = ap all_literals none ∙ ap length (sym no_literal); hints = ap all_hints none ∙ ap length (sym no_hint) }) in
    more.now ∙ ap (λ (l : List spec.Line). l ++ lines) (empty_lines old none)
