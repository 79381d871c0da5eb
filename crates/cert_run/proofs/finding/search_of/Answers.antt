use Rattle.std.proofs.Common.{◌≡◌, ◌∙◌, ◌<◌, ◌≤◌, List, length, ap, subst, arith}
use Rattle.std.specs.Prelude.{map, All, Vec, Bool}
use Rattle.std.specs.Global.{Global}
use Rattle.std.proofs.lemmas.List.{length-map}
use Rattle.cert_text_spec.specs.Points.{IsNumber}
use Rattle.prove_run.specs.declared.trail.Found.{Found}
use Rattle.prove_run.specs.Found.{found_of}
use Rattle.tv_limits.specs.declared.TheConstants.{MAX_CERTIFICATE_BYTES}
use Rattle.cert_run.specs.Searches.{is_proved}
use Rattle.cert_run.proofs.Numbers.{small_hints}
use Rattle.cert_run.proofs.Searching.{all_within, is_over}
use Rattle.cert_run.proofs.finding.search_of.Goals as goal

pub returns-then-len-gt-MAX_CERTIFICATE_BYTES : goal.returns-then-len-gt-MAX_CERTIFICATE_BYTES
returns-then-len-gt-MAX_CERTIFICATE_BYTES c =
    let text = c.in-Ok-attempt-text.field-0 in
    let found = map found_of c.args.found.items in
    let long : MAX_CERTIFICATE_BYTES < length text.items = omega (arith, c.len.ensures) in
    let valid : c.over.result.valid.items ≡ map is_proved found =
    ap (λ (v : Vec Bool Global). v.items) c.over.ensures.rest.1 ∙ (c.in-Ok-attempt.ensures ∙ ap (λ (xs : List Found). map is_proved (map found_of xs)) c.as_slice.ensures.value) in
    let numbers : All IsNumber c.args.cert.logs.hints.items = subst (All IsNumber) c.as_slice-hints.ensures.value c.are_numbers.ensures in
    λ functions are lines.
    let count = length-map c.args.found.items found_of ∙ (c.requires ∙ are.count) in
    let small = small_hints c.args.cert functions found numbers count lines in
    is_over functions found c.args.cert small lines c.over.result text.items c.in-Ok-attempt-text.ensures long valid c.over.ensures.over c.over.ensures.unproved
    c.over.ensures.rest.0

pub returns-else-len-gt-MAX_CERTIFICATE_BYTES : goal.returns-else-len-gt-MAX_CERTIFICATE_BYTES
returns-else-len-gt-MAX_CERTIFICATE_BYTES c =
    let text = c.in-Ok-attempt-text.field-0 in
    let found = map found_of c.args.found.items in
    let short : length text.items ≤ MAX_CERTIFICATE_BYTES = omega (arith, c.len.ensures) in
    let valid : c.in-Ok-attempt.field-0.items ≡ map is_proved found =
    c.in-Ok-attempt.ensures ∙ ap (λ (xs : List Found). map is_proved (map found_of xs)) c.as_slice.ensures.value in
    let numbers : All IsNumber c.args.cert.logs.hints.items = subst (All IsNumber) c.as_slice-hints.ensures.value c.are_numbers.ensures in
    λ functions are lines.
    let count = length-map c.args.found.items found_of ∙ (c.requires ∙ are.count) in
    let small = small_hints c.args.cert functions found numbers count lines in
    all_within functions found c.args.cert small lines c.within.result text c.in-Ok-attempt.field-0 c.in-Ok-attempt-text.ensures short valid
    (c.within.ensures.trails functions are) c.within.ensures.text c.within.ensures.valid
