use Rattle.std.specs.Prelude.{◌-◌}
use Rattle.std.proofs.Common.{◌≡◌, ◌∙◌, rules, ap, sym, subst, Err, arith, length, eqb-true}
use Rattle.std.proofs.lemmas.List.{nil_from_length}
use Rattle.cert_text_parse.specs.Keywords.{expected_of}
use Rattle.cert_text.specs.Stack.{stack_of}
use Rattle.attempt.specs.declared.refusal.Refusal.TheVariants.{Fault}
use Rattle.cert_text_feed.specs.declared.faults.FeedFault.TheVariants.{Refused}
use Rattle.cert_text_feed.specs.Feeds.{IsFed, IsEnd}
use Rattle.cert_text_feed.proofs.Going.{going, ends_kept, ends_at, ends_whole, ends_late, none_of}
use Rattle.cert_text_feed.proofs.feed.Feed.finish.Goals as goal

pub returns-in-Some : goal.returns-in-Some
returns-in-Some c bytes lines h = ends_kept bytes lines c.args.self.now c.in-Some.fault (sym (ap (λ p. p.fault) c.self.view_is) ∙ c.in-Some.is) h

pub returns-in-Ok-attempt : goal.returns-in-Ok-attempt
returns-in-Ok-attempt c bytes lines h =
    let g = going bytes lines _ (none_of c.self.inside.fault c.in_default.not-Some) (subst (λ p. IsFed bytes lines p) (sym c.self.view_is) h) in
    subst (λ r. IsEnd bytes lines (Err r)) (sym c.refused.ensures)
    (ends_at bytes lines _ (expected_of c.in-Some-first_expected.expected) c.in-Some-first_expected.ensures.0 c.saturating_sub-start.result _ c.saturating_add.result g
    (ap stack_of (sym c.as_slice.ensures.value) ∙ c.in-Some-first_expected.ensures.1) (search rules)
    (omega (arith, c.saturating_sub-start.ensures, c.len.ensures, c.self.inside.line.ok.0)) c.saturating_add.ensures)

pub returns-in-None : goal.returns-in-None
returns-in-None c bytes lines h =
    let g = going bytes lines _ (none_of c.self.inside.fault c.in_default.not-Some) (subst (λ p. IsFed bytes lines p) (sym c.self.view_is) h) in
    ends_whole bytes lines _ g (ap stack_of (sym c.as_slice.ensures.value) ∙ c.in-None.ensures)
    (nil_from_length c.self.inside.line.items (omega (arith, eqb-true _ 0 (sym c.is_empty.ensures ∙ c.if-is_empty.true), c.self.inside.line.ok.0)))

pub returns-in-None-2 : goal.returns-in-None-2
returns-in-None-2 c bytes lines h =
    let g = going bytes lines _ (none_of c.self.inside.fault c.in_default.not-Some) (subst (λ p. IsFed bytes lines p) (sym c.self.view_is) h) in
    let start : c.saturating_sub-start.result ≡ c.self.inside.taken - length c.self.inside.line.items = omega (arith, c.saturating_sub-start.ensures, c.len.ensures, c.self.inside.line.ok.0) in
    subst (λ r. IsEnd bytes lines (Err r)) (sym c.refused-in-None-2.ensures)
    (subst (λ n. IsEnd bytes lines (Err (Fault (Refused n)))) (sym start)
    (ends_late bytes lines _ g (ap stack_of (sym c.as_slice.ensures.value) ∙ c.in-None.ensures) (search rules)))
