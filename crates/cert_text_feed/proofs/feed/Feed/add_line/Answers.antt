use Rattle.std.proofs.Common.{◌≡◌, rules, sym, refl, subst, None, arith}
use Rattle.cert_text_feed.specs.Feeds.{IsGoing}
use Rattle.cert_text_feed.proofs.Going.{gives_at, cause_at, takes_refused}
use Rattle.cert_text_feed.proofs.feed.Feed.add_line.Goals as goal

pub returns-in-Ok : goal.returns-in-Ok
returns-in-Ok c bytes lines none g within =
    let h = subst (λ p. IsGoing bytes lines p) (sym c.self.view_is) g in
    gives_at bytes lines c.args.piece.now.rest.now c.args.more c.extend_from_slice.new.self.items c.given_line.new.bytes.items c.in-Ok.line c.saturating_sub-start.result
    c.self.inside.stack.items c.given_line.new.stack.items _ _ h within c.requires (search rules) (omega (arith, c.saturating_sub-start.ensures, c.len-kept.ensures, c.self.inside.line.ok.0))
    c.in-Ok.ensures refl refl refl c.saturating_add-self-inside.ensures (subst (λ p. p.fault ≡ None) (sym c.self.view_is) none)

pub returns-in-Err-Fault : goal.returns-in-Err-Fault
returns-in-Err-Fault c bytes lines none g within =
    let h = subst (λ p. IsGoing bytes lines p) (sym c.self.view_is) g in
    takes_refused _ c.refuse.result bytes lines c.args.piece.now.rest.now c.refuse.new.piece.rest.now _ c.refuse.new.self c.refuse.ensures
    (cause_at bytes lines c.args.piece.now.rest.now c.args.more c.extend_from_slice.new.self.items c.saturating_sub-start.result c.in-Err-Fault.offset c.self.inside.stack.items _ h within c.requires
    (search rules) (omega (arith, c.saturating_sub-start.ensures, c.len-kept.ensures, c.self.inside.line.ok.0)) refl (rw c.in-Err-Fault.field-0-is at c.in-Err-Fault.ensures) _ _ c.saturating_add.ensures refl)
