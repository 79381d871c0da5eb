use Rattle.std.proofs.Common.{ℕ, refl, rules}
use Rattle.term_bank.specs.declared.node.TermNode.TheVariants.{Octonary}
use Rattle.term_bank.specs.Nodes.{IsNode}
use Rattle.term_norm.specs.Walk.{form_at, IsStop}
use Rattle.term_norm.proofs.walk.Walk.with_eight.Goals as goal

pub returns-in_err-s : goal.returns-in_err-s
returns-in_err-s c =
    let args = c.args in
    let wanted : (bound : ℕ) → IsNode bound (Octonary args.a args.b args.c args.d args.e args.f args.g args.h) → IsStop (form_at c.args.self.now) bound c.in_err-s.field-0.0 =
    λ bound is. c.in_err-s.ensures.wanted bound (is.0, is.1, is.2, is.3) in
    search (rules, wanted)

pub returns-in_err-w : goal.returns-in_err-w
returns-in_err-w c =
    let args = c.args in
    let wanted : (bound : ℕ) → IsNode bound (Octonary args.a args.b args.c args.d args.e args.f args.g args.h) → IsStop (form_at c.args.self.now) bound c.in_err-w.field-0.0 =
    λ bound is. c.in_err-w.ensures.wanted bound (is.4, is.5, is.6, is.7) in
    search (rules, wanted)

pub returns : goal.returns
returns c =
    let low = c.in_ok-s.ensures.found in
    let high = c.in_ok-w.ensures.found in
    (c.in_ok-s.s, c.in_ok-s.t, c.in_ok-s.u, c.in_ok-s.v, c.in_ok-w.w, c.in_ok-w.x, c.in_ok-w.y, c.in_ok-w.z, low.0, low.1, low.2, low.3, high.0, high.1, high.2, high.3, refl)
