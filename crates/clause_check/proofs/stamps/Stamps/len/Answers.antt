use Rattle.std.proofs.Common.{rules, ◌≡◌, ◌/◌, length, ap, sym, ◌∙◌}
use Rattle.clause_check.proofs.Stamped.{length_signs}
use Rattle.clause_check.proofs.stamps.Stamps.len.Goals as goal

pub returns : goal.returns
returns c =
    let len : c.len.result ≡ length c.self.inside.stamps.items = search rules in
    ap (λ n. n / 2) len ∙ sym (length_signs c.self.inside.round c.self.inside.stamps.items) ∙ ap length c.self.view_is
