use Rattle.std.proofs.Common.{rules, ◌≡◌, ◌-◌, ◌<◌, length, get_or, vec_len, ap, sym, ◌∙◌, subst}
use Rattle.std.specs.Prelude.{◌==◌}
use Rattle.cnf_core.specs.Codes.{code_of}
use Rattle.clause_check.proofs.Stamped.{within, false_at}
use Rattle.clause_check.proofs.stamps.Stamps.is_false.Goals as goal

pub index-requires : goal.index-requires
index-requires c =
    let len : length c.self.inside.stamps.items ≡ vec_len c.self.inside.stamps = search rules in
    subst (λ n. n - 2 < vec_len c.self.inside.stamps) (sym c.code.ensures.value)
    (subst (λ n. code_of c.args.literal - 2 < n) len
    (within c.self.inside.round c.self.inside.stamps.items c.args.self.now c.args.literal c.self.view_is c.requires).1)

pub returns : goal.returns
returns c =
    ap (λ s. s == c.self.inside.round) (c.index.ensures ∙ ap (λ n. get_or c.self.inside.stamps.items (n - 2) c.index.result.now) c.code.ensures.value)
    ∙ false_at c.self.inside.round c.self.inside.stamps.items c.args.self.now c.args.literal c.index.result.now c.self.invariant c.self.view_is c.requires
