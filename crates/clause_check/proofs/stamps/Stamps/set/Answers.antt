use Rattle.std.proofs.Common.{rules, ◌≡◌, ◌-◌, ◌<◌, ◌∙◌, length, set, vec_len, ap, sym, subst}
use Rattle.clause_check_spec.specs.Clause.{negation}
use Rattle.cnf_core.specs.Codes.{code_of}
use Rattle.clause_check.specs.Stamps.{signs_in, AreApart}
use Rattle.clause_check.proofs.Stamped.{within, one_more, still_bound}
use Rattle.clause_check.proofs.stamps.Stamps.set.Goals as goal

pub index_mut-requires : goal.index_mut-requires
index_mut-requires c =
    let len : length c.self.inside.stamps.items ≡ vec_len c.self.inside.stamps = search rules in
    let code : c.code-index.result ≡ code_of (negation c.args.literal) = c.code-index.ensures.value ∙ ap code_of c.negation.ensures in
    subst (λ n. n - 2 < vec_len c.self.inside.stamps) (sym code)
    (subst (λ n. code_of (negation c.args.literal) - 2 < n) len
    (within c.self.inside.round c.self.inside.stamps.items c.args.self.now (negation c.args.literal) c.self.view_is c.requires.named).1)

pub returns : goal.returns
returns c =
    let code : c.code-index.result ≡ code_of (negation c.args.literal) = c.code-index.ensures.value ∙ ap code_of c.negation.ensures in
    ap (λ n. signs_in c.self.inside.round (set c.self.inside.stamps.items (n - 2) c.self.inside.round)) code
    ∙ (one_more c.self.inside.round c.self.inside.stamps.items c.args.self.now c.args.literal c.self.invariant c.self.view_is c.requires.named c.requires.unset).0

pub invariant_of-self : goal.invariant_of-self
invariant_of-self c =
    let code : c.code-index.result ≡ code_of (negation c.args.literal) = c.code-index.ensures.value ∙ ap code_of c.negation.ensures in
    record {
      bound = still_bound c.self.inside.round c.self.inside.stamps.items (c.code-index.result - 2) c.self.invariant.bound;
      apart = subst (λ n. AreApart c.self.inside.round (set c.self.inside.stamps.items (n - 2) c.self.inside.round)) (sym code)
          (one_more c.self.inside.round c.self.inside.stamps.items c.args.self.now c.args.literal c.self.invariant c.self.view_is c.requires.named c.requires.unset).1;
    }
