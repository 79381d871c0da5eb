use Rattle.std.proofs.Common.{rules, ◌≡◌, ◌-◌, ◌∙◌, ◌++◌, ◌∷◌, [], true, length, set, ap, sym, subst}
use Rattle.clause_check_spec.specs.Clause.{is_of, negation}
use Rattle.sat_search_spec.specs.declared.Entry.{Entry}
use Rattle.sat_search_spec.specs.Trail.{IsAbsent}
use Rattle.cnf_core.specs.Codes.{code_of}
use Rattle.sat_search_state.specs.Placed.{IsKept}
use Rattle.sat_search_state.proofs.Places.{kept_more}
use Rattle.sat_search_state.proofs.entries.Trail.push.Goals as goal

pub invariant_of-self-2 : goal.invariant_of-self-2
invariant_of-self-2 c =
    let entries = c.self.inside.entries.items in
    let places = c.self.inside.places.items in
    let truths = c.self.inside.truths.items in
    let more : Entry = record { literal = c.args.literal; reason = c.args.reason; level = c.self.inside.level } in
    let named : is_of (length places) c.args.literal ≡ true = ap (λ t. is_of t.variables c.args.literal) c.self.view_is ∙ c.requires.of_variables in
    let not_true : IsAbsent entries c.args.literal = subst (λ t. IsAbsent t.entries c.args.literal) (sym c.self.view_is) c.requires.not_true in
    let not_false : IsAbsent entries (negation c.args.literal) = subst (λ t. IsAbsent t.entries (negation c.args.literal)) (sym c.self.view_is) c.requires.not_false in
    let added : c.push.new.self.items ≡ entries ++ more ∷ [] = search rules in
    let place : c.len-place.result ≡ length entries = search rules in
    let index : c.variable.result ≡ c.args.literal.variable = search rules in
    let code : c.code.result ≡ code_of c.args.literal = search rules in
    subst (λ e. IsKept e (set places (c.variable.result - 1) c.len-place.result) (set truths c.code.result true)) (sym added)
    (subst (λ v. IsKept (entries ++ more ∷ []) (set places (v - 1) c.len-place.result) (set truths c.code.result true)) (sym index)
    (subst (λ n. IsKept (entries ++ more ∷ []) (set places (c.args.literal.variable - 1) n) (set truths c.code.result true)) (sym place)
    (subst (λ k. IsKept (entries ++ more ∷ []) (set places (c.args.literal.variable - 1) (length entries)) (set truths k true)) (sym code)
    (kept_more entries places truths more c.self.invariant named not_true not_false))))
