use Rattle.std.proofs.Common.{◌≡◌, ◌∙◌, [], ◌∷◌, ◌++◌, sym, subst}
use Rattle.std.proofs.lemmas.Option.{MatchOption-at_none}
use Rattle.cert_check_terms.proofs.Stacks.{none_so_far, one_taken, bracket_taken, none_closes}
use Rattle.cert_check_terms.proofs.closing.take_arguments.Goals as goal

pub loop-entry-init : goal.loop-entry-init
loop-entry-init c = none_so_far c.args.entries.now.items c.clear.new.self.items c.clear.ensures.items

pub returns-in-Bracket : goal.returns-in-Bracket
returns-in-Bracket c = λ trees inside.
    bracket_taken c.args.entries.now.items c.loop-entry.entries.items c.pop.new.self.items c.loop-entry.arguments.items c.in-Bracket.operator c.loop-entry.invariant
    (subst (λ e. c.loop-entry.entries.items ≡ c.pop.new.self.items ++ e ∷ []) c.in-Bracket.is c.in-Some.ensures.items) trees inside

pub loop-entry-preserved : goal.loop-entry-preserved
loop-entry-preserved c =
    one_taken c.args.entries.now.items c.loop-entry.entries.items c.pop.new.self.items c.loop-entry.arguments.items c.push.new.self.items c.in-Whole.subterm c.loop-entry.invariant
    (subst (λ e. c.loop-entry.entries.items ≡ c.pop.new.self.items ++ e ∷ []) c.in-Whole.is c.in-Some.ensures.items) c.in-Ok.ensures.items

pub returns : goal.returns
returns c = λ trees inside.
    none_closes c.args.entries.now.items c.loop-entry.entries.items c.loop-entry.arguments.items c.loop-entry.invariant
    (sym c.loop-entry.entries.ok.0 ∙ (MatchOption-at_none _ _ c.in_default.is c.pop.ensures.cases).0) trees inside
