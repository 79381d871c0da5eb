use Rattle.std.proofs.Common.{◌≡◌, Some, arith, rules}
use Rattle.term_substitution.proofs.state.put_atom.Goals as goal

pub returns-in-Some-clause-within : goal.returns-in-Some-clause-within
returns-in-Some-clause-within g c =
    let e : g.L.Lookup.terms c.args.state.now c.in-Open.variable ≡ Some c.in-Some.id = search rules in
    let below = c.requires.state c.in-Open.variable c.in-Some.id e in
    omega arith
