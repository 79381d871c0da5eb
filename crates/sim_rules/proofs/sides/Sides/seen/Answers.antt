use Rattle.sim_rules.proofs.sides.Sides.seen.Goals as goal

pub returns-clause-seen : goal.returns-clause-seen
returns-clause-seen c = λ trees a d are found. record {
  binary = c.sight_if.ensures trees a are.binary found.binary;
  source = c.sight_if-2.ensures trees d are.source found.source;
}
