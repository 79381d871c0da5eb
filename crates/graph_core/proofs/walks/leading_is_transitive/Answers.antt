use Rattle.graph_core.proofs.walks.leading_is_transitive.Goals as goal

pub returns : goal.returns
returns g c = λ m n o p q. (g.met.W.Walks.is_system c.args.walks.now).leads_on m n o p q
