use Rattle.path_cond_spec.proofs.Meaning.{meant}
use Rattle.path_cond_spec.proofs.laws.conditions_are_those_of_passages.Goals as goal

pub returns : goal.returns
returns c = λ g js start a valid linked sorted j within. (meant g js start a valid linked sorted j within).exact
