use Rattle.bit_blast_laws.proofs.TermsWhole.{terms_show}
use Rattle.bit_blast_laws.proofs.terms.terms_have_their_bits.Goals as goal

pub returns : goal.returns
returns c = terms_show
