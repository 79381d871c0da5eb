-- Numbers are below 2^32.
use Rattle.std.proofs.Common.{◌≡◌, ℕ, ◌<◌, ◌^◌, List}
use Rattle.cert_text_laws.specs.Readers.{given}
use Rattle.cert_text_laws.specs.Parts.{read_number}
use Rattle.cert_text_laws.proofs.Bytes.{simply-exact}
use Rattle.cert_text_laws.proofs.Points.{reads-number}

pub number_small : (text rest : List ℕ) (n : ℕ) → read_number text ≡ given n rest → n < 2 ^ 32
number_small text rest n e = ((simply-exact reads-number.exact).takes text n rest e).derives.below
