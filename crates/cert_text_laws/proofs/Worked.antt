-- The worked examples, by computation.
use Rattle.std.specs.Prelude.{codes, take}
use Rattle.std.proofs.Common.{◌≡◌, [], Ok, Err, refl}
use Rattle.exact_read.specs.Reading.{Wrong}
use Rattle.cert_text_laws.specs.Lines.{read_certificate}
use Rattle.cert_text_laws.specs.Exactness.{sample, sample_lines, SampleIsRead}
use Rattle.cert_text_laws.proofs.Certificates.{found, refused_at}

whole : read_certificate sample ≡ Ok sample_lines
whole = refl

cut : read_certificate (take 40 sample) ≡ Err (Wrong (tt {0}), [])
cut = refl

shorter : read_certificate (codes "tv-cert 1\nfunction f stack 0\nleaf 3\nlog 0\nlog 0\nend\n") ≡ Err (Wrong (tt {0}), codes "end\n")
shorter = refl

pub sample_read : SampleIsRead
sample_read = record {
  whole = found sample sample_lines whole;
  cut = refused_at (take 40 sample) [] cut 40 refl;
  shorter = refused_at (codes "tv-cert 1\nfunction f stack 0\nleaf 3\nlog 0\nlog 0\nend\n") (codes "end\n") shorter 48 refl;
}
