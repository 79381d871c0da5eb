use Rattle.std.proofs.Common.{ℕ, ◌<◌, ◌^◌, List, subst, arith}
use Rattle.std.proofs.lemmas.List.{get_or_default}
use Rattle.cert_run.proofs.laws.image_is_read.Goals as goal

pub returns : goal.returns
returns c = λ is.
    let file : List ℕ = c.args.file.now in
    record {
      file = file;
      are_bytes = λ k d h. subst (λ (b : ℕ). b < 2 ^ 8) (get_or_default file k 0 d h) (omega (arith, c.type_inv.file k));
      image_is = is;
    }
