use Rattle.tv_rows.proofs.certificates.put_certificate.Goals as goal

pub put_listed-requires : goal.put_listed-requires
put_listed-requires c = record { typed = c.requires.typed; sizes = c.requires.sizes; lines = c.in-Ok.ensures.derives }
