use Rattle.std.proofs.Common.{◌≡◌, None, refl}
use Rattle.code_reach_spec.specs.Code.{word_at}
use Rattle.code_reach.proofs.Listed.{unfixed}
use Rattle.code_reach.proofs.listing.sound_word.Goals as goal

pub returns-in_default-clause-fault : goal.returns-in_default-clause-fault
returns-in_default-clause-fault c =
    let none : word_at c.args.image.now c.args.address ≡ None = cc in
    (unfixed c.args.image.now c.args.entry c.args.size c.args.targets.now.keys c.args.address none, refl)
