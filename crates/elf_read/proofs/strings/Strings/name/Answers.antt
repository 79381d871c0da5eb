use Rattle.std.proofs.Common.{refl, ne_eqb}
use Rattle.elf_read.proofs.ZeroPlaces.{next_zero_contained, next_zero_ends}
use Rattle.elf_read.proofs.strings.Strings.name.Goals as goal

pub returns-clause-ended : goal.returns-clause-ended
returns-clause-ended c =
    (λ _ some. rw (← c.self.view_is) (next_zero_contained _ _ _ c.in_ok-end.ensures), λ _. refl)

pub returns-clause-name : goal.returns-clause-name
returns-clause-name c = rw (← c.self.view_is, ne_eqb _ 0 c.if-place-eq0.false) (next_zero_ends _ _ _ c.in_ok-end.ensures)
