use Rattle.example_laws.proofs.ClaimFile.{is_elf}
use Rattle.example_laws.proofs.claim.the_file_of_add_two_arguments_is_an_executable.Goals as goal

pub returns : goal.returns
returns c = is_elf
