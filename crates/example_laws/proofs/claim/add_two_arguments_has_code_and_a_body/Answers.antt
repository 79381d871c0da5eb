use Rattle.std.proofs.Common.{refl}
use Rattle.elf_read_spec.specs.Image.{function_named}
use Rattle.example_laws.proofs.ClaimStack.{no_stack}
use Rattle.example_laws.proofs.claim.add_two_arguments_has_code_and_a_body.Goals as goal

pub returns : goal.returns
unfolding function_named
returns c = record { entry = refl; stack = no_stack; body = refl }
