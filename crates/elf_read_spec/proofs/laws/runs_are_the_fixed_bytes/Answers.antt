use Rattle.elf_read_spec.proofs.Runs.{runs_are_fixed, runs_have_bytes, file_has_bytes}
use Rattle.elf_read_spec.proofs.laws.runs_are_the_fixed_bytes.Goals as goal

pub returns : goal.returns
returns c = record {
  fixed = λ image runs are. runs_are_fixed image runs are;
  bytes = λ bytes image runs each is are. runs_have_bytes image runs (file_has_bytes bytes image each is) are;
}
