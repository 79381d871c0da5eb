use Rattle.std.proofs.Common.{subst, ℕ, List, Option, option_map}
use Rattle.tv_words.specs.Commands.{AreListed}
use Rattle.tv_words.specs.Jobs.{names_of}
use Rattle.tv_words.proofs.check_job.Goals as goal

pub returns-clause-found : goal.returns-clause-found
returns-clause-found c = record {
  elf_is = c.in_ok-elf.ensures.found;
  source_is = c.in_ok-source.ensures.found;
  certificate_is = c.in_ok-certificate.ensures.found;
  functions_are = subst (λ (text : Option (List ℕ)). AreListed text (option_map names_of c.in_ok-functions.functions)) c.given.ensures c.in_ok-functions.ensures.found;
}
