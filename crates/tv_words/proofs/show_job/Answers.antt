use Rattle.std.proofs.Common.{rules}
use Rattle.tv_words.proofs.show_job.Goals as goal

pub returns-clause-found : goal.returns-clause-found
returns-clause-found c = record {
  elf_is = c.in_ok-elf.ensures.found;
  source_is = c.in_ok-source.ensures.found;
  function_is = c.in_ok-function.ensures.found;
  named = search rules;
}
