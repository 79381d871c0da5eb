use Rattle.std.proofs.Common.{◌∙◌, sym, ap, map, string_bytes}
use Rattle.clap.specs.Simple.{App, is_simple, subcommand_of}
use Rattle.clap.specs.Faults.{fault_of, is_simple_and_free}
use Rattle.tv_words.proofs.Commands.{program_is_plain, program_is_simple, no_memory}
use Rattle.tv_words.proofs.program.parsed.Goals as goal

pub returns-in-Err-clause-only : goal.returns-in-Err-clause-only
returns-in-Err-clause-only c = λ taken. c.refusal_of.ensures.0 (no_memory _ c.in-Err.refused (c.in-Err.ensures.kinds (ap is_simple_and_free c.in_ok-program.ensures ∙ program_is_plain))
    (ap (λ (a : App). fault_of a (map string_bytes c.args.words.now)) c.in_ok-program.ensures ∙ taken))

pub returns-in-Ok-clause-taken : goal.returns-in-Ok-clause-taken
returns-in-Ok-clause-taken c = sym (ap (λ (a : App). fault_of a (map string_bytes c.args.words.now)) c.in_ok-program.ensures) ∙ c.in-Ok.ensures.kinds (ap is_simple_and_free c.in_ok-program.ensures ∙ program_is_plain)

pub returns-in-Ok-clause-found : goal.returns-in-Ok-clause-found
returns-in-Ok-clause-found c = (c.in-Ok.ensures.matches (ap is_simple c.in_ok-program.ensures ∙ program_is_simple)).1 ∙ ap (λ (a : App). subcommand_of a (map string_bytes c.args.words.now)) c.in_ok-program.ensures
