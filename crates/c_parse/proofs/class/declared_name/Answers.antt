use Rattle.std.proofs.Common.{ap, sym, ◌∙◌}
use Rattle.c_parse_spec.specs.Units.{name_of_global, name_of_declarator}
use Rattle.c_syntax.specs.Expressions.{declarator_of}
use Rattle.c_syntax.specs.Units.{global_of}
use Rattle.c_parse.proofs.Named.{declarator-name}
use Rattle.c_parse.proofs.class.declared_name.Goals as goal

pub returns-in-Object : goal.returns-in-Object
returns-in-Object c = declarator-name c.deref.result.now ∙ ap (λ d. name_of_declarator (declarator_of d)) c.deref.ensures ∙ sym (ap (λ g. name_of_global (global_of g)) c.in-Object.is)
