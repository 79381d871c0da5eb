use Rattle.std.proofs.Common.{◌≡◌, ◌+◌, drop, map}
use Rattle.c_types_spec.specs.declared.TheConstants.{ARGUMENT_WORDS}
use Rattle.c_types_spec.specs.Declarations as rule
use Rattle.c_types_layout.specs.Types.{type_of}
use Rattle.c_types_declaration.proofs.declare.has_too_many_words.Given as goal

-- what is left of the words that can be passed, and the words that are to come
abbrev pub invariant-loop-of : goal.invariant-loop-of
invariant-loop-of l = rule.words_of (map type_of l.types) + l.left ≡ ARGUMENT_WORDS + rule.words_of (map type_of (drop l.of-index l.types))
