-- What is looked up by the names of symbols.
use Rattle.std.specs.Prelude.{◌≡◌, List, length}
use Rattle.elf_read_spec.specs.declared.fields.TheConstants.{STT_FUNC, STT_OBJECT}
use Rattle.elf_read.specs.declared.named.Named.{Named}
use Rattle.elf_read.specs.declared.parts.Symbol.{Symbol}
use Rattle.elf_read.specs.NameTree.{AreNumbered, AreCollected, values_step, size_step}

-- the nodes of the names of some symbols, the values of functions and of globals, and the sizes of the first of these
pub record AreLookups (named : Named) (symbols : List Symbol) : Type 0 where
  pub nodes : AreNumbered named.tree symbols named.numbers.items
  pub long : length named.numbers.items ≡ length symbols
  pub functions : AreCollected named.tree symbols STT_FUNC values_step named.functions 0
  pub objects : AreCollected named.tree symbols STT_OBJECT values_step named.objects 0
  pub sizes : AreCollected named.tree symbols STT_OBJECT size_step named.sizes 0
