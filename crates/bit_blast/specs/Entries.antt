-- Which terms are entered two at a time.
use Rattle.term_core_spec.specs.declared.WordOperator.TheVariants as word
use Rattle.term_core_spec.specs.declared.BinaryOperator.TheVariants as binary
use Rattle.term_bank.specs.declared.node.TermNode.{TermNode}
use Rattle.term_bank.specs.declared.node.TermNode.TheVariants.{Binary}
use Rattle.bit_blast.specs.declared.entry.Division.{Division}
use Rattle.bit_blast.specs.declared.entry.Division.TheVariants.{Quotient, Remainder, Neither}

abbrev pub division_of : TermNode → Division
division_of (Binary (binary.Word word.Divide) x y) = Quotient x y
division_of (Binary (binary.Word word.Remainder) x y) = Remainder x y
division_of node = Neither
