-- Specifiers, with where they end beside their tree and without.
use Rattle.std.proofs.Common.{ℕ, List, refl}
use Rattle.c_syntax_spec.specs.Expression as tree
use Rattle.c_parse_spec.specs.Leaves.{Leaf}
use Rattle.c_parse_spec.specs.Expressions as grammar
use Rattle.c_parse_laws.specs.Parsers.{before}
use Rattle.c_parse_laws.specs.Beside.{WithEnd}
use Rattle.c_parse_laws.specs.Endings.{Ending, SpecifiersEnd, ending}

pub specified : (names : List (List ℕ)) (position : grammar.Position) (depth : ℕ) (counting : grammar.Counting) (s : tree.Specifiers) (end : Ending) (text : List Leaf) → SpecifiersEnd names position depth counting s end text → grammar.Specifiers names position depth counting s text
specified names position depth counting s end text h = rw (h.is, h.cut) (grammar.specifiers position depth counting h.one h.two h.base h.before h.middle h.after h.words_before h.is_base h.words_after)

pub with_end : (names : List (List ℕ)) (position : grammar.Position) (depth : ℕ) (counting : grammar.Counting) (s : tree.Specifiers) (text : List Leaf) → grammar.Specifiers names position depth counting s text → WithEnd (SpecifiersEnd names position depth counting) s text
with_end names position depth counting s text (grammar.specifiers p d c one two base before middle after h k l) =
    record { end = ending base middle after; derives = record { one = one; two = two; base = base; before = before; middle = middle; after = after; words_before = h; is_base = k; words_after = l; is = refl; cut = refl; is_end = refl } }
