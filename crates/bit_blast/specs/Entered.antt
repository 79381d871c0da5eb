-- Nodes that are entered one after the other, each with its bits.
use Rattle.std.specs.Prelude.{List, [], ◌∷◌, ◌++◌, Vec, map}
use Rattle.std.specs.Global.{Global}
use Rattle.clause_check_spec.specs.declared.Literal.{Literal}
use Rattle.term_bank.specs.declared.node.TermNode.{TermNode}
use Rattle.term_bank.specs.Nodes.{build, AreDistinct}
use Rattle.term_bank.specs.Trees.{grown, AreNodes}
use Rattle.bit_blast_spec.specs.Goal.{Table}
use Rattle.bit_blast.specs.Terms.{terms_in}

abbrev pub Entry : Type 0
Entry = TermNode × Vec Literal Global

-- the table so far, and the entries that follow
abbrev pub entered : Table → List Entry → Table
entered table [] = table
entered table (entry ∷ rest) = entered (table ++ (build (terms_in table) entry.0, entry.1.items) ∷ []) rest

abbrev pub nodes_in : List Entry → List TermNode
nodes_in entries = map (λ entry. entry.0) entries

-- the arguments of each node come before it, and no two nodes build one tree
pub record IsTable (entries : List Entry) : Type 0 where
  pub nodes : AreNodes 0 (nodes_in entries)
  pub distinct : AreDistinct (grown [] (nodes_in entries))
