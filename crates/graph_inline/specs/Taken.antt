-- Terms that are taken from one bank to another, where variables may belong to an instance.
use Rattle.std.specs.Prelude.{◌≡◌, ℕ, ◌<◌, Bool, true, List, All, length, get_or, Option, Some, None}
use Rattle.term_core_spec.specs.declared.Variable.{Variable}
use Rattle.term_core_spec.specs.Term.{Term}
use Rattle.term_core_spec.specs.Substitution.{renamed_atom}
use Rattle.term_bank.specs.declared.node.TermNode.{TermNode}
use Rattle.term_bank.specs.declared.node.TermNode.TheVariants.{Leaf, Unary, Binary, Ternary, Quaternary, Octonary}
use Rattle.term_bank.specs.Nodes.{tree_at, Holds}
use Rattle.graph_inline_spec.specs.Naming.{inlined_variable, inlined_term}
use Rattle.graph_inline.specs.Marks.{is_marked}

-- a variable in the instance, or as it is where there is none
abbrev pub named_variable : (instance : Option ℕ) → Variable → Variable
named_variable None v = v
named_variable (Some instance) v = inlined_variable instance v

abbrev pub named_term : (instance : Option ℕ) → Term → Term
named_term None t = t
named_term (Some instance) t = inlined_term instance t

-- where a term was taken to
abbrev pub id_at : (table : List ℕ) → ℕ → ℕ
id_at table id = get_or table id 0

-- a node over what was taken of its arguments
abbrev pub over : (instance : Option ℕ) (table : List ℕ) → TermNode → TermNode
over instance table (Leaf atom) = Leaf (renamed_atom (named_variable instance) atom)
over instance table (Unary operator a) = Unary operator (id_at table a)
over instance table (Binary operator a b) = Binary operator (id_at table a) (id_at table b)
over instance table (Ternary operator a b c) = Ternary operator (id_at table a) (id_at table b) (id_at table c)
over instance table (Quaternary operator a b c d) = Quaternary operator (id_at table a) (id_at table b) (id_at table c) (id_at table d)
over instance table (Octonary a b c d e f g h) =
    Octonary (id_at table a) (id_at table b) (id_at table c) (id_at table d) (id_at table e) (id_at table f) (id_at table g) (id_at table h)

-- the term at this place of the one bank is in the other, by the table
pub record IsTaken (instance : Option ℕ) (from trees : List Term) (table : List ℕ) (id : ℕ) : Type 0 where
  pub listed : id < length table
  pub holds : Holds trees (id_at table id) (named_term instance (tree_at from id))

-- each marked term was taken, as far as the table goes
abbrev pub AreTaken : (instance : Option ℕ) (from trees : List Term) (marks : List Bool) (table : List ℕ) → Type 0
AreTaken instance from trees marks table = (id : ℕ) → id < length table → is_marked marks id ≡ true → IsTaken instance from trees table id

-- each term was taken
pub record AllTaken (instance : Option ℕ) (from trees : List Term) (table : List ℕ) : Type 0 where
  pub count : length table ≡ length from
  pub each : (id : ℕ) → id < length from → IsTaken instance from trees table id
