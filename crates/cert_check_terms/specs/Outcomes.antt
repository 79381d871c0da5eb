-- What reading gives.
use Rattle.std.specs.Prelude.{◌≡◌, ◌<◌, ℕ, List, [], ◌∷◌, ◌++◌, length, Option, Some, None, Result, Ok, Err}
use Rattle.term_core_spec.specs.Term.{Term}
use Rattle.term_bank.specs.Nodes.{Holds, tree_at}
use Rattle.cert_text_spec.specs.declared.Operator.{Operator}
use Rattle.cert_text_spec.specs.declared.Symbol.{Symbol}
use Rattle.proof_tree_spec.specs.Scope.{Setting, IsLine}
use Rattle.cert_check_spec.specs.Terms.{IsTermOf}
use Rattle.attempt.specs.declared.refusal.Refusal.{Refusal}
use Rattle.attempt.specs.declared.refusal.Refusal.TheVariants.{Fault, NoMemory}
use Rattle.cert_check_terms.specs.declared.fault.TermFault.{TermFault}
use Rattle.cert_check_terms.specs.declared.fault.TermFault.TheVariants.{Sort}
use Rattle.cert_check_terms.specs.declared.reading.Subterm.{Subterm}
use Rattle.cert_check_terms.specs.declared.reading.Entry.{Entry}
use Rattle.cert_check_terms.specs.declared.reading.Entry.TheVariants.{Whole}
use Rattle.cert_check_terms.specs.declared.reading.Reading.{Reading}
use Rattle.cert_check_terms.specs.Variables.{AreApart}
use Rattle.cert_check_terms.specs.Reading as spec
use Rattle.cert_check_terms.specs.Views.{subterm_of, entries_of, arguments_of, reading_of, AreInside, AreSubtermsInside}

-- the symbols are the spelling of a line where the path leads; the id is its
pub record IsOfLine (s : Setting) (path : List ℕ) (symbols : List Symbol) (trees : List Term) (id : ℕ) : Type 0 where
  pub line : Term
  pub held : Holds trees id line
  pub spelled : IsTermOf s symbols line
  pub is_line : IsLine s path line

-- The line that symbols spell, or there is none. (Where bodies can't be told apart, symbols may spell several terms.)
abbrev pub IsRead : Setting → (path : List ℕ) → List Symbol → (trees : List Term) → Result ℕ (Refusal TermFault) → Type 0
IsRead s path symbols trees (Ok id) = IsOfLine s path symbols trees id
IsRead s path symbols trees (Err (Fault Sort)) = AreApart s.bodies → (line : Term) → IsTermOf s symbols line → IsLine s path line → ⊥
IsRead s path symbols trees (Err NoMemory) = Unit {0}

-- ---- steps of reading

-- a subterm, of which this is expected
abbrev pub IsMade : (trees : List Term) → (expected : Option spec.Sorted) → Result Subterm (Refusal TermFault) → Type 0
IsMade trees expected (Ok x) = (x.id < length trees) × (expected ≡ Some (subterm_of trees x))
IsMade trees expected (Err (Fault Sort)) = expected ≡ None
IsMade trees expected (Err NoMemory) = Unit {0}

-- one more entry on top
abbrev pub IsPushed : (old now : List Entry) → Entry → Result (Unit {0}) (Refusal TermFault) → Type 0
IsPushed old now e (Ok done) = now ≡ old ++ e ∷ []
IsPushed old now e (Err (Fault Sort)) = ⊥
IsPushed old now e (Err NoMemory) = Unit {0}

-- the subterm that was made
abbrev pub IsPushedIf : (old now : List Entry) → (made : Result Subterm (Refusal TermFault)) → Result (Unit {0}) (Refusal TermFault) → Type 0
IsPushedIf old now (Ok x) result = IsPushed old now (Whole x) result
IsPushedIf old now (Err fault) result = result ≡ Err fault

-- entries, of which this is expected
abbrev pub AreNext : (trees : List Term) → (expected : Option (List spec.Entry)) → (now : List Entry) → Result (Unit {0}) (Refusal TermFault) → Type 0
AreNext trees expected now (Ok done) = AreInside (length trees) now × (expected ≡ Some (entries_of trees now))
AreNext trees expected now (Err (Fault Sort)) = expected ≡ None
AreNext trees expected now (Err NoMemory) = Unit {0}

-- the operator that a bracket closes, and its arguments
pub record IsTaken (trees : List Term) (expected : Option spec.Closing) (entries : List Entry) (arguments : List Subterm) (o : Operator) : Type 0 where
  pub entries_inside : AreInside (length trees) entries
  pub arguments_inside : AreSubtermsInside (length trees) arguments
  pub is : expected ≡ Some (record { operator = o; arguments = arguments_of trees arguments; below = entries_of trees entries })

abbrev pub Takes : (trees : List Term) → (expected : Option spec.Closing) → List Entry → List Subterm → Result Operator (Refusal TermFault) → Type 0
Takes trees expected entries arguments (Ok o) = IsTaken trees expected entries arguments o
Takes trees expected entries arguments (Err (Fault Sort)) = expected ≡ None
Takes trees expected entries arguments (Err NoMemory) = Unit {0}

-- what has been read, of which this is expected
abbrev pub Goes : (trees : List Term) → (expected : Option spec.Reading) → (now : Reading) → Result (Unit {0}) (Refusal TermFault) → Type 0
Goes trees expected now (Ok done) = AreInside (length trees) now.entries.items × (expected ≡ Some (reading_of trees now))
Goes trees expected now (Err (Fault Sort)) = expected ≡ None
Goes trees expected now (Err NoMemory) = Unit {0}

-- the id of what is expected
abbrev pub Finds : (trees : List Term) → (expected : Option Term) → Result ℕ (Refusal TermFault) → Type 0
Finds trees expected (Ok id) = (id < length trees) × (expected ≡ Some (tree_at trees id))
Finds trees expected (Err (Fault Sort)) = expected ≡ None
Finds trees expected (Err NoMemory) = Unit {0}
