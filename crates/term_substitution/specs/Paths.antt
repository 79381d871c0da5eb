-- Which terms are left to take, and the way down to one that can be.
use Rattle.std.specs.Prelude.{◌≡◌, ℕ, zero, suc, ◌+◌, ◌<◌, ◌≤◌, false, if◌then◌else◌, is_some, List, length, All, Option}
use Rattle.term_core_spec.specs.Term.{Term}
use Rattle.term_bank.specs.declared.node.TermNode.{TermNode}
use Rattle.term_bank.specs.Nodes.{build, Holds}
use Rattle.term_bank.specs.Subterms.{arguments_of}
use Rattle.term_substitution.specs.Transfers.{AllTaken}

-- the term was not taken
abbrev pub IsNew : (ℕ → Option ℕ) → ℕ → Type 0
IsNew done id = is_some (done id) ≡ false

-- how many of the first n terms were not taken
unfoldable pub left : (ℕ → Option ℕ) → (n : ℕ) → ℕ
left done zero = 0
left done (suc n) = (if is_some (done n) then 0 else 1) + left done n

-- a term that was not taken, and all of whose arguments were
pub record IsReady (from : List Term) (done : ℕ → Option ℕ) (id : ℕ) (node : TermNode) : Type 0 where
  pub within : id < length from
  pub new : IsNew done id
  pub tree : Holds from id (build from node)
  pub all : AllTaken done (arguments_of node)

-- each term that a path gets is of a bank of n terms, and a step further down
pub record Descends (n top : ℕ) (old : List ℕ) (id : ℕ) (new : List ℕ) : Type 0 where
  pub within : All (λ k. k < n) new
  pub count : length new + id ≤ length old + top
