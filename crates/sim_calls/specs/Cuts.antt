-- The terms of variables at a cut, of the code as the definitions have them, in a bank.
use Rattle.std.specs.Prelude.{◌≡◌, ℕ, cond, List, Option, Some}
use Rattle.std.specs.HashMap.{get}
use Rattle.term_core_spec.specs.declared.Variable.{Variable}
use Rattle.term_core_spec.specs.Same.{same_variable}
use Rattle.term_core_spec.specs.Term.{Term, open_term, over}
use Rattle.term_bank.specs.Nodes.{Holds}
use Rattle.path_cond.specs.States.{IsMapOf}
use Rattle.sim_rules_spec.specs.Points.{Convention, binary_memory, source_memory, zone_memory}
use Rattle.sim_rules_spec.specs.Rules.{at_cut}
use Rattle.sim_calls.specs.declared.cut.Cut.{Cut}

-- the source's memory with the zone's over it
abbrev pub zone_over : (from to : Term) → Term
zone_over from to = over (open_term source_memory) (open_term zone_memory) from to

-- the map has one id more
abbrev pub IsPut : Variable → (id : ℕ) → (old new : Variable → Option ℕ) → Type 0
IsPut x id old new = (v : Variable) → new v ≡ cond (same_variable x v) (Some id) (old v)

pub record IsCut (trees : List Term) (c : Convention) (cut : Cut) : Type 0 where
  pub of_binary : IsMapOf trees (get same_variable cut.binary) (at_cut c).binary
  pub of_source : IsMapOf trees (get same_variable cut.source) (at_cut c).source
  pub memory : Holds trees cut.memory ((at_cut c).binary binary_memory)

-- the maps are those of a cut with a zone from one address to below the next
pub record CanCut (trees : List Term) (from to : Term) (cut : Cut) : Type 0 where
  pub convention : Convention
  pub from_is : convention.zone_from ≡ from
  pub to_is : convention.zone_to ≡ to
  pub is_cut : IsCut trees convention cut
