-- What a graph of calls reaches is what the functions of the source reach.
use Rattle.std.proofs.Common.{◌≡◌, ◌∙◌, ℕ, List, Some, refl, sym, ap, subst}
use Rattle.std.specs.Prelude.{Contains}
use Rattle.c_types_spec.specs.Core as tree
use Rattle.pair_setup_spec.specs.SourceReach as source
use Rattle.pair_setup_spec.specs.SourceReach.{CallsOn}
use Rattle.pair_setup_calls.specs.Graph.{Calls, Reaches, itself, further, IsCyclic}
use Rattle.pair_setup_calls.specs.Names.{IsNumber, IsCallGraph}

pub one-name : (names : List (List ℕ)) (number : ℕ) (a b : List ℕ) → IsNumber names number a → IsNumber names number b → a ≡ b
one-name names number a b one other = let both : Some a ≡ Some b = sym one ∙ other in cc

-- each function that is called is declared
abbrev pub AreDeclared : tree.Typed → (names : List (List ℕ)) → Type 0
AreDeclared unit names = (name other : List ℕ) → CallsOn unit name other → (number : ℕ) × IsNumber names number other

-- a number that is reached, and its name
abbrev IsThere : tree.Typed → (names : List (List ℕ)) → (name : List ℕ) → (number : ℕ) → Type 0
IsThere unit names name number = (other : List ℕ) × IsNumber names number other × source.Reaches unit name other

abbrev IsBack : List (List ℕ) → (names : List (List ℕ)) → (start : ℕ) → (other : List ℕ) → Type 0
IsBack graph names start other = (number : ℕ) × IsNumber names number other × Reaches graph start number

module _ (unit : tree.Typed) (names : List (List ℕ)) (graph : List (List ℕ)) (is : IsCallGraph unit names graph) where
  call-there : (caller number : ℕ) (name other : List ℕ) → IsNumber names caller name → IsNumber names number other → Calls graph caller number → CallsOn unit name other
  call-there caller number name other name_is other_is call =
      let h = (is caller).there number call in
      subst (λ n. CallsOn unit n other) (one-name names caller h.0 name h.2 name_is)
      (subst (λ o. CallsOn unit h.0 o) (one-name names number h.1 other h.3 other_is) h.4)

  name-of : (caller number : ℕ) → Calls graph caller number → (other : List ℕ) × IsNumber names number other
  name-of caller number call = let h = (is caller).there number call in (h.1, h.3)

  pub reaches-there : (start number : ℕ) (name : List ℕ) → IsNumber names start name → Reaches graph start number → IsThere unit names name number
  reaches-there start _ name start_is itself = (name, start_is, source.itself)
  reaches-there start _ name start_is (further middle number reached call) =
      let before = reaches-there start middle name start_is reached in
      let other = name-of middle number call in
      (other.0, other.1, source.further before.0 other.0 before.2 (call-there middle number before.0 other.0 before.1 other.1 call))

  module _ (declared : AreDeclared unit names) where
    pub reaches-back : (start : ℕ) (name other : List ℕ) → IsNumber names start name → source.Reaches unit name other → IsBack graph names start other
    reaches-back start name _ start_is source.itself = (start, start_is, itself)
    reaches-back start name _ start_is (source.further middle other reached call) =
        let before = reaches-back start name middle start_is reached in
        let number = declared middle other call in
        (number.0, number.1, further before.0 number.0 before.2 ((is before.0).back number.0 middle other before.1 number.1 call))

    -- whichever number the name has
    pub reaches-at : (start number : ℕ) (name other : List ℕ) → IsNumber names start name → ((j : ℕ) → IsNumber names j name → j ≡ start)
        → IsNumber names number other → source.Reaches unit name other → Reaches graph start number
    reaches-at start number name _ start_is one number_is source.itself = subst (Reaches graph start) (sym (one number number_is)) itself
    reaches-at start number name _ start_is one number_is (source.further middle other reached call) =
        let before = reaches-back start name middle start_is reached in
        further before.0 number before.2 ((is before.0).back number middle other before.1 number_is call)

    pub cyclic-back : (start : ℕ) (name : List ℕ) → IsNumber names start name → source.IsCyclic unit name → IsCyclic graph start
    cyclic-back start name start_is c =
        let other = reaches-back start name c.other start_is c.reached in
        let last = reaches-back other.0 c.other c.last other.1 c.onward in
        record {
          other = other.0;
          reached = other.2;
          on_cycle = record { last = last.0; onward = last.2; back = (is last.0).back other.0 c.last c.other last.1 other.1 c.back };
        }

  pub cyclic-there : (start : ℕ) (name : List ℕ) → IsNumber names start name → IsCyclic graph start → source.IsCyclic unit name
  cyclic-there start name start_is c =
      let other = reaches-there start c.other name start_is c.reached in
      let last = reaches-there c.other c.on_cycle.last other.0 other.1 c.on_cycle.onward in
      record {
        other = other.0;
        reached = other.2;
        last = last.0;
        onward = last.2;
        back = call-there c.on_cycle.last c.other last.0 other.0 last.1 other.1 c.on_cycle.back;
      }
