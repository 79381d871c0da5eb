-- Tables that get one more entry.
use Rattle.std.proofs.Common.{◌≡◌, ◌∙◌, ℕ, ◌+◌, ◌<◌, Bool, true, inl, inr, List, [], ◌∷◌, ◌++◌, length, get_or, Option, refl, sym, ap, subst, arith, append-nil, length-append}
use Rattle.std.proofs.lemmas.Bool.{cases_lt}
use Rattle.std.proofs.Math.ListN.{get_or-append}
use Rattle.term_core_spec.specs.Term.{Term}
use Rattle.term_bank.specs.Nodes.{tree_at, Holds, Extends}
use Rattle.graph_core.specs.declared.graph.Graph.{Graph}
use Rattle.graph_core.specs.Graphs.{Grows}
use Rattle.graph_core.specs.declared.shared.SharedBinding.{SharedBinding}
use Rattle.graph_core.specs.Shared.{AreSharedBindings}
use Rattle.graph_inline.specs.Marks.{is_marked, AreFor}
use Rattle.graph_inline.specs.Moved.{BindingsTaken}
use Rattle.graph_inline.specs.Taken.{named_term, id_at, IsTaken, AreTaken, AllTaken}
use Rattle.graph_inline.proofs.Taking.{taken_later}

pub grows_none : (g : Graph) → Grows g g
grows_none g = record { extends = ([], sym (append-nil g.trees)); graph = refl }

last_is : (table : List ℕ) (x : ℕ) → get_or (table ++ x ∷ []) (length table) 0 ≡ x
last_is [] x = refl
last_is (id ∷ table) x = last_is table x

module _ (instance : Option ℕ) (from old new : List Term) (marks : List Bool) (table : List ℕ) (n index : ℕ) (long : length table ≡ n) (grows : Extends old new)
    (taken : AreTaken instance from old marks table) (here : is_marked marks n ≡ true → Holds new index (named_term instance (tree_at from n))) where
  abbrev more : List ℕ
  more = table ++ index ∷ []

  before_is : (id : ℕ) → id < length table → IsTaken instance from new table id → IsTaken instance from new more id
  before_is id less h = record {
    listed = omega (arith, less, length-append table (index ∷ []));
    holds = subst (λ (i : ℕ). Holds new i (named_term instance (tree_at from id))) (sym (get_or-append table (index ∷ []) 0 id less)) h.holds;
  }

  here_is : (id : ℕ) → id ≡ n → is_marked marks id ≡ true → IsTaken instance from new more id
  here_is id e marked =
      let at : id ≡ length table = e ∙ sym long in
      record {
        listed = omega (arith, at, length-append table (index ∷ []));
        holds = subst (λ (i : ℕ). Holds new i (named_term instance (tree_at from id))) (sym (ap (id_at more) at ∙ last_is table index))
            (subst (λ (k : ℕ). Holds new index (named_term instance (tree_at from k))) (sym e) (here (ap (is_marked marks) (sym e) ∙ marked)));
      }

  pub table_push : AreTaken instance from new marks more
  table_push id less marked = elim (cases_lt id n) [
    | inl before ↦ before_is id (omega (arith, before, long)) (taken_later instance from old new table id grows (taken id (omega (arith, before, long)) marked))
    | inr past ↦ here_is id (omega (arith, past, less, long, length-append table (index ∷ []))) marked
  ]

-- where all are marked all are taken
pub all_taken : (instance : Option ℕ) (from trees : List Term) (marks : List Bool) (table : List ℕ) → ((id : ℕ) → id < length from → is_marked marks id ≡ true) → length table ≡ length from
    → AreTaken instance from trees marks table → AllTaken instance from trees table
all_taken instance from trees marks table all count taken = record { count = count; each = λ id less. taken id (omega (arith, less, count)) (all id less) }

-- bindings whose terms are marked are taken
pub marked_taken : (instance : Option ℕ) (from trees : List Term) (marks : List Bool) (table : List ℕ) (bindings : List SharedBinding) → AreFor from bindings marks
    → AreTaken instance from trees marks table → length table ≡ length from → AreSharedBindings (length from) bindings → BindingsTaken instance from trees table bindings
marked_taken instance from trees marks table bindings are taken count inside =
    λ k d less. taken (get_or bindings k d).term (omega (arith, count, inside k d less)) (are.marked k d less)
