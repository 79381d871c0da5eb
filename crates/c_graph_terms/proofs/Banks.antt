-- Terms of a bank that grows.
use Rattle.std.proofs.Common.{◌≡◌, ◌∙◌, ℕ, ◌<◌, false, List, [], ◌++◌, length, Some, sym, ap, arith, append_assoc, append-nil, length-append}
use Rattle.std.proofs.lemmas.Option.{slice_get-get_or, get_or_from_slice_get}
use Rattle.term_core_spec.specs.declared.Atom.TheVariants as atom
use Rattle.term_core_spec.specs.Term as tree
use Rattle.term_core_spec.specs.Term.{Term}
use Rattle.term_bank.specs.Nodes.{tree_at, Holds, Extends}
use Rattle.term_bank.proofs.Growth.{tree_at-front}
use Rattle.c_graph_spec.specs.Values.{Terms}
use Rattle.c_graph_terms.specs.declared.values.ValueIds.{ValueIds}
use Rattle.c_graph_terms.specs.Built.{IsGrown, IsBuilt, AreTerms, AreBuilt}

pub grown_itself : (trees : List Term) → IsGrown trees trees
grown_itself trees = record { extends = ([], sym (append-nil trees)); longer = omega arith }

pub grown_then : (a b c : List Term) → IsGrown a b → IsGrown b c → IsGrown a c
grown_then a b c p q =
    let p_is = p.extends in
    let q_is = q.extends in
    let first = p.longer in
    let second = q.longer in
    record {
      extends = (p_is.0 ++ q_is.0, q_is.1 ∙ ap (λ l. l ++ q_is.0) p_is.1 ∙ append_assoc a p_is.0 q_is.0);
      longer = omega arith;
    }

pub grown_by : (a b : List Term) → Extends a b → IsGrown a b
grown_by a b e = record { extends = e; longer = omega (arith, ap length e.1, length-append a e.0) }

pub kept : (a b : List Term) (i : ℕ) → IsGrown a b → i < length a → tree_at b i ≡ tree_at a i
kept a b i g h = ap (λ l. tree_at l i) g.extends.1 ∙ tree_at-front a g.extends.0 i h

pub within_later : (a b : List Term) (i : ℕ) → IsGrown a b → i < length a → i < length b
within_later a b i g h = let more = g.longer in omega arith

-- a term that was added
pub added : (old new : List Term) (id : ℕ) (t : Term) → Extends old new → id < length new → Holds new id t → IsBuilt old new id t
added old new id t e h holds = record { is_grown = grown_by old new e; within = h; tree = get_or_from_slice_get new id t (tree.Leaf (atom.Truth false)) holds }

pub built_holds : (old new : List Term) (id : ℕ) (t : Term) → IsBuilt old new id t → Holds new id t
built_holds old new id t h = slice_get-get_or new id (tree.Leaf (atom.Truth false)) h.within ∙ ap Some h.tree

pub built_as : (old new : List Term) (id : ℕ) (s t : Term) → s ≡ t → IsBuilt old new id s → IsBuilt old new id t
built_as old new id s t e h = record { is_grown = h.is_grown; within = h.within; tree = h.tree ∙ e }

pub built_then : (a b c : List Term) (id : ℕ) (t : Term) → IsGrown a b → IsBuilt b c id t → IsBuilt a c id t
built_then a b c id t g h = record { is_grown = grown_then a b c g h.is_grown; within = h.within; tree = h.tree }

pub terms_then : (a b c : List Term) (ids : ValueIds) (t : Terms) → IsGrown a b → AreBuilt b c ids t → AreBuilt a c ids t
terms_then a b c ids t g h = record { is_grown = grown_then a b c g h.is_grown; are = h.are }

pub terms_later : (a b : List Term) (ids : ValueIds) (t : Terms) → IsGrown a b → AreTerms a ids t → AreTerms b ids t
terms_later a b ids t g h =
    record {
      word_within = within_later a b ids.word g h.word_within;
      truth_within = within_later a b ids.truth g h.truth_within;
      word_is = kept a b ids.word g h.word_within ∙ h.word_is;
      truth_is = kept a b ids.truth g h.truth_within ∙ h.truth_is;
    }
