-- Bindings that are added over a bank that grows.
use Rattle.std.proofs.Common.{◌≡◌, ◌∙◌, ℕ, suc, ◌+◌, ◌<◌, List, [], ◌∷◌, ◌++◌, length, map, drop, get_or, refl, sym, ap, ap₂, subst, arith, append_assoc, append-nil}
use Rattle.std.specs.Prelude.{true, Option, Some, None}
use Rattle.term_core_spec.specs.declared.Variable.{Variable}
use Rattle.term_core_spec.specs.declared.Width.{Width}
use Rattle.term_core_spec.specs.Term.{Term, truth, open_term}
use Rattle.term_bank.specs.Nodes.{tree_at}
use Rattle.term_bank.proofs.Growth.{held}
use Rattle.graph_core_spec.specs.Graph.{Binding}
use Rattle.graph_core.specs.declared.shared.SharedBinding.{SharedBinding}
use Rattle.graph_core.specs.Graphs.{AreShared}
use Rattle.graph_core.proofs.Growing.{shared_later, shared_push}
use Rattle.c_types_spec.specs.Core.{Core, type_of}
use Rattle.c_types_spec.specs.declared.Scalar.{Scalar}
use Rattle.c_graph_spec.specs.State.{width_of, local, is_set, result}
use Rattle.c_graph_spec.specs.Values.{at_width}
use Rattle.c_graph_spec.specs.Layout.{Setting, binding, set_local, value_in, inputs, outputs, result_put}
use Rattle.c_graph_terms.specs.Built.{IsGrown, IsBuilt}
use Rattle.c_graph_terms.proofs.Banks.{grown_itself, grown_then}
use Rattle.c_graph.specs.Bound.{AreAdded}

pub nothing_shared : (trees : List Term) → AreShared trees [] []
nothing_shared trees = record { within = λ k d less. absurd (omega arith); are = refl }

-- what was added to nothing
pub all_shared : (old new : List Term) (before after : List SharedBinding) (made : List Binding) → before ≡ [] → AreAdded old new before after made → AreShared new made after
all_shared old new before after made e h = h.added [] (subst (AreShared old []) (sym e) (nothing_shared old))

pub nothing_added : (trees : List Term) (before after : List SharedBinding) → after ≡ before → AreAdded trees trees before after []
nothing_added trees before after e =
    record {
      is_grown = grown_itself trees;
      added = λ others h. subst (AreShared trees (others ++ [])) (sym e) (subst (λ (l : List Binding). AreShared trees l before) (sym (append-nil others)) h);
    }

pub one_added : (trees : List Term) (before after : List SharedBinding) (v : Variable) (id : ℕ) → id < length trees → after ≡ before ++ record { variable = v; term = id } ∷ []
    → AreAdded trees trees before after (binding v (tree_at trees id) ∷ [])
one_added trees before after v id below e =
    record {
      is_grown = grown_itself trees;
      added = λ others h. subst (AreShared trees (others ++ binding v (tree_at trees id) ∷ [])) (sym e) (shared_push trees trees ([], sym (append-nil trees)) others before v id (tree_at trees id) h (held trees id below));
    }

pub both_bound : (a b c : List Term) (p q r : List SharedBinding) (first second : List Binding) → AreAdded a b p q first → AreAdded b c q r second → AreAdded a c p r (first ++ second)
both_bound a b c p q r first second h k =
    record {
      is_grown = grown_then a b c h.is_grown k.is_grown;
      added = λ others s. subst (λ (l : List Binding). AreShared c l r) (append_assoc others first second) (k.added (others ++ first) (h.added others s));
    }

pub bound_after : (a b c : List Term) (p q : List SharedBinding) (made : List Binding) → IsGrown a b → AreAdded b c p q made → AreAdded a c p q made
bound_after a b c p q made g h =
    record {
      is_grown = grown_then a b c g h.is_grown;
      added = λ others s. h.added others (shared_later a b g.extends others p s);
    }

pub bound_as : (a b : List Term) (p q : List SharedBinding) (made others : List Binding) → made ≡ others → AreAdded a b p q made → AreAdded a b p q others
bound_as a b p q made others e h = subst (AreAdded a b p q) e h

-- a term that was built is bound
pub built_bound : (a b : List Term) (p q : List SharedBinding) (v : Variable) (id : ℕ) (t : Term) → IsBuilt a b id t → AreAdded b b p q (binding v (tree_at b id) ∷ []) → AreAdded a b p q (binding v t ∷ [])
built_bound a b p q v id t h k = bound_after a b b p q (binding v t ∷ []) h.is_grown (subst (λ (x : Term). AreAdded b b p q (binding v x ∷ [])) h.tree k)

-- ---- what a call passes

inputs_first : (f : Setting) (number : ℕ) (x : Core) (rest : List Core) → inputs f number (x ∷ rest) ≡ set_local number (type_of x) (value_in f x) ++ inputs f (suc number) rest
unfolding inputs
inputs_first f number x rest = refl

pub no_inputs : (f : Setting) (number : ℕ) → inputs f number [] ≡ []
unfolding inputs
no_inputs f number = refl

pub one_input : (f : Setting) (number next : ℕ) (x : Core) (rest all : List Core) → all ≡ x ∷ rest → next ≡ number + 1
    → inputs f number all ≡ set_local number (type_of x) (value_in f x) ++ inputs f next rest
one_input f number next x rest all e n =
    let more : suc number ≡ next = omega arith in
    ap (inputs f number) e ∙ inputs_first f number x rest ∙ ap (λ (k : ℕ). set_local number (type_of x) (value_in f x) ++ inputs f k rest) more

-- ---- variables and results

-- the variable of a binding, and its term, by other names
pub bound_named : (a b : List Term) (p q : List SharedBinding) (v w : Variable) (s t : Term) → v ≡ w → s ≡ t → AreAdded a b p q (binding v s ∷ []) → AreAdded a b p q (binding w t ∷ [])
bound_named a b p q v w s t e i h = subst (AreAdded a b p q) (ap₂ (λ (x : Variable) (y : Term). binding x y ∷ []) e i) h

pub local_bound : (a b : List Term) (p q r : List SharedBinding) (v w : Variable) (number : ℕ) (type : Scalar) (t : Term) → v ≡ local number type → w ≡ is_set number → AreAdded a a p q (binding v t ∷ [])
    → AreAdded a b q r (binding w (truth true) ∷ []) → AreAdded a b p r (set_local number type t)
local_bound a b p q r v w number type t e i h k =
    both_bound a a b p q r (binding (local number type) t ∷ []) (binding (is_set number) (truth true) ∷ [])
    (bound_named a a p q v (local number type) t t e refl h) (bound_named a b q r w (is_set number) (truth true) (truth true) i refl k)

pub bound_result : (a b c d : List Term) (p q : List SharedBinding) (number : ℕ) (of own given : Scalar) (v : Variable) (width : Width) (g w : ℕ) → own ≡ given → v ≡ result of → width ≡ width_of own
    → IsBuilt a b g (open_term v) → IsBuilt b c w (at_width of width (tree_at b g)) → AreAdded c d p q (set_local number own (tree_at c w))
    → AreAdded a d p q (set_local number given (at_width of (width_of given) (open_term (result of))))
bound_result a b c d p q number of own given v width g w own_is v_is width_is h k m =
    let term : tree_at c w ≡ at_width of (width_of given) (open_term (result of)) =
    k.tree ∙ ap₂ (λ (x : Width) (t : Term). at_width of x t) (width_is ∙ ap width_of own_is) (h.tree ∙ ap open_term v_is) in
    bound_after a c d p q (set_local number given (at_width of (width_of given) (open_term (result of)))) (grown_then a b c h.is_grown k.is_grown)
    (subst (AreAdded c d p q) (ap₂ (λ (s : Scalar) (t : Term). set_local number s t) own_is term) m)

pub outputs_none : (f : Setting) (function : List ℕ) (into : Option ℕ) → into ≡ None → [] ≡ outputs f function into
outputs_none f function into e = ap (λ o. result_put o f.local_type (f.function_type function).result) (sym e)

pub outputs_void : (f : Setting) (function : List ℕ) (into : Option ℕ) (number : ℕ) → into ≡ Some number → (f.function_type function).result ≡ None → [] ≡ outputs f function into
outputs_void f function into number e r = ap₂ (λ o t. result_put o f.local_type t) (sym e) (sym r)

pub outputs_some : (f : Setting) (function : List ℕ) (into : Option ℕ) (number : ℕ) (of : Scalar) → into ≡ Some number → (f.function_type function).result ≡ Some of
    → set_local number (f.local_type number) (at_width of (width_of (f.local_type number)) (open_term (result of))) ≡ outputs f function into
outputs_some f function into number of e r = ap₂ (λ o t. result_put o f.local_type t) (sym e) (sym r)
