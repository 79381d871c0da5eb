-- Nodes that are moved, and graphs that get them one after another.
use Rattle.std.proofs.Common.{◌≡◌, ◌∙◌, ℕ, suc, ◌+◌, ◌<◌, ◌≤◌, Bool, true, false, if◌then◌else◌, List, [], ◌∷◌, ◌++◌, length, map, filter, get_or, take, drop, set, Option, Some, None, refl, sym, ap, ap₂, subst, arith, append_assoc, append-nil}
use Rattle.std.specs.Prelude.{Vec, slice_set}
use Rattle.std.specs.Global.{Global}
use Rattle.std.specs.List.{All}
use Rattle.std.proofs.lemmas.List.{take_more, map-append, drop-append-le, take_all, set_split, length-take, length-take-le, drop_all}
use Rattle.term_core_spec.specs.Term.{Term}
use Rattle.graph_core_spec.specs.declared.Next.{Next}
use Rattle.graph_core_spec.specs.Graph as spec
use Rattle.graph_core_spec.specs.Run.{is_shared}
use Rattle.graph_core_spec.specs.Graph.{with_nodes}
use Rattle.graph_core.specs.declared.shared.SharedBinding.{SharedBinding}
use Rattle.graph_core.specs.declared.shared.SharedNode.{SharedNode}
use Rattle.graph_core.specs.declared.shared.SharedNode.TheVariants.{Basic, Cond, Call}
use Rattle.graph_core.specs.Shared.{shared_binding_of, shared_node_of}
use Rattle.graph_inline.specs.declared.nodes.Placing.{Placing}
use Rattle.graph_inline.specs.Taken.{named_term, id_at, IsTaken}
use Rattle.graph_inline.specs.Moved.{moved, moved_shared, instance_of, moved_next, moved_number, moved_node, BindingsTaken, IsMoved, shared_inputs}
use Rattle.term_bank.proofs.Substitution.{is_at}
use Rattle.term_bank.specs.Nodes.{tree_at}
use Rattle.graph_inline.proofs.Taking.{within}
use Rattle.graph_inline.proofs.Moving.{bindings_moved}

-- ---- one node

same_all : (bs : List spec.Binding) → map (moved None None) bs ≡ bs
same_all [] = refl
same_all (b ∷ bs) = ap (λ (l : List spec.Binding). b ∷ l) (same_all bs)

basic_is : (placing : Option Placing) (bs : List spec.Binding) (to : Next)
    → spec.Basic (map (moved (instance_of placing) (instance_of placing)) bs) (moved_next placing to) ≡ moved_node placing (spec.Basic bs to)
basic_is None bs to = ap (λ (l : List spec.Binding). spec.Basic l to) (same_all bs)
basic_is (Some placing) bs to = refl

cond_is : (placing : Option Placing) (t : Term) (on_true on_false : Next)
    → spec.Cond (named_term (instance_of placing) t) (moved_next placing on_true) (moved_next placing on_false) ≡ moved_node placing (spec.Cond t on_true on_false)
cond_is None t on_true on_false = refl
cond_is (Some placing) t on_true on_false = refl

call_is : (placing : Option Placing) (callee : ℕ) (ins outs : List spec.Binding) (landing : ℕ)
    → spec.Call callee (map (moved None (instance_of placing)) ins) (map (moved (instance_of placing) None) outs) (moved_number placing landing)
    ≡ moved_node placing (spec.Call callee ins outs landing)
call_is None callee ins outs landing = ap₂ (λ (a b : List spec.Binding). spec.Call callee a b landing) (same_all ins) (same_all outs)
call_is (Some placing) callee ins outs landing = refl

module _ (placing : Option Placing) (from trees : List Term) (renamed kept : List ℕ) where
  pub basic_moved : (bindings found : Vec SharedBinding Global) (to : Next) → BindingsTaken (instance_of placing) from trees renamed bindings.items
      → found.items ≡ map (moved_shared (instance_of placing) renamed) bindings.items → IsMoved placing from trees (Basic bindings to) (Basic found (moved_next placing to))
  basic_moved bindings found to h e =
      let are = bindings_moved (instance_of placing) (instance_of placing) from trees renamed bindings.items found.items h e in
      record {
        within = are.within;
        is = ap (λ (l : List spec.Binding). spec.Basic l (moved_next placing to)) are.are ∙ basic_is placing (map (shared_binding_of from) bindings.items) to;
      }

  pub cond_moved : (test : ℕ) (on_true on_false : Next) → IsTaken (instance_of placing) from trees renamed test
      → IsMoved placing from trees (Cond test on_true on_false) (Cond (id_at renamed test) (moved_next placing on_true) (moved_next placing on_false))
  cond_moved test on_true on_false h = record {
    within = within (instance_of placing) from trees renamed test h;
    is = ap (λ (t : Term). spec.Cond t (moved_next placing on_true) (moved_next placing on_false)) (is_at trees (id_at renamed test) (named_term (instance_of placing) (tree_at from test)) h.holds)
        ∙ cond_is placing (tree_at from test) on_true on_false;
  }

  pub call_moved : (callee : ℕ) (inputs outputs ins outs : Vec SharedBinding Global) (landing : ℕ) → BindingsTaken (instance_of placing) from trees renamed inputs.items
      → BindingsTaken None from trees kept outputs.items → ins.items ≡ map (moved_shared None renamed) inputs.items
      → outs.items ≡ map (moved_shared (instance_of placing) kept) outputs.items
      → IsMoved placing from trees (Call callee inputs outputs landing) (Call callee ins outs (moved_number placing landing))
  call_moved callee inputs outputs ins outs landing h_in h_out e_in e_out =
      let are_in = bindings_moved None (instance_of placing) from trees renamed inputs.items ins.items h_in e_in in
      let are_out = bindings_moved (instance_of placing) None from trees kept outputs.items outs.items h_out e_out in
      record {
        within = (are_in.within, are_out.within);
        is = ap₂ (λ (a b : List spec.Binding). spec.Call callee a b (moved_number placing landing)) are_in.are are_out.are
            ∙ call_is placing callee (map (shared_binding_of from) inputs.items) (map (shared_binding_of from) outputs.items) landing;
      }

-- ---- several nodes

-- one more
pub added_one : (g : spec.Graph) (f : spec.Node → spec.Node) (all : List spec.Node) (a k : ℕ) (d : spec.Node) → a ≤ k → k < length all
    → with_nodes (with_nodes g (map f (drop a (take k all)))) (f (get_or all k d) ∷ []) ≡ with_nodes g (map f (drop a (take (k + 1) all)))
added_one g f all a k d before less =
    let some : drop a (take (k + 1) all) ≡ drop a (take k all) ++ get_or all k d ∷ [] =
    ap (drop a) (take_more all k d less) ∙ drop-append-le a (take k all) (get_or all k d ∷ []) (omega (arith, before, less, length-take-le k all (omega (arith, less)))) in
    let mapped = ap (map f) some ∙ map-append f (drop a (take k all)) (get_or all k d ∷ []) in
    ap (λ (l : List spec.Node). record { nodes = l; entry = g.entry })
    (append_assoc g.nodes (map f (drop a (take k all))) (f (get_or all k d) ∷ []) ∙ ap (λ (l : List spec.Node). g.nodes ++ l) (sym mapped))

same_nodes : (nodes : List spec.Node) → map (moved_node None) nodes ≡ nodes
same_nodes [] = refl
same_nodes (node ∷ nodes) = ap (λ (l : List spec.Node). node ∷ l) (same_nodes nodes)

-- nodes of the caller, another one, and the rest
pub replaced : (g : spec.Graph) (all : List spec.Node) (n : ℕ) (node : spec.Node) → n < length all
    → with_nodes (with_nodes (with_nodes g (map (moved_node None) (drop 0 (take n all)))) (node ∷ [])) (map (moved_node None) (drop (n + 1) (take (length all) all)))
    ≡ with_nodes g (set all n node)
replaced g all n node less =
    let whole : take (length all) all ≡ all = take_all (length all) all (omega arith) in
    let next : n + 1 ≡ suc n = omega arith in
    let rest : map (moved_node None) (drop (n + 1) (take (length all) all)) ≡ drop (suc n) all =
    same_nodes (drop (n + 1) (take (length all) all)) ∙ ap (drop (n + 1)) whole ∙ ap (λ (k : ℕ). drop k all) next in
    ap (λ (l : List spec.Node). record { nodes = l; entry = g.entry })
    (ap₂ (λ (x y : List spec.Node). ((g.nodes ++ x) ++ node ∷ []) ++ y) (same_nodes (take n all)) rest
    ∙ append_assoc (g.nodes ++ take n all) (node ∷ []) (drop (suc n) all)
    ∙ append_assoc g.nodes (take n all) (node ∷ drop (suc n) all)
    ∙ ap (λ (l : List spec.Node). g.nodes ++ l) (sym (set_split all n node less)))

-- all nodes of the callee, and a last one
pub appended : (g : spec.Graph) (f : spec.Node → spec.Node) (all : List spec.Node) (node : spec.Node)
    → with_nodes (with_nodes g (map f (drop 0 (take (length all) all)))) (node ∷ []) ≡ with_nodes g (map f all ++ node ∷ [])
appended g f all node =
    ap (λ (l : List spec.Node). record { nodes = l; entry = g.entry })
    (ap (λ (l : List spec.Node). (g.nodes ++ map f l) ++ node ∷ []) (take_all (length all) all (omega arith))
    ∙ append_assoc g.nodes (map f all) (node ∷ []))

-- ---- what is true of each

pub all_at : {X : Type 0} (P : X → Type 0) (xs : List X) (k : ℕ) (x : X) → All P xs → k < length xs → x ≡ get_or xs k x → P x
all_at P xs k x all less is = subst P (sym is) (all k x less)

-- none yet
pub none_added : (g : spec.Graph) (f : spec.Node → spec.Node) (all : List spec.Node) (a : ℕ) → g ≡ with_nodes g (map f (drop a (take a all)))
none_added g f all a =
    sym (ap (λ (l : List spec.Node). record { nodes = g.nodes ++ map f l; entry = g.entry }) (drop_all a (take a all) (omega (arith, length-take a all)))
    ∙ ap (λ (l : List spec.Node). record { nodes = l; entry = g.entry }) (append-nil g.nodes))

-- ---- inputs of what is shared

one_filtered : (from : List Term) (b : SharedBinding) (bs : List SharedBinding) (c : Bool)
    → map (shared_binding_of from) (shared_inputs bs) ≡ filter (λ (x : spec.Binding). is_shared x.variable) (map (shared_binding_of from) bs)
    → map (shared_binding_of from) (if c then b ∷ shared_inputs bs else shared_inputs bs)
    ≡ (if c then shared_binding_of from b ∷ filter (λ (x : spec.Binding). is_shared x.variable) (map (shared_binding_of from) bs)
    else filter (λ (x : spec.Binding). is_shared x.variable) (map (shared_binding_of from) bs))
one_filtered from b bs true rest = ap (λ (l : List spec.Binding). shared_binding_of from b ∷ l) rest
one_filtered from b bs false rest = rest

filtered : (from : List Term) (bs : List SharedBinding)
    → map (shared_binding_of from) (shared_inputs bs) ≡ filter (λ (x : spec.Binding). is_shared x.variable) (map (shared_binding_of from) bs)
filtered from [] = refl
filtered from (b ∷ bs) = one_filtered from b bs (is_shared b.variable) (filtered from bs)

pub shared_filtered : (from : List Term) (inputs : List SharedBinding)
    → map (moved None None) (map (shared_binding_of from) (shared_inputs inputs)) ≡ filter (λ (b : spec.Binding). is_shared b.variable) (map (shared_binding_of from) inputs)
shared_filtered from inputs = same_all (map (shared_binding_of from) (shared_inputs inputs)) ∙ filtered from inputs
