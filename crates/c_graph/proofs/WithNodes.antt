-- Nodes that are added to a graph, one after the other.
use Rattle.std.proofs.Common.{◌≡◌, ◌∙◌, List, [], ◌∷◌, ◌++◌, ap, sym, append_assoc, append-nil}
use Rattle.graph_core_spec.specs.Graph.{Node, Graph, with_nodes}

abbrev listed : Graph → List Node → Graph
listed g nodes = record { nodes = nodes; entry = g.entry }

pub none_added : (g : Graph) → g ≡ with_nodes g []
none_added g = ap (listed g) (sym (append-nil g.nodes))

pub both_added : (g : Graph) (xs ys : List Node) → with_nodes (with_nodes g xs) ys ≡ with_nodes g (xs ++ ys)
both_added g xs ys = ap (listed g) (append_assoc g.nodes xs ys)

pub added_then : (a b c : Graph) (xs ys : List Node) → b ≡ with_nodes a xs → c ≡ with_nodes b ys → c ≡ with_nodes a (xs ++ ys)
added_then a b c xs ys p q = q ∙ ap (λ g. with_nodes g ys) p ∙ both_added a xs ys

pub added_as : (a b : Graph) (xs ys : List Node) → xs ≡ ys → b ≡ with_nodes a xs → b ≡ with_nodes a ys
added_as a b xs ys e p = p ∙ ap (with_nodes a) e

-- the same graph before
pub added_to : (a b c : Graph) (xs : List Node) → b ≡ a → c ≡ with_nodes b xs → c ≡ with_nodes a xs
added_to a b c xs e p = p ∙ ap (λ g. with_nodes g xs) e

-- a turn of a loop, after which the rest is to be added
pub added_of : (a b whole : Graph) (xs rest : List Node) → b ≡ with_nodes a xs → with_nodes a (xs ++ rest) ≡ whole → with_nodes b rest ≡ whole
added_of a b whole xs rest p q = ap (λ g. with_nodes g rest) p ∙ both_added a xs rest ∙ q

-- its end, where nothing is
pub added_all : (a whole : Graph) (rest : List Node) → rest ≡ [] → with_nodes a rest ≡ whole → a ≡ whole
added_all a whole rest e p = none_added a ∙ ap (with_nodes a) (sym e) ∙ p
