-- The graphs of a set with a further graph beside it.
use Rattle.std.proofs.Common.{◌≡◌, ◌≢◌, ◌∙◌, ℕ, ◌+◌, ◌<◌, zero, suc, refl, ap, arith, [], ◌∷◌, length, All, Option, Some, None, option_and_then}
use Rattle.std.specs.Prelude.{slice_get}
use Rattle.std.proofs.lemmas.List.Elements.{All-nil, All-cons, All-append}
use Rattle.graph_core_spec.specs.declared.Next.TheVariants as next
use Rattle.graph_core_spec.specs.Graph.{Node, Basic, Graph, Graphs, IsValid, IsBinding, IsNode, node_at}
use Rattle.graph_inline_spec.proofs.Nodes.{get_left, get_right}
use Rattle.graph_inline_spec.specs.Beside.{failing, beside, own_number}

pub in_set : (graphs : Graphs) (own : Graph) (h : ℕ) → h < length graphs → slice_get (beside graphs own) h ≡ slice_get graphs h
in_set graphs own h less = get_left graphs (failing ∷ own ∷ []) h less

pub at_failing : (graphs : Graphs) (own : Graph) → slice_get (beside graphs own) (length graphs) ≡ Some failing
at_failing graphs own =
    let e : length graphs ≡ length graphs + 0 = omega arith in
    ap (slice_get (beside graphs own)) e ∙ get_right graphs (failing ∷ own ∷ []) 0

pub at_own : (graphs : Graphs) (own : Graph) → slice_get (beside graphs own) (own_number graphs) ≡ Some own
at_own graphs own =
    let e : suc (length graphs) ≡ length graphs + 1 = omega arith in
    ap (slice_get (beside graphs own)) e ∙ get_right graphs (failing ∷ own ∷ []) 1

-- sets that have different graphs beside them have the same others
pub others_same : (graphs : Graphs) (old new : Graph) (h : ℕ) → h ≢ own_number graphs → slice_get (beside graphs new) h ≡ slice_get (beside graphs old) h
others_same [] old new zero other = refl
others_same [] old new (suc zero) other = absurd (other refl)
others_same [] old new (suc (suc h)) other = refl
others_same (g ∷ graphs) old new zero other = refl
others_same (g ∷ graphs) old new (suc h) other = others_same graphs old new h (λ e. other (ap suc e))

-- what is true of all graphs of the set, of the failing and of the further one is true of all
pub all_beside : (P : Graph → Type 0) (graphs : Graphs) (own : Graph) → All P graphs → P failing → P own → All P (beside graphs own)
all_beside P graphs own all fails is = All-append P graphs (failing ∷ own ∷ []) all (All-cons P failing (own ∷ []) fails (All-cons P own [] is (All-nil P)))

pub failing_valid : IsValid failing
failing_valid = record {
  entry = omega arith;
  nodes = All-cons (IsNode 1) (Basic [] next.Err) [] (All-nil IsBinding, tt) (All-nil (IsNode 1));
}

-- ---- nodes

pub node_in : (graphs : Graphs) (h : ℕ) (g : Graph) (m : ℕ) → slice_get graphs h ≡ Some g → node_at graphs h m ≡ slice_get g.nodes m
node_in graphs h g m e = ap (option_and_then (λ (x : Graph). slice_get x.nodes m)) e

-- the graph of a node that is there
pub node_found : (graphs : Graphs) (h m : ℕ) (node : Node) → node_at graphs h m ≡ Some node → (g : Graph) × (slice_get graphs h ≡ Some g) × (slice_get g.nodes m ≡ Some node)
node_found graphs h m node e = by (slice_get graphs h) refl e
  where
    by : (o : Option Graph) → slice_get graphs h ≡ o → option_and_then (λ (x : Graph). slice_get x.nodes m) o ≡ Some node
        → (g : Graph) × (slice_get graphs h ≡ Some g) × (slice_get g.nodes m ≡ Some node)
    by None is e = absurd (cc)
    by (Some g) is e = (g, is, e)
