-- The listed functions as members: where the points of each are, and which functions of both sides have one name.
use Rattle.std.specs.Prelude.{ℕ, suc, ◌-◌, ◌==◌, Bool, false, List, [], ◌∷◌, length, map, take, drop, get_or, Option, Some, None, option_and_then, nat_eq, if◌then◌else◌}
use Rattle.std.specs.Option.{option_map_or}
use Rattle.std.specs.Map.{lookup}
use Rattle.graph_core_spec.specs.Graph.{Node, Call}
use Rattle.proof_tree_spec.specs.declared.Place.{Place}
use Rattle.proof_tree_spec.specs.declared.Place.TheVariants as place
use Rattle.sim_rules_spec.specs.Sides.{graph_at}
use Rattle.cert_check_spec.specs.Verdict.{Listed}
use Rattle.cert_check_lines_spec.specs.Parts.{CodePoints, SourcePoints, Member}

-- ---- points of code

-- the first call of these nodes, which are numbered from here on
abbrev pub call_from : (number : ℕ) → List Node → Option ℕ
call_from number [] = None
call_from number (Call callee inputs outputs landing ∷ nodes) = Some number
call_from number (node ∷ nodes) = call_from (suc number) nodes

-- the nodes of the instruction at an address, of instructions with their first nodes, by address: its first one, and the one
-- after its last, which is the first of the next instruction, or this
abbrev pub nodes_of : List (ℕ × ℕ) → (end address : ℕ) → Option (ℕ × ℕ)
nodes_of [] end address = None
nodes_of (first ∷ []) end address = if first.0 == address then Some (first.1, end) else None
nodes_of (first ∷ second ∷ firsts) end address = if first.0 == address then Some (first.1, second.1) else nodes_of (second ∷ firsts) end address

-- the call node of that instruction, if it calls
abbrev pub call_at : List Node → List (ℕ × ℕ) → (address : ℕ) → Option ℕ
call_at nodes firsts address =
    option_and_then (λ (range : ℕ × ℕ). call_from range.0 (take (range.1 - range.0) (drop range.0 nodes))) (nodes_of firsts (length nodes) address)

abbrev pub code_points : List Node → (firsts : List (ℕ × ℕ)) → CodePoints
code_points nodes firsts = record { first = λ address. lookup (nat_eq address) firsts; call = call_at nodes firsts }

-- ---- points of the source

abbrev pub same_place : Place → Place → Bool
same_place (place.Test a) (place.Test b) = a == b
same_place (place.Body a) (place.Body b) = a == b
same_place (place.Call a) (place.Call b) = a == b
same_place a b = false

abbrev pub source_points : List (Place × ℕ) → SourcePoints
source_points points = record { node = λ p. lookup (same_place p) points }

-- ---- names

-- by the number of a source's graph, the code's graph of that name is this
abbrev pub alike_in : List (Option ℕ) → (binary source : ℕ) → Bool
alike_in named binary source = option_map_or (λ (number : ℕ). number == binary) (get_or named source None) false

-- ---- members

abbrev pub member_of : Listed → Member
member_of f = record {
  listed = f;
  callee = f.callee;
  number = f.frame.source.outermost;
  code = code_points (graph_at f.frame.binary).nodes (get_or f.firsts f.frame.binary.outermost []);
  source = source_points (get_or f.points f.frame.source.outermost []);
  named_alike = alike_in f.named;
}

abbrev pub members_of : List Listed → List Member
members_of listed = map member_of listed
