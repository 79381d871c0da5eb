-- Small graphs and functions.
use Rattle.std.specs.Prelude.{ℕ, true, false, if◌then◌else◌, List, [], ◌∷◌, length, map, filter, codes, bytes_eq}
use Rattle.graph_core_spec.specs.declared.Next.{Next}
use Rattle.graph_core_spec.specs.declared.Next.TheVariants.{At, Ret, Err}
use Rattle.graph_core_spec.specs.Graph.{Node, Basic, Cond, Call, Graph}
use Rattle.term_core_spec.specs.Term.{truth}
use Rattle.loop_find_spec.specs.Inlining.{Item, Contents, Sides}
use Rattle.loop_find_spec.specs.Inlining as item
use Rattle.loop_find_spec.specs.Choices.{CodeLoop, SourceLoop, AnyLoop, OfCode, OfSource, all_loops, Division, divisions, is_balanced, choices}

-- ---- graphs, of which only the edges matter

abbrev pub to : ℕ → Node
to n = Basic [] (At n)

abbrev pub either : (on_true on_false : Next) → Node
either on_true on_false = Cond (truth true) on_true on_false

abbrev pub of_nodes : List Node → Graph
of_nodes nodes = record { nodes = nodes; entry = 0 }

-- a sum of n, n - 1 and so on, as a compiler turns the loop: tested before it, and at its end
abbrev pub summing_code : Graph
summing_code = of_nodes (to 1 ∷ to 2 ∷ either (At 6) (At 3) ∷ to 4 ∷ to 5 ∷ either (At 3) (At 6) ∷ to 7 ∷ either Ret Err ∷ [])

-- its source: a test, and then the body
abbrev pub summing_source : Graph
summing_source = of_nodes (to 1 ∷ to 2 ∷ to 3 ∷ either (At 4) (At 7) ∷ to 5 ∷ to 6 ∷ to 2 ∷ Basic [] Ret ∷ [])

-- a loop in a loop, the inner one with a call
abbrev pub nested : Graph
nested = of_nodes (to 1 ∷ either (At 2) Ret ∷ either (At 3) (At 5) ∷ Call 0 [] [] 4 ∷ to 2 ∷ to 1 ∷ [])

-- two nodes that lead to each other, both of them entered
abbrev pub two_entries : Graph
two_entries = of_nodes (either (At 1) (At 2) ∷ to 2 ∷ to 1 ∷ [])

-- no loop
abbrev pub returning : Graph
returning = of_nodes (Basic [] Ret ∷ [])

-- ---- choices

abbrev pub code_loop : ℕ → CodeLoop
code_loop n = record { point = record { path = []; address = n }; head = n }

abbrev pub source_loop : ℕ → SourceLoop
source_loop n = record { path = []; number = n; test = n; start = n }

-- the sets of so many loops that leave as many on both sides, in their order, each loop by its number
abbrev pub number_of : AnyLoop → ℕ
number_of (OfCode l) = l.head
number_of (OfSource l) = l.number

abbrev pub sets : (size : ℕ) → (code source : List ℕ) → List (List ℕ)
sets size code source =
    map (λ (d : Division AnyLoop). map number_of d.chosen) (filter is_balanced (divisions size (all_loops (map code_loop code) (map source_loop source))))

-- how many choices there are
abbrev pub count : (size : ℕ) → (code source : List ℕ) → ℕ
count size code source = length (choices size (map code_loop code) (map source_loop source))

-- ---- calls: in the code and in the source `f` calls `g` and then `h`. `g` calls `h`, and has a loop in the source

abbrev pub f_name : List ℕ
f_name = codes "f"

abbrev pub g_name : List ℕ
g_name = codes "g"

abbrev pub h_name : List ℕ
h_name = codes "h"

abbrev pub call : List ℕ → ℕ → List ℕ → Item
call path number callee = item.Call path number callee false

abbrev pub inlined : List ℕ → ℕ → List ℕ → Item
inlined path number callee = item.Call path number callee true

abbrev pub in_code : Contents
in_code name = if bytes_eq name f_name then call [] 4 g_name ∷ call [] 8 h_name ∷ [] else if bytes_eq name g_name then call [] 20 h_name ∷ [] else []

abbrev pub in_source : Contents
in_source name = if bytes_eq name f_name then call [] 0 g_name ∷ call [] 1 h_name ∷ [] else if bytes_eq name g_name then item.Loop [] 0 ∷ call [] 0 h_name ∷ [] else []

abbrev pub sides_of_f : Sides
sides_of_f = record { binary = in_code f_name; source = in_source f_name }

-- with the calls of `g` inlined
abbrev pub without_g : Sides
without_g = record {
  binary = inlined [] 4 g_name ∷ call (4 ∷ []) 20 h_name ∷ call [] 8 h_name ∷ [];
  source = inlined [] 0 g_name ∷ item.Loop (0 ∷ []) 0 ∷ call (0 ∷ []) 0 h_name ∷ call [] 1 h_name ∷ [];
}

-- with all calls inlined
abbrev pub without_calls : Sides
without_calls = record {
  binary = inlined [] 4 g_name ∷ inlined (4 ∷ []) 20 h_name ∷ inlined [] 8 h_name ∷ [];
  source = inlined [] 0 g_name ∷ item.Loop (0 ∷ []) 0 ∷ inlined (0 ∷ []) 0 h_name ∷ inlined [] 1 h_name ∷ [];
}
