-- What is known of a function at a point, as the definitions have it.
use Rattle.std.specs.Prelude.{ℕ, List, [], ◌∷◌, ◌++◌, map, flat_map}
use Rattle.term_core_spec.specs.declared.BinaryOperator.TheVariants.{Word as WordOf}
use Rattle.term_core_spec.specs.declared.WordOperator.TheVariants.{Add, Multiply}
use Rattle.term_core_spec.specs.Term.{Term, equal}
use Rattle.c_graph_spec.specs.State.{number}
use Rattle.templates_spec.specs.Templates.{Value}
use Rattle.templates_spec.specs.Templates as spec
use Rattle.templates.specs.Added.{on_all}
use Rattle.templates.specs.declared.facts.Known.{Known}
use Rattle.templates.specs.declared.facts.Facts.{Facts}

abbrev pub value_of : Known → Value
value_of k = record { variable = k.variable; type = k.scalar }

abbrev pub facts_of : Facts → spec.Facts
facts_of f = record {
  depths = f.depths.items;
  saved = f.saved.items;
  stack = f.stack;
  entries = f.entries.items;
  parameters = map value_of f.parameters.items;
  globals = f.globals.items;
  locals = map value_of f.locals.items;
  compared = map (λ (p : Known × Known). (value_of p.0, value_of p.1)) f.compared.items;
}

-- that each of two values is at most the other
abbrev pub orders_of : Known × Known → List Term
orders_of p = spec.at_most (value_of p.0) (value_of p.1) ∷ spec.at_most (value_of p.1) (value_of p.0) ∷ []

-- ---- parts of the list

-- what the bases give with the locals, scaled
abbrev pub sums_of : spec.Facts → List Term
sums_of f = on_all (WordOf Add) (spec.bases f) (on_all (WordOf Multiply) (map number spec.scales) (spec.all_words f.locals))

abbrev pub pointers_at : List ℕ → List Term
pointers_at depths = flat_map (λ r. map (λ depth. equal (spec.register r) (spec.below_entry depth)) depths) (2 ∷ 8 ∷ [])

abbrev pub place_lines : spec.Facts → List Term
place_lines f = spec.entry_lines f (spec.places f) ++ (spec.local_lines f (spec.places f) ++ spec.sum_lines f (spec.places f))
