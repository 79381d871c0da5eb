-- Lines of a list.
use Rattle.std.proofs.Common.{◌≡◌, ◌∙◌, ℕ, ◌<◌, Box, Global, List, length, map, get_or, Some, sym, ap, arith}
use Rattle.std.specs.Prelude.{slice_get}
use Rattle.std.proofs.lemmas.List.{length-map, get_or-map}
use Rattle.std.proofs.lemmas.Option.{slice_get-get_or}
use Rattle.term_core.specs.declared.term.Term.{Term as CodeTerm}
use Rattle.graph_core.specs.Graphs.{boxed_term}

pub line_there : (lines : List (Box CodeTerm Global)) (i : ℕ) (b : Box CodeTerm Global) → i < length lines → b ≡ get_or lines i b → slice_get (map boxed_term lines) i ≡ Some (boxed_term b)
line_there lines i b less is =
    let long = length-map lines boxed_term in
    slice_get-get_or (map boxed_term lines) i (boxed_term b) (omega (arith, long)) ∙ ap Some (get_or-map boxed_term lines i b (boxed_term b) less ∙ ap boxed_term (sym is))
