-- Lines as premises.
use Rattle.std.proofs.Common.{◌≡◌, ◌∙◌, ℕ, ◌+◌, ◌<◌, List, [], ◌∷◌, ◌++◌, Box, map, length, get_or, take, sym, ap, append_assoc}
use Rattle.std.specs.Global.{Global}
use Rattle.std.proofs.lemmas.List.{map-append, take_more}
use Rattle.term_core_spec.specs.Term as tree
use Rattle.term_core.specs.declared.term.Term.{Term}
use Rattle.graph_core.specs.Graphs.{boxed_term}
use Rattle.proof_tree.specs.declared.frame.Premise.{Premise}
use Rattle.proof_tree.specs.Frames.{premise_of, terms_of}

-- one more line after those so far
pub one_more : (before : List tree.Term) (premises : List Premise) (p : Premise) (lines : List (Box Term Global)) (i : ℕ) (line : Box Term Global) → i < length lines
    → line ≡ get_or lines i line → premise_of p ≡ boxed_term line → map premise_of premises ≡ before ++ terms_of (take i lines)
    → map premise_of (premises ++ p ∷ []) ≡ before ++ terms_of (take (i + 1) lines)
one_more before premises p lines i line within is same h =
    let last : premise_of p ≡ boxed_term (get_or lines i line) = same ∙ ap boxed_term is in
    let taken : terms_of (take (i + 1) lines) ≡ terms_of (take i lines) ++ premise_of p ∷ [] =
    ap terms_of (take_more lines i line within) ∙ map-append boxed_term (take i lines) (get_or lines i line ∷ [])
    ∙ ap (λ (t : tree.Term). terms_of (take i lines) ++ t ∷ []) (sym last) in
    map-append premise_of premises (p ∷ []) ∙ ap (λ (ts : List tree.Term). ts ++ premise_of p ∷ []) h
    ∙ append_assoc before (terms_of (take i lines)) (premise_of p ∷ []) ∙ ap (λ (ts : List tree.Term). before ++ ts) (sym taken)
