use Rattle.std.proofs.Common.{◌≡◌, ◌+◌, ◌∷◌, List, map, drop, get_or, sym, ap, ◌∙◌}
use Rattle.std.proofs.lemmas.List.{drop_more}
use Rattle.term_core_spec.specs.declared.Family.TheVariants.{Register}
use Rattle.term_core_spec.specs.declared.Sort.TheVariants.{Truth}
use Rattle.term_core_spec.specs.declared.Variable.{Variable}
use Rattle.mem_terms_spec.specs.Flat.{with_memories}
use Rattle.mem_terms.specs.declared.ids.LoadIds.{LoadIds}
use Rattle.mem_terms.specs.Ids.{load_at}
use Rattle.mem_terms.proofs.ties.memories.Goals as goal

nothing : LoadIds
nothing = record { memory = record { family = Register; index = 0; instance = 0; sort = Truth }; address = 0; byte = 0 }

pub loop-load-preserved : goal.loop-load-preserved
unfolding nothing
loop-load-preserved c = λ trees.
    let i = c.loop-load.load-index in
    let loads = c.args.loads.now in
    let rest : drop i loads ≡ get_or loads i nothing ∷ drop (i + 1) loads = drop_more loads i nothing c.loop-load-test.true in
    ap (λ (ms : List Variable). with_memories ms (map (load_at trees) (drop (i + 1) loads))) c.in_ok-note.ensures
    ∙ ap (λ (ls : List LoadIds). with_memories c.loop-load.memories.items (map (load_at trees) ls)) (sym rest)
    ∙ c.loop-load.invariant trees
