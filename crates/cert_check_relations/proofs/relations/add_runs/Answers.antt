use Rattle.std.proofs.Common.{◌∙◌, ℕ, ◌+◌, List, [], ◌∷◌, ◌++◌, drop, sym, ap}
use Rattle.std.proofs.lemmas.List.{at_drop_more, at_drop_all}
use Rattle.memory_spec.specs.declared.Run.{Run}
use Rattle.memory_spec.specs.Viewed.{run_of, runs_of}
use Rattle.term_core_spec.specs.Term.{Term}
use Rattle.proof_tree.specs.Frames.{terms_of}
use Rattle.sim_rules_spec.specs.Calling.{outside_zone}
use Rattle.agreement_laws.specs.EntryFrame as frame
use Rattle.cert_check_relations.specs.Lines.{zone_lines}
use Rattle.cert_check_relations.proofs.Grown.{grown, complete}
use Rattle.cert_check_relations.proofs.relations.add_runs.Goals as goal

abbrev line : (stack : ℕ) → Run → Term
line stack run = outside_zone stack (frame.run_of (run_of run))

abbrev left : (stack : ℕ) → List Run → List Term
left stack runs = zone_lines stack (runs_of runs)

pub loop-index-preserved : goal.loop-index-preserved
loop-index-preserved c =
    let stack : ℕ = c.args.stack in
    let all : List Run = c.args.runs.now in
    let n : ℕ = c.loop-index.index in
    let d : Run = c.index-runs-index.result in
    let later : List Term = left stack (drop (n + 1) all) in
    grown (terms_of c.loop-index.lines.items) (terms_of c.add_line.new.lines.items) (line stack d ∷ []) later (left stack (drop n all)) (terms_of c.args.lines.now.items ++ left stack all)
    (c.in-Ok-attempt.ensures (line stack d) c.run_outside.ensures)
    (at_drop_more (left stack) all n d c.loop-index-test.true ∙ ap (λ (x : Run). line stack x ∷ later) (sym c.index-runs-index.is))
    c.loop-index.invariant

pub returns : goal.returns
returns c =
    let stack : ℕ = c.args.stack in
    let all : List Run = c.args.runs.now in
    complete (terms_of c.loop-index.lines.items) (left stack (drop c.loop-index.index all)) (terms_of c.args.lines.now.items ++ left stack all)
    (at_drop_all (left stack) all c.loop-index.index c.loop-index-test.false) c.loop-index.invariant
