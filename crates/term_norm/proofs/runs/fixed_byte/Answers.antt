use Rattle.std.proofs.Common.{◌≡◌, ℕ, ◌+◌, ◌<◌, ◌≤◌, List, ◌∷◌, length, get_or, drop, Some, None, sym, ap, ◌∙◌, add-one, drop-cons}
use Rattle.std.specs.Option.{option_or}
use Rattle.std.proofs.lemmas.List.{drop_all}
use Rattle.memory_spec.specs.Runs as fixed_runs
use Rattle.memory_spec.specs.Runs.{fixed_byte}
use Rattle.memory_spec.specs.declared.Run.{Run}
use Rattle.memory_spec.specs.Viewed.{run_of, runs_of}
use Rattle.term_norm.proofs.runs.fixed_byte.Goals as goal

-- the runs from an index on are the one there and those after it
from_here : (runs : List Run) (i : ℕ) (d : Run) (address : ℕ) → i < length runs
    → fixed_byte (runs_of (drop i runs)) address ≡ option_or (fixed_runs.byte_in (run_of (get_or runs i d)) address) (fixed_byte (runs_of (drop (i + 1) runs)) address)
unfolding fixed_byte
from_here runs i d address below =
    let e : drop i runs ≡ get_or runs i d ∷ drop (i + 1) runs = rw (add-one, drop-cons runs i d) in
    ap (λ rest. fixed_byte (runs_of rest) address) e

found : (runs : List Run) (i : ℕ) (run : Run) (address byte : ℕ) → i < length runs → run ≡ get_or runs i run → fixed_byte (runs_of runs) address ≡ fixed_byte (runs_of (drop i runs)) address
    → Some byte ≡ fixed_runs.byte_in (run_of run) address → Some byte ≡ fixed_byte (runs_of runs) address
found runs i run address byte below is so_far e =
    sym (so_far ∙ from_here runs i run address below
    ∙ ap (λ r. option_or (fixed_runs.byte_in (run_of r) address) (fixed_byte (runs_of (drop (i + 1) runs)) address)) (sym is)
    ∙ ap (λ o. option_or o (fixed_byte (runs_of (drop (i + 1) runs)) address)) (sym e))

passed : (runs : List Run) (i : ℕ) (run : Run) (address : ℕ) → i < length runs → run ≡ get_or runs i run → fixed_byte (runs_of runs) address ≡ fixed_byte (runs_of (drop i runs)) address
    → None ≡ fixed_runs.byte_in (run_of run) address → fixed_byte (runs_of runs) address ≡ fixed_byte (runs_of (drop (i + 1) runs)) address
passed runs i run address below is so_far e =
    so_far ∙ from_here runs i run address below
    ∙ ap (λ r. option_or (fixed_runs.byte_in (run_of r) address) (fixed_byte (runs_of (drop (i + 1) runs)) address)) (sym is)
    ∙ ap (λ o. option_or o (fixed_byte (runs_of (drop (i + 1) runs)) address)) (sym e)

ended : (runs : List Run) (i address : ℕ) → length runs ≤ i → fixed_byte (runs_of runs) address ≡ fixed_byte (runs_of (drop i runs)) address → None ≡ fixed_byte (runs_of runs) address
unfolding fixed_byte
ended runs i address past so_far = sym (so_far ∙ ap (λ rest. fixed_byte (runs_of rest) address) (drop_all i runs past))

pub returns-in-Some : goal.returns-in-Some
returns-in-Some c =
    found c.args.runs.now c.loop-run.run-index c.run-item.result c.args.address c.in-Some.byte c.loop-run-test.true c.run-item.is c.loop-run.invariant c.in-Some.ensures

pub loop-run-preserved : goal.loop-run-preserved
loop-run-preserved c = passed c.args.runs.now c.loop-run.run-index c.run-item.result c.args.address c.loop-run-test.true c.run-item.is c.loop-run.invariant c.in_default.ensures

pub returns : goal.returns
returns c = ended c.args.runs.now c.loop-run.run-index c.args.address c.loop-run-test.false c.loop-run.invariant
