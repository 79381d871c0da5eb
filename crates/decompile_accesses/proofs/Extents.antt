-- The tests of one run more.
use Rattle.std.proofs.Common.{◌≡◌, ◌∙◌, ℕ, ◌+◌, ◌-◌, ◌<◌, ◌≤◌, sym, ap, subst, arith, List, [], ◌∷◌, ◌++◌, All, length, map, drop, get_or}
use Rattle.std.specs.Prelude.{Box}
use Rattle.std.specs.Global.{Global}
use Rattle.std.proofs.lemmas.List.{map_push, length-replicate, drop_more, append_assoc}
use Rattle.elf_read.specs.declared.parts.Extent.{Extent}
use Rattle.term_core.specs.declared.term.Term.{Term as CodeTerm}
use Rattle.graph_core.specs.Graphs.{boxed_term}
use Rattle.term_core_spec.specs.Term.{Term, or_term, less}
use Rattle.decompile_spec.specs.InstructionTerms.{number, avoids}
use Rattle.decompile_terms.specs.Between.{avoids_between}
use Rattle.decompile_accesses.specs.Runs.{run_of}

blank_long : (x : Extent) → length (run_of x).bytes ≡ x.last + 1 - x.first
blank_long x = length-replicate {A = ℕ} (x.last + 1 - x.first) 0

-- the test that the bytes between two addresses meet none of a run
pub avoids_run : (a e : Term) (x : Extent) → x.first ≤ x.last → avoids_between a e x.first x.last ≡ avoids a e (run_of x)
avoids_run a e x order =
    let last : x.last ≡ x.first + length (run_of x).bytes - 1 = omega (arith, blank_long x) in
    ap (λ (n : ℕ). or_term (less (number n) a) (less e (number x.first))) last

pub avoid_step : (a e : Term) (start : List Term) (old new : List (Box CodeTerm Global)) (test : Box CodeTerm Global) (runs : List Extent) (i : ℕ) (x : Extent) → All (λ e. e.first ≤ e.last) runs
    → i < length runs → x ≡ get_or runs i x → new ≡ old ++ test ∷ [] → boxed_term test ≡ avoids_between a e x.first x.last
    → map boxed_term old ++ map (avoids a e) (map run_of (drop i runs)) ≡ start → map boxed_term new ++ map (avoids a e) (map run_of (drop (i + 1) runs)) ≡ start
avoid_step a e start old new test runs i x ordered within is pushed tested whole =
    let order : x.first ≤ x.last = subst (λ (y : Extent). y.first ≤ y.last) (sym is) (ordered i x within) in
    let one : boxed_term test ≡ avoids a e (run_of x) = tested ∙ avoids_run a e x order in
    let rest : drop i runs ≡ x ∷ drop (i + 1) runs = drop_more runs i x within ∙ ap (λ (y : Extent). y ∷ drop (i + 1) runs) (sym is) in
    ap (λ (ts : List (Box CodeTerm Global)). map boxed_term ts ++ map (avoids a e) (map run_of (drop (i + 1) runs))) pushed
    ∙ ap (λ (ts : List Term). ts ++ map (avoids a e) (map run_of (drop (i + 1) runs))) (map_push boxed_term old test)
    ∙ append_assoc (map boxed_term old) (boxed_term test ∷ []) (map (avoids a e) (map run_of (drop (i + 1) runs)))
    ∙ ap (λ (t : Term). map boxed_term old ++ t ∷ map (avoids a e) (map run_of (drop (i + 1) runs))) one
    ∙ ap (λ (rs : List Extent). map boxed_term old ++ map (avoids a e) (map run_of rs)) (sym rest)
    ∙ whole
