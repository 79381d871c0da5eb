-- The addresses of the runs of fixed bytes, one after the other.
use Rattle.std.proofs.Common.{◌≡◌, ◌≢◌, ◌∙◌, inl, inr, ℕ, zero, suc, ◌+◌, ◌-◌, ◌^◌, ◌<◌, ◌≤◌, refl, sym, ap, subst, arith, List, [], ◌∷◌, ◌++◌, All, length, map, take, drop, get_or, Option, Some, None}
use Rattle.std.specs.Prelude.{Box, slice_get, Contains}
use Rattle.std.specs.Global.{Global}
use Rattle.std.proofs.lemmas.Bool.{cases_lt}
use Rattle.std.proofs.lemmas.List.{take_more, take_all, map_push, length_push, length-replicate, drop_more, append_assoc}
use Rattle.std.proofs.lemmas.List.Elements.{All-push}
use Rattle.std.proofs.lemmas.Option.{slice_get_within, get_or_from_slice_get, slice_get-get_or}
use Rattle.elf_read_spec.specs.Image.{Image}
use Rattle.memory_spec.specs.Runs.{Run}
use Rattle.elf_read_spec.specs.Runs.{AreRuns}
use Rattle.elf_read.specs.declared.parts.Extent.{Extent}
use Rattle.elf_read.specs.Values.{Extends, MayExtend, IsExtentAt}
use Rattle.term_core.specs.declared.term.Term.{Term as CodeTerm}
use Rattle.graph_core.specs.Graphs.{boxed_term}
use Rattle.term_core_spec.specs.Term.{Term, or_term, less}
use Rattle.decompile_spec.specs.InstructionTerms.{number, avoids}
use Rattle.decompile_terms.specs.Between.{avoids_between}
use Rattle.decompile_accesses.specs.Runs.{blank, blanked, run_of}
use Rattle.decompile.specs.Settings.{HaveExtents}
use Rattle.decompile.proofs.Rising.{one_list, starts_low}

-- the addresses of the first runs
pub record AreFirst (image : Image) (extents : List Extent) : Type 0 where
  pub ordered : All (λ e. e.first ≤ e.last) extents
  pub below : All (λ e. e.last < 2 ^ 32) extents
  pub same : (runs : List Run) → AreRuns image runs → map run_of extents ≡ map blanked (take (length extents) runs)

pub none_first : (image : Image) → AreFirst image []
none_first image = record { ordered = λ k d h. absurd (omega arith); below = λ k d h. absurd (omega arith); same = λ runs are. refl }

-- the run of an extent
record Extended (image : Image) (n : ℕ) (x : Extent) : Type 0 where
  runs : List Run
  are_runs : AreRuns image runs
  run : Run
  there : slice_get runs n ≡ Some run
  extends : Extends x run

extended : (image : Image) (n : ℕ) (x : Extent) → IsExtentAt image n (Some x) → Extended image n x
extended image n x at = of (slice_get at.runs n) refl at.extents
  where
    of : (o : Option Run) → slice_get at.runs n ≡ o → MayExtend (Some x) o → Extended image n x
    of None e h = absurd h
    of (Some run) e h = record { runs = at.runs; are_runs = at.are_runs; run = run; there = e; extends = h }

some_bytes : (xs : List ℕ) → xs ≢ [] → 0 < length xs
some_bytes [] h = absurd (h refl)
some_bytes (x ∷ xs) h = omega arith

ordered_there : (image : Image) (n : ℕ) (x : Extent) → Extended image n x → x.first ≤ x.last
ordered_there image n x at =
    let among : Contains at.runs at.run = (n, slice_get_within at.runs n at.run at.there, get_or_from_slice_get at.runs n at.run at.run at.there) in
    let full : 0 < length at.run.bytes = some_bytes at.run.bytes ((at.are_runs.exactly at.run).0 among).not_empty in
    omega (arith, at.extends.first, at.extends.last)

pub few_before : (image : Image) (n : ℕ) (x : Extent) → IsExtentAt image n (Some x) → n ≤ x.first
few_before image n x given =
    let at = extended image n x given in
    omega (arith, starts_low image at.runs n at.run at.are_runs at.there, at.extends.first)

same_blank : (x : Extent) (run : Run) → Extends x run → x.first ≤ x.last → run_of x ≡ blanked run
same_blank x run is order =
    let count : x.last + 1 - x.first ≡ length run.bytes = omega (arith, is.first, is.last) in
    ap (λ (n : ℕ). blank x.first n) count ∙ ap (λ (n : ℕ). blank n (length run.bytes)) is.first

pub one_more : (image : Image) (extents : List Extent) (x : Extent) → AreFirst image extents → IsExtentAt image (length extents) (Some x) → x.last < 2 ^ 32
    → AreFirst image (extents ++ x ∷ [])
one_more image extents x are given small = record {
  ordered = All-push (λ (e : Extent). e.first ≤ e.last) extents x are.ordered order;
  below = All-push (λ (e : Extent). e.last < 2 ^ 32) extents x are.below small;
  same = same;
}
  where
    at : Extended image (length extents) x
    at = extended image (length extents) x given

    order : x.first ≤ x.last
    order = ordered_there image (length extents) x at

    same : (runs : List Run) → AreRuns image runs → map run_of (extents ++ x ∷ []) ≡ map blanked (take (length (extents ++ x ∷ [])) runs)
    same runs is =
        let n : ℕ = length extents in
        let there : slice_get runs (length extents) ≡ Some at.run = ap (λ (rs : List Run). slice_get rs (length extents)) (one_list image runs at.runs is at.are_runs) ∙ at.there in
        let within : length extents < length runs = slice_get_within runs (length extents) at.run there in
        let got : get_or runs (length extents) at.run ≡ at.run = get_or_from_slice_get runs (length extents) at.run at.run there in
        map_push run_of extents x
        ∙ ap (λ (rs : List Run). rs ++ run_of x ∷ []) (are.same runs is)
        ∙ ap (λ (r : Run). map blanked (take (length extents) runs) ++ r ∷ []) (same_blank x at.run at.extends order)
        ∙ sym (map_push blanked (take (length extents) runs) at.run)
        ∙ ap (λ (r : Run). map blanked (take (length extents) runs ++ r ∷ [])) (sym got)
        ∙ ap (map blanked) (sym (take_more runs (length extents) at.run within))
        ∙ ap (λ (k : ℕ). map blanked (take k runs)) (sym (length_push extents x))

no_more : (image : Image) (n : ℕ) (runs : List Run) → IsExtentAt image n None → AreRuns image runs → length runs ≤ n
no_more image n runs given is = elim (cases_lt n (length runs)) [
  | inr past ↦ past
  | inl within ↦ absurd (of (slice_get given.runs n) refl given.extents within)
]
  where
    of : (o : Option Run) → slice_get given.runs n ≡ o → MayExtend None o → n < length runs → ⊥
    of None e h within =
        let d : Run = record { start = 0; bytes = [] } in
        let there : slice_get runs n ≡ Some (get_or runs n d) = slice_get-get_or runs n d within in
        let other : slice_get runs n ≡ None = ap (λ (rs : List Run). slice_get rs n) (one_list image runs given.runs is given.are_runs) ∙ e in
        cc
    of (Some run) e h within = absurd h

pub all_first : (image : Image) (extents : List Extent) → AreFirst image extents → IsExtentAt image (length extents) None → HaveExtents image extents
all_first image extents are given = record {
  runs = given.runs;
  are_runs = given.are_runs;
  ordered = are.ordered;
  below = are.below;
  same = are.same given.runs given.are_runs ∙ ap (map blanked) (take_all (length extents) given.runs (no_more image (length extents) given.runs given given.are_runs));
}

-- registers by numbers that are small
abbrev pub AreSmall : List ℕ → Type 0
AreSmall [] = Unit {0}
AreSmall (r ∷ rs) = (r < 32) × AreSmall rs

pub small_all : (rs : List ℕ) → AreSmall rs → All (λ r. r < 32) rs
small_all [] small k d within = absurd (omega arith)
small_all (r ∷ rs) small zero d within = small.0
small_all (r ∷ rs) small (suc k) d within = small_all rs small.1 k d (omega arith)
