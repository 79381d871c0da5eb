-- The sizes of functions, collected from the last symbol to the first.
use Rattle.std.proofs.Common.{◌≡◌, ◌==◌, ◌-◌, ◌<◌, ◌≤◌, ◌∙◌, ◌&&◌, ℕ, suc, Bool, true, false, cond, if◌then◌else◌, max, Option, Some, unwrap_or, List, [], ◌∷◌, length, get_or, drop, map, ap, sym, refl, arith, eq-eqb, ne_eqb, eqb-true, nat_cmp}
use Rattle.std.specs.Cmp.{ranks}
use Rattle.std.specs.Ordering.{is_eq, MatchOrdering}
use Rattle.std.specs.declared.cmp.Ordering.{Ordering}
use Rattle.std.specs.declared.cmp.Ordering.TheVariants.{Less, Equal, Greater}
use Rattle.std.proofs.Math.Seq.{drop-cons}
use Rattle.elf_read_spec.specs.Image as spec
use Rattle.elf_read.specs.declared.parts.Symbol.{Symbol}
use Rattle.elf_read.specs.Values.{symbol_of}

-- the symbol that is given where none is read
abbrev pub blank : Symbol
blank = record { name = record { ref_ptr = (0, 0); now = [] }; value = 0; size = 0; kind = 0 }

-- what the symbols from one place before on say of an entry
pub size_step : (symbols : List Symbol) (at entry : ℕ) (d : Symbol) → 0 < at → at ≤ length symbols
    → spec.size_among (map symbol_of (drop (at - 1) symbols)) entry
    ≡ (if ((get_or symbols (at - 1) d).kind == 2) && ((get_or symbols (at - 1) d).value == entry)
    then Some (max (get_or symbols (at - 1) d).size (unwrap_or (spec.size_among (map symbol_of (drop at symbols)) entry) 0))
    else spec.size_among (map symbol_of (drop at symbols)) entry)
size_step symbols at entry d some h =
    let next : suc (at - 1) ≡ at = omega arith in
    ap (λ xs. spec.size_among (map symbol_of xs) entry)
    (drop-cons symbols (at - 1) d (omega arith) ∙ ap (λ n. get_or symbols (at - 1) d ∷ drop n symbols) next)

pub same_test : (x y : ℕ) (o : Ordering) → MatchOrdering o (x < y) (x ≡ y) (y < x) → is_eq o ≡ (x == y)
same_test x y Less h = sym (ne_eqb x y (λ e. omega arith))
same_test x y Equal h = sym (eq-eqb x y h)
same_test x y Greater h = sym (ne_eqb x y (λ e. omega arith))

chosen : (kind value size entry best : ℕ) (rest : ℕ → Option ℕ) (b : Bool) → kind ≡ 2 → (value == entry) ≡ b
    → best ≡ max size (unwrap_or (rest value) 0)
    → cond b (Some best) (rest entry)
    ≡ (if (kind == 2) && (value == entry) then Some (max size (unwrap_or (rest entry) 0)) else rest entry)
chosen kind value size entry best rest true k e is =
    let here : value ≡ entry = eqb-true value entry e in
    rw (k, e) (ap Some (is ∙ ap (λ n. max size (unwrap_or (rest n) 0)) here))
chosen kind value size entry best rest false k e is = rw (k, e) refl

-- with a function symbol more, the map has the greatest size
pub sized : (symbols : List Symbol) (at entry best : ℕ) (d : Symbol) (old new : Option ℕ) → 0 < at → at ≤ length symbols
    → (get_or symbols (at - 1) d).kind ≡ 2
    → best ≡ max (get_or symbols (at - 1) d).size (unwrap_or (spec.size_among (map symbol_of (drop at symbols)) (get_or symbols (at - 1) d).value) 0)
    → old ≡ spec.size_among (map symbol_of (drop at symbols)) entry
    → new ≡ cond (is_eq (nat_cmp (get_or symbols (at - 1) d).value entry)) (Some best) old
    → new ≡ spec.size_among (map symbol_of (drop (at - 1) symbols)) entry
sized symbols at entry best d old new some h kind best_is old_is new_is =
    let s = get_or symbols (at - 1) d in
    let test : is_eq (nat_cmp s.value entry) ≡ (s.value == entry) = same_test s.value entry (nat_cmp s.value entry) (ranks s.value entry) in
    new_is ∙ ap (λ b. cond b (Some best) old) test ∙ ap (λ o. cond (s.value == entry) (Some best) o) old_is
    ∙ chosen s.kind s.value s.size entry best (spec.size_among (map symbol_of (drop at symbols))) (s.value == entry) kind refl best_is
    ∙ sym (size_step symbols at entry d some h)
