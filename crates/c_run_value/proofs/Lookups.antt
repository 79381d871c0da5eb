-- Look-ups in lists, one element after the other.
use Rattle.std.proofs.Common.{◌≡◌, ℕ, zero, suc, ◌+◌, ◌-◌, ◌<◌, ◌≤◌, Bool, true, false, if◌then◌else◌, Option, Some, None, List, [], ◌∷◌, length, drop, get_or, drop-cons, refl, sym, ap, ◌∙◌, arith}
use Rattle.std.specs.Prelude.{nat_lt, is_some, slice_get, find, bytes_eq, option_map}
use Rattle.std.specs.Option.{option_or}
use Rattle.std.proofs.lemmas.Bool.{lt-ltb, le-ltb, le-leb, lt-leb}
use Rattle.std.proofs.lemmas.Bool.Decides.{nat_tests}
use Rattle.std.proofs.lemmas.List.{drop_all}
use Rattle.memory_spec.specs.Runs.{byte_in, fixed_byte}
use Rattle.memory_spec.specs.Viewed.{run_of, runs_of}
use Rattle.memory_spec.specs.declared.Run.{Run as KeptRun}
use Rattle.c_run_value.specs.declared.setting.Global.{Global}
use Rattle.c_run_value.specs.Settings.{address_in}

pub some_within : {X : Type 0} (xs : List X) (i : ℕ) → is_some (slice_get xs i) ≡ nat_lt i (length xs)
some_within [] i = sym (none i) where
  none : (i : ℕ) → nat_lt i 0 ≡ false
  none i = le-ltb i 0 (omega arith)
some_within (x ∷ xs) zero = sym (lt-ltb 0 (suc (length xs)) (omega arith))
some_within (x ∷ xs) (suc i) = some_within xs i ∙ one_less i (length xs) where
  one_less : (m n : ℕ) → nat_lt m n ≡ nat_lt (suc m) (suc n)
  one_less m n = grind (arith, nat_tests)

pub byte-before : (run : KeptRun) (address : ℕ) → address < run.start → is_some (byte_in (run_of run) address) ≡ false
byte-before run address h = ap (λ b. is_some (if b then slice_get run.bytes.items (address - run.start) else None)) (lt-leb run.start address h)

pub byte-from : (run : KeptRun) (address : ℕ) → run.start ≤ address → is_some (byte_in (run_of run) address) ≡ nat_lt (address - run.start) (length run.bytes.items)
byte-from run address h =
    ap (λ b. is_some (if b then slice_get run.bytes.items (address - run.start) else None)) (le-leb run.start address h) ∙ some_within run.bytes.items (address - run.start)

pub fixed-none : (address : ℕ) → is_some (fixed_byte (runs_of []) address) ≡ false
unfolding fixed_byte
fixed-none address = refl

is_some_or : (a b : Option ℕ) → is_some (option_or a b) ≡ (if is_some a then true else is_some b)
is_some_or None b = refl
is_some_or (Some x) b = refl

pub fixed-step : (run : KeptRun) (rest : List KeptRun) (address : ℕ) → is_some (fixed_byte (runs_of (run ∷ rest)) address) ≡ (if is_some (byte_in (run_of run) address) then true else is_some (fixed_byte (runs_of rest) address))
unfolding fixed_byte
fixed-step run rest address = is_some_or (byte_in (run_of run) address) (fixed_byte (runs_of rest) address)

by_name : (b : Bool) (g : Global) (rest : Option Global) → option_map (λ (x : Global). x.address) (if b then Some g else rest) ≡ (if b then Some g.address else option_map (λ (x : Global). x.address) rest)
by_name true g rest = refl
by_name false g rest = refl

pub address-step : (g : Global) (rest : List Global) (name : List ℕ) → address_in (g ∷ rest) name ≡ (if bytes_eq g.name.now name then Some g.address else address_in rest name)
address-step g rest name = by_name (bytes_eq g.name.now name) g (find (λ (x : Global). bytes_eq x.name.now name) rest)

-- the runs from a place on
fixed-at : (runs : List KeptRun) (i : ℕ) (run : KeptRun) (address : ℕ) → i < length runs → run ≡ get_or runs i run
    → is_some (fixed_byte (runs_of (drop i runs)) address) ≡ (if is_some (byte_in (run_of run) address) then true else is_some (fixed_byte (runs_of (drop (i + 1) runs)) address))
fixed-at runs i run address h is =
    let next : i + 1 ≡ suc i = omega arith in
    let here : drop i runs ≡ run ∷ drop (i + 1) runs = drop-cons runs i run h ∙ ap (λ r. r ∷ drop (suc i) runs) (sym is) ∙ ap (λ n. run ∷ drop n runs) (sym next) in
    ap (λ rs. is_some (fixed_byte (runs_of rs) address)) here ∙ fixed-step run (drop (i + 1) runs) address

pub fixed-here : (runs : List KeptRun) (i : ℕ) (run : KeptRun) (address : ℕ) (has : Bool) → i < length runs → run ≡ get_or runs i run → has ≡ is_some (byte_in (run_of run) address) → has ≡ true
    → is_some (fixed_byte (runs_of (drop i runs)) address) ≡ true
fixed-here runs i run address has h is test on =
    fixed-at runs i run address h is ∙ ap (λ b. if b then true else is_some (fixed_byte (runs_of (drop (i + 1) runs)) address)) (sym test ∙ on)

pub fixed-later : (runs : List KeptRun) (i : ℕ) (run : KeptRun) (address : ℕ) (has : Bool) → i < length runs → run ≡ get_or runs i run → has ≡ is_some (byte_in (run_of run) address) → has ≡ false
    → is_some (fixed_byte (runs_of (drop i runs)) address) ≡ is_some (fixed_byte (runs_of (drop (i + 1) runs)) address)
fixed-later runs i run address has h is test off =
    fixed-at runs i run address h is ∙ ap (λ b. if b then true else is_some (fixed_byte (runs_of (drop (i + 1) runs)) address)) (sym test ∙ off)

pub fixed-past : (runs : List KeptRun) (i : ℕ) (address : ℕ) → length runs ≤ i → is_some (fixed_byte (runs_of (drop i runs)) address) ≡ false
fixed-past runs i address h = ap (λ rs. is_some (fixed_byte (runs_of rs) address)) (drop_all i runs h) ∙ fixed-none address

pub ruleset byte_tests = (byte-before, byte-from)

pub ruleset address_steps = (address-step)
