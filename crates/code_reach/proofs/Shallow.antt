-- The stack of a function without faults is below 2 ^ 44: the functions on a path of calls share no bytes, and an
-- instruction lowers the stack pointer by 2 ^ 11 at most.
use Rattle.std.proofs.Common.{◌≡◌, ◌⊎◌, ◌+◌, ◌*◌, ◌^◌, ◌<◌, ◌≤◌, ◌==◌, ℕ, suc, ℤ, pos, negsuc, Bool, true, false, cond, List, [], ◌∷◌, ◌++◌, length, get_or, sum_by, Option, Some, None, IfSome, refl, sym, ◌∙◌, subst, inl, inr, arith, ne_eqb, eqb-true, length-append}
use Rattle.std.proofs.Math.Dec.{eqb}
use Rattle.std.proofs.lemmas.Int.{ints}
use Rattle.std.specs.Prelude.{option_map, option_and_then, Contains}
use Rattle.std.specs.List.{IsDistinct, AllByRecursion}
use Rattle.std.specs.List.Sorted.{IsStrictlyIncreasing}
use Rattle.std.proofs.lemmas.Bool.{cases_eq, cases_lt}
use Rattle.std.proofs.lemmas.List.Sums.{sum_by-cons}
use Rattle.std.proofs.lemmas.List.Elements.{Contains-append_cases, Contains-append_right}
use Rattle.std.proofs.lemmas.List.Kept.{AllPairs-from_increasing}
use Rattle.std.proofs.lemmas.Map.Keys.{IsDistinct-from_apart}
use Rattle.std.proofs.lemmas.Map.Steps.{length-le_from_distinct_below}
use Rattle.indexmap.proofs.CallerLemmas.{Contains-list_any}
use Rattle.rv_instr.specs.Instr.{instr, instr_of, instr_of_immediate, either, listed, branches, loads, stores, immediates, shifts, arithmetics, field, signed, opcode, rd, funct3, rs1, rs2, funct10, i_immediate, s_immediate, b_immediate}
use Rattle.rv_instr.specs.declared.Instr.{Instr}
use Rattle.rv_instr.specs.declared.Instr.TheVariants.{Branch, Load, Store, Immediate, Shift, Arithmetic}
use Rattle.rv_instr.specs.declared.ImmediateOperation.{ImmediateOperation}
use Rattle.rv_instr.specs.declared.ImmediateOperation.TheVariants.{Add, SetLess, SetLessUnsigned, Xor, Or, And}
use Rattle.elf_read_spec.specs.Image.{Image, size_at}
use Rattle.code_reach_spec.specs.declared.CodeKind.TheVariants.{Overlap}
use Rattle.code_reach_spec.specs.Code.{word_at, instr_at, InRange, opening_of, CallsOn, Reaches, itself, further, IsCyclic, IsStack, deep}
use Rattle.code_reach_spec.specs.Faults.{overlap, ReachesNoFault}
use Rattle.code_reach.proofs.Acyclic.{stack-acyclic}
use Rattle.code_reach.proofs.Places.{place}

-- ---- an instruction lowers the stack pointer by 2 ^ 11 at most

abbrev IsShort : Instr → Type 0
IsShort i = opening_of (Some i) ≤ 2 ^ 11

chosen : (b : Bool) (x y : Option Instr) → IfSome x IsShort → IfSome y IsShort → IfSome (cond b x y) IsShort
chosen true x y here there = here
chosen false x y here there = there

mapped : {X : Type 0} (f : X → Instr) (o : Option X) → ((x : X) → IsShort (f x)) → IfSome (option_map f o) IsShort
mapped f None h = tt
mapped f (Some x) h = h x

one_of : (x y : Option Instr) → IfSome x IsShort → IfSome y IsShort → IfSome (either x y) IsShort
one_of None y here there = there
one_of (Some i) y here there = here

low_immediate : (x n : ℕ) → signed 12 x ≡ negsuc n → suc n ≤ 2 ^ 11
low_immediate x n e = grind (arith, ints)

lowered : (b : Bool) (n : ℕ) → n ≤ 2 ^ 11 → cond b n 0 ≤ 2 ^ 11
lowered true n h = h
lowered false n h = omega arith

none_taken : 0 ≤ 2 ^ 11
none_taken = omega arith

add_short : (d s x : ℕ) (z : ℤ) → signed 12 x ≡ z → IsShort (Immediate Add d s z)
add_short d s x (pos n) e = none_taken
add_short d s x (negsuc n) e = lowered _ (suc n) (low_immediate x n e)

immediate_short : (operation : ImmediateOperation) (d s x : ℕ) → IsShort (Immediate operation d s (signed 12 x))
immediate_short Add d s x = add_short d s x (signed 12 x) refl
immediate_short SetLess d s x = none_taken
immediate_short SetLessUnsigned d s x = none_taken
immediate_short Xor d s x = none_taken
immediate_short Or d s x = none_taken
immediate_short And d s x = none_taken

instr_short : (op w : ℕ) → IfSome (instr_of op w) IsShort
unfolding instr_of instr_of_immediate
instr_short op w =
    chosen (op == 0x37) _ _ (none_taken) (chosen (op == 0x17) _ _ (none_taken) (chosen (op == 0x6f) _ _ (none_taken)
    (chosen (op == 0x67) _ _ (chosen (funct3 w == 0) _ _ (none_taken) tt)
    (chosen (op == 0x63) _ _ (mapped (λ test. Branch test (rs1 w) (rs2 w) (b_immediate w)) (listed branches (funct3 w)) (λ test. none_taken))
    (chosen (op == 0x03) _ _ (mapped (λ kind. Load kind (rd w) (rs1 w) (i_immediate w)) (listed loads (funct3 w)) (λ kind. none_taken))
    (chosen (op == 0x23) _ _ (mapped (λ kind. Store kind (rs1 w) (rs2 w) (s_immediate w)) (listed stores (funct3 w)) (λ kind. none_taken))
    (chosen (op == 0x13) _ _ (one_of _ _
    (mapped (λ operation. Immediate operation (rd w) (rs1 w) (i_immediate w)) (listed immediates (funct3 w)) (λ operation. immediate_short operation (rd w) (rs1 w) (field 20 12 w)))
    (mapped (λ operation. Shift operation (rd w) (rs1 w) (rs2 w)) (listed shifts (funct10 w)) (λ operation. none_taken)))
    (chosen (op == 0x33) _ _ (mapped (λ operation. Arithmetic operation (rd w) (rs1 w) (rs2 w)) (listed arithmetics (funct10 w)) (λ operation. none_taken))
    (chosen (op == 0x0f) _ _ (chosen (funct3 w == 0) _ _ (none_taken) tt)
    (chosen (w == 0x00000073) _ _ (none_taken) (chosen (w == 0x00100073) _ _ (none_taken) tt)))))))))))

word_short : (o : Option ℕ) → opening_of (option_and_then instr o) ≤ 2 ^ 11
unfolding instr
word_short None = none_taken
word_short (Some w) = at (instr_of (opcode w) w) (instr_short (opcode w) w)
  where
    at : (o : Option Instr) → IfSome o IsShort → opening_of o ≤ 2 ^ 11
    at None h = none_taken
    at (Some i) h = h

pub opening_short : (image : Image) (address : ℕ) → opening_of (instr_at image address) ≤ 2 ^ 11
unfolding instr_at
opening_short image address = word_short (word_at image address)

pub sum_short : (f : ℕ → ℕ) (xs : List ℕ) → ((x : ℕ) → f x ≤ 2 ^ 11) → sum_by f xs ≤ 2 ^ 11 * length xs
sum_short f [] each = omega arith
sum_short f (x ∷ xs) each = omega (arith, sum_by-cons f x xs, each x, sum_short f xs each)

-- ---- distinct addresses

all_append : (P : ℕ → Type 0) (xs ys : List ℕ) → AllByRecursion P xs → AllByRecursion P ys → AllByRecursion P (xs ++ ys)
all_append P [] ys first second = second
all_append P (x ∷ xs) ys first second = (first.0, all_append P xs ys first.1 second)

all_other : (x : ℕ) (ys : List ℕ) → (Contains ys x → ⊥) → AllByRecursion (λ y. eqb x y ≡ false) ys
all_other x [] never = tt
all_other x (y ∷ ys) never = (ne_eqb x y (λ e. never (0, omega arith, sym e)), all_other x ys (λ among. never (Contains-append_right (y ∷ []) ys x among)))

distinct_append : (xs ys : List ℕ) → IsDistinct eqb xs → IsDistinct eqb ys → ((x : ℕ) → Contains xs x → Contains ys x → ⊥) → IsDistinct eqb (xs ++ ys)
unfolding IsDistinct
distinct_append [] ys first second apart = second
distinct_append (x ∷ xs) ys first second apart = (
  all_append (λ y. eqb x y ≡ false) xs ys first.0 (all_other x ys (λ among. apart x (0, omega arith, refl) among)),
  distinct_append xs ys first.1 second (λ y among. apart y (Contains-append_right (x ∷ []) xs y among)),
)

rising_distinct : (xs : List ℕ) → IsStrictlyIncreasing xs → IsDistinct eqb xs
rising_distinct xs rising =
    IsDistinct-from_apart eqb xs (λ i j d less below.
    let up : get_or xs i d < get_or xs j d = AllPairs-from_increasing xs rising i j d less below in
    ne_eqb (get_or xs i d) (get_or xs j d) (λ e. omega (arith, up, e)))

few : (xs : List ℕ) → IsDistinct eqb xs → ((x : ℕ) → Contains xs x → x < 2 ^ 32) → length xs ≤ 2 ^ 32
few xs distinct small =
    length-le_from_distinct_below xs (2 ^ 32) distinct (λ q found. small q (Contains-list_any eqb (λ a b s. eqb-true a b s) xs q found))

-- ---- a path of calls

module _ (image : Image) (root : ℕ) (sound : ReachesNoFault image root) where
  -- the address lies in a function that is reached
  record IsOwned (entry address : ℕ) : Type 0 where
    owner : ℕ
    reached : Reaches image entry owner
    size : ℕ
    size_is : size_at image owner ≡ Some size
    inside : InRange owner size address
    space : address < 2 ^ 32

  record HasPath (entry stack : ℕ) : Type 0 where
    addresses : List ℕ
    distinct : IsDistinct eqb addresses
    owned : (address : ℕ) → Contains addresses address → IsOwned entry address
    short : stack ≤ 2 ^ 11 * length addresses

  prepend : (entry size target other : ℕ) → size_at image entry ≡ Some size → CallsOn image entry size target → Reaches image target other → Reaches image entry other
  prepend entry size target _ is calls itself = further entry size target itself is calls
  prepend entry size target other is calls (further middle sz _ reached sz_is on) =
      further middle sz other (prepend entry size target middle is calls reached) sz_is on

  back_to : (entry size target : ℕ) → size_at image entry ≡ Some size → CallsOn image entry size target → Reaches image target entry → IsCyclic image entry
  back_to entry size _ is calls itself = record { other = entry; reached = itself; last = entry; onward = itself; size = size; size_is = is; back = calls }
  back_to entry size target is calls (further middle sz _ reached sz_is on) = record {
    other = entry;
    reached = itself;
    last = middle;
    onward = prepend entry size target middle is calls reached;
    size = sz;
    size_is = sz_is;
    back = on;
  }

  below_root : (entry other : ℕ) → Reaches image root entry → Reaches image entry other → Reaches image root other
  below_root entry _ first itself = first
  below_root entry other first (further middle size _ reached is calls) = further middle size other (below_root entry middle first reached) is calls

  meet_not : (one size other other_size address : ℕ) → Reaches image root one → Reaches image root other → size_at image one ≡ Some size
      → size_at image other ≡ Some other_size → (one ≡ other → ⊥) → InRange one size address → InRange other other_size address → ⊥
  meet_not one size other other_size address first second is other_is apart here there = elim (cases_lt one other) [
    | inl lower ↦ sound Overlap other (overlap one size other other_size first is second other_is lower
        (record { address = address; in_one = here; in_other = there }))
    | inr upper ↦ sound Overlap one (overlap other other_size one size second other_is first is
        (grind (arith, upper, apart)) (record { address = address; in_one = there; in_other = here }))
  ]

  path : (entry stack : ℕ) → Reaches image root entry → IsStack image entry stack → HasPath entry stack
  path _ _ reached (deep entry size deepest places below is are stacks greatest) =
      at greatest.reached (λ t calls. path t (below t) (below_root entry t reached (further entry size t itself is calls)) (stacks t calls))
    where
      own : (a : ℕ) → Contains places a → IsOwned entry a
      own a among =
          let there = place image entry size a ((are.exactly a).0 among) in
          record { owner = entry; reached = itself; size = size; size_is = is; inside = there.inside; space = omega (arith, there.whole) }

      apart : (t a : ℕ) → CallsOn image entry size t → IsOwned t a → InRange entry size a → ⊥
      apart t a calls o inside = elim (cases_eq entry o.owner) [
        | inl same ↦ stack-acyclic image entry _ (deep entry size deepest places below is are stacks greatest)
            (back_to entry size t is calls (subst (Reaches image t) (sym same) o.reached))
        | inr other ↦ meet_not entry size o.owner o.size a reached
            (below_root entry o.owner reached (prepend entry size t o.owner is calls o.reached)) is o.size_is other inside o.inside
      ]

      at : (deepest ≡ 0) ⊎ ((t : ℕ) × CallsOn image entry size t × (below t ≡ deepest)) → ((t : ℕ) → CallsOn image entry size t → HasPath t (below t))
          → HasPath entry (sum_by (λ a. opening_of (instr_at image a)) places + deepest)
      at (inl none) again = record {
        addresses = places;
        distinct = rising_distinct places are.rising;
        owned = own;
        short = omega (arith, none, sum_short (λ a. opening_of (instr_at image a)) places (opening_short image));
      }
      at (inr (t, calls, e)) again =
          let p = again t calls in
          record {
            addresses = places ++ p.addresses;
            distinct = distinct_append places p.addresses (rising_distinct places are.rising) p.distinct
                (λ a x y. apart t a calls (p.owned a y) (place image entry size a ((are.exactly a).0 x)).inside);
            owned = λ a among. elim (Contains-append_cases places p.addresses a among) [
              | inl x ↦ own a x
              | inr y ↦
                  let o = p.owned a y in
                  record { owner = o.owner; reached = prepend entry size t o.owner is calls o.reached; size = o.size; size_is = o.size_is; inside = o.inside; space = o.space }
            ];
            short = omega (arith, e, p.short, sum_short (λ a. opening_of (instr_at image a)) places (opening_short image), length-append places p.addresses);
          }

  pub shallow : (entry stack : ℕ) → Reaches image root entry → IsStack image entry stack → stack ≤ 2 ^ 43
  shallow entry stack reached is =
      let p = path entry stack reached is in
      omega (arith, p.short, few p.addresses p.distinct (λ a among. (p.owned a among).space))

-- a function has few instructions
pub places_few : (xs : List ℕ) → IsStrictlyIncreasing xs → ((x : ℕ) → Contains xs x → x < 2 ^ 32) → length xs ≤ 2 ^ 32
places_few xs rising small = few xs (rising_distinct xs rising) small
