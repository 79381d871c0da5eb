-- Lines of a proof speak of nothing that a callee leaves, and what a callee gives is all that its call takes.
use Rattle.std.proofs.Common.{◌≡◌, ◌∙◌, ℕ, zero, suc, ◌==◌, ◌&&◌, Bool, true, false, if◌then◌else◌, List, [], ◌∷◌, map, Some, refl, sym, ap, ap₂, subst, inl, inr, arith}
use Rattle.std.specs.Prelude.{slice_get, nat_lt, Any}
use Rattle.std.specs.List.{All}
use Rattle.std.proofs.lemmas.List.Elements.{All-nil, All-cons, All-head, All-tail}
use Rattle.term_core_spec.specs.declared.Family.{Family}
use Rattle.term_core_spec.specs.declared.Family.TheVariants as family
use Rattle.term_core_spec.specs.declared.Width.{Width}
use Rattle.term_core_spec.specs.declared.Width.TheVariants.{W32}
use Rattle.term_core_spec.specs.declared.Sort.{Sort}
use Rattle.term_core_spec.specs.declared.Sort.TheVariants as sort
use Rattle.term_core_spec.specs.declared.Variable.{Variable}
use Rattle.term_core_spec.specs.Sort.{bits, is_memory}
use Rattle.term_core_spec.specs.Term.{Term, Occurs, open_term, sign_extend, zero_extend, low}
use Rattle.memory_spec.specs.Zones.{Zone}
use Rattle.graph_core_spec.specs.Run.{is_register, is_further}
use Rattle.c_types_spec.specs.declared.Scalar.{Scalar}
use Rattle.c_types_spec.specs.Core.{Body}
use Rattle.c_graph_spec.specs.State.{sort_of_scalar, result}
use Rattle.c_graph_spec.specs.Values.{at_width}
use Rattle.proof_tree_spec.specs.Scope as scope
use Rattle.proof_tree_spec.specs.Scope.{IsVisible, InFamily, IsLine}
use Rattle.sim_rules_spec.specs.Points.{same_byte, address, binary_memory, source_memory}
use Rattle.sim_rules_spec.specs.Calling.{zone_from, at_entry}
use Rattle.sim_rules_spec.specs.Calls.{is_left_family, IsPlain, IsPlainLine, IsGiven, IsGivenTerm}
use Rattle.agreement_laws.specs.EntryFrame.{Pair, convention_of, entry_premises, scope_of}
use Rattle.sim_rules_spec.proofs.Start.{all_at}
use Rattle.validity_laws.specs.Inlined.{HasWords}
use Rattle.validity_laws.proofs.EntryLines.{IsOfEntry, are_of_entry}

-- ---- what a callee gives

either_given : (b : Bool) (x y : Term) → IsGivenTerm x → IsGivenTerm y → IsGivenTerm (if b then x else y)
either_given true x y h k = h
either_given false x y h k = k

word_given : (type : Scalar) → IsGivenTerm (open_term (result type))
unfolding Occurs
word_given type v o = subst IsGiven (sym o) (record { of_callee = refl; given = inl refl })

signed_given : (type : Scalar) (w : Width) → IsGivenTerm (sign_extend w (open_term (result type)))
unfolding Occurs
signed_given type w v o = word_given type v o

unsigned_given : (type : Scalar) (w : Width) → IsGivenTerm (zero_extend w (open_term (result type)))
unfolding Occurs
unsigned_given type w v o = word_given type v o

low_given : (type : Scalar) (w : Width) → IsGivenTerm (low w (open_term (result type)))
unfolding Occurs
low_given type w v o = word_given type v o

pub result_given : (type : Scalar) (w : Width) → IsGivenTerm (at_width type w (open_term (result type)))
result_given type w =
    either_given (nat_lt type.width (bits w)) _ _ (either_given type.is_signed (sign_extend w (open_term (result type))) (zero_extend w (open_term (result type))) (signed_given type w) (unsigned_given type w))
    (either_given (nat_lt (bits w) type.width) (low w (open_term (result type))) (open_term (result type)) (low_given type w) (word_given type))

-- ---- lines in scope

abbrev variable : Family → (index instance : ℕ) → Sort → Variable
variable f i n s = record { family = f; index = i; instance = n; sort = s }

no_fresh : (n : ℕ) → ((n == 1) && false) ≡ false
no_fresh n = by (n == 1)
  where
    by : (b : Bool) → (b && false) ≡ false
    by true = refl
    by false = refl

not_memory : (s : Sort) (w : Width) → s ≡ sort.Word w → is_memory s ≡ true → ⊥
not_memory s w e h = let bad : false ≡ true = sym (ap is_memory e) ∙ h in cc

-- a variable of a family that no callee leaves, and that is no memory
unleft : (f : Family) (i n : ℕ) (s : Sort) → is_left_family f ≡ false → is_register f ≡ false → is_further f ≡ false → (is_memory s ≡ true → ⊥) → IsPlain (variable f i n s)
unleft f i n s left register further apart = record {
  old = ap (λ (b : Bool). (n == 1) && b) left ∙ no_fresh n;
  register = λ e. absurd (let bad : true ≡ false = sym e ∙ register in cc);
  memory = λ e. absurd (apart e);
  no_end = ap (λ (b : Bool). b && nat_lt i 2) further;
}

only : (f : Family) (i n : ℕ) (s : Sort) → i ≡ 0 → n ≡ 0 → s ≡ sort.Memory → variable f i n s ≡ variable f 0 0 sort.Memory
only f i n s ei en es = ap (λ (j : ℕ). variable f j n s) ei ∙ ap₂ (λ (k : ℕ) (t : Sort). variable f 0 k t) en es

local_words : (path : List ℕ) (v : Variable) (bodies : List scope.Body) → All (λ (b : scope.Body). All (λ (t : Sort). is_memory t ≡ false) b.locals) bodies
    → Any (λ (b : scope.Body). IsVisible path v b × (slice_get b.locals v.index ≡ Some v.sort)) bodies → is_memory v.sort ≡ false
local_words path v [] all (k, b, lt, e, is) = absurd (omega (arith, lt))
local_words path v (first ∷ bodies) all (zero, b, lt, e, is) =
    all_at (λ (t : Sort). is_memory t ≡ false) first.locals v.index v.sort (All-head (λ (b : scope.Body). All (λ (t : Sort). is_memory t ≡ false) b.locals) first bodies all)
    (ap (λ (x : scope.Body). slice_get x.locals v.index) e ∙ is.1)
local_words path v (first ∷ bodies) all (suc k, b, lt, e, is) =
    local_words path v bodies (All-tail (λ (b : scope.Body). All (λ (t : Sort). is_memory t ≡ false) b.locals) first bodies all) (k, b, omega (arith, lt), e, is)

no_memory : (s : Sort) → is_memory s ≡ false → is_memory s ≡ true → ⊥
no_memory s none is = let bad : true ≡ false = sym is ∙ none in cc

plain_variable : (s : scope.Setting) → HasWords s → (path : List ℕ) (f : Family) (i n : ℕ) (t : Sort) → InFamily s path f (variable f i n t) → IsPlain (variable f i n t)
plain_variable s words path family.Register i n t is = record {
  old = ap (λ (k : ℕ). (k == 1) && true) is.of_function;
  register = λ e. ap₂ (λ (k : ℕ) (u : Sort). variable family.Register i k u) is.of_function is.word;
  memory = λ e. absurd (not_memory t W32 is.word e);
  no_end = refl;
}
plain_variable s words path family.Entry i n t is = unleft family.Entry i n t refl refl refl (not_memory t W32 is.0.word)
plain_variable s words path family.Parameter i n t is =
    unleft family.Parameter i n t refl refl refl (no_memory t (all_at (λ (u : Sort). is_memory u ≡ false) s.parameters i t words.parameters is.1))
plain_variable s words path family.Local i n t is =
    unleft family.Local i n t refl refl refl (no_memory t (local_words path (variable family.Local i n t) s.bodies words.locals is))
plain_variable s words path family.IsSet i n t is = unleft family.IsSet i n t refl refl refl (λ h. let bad : false ≡ true = sym (ap is_memory is.0) ∙ h in cc)
plain_variable s words path family.SourceMemory i n t is = record {
  old = ap (λ (k : ℕ). (k == 1) && true) is.of_function;
  register = λ e. absurd (let bad : false ≡ true = e in cc);
  memory = λ e. inr (inl (only family.SourceMemory i n t is.only is.of_function is.memory));
  no_end = refl;
}
plain_variable s words path family.BinaryMemory i n t is = record {
  old = no_fresh n;
  register = λ e. absurd (let bad : false ≡ true = e in cc);
  memory = λ e. inl (only family.BinaryMemory i n t is.only is.of_function is.memory);
  no_end = refl;
}
plain_variable s words path family.ZoneMemory i n t is = record {
  old = ap (λ (k : ℕ). (k == 1) && true) is.of_function;
  register = λ e. absurd (let bad : false ≡ true = e in cc);
  memory = λ e. inr (inr (only family.ZoneMemory i n t is.only is.of_function is.memory));
  no_end = refl;
}
plain_variable s words path family.Address i n t is = absurd is
plain_variable s words path family.LoadedByte i n t is = absurd is
plain_variable s words path family.Further i n t is = absurd is

pub plain_line : (s : scope.Setting) → HasWords s → (path : List ℕ) (line : Term) → IsLine s path line → IsPlainLine line
plain_line s words path line is v o = plain_variable s words path v.family v.index v.instance v.sort (is.visible v o)

pub plain_lines : (s : scope.Setting) → HasWords s → (path : List ℕ) (lines : List Term) → All (IsLine s path) lines → All IsPlainLine lines
plain_lines s words path lines all i d lt = plain_line s words path _ (all i d lt)

-- parameters and locals of a function are words
pub scalars : (types : List Scalar) → All (λ (t : Sort). is_memory t ≡ false) (map sort_of_scalar types)
scalars [] = All-nil (λ (t : Sort). is_memory t ≡ false)
scalars (type ∷ types) = All-cons (λ (t : Sort). is_memory t ≡ false) (sort_of_scalar type) (map sort_of_scalar types) refl (scalars types)

pub own_words : (body : Body) → HasWords (scope_of body)
own_words body = record {
  parameters = scalars body.signature.parameters;
  locals = All-cons (λ (b : scope.Body). All (λ (t : Sort). is_memory t ≡ false) b.locals) (record { path = []; instance = 0; locals = map sort_of_scalar body.locals }) [] (scalars body.locals)
      (All-nil (λ (b : scope.Body). All (λ (t : Sort). is_memory t ≡ false) b.locals));
}

-- ---- lines over registers at entry, and the line on memory

pub plain_entry : (t : Term) → IsOfEntry t → IsPlainLine t
plain_entry t of v o =
    let is = of v o in
    subst IsPlain (sym is.1) (unleft family.Entry is.0 0 (sort.Word W32) refl refl refl (λ h. let bad : false ≡ true = h in cc))

pub plain_premises : (q : Pair) → All IsPlainLine (entry_premises q)
plain_premises q i d lt = plain_entry _ (are_of_entry q i d lt)

pub plain_low : (stack : ℕ) → IsPlainLine (zone_from stack)
unfolding Occurs
plain_low stack = plain_entry (zone_from stack) (of_low stack)
  where
    of_low : (stack : ℕ) → IsOfEntry (zone_from stack)
    of_low stack v (inl o) = (2, o)
    of_low stack v (inr o) = absurd o

pub plain_high : IsPlainLine (at_entry 2)
unfolding Occurs
plain_high = plain_entry (at_entry 2) (λ v o. (2, o))

plain_address : IsPlain address
plain_address = unleft family.Address 0 0 (sort.Word W32) refl refl refl (λ h. let bad : false ≡ true = h in cc)

plain_binary : IsPlain binary_memory
plain_binary = record { old = refl; register = λ e. absurd (let bad : false ≡ true = e in cc); memory = λ e. inl refl; no_end = refl }

plain_source : IsPlain source_memory
plain_source = record { old = refl; register = λ e. absurd (let bad : false ≡ true = e in cc); memory = λ e. inr (inl refl); no_end = refl }

pub plain_memory : (q : Pair) (zone : Zone) → IsPlainLine (same_byte (convention_of q zone))
unfolding Occurs
plain_memory q zone v (inl (inl (inl o))) = subst IsPlain (sym o) plain_address
plain_memory q zone v (inl (inl (inr o))) = plain_low q.stack v o
plain_memory q zone v (inl (inr (inl o))) = subst IsPlain (sym o) plain_address
plain_memory q zone v (inl (inr (inr o))) = plain_high v o
plain_memory q zone v (inr (inl (inl o))) = subst IsPlain (sym o) plain_binary
plain_memory q zone v (inr (inl (inr o))) = subst IsPlain (sym o) plain_address
plain_memory q zone v (inr (inr (inl o))) = subst IsPlain (sym o) plain_source
plain_memory q zone v (inr (inr (inr o))) = subst IsPlain (sym o) plain_address
