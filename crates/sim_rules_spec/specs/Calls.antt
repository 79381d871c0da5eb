-- Call: what it leaves to show of a function that both sides call, and of what it gives back.
use Rattle.std.specs.Prelude.{◌≡◌, ◌⊎◌, ℕ, ◌&&◌, ◌==◌, Bool, true, false, if◌then◌else◌, List, [], ◌∷◌, ◌++◌, map, Option, Some, None, All}
use Rattle.std.specs.List.{list_all, list_any}
use Rattle.term_core_spec.specs.declared.Family.{Family}
use Rattle.term_core_spec.specs.declared.Family.TheVariants as family
use Rattle.term_core_spec.specs.declared.Sort.{Sort}
use Rattle.term_core_spec.specs.declared.Sort.TheVariants as sort
use Rattle.term_core_spec.specs.declared.Width.TheVariants.{W32}
use Rattle.term_core_spec.specs.declared.Variable.{Variable}
use Rattle.term_core_spec.specs.Same.{same_variable}
use Rattle.term_core_spec.specs.Sort.{is_memory}
use Rattle.term_core_spec.specs.Term.{Term, Occurs, truth, not_term, equal, less, bit_and, subtract, constant, open_term, over}
use Rattle.term_core_spec.specs.Value.{Assignment, IsAssignment, value, laid_over}
use Rattle.term_core_spec.specs.Substitution.{State as Terms, substituted, at_instance}
use Rattle.graph_core_spec.specs.Graph.{Binding}
use Rattle.graph_core_spec.specs.Run.{is_shared, is_register, is_zone_end, entered}
use Rattle.path_cond_spec.specs.Conditions.{assigned}
use Rattle.path_cond_spec.specs.Passages.{holds}
use Rattle.proof_tree_spec.specs.Frames.{Frame}
use Rattle.sim_rules_spec.specs.Points.{Convention, binary_memory, source_memory, zone_memory, is_binary, is_source, of_sides, other_values, with_memory}
use Rattle.sim_rules_spec.specs.Calling.{word, register, at_entry, kept_registers}
use Rattle.sim_rules_spec.specs.Proper.{AreOwnBindings}
use Rattle.sim_rules_spec.specs.Rules.{Opening, terms_at_start, terms_at, at_cut, all_of, under, HasFixed, IsTrueWith}

-- a function that was shown to be right before: how many bytes below its stack pointer it takes; the lines of its
-- arguments, over registers, memory and its own parameters where it begins; and its result, widened to a word, over the
-- words of its source's state where it has returned
pub record Callee : Type 0 where
  pub stack : ℕ
  pub arguments : List Term
  pub result : Option Term

-- the calls of both sides: what their nodes bind where the callee begins, and what the source's binds where it has
-- returned; in code a call binds nothing there
pub record CallPair : Type 0 where
  pub binary_inputs : List Binding
  pub source_inputs : List Binding
  pub source_outputs : List Binding

-- ---- where the callee begins

-- what a function's own variable holds before it is bound; a memory is nobody's own
abbrev pub unset_or : Sort → Term → Term
unset_or sort.Truth memory = truth false
unset_or (sort.Word width) memory = constant width 0
unset_or sort.Memory memory = memory

-- the terms of a callee's variables, from the caller's
abbrev pub entered_terms : List Binding → Terms → Terms
entered_terms inputs terms = assigned inputs terms (λ v. if is_shared v then terms v else unset_or v.sort (terms v))

-- values at entry are the caller's, of whom the relation at the callee's entry speaks
abbrev pub is_entry : Family → Bool
is_entry family.Entry = true
is_entry f = false

abbrev pub with_entry : {T : Type 0} → (caller callee : Variable → T) → Variable → T
with_entry caller callee = λ v. if is_entry v.family then caller v else callee v

-- the arguments; the return address is a multiple of 4 and the stack pointer one of 16; the callee's stack is inside the
-- zone of the caller; and the global pointer is as at the caller's entry (psABI, ILP32)
abbrev pub callee_lines : Convention → Callee → List Term
callee_lines c callee =
    callee.arguments
    ++ (equal (bit_and (register 1) (word 3)) (word 0)
    ∷ equal (bit_and (register 2) (word 15)) (word 0)
    ∷ not_term (less (register 2) c.zone_from)
    ∷ not_term (less (subtract (register 2) c.zone_from) (word callee.stack))
    ∷ not_term (less c.zone_to (register 2))
    ∷ equal (register 3) (at_entry 3)
    ∷ [])

abbrev pub binary_begins : CallPair → Opening → Terms
binary_begins calls o = with_entry o.binary (entered_terms calls.binary_inputs o.binary)

abbrev pub source_begins : CallPair → Opening → Terms
source_begins calls o = entered_terms calls.source_inputs o.source

-- the callee's entry relation
abbrev pub begins_well : Convention → CallPair → Callee → Opening → Term
begins_well c calls callee o =
    all_of (map (substituted (terms_at (binary_begins calls o) (source_begins calls o))) (with_memory c (callee_lines c callee)))

-- ---- where it has returned

-- what the callee leaves is fresh: variables of another instance, of which no line speaks
abbrev pub fresh : Variable → Variable
fresh v = at_instance 1 v

abbrev pub left : Terms
left v = open_term (fresh v)

-- the machine's register of a number
abbrev pub machine_register : ℕ → Variable
machine_register r = record { family = family.Register; index = r; instance = 0; sort = sort.Word W32 }

abbrev pub is_kept_register : ℕ → Bool
is_kept_register r = list_any (λ (k : ℕ). k == r) kept_registers

-- x10 has the result, if there is one; the registers that a callee saves are as before
abbrev pub result_or : Option Term → Term → Term
result_or (Some result) otherwise = substituted left result
result_or None otherwise = otherwise

abbrev pub left_register : Callee → (before : Terms) → Variable → Term
left_register callee before v =
    if is_kept_register v.index then before v else (if v.index == 10 then result_or callee.result (left v) else left v)

-- the memory of the zone is as before, but for the bytes below the stack pointer that the callee takes
abbrev pub left_memory : Convention → Callee → (before : Terms) → Term
left_memory c callee before =
    let sp = before (machine_register 2) in
    over (left source_memory) (over (open_term zone_memory) (left zone_memory) (subtract sp (word callee.stack)) sp) c.zone_from c.zone_to

abbrev pub binary_returns : Convention → Callee → Opening → Terms
binary_returns c callee o = λ v.
    if same_variable v binary_memory then left_memory c callee o.binary
    else (if is_register v.family then left_register callee o.binary v else o.binary v)

-- the source's memory is what the callee leaves; the ends of the zone are as before, and so are the caller's own variables
abbrev pub source_returns : CallPair → Opening → Terms
source_returns calls o = assigned calls.source_outputs left (λ v. if is_memory v.sort then left v else o.source v)

-- the relation where both are back
abbrev pub returns_well : Convention → CallPair → Callee → Opening → List Term → Term
returns_well c calls callee o lines =
    all_of (map (substituted (terms_at (binary_returns c callee o) (source_returns calls o))) (with_memory c lines))

-- ---- the obligations

-- what holds at entry and the relation before the calls
abbrev pub call_premises : Convention → Frame → (before : List Term) → List Term
call_premises c f before = map (substituted (terms_at_start (at_cut c))) (f.entry ++ before)

-- the callee's entry relation under the relation before; the relation after, under the relation before and what the
-- callee leaves
abbrev pub call_terms : Convention → Frame → CallPair → Callee → (before after : List Term) → List Term
call_terms c f calls callee before after =
    map (under (call_premises c f before))
    (begins_well c calls callee (at_cut c) ∷ returns_well c calls callee (at_cut c) after ∷ [])

abbrev pub AreOfCall : Convention → Frame → CallPair → Callee → (before after : List Term) → List Term → Type 0
AreOfCall c f calls callee before after terms = terms ≡ call_terms c f calls callee before after

-- the first of them, and the second
abbrev pub entry_term : Convention → Frame → CallPair → Callee → (before : List Term) → Term
entry_term c f calls callee before = under (call_premises c f before) (begins_well c calls callee (at_cut c))

abbrev pub return_term : Convention → Frame → CallPair → Callee → (before after : List Term) → Term
return_term c f calls callee before after = under (call_premises c f before) (returns_well c calls callee (at_cut c) after)

-- the term is true wherever the source's memory holds the fixed bytes, and the one that its callee leaves does
abbrev pub IsTrueAcross : Convention → Term → Type 0
IsTrueAcross c t = (a : Assignment) → IsAssignment a → HasFixed c (a source_memory) → HasFixed c (a (fresh source_memory)) → holds a t ≡ true

-- the obligations are true; where both are back there are two memories of the source
pub record AreTrueOfCall (c : Convention) (f : Frame) (calls : CallPair) (callee : Callee) (before after : List Term) : Type 0 where
  pub begins : IsTrueWith c (entry_term c f calls callee before)
  pub returns : IsTrueAcross c (return_term c f calls callee before after)

-- ---- what they give: x and y are the callers' values at their calls

-- the values where the callee begins, those at entry being the caller's
abbrev pub begun_binary : CallPair → Assignment → Assignment
begun_binary calls x = with_entry x (entered calls.binary_inputs x)

abbrev pub begun_at : CallPair → (at : ℕ) → (x y : Assignment) → Assignment
begun_at calls at x y =
    of_sides (begun_binary calls x) (entered calls.source_inputs y) (other_values at (begun_binary calls x binary_memory))

-- the callee's entry relation holds there
abbrev pub BeginsWell : Convention → CallPair → Callee → (x y : Assignment) → Type 0
BeginsWell c calls callee x y =
    (at : ℕ) → list_all (λ (line : Term). holds (begun_at calls at x y) line) (with_memory c (callee_lines c callee)) ≡ true

-- what each side's call binds speaks of that side's own variables
pub record IsCallPair (calls : CallPair) : Type 0 where
  pub binary : AreOwnBindings is_binary calls.binary_inputs
  pub source : AreOwnBindings is_source calls.source_inputs

-- ---- what the callee gives back: r and s are the values with which both sides have returned

abbrev pub is_left_family : Family → Bool
is_left_family family.Register = true
is_left_family family.SourceMemory = true
is_left_family family.ZoneMemory = true
is_left_family family.Further = true
is_left_family f = false

-- the variable is one that a callee leaves
abbrev pub is_left : Variable → Bool
is_left v = (v.instance == 1) && is_left_family v.family

-- lines before and after a call speak of none of these, of registers and memories as they are in scope, and of no end of
-- the zone
pub record IsPlain (v : Variable) : Type 0 where
  pub old : is_left v ≡ false
  pub register : is_register v.family ≡ true → v ≡ machine_register v.index
  pub memory : is_memory v.sort ≡ true → (v ≡ binary_memory) ⊎ ((v ≡ source_memory) ⊎ (v ≡ zone_memory))
  pub no_end : is_zone_end v ≡ false

abbrev pub IsPlainLine : Term → Type 0
IsPlainLine line = (v : Variable) → Occurs v line → IsPlain v

-- of a source that has returned, its result's word and its memory are spoken of
pub record IsGiven (v : Variable) : Type 0 where
  pub of_callee : v.instance ≡ 0
  pub given : (v.family ≡ family.Further) ⊎ (v.family ≡ family.SourceMemory)

abbrev pub IsGivenTerm : Term → Type 0
IsGivenTerm t = (v : Variable) → Occurs v t → IsGiven v

-- what is spoken of where a pair of calls returns
pub record IsReturnOf (c : Convention) (f : Frame) (calls : CallPair) (callee : Callee) (before after : List Term) : Type 0 where
  pub outputs : All (λ (b : Binding). IsGivenTerm b.term) calls.source_outputs
  pub result : (t : Term) → callee.result ≡ Some t → IsGivenTerm t
  pub zone_from : IsPlainLine c.zone_from
  pub zone_to : IsPlainLine c.zone_to
  pub before_plain : All IsPlainLine (f.entry ++ before)
  pub after_plain : All IsPlainLine (with_memory c after)

-- the callee has returned its result in x10, if it has one; the registers that a callee saves are as before the call; the
-- binary's memory is the source's with the zone's over it, which is as before but for the callee's stack; and the source's
-- holds the fixed bytes
pub record IsGivenBack (c : Convention) (callee : Callee) (x r s : Assignment) : Type 0 where
  pub result : (t : Term) → callee.result ≡ Some t → r (machine_register 10) ≡ value s t
  pub kept : (k : ℕ) → is_kept_register k ≡ true → r (machine_register k) ≡ x (machine_register k)
  pub memory :
      laid_over (s source_memory)
      (laid_over (x binary_memory) (r binary_memory) (value x (subtract (register 2) (word callee.stack))) (x (machine_register 2)))
      (value x c.zone_from) (value x c.zone_to)
      ≡ r binary_memory
  pub fixed : HasFixed c (s source_memory)
