-- The obligations of calls are well sorted. In that of the callee's entry the source has one memory, in that of the return
-- two.
use Rattle.std.proofs.Common.{◌≡◌, ℕ, suc, ◌+◌, ◌^◌, ◌<◌, ◌==◌, true, false, if◌then◌else◌, List, [], ◌∷◌, ◌++◌, map, Option, Some, None, refl, sym, subst, inl, inr, arith}
use Rattle.std.specs.Prelude.{All}
use Rattle.std.proofs.lemmas.Bool.{eqb-true, lt-ltb}
use Rattle.std.proofs.lemmas.List.Elements.{All-nil, All-cons, All-append, All-head, All-tail}
use Rattle.term_core_spec.specs.declared.Width.{Width}
use Rattle.term_core_spec.specs.declared.Width.TheVariants.{W8, W16, W32, W64}
use Rattle.term_core_spec.specs.declared.Sort.{Sort}
use Rattle.term_core_spec.specs.declared.Sort.TheVariants as sort
use Rattle.term_core_spec.specs.declared.Sort.TheVariants.{Truth, Word, Memory}
use Rattle.term_core_spec.specs.declared.Family.TheVariants as family
use Rattle.term_core_spec.specs.declared.Variable.{Variable}
use Rattle.term_core_spec.specs.Same.{same_variable}
use Rattle.term_core_spec.proofs.Same.{variable-same}
use Rattle.term_core_spec.specs.Sort.{sort_of, sort_of_atom, sort_of_binary}
use Rattle.term_core_spec.specs.Term.{Term, Occurs, constant, open_term, equal, less, not_term, subtract, bit_and}
use Rattle.term_core_spec.specs.Substitution.{State, substituted}
use Rattle.graph_core_spec.specs.Graph.{Binding}
use Rattle.term_core_spec.specs.Sort.{is_memory}
use Rattle.graph_core_spec.specs.Run.{is_shared, is_register}
use Rattle.c_types_spec.specs.declared.Scalar.{Scalar}
use Rattle.c_graph_spec.specs.State.{local}
use Rattle.c_graph_laws.proofs.Extents.{IsPlain as IsPlainType, ResultExtent}
use Rattle.proof_tree_spec.specs.Frames.{Frame}
use Rattle.sim_rules_spec.specs.Points.{binary_memory, source_memory, zone_memory, is_binary, is_source, same_byte, with_memory}
use Rattle.sim_rules_spec.specs.Calling.{word, register, at_entry}
use Rattle.sim_rules_spec.specs.Rules.{Opening, terms_at_start, terms_at, at_cut}
use Rattle.sim_rules_spec.specs.Calls as calls
use Rattle.sim_rules_spec.specs.Calls.{CallPair, unset_or, entered_terms, is_entry, callee_lines, binary_begins, source_begins, begins_well, left, machine_register, is_kept_register, result_or, left_register, left_memory, binary_returns, source_returns, returns_well, call_premises, entry_term, return_term, IsPlainLine}
use Rattle.agreement_laws.specs.EntryFrame.{Pair, result_term, widened}
use Rattle.agreement_laws.specs.Callers.{argument_lines, callee_of}
use Rattle.validity_laws.specs.Derivation.{no_zone, stated}
use Rattle.validity_laws.proofs.Good.{IsPlain, IsGood, IsGoodState, IsTest, AreTests, open_good, truth_good, not_good, equal_good, less_good, either_good, all_good}
use Rattle.validity_laws.proofs.Conditions.{IsGoodBinding, assigned_good}
use Rattle.validity_laws.proofs.Entry.{register_good, at_entry_good, zone_good, word_good, from_good, widened_good, local_good, result_open, byte_good, cut_binary_good, cut_source_good, start_good, point_good}
use Rattle.validity_laws.proofs.Leaves.{lines_good, under_test}
use Rattle.validity_laws.proofs.PlainLines.{plain_memory}
use Rattle.validity_laws.proofs.TwoMemories.{IsSound, IsSoundTest, AreSoundTests, good_sound, subtract_sound, over_sound, choice_sound, substituted_sound, all_sound, under_sound, left_sound, assigned_sound}

-- ---- where the callee begins

-- a word of a register under a mask
masked : (r mask : ℕ) → mask < 2 ^ 32 → IsGood (bit_and (register r) (word mask)) (Word W32)
unfolding sort_of sort_of_atom sort_of_binary Occurs
masked r mask below = record {
  sorted = rw (lt-ltb mask (2 ^ 32) below) refl;
  plain = λ v o. elim o [ inl l ↦ (register_good r).plain v l | inr m ↦ absurd m ];
}

below_stack : (q : Pair) → q.stack < 2 ^ 32 → IsGood (subtract (register 2) (stated q).zone_from) (Word W32)
unfolding sort_of sort_of_atom sort_of_binary Occurs
below_stack q small = record {
  sorted = rw (lt-ltb q.stack (2 ^ 32) small) refl;
  plain = λ v o. elim o [ inl l ↦ (register_good 2).plain v l | inr m ↦ (from_good q.stack small).plain v m ];
}

arguments_good : (number : ℕ) (types : List Scalar) → All IsPlainType types → AreTests (argument_lines number types)
arguments_good number [] are = All-nil IsTest
arguments_good number (type ∷ types) are =
    All-cons IsTest (equal (register (10 + number)) (widened type (local number type))) (argument_lines (suc number) types)
    (equal_good W32 (register (10 + number)) (widened type (local number type)) (register_good (10 + number))
    (widened_good type (local number type) (All-head IsPlainType type types are) (local_good number type) refl))
    (arguments_good (suc number) types (All-tail IsPlainType type types are))

callee_good : (q p : Pair) → q.stack < 2 ^ 32 → p.stack < 2 ^ 32 → All IsPlainType p.body.signature.parameters → AreTests (callee_lines (stated q) (callee_of p))
callee_good q p small least plain =
    let low = from_good q.stack small in
    let back : Term = equal (bit_and (register 1) (word 3)) (word 0) in
    let stack : Term = equal (bit_and (register 2) (word 15)) (word 0) in
    let above : Term = not_term (less (register 2) (stated q).zone_from) in
    let room : Term = not_term (less (subtract (register 2) (stated q).zone_from) (word p.stack)) in
    let under_top : Term = not_term (less (stated q).zone_to (register 2)) in
    let global : Term = equal (register 3) (at_entry 3) in
    All-append IsTest (argument_lines 0 p.body.signature.parameters) _ (arguments_good 0 p.body.signature.parameters plain)
    (All-cons IsTest back (stack ∷ above ∷ room ∷ under_top ∷ global ∷ []) (equal_good W32 (bit_and (register 1) (word 3)) (word 0) (masked 1 3 (omega arith)) (word_good 0 (omega arith)))
    (All-cons IsTest stack (above ∷ room ∷ under_top ∷ global ∷ []) (equal_good W32 (bit_and (register 2) (word 15)) (word 0) (masked 2 15 (omega arith)) (word_good 0 (omega arith)))
    (All-cons IsTest above (room ∷ under_top ∷ global ∷ []) (not_good (less (register 2) (stated q).zone_from) (less_good W32 (register 2) (stated q).zone_from (register_good 2) low))
    (All-cons IsTest room (under_top ∷ global ∷ [])
    (not_good (less (subtract (register 2) (stated q).zone_from) (word p.stack)) (less_good W32 (subtract (register 2) (stated q).zone_from) (word p.stack) (below_stack q small) (word_good p.stack least)))
    (All-cons IsTest under_top (global ∷ []) (not_good (less (stated q).zone_to (register 2)) (less_good W32 (stated q).zone_to (register 2) (at_entry_good 2) (register_good 2)))
    (All-cons IsTest global [] (equal_good W32 (register 3) (at_entry 3) (register_good 3) (at_entry_good 3)) (All-nil IsTest)))))))

zero_good : (w : Width) → IsGood (constant w 0) (Word w)
unfolding sort_of sort_of_atom Occurs
zero_good W8 = record { sorted = refl; plain = λ v o. absurd o }
zero_good W16 = record { sorted = refl; plain = λ v o. absurd o }
zero_good W32 = record { sorted = refl; plain = λ v o. absurd o }
zero_good W64 = record { sorted = refl; plain = λ v o. absurd o }

unset_good : (s : Sort) (memory : Term) → IsGood memory s → IsGood (unset_or s memory) s
unset_good sort.Truth memory h = truth_good false
unset_good (sort.Word width) memory h = zero_good width
unset_good sort.Memory memory h = h

entered_good : (inputs : List Binding) (state : State) → IsGoodState state → All IsGoodBinding inputs → IsGoodState (entered_terms inputs state)
entered_good inputs state good all =
    assigned_good inputs state (λ v. if is_shared v then state v else unset_or v.sort (state v)) good
    (λ v plain. either_good (is_shared v) v.sort (state v) (unset_or v.sort (state v)) (λ h. good v plain) (unset_good v.sort (state v) (good v plain))) all

module _ (q : Pair) (small : q.stack < 2 ^ 32) where
  abbrev o : Opening
  o = at_cut (stated q)

  premises_tests : (f : Frame) (before : List Term) → AreTests f.entry → AreTests before → AreTests (call_premises (stated q) f before)
  premises_tests f before entry lines =
      lines_good (terms_at_start o) (start_good o (cut_binary_good q small) (cut_source_good q small)) (f.entry ++ before) (All-append IsTest f.entry before entry lines)

  memory_line : (lines : List Term) → AreTests lines → AreTests (with_memory (stated q) lines)
  memory_line lines all = All-append IsTest lines (same_byte (stated q) ∷ []) all (All-cons IsTest (same_byte (stated q)) [] (byte_good q small) (All-nil IsTest))

  module _ (p : Pair) (least : p.stack < 2 ^ 32) (parameters : All IsPlainType p.body.signature.parameters) (pair : CallPair)
      (binary_inputs : All IsGoodBinding pair.binary_inputs) (source_inputs : All IsGoodBinding pair.source_inputs) where
    binary_state : IsGoodState (binary_begins pair o)
    binary_state v plain =
        either_good (is_entry v.family) v.sort (o.binary v) (entered_terms pair.binary_inputs o.binary v) (λ h. cut_binary_good q small v plain)
        (entered_good pair.binary_inputs o.binary (cut_binary_good q small) binary_inputs v plain)

    pub entry_test : (f : Frame) (before : List Term) → AreTests f.entry → AreTests before → IsTest (entry_term (stated q) f pair (callee_of p) before)
    entry_test f before entry lines =
        let point = terms_at (binary_begins pair o) (source_begins pair o) in
        let good = point_good (binary_begins pair o) (source_begins pair o) binary_state (entered_good pair.source_inputs o.source (cut_source_good q small) source_inputs) in
        let all = with_memory (stated q) (callee_lines (stated q) (callee_of p)) in
        under_test (call_premises (stated q) f before) (begins_well (stated q) pair (callee_of p) o) (premises_tests f before entry lines)
        (all_good (map (substituted point) all) (lines_good point good all (memory_line (callee_lines (stated q) (callee_of p)) (callee_good q p small least parameters))))

  -- ---- where both are back

  module _ (p : Pair) (least : p.stack < 2 ^ 32) (result : ResultExtent p.body.signature.result) (pair : CallPair) (outputs : All IsGoodBinding pair.source_outputs) where
    sound_binary : (v : Variable) → IsPlain v → IsSound (o.binary v) v.sort
    sound_binary v plain = good_sound (o.binary v) v.sort (cut_binary_good q small v plain)

    not_source : (v : Variable) → (v.family ≡ family.SourceMemory → ⊥) → IsPlain v
    not_source v apart is = absurd (apart is)

    memory_sound : IsSound (left_memory (stated q) (callee_of p) o.binary) Memory
    memory_sound =
        let sp = sound_binary (machine_register 2) (not_source (machine_register 2) (λ h. cc)) in
        over_sound (left source_memory) _ (stated q).zone_from (stated q).zone_to (left_sound source_memory (λ h. refl))
        (over_sound (open_term zone_memory) (left zone_memory) (subtract (o.binary (machine_register 2)) (word p.stack)) (o.binary (machine_register 2))
        (good_sound (open_term zone_memory) Memory zone_good) (left_sound zone_memory (not_source zone_memory (λ h. cc)))
        (subtract_sound (o.binary (machine_register 2)) (word p.stack) sp (good_sound (word p.stack) (Word W32) (word_good p.stack least))) sp)
        (good_sound (stated q).zone_from (Word W32) (from_good q.stack small)) (good_sound (stated q).zone_to (Word W32) (at_entry_good 2))

    result_sound : (found : Option Scalar) → ResultExtent found → IsSound (result_or (result_term found) (left (machine_register 10))) (Word W32)
    result_sound None is = left_sound (machine_register 10) (not_source (machine_register 10) (λ h. cc))
    result_sound (Some type) is =
        let good = widened_good type _ is (result_open type) refl in
        substituted_sound left _ (Word W32) good.sorted (λ v o. left_sound v (good.plain v o))

    -- of a register
    register_sound : (r : ℕ) → IsSound (left_register (callee_of p) o.binary (machine_register r)) (Word W32)
    register_sound r =
        let plain = not_source (machine_register r) (λ h. cc) in
        choice_sound (is_kept_register r) (Word W32) (o.binary (machine_register r)) _ (λ h. sound_binary (machine_register r) plain)
        (λ h. choice_sound (r == 10) (Word W32) (result_or (callee_of p).result (left (machine_register r))) (left (machine_register r)) (λ ten. ten_sound ten) (λ other. left_sound (machine_register r) plain))
      where
        ten_sound : (r == 10) ≡ true → IsSound (result_or (callee_of p).result (left (machine_register r))) (Word W32)
        ten_sound ten = subst (λ (k : ℕ). IsSound (result_or (callee_of p).result (left (machine_register k))) (Word W32)) (sym (eqb-true r 10 ten)) (result_sound p.body.signature.result result)

    -- of variables that lines may speak of
    binary_sound : (v : Variable) → IsPlain v → calls.IsPlain v → IsSound (binary_returns (stated q) (callee_of p) o v) v.sort
    binary_sound v plain line =
        choice_sound (same_variable v binary_memory) v.sort (left_memory (stated q) (callee_of p) o.binary) _
        (λ same. subst (λ (w : Variable). IsSound (left_memory (stated q) (callee_of p) o.binary) w.sort) (sym (variable-same v binary_memory same)) memory_sound)
        (λ apart. choice_sound (is_register v.family) v.sort (left_register (callee_of p) o.binary v) (o.binary v)
        (λ own. subst (λ (w : Variable). IsSound (left_register (callee_of p) o.binary w) w.sort) (sym (line.register own)) (register_sound v.index))
        (λ other. sound_binary v plain))

    source_sound : (v : Variable) → IsPlain v → IsSound (source_returns pair o v) v.sort
    source_sound v plain =
        assigned_sound pair.source_outputs (λ w. if is_memory w.sort then left w else o.source w) v outputs
        (choice_sound (is_memory v.sort) v.sort (left v) (o.source v) (λ h. left_sound v plain) (λ h. good_sound (o.source v) v.sort (cut_source_good q small v plain)))

    other_sound : (v : Variable) → IsPlain v → IsSound (if same_variable v zone_memory then binary_returns (stated q) (callee_of p) o binary_memory else open_term v) v.sort
    other_sound v plain =
        choice_sound (same_variable v zone_memory) v.sort (binary_returns (stated q) (callee_of p) o binary_memory) (open_term v)
        (λ same. subst (λ (w : Variable). IsSound (binary_returns (stated q) (callee_of p) o binary_memory) w.sort) (sym (variable-same v zone_memory same)) memory_sound)
        (λ apart. good_sound (open_term v) v.sort (open_good v plain))

    point_sound : (v : Variable) → IsPlain v → calls.IsPlain v → IsSound (terms_at (binary_returns (stated q) (callee_of p) o) (source_returns pair o) v) v.sort
    point_sound v plain line =
        choice_sound (is_binary v.family) v.sort (binary_returns (stated q) (callee_of p) o v) _ (λ h. binary_sound v plain line)
        (λ h. choice_sound (is_source v.family) v.sort (source_returns pair o v) _ (λ k. source_sound v plain) (λ k. other_sound v plain))

    abbrev point : State
    point = terms_at (binary_returns (stated q) (callee_of p) o) (source_returns pair o)

    lines_sound : (lines : List Term) → AreTests lines → All IsPlainLine lines → AreSoundTests (map (substituted point) lines)
    lines_sound [] all plain = All-nil IsSoundTest
    lines_sound (line ∷ lines) all plain =
        let test = All-head IsTest line lines all in
        All-cons IsSoundTest (substituted point line) (map (substituted point) lines)
        (substituted_sound point line Truth test.sorted (λ v o. point_sound v (test.plain v o) (All-head IsPlainLine line lines plain v o)))
        (lines_sound lines (All-tail IsTest line lines all) (All-tail IsPlainLine line lines plain))

    pub return_test : (f : Frame) (before later : List Term) → AreTests f.entry → AreTests before → AreTests later → All IsPlainLine later
        → IsSoundTest (return_term (stated q) f pair (callee_of p) before later)
    return_test f before later entry lines after plain =
        let all = with_memory (stated q) later in
        under_sound (call_premises (stated q) f before) (returns_well (stated q) pair (callee_of p) o later) (premises_tests f before entry lines)
        (all_sound (map (substituted point) all)
        (lines_sound all (memory_line later after)
        (All-append IsPlainLine later (same_byte (stated q) ∷ []) plain (All-cons IsPlainLine (same_byte (stated q)) [] (plain_memory q no_zone) (All-nil IsPlainLine)))))
