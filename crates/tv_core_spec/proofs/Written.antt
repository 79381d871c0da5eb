-- Where a search proves all functions of a list, the certificate that is written of them is a proof.
use Rattle.std.proofs.Common.{◌≡◌, ◌≢◌, ◌∙◌, ◌<◌, ◌≤◌, ◌+◌, ◌-◌, ◌^◌, ℕ, suc, true, List, [], ◌∷◌, ◌++◌, length, map, get_or, All, Option, Some, None, refl, sym, ap, subst, arith, append_assoc, length-append, bytes_eq}
use Rattle.std.specs.Prelude.{Contains, IsTrue, flat_map}
use Rattle.std.specs.List.{IsDistinct}
use Rattle.std.proofs.lemmas.List.{get_or_default}
use Rattle.std.proofs.lemmas.List.Elements.{All-nil, All-cons, All-head, All-tail, All-map, All-weaker}
use Rattle.memory_spec.specs.Runs.{Run}
use Rattle.elf_read_spec.specs.Image.{Image}
use Rattle.c_types_spec.specs.Core.{Typed}
use Rattle.c_types_laws.proofs.NameNames.{has_name, are_apart}
use Rattle.validity_spec.specs.Source.{IsC}
use Rattle.pair_setup_spec.specs.SourceReach.{body_of}
use Rattle.pair_setup_spec.specs.Outcome as outcome
use Rattle.pair_setup_spec.specs.Outcome.{IsPaired}
use Rattle.term_core_spec.specs.Term.{Term}
use Rattle.clause_check_spec.specs.Log.{Step}
use Rattle.cert_text_spec.specs.Lines.{Line, Header, Function, Leaf, End, IsStep, is_name, line_text}
use Rattle.agreement_laws.specs.EntryFrame.{Pair}
use Rattle.validity_laws.specs.Derivation as proofs
use Rattle.cert_check_spec.specs.declared.RuleWord.TheVariants.{Missing}
use Rattle.cert_check_spec.specs.Verdict.{Listed, IsMissing}
use Rattle.validity_laws.specs.CheckStatements.{listed_of}
use Rattle.prove_run_spec.specs.Proofs.{HasLeanProof, AreClosedBy, AreLean}
use Rattle.prove_run_spec.specs.Trails.{Found, Proved, Unproved, AreFound}
use Rattle.prove_run_spec.specs.Written as trail
use Rattle.prove_run_spec.specs.Written.{logs_lines, parts_lines}
use Rattle.tv_limits.specs.declared.Quantity.TheVariants.{Elf, C, Certificate}
use Rattle.report_text_spec.specs.Verdict.{Verdict, Judgement, NotProof, Checked, Judged, all_valid, maximum_of}
use Rattle.cert_run_spec.specs.Files.{AreListed, AreFunctionsOf, sides_of, firsts_of}
use Rattle.cert_run_spec.specs.Verdict.{Outcome, IsOutcome, Unread, Broken, Above, Proof, Part, valid_judgement, log_lines, proof_lines, proofs_lines, written_lines, end_offset}
use Rattle.cert_run_spec.specs.Laws.{CanWrite}
use Rattle.cert_run_spec.proofs.Apart.{found_name, has_pair}
use Rattle.cert_run_spec.proofs.Logged.{Distinct, function_of, distinct, middle, proofs_are, logged_is_proof, logged_misses}
use Rattle.cert_run_spec.specs.Written.{text_by, HasSmallHints}
use Rattle.tv_core_spec.specs.Decisions.{Decision, plain, first_unproved, judgements_of}
use Rattle.tv_core_spec.specs.Listing.{Task, Judge, Verify, has_symbol, listed as all_listed, names_of}
use Rattle.tv_core_spec.specs.Verdicts.{Framed, Judges, elf_refused, c_refused, too_many, pair_refused, code_refused, too_large, judged, over, certificate_large, checked, showed, verdict_of_outcome, IsVerdict, elf_large, c_large, within}
use Rattle.tv_core_spec.specs.Laws.{GivesNoneTwice, ProvedIsChecked, UnprovedIsMissing}
use Rattle.tv_core_spec.proofs.Steps.{HasNumbers, closing_written}

-- ---- the list of a task

-- the list of a task is that of its functions
same_names : (functions : Option (List (List ℕ))) (certificate : List ℕ) (image : Image) (unit : Typed)
    → names_of (Judge functions) image unit ≡ names_of (Verify functions certificate) image unit
same_names (Some names) certificate image unit = refl
same_names None certificate image unit = refl

with_certificate : (elf c : List ℕ) (functions : Option (List (List ℕ))) (certificate : List ℕ) (image : Image) (unit : Typed) (names : List (List ℕ)) (listed : List Listed)
    → Framed elf c (Judge functions) image unit names listed → Framed elf c (Verify functions certificate) image unit names listed
with_certificate elf c functions certificate image unit names listed x = record {
  pairs = record {
    few = record {
      lists = record {
        is_elf = x.pairs.few.lists.is_elf;
        is_c = x.pairs.few.lists.is_c;
        listed = x.pairs.few.lists.listed ∙ same_names functions certificate image unit;
      };
      within = x.pairs.few.within;
    };
    pairs = x.pairs.pairs;
    paired = x.pairs.paired;
  };
  listed_are = x.listed_are;
}

-- ---- the listed functions

names_are : (q : Pair) (firsts : List (List (ℕ × ℕ))) (unit : Typed) (fs : List outcome.Function) (gs : List proofs.Function) → AreFunctionsOf unit fs gs
    → map (λ (f : Listed). f.name) (map (listed_of q firsts) gs) ≡ map (λ (f : outcome.Function). f.name) fs
unfolding AreFunctionsOf
names_are q firsts unit [] [] are = refl
names_are q firsts unit [] (g ∷ gs) are = absurd are
names_are q firsts unit (f ∷ fs) [] are = absurd are
names_are q firsts unit (f ∷ fs) (g ∷ gs) are =
    let head : g.body.name ≡ f.name = found_name unit.bodies f.name g.body are.0.body_is in
    let tail = names_are q firsts unit fs gs are.1 in
    λ i. head i ∷ tail i

abbrev IsSmall : Listed → Type 0
IsSmall f = f.stack < 2 ^ 32

abbrev IsNamed : Listed → Type 0
IsNamed f = is_name f.name ≡ true

module _ (image : Image) (unit : Typed) (list : List (List ℕ)) (pairs : outcome.Pairs) (listed : List Listed) (paired : IsPaired image unit list pairs)
    (are : AreListed image unit pairs listed) where
  abbrev q : Pair
  q = sides_of image unit are.runs pairs.entries are.sides

  listed_names : map (λ (f : Listed). f.name) listed ≡ list
  listed_names = ap (map (λ (f : Listed). f.name)) are.listed_are ∙ (names_are q (firsts_of are.sides) unit pairs.functions are.functions are.functions_are ∙ paired.listed)

  stacks_small : All IsSmall listed
  stacks_small =
      subst (All IsSmall) (sym are.listed_are)
      (All-map IsSmall (listed_of q (firsts_of are.sides)) are.functions
      (λ k d below.
      (let g = get_or are.functions k d in
      let p = has_pair image unit pairs.functions are.functions are.functions_are paired.functions_are g (k, below, get_or_default are.functions k g d below) in
      omega (arith, p.of.stack_is, p.is.within))))

  names_written : (c : List ℕ) → IsC c unit → All IsNamed listed
  names_written c is =
      subst (All IsNamed) (sym are.listed_are)
      (All-map IsNamed (listed_of q (firsts_of are.sides)) are.functions
      (λ k d below.
      (let g = get_or are.functions k d in
      let p = has_pair image unit pairs.functions are.functions are.functions_are paired.functions_are g (k, below, get_or_default are.functions k g d below) in
      let there : body_of unit p.listed.name ≢ None = λ absent. (let found = p.of.body_is in absurd (cc)) in
      subst (λ (name : List ℕ). is_name name ≡ true) (sym (found_name unit.bodies p.listed.name g.body p.of.body_is))
      (has_name c is.tree unit p.listed.name is.derives is.has_types there))))

-- no two names of a list are alike
none_twice : (functions : Option (List (List ℕ))) (image : Image) (c : List ℕ) (unit : Typed) → IsC c unit → GivesNoneTwice functions
    → IsDistinct bytes_eq (names_of (Judge functions) image unit)
unfolding all_listed
none_twice (Some names) image c unit is once = once
none_twice None image c unit is once = (are_apart is.tree unit (has_symbol image) is.has_types).1

-- ---- the parts of what was found

abbrev IsLean : Part → Type 0
IsLean p = HasLeanProof p.function p.logs

abbrev AreSmallHints : Part → Type 0
AreSmallHints p = HasSmallHints (Proved p.logs)

-- the functions of which a proof was found
proved_of : List Listed → List Found → List Listed
proved_of [] found = []
proved_of (f ∷ listed) [] = []
proved_of (f ∷ listed) (Proved logs ∷ found) = f ∷ proved_of listed found
proved_of (f ∷ listed) (Unproved reason ∷ found) = proved_of listed found

record Parts (listed : List Listed) (found : List Found) : Type 0 where
  parts : List Part
  functions : map function_of parts ≡ proved_of listed found
  lines : proofs_lines parts ≡ parts_lines listed found ++ End ∷ []
  lean : All IsLean parts
  hints : All AreSmallHints parts

logs_are : (logs : List (List Step)) → flat_map log_lines logs ≡ logs_lines logs
unfolding logs_lines
logs_are [] = refl
logs_are (log ∷ logs) = ap (λ (l : List Line). log_lines log ++ l) (logs_are logs)

later : (f : Listed) (one : Found) (listed : List Listed) (found : List Found) → AreFound (f ∷ listed) (one ∷ found) → AreFound listed found
later f one listed found are = record { count = omega (arith, are.count); each = λ k g other x y. are.each (suc k) g other x y }

part_lines_are : (p : Part) (more : List Part) (lines : List Line) → proofs_lines more ≡ lines ++ End ∷ []
    → proof_lines p ++ proofs_lines more ≡ (trail.part_lines p.function.name p.function.stack p.logs ++ lines) ++ End ∷ []
part_lines_are p more lines same =
    let head = Function p.function.name p.function.stack ∷ Leaf (length p.logs) ∷ [] in
    ap (λ (l : List Line). (head ++ l) ++ proofs_lines more) (logs_are p.logs)
    ∙ (ap (λ (l : List Line). (head ++ logs_lines p.logs) ++ l) same ∙ sym (append_assoc (head ++ logs_lines p.logs) lines (End ∷ [])))

parts_of : (listed : List Listed) (found : List Found) → AreFound listed found → All HasSmallHints found → Parts listed found
unfolding parts_lines proofs_lines proved_of
parts_of [] [] are small = record { parts = []; functions = refl; lines = refl; lean = All-nil IsLean; hints = All-nil AreSmallHints }
parts_of [] (one ∷ found) are small = absurd (omega (arith, are.count))
parts_of (f ∷ listed) [] are small = absurd (omega (arith, are.count))
parts_of (f ∷ listed) (Unproved reason ∷ found) are small =
    let rest = parts_of listed found (later f (Unproved reason) listed found are) (All-tail HasSmallHints (Unproved reason) found small) in
    record { parts = rest.parts; functions = rest.functions; lines = rest.lines; lean = rest.lean; hints = rest.hints }
parts_of (f ∷ listed) (Proved logs ∷ found) are small =
    let rest = parts_of listed found (later f (Proved logs) listed found are) (All-tail HasSmallHints (Proved logs) found small) in
    let p : Part = record { function = f; logs = logs } in
    record {
      parts = p ∷ rest.parts;
      functions = ap (λ (l : List Listed). f ∷ l) rest.functions;
      lines = part_lines_are p rest.parts (parts_lines listed found) rest.lines;
      lean = All-cons IsLean p rest.parts (are.each 0 f (Proved logs) refl refl) rest.lean;
      hints = All-cons AreSmallHints p rest.parts (All-head HasSmallHints (Proved logs) found small) rest.hints;
    }

-- ---- the functions of which one was found

-- all, where all are judged valid
all_proved : (listed : List Listed) (found : List Found) → length found ≡ length listed → IsTrue (all_valid (judgements_of listed found))
    → (proved_of listed found ≡ listed) × (map valid_judgement listed ≡ judgements_of listed found)
unfolding judgements_of proved_of
all_proved [] found count valid = (refl, refl)
all_proved (f ∷ listed) [] count valid = absurd (omega (arith, count))
all_proved (f ∷ listed) (Unproved reason ∷ found) count valid = absurd (cc)
all_proved (f ∷ listed) (Proved logs ∷ found) count valid =
    let rest = all_proved listed found (omega (arith, count)) valid in
    (ap (λ (l : List Listed). f ∷ l) rest.0, ap (λ (l : List Judgement). valid_judgement f ∷ l) rest.1)

-- what holds of all holds of them
of_proved : (P : Listed → Type 0) (listed : List Listed) (found : List Found) → All P listed → All P (proved_of listed found)
unfolding proved_of
of_proved P [] found all = All-nil P
of_proved P (f ∷ listed) [] all = All-nil P
of_proved P (f ∷ listed) (Proved logs ∷ found) all =
    All-cons P f (proved_of listed found) (All-head P f listed all) (of_proved P listed found (All-tail P f listed all))
of_proved P (f ∷ listed) (Unproved reason ∷ found) all = of_proved P listed found (All-tail P f listed all)

among_all : (listed : List Listed) → All (Contains listed) listed
among_all listed = λ k d below. (k, below, get_or_default listed k (get_or listed k d) d below)

proved_distinct : (listed : List Listed) (found : List Found) → Distinct listed → Distinct (proved_of listed found)
unfolding proved_of Distinct
proved_distinct [] found apart = tt
proved_distinct (f ∷ listed) [] apart = tt
proved_distinct (f ∷ listed) (Proved logs ∷ found) apart =
    (of_proved (λ (g : Listed). f.name ≢ g.name) listed found apart.0, proved_distinct listed found apart.1)
proved_distinct (f ∷ listed) (Unproved reason ∷ found) apart = proved_distinct listed found apart.1

record MissesFirst (listed parts : List Listed) (name : List ℕ) : Type 0 where
  function : Listed
  named : function.name ≡ name
  missing : IsMissing listed parts function

-- the first that isn't judged valid is missing
first_missing : (listed : List Listed) (found : List Found) (name : List ℕ) → length found ≡ length listed → Distinct listed
    → first_unproved (judgements_of listed found) ≡ Some name → MissesFirst listed (proved_of listed found) name
unfolding judgements_of proved_of first_unproved Distinct
first_missing [] found name count apart e = cc
first_missing (f ∷ listed) [] name count apart e = absurd (omega (arith, count))
first_missing (f ∷ listed) (Unproved reason ∷ found) name count apart e = record {
  function = f;
  named = let same : Some f.name ≡ Some name = e in cc;
  missing = record {
    before = [];
    after = listed;
    cut = refl;
    none =
        of_proved (λ (other : Listed). other.name ≢ f.name) listed found
        (All-weaker (λ (g : Listed). f.name ≢ g.name) (λ (g : Listed). g.name ≢ f.name) (λ g other same. other (sym same)) listed apart.0);
    others = All-nil (λ (earlier : Listed). All (λ (other : Listed). other.name ≢ earlier.name) (proved_of listed found) → ⊥);
  };
}
first_missing (f ∷ listed) (Proved logs ∷ found) name count apart e =
    let rest = first_missing listed found name (omega (arith, count)) apart.1 e in
    let g = rest.function in
    let parts = proved_of listed found in
    let there : Contains listed g = subst (λ (l : List Listed). Contains l g) (sym rest.missing.cut) (middle rest.missing.before rest.missing.after g) in
    let other : f.name ≢ g.name = λ same. apart.0 there.0 g there.1 (same ∙ ap (λ (h : Listed). h.name) (sym there.2)) in
    record {
      function = g;
      named = rest.named;
      missing = record {
        before = f ∷ rest.missing.before;
        after = rest.missing.after;
        cut = ap (λ (l : List Listed). f ∷ l) rest.missing.cut;
        none = All-cons (λ (o : Listed). o.name ≢ g.name) f parts other rest.missing.none;
        others =
            All-cons (λ (earlier : Listed). All (λ (o : Listed). o.name ≢ earlier.name) (f ∷ parts) → ⊥) f rest.missing.before
            (λ all. All-head (λ (o : Listed). o.name ≢ f.name) f parts all refl)
            (All-weaker (λ (earlier : Listed). All (λ (o : Listed). o.name ≢ earlier.name) parts → ⊥)
            (λ (earlier : Listed). All (λ (o : Listed). o.name ≢ earlier.name) (f ∷ parts) → ⊥)
            (λ earlier has all. has (All-tail (λ (o : Listed). o.name ≢ earlier.name) f parts all)) rest.missing.before rest.missing.others);
      };
    }

-- ---- their numbers

flat_append : (lines more : List Line) → flat_map line_text (lines ++ more) ≡ flat_map line_text lines ++ flat_map line_text more
flat_append [] more = refl
flat_append (l ∷ lines) more = ap (λ (t : List ℕ). line_text l ++ t) (flat_append lines more) ∙ sym (append_assoc (line_text l) (flat_map line_text lines) (flat_map line_text more))

abbrev size_of : List Line → ℕ
size_of lines = length (flat_map line_text lines)

size_append : (lines more : List Line) → size_of (lines ++ more) ≡ size_of lines + size_of more
size_append lines more = ap (λ (t : List ℕ). length t) (flat_append lines more) ∙ length-append (flat_map line_text lines) (flat_map line_text more)

-- each log has a line
logs_size : (logs : List (List Step)) → length logs ≤ size_of (flat_map log_lines logs)
logs_size [] = omega arith
logs_size (log ∷ logs) = omega (arith, logs_size logs, size_append (log_lines log) (flat_map log_lines logs))

abbrev HasFew : ℕ → Part → Type 0
HasFew n p = length p.logs ≤ n

more_few : (n m : ℕ) (parts : List Part) → n ≤ m → All (HasFew n) parts → All (HasFew m) parts
more_few n m parts below few = λ k d inside. omega (arith, few k d inside)

parts_size : (parts : List Part) → All (HasFew (size_of (proofs_lines parts))) parts
unfolding proofs_lines
parts_size [] = All-nil (HasFew (size_of (proofs_lines [])))
parts_size (p ∷ parts) =
    let whole = size_of (proof_lines p ++ proofs_lines parts) in
    let head = Function p.function.name p.function.stack ∷ Leaf (length p.logs) ∷ [] in
    let both : whole ≡ size_of (proof_lines p) + size_of (proofs_lines parts) = size_append (proof_lines p) (proofs_lines parts) in
    let first : size_of (proof_lines p) ≡ size_of head + size_of (flat_map log_lines p.logs) = size_append head (flat_map log_lines p.logs) in
    All-cons (HasFew whole) p parts (omega (arith, logs_size p.logs, both, first))
    (more_few (size_of (proofs_lines parts)) whole parts (omega (arith, both)) (parts_size parts))

record CanWriteLogs (logs : List (List Step)) : Type 0 where
  sizes : All (λ (log : List Step). length log < 2 ^ 32) logs
  each : All (λ (log : List Step). All IsStep log) logs

logs_written : (runs : List Run) (terms : List Term) (logs : List (List Step)) → AreClosedBy runs terms logs → AreLean runs terms logs → HasSmallHints (Proved logs)
    → CanWriteLogs logs
unfolding AreClosedBy AreLean
logs_written runs [] [] closed lean small =
    record { sizes = All-nil (λ (log : List Step). length log < 2 ^ 32); each = All-nil (λ (log : List Step). All IsStep log) }
logs_written runs [] (log ∷ logs) closed lean small = absurd closed
logs_written runs (t ∷ terms) [] closed lean small = absurd closed
logs_written runs (t ∷ terms) (log ∷ logs) closed lean small =
    let rest = logs_written runs terms logs closed.1 lean.1 (All-tail (λ (l : List Step). All HasNumbers l) log logs small) in
    record {
      sizes = All-cons (λ (l : List Step). length l < 2 ^ 32) log logs (omega (arith, lean.0.count)) rest.sizes;
      each =
          All-cons (λ (l : List Step). All IsStep l) log logs
          (closing_written runs t log closed.0 (All-head (λ (l : List Step). All HasNumbers l) log logs small)) rest.each;
    }

-- what holds of the functions of parts
of_functions : (P : Listed → Type 0) (parts : List Part) → All P (map function_of parts) → All (λ (p : Part). P p.function) parts
of_functions P [] all = All-nil (λ (p : Part). P p.function)
of_functions P (p ∷ parts) all =
    All-cons (λ (p : Part). P p.function) p parts (All-head P p.function (map function_of parts) all)
    (of_functions P parts (All-tail P p.function (map function_of parts) all))

part_names : (parts : List Part) → map (λ (f : Listed). f.name) (map function_of parts) ≡ map (λ (p : Part). p.function.name) parts
part_names [] = refl
part_names (p ∷ parts) = ap (λ (names : List (List ℕ)). p.function.name ∷ names) (part_names parts)

-- ---- the certificate

module _ (listed : List Listed) (found : List Found) (x : Parts listed found) (short : length (text_by listed found) ≤ maximum_of Certificate) where
  text_is : flat_map line_text (written_lines x.parts) ≡ text_by listed found
  text_is = ap (λ (l : List Line). flat_map line_text (Header ∷ l)) x.lines

  few : All (HasFew (maximum_of Certificate)) x.parts
  few =
      let header : List Line = Header ∷ [] in
      let whole : size_of (written_lines x.parts) ≡ size_of header + size_of (proofs_lines x.parts) = size_append header (proofs_lines x.parts) in
      more_few (size_of (proofs_lines x.parts)) (maximum_of Certificate) x.parts
      (omega (arith, short, whole, ap (λ (t : List ℕ). length t) text_is)) (parts_size x.parts)

  can_write : All IsNamed listed → All IsSmall listed → All CanWrite x.parts
  can_write names stacks =
      let names_here = of_functions IsNamed x.parts (subst (All IsNamed) (sym x.functions) (of_proved IsNamed listed found names)) in
      let stacks_here = of_functions IsSmall x.parts (subst (All IsSmall) (sym x.functions) (of_proved IsSmall listed found stacks)) in
      λ k d below.
      (let p = get_or x.parts k d in
      let lean = x.lean k d below in
      let logs = logs_written p.function.runs lean.proof.terms p.logs lean.proof.closed lean.lean (x.hints k d below) in
      record {
        named = names_here k d below;
        small = stacks_here k d below;
        counted = omega (arith, few k d below);
        sizes = logs.sizes;
        each = logs.each;
      })

  -- of all functions it is a proof
  proves : proved_of listed found ≡ listed → IsDistinct bytes_eq (map (λ (f : Listed). f.name) listed) → All IsNamed listed → All IsSmall listed
      → IsOutcome listed (text_by listed found) Proof
  proves all apart names stacks =
      let functions : map function_of x.parts ≡ listed = x.functions ∙ all in
      let names_is : map (λ (f : Listed). f.name) listed ≡ map (λ (p : Part). p.function.name) x.parts =
      ap (map (λ (f : Listed). f.name)) (sym functions) ∙ part_names x.parts in
      subst (λ (l : List Listed). IsOutcome l (text_by listed found) Proof) functions
      (subst (λ (t : List ℕ). IsOutcome (map function_of x.parts) t Proof) text_is
      (logged_is_proof x.parts (subst (IsDistinct bytes_eq) names_is apart) (λ k d below. (x.lean k d below).proof) (can_write names stacks)))

  -- the offset of its last line
  offset_is : end_offset x.parts ≡ length (text_by listed found) - length (line_text End)
  offset_is =
      let lines = flat_map proof_lines x.parts in
      let whole : text_by listed found ≡ flat_map line_text (Header ∷ (lines ++ End ∷ [])) =
      sym text_is ∙ ap (λ (l : List Line). flat_map line_text (Header ∷ l)) (proofs_are x.parts) in
      let size : size_of ((Header ∷ lines) ++ End ∷ []) ≡ size_of (Header ∷ lines) + size_of (End ∷ []) = size_append (Header ∷ lines) (End ∷ []) in
      let last : size_of (End ∷ []) ≡ length (line_text End) + 0 = length-append (line_text End) [] in
      let all = ap (λ (t : List ℕ). length t) whole in
      omega (arith, all, size, last)

  -- else a function is missing
  misses : (name : List ℕ) → first_unproved (judgements_of listed found) ≡ Some name → length found ≡ length listed
      → IsDistinct bytes_eq (map (λ (f : Listed). f.name) listed) → All IsNamed listed → All IsSmall listed
      → IsOutcome listed (text_by listed found) (Broken name (length (text_by listed found) - length (line_text End)) Missing)
  misses name e count apart names stacks =
      let separate = distinct listed apart in
      let first = first_missing listed found name count separate e in
      let parts_apart = subst Distinct (sym x.functions) (proved_distinct listed found separate) in
      let among = of_functions (Contains listed) x.parts (subst (All (Contains listed)) (sym x.functions) (of_proved (Contains listed) listed found (among_all listed))) in
      let missing = subst (λ (l : List Listed). IsMissing listed l first.function) (sym x.functions) first.missing in
      subst (λ (n : List ℕ). IsOutcome listed (text_by listed found) (Broken n (length (text_by listed found) - length (line_text End)) Missing)) first.named
      (subst (λ (offset : ℕ). IsOutcome listed (text_by listed found) (Broken first.function.name offset Missing)) offset_is
      (subst (λ (t : List ℕ). IsOutcome listed t (Broken first.function.name (end_offset x.parts) Missing)) text_is
      (logged_misses listed x.parts first.function among parts_apart (λ k d below. (x.lean k d below).proof) (can_write names stacks) missing)))

-- what holds of the functions of a list, where no two names are alike
record AreListedOnce (listed : List Listed) : Type 0 where
  apart : IsDistinct bytes_eq (map (λ (f : Listed). f.name) listed)
  named : All IsNamed listed
  stacks : All IsSmall listed

listed_once : (elf c : List ℕ) (functions : Option (List (List ℕ))) (image : Image) (unit : Typed) (names : List (List ℕ)) (listed : List Listed)
    → Framed elf c (Judge functions) image unit names listed → GivesNoneTwice functions → AreListedOnce listed
listed_once elf c functions image unit names listed framed once =
    let pairs = framed.pairs.pairs in
    let paired = framed.pairs.paired in
    let lists = framed.pairs.few.lists in
    let apart = subst (IsDistinct bytes_eq) (sym lists.listed) (none_twice functions image c unit lists.is_c once) in
    record {
      apart = subst (IsDistinct bytes_eq) (sym (listed_names image unit names pairs listed paired framed.listed_are)) apart;
      named = names_written image unit names pairs listed paired framed.listed_are c lists.is_c;
      stacks = stacks_small image unit names pairs listed paired framed.listed_are;
    }

-- what `check` decides of a certificate of functions with these judgements
record Rechecks (elf c : List ℕ) (functions : Option (List (List ℕ))) (judgements : List Judgement) (certificate : List ℕ) : Type 0 where
  valid : IsTrue (all_valid judgements) → Judges elf c (Verify functions certificate) (plain (Checked judgements))
  missing : (name : List ℕ) → first_unproved judgements ≡ Some name
      → Judges elf c (Verify functions certificate) (plain (NotProof name (length certificate - length (line_text End)) Missing))

-- of what a search found, where its certificate is within the maximum
searched_is_checked : (elf c : List ℕ) (functions : Option (List (List ℕ))) (image : Image) (unit : Typed) (names : List (List ℕ)) (listed : List Listed) (found : List Found)
    → Framed elf c (Judge functions) image unit names listed → AreFound listed found → All HasSmallHints found → length (text_by listed found) ≤ maximum_of Certificate
    → GivesNoneTwice functions → Rechecks elf c functions (judgements_of listed found) (text_by listed found)
searched_is_checked elf c functions image unit names listed found framed are small short once =
    let x = parts_of listed found are small in
    let text = text_by listed found in
    let is = listed_once elf c functions image unit names listed framed once in
    let again = with_certificate elf c functions text image unit names listed framed in
    record {
      valid = λ valid.
          let all = all_proved listed found are.count valid in
          subst (λ (judgements : List Judgement). Judges elf c (Verify functions text) (plain (Checked judgements))) all.1
          (checked functions text image unit names listed Proof refl short again (proves listed found x short all.0 is.apart is.named is.stacks));
      missing = λ name e.
          checked functions text image unit names listed (Broken name (length text - length (line_text End)) Missing) refl short again
          (misses listed found x short name e are.count is.apart is.named is.stacks);
    }

-- ---- a decision

abbrev judgements_in : Verdict → Option (List Judgement)
judgements_in (Judged judgements) = Some judgements
judgements_in verdict = None

no_judgements : (listed : List Listed) (o : Outcome) → judgements_in (verdict_of_outcome listed o) ≡ None
no_judgements listed (Unread offset) = refl
no_judgements listed (Broken name offset rule) = refl
no_judgements listed (Above quantity) = refl
no_judgements listed Proof = refl

module _ (elf c : List ℕ) (functions : Option (List (List ℕ))) (once : GivesNoneTwice functions) where
  -- with these judgements, and a certificate, it is checked
  abbrev RechecksSome : Option (List Judgement) → Option (List ℕ) → Type 0
  RechecksSome (Some judgements) (Some certificate) = Rechecks elf c functions judgements certificate
  RechecksSome judgements certificate = Unit {0}

  -- where there are no judgements
  nothing : (judgements : Option (List Judgement)) (certificate : Option (List ℕ)) → judgements ≡ None → RechecksSome judgements certificate
  nothing judgements certificate e = subst (λ (js : Option (List Judgement)). RechecksSome js certificate) (sym e) tt

  rechecks : (task : Task) (decision : Decision) → task ≡ Judge functions → Judges elf c task decision → RechecksSome (judgements_in decision.verdict) decision.certificate
  rechecks task _ e (elf_refused reason offset x) = tt
  rechecks task _ e (c_refused image reason offset is h) = tt
  rechecks task _ e (too_many image unit names lists above) = tt
  rechecks task _ e (pair_refused image unit names reason name few fault) = tt
  rechecks task _ e (code_refused image unit names reason name address few fault) = tt
  rechecks task _ e (too_large image unit names few h) = tt
  rechecks task _ e (judged others image unit names listed found is framed are small short) =
      searched_is_checked elf c functions image unit names listed found (subst (λ (t : Task). Framed elf c t image unit names listed) e framed) are small short once
  rechecks task _ e (over others image unit names listed found is framed are small long) = tt
  rechecks task _ e (certificate_large others certificate image unit names is pairs long) = tt
  rechecks task _ e (checked others certificate image unit names listed o is short framed h) =
      nothing (judgements_in (verdict_of_outcome listed o)) None (no_judgements listed o)
  rechecks task _ e (showed image unit s is pairs h) = tt

  given_again : (judgements : List Judgement) (certificate : List ℕ) (decision : Decision) → decision.verdict ≡ Judged judgements
      → decision.certificate ≡ Some certificate → IsVerdict elf c (Judge functions) decision
      → (length elf ≤ maximum_of Elf) × (length c ≤ maximum_of C) × Rechecks elf c functions judgements certificate
  given_again judgements certificate _ e written (elf_large x) = absurd (cc)
  given_again judgements certificate _ e written (c_large small x) = absurd (cc)
  given_again judgements certificate _ e written (within decision small little x) = (
    small,
    little,
    subst (λ (text : Option (List ℕ)). RechecksSome (Some judgements) text) written
        (subst (λ (v : Verdict). RechecksSome (judgements_in v) decision.certificate) e (rechecks (Judge functions) decision refl x)),
  )

pub proved_is_checked : ProvedIsChecked
proved_is_checked elf c functions judgements certificate decision decided e written valid once =
    let again = given_again elf c functions once judgements certificate decision e written decided in
    within (plain (Checked judgements)) again.0 again.1 (again.2.valid valid)

pub unproved_is_missing : UnprovedIsMissing
unproved_is_missing elf c functions judgements certificate decision name decided e written first once =
    let again = given_again elf c functions once judgements certificate decision e written decided in
    within (plain (NotProof name (length certificate - length (line_text End)) Missing)) again.0 again.1 (again.2.missing name first)
