-- What is proved of the listed functions of two files is valid.
use Rattle.std.proofs.Common.{◌≡◌, ◌∙◌, ◌<◌, ◌^◌, ℕ, zero, suc, List, [], ◌∷◌, length, map, get_or, Option, Some, None, refl, sym, ap, subst, arith}
use Rattle.std.specs.Prelude.{All, Contains, IsSome}
use Rattle.std.proofs.lemmas.List.{get_or_default}
use Rattle.std.proofs.lemmas.List.Elements.{All-nil, All-cons, All-map, All-contains}
use Rattle.elf_read_spec.specs.Image.{Image, function_named, size_at}
use Rattle.elf_read_spec.specs.declared.SymbolValues.TheVariants.{One}
use Rattle.code_reach_spec.specs.Code as code
use Rattle.code_reach_spec.specs.Code.{IsStack}
use Rattle.code_reach_spec.specs.Faults.{ReachesNoFault}
use Rattle.decompile_laws.specs.Together.{AreCodeGraphs}
use Rattle.c_types_spec.specs.Core.{Typed}
use Rattle.c_run_spec.specs.Calls.{body_named}
use Rattle.pair_setup_spec.specs.SourceReach as source
use Rattle.pair_setup_spec.specs.SourceReach.{body_of}
use Rattle.pair_setup_spec.specs.Outcome as outcome
use Rattle.pair_setup_spec.specs.Outcome.{HasNoFault}
use Rattle.validity_spec.specs.Claim.{IsValid}
use Rattle.agreement_laws.specs.EntryFrame.{Pair}
use Rattle.validity_laws.specs.Derivation as proofs
use Rattle.validity_laws.specs.Derivation.{Function, IsFunction}
use Rattle.memory_spec.specs.Runs.{Run}
use Rattle.term_core_spec.specs.Term.{Term}
use Rattle.clause_check_spec.specs.Log as clauses
use Rattle.cert_text_spec.specs.Lines.{Line}
use Rattle.cert_check_spec.specs.Verdict.{Listed}
use Rattle.cert_check_lines_spec.specs.Known.{IsProof}
use Rattle.validity_laws.specs.Closed.{IsClosedGoal, IsClosed, leaf}
use Rattle.validity_laws.specs.CheckStatements.{AreLines, listed_of, IsFile, AreFunctions, AreAtNames}
use Rattle.validity_laws.proofs.CheckFunctions.{closed_is_valid}
use Rattle.validity_laws.proofs.Proved.{proofs_give_validity}
use Rattle.validity_laws.specs.Laws.{IsSorted}
use Rattle.validity_laws.proofs.Truths.{have_truths}
use Rattle.cert_run_spec.specs.Files.{firsts_of, sides_of}
use Rattle.prove_run_spec.specs.Proofs.{AreClosedBy}
use Rattle.cert_run_spec.specs.Verdict.{proof}
use Rattle.cert_run_spec.specs.Laws.{AreOfFiles, ListedAreSorted, ProofsAreValid, LoggedLeavesAreValid}
use Rattle.cert_run_spec.proofs.Apart.{mapped_from, HasPair, has_pair, its_name, same_by_name}
use Rattle.cert_run_spec.proofs.Sides.{code_of, graph_there}
use Rattle.cert_run_spec.proofs.Words.{pointer_small, is_place}

some_if : {X : Type 0} (o : Option X) → (o ≡ None → ⊥) → IsSome o
some_if None never = absurd (never refl)
some_if (Some x) never = refl

is_some_by : {X : Type 0} (o : Option X) (x : X) → o ≡ Some x → IsSome o
is_some_by o x is = subst IsSome (sym is) refl

module _ (image : Image) (unit : Typed) (list : List (List ℕ)) (pairs : outcome.Pairs) (listed : List Listed) (of : AreOfFiles image unit list pairs listed) where
  abbrev q : Pair
  q = sides_of image unit of.are.runs pairs.entries of.are.sides

  abbrev firsts : List (List (ℕ × ℕ))
  firsts = firsts_of of.are.sides

  abbrev functions : List Function
  functions = of.are.functions

  pair : (g : Function) → Contains functions g → HasPair image unit pairs.functions g
  pair = has_pair image unit pairs.functions functions of.are.functions_are of.paired.functions_are

  -- ---- both sides

  sides : proofs.AreSides q
  sides = record {
    of_code = code_of image pairs.entries of.are.sides of.are.sides_are of.are.runs of.are.runs_are;
    typed = of.typed;
    sizes = of.sizes;
    placed = is_place image of.words of.are.runs of.are.runs_are;
  }

  file : IsFile q
  file = record { bytes = of.words.bytes; pointer = pointer_small image of.words }

  -- ---- a function

  name_there : (fs : List outcome.Function) (f : outcome.Function) → Contains fs f → Contains (map (λ (h : outcome.Function). h.name) fs) f.name
  name_there [] f (k, below, is) = absurd (omega (arith, below))
  name_there (h ∷ fs) f (zero, below, is) = (0, omega arith, ap (λ (x : outcome.Function). x.name) is)
  name_there (h ∷ fs) f (suc k, below, is) =
      let (n, within, there) = name_there fs f (k, omega (arith, below), is) in
      (suc n, omega (arith, within), there)

  module _ (g : Function) (p : HasPair image unit pairs.functions g) where
    in_list : Contains list p.listed.name
    in_list = subst (λ (names : List (List ℕ)). Contains names p.listed.name) of.paired.listed (name_there pairs.functions p.listed p.among)

    faultless : HasNoFault image unit p.listed.name
    faultless = All-contains (HasNoFault image unit) list p.listed.name of.paired.no_fault in_list

    entry_named : function_named image p.listed.name ≡ One g.entry
    entry_named = p.is.entry_is ∙ ap One (sym p.of.entry_is)

    no_fault : ReachesNoFault image g.entry
    no_fault =
        let (entry, sound) = faultless.code in
        let left = sound.named in
        let right = entry_named in
        let same : entry ≡ g.entry = cc in
        subst (ReachesNoFault image) same sound.sound

    reached_there : (function : ℕ) → code.Reaches image g.entry function → Contains pairs.entries function
    reached_there function reached =
        (of.paired.entries_are function).1
        (record { listed = p.listed.name; is_listed = in_list; from = g.entry; from_is = entry_named; reached = reached })

    graphs : AreCodeGraphs image g.entry q.numbering q.graphs
    graphs = record {
      each = λ function size reached sized.
          graph_there image pairs.entries of.are.sides of.are.sides_are of.are.runs of.are.runs_are function size (reached_there function reached) sized;
    }

    body_there : body_named unit.bodies g.body.name ≡ Some g.body
    body_there = ap (body_of unit) (its_name image unit pairs.functions g p) ∙ p.of.body_is

    bodies : (other : List ℕ) → source.Reaches unit g.body.name other → IsSome (body_named unit.bodies other)
    bodies other reached =
        some_if (body_of unit other)
        (λ absent.
        faultless.names.bodies other
        (record { reached = subst (λ (name : List ℕ). source.Reaches unit name other) (its_name image unit pairs.functions g p) reached; absent = absent }))

    is_function : IsFunction q g
    is_function = record {
      is_there = is_some_by (size_at image g.entry) p.listed.size (ap (size_at image) p.of.entry_is ∙ p.is.size_is);
      no_fault = no_fault;
      graphs = graphs;
      body_is = body_there;
      bodies = bodies;
    }

    small : g.stack < 2 ^ 32
    small = omega (arith, p.of.stack_is, p.is.within)

    named : function_named image g.body.name ≡ One g.entry
    named = ap (function_named image) (its_name image unit pairs.functions g p) ∙ entry_named

    stack_there : IsStack image g.entry g.stack
    stack_there = subst (λ (e : ℕ). IsStack image e g.stack) (sym p.of.entry_is) (subst (IsStack image p.listed.entry) (sym p.of.stack_is) p.is.stack_is)

  -- ---- the laws

  are_functions : AreFunctions q functions
  are_functions = record {
    each = λ k d below. (let g = get_or functions k d in is_function g (pair g (there k d below)));
    small = λ k d below. (let g = get_or functions k d in small g (pair g (there k d below)));
    apart = λ g h x y same. same_by_name image unit pairs.functions g h (pair g x) (pair h y) same;
  }
    where
      there : (k : ℕ) (d : Function) → k < length functions → Contains functions (get_or functions k d)
      there k d below = (k, below, get_or_default functions k (get_or functions k d) d below)

  all_named : AreAtNames q functions
  all_named k d below = (let g = get_or functions k d in named g (pair g (k, below, get_or_default functions k g d below)))

  all_sorted : All IsSorted listed
  all_sorted = subst (All IsSorted) (sym of.are.listed_are) (have_truths q firsts functions sides file are_functions)

  abbrev IsValidHere : Listed → Type 0
  IsValidHere f = IsValid image unit f.name f.stack

  all_valid : (lines : List Line) → AreLines lines → IsProof listed lines → All IsValidHere listed
  all_valid lines spelled proves =
      subst (All IsValidHere) (sym of.are.listed_are)
      (All-map IsValidHere (listed_of q firsts) functions
      (λ k d below.
      (let g = get_or functions k d in
      let among : Contains functions g = (k, below, get_or_default functions k g d below) in
      proofs_give_validity q firsts functions lines sides file are_functions all_named spelled (subst (λ (l : List Listed). IsProof l lines) of.are.listed_are proves) g among
      (stack_there g (pair g among)))))

  closed_valid : (f : Listed) → Contains listed f → IsClosed f f.frame → IsValidHere f
  closed_valid f among has =
      let (g, inside, same) = mapped_from (listed_of q firsts) functions f (subst (λ (l : List Listed). Contains l f) of.are.listed_are among) in
      let p = pair g inside in
      let closed : IsClosed (listed_of q firsts g) (listed_of q firsts g).frame = subst (λ (h : Listed). IsClosed h h.frame) (sym same) has in
      subst IsValidHere same (closed_is_valid q firsts g sides file (is_function g p) (small g p) closed (named g p) (stack_there g p))

pub listed_are_sorted : ListedAreSorted
listed_are_sorted image unit list pairs listed of = all_sorted image unit list pairs listed of

pub proofs_are_valid : ProofsAreValid
proofs_are_valid image unit list pairs listed bytes of (proof lines certificate proves) = all_valid image unit list pairs listed of lines certificate.derives proves

all_closed : (runs : List Run) (terms : List Term) (logs : List (List clauses.Step)) → AreClosedBy runs terms logs → All (IsClosedGoal runs) terms
unfolding AreClosedBy
all_closed runs [] [] closed = All-nil (IsClosedGoal runs)
all_closed runs [] (log ∷ logs) closed = absurd closed
all_closed runs (t ∷ terms) [] closed = absurd closed
all_closed runs (t ∷ terms) (log ∷ logs) closed = All-cons (IsClosedGoal runs) t terms (log, closed.0) (all_closed runs terms logs closed.1)

pub logged_leaves_are_valid : LoggedLeavesAreValid
logged_leaves_are_valid image unit list pairs listed f logs of among has =
    closed_valid image unit list pairs listed of f among (leaf f.frame has.terms has.are (all_closed f.runs has.terms logs has.closed))
