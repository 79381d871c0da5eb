-- A certificate whose lines are accepted shows each function of the list, and so each is valid.
use Rattle.std.proofs.Common.{◌≡◌, ◌∙◌, ℕ, zero, suc, ◌+◌, ◌^◌, ◌<◌, Bool, true, false, cond, List, [], ◌∷◌, ◌++◌, length, map, get_or, Option, Some, None, refl, sym, ap, subst, arith, bytes_eq}
use Rattle.std.specs.Prelude.{◌==◌, All, Contains, slice_get, nat_lt, if◌then◌else◌}
use Rattle.std.specs.Option.{option_map_or}
use Rattle.std.proofs.lemmas.Bool.{eqb-true}
use Rattle.std.proofs.lemmas.Option.{get_or_from_slice_get}
use Rattle.std.proofs.lemmas.List.{map-append}
use Rattle.std.proofs.lemmas.List.Elements.{All-nil, All-cons, All-append, All-contains}
use Rattle.elf_read_spec.specs.Image.{function_named}
use Rattle.elf_read_spec.specs.declared.SymbolValues.TheVariants.{One}
use Rattle.code_reach_spec.specs.Code.{IsStack}
use Rattle.graph_core_spec.specs.Graph.{IsValid as IsValidGraph}
use Rattle.c_graph_spec.specs.SourceGraph.{graphs_of}
use Rattle.c_graph_laws.proofs.ValidGraphs.{all_valid}
use Rattle.proof_tree_spec.specs.Frames.{Frame}
use Rattle.cert_text_spec.specs.Lines as line
use Rattle.cert_text_spec.specs.Lines.{Line, line_text}
use Rattle.sim_rules_spec.specs.Calls.{Callee}
use Rattle.c_types_spec.specs.Core.{Body}
use Rattle.c_run_spec.specs.Calls.{body_named}
use Rattle.c_graph_spec.specs.SourceGraph.{body_number, graphs_of}
use Rattle.validity_spec.specs.Claim.{IsValid}
use Rattle.agreement_laws.specs.EntryFrame.{Pair, place_of, entry_frame}
use Rattle.agreement_laws.specs.Callers.{Base, own_base, frame_in}
use Rattle.validity_laws.specs.Inlined.{IsInlined, as_it_is}
use Rattle.validity_laws.proofs.PlainLines.{own_words}
use Rattle.cert_check_spec.specs.Verdict.{Listed}
use Rattle.cert_check_lines_spec.specs.Jobs.{AtEntry}
use Rattle.cert_check_lines_spec.specs.Shown.{IsShown}
use Rattle.cert_check_lines_spec.specs.Parts.{Functions, Member, Unfolded, unfolded, part_of, LacksPart, State, Between, HasParts, first, next, last, AreAccepted, none, some, AreShown, no_part, one_more, Unfolds}
use Rattle.cert_check_lines_spec.specs.Members.{alike_in}
use Rattle.cert_check_lines_spec.proofs.Accepting.{accepted_is_shown, plain_is_shown}
use Rattle.validity_laws.specs.Derivation.{Function, pair_for, AreSides, IsFunction}
use Rattle.validity_laws.specs.CheckStatements.{graph_among, named_graphs, listed_of, IsFile, AreFunctions, AreAtNames}
use Rattle.validity_laws.specs.Shown as shown
use Rattle.validity_laws.specs.Shown.{called, part_for, AreNamed, HasShownPart, HaveShownParts}
use Rattle.validity_laws.specs.Accepted.{member_for, AcceptedIsValid, AreKnown, WholeIsValid}
use Rattle.validity_laws.proofs.Functions.{is_pair}
use Rattle.validity_laws.proofs.Unfolding.{part_is, part_inlined}
use Rattle.validity_laws.proofs.Parts.{IsNamed, NoneNamed, all_named}
use Rattle.validity_laws.proofs.Shown.{shown_parts_are_valid}

-- ---- the end

module _ (fs : Functions) (members : List Member) where
  -- the lines before the end, from a state on
  record Ends (at : ℕ) (s : State) (lines : List Line) : Type 0 where
    pub parts : List Member
    pub state : State
    pub accepted : AreAccepted fs members at s lines state
    pub has : HasParts state parts
    pub none_lacks : (f : Listed) → LacksPart members parts f → ⊥

  end_there : (at : ℕ) (s t : State) (lines : List Line) → AreAccepted fs members at s (lines ++ line.End ∷ []) t → Ends at s lines
  end_there at s t [] (some _ _ _ _ _ _ (last _ parts has none_lacks) rest) =
      record { parts = parts; state = s; accepted = none at s; has = has; none_lacks = none_lacks }
  end_there at s t [] (some _ _ _ _ _ _ (first parts f u _ jobs passes) rest) = elim passes [ ]
  end_there at s t [] (some _ _ _ _ _ _ (next parts f u jobs more _ passes) rest) = elim passes [ ]
  end_there at s t (one ∷ lines) (some _ _ middle _ _ _ accepts rest) =
      let later = end_there (at + length (line_text one)) middle t lines rest in
      record {
        parts = later.parts;
        state = later.state;
        accepted = some at s middle later.state one lines accepts later.accepted;
        has = later.has;
        none_lacks = later.none_lacks;
      }

-- ---- functions that are shown

module _ (q : Pair) (firsts : List (List (ℕ × ℕ))) (fs : Functions) (functions : List Function) (named : AreNamed q functions (alike_in (named_graphs q))) where
  -- the functions of the list
  abbrev Among : Function → Type 0
  Among g = Contains functions g

  -- the members that are shown are of functions of the list, which have parts in this order
  pub record AreParts (parts : List Member) : Type 0 where
    pub shown_functions : List Function
    pub are : parts ≡ map (member_for q firsts) shown_functions
    pub listed : All Among shown_functions
    pub have : HaveShownParts q shown_functions

  member_from : (list : List Function) (f : Member) → Contains (map (member_for q firsts) list) f → (g : Function) × Contains list g × (f ≡ member_for q firsts g)
  member_from [] f (k, within, at) = absurd (omega (arith, within))
  member_from (g ∷ list) f (zero, within, at) = (g, (0, omega arith, refl), sym at)
  member_from (g ∷ list) f (suc k, within, at) =
      let rest = member_from list f (k, omega (arith, within), at) in
      (rest.0, (suc rest.1.0, omega (arith, rest.1.1), rest.1.2), rest.2)

  callees_same : (list : List Function) → map (λ (f : Member). (f.number, f.callee)) (map (member_for q firsts) list) ≡ map (called q) list
  callees_same [] = refl
  callees_same (g ∷ list) = ap (λ (rest : List (ℕ × Callee)). called q g ∷ rest) (callees_same list)

  abbrev ShowsPart : Unfolded → List Function → Function → Type 0
  ShowsPart u list g = IsShown (part_of (map (member_for q firsts) list) (member_for q firsts g) u) AtEntry u.frame

  -- where each part that is shown in a way is one of its function
  module _ (Way : Member → Unfolded → Type 0)
      (one : (list : List Function) (g : Function) (u : Unfolded) → All Among list → Contains functions g → Way (member_for q firsts g) u → ShowsPart u list g → HasShownPart q list g) where
    all_parts : (parts : List Member) → AreShown fs (map (member_for q firsts) functions) Way parts → AreParts parts
    all_parts _ no_part = record { shown_functions = []; are = refl; listed = All-nil Among; have = shown.none }
    all_parts _ (one_more parts f u before is_listed way is) =
        let earlier = all_parts parts before in
        let from = member_from functions f is_listed in
        let list = earlier.shown_functions in
        let here : ShowsPart u list from.0 =
        subst (λ (m : Member). IsShown (part_of (map (member_for q firsts) list) m u) AtEntry u.frame) from.2
        (subst (λ (ms : List Member). IsShown (part_of ms f u) AtEntry u.frame) earlier.are is) in
        record {
          shown_functions = list ++ from.0 ∷ [];
          are = ap (λ (ms : List Member). ms ++ f ∷ []) earlier.are ∙ ap (λ (m : Member). map (member_for q firsts) list ++ m ∷ []) from.2
              ∙ sym (map-append (member_for q firsts) list (from.0 ∷ []));
          listed = All-append Among list (from.0 ∷ []) earlier.listed (All-cons Among from.0 [] from.1 (All-nil Among));
          have = shown.one_more list from.0 earlier.have (one list from.0 u earlier.listed from.1 (subst (λ (m : Member). Way m u) from.2 way) here);
        }

  named_some : (list : List Function) → All Among list → AreNamed q list (alike_in (named_graphs q))
  named_some list all h among number is = named h (All-contains Among list h all among) number is

  -- what is shown over the function's graphs, or over graphs with calls inlined
  part_over : (list : List Function) (g : Function) (u : Unfolded) → All Among list → (base : Base) → IsInlined (pair_for q g) base
      → u.frame ≡ frame_in (pair_for q g) base (entry_frame (pair_for q g)).start [] [] → ShowsPart u list g → HasShownPart q list g
  part_over list g u all base inlined same is = record {
    base = base;
    inlined = inlined;
    code = u.code;
    source = u.source;
    alike = alike_in (named_graphs q);
    named = named_some list all;
    shown = subst (λ (f : Frame). IsShown (part_for q g list u.code u.source (alike_in (named_graphs q))) AtEntry f) same
        (subst (λ (earlier : List (ℕ × Callee)). IsShown (record (part_of [] (member_for q firsts g) u) { earlier = earlier }) AtEntry u.frame) (callees_same list) is);
  }

  own_inlined : (p : Pair) → IsInlined p (own_base p)
  own_inlined p = record { binary = as_it_is; source = as_it_is; setting = own_words p.body }

  pub plain_part : (list : List Function) (g : Function) (u : Unfolded) → All Among list → Contains functions g → u ≡ unfolded (member_for q firsts g) → ShowsPart u list g
      → HasShownPart q list g
  plain_part list g u all among way is = part_over list g u all (own_base (pair_for q g)) (own_inlined (pair_for q g)) (ap (λ (w : Unfolded). w.frame) way) is

  pub inlined_part : AreSides q → All IsValidGraph q.graphs → All IsValidGraph (graphs_of q.unit (place_of q)) → AreKnown q functions fs → (list : List Function) (g : Function)
      (u : Unfolded) → All Among list → Contains functions g → Unfolds fs (member_for q firsts g) u → ShowsPart u list g → HasShownPart q list g
  inlined_part sides valid source_valid known list g u all among way is =
      let part = part_is q sides valid source_valid functions firsts fs known g among u way in
      part_over list g u all part.base (part_inlined q sides valid source_valid functions firsts fs known g among u part) part.frame is

-- ---- the law

listed_in : (members : List Member) (f : Member) → Contains members f → Contains (map (λ (g : Member). g.listed) members) f.listed
listed_in [] f (k, within, at) = absurd (omega (arith, within))
listed_in (g ∷ members) f (zero, within, at) = (0, omega arith, ap (λ (m : Member). m.listed) at)
listed_in (g ∷ members) f (suc k, within, at) =
    let rest = listed_in members f (k, omega (arith, within), at) in
    (suc rest.0, omega (arith, rest.1), rest.2)

member_to : (q : Pair) (firsts : List (List (ℕ × ℕ))) (list : List Function) (g : Function) → Contains list g → Contains (map (member_for q firsts) list) (member_for q firsts g)
member_to q firsts [] g (k, within, at) = absurd (omega (arith, within))
member_to q firsts (h ∷ list) g (zero, within, at) = (0, omega arith, ap (member_for q firsts) at)
member_to q firsts (h ∷ list) g (suc k, within, at) =
    let rest = member_to q firsts list g (k, omega (arith, within), at) in
    (suc rest.0, omega (arith, rest.1), rest.2)

-- a part of this name is of a function of the list
function_from : (q : Pair) (firsts : List (List (ℕ × ℕ))) (list : List Function) (f : Listed) → Contains (map (λ (g : Member). g.listed) (map (member_for q firsts) list)) f
    → (g : Function) × Contains list g × (f ≡ listed_of q firsts g)
function_from q firsts [] f (k, within, at) = absurd (omega (arith, within))
function_from q firsts (g ∷ list) f (zero, within, at) = (g, (0, omega arith, refl), sym at)
function_from q firsts (g ∷ list) f (suc k, within, at) =
    let rest = function_from q firsts list f (k, omega (arith, within), at) in
    (rest.0, (suc rest.1.0, omega (arith, rest.1.1), rest.1.2), rest.2)

-- what is made of a body, by its number
pub of_body : {X : Type 0} (make : Body → X) (bodies : List Body) (name : List ℕ) (body : Body) → body_named bodies name ≡ Some body
    → slice_get (map make bodies) (body_number name bodies) ≡ Some (make body)
unfolding body_number
of_body make [] name body e = absurd (cc)
of_body make (one ∷ rest) name body e = at (bytes_eq one.name name) refl e (λ later. of_body make rest name body later)
  where
    at : (b : Bool) → bytes_eq one.name name ≡ b → cond b (Some one) (body_named rest name) ≡ Some body
        → (body_named rest name ≡ Some body → slice_get (map make rest) (body_number name rest) ≡ Some (make body))
        → slice_get (make one ∷ map make rest) (if b then 0 else body_number name rest + 1) ≡ Some (make body)
    at true is e later = let same : one ≡ body = cc in ap (λ (x : Body). Some (make x)) same
    at false is e later = let next : body_number name rest + 1 ≡ suc (body_number name rest) = omega arith in
        ap (slice_get (make one ∷ map make rest)) next ∙ later e

-- only the code at its entry has a function's name
names_are : (q : Pair) (functions : List Function) → AreFunctions q functions → AreAtNames q functions → AreNamed q functions (alike_in (named_graphs q))
names_are q functions are named h among number alike =
    let is_function = All-contains (IsFunction q) functions h are.each among in
    let at_name = All-contains (λ (g : Function). function_named q.image g.body.name ≡ One g.entry) functions h named among in
    let there = of_body (λ (b : Body). graph_among q (function_named q.image b.name)) q.unit.bodies h.body.name h.body is_function.body_is in
    let here : get_or (named_graphs q) (body_number h.body.name q.unit.bodies) None ≡ graph_among q (One h.entry) =
    get_or_from_slice_get (named_graphs q) (body_number h.body.name q.unit.bodies) (graph_among q (function_named q.image h.body.name)) None there ∙ ap (graph_among q) at_name in
    at_entry (nat_lt (q.numbering.graph_number h.entry) (length q.graphs)) (subst (λ (o : Option ℕ). option_map_or (λ (n : ℕ). n == number) o false ≡ true) here alike)
  where
    at_entry : (there : Bool) → option_map_or (λ (n : ℕ). n == number) (if there then Some (q.numbering.graph_number h.entry) else None) false ≡ true
        → number ≡ q.numbering.graph_number h.entry
    at_entry true is = sym (eqb-true (q.numbering.graph_number h.entry) number is)
    at_entry false is = absurd (cc)

-- where the members that are shown before the end are of functions of the list
parts_valid : (q : Pair) (firsts : List (List (ℕ × ℕ))) (functions : List Function) (fs : Functions) (lines : List Line) → AreSides q → IsFile q → AreFunctions q functions
    → AreAtNames q functions → (named : AreNamed q functions (alike_in (named_graphs q))) → (ended : Ends fs (map (member_for q firsts) functions) 0 (Between []) lines)
    → AreParts q firsts fs functions named ended.parts → (g : Function) → Contains functions g → IsStack q.image g.entry g.stack → IsValid q.image q.unit g.body.name g.stack
parts_valid q firsts functions fs lines sides file are at_names named ended parts g among stack =
    let members = map (member_for q firsts) functions in
    let found : IsNamed (map (λ (m : Member). m.listed) ended.parts) g.body.name =
    all_named (map (λ (m : Member). m.listed) members) (map (λ (m : Member). m.listed) ended.parts) [] (map (λ (m : Member). m.listed) members) refl
    (All-nil (λ (earlier : Listed). NoneNamed (map (λ (m : Member). m.listed) ended.parts) earlier.name → ⊥)) ended.none_lacks (listed_of q firsts g) (listed_in members (member_for q firsts g) (member_to q firsts functions g among)) in
    let from = function_from q firsts parts.shown_functions found.part
    (subst (λ (ms : List Member). Contains (map (λ (m : Member). m.listed) ms) found.part) parts.are found.among) in
    let same : from.0 ≡ g = are.apart from.0 g (All-contains (λ (h : Function). Contains functions h) parts.shown_functions from.0 parts.listed from.1) among
    (ap (λ (f : Listed). f.name) (sym from.2) ∙ found.named) in
    shown_parts_are_valid q parts.shown_functions sides file
    (λ k d less. let inside = parts.listed k d less in
    (All-contains (IsFunction q) functions _ are.each inside, All-contains (λ (h : Function). h.stack < 2 ^ 32) functions _ are.small inside))
    parts.have g (subst (Contains parts.shown_functions) same from.1)
    (All-contains (λ (h : Function). function_named q.image h.body.name ≡ One h.entry) functions g at_names among) stack

pub accepted_is_valid : AcceptedIsValid
accepted_is_valid q firsts functions fs lines t sides file are at_names plain accepted g among stack =
    let members = map (member_for q firsts) functions in
    let named = names_are q functions are at_names in
    let ended = end_there fs members 0 (Between []) t lines accepted in
    parts_valid q firsts functions fs lines sides file are at_names named ended
    (all_parts q firsts fs functions named (λ (f : Member) (u : Unfolded). u ≡ unfolded f) (plain_part q firsts fs functions named) ended.parts
    (plain_is_shown fs members lines ended.state ended.parts ended.accepted plain ended.has)) g among stack

pub whole_is_valid : WholeIsValid
whole_is_valid q firsts functions fs lines t sides file are at_names known accepted g among stack =
    let pair = is_pair q g sides (All-contains (IsFunction q) functions g are.each among) in
    let members = map (member_for q firsts) functions in
    let named = names_are q functions are at_names in
    let ended = end_there fs members 0 (Between []) t lines accepted in
    parts_valid q firsts functions fs lines sides file are at_names named ended
    (all_parts q firsts fs functions named (Unfolds fs)
    (inlined_part q firsts fs functions named sides pair.binary_valid (all_valid q.unit (place_of q) sides.placed sides.typed sides.sizes) known) ended.parts
    (accepted_is_shown fs members lines ended.state ended.parts ended.accepted ended.has)) g among stack
