-- What is made of the functions of pairs is of two sides that the laws of checked certificates speak of.
use Rattle.std.proofs.Common.{◌≡◌, ◌∙◌, ℕ, ◌<◌, ◌^◌, List, [], All, length, get_or, Option, Some, None, IsSome, refl, sym, ap, subst, arith}
use Rattle.std.specs.Prelude.{Contains, slice_get}
use Rattle.std.proofs.lemmas.List.Elements.{All-map, Contains-get_or}
use Rattle.std.proofs.lemmas.Option.{slice_get-get_or, slice_get_within, same_Some}
use Rattle.memory_spec.specs.Runs.{Run}
use Rattle.elf_read_spec.specs.declared.SymbolValues.{SymbolValues}
use Rattle.elf_read_spec.specs.declared.SymbolValues.TheVariants.{Absent, One, Two}
use Rattle.elf_read_spec.specs.Image.{Image, function_named, object_named, size_at}
use Rattle.elf_read_spec.specs.Runs.{AreRuns}
use Rattle.elf_read_spec.proofs.Runs.{file_has_bytes}
use Rattle.code_reach_spec.specs.Code.{IsStack}
use Rattle.code_reach_spec.specs.Faults.{HasNoFault, ReachesNoFault}
use Rattle.graph_core_spec.specs.Graph.{Graph, Graphs, empty}
use Rattle.decompile_spec.specs.CodeGraph.{IsCodeGraph}
use Rattle.decompile_laws.specs.Together.{AreCodeGraphs, Numbering, setting}
use Rattle.decompile.specs.Answer as answer
use Rattle.decompile.specs.Answer.{number_in}
use Rattle.c_types_spec.specs.Core.{Body, Typed}
use Rattle.c_types_spec.specs.HasType.{IsTypedUnit}
use Rattle.c_graph_spec.specs.Sizes.{UnitSizes}
use Rattle.c_run_spec.specs.Calls.{body_named}
use Rattle.pair_setup_spec.specs.SourceReach.{Reaches, body_of}
use Rattle.pair_setup_spec.specs.Outcome as outcome
use Rattle.pair_setup_spec.specs.Outcome.{IsPaired, Pairs}
use Rattle.validity_spec.specs.Claim.{value_named}
use Rattle.agreement_laws.specs.EntryFrame.{Pair}
use Rattle.pair_setup_spec.proofs.Stacks.{one_stack}
use Rattle.validity_laws.specs.Derivation.{AreSides, Function, IsFunction}
use Rattle.validity_laws.specs.CheckStatements.{AreFunctions, IsFile}
use Rattle.pair_setup.specs.Graphs.{AreCode}
use Rattle.cert_run.specs.Sides.{AreSidesOf, IsRead, function_in, functions_in, numbering_by, pair_with}
use Rattle.cert_run.proofs.Files.{object_small, pointer_small, runs_below}
use Rattle.cert_run.proofs.Named.{HasBody, all_under, has_body, mapped_from, mapped_to, same_function}
use Rattle.cert_run.proofs.Numbered.{entry_at, number_at}

value_one : (o : SymbolValues) (address : ℕ) → value_named o ≡ Some address → o ≡ One address
value_one Absent address e = absurd (cc)
value_one (One value) address e = let same : value ≡ address = cc in ap One same
value_one (Two value other) address e = absurd (cc)

same_entry : (one other : ℕ) → One one ≡ One other → one ≡ other
same_entry one other e = cc

some_size : (o : Option ℕ) (size : ℕ) → o ≡ Some size → IsSome o
some_size o size e = subst IsSome (sym e) refl

module _ (image : Image) (unit : Typed) (list : List (List ℕ)) (pairs : Pairs) (paired : IsPaired image unit list pairs) where
  -- ---- a function of the pairs

  pub function_is : All (outcome.IsFunction image unit) pairs.functions
  function_is = paired.functions_are

  pub sound_at : All (λ (f : outcome.Function). outcome.HasNoFault image unit f.name) pairs.functions
  sound_at =
      all_under (λ (f : outcome.Function). f.name) (outcome.HasNoFault image unit) pairs.functions
      (subst (λ (l : List (List ℕ)). All (outcome.HasNoFault image unit) l) (sym paired.listed) paired.no_fault)

  listed_at : (f : outcome.Function) → Contains pairs.functions f → Contains list f.name
  listed_at f among =
      subst (λ (l : List (List ℕ)). Contains l f.name) paired.listed (mapped_to (λ (x : outcome.Function). x.name) pairs.functions f among)

  pub body_at : (f : outcome.Function) → outcome.HasNoFault image unit f.name → HasBody unit f
  body_at f sound = has_body unit f sound.names.bodies

  code_sound : (f : outcome.Function) → outcome.IsFunction image unit f → outcome.HasNoFault image unit f.name → ReachesNoFault image f.entry
  code_sound f is sound =
      subst (λ (e : ℕ). ReachesNoFault image e) (same_entry sound.code.0 f.entry (sym sound.code.1.named ∙ is.entry_is)) sound.code.1.sound

  some_body : (name other : List ℕ) → outcome.HasNoFault image unit name → Reaches unit name other → IsSome (body_named unit.bodies other)
  some_body name other sound reached = at (body_of unit other) refl
    where
      at : (o : Option Body) → body_of unit other ≡ o → IsSome (body_named unit.bodies other)
      at None e = absurd (sound.names.bodies other (record { reached = reached; absent = e }))
      at (Some body) e = subst (λ (o : Option Body). IsSome o) (sym e) refl

  module _ (runs : List Run) (graphs : Graphs) (typed : IsTypedUnit unit) (sizes : UnitSizes unit) (read : IsRead image) (are_runs : AreRuns image runs)
      (code : AreCode image pairs.entries graphs) where
    abbrev numbering : Numbering
    numbering = numbering_by pairs.entries runs code.firsts

    abbrev q : Pair
    q = pair_with image unit numbering graphs

    -- ---- graphs of code

    abbrev IsAt : (entry : ℕ) → Graph → Type 0
    IsAt entry graph = (size : ℕ) × (size_at image entry ≡ Some size) × HasNoFault image entry size × IsCodeGraph image (setting numbering entry size) graph

    at_entry : (k entry : ℕ) (graph : Graph) → slice_get pairs.entries k ≡ Some entry → slice_get graphs k ≡ Some graph → IsAt entry graph
    at_entry k entry graph there given =
        let is = (code.each k entry graph there given).graph_is in
        let same_runs : is.runs ≡ runs = sym (is.only_runs runs are_runs) in
        let number : number_in pairs.entries entry ≡ k = number_at pairs.entries paired.rising entry k there in
        let first : IsCodeGraph image (answer.setting entry is.size runs pairs.entries (get_or code.firsts k [])) graph =
        subst (λ (r : List Run). IsCodeGraph image (answer.setting entry is.size r pairs.entries (get_or code.firsts k [])) graph) same_runs is.graph_is in (
          is.size,
          is.size_is,
          is.sound,
          subst (λ (n : ℕ). IsCodeGraph image (answer.setting entry is.size runs pairs.entries (get_or code.firsts n [])) graph) (sym number) first,
        )

    of_code : All (λ (g : Graph). (entry : ℕ) × (size : ℕ) × HasNoFault image entry size × IsCodeGraph image (setting numbering entry size) g) graphs
    of_code k d below =
        let entry : ℕ = get_or pairs.entries k 0 in
        let within : k < length pairs.entries = omega (arith, below, code.graph_count) in
        let one = at_entry k entry (get_or graphs k d) (slice_get-get_or pairs.entries k 0 within) (slice_get-get_or graphs k d below) in
        (entry, one.0, one.2, one.3)

    code_graphs : (from : ℕ) (name : List ℕ) → Contains list name → function_named image name ≡ One from → AreCodeGraphs image from numbering graphs
    code_graphs from name among named = record {
      each = λ function size reached size_is.
          let has : Contains pairs.entries function =
          (paired.entries_are function).1 (record { listed = name; is_listed = among; from = from; from_is = named; reached = reached }) in
          let there = entry_at pairs.entries paired.rising function has in
          let k : ℕ = number_in pairs.entries function in
          let within : k < length graphs = omega (arith, slice_get_within pairs.entries k function there, code.graph_count) in
          let graph : Graph = get_or graphs k empty in
          let given = slice_get-get_or graphs k empty within in
          let one = at_entry k function graph there given in
          (graph, given, subst (λ (s : ℕ). IsCodeGraph image (setting numbering function s) graph) (same_Some one.0 size (sym one.1 ∙ size_is)) one.3);
    }

    -- ---- functions

    is_function : (f : outcome.Function) → Contains list f.name → outcome.IsFunction image unit f → outcome.HasNoFault image unit f.name
        → IsFunction q (function_in unit f)
    is_function f among is sound =
        let has = body_at f sound in
        record {
          is_there = some_size (size_at image f.entry) f.size is.size_is;
          no_fault = code_sound f is sound;
          graphs = code_graphs f.entry f.name among is.entry_is;
          body_is = subst (λ (n : List ℕ). body_named unit.bodies n ≡ Some (function_in unit f).body) (sym has.named) has.body_is;
          bodies = λ other reached. some_body f.name other sound (subst (λ (n : List ℕ). Reaches unit n other) has.named reached);
        }

    apart : (g h : Function) → Contains (functions_in unit pairs) g → Contains (functions_in unit pairs) h → g.body.name ≡ h.body.name → g ≡ h
    apart g h one_in other_in same =
        let one = mapped_from (function_in unit) pairs.functions g one_in in
        let other = mapped_from (function_in unit) pairs.functions h other_in in
        let x : outcome.Function = one.0 in
        let y : outcome.Function = other.0 in
        let x_is = at x one.1 in
        let y_is = at y other.1 in
        let names : x.name ≡ y.name =
        sym (body_at x x_is.1).named ∙ ap (λ (z : Function). z.body.name) (sym one.2) ∙ same ∙ ap (λ (z : Function). z.body.name) other.2 ∙ (body_at y y_is.1).named in
        let entries : x.entry ≡ y.entry = same_entry x.entry y.entry (sym x_is.0.entry_is ∙ ap (function_named image) names ∙ y_is.0.entry_is) in
        let stacks : x.stack ≡ y.stack =
        one_stack image x.entry x.stack y.stack x_is.0.stack_is (subst (λ (e : ℕ). IsStack image e y.stack) (sym entries) y_is.0.stack_is) in
        one.2 ∙ same_function unit x y names entries stacks ∙ sym other.2
      where
        at : (f : outcome.Function) → Contains pairs.functions f → outcome.IsFunction image unit f × outcome.HasNoFault image unit f.name
        at f (k, within, is) =
            subst (λ (x : outcome.Function). outcome.IsFunction image unit x × outcome.HasNoFault image unit x.name) is (function_is k f within, sound_at k f within)

    functions_are : AreFunctions q (functions_in unit pairs)
    functions_are = record {
      each =
          All-map (IsFunction q) (function_in unit) pairs.functions
          (λ k d h. is_function (get_or pairs.functions k d) (listed_at (get_or pairs.functions k d) (Contains-get_or pairs.functions k d h)) (function_is k d h) (sound_at k d h));
      small = All-map (λ (g : Function). g.stack < 2 ^ 32) (function_in unit) pairs.functions (λ k d h. let is = function_is k d h in omega (arith, is.within));
      apart = apart;
    }

    -- ---- both sides

    sides : AreSides q
    sides = record {
      of_code = of_code;
      typed = typed;
      sizes = sizes;
      placed = record {
        global = λ name address e. object_small image name address read (value_one (object_named image name) address e);
        run = runs_below image runs read are_runs;
      };
    }

    file : IsFile q
    file = record { bytes = file_has_bytes read.file image read.are_bytes read.image_is; pointer = pointer_small image read }

    pub sides_of : AreSidesOf image unit pairs q
    sides_of = record { image_is = refl; unit_is = refl; sides = sides; file = file; functions_are = functions_are }
