-- What is known of a pair.
use Rattle.std.proofs.Common.{◌≡◌, ◌∙◌, ◌==◌, ◌&&◌, ℕ, zero, suc, ◌+◌, ◌-◌, ◌^◌, ◌<◌, ◌≤◌, Bool, true, false, if◌then◌else◌, List, [], ◌∷◌, length, slice_get, Option, Some, None, is_some, map, bytes_eq, cond, option_and_then, ◌≢◌, refl, sym, ap, subst, arith}
use Rattle.std.specs.Prelude.{IsSome}
use Rattle.std.specs.List.{All}
use Rattle.std.specs.Option.{option_or}
use Rattle.std.proofs.lemmas.Bool.{lt-ltb, le-leb, eq-eqb}
use Rattle.std.proofs.lemmas.List.Elements.{All-head, All-tail}
use Rattle.memory_spec.specs.Runs as runs
use Rattle.memory_spec.specs.Runs.{Run, byte_in}
use Rattle.elf_read_spec.specs.Image.{size_at, fixed_byte}
use Rattle.elf_read_spec.specs.Runs.{AreRuns}
use Rattle.elf_read_spec.proofs.Runs.{runs_are_fixed}
use Rattle.code_reach_spec.specs.Code.{itself}
use Rattle.term_core_spec.specs.declared.Family.TheVariants as family
use Rattle.term_core_spec.specs.declared.Variable.{Variable}
use Rattle.term_core_spec.specs.Value.{Assignment, IsAssignment}
use Rattle.graph_core_spec.specs.Graph.{Node, Basic, Graph, node_at}
use Rattle.graph_core_spec.specs.Variables.{own_bindings}
use Rattle.graph_core_spec.specs.declared.Next.TheVariants as next
use Rattle.graph_core_spec.specs.Run.{State, Running, Returned, Failed, has_failed, is_at}
use Rattle.graph_core_spec.specs.Fixed.{has_byte, AlwaysHoldsFixed}
use Rattle.decompile_spec.specs.State.{entry_register}
use Rattle.decompile_spec.specs.Blocks.{Entrance, Of}
use Rattle.decompile_spec.specs.CodeGraph.{IsCodeGraph, entrance}
use Rattle.decompile_laws.specs.Together.{setting}
use Rattle.decompile_laws.proofs.Binding.{never_binds}
use Rattle.c_types_spec.specs.declared.Scalar.{Scalar}
use Rattle.c_types_spec.specs.Core.{Body}
use Rattle.c_types_spec.specs.HasType.{IsTypedBody}
use Rattle.c_run_spec.specs.Calls.{body_named}
use Rattle.c_graph_spec.specs.SourceGraph.{body_number, graphs_of, graph_of}
use Rattle.c_graph_laws.specs.Keeps.{AreKept}
use Rattle.c_graph_laws.proofs.Extents.{BodyExtents, IsPlain, unit_extents}
use Rattle.c_graph_laws.proofs.KeptBytes.{always_kept}
use Rattle.sim_rules_spec.specs.Points.{bounded, source_memory}
use Rattle.sim_rules_spec.proofs.Start.{all_at}
use Rattle.sim_rules_spec.proofs.Truths.{all_left}
use Rattle.agreement_laws.specs.EntryFrame.{Pair, place_of}
use Rattle.agreement_laws.specs.Statements.{IsPair, binary_entry, source_entry}
use Rattle.agreement_laws.proofs.Entry.{Never}

-- ---- a body by its name

pub body_has : (P : Body → Type 0) (bodies : List Body) (name : List ℕ) (body : Body) → All P bodies → body_named bodies name ≡ Some body → P body
body_has P [] name body all e = absurd (cc)
body_has P (one ∷ rest) name body all e = at (bytes_eq one.name name) refl e (λ later. body_has P rest name body (All-tail P one rest all) later)
  where
    at : (b : Bool) → bytes_eq one.name name ≡ b → cond b (Some one) (body_named rest name) ≡ Some body → (body_named rest name ≡ Some body → P body) → P body
    at true is e later = let same : one ≡ body = cc in subst P same (All-head P one rest all)
    at false is e later = later e

pub body_there : (make : Body → Graph) (bodies : List Body) (name : List ℕ) (body : Body) → body_named bodies name ≡ Some body
    → slice_get (map make bodies) (body_number name bodies) ≡ Some (make body)
unfolding body_number
body_there make [] name body e = absurd (cc)
body_there make (one ∷ rest) name body e = at (bytes_eq one.name name) refl e (λ later. body_there make rest name body later)
  where
    at : (b : Bool) → bytes_eq one.name name ≡ b → cond b (Some one) (body_named rest name) ≡ Some body
        → (body_named rest name ≡ Some body → slice_get (map make rest) (body_number name rest) ≡ Some (make body))
        → slice_get (make one ∷ map make rest) (if b then 0 else body_number name rest + 1) ≡ Some (make body)
    at true is e later = let same : one ≡ body = cc in ap (λ (x : Body). Some (make x)) same
    at false is e later = let next : body_number name rest + 1 ≡ suc (body_number name rest) = omega arith in
        ap (slice_get (make one ∷ map make rest)) next ∙ later e

pub some_size : (o : Option ℕ) → IsSome o → (size : ℕ) × (o ≡ Some size)
some_size (Some size) is = (size, refl)
some_size None is = absurd (cc)

-- ---- states

pub failed_is : (s : State) → has_failed s ≡ true → s ≡ Failed
failed_is (Running g n values below) h = absurd (let bad : false ≡ true = h in cc)
failed_is (Returned values) h = absurd (let bad : false ≡ true = h in cc)
failed_is Failed h = refl

same_number : (n : ℕ) → (n == n) ≡ true
same_number n = eq-eqb n n refl

both_same : (g n : ℕ) (o : Option Node) (node : Node) → o ≡ Some node → (g == g && (n == n && is_some o)) ≡ true
both_same g n o node e = rw (same_number g, same_number n, e) refl

-- ---- fixed bytes are below 2 ^ 32

past_end : (xs : List ℕ) (i : ℕ) → length xs ≤ i → slice_get xs i ≡ None
past_end [] i past = refl
past_end (x ∷ xs) zero past = absurd (omega arith)
past_end (x ∷ xs) (suc i) past = past_end xs i (omega arith)

abbrev IsInside : Run → Type 0
IsInside r = (0 < length r.bytes) × (r.start + length r.bytes ≤ 2 ^ 32)

run_ends : (run : Run) (at : ℕ) → IsInside run → 2 ^ 32 ≤ at → byte_in run at ≡ None
run_ends run at inside far =
    ap (λ (b : Bool). if b then slice_get run.bytes (at - run.start) else None) (le-leb run.start at (omega (arith, inside.1)))
    ∙ past_end run.bytes (at - run.start) (omega (arith, inside.1))

runs_end : (list : List Run) (at : ℕ) → All IsInside list → 2 ^ 32 ≤ at → runs.fixed_byte list at ≡ None
unfolding runs.fixed_byte
runs_end [] at all far = refl
runs_end (run ∷ list) at all far =
    ap (λ (o : Option ℕ). option_or o (runs.fixed_byte list at)) (run_ends run at (All-head IsInside run list all) far)
    ∙ runs_end list at (All-tail IsInside run list all) far

module _ (p : Pair) (is : IsPair p) where
  pub size : (n : ℕ) × (size_at p.image p.entry ≡ Some n)
  size = some_size (size_at p.image p.entry) is.is_function

  pub code : (graph : Graph) × (slice_get p.graphs (p.numbering.graph_number p.entry) ≡ Some graph) × IsCodeGraph p.image (setting p.numbering p.entry size.0) graph
  code = is.whole.each p.entry size.0 itself size.1

  pub runs_are : AreRuns p.image p.numbering.runs
  runs_are = code.2.runs_are

  pub extents : BodyExtents p.body
  extents = body_has BodyExtents p.unit.bodies p.body.name p.body (unit_extents p.unit is.typed is.sizes).bodies is.body_is

  pub typed_body : IsTypedBody p.unit p.body
  typed_body = body_has (λ body. IsTypedBody p.unit body) p.unit.bodies p.body.name p.body is.typed.bodies_typed is.body_is

  pub plain : All IsPlain p.body.signature.parameters
  plain = all_left IsPlain p.body.signature.parameters typed_body.begun.0 (subst (λ (types : List Scalar). All IsPlain types) typed_body.begun.1 extents.locals)

  pub fixed_below : (at : ℕ) → 2 ^ 32 ≤ at → fixed_byte p.image at ≡ None
  fixed_below at far = sym (runs_are_fixed p.image p.numbering.runs runs_are at) ∙ runs_end p.numbering.runs at is.placed.run far

  kept_fixed : AreKept (place_of p) (bounded (fixed_byte p.image))
  kept_fixed at below some =
      ap is_some (runs_are_fixed p.image p.numbering.runs runs_are at)
      ∙ sym (ap (λ (b : Bool). is_some (if b then fixed_byte p.image at else Some 0)) (lt-ltb at (2 ^ 32) below)) ∙ some

  never : (n : ℕ) (node : Node) → node_at p.graphs (p.numbering.graph_number p.entry) n ≡ Some node → All (λ b. b.variable.family ≢ family.Entry) (own_bindings node)
  never n node there =
      all_at (λ (node : Node). All (λ b. b.variable.family ≢ family.Entry) (own_bindings node)) code.0.nodes n node
      (never_binds family.Entry (λ bad. cc) (λ bad. cc) p.image (setting p.numbering p.entry size.0) code.0 code.2)
      (sym (ap (λ (o : Option Graph). option_and_then (λ (graph : Graph). slice_get graph.nodes n) o) code.1) ∙ there)

  pub never_entry : (r n : ℕ) (node : Node) → node_at p.graphs (p.numbering.graph_number p.entry) n ≡ Some node → Never (entry_register r) (own_bindings node)
  never_entry r n node there i d lt same = never n node there i d lt (ap (λ (v : Variable). v.family) same)

  -- ---- both sides are at their first nodes

  pub binary_at : (a : Assignment) → is_at p.graphs (p.numbering.graph_number p.entry) (p.numbering.node_number p.entry Entrance) (binary_entry p a) ≡ true
  binary_at a = both_same (p.numbering.graph_number p.entry) (p.numbering.node_number p.entry Entrance) _ (Basic [] (next.At (p.numbering.node_number p.entry (Of p.entry 0))))
      (ap (λ (o : Option Graph). option_and_then (λ (graph : Graph). slice_get graph.nodes (p.numbering.node_number p.entry Entrance)) o) code.1 ∙ code.2.there Entrance _ entrance)

  first_node : (node : Node) × (slice_get (graph_of p.unit (place_of p) p.body).nodes 0 ≡ Some node)
  unfolding graph_of
  first_node = (_, refl)

  pub source_at : (b : Assignment) → is_at (graphs_of p.unit (place_of p)) (body_number p.body.name p.unit.bodies) 0 (source_entry p b) ≡ true
  source_at b = both_same (body_number p.body.name p.unit.bodies) 0 _ first_node.0
      (ap (λ (o : Option Graph). option_and_then (λ (graph : Graph). slice_get graph.nodes 0) o) (body_there (graph_of p.unit (place_of p)) p.unit.bodies p.body.name p.body is.body_is) ∙ first_node.1)

  -- runs of the graphs of C keep fixed bytes, and have none from 2 ^ 32 on
  pub keeps_fixed : (values : Assignment) → IsAssignment values → ((at : ℕ) → has_byte (values source_memory) at (bounded (fixed_byte p.image) at) ≡ true)
      → AlwaysHoldsFixed (graphs_of p.unit (place_of p)) (body_number p.body.name p.unit.bodies) (bounded (fixed_byte p.image)) source_memory
      (Running (body_number p.body.name p.unit.bodies) 0 values [])
  keeps_fixed values ranged there =
      always_kept p.unit (place_of p) p.body.name (bounded (fixed_byte p.image)) values is.typed is.sizes is.placed kept_fixed ranged there
