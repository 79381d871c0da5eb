-- A point of a part is one node, and a call of it has one callee.
use Rattle.std.proofs.Common.{◌≡◌, ◌∙◌, ℕ, List, [], sym, ap, arith}
use Rattle.std.specs.Prelude.{All, Contains}
use Rattle.std.proofs.lemmas.List.Elements.{All-contains}
use Rattle.std.proofs.lemmas.Option.{same_Some}
use Rattle.graph_core_spec.specs.Graph.{Node, Binding, Call, node_at}
use Rattle.proof_tree_spec.specs.declared.Nodes.{Nodes}
use Rattle.proof_tree_spec.specs.Proofs.{BinaryPoint, SourcePoint, Points}
use Rattle.proof_tree_spec.specs.Frames.{Side, Frame}
use Rattle.sim_rules_spec.specs.Calls.{Callee}
use Rattle.cert_check_lines_spec.specs.Sites.{CodeBody, SourceBody, Part, IsBinaryNode, IsBinaryCall, IsSourceNode, IsBinaryPoint, IsSourcePoint, ArePoints, Calling, IsCallNode, ArePaired}
use Rattle.cert_check_lines_spec.specs.LineRules.{HasPart}
use Rattle.cert_check_lines_spec.specs.Parts.{Member, unfolded, part_of}
use Rattle.cert_run_spec.proofs.Apart.{mapped_from, only_one}

-- bodies are told apart by their paths, and the functions that have a part by the numbers of their graphs
pub record AreTold (p : Part) : Type 0 where
  pub code : (a b : CodeBody) → Contains p.code a → Contains p.code b → a.path ≡ b.path → a ≡ b
  pub source : (a b : SourceBody) → Contains p.source a → Contains p.source b → a.path ≡ b.path → a ≡ b
  pub earlier : (number : ℕ) (a b : Callee) → Contains p.earlier (number, a) → Contains p.earlier (number, b) → a ≡ b

-- ---- nodes

module _ (p : Part) (told : AreTold p) where
  one_binary_node : (point : BinaryPoint) (a b : ℕ) → IsBinaryNode p point a → IsBinaryNode p point b → a ≡ b
  one_binary_node point a b x y =
      let body_is : x.body ≡ y.body = told.code x.body y.body x.is_body y.is_body (x.path ∙ sym y.path) in
      let number_is : x.number ≡ y.number = same_Some x.number y.number (sym x.there ∙ (ap (λ (c : CodeBody). c.first point.address) body_is ∙ y.there)) in
      omega (arith, x.node_is, y.node_is, number_is, ap (λ (c : CodeBody). c.offset) body_is)

  one_binary_call : (point : BinaryPoint) (a b : ℕ) → IsBinaryCall p point a → IsBinaryCall p point b → a ≡ b
  one_binary_call point a b x y =
      let body_is : x.body ≡ y.body = told.code x.body y.body x.is_body y.is_body (x.path ∙ sym y.path) in
      let number_is : x.number ≡ y.number = same_Some x.number y.number (sym x.there ∙ (ap (λ (c : CodeBody). c.call point.address) body_is ∙ y.there)) in
      omega (arith, x.node_is, y.node_is, number_is, ap (λ (c : CodeBody). c.offset) body_is)

  one_source_node : (point : SourcePoint) (a b : ℕ) → IsSourceNode p point a → IsSourceNode p point b → a ≡ b
  one_source_node point a b x y =
      let body_is : x.body ≡ y.body = told.source x.body y.body x.is_body y.is_body (x.path ∙ sym y.path) in
      let number_is : x.number ≡ y.number = same_Some x.number y.number (sym x.there ∙ (ap (λ (c : SourceBody). c.node point.place) body_is ∙ y.there)) in
      omega (arith, x.node_is, y.node_is, number_is, ap (λ (c : SourceBody). c.offset) body_is)

  module _ (f : Frame) where
    pub one_binary_point : (point : BinaryPoint) (a b : ℕ) → IsBinaryPoint p f point a → IsBinaryPoint p f point b → a ≡ b
    one_binary_point point a b x y = one_binary_node point a b x.0 y.0

    pub one_source_point : (point : SourcePoint) (a b : ℕ) → IsSourcePoint p f point a → IsSourcePoint p f point b → a ≡ b
    one_source_point point a b x y = one_source_node point a b x.0 y.0

    pub one_pair : (points : Points) (a b : Nodes) → ArePoints p f points a → ArePoints p f points b → a ≡ b
    one_pair points a b x y =
        let binary_is = one_binary_point points.binary a.binary b.binary x.0 y.0 in
        let source_is = one_source_point points.source a.source b.source x.1 y.1 in
        λ i. record { binary = binary_is i; source = source_is i }

-- ---- calls

abbrev callee_in : Node → ℕ
callee_in (Call callee inputs outputs landing) = callee
callee_in node = 0

abbrev inputs_in : Node → List Binding
inputs_in (Call callee inputs outputs landing) = inputs
inputs_in node = []

abbrev outputs_in : Node → List Binding
outputs_in (Call callee inputs outputs landing) = outputs
outputs_in node = []

abbrev landing_in : Node → ℕ
landing_in (Call callee inputs outputs landing) = landing
landing_in node = 0

abbrev node_of : Calling → Node
node_of c = Call c.callee c.inputs c.outputs c.landing

one_calling : (side : Side) (m n : ℕ) (a b : Calling) → m ≡ n → IsCallNode side m a → IsCallNode side n b → a ≡ b
one_calling side m n a b same x y =
    let node_is : node_of a ≡ node_of b = same_Some (node_of a) (node_of b) (sym x ∙ (ap (node_at side.graphs side.outermost) same ∙ y)) in
    λ i. record { callee = callee_in (node_is i); inputs = inputs_in (node_is i); outputs = outputs_in (node_is i); landing = landing_in (node_is i) }

-- what is paired at the points
pub record IsSame (call other : Nodes) (binary binary2 source source2 : Calling) : Type 0 where
  pub call_is : call ≡ other
  pub binary_is : binary ≡ binary2
  pub source_is : source ≡ source2

module _ (p : Part) (told : AreTold p) (f : Frame) where
  pub one_pairing : (points : Points) (call other : Nodes) (binary binary2 source source2 : Calling) → ArePaired p f points call binary source
      → ArePaired p f points other binary2 source2 → IsSame call other binary binary2 source source2
  one_pairing points call other binary binary2 source source2 x y =
      let binary_node = one_binary_call p told points.binary call.binary other.binary x.binary_node y.binary_node in
      let source_node = one_source_node p told points.source call.source other.source x.source_node y.source_node in
      record {
        call_is = λ i. record { binary = binary_node i; source = source_node i };
        binary_is = one_calling f.binary call.binary other.binary binary binary2 binary_node x.binary_calls y.binary_calls;
        source_is = one_calling f.source call.source other.source source source2 source_node x.source_calls y.source_calls;
      }

  pub one_part : (source : Calling) (a b : Callee) → HasPart p source a → HasPart p source b → a ≡ b
  one_part source a b x y = told.earlier source.callee a b x y

-- ---- where nothing is inlined

abbrev numbered : Member → ℕ × Callee
numbered g = (g.number, g.callee)

pub told_there : (members parts : List Member) (f : Member) → ((g h : Member) → Contains members g → Contains members h → g.number ≡ h.number → g ≡ h)
    → All (Contains members) parts → AreTold (part_of parts f (unfolded f))
told_there members parts f by_number among = record {
  code = λ a b x y same. only_one _ a x ∙ sym (only_one _ b y);
  source = λ a b x y same. only_one _ a x ∙ sym (only_one _ b y);
  earlier = λ number a b x y.
      let (g, in_parts, g_is) = mapped_from numbered parts (number, a) x in
      let (h, also_in, h_is) = mapped_from numbered parts (number, b) y in
      let numbers : g.number ≡ h.number = ap (λ (n : ℕ × Callee). n.0) g_is ∙ sym (ap (λ (n : ℕ × Callee). n.0) h_is) in
      let same : g ≡ h = by_number g h (All-contains (Contains members) parts g among in_parts) (All-contains (Contains members) parts h among also_in) numbers in
      sym (ap (λ (n : ℕ × Callee). n.1) g_is) ∙ (ap (λ (m : Member). m.callee) same ∙ ap (λ (n : ℕ × Callee). n.1) h_is);
}
