-- The parts of a certificate, one line at a time: where the part of a function begins, the calls that it inlines, the lines
-- of its proof, and the end. No line depends on those after it.
use Rattle.std.specs.Prelude.{◌≡◌, ◌≢◌, ℕ, suc, ◌+◌, ◌<◌, ◌≤◌, Bool, List, [], ◌∷◌, ◌++◌, length, map, Contains, All, Option, Some}
use Rattle.term_core_spec.specs.declared.Sort.{Sort}
use Rattle.term_core_spec.specs.declared.Variable.{Variable}
use Rattle.graph_core_spec.specs.Graph.{Binding, Call, Graph, node_at}
use Rattle.graph_inline_spec.specs.Inlined.{inlined, inlined_size}
use Rattle.graph_inline_spec.specs.Beside.{beside, own_number}
use Rattle.proof_tree_spec.specs.declared.Place.{Place}
use Rattle.proof_tree_spec.specs.declared.Place.TheVariants as place
use Rattle.proof_tree_spec.specs.Proofs.{BinaryPoint, SourcePoint}
use Rattle.proof_tree_spec.specs.Frames.{Side, Frame}
use Rattle.proof_tree_spec.specs.Scope.{Body, Setting}
use Rattle.sim_rules_spec.specs.Sides.{graph_at}
use Rattle.sim_rules_spec.specs.Calls.{Callee}
use Rattle.cert_text_spec.specs.Lines as line
use Rattle.cert_text_spec.specs.Lines.{Line, line_text}
use Rattle.cert_check_spec.specs.Verdict.{Listed, IsMissing}
use Rattle.tv_limits.specs.declared.TheConstants.{MAX_NODES}
use Rattle.cert_check_lines_spec.specs.Sites.{CodeBody, SourceBody, Part}
use Rattle.cert_check_lines_spec.specs.Jobs.{AtEntry, Job, Prove}
use Rattle.cert_check_spec.specs.declared.RuleWord.TheVariants as fault
use Rattle.tv_limits.specs.declared.Quantity.TheVariants as quantity
use Rattle.cert_check_lines_spec.specs.LineRules.{Fault, Breaks, Above, Passes, Fails}
use Rattle.cert_check_lines_spec.specs.Shown.{IsShown}

-- ---- functions

-- a function of the code: its graph, its own variables, and by address the first node of each instruction and the call node
-- of each that calls
pub record CodeFunction : Type 0 where
  pub graph : Graph
  pub own : List Variable
  pub first : ℕ → Option ℕ
  pub call : ℕ → Option ℕ

-- one of the source: its graph, its own variables, the node of each place, and the sort of each local
pub record SourceFunction : Type 0 where
  pub graph : Graph
  pub own : List Variable
  pub node : Place → Option ℕ
  pub locals : List Sort

-- those of both sides by the numbers of their graphs
pub record Functions : Type 0 where
  pub code : ℕ → Option CodeFunction
  pub source : ℕ → Option SourceFunction

-- where the points of a function's code are, and those of its source
pub record CodePoints : Type 0 where
  pub first : ℕ → Option ℕ
  pub call : ℕ → Option ℕ

pub record SourcePoints : Type 0 where
  pub node : Place → Option ℕ

-- a listed function; what its callers know of it; the number of its source's graph; its points; and which graphs of both
-- sides are of functions of one name
pub record Member : Type 0 where
  pub listed : Listed
  pub callee : Callee
  pub number : ℕ
  pub code : CodePoints
  pub source : SourcePoints
  pub named_alike : (binary source : ℕ) → Bool

-- ---- inlining

-- a part so far: its frame, over graphs of its own; the bodies of both sides; and the instance of the next inlined call
pub record Unfolded : Type 0 where
  pub frame : Frame
  pub code : List CodeBody
  pub source : List SourceBody
  pub instance : ℕ

-- nothing is inlined yet. Instance 0 is the function's own, and 1 what a call leaves
abbrev pub unfolded : Member → Unfolded
unfolded f = record {
  frame = f.listed.frame;
  code = record { path = []; offset = 0; first = f.code.first; call = f.code.call } ∷ [];
  source = record { path = []; offset = 0; node = f.source.node } ∷ [];
  instance = 2;
}

-- a graph of the part's own, beside those of the set: calls go on to the set's
abbrev pub beside_side : Side → Graph → Side
beside_side set own = record { graphs = beside set.graphs own; outermost = own_number set.graphs }

-- the node of the side is a call of the graph of this number
pub record CallsThere (side : Side) (node number : ℕ) : Type 0 where
  pub inputs : List Binding
  pub outputs : List Binding
  pub landing : ℕ
  pub call : node_at side.graphs side.outermost node ≡ Some (Call number inputs outputs landing)

-- the point is a call of the code, in a body that is there: its node, and its callee
pub record IsCodeCall (fs : Functions) (u : Unfolded) (point : BinaryPoint) (node : ℕ) (callee : CodeFunction) : Type 0 where
  pub body : CodeBody
  pub is_body : Contains u.code body
  pub path : body.path ≡ point.path
  pub index : ℕ
  pub there : body.call point.address ≡ Some index
  pub node_is : node ≡ body.offset + index
  pub number : ℕ
  pub calls : CallsThere u.frame.binary node number
  pub is_callee : fs.code number ≡ Some callee

-- with its graph inlined there
abbrev pub with_code : Member → Unfolded → BinaryPoint → CodeFunction → Graph → Unfolded
with_code f u point callee new = record u {
  frame = record u.frame { binary = beside_side f.listed.frame.binary new };
  code = u.code ++ record { path = point.path ++ point.address ∷ []; offset = length (graph_at u.frame.binary).nodes; first = callee.first; call = callee.call } ∷ [];
  instance = suc u.instance;
}

-- the place is a call of the source
pub record IsSourceCall (fs : Functions) (u : Unfolded) (path : List ℕ) (call node : ℕ) (callee : SourceFunction) : Type 0 where
  pub body : SourceBody
  pub is_body : Contains u.source body
  pub path_is : body.path ≡ path
  pub index : ℕ
  pub there : body.node (place.Call call) ≡ Some index
  pub node_is : node ≡ body.offset + index
  pub number : ℕ
  pub calls : CallsThere u.frame.source node number
  pub is_callee : fs.source number ≡ Some callee

-- the locals of an inlined call are in scope at points in its body
abbrev pub with_body : Setting → Body → Setting
with_body s b = record s { bodies = s.bodies ++ b ∷ [] }

abbrev pub with_source : Member → Unfolded → (path : List ℕ) → (call : ℕ) → SourceFunction → Graph → Unfolded
with_source f u path call callee new = record u {
  frame = record u.frame {
    source = beside_side f.listed.frame.source new;
    setting = with_body u.frame.setting (record { path = path ++ call ∷ []; instance = u.instance; locals = callee.locals });
  };
  source = u.source ++ record { path = path ++ call ∷ []; offset = length (graph_at u.frame.source).nodes; node = callee.node } ∷ [];
  instance = suc u.instance;
}

-- ---- the walk along a certificate

-- what the lines of a function's proof speak of, after these parts
abbrev pub part_of : (parts : List Member) → Member → Unfolded → Part
part_of parts f u = record {
  convention = f.listed.convention;
  entry = f.listed.opening;
  runs = f.listed.runs;
  code = u.code;
  source = u.source;
  named_alike = f.named_alike;
  earlier = map (λ (g : Member). (g.number, g.callee)) parts;
}

-- between parts; where calls may be inlined; or inside a proof. With each the functions that have a part before
pub data State : Type 0 where
  Between : (parts : List Member) → State
  Unfolding : (parts : List Member) → (f : Member) → (u : Unfolded) → State
  Inside : (parts : List Member) → (f : Member) → (u : Unfolded) → (jobs : List Job) → State

-- nothing is open, and these functions have a part
pub data HasParts : State → List Member → Type 0 where
  at_start : (parts : List Member) → HasParts (Between parts) parts
  at_close : (parts : List Member) (f : Member) (u : Unfolded) → HasParts (Inside parts f u []) (parts ++ f ∷ [])

-- a listed function of this name has no part yet
pub record IsFree (members parts : List Member) (name : List ℕ) (f : Member) : Type 0 where
  pub is_listed : Contains members f
  pub named : f.listed.name ≡ name
  pub free : All (λ (other : Member). other.listed.name ≢ name) parts

-- this listed function is the first that has no part
abbrev pub LacksPart : (members parts : List Member) → Listed → Type 0
LacksPart members parts f = IsMissing (map (λ (g : Member). g.listed) members) (map (λ (g : Member). g.listed) parts) f

module _ (fs : Functions) (members : List Member) where
  -- the line, which begins at the offset, breaks no rule and no limit, and leaves this state
  pub data Accepts (at : ℕ) : State → Line → State → Type 0 where
    header : Accepts at (Between []) line.Header (Between [])
    function : (s : State) (parts : List Member) (f : Member) → HasParts s parts → IsFree members parts f.listed.name f → Accepts at s (line.Function f.listed.name f.listed.stack) (Unfolding parts f (unfolded f))
    inline_code : (parts : List Member) (f : Member) (u : Unfolded) (point : BinaryPoint) (node : ℕ) (callee : CodeFunction) (new : Graph) → IsCodeCall fs u point node callee
        → inlined (graph_at u.frame.binary) node callee.graph callee.own u.instance ≡ Some new → inlined_size (graph_at u.frame.binary) callee.graph ≤ MAX_NODES
        → Accepts at (Unfolding parts f u) (line.InlineBinary point) (Unfolding parts f (with_code f u point callee new))
    inline_source : (parts : List Member) (f : Member) (u : Unfolded) (path : List ℕ) (call node : ℕ) (callee : SourceFunction) (new : Graph) → IsSourceCall fs u path call node callee
        → inlined (graph_at u.frame.source) node callee.graph callee.own u.instance ≡ Some new → inlined_size (graph_at u.frame.source) callee.graph ≤ MAX_NODES
        → Accepts at (Unfolding parts f u) (line.InlineSource (record { path = path; place = place.Call call })) (Unfolding parts f (with_source f u path call callee new))
    first : (parts : List Member) (f : Member) (u : Unfolded) (one : Line) (jobs : List Job) → Passes (part_of parts f u) at (Prove AtEntry u.frame ∷ []) one jobs
        → Accepts at (Unfolding parts f u) one (Inside parts f u jobs)
    next : (parts : List Member) (f : Member) (u : Unfolded) (jobs more : List Job) (one : Line) → Passes (part_of parts f u) at jobs one more
        → Accepts at (Inside parts f u jobs) one (Inside parts f u more)
    last : (s : State) (parts : List Member) → HasParts s parts → ((f : Listed) → LacksPart members parts f → ⊥) → Accepts at s line.End (Between parts)

  -- the first rule that the line breaks in the part of a function of this name, or the limit that comes before it, and the
  -- offset of the line that is at fault: this one, or that of the log whose last step it is
  pub data Rejects (at : ℕ) : State → Line → (offset : ℕ) → (name : List ℕ) → Fault → Type 0 where
    unlisted : (s : State) (parts : List Member) (name : List ℕ) (stack : ℕ) → HasParts s parts → ((f : Member) → IsFree members parts name f → ⊥)
        → Rejects at s (line.Function name stack) at name (Breaks fault.Stranger)
    other_stack : (s : State) (parts : List Member) (name : List ℕ) (stack : ℕ) (f : Member) → HasParts s parts → IsFree members parts name f → stack ≢ f.listed.stack
        → Rejects at s (line.Function name stack) at name (Breaks fault.Stack)
    no_code_call : (parts : List Member) (f : Member) (u : Unfolded) (point : BinaryPoint) → ((node : ℕ) (callee : CodeFunction) → IsCodeCall fs u point node callee → ⊥)
        → Rejects at (Unfolding parts f u) (line.InlineBinary point) at f.listed.name (Breaks fault.Inline)
    code_nodes : (parts : List Member) (f : Member) (u : Unfolded) (point : BinaryPoint) (node : ℕ) (callee : CodeFunction) → IsCodeCall fs u point node callee
        → MAX_NODES < inlined_size (graph_at u.frame.binary) callee.graph
        → Rejects at (Unfolding parts f u) (line.InlineBinary point) at f.listed.name (Above quantity.Nodes)
    no_source_call : (parts : List Member) (f : Member) (u : Unfolded) (point : SourcePoint)
        → ((call node : ℕ) (callee : SourceFunction) → point.place ≡ place.Call call → IsSourceCall fs u point.path call node callee → ⊥)
        → Rejects at (Unfolding parts f u) (line.InlineSource point) at f.listed.name (Breaks fault.Inline)
    source_nodes : (parts : List Member) (f : Member) (u : Unfolded) (path : List ℕ) (call node : ℕ) (callee : SourceFunction) → IsSourceCall fs u path call node callee
        → MAX_NODES < inlined_size (graph_at u.frame.source) callee.graph
        → Rejects at (Unfolding parts f u) (line.InlineSource (record { path = path; place = place.Call call })) at f.listed.name (Above quantity.Nodes)
    first_wrong : (parts : List Member) (f : Member) (u : Unfolded) (one : Line) (offset : ℕ) (wrong : Fault)
        → Fails (part_of parts f u) at (Prove AtEntry u.frame ∷ []) one offset wrong → Rejects at (Unfolding parts f u) one offset f.listed.name wrong
    next_wrong : (parts : List Member) (f : Member) (u : Unfolded) (jobs : List Job) (one : Line) (offset : ℕ) (wrong : Fault)
        → Fails (part_of parts f u) at jobs one offset wrong → Rejects at (Inside parts f u jobs) one offset f.listed.name wrong
    lacking : (s : State) (parts : List Member) (f : Listed) → HasParts s parts → LacksPart members parts f → Rejects at s line.End at f.name (Breaks fault.Missing)

  -- the lines, the first of which begins at the offset, are accepted one after the other
  pub data AreAccepted : (at : ℕ) → State → List Line → State → Type 0 where
    none : (at : ℕ) (s : State) → AreAccepted at s [] s
    some : (at : ℕ) (s middle final : State) (one : Line) (lines : List Line) → Accepts at s one middle → AreAccepted (at + length (line_text one)) middle lines final
        → AreAccepted at s (one ∷ lines) final

  -- they are, but for the one at the offset, which is the first that is rejected, or has the first that is
  pub data IsRejected : (at : ℕ) → State → List Line → (offset : ℕ) → (name : List ℕ) → Fault → Type 0 where
    here : (at : ℕ) (s : State) (one : Line) (lines : List Line) (offset : ℕ) (name : List ℕ) (wrong : Fault) → Rejects at s one offset name wrong
        → IsRejected at s (one ∷ lines) offset name wrong
    there : (at : ℕ) (s middle : State) (one : Line) (lines : List Line) (offset : ℕ) (name : List ℕ) (wrong : Fault) → Accepts at s one middle
        → IsRejected (at + length (line_text one)) middle lines offset name wrong → IsRejected at s (one ∷ lines) offset name wrong

-- ---- what they show

-- the calls of a part are inlined one after the other
pub data Unfolds (fs : Functions) (f : Member) : Unfolded → Type 0 where
  as_it_is : Unfolds fs f (unfolded f)
  code_inlined : (u : Unfolded) (point : BinaryPoint) (node : ℕ) (callee : CodeFunction) (new : Graph) → Unfolds fs f u → IsCodeCall fs u point node callee
      → inlined (graph_at u.frame.binary) node callee.graph callee.own u.instance ≡ Some new → Unfolds fs f (with_code f u point callee new)
  source_inlined : (u : Unfolded) (path : List ℕ) (call node : ℕ) (callee : SourceFunction) (new : Graph) → Unfolds fs f u → IsSourceCall fs u path call node callee
      → inlined (graph_at u.frame.source) node callee.graph callee.own u.instance ≡ Some new → Unfolds fs f (with_source f u path call callee new)

-- functions of the list in order, each unfolded in this way, whose frames are shown after the parts before them
pub data AreShown (fs : Functions) (members : List Member) (Way : Member → Unfolded → Type 0) : List Member → Type 0 where
  no_part : AreShown fs members Way []
  one_more : (parts : List Member) (f : Member) (u : Unfolded) → AreShown fs members Way parts → Contains members f → Way f u
      → IsShown (part_of parts f u) AtEntry u.frame → AreShown fs members Way (parts ++ f ∷ [])

abbrev pub IsPlainLine : Line → Type 0
IsPlainLine (line.InlineBinary point) = ⊥
IsPlainLine (line.InlineSource point) = ⊥
IsPlainLine one = Unit {0}

-- the functions that have a part after lines that are accepted are shown
abbrev pub AcceptedIsShown : Type 0
AcceptedIsShown = (fs : Functions) (members : List Member) (lines : List Line) (final : State) (parts : List Member)
    → AreAccepted fs members 0 (Between []) lines final → HasParts final parts → AreShown fs members (Unfolds fs) parts

-- and as they are, where no line inlines a call
abbrev pub PlainIsShown : Type 0
PlainIsShown = (fs : Functions) (members : List Member) (lines : List Line) (final : State) (parts : List Member)
    → AreAccepted fs members 0 (Between []) lines final → All IsPlainLine lines → HasParts final parts → AreShown fs members (λ f u. u ≡ unfolded f) parts
