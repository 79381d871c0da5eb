-- Listed functions: the frames at their entries, the terms of variables there, and which of the definitions they are.
use Rattle.std.specs.Prelude.{◌≡◌, ℕ, List, [], ◌∷◌, length, map, get_or, Option, Some, None, slice_get, if◌then◌else◌}
use Rattle.std.specs.Borrow.{Bor}
use Rattle.indexmap.specs.IndexMap.{IndexMap}
use Rattle.memory_spec.specs.Viewed.{runs_of}
use Rattle.term_core_spec.specs.declared.Variable.{Variable}
use Rattle.term_core_spec.specs.Same.{same_variable}
use Rattle.term_core_spec.specs.Term.{Term, open_term}
use Rattle.term_core_spec.specs.Substitution.{State as Terms}
use Rattle.term_core.specs.Trees.{term_of}
use Rattle.path_cond.specs.States.{IsMapOf}
use Rattle.proof_tree_spec.specs.declared.Place.{Place}
use Rattle.proof_tree_spec.specs.Frames.{Frame, Start}
use Rattle.proof_tree.specs.Frames.{side_of, terms_of}
use Rattle.proof_tree.specs.Scope.{setting_of}
use Rattle.sim_rules_spec.specs.Calling.{zone_from, at_entry}
use Rattle.sim_rules_terms.specs.Conventions.{IsConventionOf}
use Rattle.cert_check_spec.specs.Verdict as spec
use Rattle.cert_check_terms.specs.Variables.{AreApart}
use Rattle.cert_check_frames.specs.declared.listed.Fact.{Fact}
use Rattle.cert_check_frames.specs.declared.listed.Listed.{Listed}
use Rattle.cert_check_frames.specs.declared.listed.PlaceNode.{PlaceNode}

-- the terms of these variables, the first of each; another variable is itself
unfoldable pub terms_given : List Fact → Terms
terms_given [] = open_term
terms_given (fact ∷ facts) = λ v. if same_variable v fact.variable then term_of fact.term.value else terms_given facts v

-- the term of a variable is put before those that are known
abbrev pub PutsFact : Fact → (before now : List Term) → (old new : Variable → Option ℕ) → Type 0
PutsFact fact before now old new = (facts : List Fact) → IsMapOf before old (terms_given facts) → IsMapOf now new (terms_given (fact ∷ facts))

-- no variable has a term
abbrev pub nothing_known : (Variable → Option ℕ) → Type 0
nothing_known ids = (v : Variable) → ids v ≡ None

-- where a frame of the function starts, with these premises
abbrev pub start_with : Listed → List Term → Start
start_with f premises = record { nodes = f.nodes; path = f.path.now; premises = premises; binary_bounds = []; source_bounds = [] }

abbrev pub HasStart : Listed → List Term → Start → Type 0
HasStart f premises start = start ≡ start_with f premises

-- the frame at the entry: from there to the returns
abbrev pub frame_at : Listed → Frame
frame_at f = record {
  binary = side_of f.binary;
  source = side_of f.source;
  setting = setting_of f.setting.now;
  entry = terms_of f.entry.now;
  start = start_with f (terms_of f.entry.now);
  goals = [];
  holds = [];
}

-- ---- points

-- by address the first node of each instruction of its code
abbrev pub firsts_if : {S : Type 0} → Option (Bor (IndexMap ℕ ℕ S)) → List (ℕ × ℕ)
firsts_if (Some firsts) = firsts.now.entries
firsts_if None = []

abbrev pub firsts_at : Listed → List (ℕ × ℕ)
firsts_at code = firsts_if code.firsts

-- the node of each place of its source
abbrev pub place_of : PlaceNode → Place × ℕ
place_of p = (p.place, p.node)

abbrev pub places_in : List PlaceNode → List (Place × ℕ)
places_in places = map place_of places

abbrev pub places_at : Listed → List (Place × ℕ)
places_at code = places_in code.places.now

-- ---- which of the definitions it is

-- the function is listed so. Its bodies are told apart, so that a spelling has one term at most
pub record IsListed (code : Listed) (f : spec.Listed) : Type 0 where
  pub named : f.name ≡ code.name.now
  pub stack_is : f.stack ≡ code.stack
  pub convention_is : IsConventionOf code.convention.now f.convention
  pub zone_from_is : f.convention.zone_from ≡ zone_from code.stack
  pub zone_to_is : f.convention.zone_to ≡ at_entry 2
  pub binary_is : (v : Variable) → f.opening.binary v ≡ terms_given code.binary_terms.now v
  pub source_is : (v : Variable) → f.opening.source v ≡ terms_given code.source_terms.now v
  pub frame_is : f.frame ≡ frame_at code
  pub runs_are : f.runs ≡ runs_of code.runs.now
  pub firsts_are : firsts_at code ≡ get_or f.firsts f.frame.binary.outermost []
  pub places_are : places_at code ≡ get_or f.points f.frame.source.outermost []
  pub apart : AreApart f.frame.setting.bodies

-- these are the listed functions, in their order
pub record AreListed (codes : List Listed) (listed : List spec.Listed) : Type 0 where
  pub count : length codes ≡ length listed
  pub each : (k : ℕ) (code : Listed) (f : spec.Listed) → slice_get codes k ≡ Some code → slice_get listed k ≡ Some f → IsListed code f
