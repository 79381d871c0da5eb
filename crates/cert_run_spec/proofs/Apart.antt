-- The listed functions of two files are told apart by their names.
use Rattle.std.proofs.Common.{◌≡◌, ◌∙◌, ℕ, zero, suc, Bool, true, false, cond, List, [], ◌∷◌, map, get_or, Some, refl, sym, ap, subst, arith, bytes_eq}
use Rattle.std.specs.Prelude.{All, Contains, find}
use Rattle.std.proofs.lemmas.List.Elements.{All-map}
use Rattle.std.proofs.lemmas.Slice.Eq.{bytes_eq-Decides}
use Rattle.elf_read_spec.specs.Image.{Image}
use Rattle.c_types_spec.specs.Core.{Body, Typed}
use Rattle.c_graph_spec.specs.State.{sort_of_scalar}
use Rattle.c_graph_spec.specs.SourceGraph.{body_number}
use Rattle.pair_setup_spec.specs.SourceReach.{body_of}
use Rattle.pair_setup_spec.specs.Outcome as outcome
use Rattle.pair_setup_spec.specs.Outcome.{IsFunction}
use Rattle.proof_tree_spec.specs.Scope as scope
use Rattle.agreement_laws.specs.EntryFrame.{Pair, scope_of}
use Rattle.validity_laws.specs.Derivation.{Function}
use Rattle.cert_check_terms.specs.Variables.{AreApart}
use Rattle.cert_check_spec.specs.Verdict.{Listed}
use Rattle.validity_laws.specs.CheckStatements.{listed_of}
use Rattle.validity_laws.proofs.SourceGraphs.{same_name}
use Rattle.cert_run_spec.specs.Files.{IsFunctionOf, AreFunctionsOf, firsts_of, sides_of}
use Rattle.cert_run_spec.specs.Laws.{AreToldApart, FunctionsAreToldApart}
use Rattle.cert_run_spec.proofs.Listing.{same_function}

-- ---- bodies by names

pub found_name : (bodies : List Body) (name : List ℕ) (body : Body) → find (λ (b : Body). bytes_eq b.name name) bodies ≡ Some body → body.name ≡ name
found_name [] name body e = absurd (cc)
found_name (b ∷ bodies) name body e = by (bytes_eq b.name name) refl e (λ h. found_name bodies name body h)
  where
    by : (t : Bool) → bytes_eq b.name name ≡ t → cond t (Some b) (find (λ (c : Body). bytes_eq c.name name) bodies) ≡ Some body
        → (find (λ (c : Body). bytes_eq c.name name) bodies ≡ Some body → body.name ≡ name) → body.name ≡ name
    by true is h others =
        let same : b ≡ body = cc in
        ap (λ (c : Body). c.name) (sym same) ∙ (bytes_eq-Decides b.name name).0 is
    by false is h others = others h

-- ---- members

-- an element of a list of values
pub mapped_from : {X Y : Type 0} (f : X → Y) (xs : List X) (y : Y) → Contains (map f xs) y → (x : X) × Contains xs x × (f x ≡ y)
mapped_from f [] y (k, below, is) = absurd (omega (arith, below))
mapped_from f (x ∷ xs) y (zero, below, is) = (x, (0, omega arith, refl), is)
mapped_from f (x ∷ xs) y (suc k, below, is) =
    let rest = mapped_from f xs y (k, omega (arith, below), is) in
    (rest.0, (suc rest.1.0, omega (arith, rest.1.1), rest.1.2), rest.2)

-- a function and what pairing says of it
pub record HasPair (image : Image) (unit : Typed) (all : List outcome.Function) (g : Function) : Type 0 where
  pub listed : outcome.Function
  pub among : Contains all listed
  pub of : IsFunctionOf unit listed g
  pub is : IsFunction image unit listed

lifted : (image : Image) (unit : Typed) (f : outcome.Function) (all : List outcome.Function) (g : Function) → HasPair image unit all g → HasPair image unit (f ∷ all) g
lifted image unit f all g p =
    let (k, below, is) = p.among in
    record { listed = p.listed; among = (suc k, omega (arith, below), is); of = p.of; is = p.is }

pub has_pair : (image : Image) (unit : Typed) (listed : List outcome.Function) (functions : List Function) → AreFunctionsOf unit listed functions
    → All (IsFunction image unit) listed → (g : Function) → Contains functions g → HasPair image unit listed g
unfolding AreFunctionsOf
has_pair image unit [] [] are each g (k, below, is) = absurd (omega (arith, below))
has_pair image unit [] (h ∷ functions) are each g among = absurd are
has_pair image unit (f ∷ listed) [] are each g among = absurd are
has_pair image unit (f ∷ listed) (h ∷ functions) are each g (zero, below, is) =
    subst (HasPair image unit (f ∷ listed)) is (record { listed = f; among = (0, omega arith, refl); of = are.0; is = each 0 f (omega arith) })
has_pair image unit (f ∷ listed) (h ∷ functions) are each g (suc k, below, is) =
    lifted image unit f listed g
    (has_pair image unit listed functions are.1 (λ n d inside. each (suc n) d (omega (arith, inside))) g (k, omega (arith, below), is))

pub its_name : (image : Image) (unit : Typed) (all : List outcome.Function) (g : Function) (p : HasPair image unit all g) → g.body.name ≡ p.listed.name
its_name image unit all g p = found_name unit.bodies p.listed.name g.body p.of.body_is

pub same_by_name : (image : Image) (unit : Typed) (all : List outcome.Function) (g h : Function) → HasPair image unit all g → HasPair image unit all h → g.body.name ≡ h.body.name → g ≡ h
same_by_name image unit all g h x y name_is =
    let names : x.listed.name ≡ y.listed.name = sym (its_name image unit all g x) ∙ (name_is ∙ its_name image unit all h y) in
    let listed_is = same_function image unit x.listed y.listed x.is y.is names in
    let entry_is : g.entry ≡ h.entry = x.of.entry_is ∙ (ap (λ (f : outcome.Function). f.entry) listed_is ∙ sym y.of.entry_is) in
    let stack_is : g.stack ≡ h.stack = x.of.stack_is ∙ (ap (λ (f : outcome.Function). f.stack) listed_is ∙ sym y.of.stack_is) in
    let left : body_of unit x.listed.name ≡ Some g.body = x.of.body_is in
    let right : body_of unit x.listed.name ≡ Some h.body = ap (body_of unit) names ∙ y.of.body_is in
    let body_is : g.body ≡ h.body = cc in
    λ i. record { entry = entry_is i; stack = stack_is i; body = body_is i }

-- ---- bodies of a function

pub only_one : {X : Type 0} (x y : X) → Contains (x ∷ []) y → y ≡ x
only_one x y (zero, below, is) = sym is
only_one x y (suc k, below, is) = absurd (omega (arith, below))

apart_alone : (b : scope.Body) → AreApart (b ∷ [])
apart_alone b = record {
  by_path = λ c d x y same. only_one b c x ∙ sym (only_one b d y);
  by_instance = λ c d x y same. only_one b c x ∙ sym (only_one b d y);
}

pub one_apart : (body : Body) → AreApart (scope_of body).bodies
one_apart body = apart_alone (record { path = []; instance = 0; locals = map sort_of_scalar body.locals })

-- ---- the law

pub told_apart : FunctionsAreToldApart
told_apart image unit list pairs listed paired are =
    subst AreToldApart (sym are.listed_are)
    (record {
      by_name = λ f g x y same. named f g (mapped_from (listed_of q firsts) are.functions f x) (mapped_from (listed_of q firsts) are.functions g y) same;
      by_number = λ f g x y same. numbered f g (mapped_from (listed_of q firsts) are.functions f x) (mapped_from (listed_of q firsts) are.functions g y) same;
      bodies = All-map (λ (f : Listed). AreApart f.frame.setting.bodies) (listed_of q firsts) are.functions (λ k d inside. one_apart (get_or are.functions k d).body);
    })
  where
    q : Pair
    q = sides_of image unit are.runs pairs.entries are.sides

    firsts : List (List (ℕ × ℕ))
    firsts = firsts_of are.sides

    pair : (g : Function) → Contains are.functions g → HasPair image unit pairs.functions g
    pair = has_pair image unit pairs.functions are.functions are.functions_are paired.functions_are

    named : (f g : Listed) → (a : Function) × Contains are.functions a × (listed_of q firsts a ≡ f) → (b : Function) × Contains are.functions b × (listed_of q firsts b ≡ g) → f.name ≡ g.name → f ≡ g
    named f g (a, x, is) (b, y, other) same =
        let names : a.body.name ≡ b.body.name = ap (λ (h : Listed). h.name) is ∙ (same ∙ sym (ap (λ (h : Listed). h.name) other)) in
        sym is ∙ (ap (listed_of q firsts) (same_by_name image unit pairs.functions a b (pair a x) (pair b y) names) ∙ other)

    -- a number of a body is of one name
    numbered : (f g : Listed) → (a : Function) × Contains are.functions a × (listed_of q firsts a ≡ f) → (b : Function) × Contains are.functions b × (listed_of q firsts b ≡ g)
        → f.frame.source.outermost ≡ g.frame.source.outermost → f ≡ g
    numbered f g (a, x, is) (b, y, other) same =
        let numbers : body_number a.body.name unit.bodies ≡ body_number b.body.name unit.bodies =
        ap (λ (h : Listed). h.frame.source.outermost) is ∙ (same ∙ sym (ap (λ (h : Listed). h.frame.source.outermost) other)) in
        let of_b = pair b y in
        let there : body_of unit b.body.name ≡ Some b.body = ap (body_of unit) (its_name image unit pairs.functions b of_b) ∙ of_b.of.body_is in
        let names : a.body.name ≡ b.body.name = same_name unit.bodies a.body.name b.body.name b.body there numbers in
        sym is ∙ (ap (listed_of q firsts) (same_by_name image unit pairs.functions a b (pair a x) of_b names) ∙ other)
