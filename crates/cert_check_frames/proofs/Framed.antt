-- Listed functions as those that the definitions speak of.
use Rattle.std.proofs.Common.{◌≡◌, ◌∙◌, ℕ, zero, suc, ◌<◌, ◌+◌, List, [], ◌∷◌, ◌++◌, length, map, Option, Some, None, option_map, get_or, refl, sym, ap, subst, inl, inr, arith}
use Rattle.std.specs.Prelude.{slice_get}
use Rattle.std.specs.Option.{option_map_or}
use Rattle.std.proofs.lemmas.Bool.{cases_lt}
use Rattle.std.proofs.lemmas.List.{length-append}
use Rattle.std.proofs.lemmas.Option.{slice_get-map, slice_get-get_or, slice_get_within, same_Some}
use Rattle.term_bank.proofs.Growth.{slice_get-front, slice_get-seam}
use Rattle.term_core_spec.specs.declared.Variable.{Variable}
use Rattle.term_core_spec.specs.Term.{Term, open_term}
use Rattle.graph_core_spec.specs.Graph.{Graphs}
use Rattle.proof_tree_spec.specs.Scope.{Setting}
use Rattle.proof_tree_spec.specs.Frames.{Frame}
use Rattle.cert_check_spec.specs.Verdict.{Listed}
use Rattle.agreement_laws.specs.EntryFrame.{Fact, Pair, binary_facts, given}
use Rattle.validity_laws.specs.Derivation.{Function, pair_for}
use Rattle.validity_laws.specs.CheckStatements.{listed_of}
use Rattle.cert_check_frames.specs.declared.listed.Fact.{Fact as CodeFact}
use Rattle.cert_check_frames.specs.declared.listed.Listed.{Listed as CodeListed}
use Rattle.cert_check_frames.specs.Listed.{IsListed, terms_given}
use Rattle.cert_check_frames.specs.Facts.{facts_of, memory_fact}
use Rattle.cert_check_frames.proofs.Opened.{given_of, given_before}

-- from the beginning of both graphs to the returns
abbrev pub frame : (binary source : Graphs) (code body first : ℕ) → Setting → (entry : List Term) → Frame
frame binary source code body first setting entry = record {
  binary = record { graphs = binary; outermost = code };
  source = record { graphs = source; outermost = body };
  setting = setting;
  entry = entry;
  start = record { nodes = record { binary = first; source = 0 }; path = []; premises = entry; binary_bounds = []; source_bounds = [] };
  goals = [];
  holds = [];
}

pub same_frame : (b1 b2 s1 s2 : Graphs) (c1 c2 n1 n2 f1 f2 : ℕ) (g1 g2 : Setting) (e1 e2 : List Term) → b1 ≡ b2 → s1 ≡ s2 → c1 ≡ c2 → n1 ≡ n2 → f1 ≡ f2 → g1 ≡ g2 → e1 ≡ e2
    → frame b1 s1 c1 n1 f1 g1 e1 ≡ frame b2 s2 c2 n2 f2 g2 e2
same_frame b1 b2 s1 s2 c1 c2 n1 n2 f1 f2 g1 g2 e1 e2 b s c n f g e =
    ap (λ (x : Graphs). frame x s1 c1 n1 f1 g1 e1) b
    ∙ ap (λ (x : Graphs). frame b2 x c1 n1 f1 g1 e1) s
    ∙ ap (λ (x : ℕ). frame b2 s2 x n1 f1 g1 e1) c
    ∙ ap (λ (x : ℕ). frame b2 s2 c2 x f1 g1 e1) n
    ∙ ap (λ (x : ℕ). frame b2 s2 c2 n2 x g1 e1) f
    ∙ ap (λ (x : Setting). frame b2 s2 c2 n2 f2 x e1) g
    ∙ ap (λ (x : List Term). frame b2 s2 c2 n2 f2 g2 x) e

-- the binary's terms at an entry: those of its registers, and of its memory as at a cut
pub binary_is : (q : Pair) (firsts : List (List (ℕ × ℕ))) (g : Function) (facts : List CodeFact) → facts_of facts ≡ binary_facts (pair_for q g) ++ memory_fact g.stack ∷ []
    → (v : Variable) → (listed_of q firsts g).opening.binary v ≡ terms_given facts v
binary_is q firsts g facts are v =
    sym (given_before (binary_facts (pair_for q g)) (memory_fact g.stack ∷ []) open_term v)
    ∙ ap (λ (l : List Fact). given l open_term v) (sym are)
    ∙ sym (given_of facts v)

-- a function of the list, and what it is listed as
pub listed_at : (q : Pair) (firsts : List (List (ℕ × ℕ))) (functions : List Function) (k : ℕ) (f : Listed) → slice_get (map (listed_of q firsts) functions) k ≡ Some f
    → (g : Function) × (slice_get functions k ≡ Some g) × (listed_of q firsts g ≡ f)
listed_at q firsts functions k f there = at (slice_get functions k) refl (sym (slice_get-map (listed_of q firsts) functions k) ∙ there)
  where
    at : (o : Option Function) → slice_get functions k ≡ o → option_map (listed_of q firsts) o ≡ Some f → (g : Function) × (slice_get functions k ≡ Some g) × (listed_of q firsts g ≡ f)
    at (Some g) e is = (g, e, same_Some (listed_of q firsts g) f is)
    at None e is = let bad : None ≡ Some f = is in absurd (cc)

-- one function more
pub listed_next : (q : Pair) (firsts : List (List (ℕ × ℕ))) (functions : List Function) (codes : List CodeListed) (next : CodeListed)
    → ((k : ℕ) (code : CodeListed) (f : Listed) → slice_get codes k ≡ Some code → slice_get (map (listed_of q firsts) functions) k ≡ Some f → IsListed code f)
    → (n : ℕ) → length codes ≡ n → ((g : Function) → slice_get functions n ≡ Some g → IsListed next (listed_of q firsts g))
    → (k : ℕ) (code : CodeListed) (f : Listed) → slice_get (codes ++ next ∷ []) k ≡ Some code → slice_get (map (listed_of q firsts) functions) k ≡ Some f → IsListed code f
listed_next q firsts functions codes next before n long new k code f there at = elim (cases_lt k n) [
  | inl earlier ↦ before k code f (sym (kept k earlier) ∙ there) at
  | inr later ↦
      let within = slice_get_within (codes ++ next ∷ []) k code there in
      let grown = length-append codes (next ∷ []) in
      let here : k ≡ length codes = omega (arith, within, grown, later, long) in
      let is : next ≡ code = same_Some next code (sym (slice_get-seam codes [] next) ∙ ap (slice_get (codes ++ next ∷ [])) (sym here) ∙ there) in
      let g = listed_at q firsts functions k f at in
      subst (λ (l : Listed). IsListed code l) g.2
      (subst (λ (c : CodeListed). IsListed c (listed_of q firsts g.0)) is (new g.0 (ap (slice_get functions) (sym long ∙ sym here) ∙ g.1)))
]
  where
    kept : (k : ℕ) → k < n → slice_get (codes ++ next ∷ []) k ≡ slice_get codes k
    kept k less =
        let there = slice_get-get_or codes k next (omega (arith, less, long)) in
        slice_get-front codes (next ∷ []) k (get_or codes k next) there ∙ sym there

-- an item of the images of a list
pub got_or : {X Y : Type 0} (f : X → Y) (xs : List X) (n : ℕ) (d : Y) → get_or (map f xs) n d ≡ option_map_or f (slice_get xs n) d
got_or f [] n d = refl
got_or f (x ∷ xs) zero d = refl
got_or f (x ∷ xs) (suc n) d = got_or f xs n d
