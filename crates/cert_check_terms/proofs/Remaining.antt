-- Reading symbols one after the other, and the line that they spell.
use Rattle.std.proofs.Common.{◌≡◌, ◌∙◌, ℕ, ◌+◌, ◌<◌, ◌≤◌, Bool, true, false, List, [], ◌∷◌, length, get_or, drop, map, Option, Some, None, Ok, Err, Result, refl, sym, ap, subst}
use Rattle.std.specs.Prelude.{bytes_eq, if◌then◌else◌, option_and_then}
use Rattle.std.proofs.lemmas.List.{at_drop_more, at_drop_all}
use Rattle.std.proofs.lemmas.List.Elements.{All-nil}
use Rattle.term_core_spec.specs.Term.{Term}
use Rattle.term_bank.specs.Nodes.{tree_at}
use Rattle.term_bank.proofs.Growth.{held}
use Rattle.cert_text_spec.specs.declared.Symbol.{Symbol}
use Rattle.proof_tree_spec.specs.Scope.{Setting}
use Rattle.proof_tree.specs.declared.scope.Body.{Body}
use Rattle.proof_tree.specs.Scope.{body_of}
use Rattle.cert_check_terms.specs.Variables.{body_with}
use Rattle.cert_check_terms.specs.Reading as spec
use Rattle.cert_check_terms.specs.Reading.{run, step, finished, begun, line_of}
use Rattle.attempt.specs.declared.refusal.Refusal.{Refusal}
use Rattle.attempt.specs.declared.refusal.Refusal.TheVariants.{Fault, NoMemory}
use Rattle.cert_check_terms.specs.declared.fault.TermFault.{TermFault}
use Rattle.cert_check_terms.specs.declared.fault.TermFault.TheVariants as fault
use Rattle.cert_check_terms.specs.declared.reading.Entry.{Entry}
use Rattle.cert_check_terms.specs.declared.reading.Reading.{Reading}
use Rattle.cert_check_terms.specs.Views.{entries_of, reading_of, AreInside, IsInside}
use Rattle.cert_check_terms.specs.Outcomes.{IsRead, Goes, Finds}
use Rattle.cert_check_terms.proofs.Stacks.{none_stacked}
use Rattle.cert_check_terms.proofs.Complete.{line_read}
use Rattle.cert_check_terms.proofs.Sound.{line_spelled}

module _ (s : Setting) (path : List ℕ) where
  one_symbol : (r : spec.Reading) (x : Symbol) (symbols : List Symbol) (o : Option spec.Reading) → step s path r x ≡ o
      → run s path r (x ∷ symbols) ≡ option_and_then (λ (q : spec.Reading). run s path q symbols) o
  unfolding run
  one_symbol r x symbols o is = ap (option_and_then (λ (q : spec.Reading). run s path q symbols)) is

  no_symbol : (r : spec.Reading) → run s path r [] ≡ Some r
  unfolding run
  no_symbol r = refl

  -- what was read first comes to what is left, from this on
  abbrev pub IsLeft : (first : spec.Reading) → (symbols : List Symbol) → (now : spec.Reading) → (i : ℕ) → Type 0
  IsLeft first symbols now i = run s path first symbols ≡ run s path now (drop i symbols)

  pub one_more : (trees : List Term) (first r : spec.Reading) (symbols : List Symbol) (i : ℕ) (d : Symbol) (now : Reading) → IsLeft first symbols r i → i < length symbols
      → Goes trees (step s path r (get_or symbols i d)) now (Ok (tt {0})) → IsLeft first symbols (reading_of trees now) (i + 1)
  one_more trees first r symbols i d now left within goes =
      left ∙ (at_drop_more (run s path r) symbols i d within ∙ one_symbol r (get_or symbols i d) (drop (i + 1) symbols) (Some (reading_of trees now)) goes.1)

  pub one_fails : (trees : List Term) (first r : spec.Reading) (symbols : List Symbol) (i : ℕ) (d : Symbol) (now : Reading) (f : Refusal TermFault) → IsLeft first symbols r i → i < length symbols
      → Goes trees (step s path r (get_or symbols i d)) now (Err f) → Goes trees (run s path first symbols) now (Err f)
  one_fails trees first r symbols i d now (Fault fault.Sort) left within goes =
      left ∙ (at_drop_more (run s path r) symbols i d within ∙ one_symbol r (get_or symbols i d) (drop (i + 1) symbols) None goes)
  one_fails trees first r symbols i d now NoMemory left within goes = tt

  pub all_read : (trees : List Term) (first : spec.Reading) (symbols : List Symbol) (i : ℕ) (now : Reading) → IsLeft first symbols (reading_of trees now) i → length symbols ≤ i
      → AreInside (length trees) now.entries.items → Goes trees (run s path first symbols) now (Ok (tt {0}))
  all_read trees first symbols i now left past inside =
      (inside, left ∙ (at_drop_all (run s path (reading_of trees now)) symbols i past ∙ no_symbol (reading_of trees now)))

  -- ---- lines

  found_line : (symbols : List Symbol) (trees : List Term) (result : Result ℕ (Refusal TermFault)) → Finds trees (line_of s path symbols) result → IsRead s path symbols trees result
  found_line symbols trees (Ok id) finds =
      let is = line_spelled s path symbols (tree_at trees id) finds.1 in
      record { line = tree_at trees id; held = held trees id finds.0; spelled = is.is_term; is_line = is.is_line }
  found_line symbols trees (Err (Fault fault.Sort)) finds = λ apart line spelled fine.
      absurd (let found = line_read s path apart symbols line spelled fine in cc)
  found_line symbols trees (Err NoMemory) finds = tt

  pub line_found : (symbols : List Symbol) (before trees : List Term) (first now : Reading) (result : Result ℕ (Refusal TermFault)) → reading_of before first ≡ begun
      → Goes trees (run s path (reading_of before first) symbols) now (Ok (tt {0})) → Finds trees (finished (reading_of trees now)) result → IsRead s path symbols trees result
  line_found symbols before trees first now result empty goes finds =
      found_line symbols trees result
      (subst (λ (o : Option spec.Reading). Finds trees (option_and_then finished o) result)
      (sym (ap (λ (r : spec.Reading). run s path r symbols) (sym empty) ∙ goes.1)) finds)

  pub line_missing : (symbols : List Symbol) (before trees : List Term) (first now : Reading) (f : Refusal TermFault) → reading_of before first ≡ begun
      → Goes trees (run s path (reading_of before first) symbols) now (Err f) → IsRead s path symbols trees (Err f)
  line_missing symbols before trees first now (Fault fault.Sort) empty goes =
      found_line symbols trees (Err (Fault fault.Sort)) (ap (option_and_then finished) (ap (λ (r : spec.Reading). run s path r symbols) (sym empty) ∙ goes))
  line_missing symbols before trees first now NoMemory empty goes = tt

pub nothing_read : (trees : List Term) (r : Reading) → r.calls.items ≡ [] → r.entries.items ≡ [] → reading_of trees r ≡ begun
nothing_read trees r calls entries =
    ap (λ (c : List ℕ). spec.with_calls c (entries_of trees r.entries.items)) calls
    ∙ ap (λ (es : List spec.Entry). spec.with_calls [] es) (ap (entries_of trees) entries ∙ none_stacked trees)

pub none_inside : (n : ℕ) (entries : List Entry) → entries ≡ [] → AreInside n entries
none_inside n entries none = subst (AreInside n) (sym none) (All-nil (IsInside n))

-- ---- bodies, one after the other

abbrev pub IsBodyLeft : (calls : List ℕ) → List Body → (i : ℕ) → Type 0
IsBodyLeft calls bodies i = body_with calls (map body_of bodies) ≡ body_with calls (map body_of (drop i bodies))

next_body : (calls : List ℕ) (bodies : List Body) (i : ℕ) (b : Body) → IsBodyLeft calls bodies i → i < length bodies → b ≡ get_or bodies i b
    → body_with calls (map body_of bodies) ≡ (if bytes_eq b.path.items calls then Some (body_of b) else body_with calls (map body_of (drop (i + 1) bodies)))
next_body calls bodies i b left within is =
    left ∙ (at_drop_more (λ (list : List Body). body_with calls (map body_of list)) bodies i b within
    ∙ ap (λ (x : Body). body_with calls (map body_of (x ∷ drop (i + 1) bodies))) (sym is))

pub body_found : (calls : List ℕ) (bodies : List Body) (i : ℕ) (b : Body) → IsBodyLeft calls bodies i → i < length bodies → b ≡ get_or bodies i b → bytes_eq b.path.items calls ≡ true
    → Some (body_of b) ≡ body_with calls (map body_of bodies)
body_found calls bodies i b left within is same =
    sym (next_body calls bodies i b left within is ∙ ap (λ (t : Bool). if t then Some (body_of b) else body_with calls (map body_of (drop (i + 1) bodies))) same)

pub body_passed : (calls : List ℕ) (bodies : List Body) (i : ℕ) (b : Body) → IsBodyLeft calls bodies i → i < length bodies → b ≡ get_or bodies i b → bytes_eq b.path.items calls ≡ false
    → IsBodyLeft calls bodies (i + 1)
body_passed calls bodies i b left within is other =
    next_body calls bodies i b left within is ∙ ap (λ (t : Bool). if t then Some (body_of b) else body_with calls (map body_of (drop (i + 1) bodies))) other

pub no_body : (calls : List ℕ) (bodies : List Body) (i : ℕ) → IsBodyLeft calls bodies i → length bodies ≤ i → None ≡ body_with calls (map body_of bodies)
no_body calls bodies i left past = sym (left ∙ at_drop_all (λ (list : List Body). body_with calls (map body_of list)) bodies i past)
