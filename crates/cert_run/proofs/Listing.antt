-- Entries of the functions of a list.
use Rattle.std.proofs.Common.{◌≡◌, ◌∙◌, ℕ, ◌+◌, ◌<◌, ◌≤◌, List, [], ◌∷◌, ◌++◌, length, get_or, map, Some, sym, ap, subst, arith, inl, inr}
use Rattle.std.specs.Prelude.{slice_get, option_map, IfOk, Result, Ok, Err}
use Rattle.std.proofs.lemmas.Bool.{cases_lt}
use Rattle.std.proofs.lemmas.List.{length-append, length-map}
use Rattle.std.proofs.lemmas.Option.{slice_get-get_or, slice_get-map, slice_get_within, same_Some}
use Rattle.elf_read_spec.specs.Image.{Image, global_pointer}
use Rattle.graph_core_spec.specs.Graph.{Graphs}
use Rattle.c_types_spec.specs.Core.{Typed}
use Rattle.std.specs.Borrow.{Bor}
use Rattle.pair_setup_calls.specs.Names.{texts_of}
use Rattle.pair_setup.specs.Answers.{functions_of}
use Rattle.pair_setup.specs.Depths.{with_name}
use Rattle.pair_setup.specs.declared.outcome.Function as code
use Rattle.validity_laws.specs.Derivation.{Function}
use Rattle.agreement_laws.specs.EntryFrame.{Pair}
use Rattle.sim_rules_terms.specs.declared.convention.Convention.{Convention}
use Rattle.cert_check_frames.specs.Entries.{AreEntries, IsConventionFor, IsEntryOf}
use Rattle.cert_check_frames.specs.declared.entries.Entry.{Entry}
use Rattle.cert_check_frames.specs.declared.entries.File.{File}
use Rattle.cert_run.specs.Entries.{AreEntriesFor, IsEntryFor, sides_with}
use Rattle.cert_run.specs.Sides.{function_in}
use Rattle.pair_setup.proofs.Seams.{read_before, read_last}
use Rattle.cert_run.proofs.Ready.{functions_at, functions_long}

module _ (unit : Typed) (entries : List ℕ) (file : File) (list : List (List ℕ)) (functions : List code.Function) where
  pub no_entries : (made : List Entry) → made ≡ [] → AreEntriesFor unit entries file list functions 0 made
  no_entries made e = record {
    count = ap (λ (l : List Entry). length l) e;
    each = λ k name f entry there given at.
        let within : k < length made = slice_get_within made k entry at in
        let none : length made ≡ 0 = ap (λ (l : List Entry). length l) e in
        absurd (omega (arith, within, none));
  }

  pub one_entry : (n : ℕ) (made : List Entry) (next : Entry) → AreEntriesFor unit entries file list functions n made
      → ((name : List ℕ) (f : code.Function) → slice_get list n ≡ Some name → slice_get functions n ≡ Some f → IsEntryFor unit entries file name f next)
      → AreEntriesFor unit entries file list functions (n + 1) (made ++ next ∷ [])
  one_entry n made next are is = record {
    count = omega (arith, length-append made (next ∷ []), are.count);
    each = each;
  }
    where
      each : (k : ℕ) (name : List ℕ) (f : code.Function) (e : Entry) → slice_get list k ≡ Some name → slice_get functions k ≡ Some f
          → slice_get (made ++ next ∷ []) k ≡ Some e → IsEntryFor unit entries file name f e
      each k name f e there given at = elim (cases_lt k n) [
        | inl earlier ↦ are.each k name f e there given (read_before made next e k (omega (arith, earlier, are.count)) at)
        | inr later ↦
            let within = slice_get_within (made ++ next ∷ []) k e at in
            let long = length-append made (next ∷ []) in
            let here : k ≡ n = omega (arith, within, long, later, are.count) in
            let same : next ≡ e = read_last made next e (ap (slice_get (made ++ next ∷ [])) (are.count ∙ sym here) ∙ at) in
            subst (λ (x : Entry). IsEntryFor unit entries file name f x) same
            (is name f (ap (slice_get list) (sym here) ∙ there) (ap (slice_get functions) (sym here) ∙ given))
      ]

  -- all of them, for an executable
  module _ (image : Image) (firsts : List (List (ℕ × ℕ))) (graphs : Graphs) (pointer : global_pointer image ≡ file.pointer) (enough : length list ≤ length functions)
      (made : List Entry) (are : AreEntriesFor unit entries file list functions (length list) made) where
    pub are_entries : AreEntries (sides_with image unit entries file firsts graphs) (map (function_in unit) (functions_of list functions)) made
    are_entries = record {
      count = omega (arith, are.count, length-map (functions_of list functions) (function_in unit), functions_long list functions enough);
      each = each;
    }
      where
        each : (k : ℕ) (g : Function) (e : Entry) → slice_get (map (function_in unit) (functions_of list functions)) k ≡ Some g → slice_get made k ≡ Some e
            → IsEntryOf (sides_with image unit entries file firsts graphs) g e
        each k g e there at =
            let below : k < length list = (let within = slice_get_within made k e at in omega (arith, within, are.count)) in
            let name : List ℕ = get_or list k [] in
            let d : code.Function = record { entry = 0; size = 0; stack = 0 } in
            let f : code.Function = get_or functions k d in
            let name_is = slice_get-get_or list k [] below in
            let f_is = slice_get-get_or functions k d (omega (arith, below, enough)) in
            let here = functions_at list functions k name f name_is f_is in
            let same : function_in unit (with_name name f) ≡ g =
            same_Some (function_in unit (with_name name f)) g
            (sym (slice_get-map (function_in unit) (functions_of list functions) k ∙ ap (option_map (function_in unit)) here) ∙ there) in
            subst (λ (x : Function). IsEntryOf (sides_with image unit entries file firsts graphs) x e) same
            (are.each k name f e name_is f_is at image firsts graphs pointer)

-- ---- names of the list

pub text_at : (list : List (Bor (List ℕ))) (k : ℕ) (d : Bor (List ℕ)) → k < length list → slice_get (texts_of list) k ≡ Some (get_or list k d).now
text_at list k d below =
    slice_get-map (λ (t : Bor (List ℕ)). t.now) list k ∙ ap (option_map (λ (t : Bor (List ℕ)). t.now)) (slice_get-get_or list k d below)

pub texts_long : (list : List (Bor (List ℕ))) → length (texts_of list) ≡ length list
texts_long list = length-map list (λ (t : Bor (List ℕ)). t.now)

-- ---- conventions

pub one_convention : (q : Pair) (functions : List Function) (old : List Convention) (next : Convention) (n : ℕ) → length old ≡ n
    → ((k : ℕ) (g : Function) (c : Convention) → slice_get functions k ≡ Some g → slice_get old k ≡ Some c → IsConventionFor q g c)
    → ((g : Function) → slice_get functions n ≡ Some g → IsConventionFor q g next)
    → (k : ℕ) (g : Function) (c : Convention) → slice_get functions k ≡ Some g → slice_get (old ++ next ∷ []) k ≡ Some c → IsConventionFor q g c
one_convention q functions old next n long before is k g c there at = elim (cases_lt k n) [
  | inl earlier ↦ before k g c there (read_before old next c k (omega (arith, earlier, long)) at)
  | inr later ↦
      let within = slice_get_within (old ++ next ∷ []) k c at in
      let grown = length-append old (next ∷ []) in
      let here : k ≡ n = omega (arith, within, grown, later, long) in
      let same : next ≡ c = read_last old next c (ap (slice_get (old ++ next ∷ [])) (long ∙ sym here) ∙ at) in
      subst (λ (x : Convention). IsConventionFor q g x) same (is g (ap (slice_get functions) (sym here) ∙ there))
]

-- ---- what is so of every executable

pub entry_for : {E : Type 0} (unit : Typed) (entries : List ℕ) (file : File) (name : List ℕ) (f : code.Function) (r : Result Entry E)
    → ((image : Image) (firsts : List (List (ℕ × ℕ))) (graphs : Graphs) → global_pointer image ≡ file.pointer
    → IfOk r (IsEntryOf (sides_with image unit entries file firsts graphs) (function_in unit (with_name name f))))
    → IfOk r (IsEntryFor unit entries file name f)
entry_for unit entries file name f (Ok e) h = h
entry_for unit entries file name f (Err x) h = tt
