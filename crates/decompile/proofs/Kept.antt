-- Which branches keep the index of a table.
use Rattle.std.proofs.Common.{◌≡◌, ◌⊎◌, ◌∙◌, inl, inr, ℕ, zero, suc, ◌+◌, ◌<◌, Bool, true, false, cond, refl, sym, ap, subst, arith, eqb-true, eq-eqb, List, [], ◌∷◌, ◌++◌, length, map, take, get_or, Option, Some, None}
use Rattle.std.specs.Prelude.{Contains, nat_eq}
use Rattle.std.specs.List.{list_any}
use Rattle.std.proofs.lemmas.List.{take_more}
use Rattle.std.proofs.lemmas.List.Elements.{Contains-append_left, Contains-append_right, Contains-append_cases, Contains-push}
use Rattle.std.proofs.lemmas.List.Folds.{list_any_at}
use Rattle.std.proofs.lemmas.Option.{same_Some}
use Rattle.indexmap.specs.IndexSet.{insert_key}
use Rattle.indexmap.proofs.CallerLemmas.{Contains-list_any, Contains-insert_key}
use Rattle.elf_read_spec.specs.Image.{Image}
use Rattle.code_reach_spec.specs.Code as code
use Rattle.code_reach_spec.specs.Code.{Flow, flow_at, IsReachable}
use Rattle.code_reach.specs.declared.flows.Flow.{Flow as CodeFlow}
use Rattle.code_reach.specs.declared.flows.Flow.TheVariants as flows
use Rattle.code_reach.specs.Flows.{flow_seen}
use Rattle.code_reach.specs.Found.{IsCode}
use Rattle.decompile_spec.specs.CodeGraph.{IsKept, keeps, keeps_nothing}
use Rattle.decompile_laws.specs.Layout as spec
use Rattle.decompile.specs.declared.items.Item.{Item}
use Rattle.decompile.specs.Items.{item_of, Decodes, Decoded, branch_by, with_branch, AreBranches, keeping, AreKept, AreInstructions}
use Rattle.decompile.proofs.Decoded.{of_address, reached, are_instructions}

-- ---- the branch of a flow

-- the branch that bounds the index of a jump by a table
branch_seen : Flow → Option ℕ
branch_seen code.Falls = None
branch_seen (code.Branches target) = None
branch_seen (code.Jumps target) = None
branch_seen (code.Calls target) = None
branch_seen (code.Links target) = None
branch_seen code.Returns = None
branch_seen (code.Switches jump) = Some jump.branch
branch_seen code.Stops = None

seen_branch : (image : Image) (flow : CodeFlow) → branch_by flow ≡ branch_seen (flow_seen image flow)
unfolding branch_seen
seen_branch image flows.Falls = refl
seen_branch image (flows.Branches target) = refl
seen_branch image (flows.Jumps target) = refl
seen_branch image (flows.Calls target) = refl
seen_branch image (flows.Links target) = refl
seen_branch image flows.Returns = refl
seen_branch image (flows.Switches jump) = refl
seen_branch image flows.Stops = refl

switches : (flow : Flow) (branch : ℕ) → branch_seen flow ≡ Some branch → (jump : code.TableJump) × (flow ≡ code.Switches jump) × (jump.branch ≡ branch)
unfolding branch_seen
switches code.Falls branch is = absurd cc
switches (code.Branches target) branch is = absurd cc
switches (code.Jumps target) branch is = absurd cc
switches (code.Calls target) branch is = absurd cc
switches (code.Links target) branch is = absurd cc
switches code.Returns branch is = absurd cc
switches (code.Switches jump) branch is = (jump, refl, same_Some jump.branch branch is)
switches code.Stops branch is = absurd cc

switched : (flow : Flow) (jump : code.TableJump) → flow ≡ code.Switches jump → branch_seen flow ≡ Some jump.branch
unfolding branch_seen
switched flow jump is = ap branch_seen is

-- ---- branches are gathered

not_among : (keys : List ℕ) (t : ℕ) → list_any (nat_eq t) keys ≡ false → Contains keys t → ⊥
not_among keys t e (k, below, here) = let found = list_any_at (nat_eq t) keys k t below (eq-eqb t (get_or keys k t) (sym here)) in cc

among : (keys : List ℕ) (t : ℕ) → list_any (nat_eq t) keys ≡ true → Contains keys t
among keys t e = Contains-list_any nat_eq (λ a b s. eqb-true a b s) keys t e

kept_in : (keys : List ℕ) (b a : ℕ) → Contains keys a → Contains (insert_key nat_eq keys b) a
kept_in keys b a there = at (list_any (nat_eq b) keys)
  where
    at : (t : Bool) → Contains (cond t keys (keys ++ b ∷ [])) a
    at true = there
    at false = Contains-append_left keys (b ∷ []) a there

one_in : (b a : ℕ) → Contains (b ∷ []) a → a ≡ b
one_in b a (zero, below, here) = sym here
one_in b a (suc k, below, here) = absurd (omega (arith, below))

only_in : (keys : List ℕ) (b a : ℕ) → Contains (insert_key nat_eq keys b) a → Contains keys a ⊎ (a ≡ b)
only_in keys b a = at (list_any (nat_eq b) keys)
  where
    at : (t : Bool) → Contains (cond t keys (keys ++ b ∷ [])) a → Contains keys a ⊎ (a ≡ b)
    at true there = inl there
    at false there = elim (Contains-append_cases keys (b ∷ []) a there) [ inl old ↦ inl old | inr new ↦ inr (one_in b a new) ]

-- an instruction is the last one, or one before it
last_or_before : (items : List Item) (last item : Item) → Contains (items ++ last ∷ []) item → Contains items item ⊎ (item ≡ last)
last_or_before items last item there = elim (Contains-append_cases items (last ∷ []) item there) [ inl old ↦ inl old | inr new ↦ inr (only new) ]
  where
    only : Contains (last ∷ []) item → item ≡ last
    only (zero, below, here) = sym here
    only (suc k, below, here) = absurd (omega (arith, below))

pub none_gathered : AreBranches [] []
none_gathered address = (λ there. absurd (no_number there), λ there. absurd (no_item there.0 there.1))
  where
    no_number : Contains [] address → ⊥
    no_number (k, below, here) = omega (arith, below)

    no_item : (item : Item) → Contains [] item → ⊥
    no_item item (k, below, here) = omega (arith, below)

module _ (items : List Item) (last : Item) (branches : List ℕ) (are : AreBranches items branches) where
  none_more : branch_by last.flow ≡ None → AreBranches (items ++ last ∷ []) branches
  none_more none address = (
    λ there.
        let old = (are address).0 there in
        (old.0, Contains-append_left items (last ∷ []) old.0 old.1, old.2),
    λ there. elim (last_or_before items last there.0 there.1) [
      | inl before ↦ (are address).1 (there.0, before, there.2)
      | inr same ↦ absurd (no_branch (sym (ap (λ (x : Item). branch_by x.flow) same) ∙ there.2))
    ],
  )
    where
      no_branch : branch_by last.flow ≡ Some address → ⊥
      no_branch is = cc

  one_more : (branch : ℕ) → branch_by last.flow ≡ Some branch → AreBranches (items ++ last ∷ []) (insert_key nat_eq branches branch)
  one_more branch is address = (
    λ there. elim (only_in branches branch address there) [
      | inl old ↦
          let found = (are address).0 old in
          (found.0, Contains-append_left items (last ∷ []) found.0 found.1, found.2)
      | inr same ↦ (last, Contains-push items last, is ∙ ap (λ (b : ℕ). Some b) (sym same))
    ],
    λ there. elim (last_or_before items last there.0 there.1) [
      | inl before ↦ kept_in branches branch address ((are address).1 (there.0, before, there.2))
      | inr same ↦
          let here : branch ≡ address = same_Some branch address (sym is ∙ sym (ap (λ (x : Item). branch_by x.flow) same) ∙ there.2) in
          subst (λ (a : ℕ). Contains (insert_key nat_eq branches branch) a) here (Contains-insert_key nat_eq (λ a b s. eqb-true a b s) branches branch)
    ],
  )

-- the same of the first so many of some instructions
pub next_branches : (items : List Item) (i : ℕ) (d : Item) (branches : List ℕ) (branch : Option ℕ) → i < length items → AreBranches (take i items) branches
    → branch_by (get_or items i d).flow ≡ branch → AreBranches (take (i + 1) items) (with_branch branch branches)
next_branches items i d branches None below are is =
    subst (λ (xs : List Item). AreBranches xs branches) (sym (take_more items i d below)) (none_more (take i items) (get_or items i d) branches are is)
next_branches items i d branches (Some branch) below are is =
    subst (λ (xs : List Item). AreBranches xs (insert_key nat_eq branches branch)) (sym (take_more items i d below))
    (one_more (take i items) (get_or items i d) branches are branch is)

-- ---- what is kept

module _ (image : Image) (entry : ℕ) (branches : List ℕ) where
  kept_zip : (words : List (ℕ × ℕ)) (items : List Item) → Decoded image entry words items → Decoded image entry words (map (keeping branches) items)
  kept_zip [] [] zip = tt
  kept_zip [] (x ∷ items) zip = absurd zip
  kept_zip (w ∷ words) [] zip = absurd zip
  kept_zip (w ∷ words) (x ∷ items) zip =
      (record { address_is = zip.0.address_is; form_is = zip.0.form_is; flow_is = zip.0.flow_is }, kept_zip words items zip.1)

  keeps_it : (items : List Item) (item : spec.Item) → Contains (map (item_of image) (map (keeping branches) items)) item
      → item.keeps ≡ list_any (nat_eq item.address) branches
  keeps_it [] item (k, below, is) = absurd (omega (arith, below))
  keeps_it (x ∷ items) item (zero, below, is) = subst (λ (y : spec.Item). y.keeps ≡ list_any (nat_eq y.address) branches) is refl
  keeps_it (x ∷ items) item (suc k, below, is) = keeps_it items item (k, omega (arith, below), is)

  decoded_item : (words : List (ℕ × ℕ)) (items : List Item) (item : Item) → Decoded image entry words items → Contains items item
      → (w : ℕ × ℕ) × Contains words w × Decodes image entry w item
  decoded_item [] [] item zip (k, below, is) = absurd (omega (arith, below))
  decoded_item [] (x ∷ items) item zip there = absurd zip
  decoded_item (w ∷ words) [] item zip there = absurd zip
  decoded_item (w ∷ words) (x ∷ items) item zip (zero, below, is) = (w, (0, omega arith, refl), subst (Decodes image entry w) is zip.0)
  decoded_item (w ∷ words) (x ∷ items) item zip (suc k, below, is) =
      let found = decoded_item words items item zip.1 (k, omega (arith, below), is) in
      (found.0, (suc found.1.0, omega (arith, found.1.1), found.1.2), found.2)

module _ (image : Image) (entry : ℕ) (words : List (ℕ × ℕ)) (is : IsCode image entry words) (items : List Item) (zip : Decoded image entry words items) where
  module _ (branches : List ℕ) (are : AreBranches items branches) where
    keeps_there : (address : ℕ) (b : Bool) → list_any (nat_eq address) branches ≡ b → IsKept image entry is.size address b
    keeps_there address true e =
        let found = (are address).0 (among branches address e) in
        let decoded = decoded_item image entry branches words items found.0 zip found.1 in
        let jump = switches (flow_seen image found.0.flow) address (sym (seen_branch image found.0.flow) ∙ found.2) in
        keeps decoded.0.0 jump.0 (reached image entry words is decoded.0 decoded.1) (decoded.2.flow_is ∙ ap (λ (f : Flow). Some f) jump.1) jump.2
    keeps_there address false e = keeps_nothing none
      where
        none : (place : ℕ) (jump : code.TableJump) → IsReachable image entry is.size place → flow_at image entry place ≡ Some (code.Switches jump)
            → jump.branch ≡ address → ⊥
        none place jump there flow_is branch_is =
            let found = of_address image entry words items place zip ((is.places.exactly place).1 there) in
            let flow : flow_seen image found.0.item.flow ≡ code.Switches jump =
            same_Some (flow_seen image found.0.item.flow) (code.Switches jump) (sym found.0.decodes.flow_is ∙ ap (flow_at image entry) found.1 ∙ flow_is) in
            let own : branch_by found.0.item.flow ≡ Some address =
            seen_branch image found.0.item.flow ∙ switched (flow_seen image found.0.item.flow) jump flow ∙ ap (λ (b : ℕ). Some b) branch_is in
            not_among branches address e ((are address).1 (found.0.item, found.0.own_in, own))

  pub kept_instructions : (kept : List Item) → AreKept items kept → AreInstructions image entry kept
  kept_instructions kept are =
      subst (AreInstructions image entry) (sym are.kept_are)
      (are_instructions image entry words is (map (keeping are.branches) items) (kept_zip image entry are.branches words items zip)
      (λ item there. subst (IsKept image entry is.size item.address) (sym (keeps_it image entry are.branches items item there))
      (keeps_there are.branches are.are_branches item.address (list_any (nat_eq item.address) are.branches) refl)))
