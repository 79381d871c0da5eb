-- The instructions of a function from its words.
use Rattle.std.proofs.Common.{◌≡◌, ◌∙◌, true, false, ℕ, zero, suc, ◌+◌, ◌^◌, ◌<◌, ◌≤◌, refl, sym, ap, subst, arith, List, [], ◌∷◌, ◌++◌, length, map, take, get_or, Option, Some, None}
use Rattle.std.specs.Prelude.{Contains, IsSome, option_and_then, option_map}
use Rattle.std.specs.List.{AllZip}
use Rattle.std.specs.List.Sorted.{IsStrictlyIncreasing}
use Rattle.std.proofs.lemmas.List.{take_more}
use Rattle.std.proofs.lemmas.List.Elements.{All-contains}
use Rattle.rv_instr.specs.Instr.{instr}
use Rattle.elf_read_spec.specs.Image.{Image}
use Rattle.code_reach_spec.specs.Code.{instr_at, flow_at, IsReachable}
use Rattle.code_reach_spec.specs.Code.{word_at}
use Rattle.code_reach.specs.Found.{IsCode}
use Rattle.code_reach.specs.Flows.{flow_seen}
use Rattle.decompile_laws.proofs.Reached.{has_instruction, inside_range, whole_word}
use Rattle.decompile_laws.proofs.Switching.{has_flow}
use Rattle.decompile_laws.specs.Layout as spec
use Rattle.decompile.specs.declared.items.Item.{Item}
use Rattle.decompile.specs.Items.{item_of, Decodes, Decoded, AreInstructions}
use Rattle.decompile_spec.specs.CodeGraph.{IsKept}

module _ (image : Image) (entry : ℕ) where
  abbrev pub IsOf : ℕ × ℕ → Item → Type 0
  IsOf w item = Decodes image entry w item

  abbrev pub AreOf : List (ℕ × ℕ) → List Item → Type 0
  AreOf words items = Decoded image entry words items

  zip_push : (words : List (ℕ × ℕ)) (items : List Item) (w : ℕ × ℕ) (item : Item) → AreOf words items → IsOf w item → AreOf (words ++ w ∷ []) (items ++ item ∷ [])
  zip_push [] [] w item zip is = (is, tt)
  zip_push [] (x ∷ items) w item zip is = absurd zip
  zip_push (v ∷ words) [] w item zip is = absurd zip
  zip_push (v ∷ words) (x ∷ items) w item zip is = (zip.0, zip_push words items w item zip.1 is)

  -- one word more
  pub zip_more : (words : List (ℕ × ℕ)) (items : List Item) (i : ℕ) (d : ℕ × ℕ) (item : Item) → i < length words → AreOf (take i words) items
      → IsOf (get_or words i d) item → AreOf (take (i + 1) words) (items ++ item ∷ [])
  zip_more words items i d item within zip is =
      subst (λ (ws : List (ℕ × ℕ)). AreOf ws (items ++ item ∷ [])) (sym (take_more words i d within)) (zip_push (take i words) items (get_or words i d) item zip is)

  -- ---- words and instructions at one place

  pub record Found (words : List (ℕ × ℕ)) (items : List Item) : Type 0 where
    pub word : ℕ × ℕ
    pub item : Item
    pub word_in : Contains words word
    pub item_in : Contains (map (item_of image) items) (item_of image item)
    pub own_in : Contains items item
    pub decodes : IsOf word item

  later : (w : ℕ × ℕ) (words : List (ℕ × ℕ)) (x : Item) (items : List Item) → Found words items → Found (w ∷ words) (x ∷ items)
  later w words x items found = record {
    word = found.word;
    item = found.item;
    word_in = (suc found.word_in.0, omega (arith, found.word_in.1), found.word_in.2);
    item_in = (suc found.item_in.0, omega (arith, found.item_in.1), found.item_in.2);
    own_in = (suc found.own_in.0, omega (arith, found.own_in.1), found.own_in.2);
    decodes = found.decodes;
  }

  first : (w : ℕ × ℕ) (words : List (ℕ × ℕ)) (x : Item) (items : List Item) → IsOf w x → Found (w ∷ words) (x ∷ items)
  first w words x items is = record { word = w; item = x; word_in = (0, omega arith, refl); item_in = (0, omega arith, refl); own_in = (0, omega arith, refl); decodes = is }

  pub of_item : (words : List (ℕ × ℕ)) (items : List Item) (item : spec.Item) → AreOf words items → Contains (map (item_of image) items) item → (found : Found words items) × (item_of image found.item ≡ item)
  unfolding first later
  of_item [] [] item zip (k, below, is) = absurd (omega arith)
  of_item [] (x ∷ items) item zip among = absurd zip
  of_item (w ∷ words) [] item zip among = absurd zip
  of_item (w ∷ words) (x ∷ items) item zip (zero, below, is) = (first w words x items zip.0, is)
  of_item (w ∷ words) (x ∷ items) item zip (suc k, below, is) =
      let found = of_item words items item zip.1 (k, omega arith, is) in
      (later w words x items found.0, found.1)

  pub of_address : (words : List (ℕ × ℕ)) (items : List Item) (address : ℕ) → AreOf words items → Contains (map (λ (w : ℕ × ℕ). w.0) words) address → (found : Found words items) × (found.word.0 ≡ address)
  unfolding first later
  of_address [] [] address zip (k, below, is) = absurd (omega arith)
  of_address [] (x ∷ items) address zip among = absurd zip
  of_address (w ∷ words) [] address zip among = absurd zip
  of_address (w ∷ words) (x ∷ items) address zip (zero, below, is) = (first w words x items zip.0, is)
  of_address (w ∷ words) (x ∷ items) address zip (suc k, below, is) =
      let found = of_address words items address zip.1 (k, omega arith, is) in
      (later w words x items found.0, found.1)

  same_addresses : (words : List (ℕ × ℕ)) (items : List Item) → AreOf words items → map (λ (item : spec.Item). item.address) (map (item_of image) items) ≡ map (λ (w : ℕ × ℕ). w.0) words
  same_addresses [] [] zip = refl
  same_addresses [] (x ∷ items) zip = absurd zip
  same_addresses (w ∷ words) [] zip = absurd zip
  same_addresses (w ∷ words) (x ∷ items) zip = cc (zip.0.address_is, same_addresses words items zip.1)

-- ---- instructions

-- what is seen of an answer is there, so the answer is
pub known_flow : {A B : Type 0} (f : A → B) (o : Option A) (seen : Option B) → option_map f o ≡ seen → IsSome seen → IsSome o
known_flow f None seen e some = let none : false ≡ true = subst IsSome (sym e) some in absurd cc
known_flow f (Some x) seen e some = refl

module _ (image : Image) (entry : ℕ) (words : List (ℕ × ℕ)) (is : IsCode image entry words) where
  key_in : (words : List (ℕ × ℕ)) (w : ℕ × ℕ) → Contains words w → Contains (map (λ (v : ℕ × ℕ). v.0) words) w.0
  key_in [] w (k, below, e) = absurd (omega arith)
  key_in (x ∷ xs) w (zero, below, e) = (0, omega arith, ap (λ (v : ℕ × ℕ). v.0) e)
  key_in (x ∷ xs) w (suc k, below, e) =
      let at = key_in xs w (k, omega arith, e) in
      (suc at.0, omega (arith, at.1), at.2)

  pub reached : (w : ℕ × ℕ) → Contains words w → IsReachable image entry is.size w.0
  reached w among = (is.places.exactly w.0).0 (key_in words w among)

  decoded : (w : ℕ × ℕ) → Contains words w → instr_at image w.0 ≡ instr w.1
  unfolding instr_at
  decoded w among = ap (λ (o : Option ℕ). option_and_then instr o) (All-contains (λ (v : ℕ × ℕ). word_at image v.0 ≡ Some v.1) words w is.words_are among)

  -- the function's address comes first, and the word is whole
  pub from_entry : (w : ℕ × ℕ) → Contains words w → entry ≤ w.0
  from_entry w among = (inside_range image entry is.size w.0 (reached w among)).from

  pub whole_there : (w : ℕ × ℕ) → Contains words w → w.0 + 4 ≤ 2 ^ 32
  whole_there w among = whole_word image entry is.size w.0 (reached w among)

  pub is_instruction : (w : ℕ × ℕ) → Contains words w → IsSome (instr w.1)
  is_instruction w among =
      let there = has_instruction image entry is.size w.0 is.sound (reached w among) in
      let some : instr w.1 ≡ Some there.0 = sym (decoded w among) ∙ there.1 in
      rw some refl

  pub flow_known : (w : ℕ × ℕ) → Contains words w → IsSome (flow_at image entry w.0)
  flow_known w among =
      let there = has_instruction image entry is.size w.0 is.sound (reached w among) in
      let flow = has_flow image entry w.0 there.0 there.1 in
      let some = flow.1 in
      rw some refl

  module _ (items : List Item) (zip : Decoded image entry words items) where
    at_item : (P : spec.Item → Type 0) → ((w : ℕ × ℕ) (item : Item) → Contains words w → Decodes image entry w item → P (item_of image item))
        → (item : spec.Item) → Contains (map (item_of image) items) item → P item
    at_item P each item among =
        let found = of_item image entry words items item zip among in
        subst P found.1 (each found.0.word found.0.item found.0.word_in found.0.decodes)

    form_there : (w : ℕ × ℕ) (item : Item) → Contains words w → Decodes image entry w item → instr_at image item.address ≡ Some item.instruction
    form_there w item among d = ap (instr_at image) d.address_is ∙ decoded w among ∙ d.form_is

    reached_there : (w : ℕ × ℕ) (item : Item) → Contains words w → Decodes image entry w item → IsReachable image entry is.size item.address
    reached_there w item among d = subst (IsReachable image entry is.size) (sym d.address_is) (reached w among)

    flow_there : (w : ℕ × ℕ) (item : Item) → Contains words w → Decodes image entry w item → flow_at image entry item.address ≡ Some (flow_seen image item.flow)
    flow_there w item among d = ap (flow_at image entry) d.address_is ∙ d.flow_is

    -- if each keeps an index or not as it should
    pub are_instructions : ((item : spec.Item) → Contains (map (item_of image) items) item → IsKept image entry is.size item.address item.keeps) → AreInstructions image entry items
    are_instructions kept = record {
      size = is.size;
      size_is = is.size_is;
      sound = is.sound;
      are_items = record {
        rising = subst (λ (xs : List ℕ). IsStrictlyIncreasing xs) (sym (same_addresses image entry words items zip)) is.places.rising;
        reached = at_item (λ (item : spec.Item). IsReachable image entry is.size item.address) reached_there;
        instructions = at_item (λ (item : spec.Item). instr_at image item.address ≡ Some item.instruction) form_there;
        flows = at_item (λ (item : spec.Item). flow_at image entry item.address ≡ Some item.flow) flow_there;
        kept = kept;
        all =
            λ address there.
            let found = of_address image entry words items address zip ((is.places.exactly address).1 there) in
            (item_of image found.0.item, found.0.item_in, found.0.decodes.address_is ∙ found.1);
      };
    }
