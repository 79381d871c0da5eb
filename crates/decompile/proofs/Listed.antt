-- Calls of a function whose callees are listed.
use Rattle.std.proofs.Common.{◌≡◌, ◌∙◌, inl, inr, ℕ, ◌<◌, ◌≤◌, refl, sym, ap, subst, arith, List, [], All, length, map, get_or, Some, false}
use Rattle.std.specs.Prelude.{Contains}
use Rattle.std.proofs.lemmas.Bool.{cases_lt}
use Rattle.std.proofs.lemmas.List.{length-map, get_or-map}
use Rattle.std.proofs.lemmas.List.Kept.{AllPairs-from_increasing}
use Rattle.std.proofs.lemmas.Option.{same_Some}
use Rattle.rv_instr.specs.declared.Instr.TheVariants as instr
use Rattle.elf_read_spec.specs.Image.{Image, size_at}
use Rattle.code_reach_spec.specs.Code.{flow_at}
use Rattle.code_reach_spec.specs.Faults.{HasNoFault}
use Rattle.code_reach.specs.declared.flows.Flow.TheVariants as flows
use Rattle.code_reach.specs.Found.{IsCodeError}
use Rattle.attempt.specs.declared.refusal.Refusal.{Refusal}
use Rattle.attempt.specs.declared.refusal.Refusal.TheVariants.{Fault, NoMemory}
use Rattle.code_reach.specs.declared.faults.CodeFault.{CodeFault}
use Rattle.decompile.specs.declared.error.GraphFault.{GraphFault}
use Rattle.decompile.specs.declared.error.GraphFault.TheVariants.{Code, Unlisted, Large}
use Rattle.decompile_spec.specs.Blocks.{callee_of}
use Rattle.decompile_spec.specs.CodeGraph.{IsCall}
use Rattle.decompile_laws.specs.Layout.{Item, AreItems}
use Rattle.decompile.specs.declared.items.Item.{Item as CodeItem}
use Rattle.decompile.specs.Items.{item_of}
use Rattle.decompile.specs.Callees.{callee_of_item, IsListed, IsFirstUnlisted}
use Rattle.decompile.specs.Errors.{error_of, IsGraphError}

pub code_error : (image : Image) (entry : ℕ) (entries : List ℕ) (maximum : ℕ) (error : Refusal CodeFault) → IsCodeError image entry error → IsGraphError image entry entries maximum (error_of error)
code_error image entry entries maximum (Fault fault) is = is
code_error image entry entries maximum NoMemory is = tt

module _ (image : Image) (entry size : ℕ) (entries : List ℕ) (items : List CodeItem) (size_is : size_at image entry ≡ Some size) (sound : HasNoFault image entry size)
    (are : AreItems image entry size (map (item_of image) items)) where
  -- the instruction of a call
  record Found (address callee : ℕ) : Type 0 where
    index : ℕ
    within : index < length items
    address_is : (d : CodeItem) → (get_or items index d).address ≡ address
    calls : (d : CodeItem) → callee_of_item image entry size (get_or items index d) ≡ Some callee

  found : (address callee : ℕ) → IsCall image entry size address callee → Found address callee
  found address callee call = record {
    index = it.1.0;
    within = short;
    address_is = λ d. ap (λ (x : Item). x.address) (same d) ∙ it.2;
    calls = λ d. ap (λ (x : Item). callee_of entry size x.flow) (same d) ∙ calls_it;
  }
    where
      it : (item : Item) × Contains (map (item_of image) items) item × (item.address ≡ address)
      it = are.all address call.reached

      short : it.1.0 < length items
      short = omega (arith, it.1.1, length-map items (item_of image))

      same : (d : CodeItem) → item_of image (get_or items it.1.0 d) ≡ it.0
      same d = sym (get_or-map (item_of image) items it.1.0 d it.0 short) ∙ it.1.2

      flow_same : it.0.flow ≡ call.flow
      flow_same = same_Some it.0.flow call.flow (sym (are.flows it.0 it.1) ∙ ap (flow_at image entry) it.2 ∙ call.flow_is)

      calls_it : callee_of entry size it.0.flow ≡ Some callee
      calls_it = ap (callee_of entry size) flow_same ∙ call.calls

  pub all_listed : All (IsListed image entry size entries) items → (address callee : ℕ) → IsCall image entry size address callee → Contains entries callee
  all_listed listed address callee call =
      let it = found address callee call in
      let d : CodeItem = get_or_none it.index in
      listed it.index d it.within callee (it.calls d)
    where
      get_or_none : ℕ → CodeItem
      get_or_none k = record { address = 0; instruction = instr.Ecall; flow = flows.Stops; keeps = false }

  pub first_unlisted : (maximum : ℕ) (error : Refusal GraphFault) → IsFirstUnlisted image entry size entries items error → IsGraphError image entry entries maximum error
  first_unlisted maximum (Fault (Code fault)) o = absurd o.unlisted
  first_unlisted maximum (Fault (Large count)) o = absurd o.unlisted
  first_unlisted maximum NoMemory o = absurd o.unlisted
  first_unlisted maximum (Fault (Unlisted address callee)) o = record {
    size = size;
    size_is = size_is;
    sound = sound;
    calls = subst (λ (a : ℕ). IsCall image entry size a callee) (sym o.unlisted.0) (record {
      flow = it.flow;
      reached = are.reached it among;
      flow_is = are.flows it among;
      calls = o.unlisted.1;
    });
    missing = o.unlisted.2;
    first = earlier;
  }
    where
      it : Item
      it = item_of image o.item

      among : Contains (map (item_of image) items) it
      among = (o.index, omega (arith, o.within, length-map items (item_of image)), get_or-map (item_of image) items o.index o.item it o.within ∙ ap (item_of image) (sym o.item_is))

      addresses : List ℕ
      addresses = map (λ (item : Item). item.address) (map (item_of image) items)

      address_at : (k : ℕ) (d : CodeItem) → k < length items → get_or addresses k 0 ≡ (get_or items k d).address
      address_at k d short =
          get_or-map (λ (item : Item). item.address) (map (item_of image) items) k (item_of image d) 0 (omega (arith, short, length-map items (item_of image)))
          ∙ ap (λ (x : Item). x.address) (get_or-map (item_of image) items k d (item_of image d) short)

      earlier : (other target : ℕ) → IsCall image entry size other target → other < address → Contains entries target
      earlier other target call less =
          let at = found other target call in
          elim (cases_lt at.index o.index) [
            | inl before ↦ o.before at.index o.item before target (at.calls o.item)
            | inr past ↦ absurd (not_past at.index past at.within (at.address_is o.item))
          ]
        where
          not_past : (k : ℕ) → o.index ≤ k → k < length items → (get_or items k o.item).address ≡ other → ⊥
          not_past k past within is =
              let here : address ≡ (get_or items o.index o.item).address = o.unlisted.0 ∙ ap (λ (x : CodeItem). x.address) o.item_is in
              elim (cases_lt o.index k) [
                | inl later ↦
                    let rises : get_or addresses o.index 0 < get_or addresses k 0 =
                    AllPairs-from_increasing addresses are.rising o.index k 0 later (omega (arith, within, length-map items (item_of image), length-map (map (item_of image) items) (λ (item : Item). item.address))) in
                    omega (arith, rises, address_at o.index o.item o.within, address_at k o.item within, here, is, less)
                | inr same ↦
                    let one : k ≡ o.index = omega arith in
                    omega (arith, ap (λ j. (get_or items j o.item).address) one, here, is, less)
              ]
