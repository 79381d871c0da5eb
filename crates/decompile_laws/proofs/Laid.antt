-- A graph that is laid out by address is the code graph.
use Rattle.std.proofs.Common.{◌≡◌, ◌∙◌, inl, inr, ℕ, zero, suc, ◌+◌, ◌<◌, ◌≤◌, Bool, refl, sym, ap, subst, arith, List, [], ◌∷◌, ◌++◌, length, get_or, Option, Some, None}
use Rattle.std.specs.Prelude.{slice_get, Contains}
use Rattle.std.proofs.lemmas.Bool.{cases_lt}
use Rattle.std.proofs.lemmas.List.{length-append}
use Rattle.std.proofs.lemmas.Option.{slice_get_within, slice_get-get_or}
use Rattle.rv_instr.specs.declared.Instr.{Instr}
use Rattle.elf_read_spec.specs.Image.{Image}
use Rattle.elf_read_spec.specs.Runs.{AreRuns}
use Rattle.code_reach_spec.specs.Code.{Flow, instr_at, flow_at, IsReachable}
use Rattle.graph_core_spec.specs.declared.Next.{Next}
use Rattle.graph_core_spec.specs.declared.Next.TheVariants as next
use Rattle.graph_core_spec.specs.Graph.{Node, Basic}
use Rattle.decompile_spec.specs.Blocks.{NodeName, Entrance, Of, Following, Setting, nodes_at, landing_of}
use Rattle.decompile_spec.specs.CodeGraph.{IsKept, IsNodeAt, entrance, of_instruction, landing, IsCodeGraph}
use Rattle.decompile_laws.specs.Layout.{Item, landing_node, block, blocks, entrance_node, laid, numbers_by, AreNumbered, AreItems}
use Rattle.decompile_laws.proofs.KeptBranches.{one_kept}
use Rattle.decompile_laws.proofs.Places.{get_front, get_after, StartsAt, starts_from, starts_numbered, starts_among, among_starts, node_in, item_of, one_item}

module _ (image : Image) (f : Setting) where
  module _ (first : ℕ → ℕ) (items : List Item) (runs_are : AreRuns image f.runs) (are : AreItems image f.entry f.size items)
      (by_first : (place : NodeName) → f.at place ≡ numbers_by first place) (numbered : AreNumbered f first 1 items) where
    -- the item of an address
    record Found (address : ℕ) (kept : Bool) (i : Instr) (flow : Flow) : Type 0 where
      item : Item
      address_is : item.address ≡ address
      form_is : item.instruction ≡ i
      flow_same : item.flow ≡ flow
      kept_same : item.keeps ≡ kept
      number : ℕ
      starts : StartsAt f 1 items item number
      first_is : first address ≡ number

    found : (address : ℕ) (kept : Bool) (i : Instr) (flow : Flow) → IsReachable image f.entry f.size address → instr_at image address ≡ Some i → flow_at image f.entry address ≡ Some flow
        → IsKept image f.entry f.size address kept → Found address kept i flow
    found address kept i flow there is flow_is kept_is =
        let it = are.all address there in
        let begins_at = starts_among f 1 items it.0 it.1 in
        let instruction : Some it.0.instruction ≡ Some i = sym (are.instructions it.0 it.1) ∙ ap (instr_at image) it.2 ∙ is in
        let way : Some it.0.flow ≡ Some flow = sym (are.flows it.0 it.1) ∙ ap (flow_at image f.entry) it.2 ∙ flow_is in
        record {
          item = it.0;
          address_is = it.2;
          form_is = cc;
          flow_same = cc;
          kept_same = one_kept image f.entry f.size address it.0.keeps kept (subst (λ a. IsKept image f.entry f.size a it.0.keeps) it.2 (are.kept it.0 it.1)) kept_is;
          number = begins_at.0;
          starts = begins_at.1;
          first_is = ap first (sym it.2) ∙ starts_numbered f first 1 begins_at.0 items it.0 numbered begins_at.1;
        }

    -- its nodes
    nodes_of : (address : ℕ) (kept : Bool) (i : Instr) (flow : Flow) (it : Found address kept i flow)
        → block f it.item ≡ nodes_at f address kept i flow ++ landing_node (landing_of f address flow)
    nodes_of address kept i flow it =
        ap (λ (a : ℕ). nodes_at f a it.item.keeps it.item.instruction it.item.flow ++ landing_node (landing_of f a it.item.flow)) it.address_is
        ∙ ap (λ (k : Bool). nodes_at f address k it.item.instruction it.item.flow ++ landing_node (landing_of f address it.item.flow)) it.kept_same
        ∙ ap (λ (j : Instr). nodes_at f address kept j it.item.flow ++ landing_node (landing_of f address it.item.flow)) it.form_is
        ∙ ap (λ (fl : Flow). nodes_at f address kept i fl ++ landing_node (landing_of f address fl)) it.flow_same

    -- the node at a place of an item's block
    in_block : (address : ℕ) (kept : Bool) (i : Instr) (flow : Flow) (it : Found address kept i flow) (j : ℕ) (node : Node) → slice_get (nodes_at f address kept i flow ++ landing_node (landing_of f address flow)) j ≡ Some node
        → slice_get (entrance_node f ∷ blocks f items) (first address + j) ≡ Some node
    in_block address kept i flow it j node is =
        let here : slice_get (block f it.item) j ≡ Some node = ap (λ (xs : List Node). slice_get xs j) (nodes_of address kept i flow it) ∙ is in
        ap (λ k. slice_get (entrance_node f ∷ blocks f items) (k + j)) it.first_is
        ∙ node_in f (entrance_node f ∷ []) 1 it.number items it.item j refl it.starts (slice_get_within (block f it.item) j node here) ∙ here

    in_front : (xs ys : List Node) (j : ℕ) (node : Node) → slice_get xs j ≡ Some node → slice_get (xs ++ ys) j ≡ Some node
    in_front xs ys j node is = get_front xs ys j (slice_get_within xs j node is) ∙ is

    after_all : (xs : List Node) (to : Next) (count : ℕ) → length xs ≡ count → slice_get (xs ++ Basic [] to ∷ []) count ≡ Some (Basic [] to)
    after_all xs to count long = ap (slice_get (xs ++ Basic [] to ∷ [])) {x = count} {y = length xs + 0} (omega arith) ∙ get_after xs (Basic [] to ∷ []) 0

    there : (place : NodeName) (node : Node) → IsNodeAt image f place node → slice_get (laid f items).nodes (f.at place) ≡ Some node
    there _ _ entrance = ap (slice_get (entrance_node f ∷ blocks f items)) (by_first Entrance)
    there _ node (of_instruction address index kept i flow _ reach is flow_is kept_is get) =
        ap (slice_get (entrance_node f ∷ blocks f items)) (by_first (Of address index))
        ∙ in_block address kept i flow (found address kept i flow reach is flow_is kept_is) index node (in_front (nodes_at f address kept i flow) (landing_node (landing_of f address flow)) index node get)
    there _ _ (landing address count kept i flow to reach is flow_is kept_is long lands) =
        ap (slice_get (entrance_node f ∷ blocks f items)) (by_first (Following address count))
        ∙ in_block address kept i flow (found address kept i flow reach is flow_is kept_is) count (Basic [] to)
        (ap (λ (o : Option Next). slice_get (nodes_at f address kept i flow ++ landing_node o) count) lands ∙ after_all (nodes_at f address kept i flow) to count long)

    -- ---- each number is that of one place

    -- where an instruction's node is
    record Where (place : NodeName) : Type 0 where
      item : Item
      number : ℕ
      index : ℕ
      starts : StartsAt f 1 items item number
      below : index < length (block f item)
      at_is : f.at place ≡ number + index

    of_place : (address index : ℕ) (kept : Bool) (i : Instr) (flow : Flow) (node : Node) → IsReachable image f.entry f.size address → instr_at image address ≡ Some i
        → flow_at image f.entry address ≡ Some flow → IsKept image f.entry f.size address kept → slice_get (nodes_at f address kept i flow) index ≡ Some node
        → (w : Where (Of address index)) × (w.item.address ≡ address) × (w.index ≡ index) × (w.index < length (nodes_at f address kept i flow))
    of_place address index kept i flow node reach is flow_is kept_is get =
        let it = found address kept i flow reach is flow_is kept_is in
        let inside : index < length (nodes_at f address kept i flow) = slice_get_within (nodes_at f address kept i flow) index node get in
        let long : length (block f it.item) ≡ length (nodes_at f address kept i flow) + length (landing_node (landing_of f address flow)) =
        ap (λ (xs : List Node). length xs) (nodes_of address kept i flow it) ∙ length-append (nodes_at f address kept i flow) (landing_node (landing_of f address flow)) in (
          record {
            item = it.item;
            number = it.number;
            index = index;
            starts = it.starts;
            below = omega (arith, long, inside);
            at_is = by_first (Of address index) ∙ ap (λ k. k + index) it.first_is;
          },
          it.address_is,
          refl,
          inside,
        )

    after_place : (address count : ℕ) (kept : Bool) (i : Instr) (flow : Flow) (to : Next) → IsReachable image f.entry f.size address → instr_at image address ≡ Some i
        → flow_at image f.entry address ≡ Some flow → IsKept image f.entry f.size address kept → length (nodes_at f address kept i flow) ≡ count → landing_of f address flow ≡ Some to
        → (w : Where (Following address count)) × (w.item.address ≡ address) × (w.index ≡ count)
    after_place address count kept i flow to reach is flow_is kept_is long lands =
        let it = found address kept i flow reach is flow_is kept_is in
        let whole : block f it.item ≡ nodes_at f address kept i flow ++ Basic [] to ∷ [] =
        nodes_of address kept i flow it ∙ ap (λ (o : Option Next). nodes_at f address kept i flow ++ landing_node o) lands in
        let longer : length (block f it.item) ≡ length (nodes_at f address kept i flow) + 1 = ap (λ (xs : List Node). length xs) whole ∙ length-append (nodes_at f address kept i flow) (Basic [] to ∷ []) in (
          record {
            item = it.item;
            number = it.number;
            index = count;
            starts = it.starts;
            below = omega (arith, longer, long);
            at_is = by_first (Following address count) ∙ ap (λ k. k + count) it.first_is;
          },
          it.address_is,
          refl,
        )

    -- two nodes of instructions with one number
    one_where : (place other : NodeName) (v : Where place) (w : Where other) → f.at place ≡ f.at other → (v.item ≡ w.item) × (v.index ≡ w.index)
    one_where place other v w same =
        one_item f 1 v.number w.number items v.item w.item v.index w.index v.starts w.starts v.below w.below (sym v.at_is ∙ same ∙ w.at_is)

    after_entrance : (place : NodeName) (w : Where place) → f.at Entrance ≡ f.at place → ⊥
    after_entrance place w same = absurd (omega (arith, by_first Entrance, same, w.at_is, starts_from f 1 w.number items w.item w.starts))

    -- a node of the instruction is not its landing node
    not_both : (address other index count : ℕ) (kept held : Bool) (i j : Instr) (flow way : Flow) → instr_at image address ≡ Some i → instr_at image other ≡ Some j
        → flow_at image f.entry address ≡ Some flow → flow_at image f.entry other ≡ Some way → IsKept image f.entry f.size address kept → IsKept image f.entry f.size other held
        → address ≡ other → index ≡ count → index < length (nodes_at f address kept i flow) → length (nodes_at f other held j way) ≡ count → ⊥
    not_both address other index count kept held i j flow way is js flow_is way_is kept_is held_is same one inside single =
        let instruction : Some i ≡ Some j = sym is ∙ ap (instr_at image) same ∙ js in
        let kind : Some flow ≡ Some way = sym flow_is ∙ ap (flow_at image f.entry) same ∙ way_is in
        let i_is : i ≡ j = cc in
        let flow_same : flow ≡ way = cc in
        let kept_same : kept ≡ held = one_kept image f.entry f.size other kept held (subst (λ a. IsKept image f.entry f.size a kept) same kept_is) held_is in
        let long : length (nodes_at f address kept i flow) ≡ length (nodes_at f other held j way) =
        ap (λ (a : ℕ). length (nodes_at f a kept i flow)) same ∙ ap (λ (k : Bool). length (nodes_at f other k i flow)) kept_same
        ∙ ap (λ (x : Instr). length (nodes_at f other held x flow)) i_is ∙ ap (λ (fl : Flow). length (nodes_at f other held j fl)) flow_same in
        absurd (omega (arith, one, inside, single, long))

    apart : (place other : NodeName) (node another : Node) → IsNodeAt image f place node → IsNodeAt image f other another → f.at place ≡ f.at other → place ≡ other
    apart _ _ _ _ entrance entrance same = refl
    apart _ _ _ another entrance (of_instruction address index kept i flow _ reach is flow_is kept_is get) same =
        absurd (after_entrance (Of address index) (of_place address index kept i flow another reach is flow_is kept_is get).0 same)
    apart _ _ _ _ entrance (landing address count kept i flow to reach is flow_is kept_is long lands) same =
        absurd (after_entrance (Following address count) (after_place address count kept i flow to reach is flow_is kept_is long lands).0 same)
    apart _ _ node _ (of_instruction address index kept i flow _ reach is flow_is kept_is get) entrance same =
        absurd (after_entrance (Of address index) (of_place address index kept i flow node reach is flow_is kept_is get).0 (sym same))
    apart _ _ node another (of_instruction address index kept i flow _ reach is flow_is kept_is get) (of_instruction other at held j way _ there_is js way_is held_is found_there) same =
        let v = of_place address index kept i flow node reach is flow_is kept_is get in
        let w = of_place other at held j way another there_is js way_is held_is found_there in
        let one = one_where (Of address index) (Of other at) v.0 w.0 same in
        let address_same : address ≡ other = sym v.1 ∙ ap (λ (x : Item). x.address) one.0 ∙ w.1 in
        let index_same : index ≡ at = sym v.2 ∙ one.1 ∙ w.2 in
        ap (λ a. Of a index) address_same ∙ ap (Of other) index_same
    apart _ _ node _ (of_instruction address index kept i flow _ reach is flow_is kept_is get) (landing other count held j way to there_is js way_is held_is long lands) same =
        let v = of_place address index kept i flow node reach is flow_is kept_is get in
        let w = after_place other count held j way to there_is js way_is held_is long lands in
        let one = one_where (Of address index) (Following other count) v.0 w.0 same in
        let address_same : address ≡ other = sym v.1 ∙ ap (λ (x : Item). x.address) one.0 ∙ w.1 in
        absurd (not_both address other index count kept held i j flow way is js flow_is way_is kept_is held_is address_same (sym v.2 ∙ one.1 ∙ w.2) (omega (arith, v.2, v.3)) long)
    apart _ _ _ _ (landing address count kept i flow to reach is flow_is kept_is long lands) entrance same =
        absurd (after_entrance (Following address count) (after_place address count kept i flow to reach is flow_is kept_is long lands).0 (sym same))
    apart _ _ _ another (landing other count held j way to there_is js way_is held_is long lands) (of_instruction address index kept i flow _ reach is flow_is kept_is get) same =
        let v = of_place address index kept i flow another reach is flow_is kept_is get in
        let w = after_place other count held j way to there_is js way_is held_is long lands in
        let one = one_where (Of address index) (Following other count) v.0 w.0 (sym same) in
        let address_same : address ≡ other = sym v.1 ∙ ap (λ (x : Item). x.address) one.0 ∙ w.1 in
        absurd (not_both address other index count kept held i j flow way is js flow_is way_is kept_is held_is address_same (sym v.2 ∙ one.1 ∙ w.2) (omega (arith, v.2, v.3)) long)
    apart _ _ _ _ (landing address count kept i flow to reach is flow_is kept_is long lands) (landing other further held j way on there_is js way_is held_is longer after_it) same =
        let v = after_place address count kept i flow to reach is flow_is kept_is long lands in
        let w = after_place other further held j way on there_is js way_is held_is longer after_it in
        let one = one_where (Following address count) (Following other further) v.0 w.0 same in
        let address_same : address ≡ other = sym v.1 ∙ ap (λ (x : Item). x.address) one.0 ∙ w.1 in
        let count_same : count ≡ further = sym v.2 ∙ one.1 ∙ w.2 in
        ap (λ a. Following a count) address_same ∙ ap (Following other) count_same

    -- ---- and each number has a place

    Placed : ℕ → Type 0
    Placed k = (place : NodeName) × (node : Node) × IsNodeAt image f place node × (f.at place ≡ k)

    numbered_item : (item : Item) (m j k : ℕ) → StartsAt f 1 items item m → j < length (block f item) → k ≡ m + j → Placed k
    unfolding Placed
    numbered_item item m j k starts below is = elim (cases_lt j (length (nodes_at f item.address item.keeps item.instruction item.flow))) [
      | inl inside ↦
          let node = get_or (nodes_at f item.address item.keeps item.instruction item.flow) j (Basic [] next.Err) in (
            Of item.address j,
            node,
            of_instruction item.address j item.keeps item.instruction item.flow node (are.reached item among) (are.instructions item among) (are.flows item among) (are.kept item among)
                (slice_get-get_or (nodes_at f item.address item.keeps item.instruction item.flow) j (Basic [] next.Err) inside),
            by_first (Of item.address j) ∙ ap (λ x. x + j) first_is ∙ sym is,
          )
      | inr past ↦ last (landing_of f item.address item.flow) refl past
    ]
      where
        among : Contains items item
        among = among_starts f 1 m items item starts

        first_is : first item.address ≡ m
        first_is = starts_numbered f first 1 m items item numbered starts

        last : (o : Option Next) → landing_of f item.address item.flow ≡ o → length (nodes_at f item.address item.keeps item.instruction item.flow) ≤ j → Placed k
        last None e past =
            let long : length (block f item) ≡ length (nodes_at f item.address item.keeps item.instruction item.flow) + 0 =
            length-append (nodes_at f item.address item.keeps item.instruction item.flow) (landing_node (landing_of f item.address item.flow))
            ∙ ap (λ (o : Option Next). length (nodes_at f item.address item.keeps item.instruction item.flow) + length (landing_node o)) e in
            absurd (omega (arith, below, long, past))
        last (Some to) e past =
            let long : length (block f item) ≡ length (nodes_at f item.address item.keeps item.instruction item.flow) + 1 =
            length-append (nodes_at f item.address item.keeps item.instruction item.flow) (landing_node (landing_of f item.address item.flow))
            ∙ ap (λ (o : Option Next). length (nodes_at f item.address item.keeps item.instruction item.flow) + length (landing_node o)) e in (
              Following item.address (length (nodes_at f item.address item.keeps item.instruction item.flow)),
              Basic [] to,
              landing item.address (length (nodes_at f item.address item.keeps item.instruction item.flow)) item.keeps item.instruction item.flow to (are.reached item among) (are.instructions item among) (are.flows item among)
                  (are.kept item among) refl e,
              omega (arith, by_first (Following item.address (length (nodes_at f item.address item.keeps item.instruction item.flow))), first_is, is, long, past, below),
            )

    only : (k : ℕ) → k < length (laid f items).nodes → Placed k
    unfolding Placed
    only zero below = (Entrance, entrance_node f, entrance, by_first Entrance)
    only (suc k) below =
        let at = item_of f 1 items (suc k) (omega arith) (omega arith) in
        numbered_item at.0 at.1 at.2 (suc k) at.3 at.4 at.5

    pub laid_is : IsCodeGraph image f (laid f items)
    unfolding Placed
    laid_is = record { runs_are = runs_are; entry_is = sym (by_first Entrance); there = there; only = only; apart = apart }
