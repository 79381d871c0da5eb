use Rattle.std.proofs.Common.{◌≡◌, ◌∙◌, ℕ, ◌+◌, ◌≤◌, List, Some, false, IsSome, length, take, get_or, refl, sym, ap, subst, arith, rules}
use Rattle.std.specs.Option.{option_map}
use Rattle.std.proofs.lemmas.List.{take_all}
use Rattle.std.proofs.lemmas.List.Elements.{Contains-get_or}
use Rattle.rv_instr.specs.Instr.{instr}
use Rattle.code_reach_spec.specs.Code.{flow_at}
use Rattle.code_reach.specs.Flows.{flow_seen}
use Rattle.decompile.specs.declared.items.Item.{Item}
use Rattle.decompile.specs.Items.{Decoded}
use Rattle.decompile.proofs.Decoded.{zip_more, from_entry, whole_there, is_instruction, flow_known, known_flow}
use Rattle.decompile.proofs.items.decoded.Goals as goal

pub unwrap-instruction-requires : goal.unwrap-instruction-requires
unwrap-instruction-requires c =
    subst IsSome (sym c.decode.ensures)
    (is_instruction c.args.image.now c.args.entry c.args.words.now c.requires _
    (Contains-get_or c.args.words.now c.loop-address.address-index (0, 0) c.loop-address-test.true))

pub flow_at-requires-clause-from : goal.flow_at-requires-clause-from
flow_at-requires-clause-from c =
    from_entry c.args.image.now c.args.entry c.args.words.now c.requires _
    (Contains-get_or c.args.words.now c.loop-address.address-index (0, 0) c.loop-address-test.true)

pub flow_at-requires-clause-whole : goal.flow_at-requires-clause-whole
flow_at-requires-clause-whole c =
    whole_there c.args.image.now c.args.entry c.args.words.now c.requires _
    (Contains-get_or c.args.words.now c.loop-address.address-index (0, 0) c.loop-address-test.true)

pub unwrap-flow-requires : goal.unwrap-flow-requires
unwrap-flow-requires c =
    known_flow (flow_seen c.args.image.now) c.in_ok-found.found _ c.in_ok-found.ensures
    (flow_known c.args.image.now c.args.entry c.args.words.now c.requires _
    (Contains-get_or c.args.words.now c.loop-address.address-index (0, 0) c.loop-address-test.true))

pub loop-address-preserved : goal.loop-address-preserved
loop-address-preserved c =
    let word : ℕ × ℕ = get_or c.args.words.now c.loop-address.address-index (0, 0) in
    let instruction : instr word.1 ≡ Some c.unwrap-instruction.result = search rules in
    let item : Item = record { address = word.0; instruction = c.unwrap-instruction.result; flow = c.unwrap-flow.result; keeps = false } in
    let flow : flow_at c.args.image.now c.args.entry word.0 ≡ Some (flow_seen c.args.image.now c.unwrap-flow.result) =
    sym c.in_ok-found.ensures ∙ ap (option_map (flow_seen c.args.image.now)) c.unwrap-flow.ensures in
    subst (λ (is : List Item). Decoded c.args.image.now c.args.entry (take (c.loop-address.address-index + 1) c.args.words.now) is) (sym c.in_ok-push.ensures.items)
    (zip_more c.args.image.now c.args.entry c.args.words.now c.loop-address.items.items c.loop-address.address-index (0, 0) item
    c.loop-address-test.true c.loop-address.invariant (record { address_is = refl; form_is = instruction; flow_is = flow }))

pub returns : goal.returns
returns c =
    let all : length c.args.words.now ≤ c.loop-address.address-index = omega arith in
    subst (λ (ws : List (ℕ × ℕ)). Decoded c.args.image.now c.args.entry ws c.loop-address.items.items)
    (take_all c.loop-address.address-index c.args.words.now all) c.loop-address.invariant
