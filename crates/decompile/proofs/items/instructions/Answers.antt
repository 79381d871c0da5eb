use Rattle.std.proofs.Common.{◌≡◌, ℕ, List, sym, subst}
use Rattle.code_reach.specs.Found.{IsCode}
use Rattle.decompile.specs.declared.items.Item.{Item}
use Rattle.decompile.specs.Items.{Decoded, AreKept}
use Rattle.decompile.proofs.Kept.{kept_instructions}
use Rattle.decompile.proofs.items.instructions.Goals as goal

pub decoded-requires : goal.decoded-requires
decoded-requires c = subst (IsCode c.args.image.now c.args.entry) (sym c.as_slice.ensures.value) c.in_ok-words.ensures.found

pub returns-clause-found : goal.returns-clause-found
returns-clause-found c =
    let zip : Decoded c.args.image.now c.args.entry c.in_ok-words.words.items c.in_ok-items.items.items =
    subst (λ (ws : List (ℕ × ℕ)). Decoded c.args.image.now c.args.entry ws c.in_ok-items.items.items) c.as_slice.ensures.value c.in_ok-items.ensures in
    let are : AreKept c.in_ok-items.items.items c.in_ok-found.found.items =
    subst (λ (is : List Item). AreKept is c.in_ok-found.found.items) c.as_slice-2.ensures.value c.in_ok-found.ensures in
    kept_instructions c.args.image.now c.args.entry c.in_ok-words.words.items c.in_ok-words.ensures.found c.in_ok-items.items.items zip c.in_ok-found.found.items are
