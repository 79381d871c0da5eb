use Rattle.std.proofs.Common.{◌<◌, ◌∙◌, set, get_or, ap, sym, subst, refl}
use Rattle.std.proofs.lemmas.List.{map-set, length-map}
use Rattle.std.specs.Vec.{with_item}
use Rattle.cnf_core.specs.Codes.{code_of}
use Rattle.sat_search_state.proofs.Changes.{replaced, items_of, lists_of, list_read}
use Rattle.sat_search_state.proofs.lists.replace_watcher.Goals as goal

pub returns : goal.returns
returns c =
    let was = get_or c.args.lists.now c.code.result c.index-lists-code.result in
    let now = with_item was c.args.place c.args.watcher in
    replaced (lists_of c.args.lists.now) (lists_of (set c.args.lists.now c.code.result now)) c.args.literal c.args.place c.args.watcher was.items now.items
    (subst (λ n. code_of c.args.literal < n) (sym (length-map c.args.lists.now items_of)) c.requires.code)
    (map-set items_of c.args.lists.now c.code.result now ∙ ap (λ k. set (lists_of c.args.lists.now) k now.items) c.code.ensures.value)
    (ap items_of (sym c.index-lists-code.is)
    ∙ list_read c.args.lists.now c.args.literal c.code.result c.index-lists-code.result c.requires.code c.code.ensures.value c.index-lists-code.is)
    refl
