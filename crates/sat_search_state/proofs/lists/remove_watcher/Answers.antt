use Rattle.std.proofs.Common.{◌<◌, ◌∙◌, set, get_or, ap, sym, subst}
use Rattle.std.proofs.lemmas.List.{map-set, length-map}
use Rattle.cnf_core.specs.Codes.{code_of}
use Rattle.sat_search_state.proofs.Changes.{removed, items_of, lists_of, list_read}
use Rattle.sat_search_state.proofs.lists.remove_watcher.Goals as goal

pub returns : goal.returns
returns c =
    removed (lists_of c.args.lists.now) (lists_of (set c.args.lists.now c.code.result c.remove_from.new.list)) c.args.literal c.args.place
    (get_or c.args.lists.now c.code.result c.index-lists-code.result).items c.remove_from.new.list.items
    (subst (λ n. code_of c.args.literal < n) (sym (length-map c.args.lists.now items_of)) c.requires.code)
    (map-set items_of c.args.lists.now c.code.result c.remove_from.new.list ∙ ap (λ k. set (lists_of c.args.lists.now) k c.remove_from.new.list.items) c.code.ensures.value)
    (ap items_of (sym c.index-lists-code.is)
    ∙ list_read c.args.lists.now c.args.literal c.code.result c.index-lists-code.result c.requires.code c.code.ensures.value c.index-lists-code.is)
    c.remove_from.ensures.removed c.remove_from.ensures.shorter
