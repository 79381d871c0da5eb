use Rattle.std.proofs.Common.{rules, ◌≡◌, ◌<◌, ◌∙◌, ◌++◌, ◌∷◌, [], set, ap, sym, subst}
use Rattle.std.proofs.lemmas.List.{map-set, length-map}
use Rattle.cnf_core.specs.Codes.{code_of}
use Rattle.sat_search_state.proofs.Changes.{added, items_of, lists_of, list_read}
use Rattle.sat_search_state.proofs.lists.add_watcher.Goals as goal

pub returns : goal.returns
returns c =
    added (lists_of c.args.lists.now) (lists_of (set c.args.lists.now c.code.result c.push.new.self)) c.args.literal c.args.watcher c.push.new.self.items
    (subst (λ n. code_of c.args.literal < n) (sym (length-map c.args.lists.now items_of)) c.requires)
    (map-set items_of c.args.lists.now c.code.result c.push.new.self ∙ ap (λ k. set (lists_of c.args.lists.now) k c.push.new.self.items) c.code.ensures.value)
    (let pushed : c.push.new.self.items ≡ c.index-lists-code.result.items ++ c.args.watcher ∷ [] = search rules in
    pushed
    ∙ ap (λ xs. xs ++ c.args.watcher ∷ [])
    (list_read c.args.lists.now c.args.literal c.code.result c.index-lists-code.result c.requires c.code.ensures.value c.index-lists-code.is))
