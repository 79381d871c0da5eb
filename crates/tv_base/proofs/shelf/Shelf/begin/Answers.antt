use Rattle.std.proofs.Common.{◌++◌, ◌∷◌, [], ap, ◌∙◌, string_bytes}
use Rattle.tv_base.proofs.Begun.{begun_anew}
use Rattle.tv_base.proofs.shelf.Shelf.begin.Goals as goal

pub returns-in-Ok-clause-empties : goal.returns-in-Ok-clause-empties
returns-in-Ok-clause-empties c =
    begun_anew c.args.self.now
    (record { earlier = c.push.new.self; last = c.replace-before.new.dest; alloc = c.args.self.now.alloc })
    c.args.name.now
    (c.in-Ok.ensures.items ∙ ap (λ last. c.args.self.now.earlier.items ++ last ∷ []) c.replace-before.ensures.value)
    (ap (λ last. string_bytes last.name) c.replace-before.ensures.after ∙ c.in_ok-from_str.ensures.ok)
    (ap (λ last. last.text.items) c.replace-before.ensures.after ∙ c.new.ensures.items)
