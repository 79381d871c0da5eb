use Rattle.std.proofs.Common.{◌∙◌, ◌==◌, ℕ, Option, Some, sym, ap}
use Rattle.std.specs.Prelude.{if◌then◌else◌}
use Rattle.path_cond.specs.Ids.{id_at}
use Rattle.path_cond.proofs.Parts.{put_zero}
use Rattle.path_cond.proofs.ids.Ids.+with.Goals as goal

pub returns-then-number-eq0 : goal.returns-then-number-eq0
unfolding id_at
returns-then-number-eq0 t c = λ n.
    put_zero c.in_ok-first.first (id_at c.in_ok-first.odd.value) (id_at c.in_ok-first.even.value) c.args.number c.args.id c.if-number-eq0.true n
    ∙ ap (λ (x : Option ℕ). if n == c.args.number then Some c.args.id else x) (sym (c.in_ok-first.ensures n))
