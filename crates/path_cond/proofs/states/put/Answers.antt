use Rattle.std.proofs.Common.{◌≡◌, ◌∙◌, Some, sym}
use Rattle.std.specs.Prelude.{slice_get}
use Rattle.std.proofs.lemmas.Result.{IfOk-weaker}
use Rattle.path_cond.specs.Ids.{id_at}
use Rattle.path_cond.proofs.Numbers.{found_number, is_put}
use Rattle.path_cond.proofs.states.put.Goals as goal

pub returns : goal.returns
returns c =
    let number = c.unwrap-number.result in
    let at : slice_get c.args.variables.now.keys number ≡ Some c.args.variable =
    found_number c.args.variables.now.keys c.args.variable number (sym c.get_index_of.ensures.index ∙ c.unwrap-number.ensures) in
    IfOk-weaker c.with.result _ _
    (λ new h. is_put c.args.variables.now.keys c.len.ensures.unique (id_at c.args.ids.now) (id_at new) c.args.variable number c.args.id at h)
    c.with.ensures
