use Rattle.std.proofs.Common.{◌≡◌, ◌%◌, sym, arith, rules}
use Rattle.std.specs.Prelude.{is_some, true}
use Rattle.code_reach_spec.specs.Code.{words_from}
use Rattle.code_reach_tables.proofs.Tabled.{bounded-is}
use Rattle.code_reach_tables.proofs.tables.bounded.Goals as goal

pub returns : goal.returns
returns c = λ other branch_is count_is.
    let even : c.args.first % 4 ≡ 0 = search rules in
    let fixed : is_some (words_from c.args.image.now c.args.first c.args.bound.count) ≡ true = search rules in
    bounded-is c.args.image.now c.args.before c.args.first c.args.bound.branch c.args.bound.count other branch_is count_is even (search rules) (search rules) (search rules) fixed
