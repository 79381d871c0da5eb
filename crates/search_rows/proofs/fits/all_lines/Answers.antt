use Rattle.std.proofs.Common.{◌≡◌, ◌-◌, refl, arith}
use Rattle.std.proofs.lemmas.Iterator.{items_from_collect, YieldsList-from_range}
use Rattle.search_rows.proofs.fits.all_lines.Goals as goal

pub returns : goal.returns
returns c =
    let many : c.args.count - 0 ≡ c.args.count = omega arith in
    items_from_collect c.collect.result c.collect.ensures.ran (YieldsList-from_range 0 c.args.count c.args.count refl many)
