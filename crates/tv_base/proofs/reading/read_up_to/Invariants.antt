use Rattle.std.proofs.Common.{◌≡◌, ◌-◌, ◌≤◌, vec_len}
use Rattle.tv_base.specs.Reading.{HandsOver}
use Rattle.tv_base.proofs.reading.read_up_to.Given as goal

abbrev pub invariant-pieces : goal.invariant-pieces
invariant-pieces g l =
    HandsOver (g.D.Desk.state l.initial.desk).left l.bytes.items (g.D.Desk.state l.desk).left
    × (vec_len l.bytes ≤ l.most)
    × ((g.D.Desk.state l.desk).files ≡ (g.D.Desk.state l.initial.desk).files)
    × ((g.D.Desk.state l.desk).opened ≡ (g.D.Desk.state l.initial.desk).opened)
    × ((g.D.Desk.state l.desk).faults ≡ (g.D.Desk.state l.initial.desk).faults)
    × (vec_len l.buf ≡ vec_len l.initial.buf)

abbrev pub decreases-pieces : goal.decreases-pieces
decreases-pieces g l = l.most - vec_len l.bytes
