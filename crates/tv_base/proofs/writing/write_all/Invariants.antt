use Rattle.std.proofs.Common.{◌≡◌, ◌-◌, ◌≤◌, length, take}
use Rattle.tv_base.specs.Writing.{Grows}
use Rattle.tv_base.proofs.writing.write_all.Given as goal

abbrev pub invariant-pieces : goal.invariant-pieces
invariant-pieces g l =
    Grows (g.S.Sink.state l.initial.sink).held (g.S.Sink.state l.initial.sink).begun (take l.at l.bytes) (g.S.Sink.state l.sink).held
    × (l.at ≤ length l.bytes)
    × ((g.S.Sink.state l.sink).begun ≡ (g.S.Sink.state l.initial.sink).begun)
    × ((g.S.Sink.state l.sink).faults ≡ (g.S.Sink.state l.initial.sink).faults)

abbrev pub decreases-pieces : goal.decreases-pieces
decreases-pieces g l = length l.bytes - l.at
