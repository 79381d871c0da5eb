use Rattle.std.proofs.Common.{◌≡◌, ◌++◌, take}
use Rattle.std.specs.Prelude.{flat_map}
use Rattle.cert_text.specs.Texts.{inlined_address}
use Rattle.cert_text.proofs.points.push_addresses.Given as goal

abbrev pub invariant-loop-address : goal.invariant-loop-address
invariant-loop-address l = l.out.items ≡ l.initial.out.items ++ flat_map inlined_address (take l.address-index l.path)
