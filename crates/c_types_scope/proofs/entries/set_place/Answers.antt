use Rattle.std.proofs.Common.{◌∙◌, ap}
use Rattle.std.specs.Prelude.{Some, bytes_eq}
use Rattle.std.proofs.lemmas.Map.Text.{hash_map_updates_str}
use Rattle.c_types_scope.specs.Entries.{flat}
use Rattle.c_types_scope.proofs.Tied.{flat-cond}
use Rattle.c_types_scope.proofs.entries.set_place.Goals as goal

pub returns-clause-set : goal.returns-clause-set
returns-clause-set c = λ other.
    ap flat (hash_map_updates_str c.args.name.now c.args.newest.now c.insert.new.self (Some c.args.place) c.in_ok-insert.ensures.updates other)
    ∙ flat-cond (bytes_eq c.args.name.now other) c.args.place _
