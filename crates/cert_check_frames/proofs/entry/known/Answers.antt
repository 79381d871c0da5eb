use Rattle.std.proofs.Common.{List, ap}
use Rattle.std.specs.Map.{lookup}
use Rattle.term_core_spec.specs.declared.Variable.{Variable}
use Rattle.term_core_spec.specs.Same.{same_variable}
use Rattle.std.proofs.Common.{ℕ}
use Rattle.cert_check_frames.proofs.entry.known.Goals as goal

pub add_facts-requires : goal.add_facts-requires
add_facts-requires c = λ v. ap (λ (entries : List (Variable × ℕ)). lookup (same_variable v) entries) c.new-known.ensures.empty
