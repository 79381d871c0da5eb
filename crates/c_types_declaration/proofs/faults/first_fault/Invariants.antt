use Rattle.std.proofs.Common.{◌≡◌, drop}
use Rattle.c_types_spec.specs.Names.{faults_at}
use Rattle.c_types_declaration.proofs.faults.first_fault.Given as goal

-- the faults are those of the tests that are left
abbrev pub invariant-loop-test : goal.invariant-loop-test
invariant-loop-test l = faults_at l.offset (drop l.test-index l.tests) ≡ faults_at l.offset l.tests
