-- What a command asks for, and of which files.
use Rattle.std.specs.Prelude.{ℕ, List, [], Option, Some, None}
use Rattle.tv_words.specs.Commands.{Command, Prove, Check, Show}
use Rattle.tv_core_spec.specs.Listing.{Task, Judge, Verify, Display}

-- the names of two files to read, that of a certificate to write, and that of one to read; a command that writes no
-- certificate has the empty name
pub record Asked : Type 0 where
  pub elf : List ℕ
  pub source : List ℕ
  pub certificate : List ℕ
  pub given : Option (List ℕ)

abbrev pub asked_of : Command → Asked
asked_of (Prove job) = record { elf = job.elf; source = job.source; certificate = job.certificate; given = None }
asked_of (Check job) = record { elf = job.elf; source = job.source; certificate = []; given = Some job.certificate }
asked_of (Show job) = record { elf = job.elf; source = job.source; certificate = []; given = None }

-- what is asked of the two files, where this is the certificate that is read, if one is
abbrev pub task_of : Command → (certificate : List ℕ) → Task
task_of (Prove job) certificate = Judge job.functions
task_of (Check job) certificate = Verify job.functions certificate
task_of (Show job) certificate = Display job.function
