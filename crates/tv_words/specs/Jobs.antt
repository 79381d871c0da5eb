-- A job of the code as a command that the definitions speak of.
use Rattle.std.specs.Prelude.{ℕ, List, Vec, map, option_map}
use Rattle.std.specs.Borrow.{Bor}
use Rattle.std.specs.Global.{Global}
use Rattle.tv_words.specs.Commands as spec
use Rattle.tv_words.specs.declared.Job.{Job}
use Rattle.tv_words.specs.declared.Job.TheVariants.{Prove, Check, Show}
use Rattle.tv_words.specs.declared.Proving.{Proving}
use Rattle.tv_words.specs.declared.Checking.{Checking}
use Rattle.tv_words.specs.declared.Showing.{Showing}

abbrev pub names_of : Vec (Bor (List ℕ)) Global → List (List ℕ)
names_of names = map (λ name. name.now) names.items

abbrev pub proving_of : Proving → spec.Proving
proving_of job = record {
  elf = job.elf.now;
  source = job.source.now;
  certificate = job.certificate.now;
  functions = option_map names_of job.functions;
}

abbrev pub checking_of : Checking → spec.Checking
checking_of job = record {
  elf = job.elf.now;
  source = job.source.now;
  certificate = job.certificate.now;
  functions = option_map names_of job.functions;
}

abbrev pub showing_of : Showing → spec.Showing
showing_of job = record { elf = job.elf.now; source = job.source.now; function = job.function.now }

abbrev pub job_of : Job → spec.Command
job_of (Prove job) = spec.Prove (proving_of job)
job_of (Check job) = spec.Check (checking_of job)
job_of (Show job) = spec.Show (showing_of job)
