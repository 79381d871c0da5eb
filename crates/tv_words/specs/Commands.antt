-- Which words are a command, and what it is to do: `prove ELF C --cert OUT [--functions NAME,..]`,
-- `check ELF C CERT [--functions NAME,..]`, or `show ELF C --function NAME`.
use Rattle.std.specs.Prelude.{◌≡◌, Bool, true, false, List, [], codes, Option, Some, None, ⊤}
use Rattle.clap.specs.Walk.{Row, Rule, Text, first_of}
use Rattle.clap.specs.Simple.{App, Shape, app_of, new_app, new_rule, on_top, subcommand_of, with_rule, with_subcommand}
use Rattle.clap.specs.Faults.{fault_of}
use Rattle.clap.specs.declared.builder.action.ArgAction.TheVariants.{Set}
use Rattle.clap.specs.declared.builder.command.Command.{Command as ClapCommand}
use Rattle.clap.specs.declared.builder.command.Command.TheViews.{out-Command}
use Rattle.tv_words.specs.Names.{IsList, is_name}

-- ---- what `clap` parses

-- a file, which is a positional argument
abbrev pub file : Text → Rule
file id = record (new_rule id) { required = true; action = Some Set }

-- a value of an option
abbrev pub option : Text → Bool → Rule
option name required = record (new_rule name) { long = Some name; required = required; action = Some Set }

-- a subcommand with its two files
abbrev pub with_files : Text → App
with_files name = with_rule (with_rule (new_app name) (file (codes "elf"))) (file (codes "source"))

abbrev pub prove : App
prove = with_rule (with_rule (with_files (codes "prove")) (option (codes "cert") true)) (option (codes "functions") false)

abbrev pub check : App
check = with_rule (with_rule (with_files (codes "check")) (file (codes "certificate"))) (option (codes "functions") false)

abbrev pub show : App
show = with_rule (with_files (codes "show")) (option (codes "function") true)

-- the program's name, and its subcommands, of which one is required
unfoldable pub program : App
program =
    with_subcommand (with_subcommand (with_subcommand (on_top (λ (s : Shape). record s { subcommand_required = true }) (new_app (codes "tv"))) prove.top) check.top) show.top

-- a command that `clap` sees as this one, with no global argument
abbrev pub IsCommandOf : ClapCommand → App → Type 0
IsCommandOf command app = (app_of command ≡ app) × ((out-Command command).has_globals ≡ false)

-- ---- what is to be done

-- the files and the functions of `prove`: two files to read, one to write, and the list if there is one
pub record Proving : Type 0 where
  pub elf : Text
  pub source : Text
  pub certificate : Text
  pub functions : Option (List Text)

-- the files and the functions of `check`: three files to read, and the list if there is one
pub record Checking : Type 0 where
  pub elf : Text
  pub source : Text
  pub certificate : Text
  pub functions : Option (List Text)

-- the files and the function of `show`
pub record Showing : Type 0 where
  pub elf : Text
  pub source : Text
  pub function : Text

pub data Command : Type 0 where
  Prove : (job : Proving) → Command
  Check : (job : Checking) → Command
  Show : (job : Showing) → Command

-- a list that is given is one of names
abbrev pub AreListed : Option Text → Option (List Text) → Type 0
AreListed None None = ⊤
AreListed None (Some names) = ⊥
AreListed (Some text) None = ⊥
AreListed (Some text) (Some names) = IsList text names

-- the values that were given to the arguments of `prove`
pub record IsProving (given : List Row) (job : Proving) : Type 0 where
  pub elf_is : first_of (codes "elf") given ≡ Some job.elf
  pub source_is : first_of (codes "source") given ≡ Some job.source
  pub certificate_is : first_of (codes "cert") given ≡ Some job.certificate
  pub functions_are : AreListed (first_of (codes "functions") given) job.functions

-- the values that were given to the arguments of `check`
pub record IsChecking (given : List Row) (job : Checking) : Type 0 where
  pub elf_is : first_of (codes "elf") given ≡ Some job.elf
  pub source_is : first_of (codes "source") given ≡ Some job.source
  pub certificate_is : first_of (codes "certificate") given ≡ Some job.certificate
  pub functions_are : AreListed (first_of (codes "functions") given) job.functions

-- the values that were given to the arguments of `show`; the function has a name
pub record IsShowing (given : List Row) (job : Showing) : Type 0 where
  pub elf_is : first_of (codes "elf") given ≡ Some job.elf
  pub source_is : first_of (codes "source") given ≡ Some job.source
  pub function_is : first_of (codes "function") given ≡ Some job.function
  pub named : is_name job.function ≡ true

-- a subcommand and the values that were given to it ask for this
abbrev pub AsksFor : Option (Text × List Row) → Command → Type 0
AsksFor found (Prove job) = (given : List Row) × (found ≡ Some (codes "prove", given)) × IsProving given job
AsksFor found (Check job) = (given : List Row) × (found ≡ Some (codes "check", given)) × IsChecking given job
AsksFor found (Show job) = (given : List Row) × (found ≡ Some (codes "show", given)) × IsShowing given job

-- `clap` finds no fault in the words, of which the first is the program's name, and they give these values
-- to a subcommand
pub record Gives (words : List Text) (verb : Text) (given : List Row) : Type 0 where
  pub taken : fault_of program words ≡ []
  pub found : subcommand_of program words ≡ Some (verb, given)

-- the words are this command
pub data IsCommand (words : List Text) : Command → Type 0 where
  is_prove : (given : List Row) (job : Proving) → Gives words (codes "prove") given → IsProving given job → IsCommand words (Prove job)
  is_check : (given : List Row) (job : Checking) → Gives words (codes "check") given → IsChecking given job → IsCommand words (Check job)
  is_show : (given : List Row) (job : Showing) → Gives words (codes "show") given → IsShowing given job → IsCommand words (Show job)
