-- That words are one command at most, and what a parse says of the subcommand that it met.
use Rattle.std.proofs.Common.{◌≡◌, ◌≢◌, ◌∙◌, true, List, [], ◌∷◌, get_or, arith, Option, Some, None, refl, sym, ap, ap₂, subst, inl, inr, codes, unwrap_or, option_map, Result, Ok, Err, IfOk, IfErr, IsErrAnd}
use Rattle.clap.specs.Walk.{Row, Text}
use Rattle.clap.specs.Simple.{is_simple, subcommand_of}
use Rattle.clap.specs.Faults.{fault_of, is_simple_and_free}
use Rattle.clap.specs.Kinds.{Kinds, HasKind}
use Rattle.clap.specs.Values.{kind_of}
use Rattle.clap.specs.declared.error.Error.{Error}
use Rattle.clap.specs.declared.error.kind.ErrorKind.TheVariants.{OutOfMemory}
use Rattle.attempt.specs.declared.refusal.Refusal.{Refusal}
use Rattle.attempt.specs.declared.refusal.Refusal.TheVariants.{Fault, NoMemory}
use Rattle.tv_words.specs.declared.WordsFault.{WordsFault}
use Rattle.tv_words.specs.declared.WordsFault.TheVariants.{Words}
use Rattle.tv_words.specs.Commands as spec
use Rattle.tv_words.specs.Commands.{AreListed, AsksFor, IsCommand, IsProving, IsChecking, IsShowing, program, is_prove, is_check, is_show}
use Rattle.tv_words.proofs.Lists.{parts_of_list}

pub program_is_plain : is_simple_and_free program ≡ true
unfolding program
program_is_plain = refl

pub program_is_simple : is_simple program ≡ true
unfolding program
program_is_simple = refl

-- an error with no kind to have comes of memory
pub no_memory : (kinds : Kinds) (error : Error) → HasKind kinds error → kinds ≡ [] → kind_of error ≡ OutOfMemory
no_memory [] error (inl memory) e = memory
no_memory [] error (inr none) e = absurd none
no_memory (kind ∷ kinds) error h e = cc

un_some : {A : Type 0} (x y : A) → Some x ≡ Some y → x ≡ y
un_some x y e = ap (λ o. unwrap_or o x) e

-- ---- words are one command at most

same_lists : (text : Option Text) (a b : Option (List Text)) → AreListed text a → AreListed text b → a ≡ b
same_lists None None None x y = refl
same_lists None None (Some b) x y = absurd y
same_lists None (Some a) b x y = absurd x
same_lists (Some text) None b x y = absurd x
same_lists (Some text) (Some a) None x y = absurd y
same_lists (Some text) (Some a) (Some b) x y = ap (λ (names : List Text). Some names) (sym (parts_of_list text a x) ∙ parts_of_list text b y)

same_proving : (given : List Row) (a b : spec.Proving) → IsProving given a → IsProving given b → a ≡ b
same_proving given a b x y =
    let elf = un_some a.elf b.elf (sym x.elf_is ∙ y.elf_is) in
    let source = un_some a.source b.source (sym x.source_is ∙ y.source_is) in
    let certificate = un_some a.certificate b.certificate (sym x.certificate_is ∙ y.certificate_is) in
    let functions = same_lists _ a.functions b.functions x.functions_are y.functions_are in
    λ i. record { elf = elf i; source = source i; certificate = certificate i; functions = functions i }

same_checking : (given : List Row) (a b : spec.Checking) → IsChecking given a → IsChecking given b → a ≡ b
same_checking given a b x y =
    let elf = un_some a.elf b.elf (sym x.elf_is ∙ y.elf_is) in
    let source = un_some a.source b.source (sym x.source_is ∙ y.source_is) in
    let certificate = un_some a.certificate b.certificate (sym x.certificate_is ∙ y.certificate_is) in
    let functions = same_lists _ a.functions b.functions x.functions_are y.functions_are in
    λ i. record { elf = elf i; source = source i; certificate = certificate i; functions = functions i }

same_showing : (given : List Row) (a b : spec.Showing) → IsShowing given a → IsShowing given b → a ≡ b
same_showing given a b x y =
    let elf = un_some a.elf b.elf (sym x.elf_is ∙ y.elf_is) in
    let source = un_some a.source b.source (sym x.source_is ∙ y.source_is) in
    let function = un_some a.function b.function (sym x.function_is ∙ y.function_is) in
    λ i. record { elf = elf i; source = source i; function = function i }

-- the words that name the subcommands differ
apart : codes "prove" ≢ codes "show"
apart e = let first : 112 ≡ 115 = ap (λ l. get_or l 0 0) e in omega (arith, first)

prove_or_check : codes "prove" ≢ codes "check"
prove_or_check e = let first : 112 ≡ 99 = ap (λ l. get_or l 0 0) e in omega (arith, first)

check_or_show : codes "check" ≢ codes "show"
check_or_show e = let first : 99 ≡ 115 = ap (λ l. get_or l 0 0) e in omega (arith, first)

-- of two subcommands that were found the words are one
same_verb : (words : List Text) (one two : Text) (given given2 : List Row) → spec.Gives words one given → spec.Gives words two given2 → one ≡ two
same_verb words one two given given2 x y = ap (λ p. p.0) (un_some (one, given) (two, given2) (sym x.found ∙ y.found))

pub same_command : (words : List Text) (a b : spec.Command) → IsCommand words a → IsCommand words b → a ≡ b
same_command words a b (is_prove given job gives proving) (is_prove given2 job2 gives2 proving2) =
    let found = un_some (codes "prove", given) (codes "prove", given2) (sym gives.found ∙ gives2.found) in
    let rows : given ≡ given2 = ap (λ p. p.1) found in
    ap (λ (j : spec.Proving). spec.Prove j) (same_proving given job job2 proving (subst (λ (r : List Row). IsProving r job2) (sym rows) proving2))
same_command words a b (is_show given job gives showing) (is_show given2 job2 gives2 showing2) =
    let found = un_some (codes "show", given) (codes "show", given2) (sym gives.found ∙ gives2.found) in
    let rows : given ≡ given2 = ap (λ p. p.1) found in
    ap (λ (j : spec.Showing). spec.Show j) (same_showing given job job2 showing (subst (λ (r : List Row). IsShowing r job2) (sym rows) showing2))
same_command words a b (is_check given job gives checking) (is_check given2 job2 gives2 checking2) =
    let found = un_some (codes "check", given) (codes "check", given2) (sym gives.found ∙ gives2.found) in
    let rows : given ≡ given2 = ap (λ p. p.1) found in
    ap (λ (j : spec.Checking). spec.Check j) (same_checking given job job2 checking (subst (λ (r : List Row). IsChecking r job2) (sym rows) checking2))
same_command words a b (is_prove given job gives proving) (is_show given2 job2 gives2 showing2) =
    absurd (apart (same_verb words (codes "prove") (codes "show") given given2 gives gives2))
same_command words a b (is_show given job gives showing) (is_prove given2 job2 gives2 proving2) =
    absurd (apart (same_verb words (codes "prove") (codes "show") given2 given gives2 gives))
same_command words a b (is_prove given job gives proving) (is_check given2 job2 gives2 checking2) =
    absurd (prove_or_check (same_verb words (codes "prove") (codes "check") given given2 gives gives2))
same_command words a b (is_check given job gives checking) (is_prove given2 job2 gives2 proving2) =
    absurd (prove_or_check (same_verb words (codes "prove") (codes "check") given2 given gives2 gives))
same_command words a b (is_check given job gives checking) (is_show given2 job2 gives2 showing2) =
    absurd (check_or_show (same_verb words (codes "check") (codes "show") given given2 gives gives2))
same_command words a b (is_show given job gives showing) (is_check given2 job2 gives2 checking2) =
    absurd (check_or_show (same_verb words (codes "check") (codes "show") given2 given gives2 gives))

-- ---- the subcommand that was met, by its name and by its rows

module _ {X : Type 0} (f : X → Text) (g : X → Text × List Row) (tied : (x : X) → (g x).0 ≡ f x) where
  pub row_of_name : (o : Option X) (name : Text) (rows : List Row) → option_map f o ≡ Some name → option_map (λ p. p.1) (option_map g o) ≡ Some rows → option_map g o ≡ Some (name, rows)
  row_of_name None name rows n r = cc
  row_of_name (Some x) name rows n r =
      let first : (g x).0 ≡ name = tied x ∙ un_some _ _ n in
      let second : (g x).1 ≡ rows = un_some _ _ r in
      ap₂ (λ (a : Text) (b : List Row). Some (a, b)) first second

  pub name_of_row : (o : Option X) (name : Text) (rows : List Row) → option_map g o ≡ Some (name, rows) → option_map f o ≡ Some name
  name_of_row None name rows r = cc
  name_of_row (Some x) name rows r = ap (λ (n : Text). Some n) (sym (tied x) ∙ ap (λ p. p.0) (un_some _ _ r))

-- where it is neither `prove` nor `check`, the rows of the subcommand that is asked for are those of `show`
pub asked_rows : (found : Option (Text × List Row)) (command : spec.Command) → ((given : List Row) → found ≢ Some (codes "prove", given))
    → ((given : List Row) → found ≢ Some (codes "check", given)) → AsksFor found command → (given : List Row) × (found ≡ Some (codes "show", given))
asked_rows found (spec.Prove job) never nor asks = absurd (never asks.0 asks.1)
asked_rows found (spec.Check job) never nor asks = absurd (nor asks.0 asks.1)
asked_rows found (spec.Show job) never nor asks = (asks.0, asks.1)

-- words that `clap` accepts are the command that their subcommand asks for
pub commanded : (words : List Text) (found : Option (Text × List Row)) (command : spec.Command) → fault_of program words ≡ []
    → found ≡ subcommand_of program words → AsksFor found command → IsCommand words command
commanded words found (spec.Prove job) taken same asks = is_prove asks.0 job (record { taken = taken; found = sym same ∙ asks.1 }) asks.2
commanded words found (spec.Check job) taken same asks = is_check asks.0 job (record { taken = taken; found = sym same ∙ asks.1 }) asks.2
commanded words found (spec.Show job) taken same asks = is_show asks.0 job (record { taken = taken; found = sym same ∙ asks.1 }) asks.2

-- and what their subcommand asks for is the command that they are
pub asked_by : (words : List Text) (found : Option (Text × List Row)) (command : spec.Command)
    → found ≡ subcommand_of program words → IsCommand words command → AsksFor found command
asked_by words found command same (is_prove given job gives proving) = (given, same ∙ gives.found, proving)
asked_by words found command same (is_check given job gives checking) = (given, same ∙ gives.found, checking)
asked_by words found command same (is_show given job gives showing) = (given, same ∙ gives.found, showing)

module _ {J E : Type 0} (view : J → spec.Command) (words : List Text) (found : Option (Text × List Row))
    (same : found ≡ subcommand_of program words) where
  -- what a job is of its subcommand, it is of the words
  pub job_commanded : (r : Result J E) → fault_of program words ≡ [] → IfOk r (λ job. AsksFor found (view job))
      → IfOk r (λ job. IsCommand words (view job))
  job_commanded (Ok job) taken asks = commanded words found (view job) taken same asks
  job_commanded (Err e) taken asks = tt

  -- and there is no other command
  pub job_alone : (r : Result J E) → IfOk r (λ job. IsCommand words (view job))
      → IfOk r (λ job. (other : spec.Command) → IsCommand words other → other ≡ view job)
  job_alone (Ok job) is = λ other yes. same_command words other (view job) yes is
  job_alone (Err e) is = tt

  -- what refuses all that the subcommand asks for, refuses each command
  pub refused_alike : (r : Result J E) (cause : E → Type 0) → IfErr r (λ e. (other : spec.Command) → AsksFor found other → cause e)
      → IfErr r (λ e. (other : spec.Command) → IsCommand words other → cause e)
  refused_alike (Ok job) cause only = tt
  refused_alike (Err e) cause only = λ other is. only other (asked_by words found other same is)

-- the error that a refusal becomes: one of memory where the words are taken
pub refused_by_memory : {T : Type 0} (r : Result T (Refusal WordsFault)) (error : Error) (taken : Type 0)
    → IsErrAnd r (λ e. (kind_of error ≡ OutOfMemory → e ≡ NoMemory) × (kind_of error ≢ OutOfMemory → e ≡ Fault Words)) → (taken → kind_of error ≡ OutOfMemory) → IfErr r (λ e. taken → e ≡ NoMemory)
refused_by_memory (Ok x) error taken h memory = tt
refused_by_memory (Err e) error taken h memory = λ is. h.0 (memory is)
