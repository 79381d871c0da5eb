-- What is shown of a listed function.
use Rattle.std.proofs.Common.{◌≡◌, ℕ, List, length, Option, Some, None, Err, refl, ap, sym, ◌∙◌, subst}
use Rattle.std.specs.Prelude.{IsSome, IfErr, Result, option_map}
use Rattle.elf_read_spec.specs.Image.{Image, function_named}
use Rattle.elf_read_spec.specs.declared.SymbolValues.TheVariants.{One}
use Rattle.code_reach_spec.specs.Code.{itself}
use Rattle.code_reach_spec.specs.Faults.{ReachesNoFault, of_function}
use Rattle.attempt.specs.declared.refusal.Refusal.{Refusal}
use Rattle.attempt.specs.declared.refusal.Refusal.TheVariants.{Fault}
use Rattle.code_reach.specs.declared.faults.CodeFault.{CodeFault}
use Rattle.code_reach.specs.Found.{IsCode, IsCodeError, IsFirstFault}
use Rattle.c_types_spec.specs.Core as core
use Rattle.c_types.specs.declared.typed.Counts.{Counts}
use Rattle.c_types.specs.declared.typed.Typed.{Typed}
use Rattle.c_types.specs.Typed.{body_in, counts_in, counts_of, typed_of}
use Rattle.pair_setup_spec.specs.SourceReach.{body_of}
use Rattle.pair_setup.specs.declared.outcome.Function.{Function}
use Rattle.tv_core_spec.specs.Verdicts.{IsShown}
use Rattle.tv_core.specs.Functions.{IsListed}

-- code without a fault has none
pub no_code_fault : {A : Type 0} (image : Image) (entry : ℕ) (result : Result A (Refusal CodeFault)) (error : Refusal CodeFault) (fault : CodeFault)
    → IfErr result (λ e. IsCodeError image entry e) → result ≡ Err error → error ≡ Fault fault → ReachesNoFault image entry → ⊥
no_code_fault image entry result error fault h is as_fault sound =
    let told = subst (λ r. IfErr r (λ e. IsCodeError image entry e)) is h in
    let first : IsFirstFault image entry fault.kind fault.address = subst (λ e. IsCodeError image entry e) as_fault told in
    sound fault.kind fault.address (of_function entry first.size fault.kind fault.address itself first.size_is first.first.fault)

-- what a look-up says of the body
abbrev Finds : Typed → (name : List ℕ) → Option Counts → Type 0
Finds unit name found = option_map counts_of found ≡ option_map counts_in (body_in (typed_of unit).bodies name)

same_body : (unit : Typed) (name : List ℕ) → body_in (typed_of unit).bodies name ≡ body_of (typed_of unit) name
same_body unit name = refl

by_found : (body : Option core.Body) (found : Option Counts) → option_map counts_of found ≡ option_map counts_in body → IsSome body → IsSome found
by_found None found e there = absurd (cc)
by_found (Some body) None e there = absurd (cc)
by_found (Some body) (Some counts) e there = refl

pub counts_there : (unit : Typed) (name : List ℕ) (found : Option Counts) → Finds unit name found → IsSome (body_of (typed_of unit) name) → IsSome found
counts_there unit name found e there =
    by_found (body_of (typed_of unit) name) found (e ∙ ap (option_map counts_in) (same_body unit name)) there

-- the body, and its numbers
record Counted (unit : core.Typed) (name : List ℕ) (counts : Counts) : Type 0 where
  body : core.Body
  body_is : body_of unit name ≡ Some body
  params_are : counts.params ≡ length body.signature.parameters
  loops_are : counts.loops ≡ body.loops
  calls_are : counts.calls ≡ body.calls

by_body : (unit : core.Typed) (name : List ℕ) (counts : Counts) (body : Option core.Body) → body_of unit name ≡ body
    → Some (counts_of counts) ≡ option_map counts_in body → Counted unit name counts
by_body unit name counts None is e = absurd (cc)
by_body unit name counts (Some body) is e =
    let same : counts_of counts ≡ counts_in body = cc in
    record { body = body; body_is = is; params_are = ap (λ c. c.0) same; loops_are = ap (λ c. c.1) same; calls_are = ap (λ c. c.2) same }

counted : (unit : Typed) (name : List ℕ) (found : Option Counts) (counts : Counts) → Finds unit name found → found ≡ Some counts
    → Counted (typed_of unit) name counts
counted unit name found counts e is =
    by_body (typed_of unit) name counts (body_of (typed_of unit) name) refl
    (sym (ap (option_map counts_of) is) ∙ e ∙ ap (option_map counts_in) (same_body unit name))

pub shows : (image : Image) (unit : Typed) (name given : List ℕ) (f : Function) (words : List (ℕ × ℕ)) (found : Option Counts) (counts : Counts)
    → IsListed image (typed_of unit) name f → IsCode image f.entry words → Finds unit name found → found ≡ Some counts → given ≡ name
    → (given ≡ name) × IsShown image (typed_of unit) (record {
      name = given;
      entry = f.entry;
      size = f.size;
      stack = f.stack;
      words = words;
      params = counts.params;
      loops = counts.loops;
      calls = counts.calls;
    })
shows image unit name given f words found counts listed code finds is same =
    let of_body = counted unit name found counts finds is in (
      same,
      record {
        entry_is = subst (λ n. function_named image n ≡ One f.entry) (sym same) listed.code.named;
        size_is = listed.sized;
        stack_is = listed.stack_is;
        words_are = code;
        body = of_body.body;
        body_is = subst (λ n. body_of (typed_of unit) n ≡ Some of_body.body) (sym same) of_body.body_is;
        params_are = of_body.params_are;
        loops_are = of_body.loops_are;
        calls_are = of_body.calls_are;
      },
    )
