-- What is known of the functions of a list that has pairs.
use Rattle.std.proofs.Common.{◌≡◌, ◌∙◌, ℕ, zero, suc, ◌<◌, ◌≤◌, ◌^◌, List, [], ◌∷◌, length, get_or, map, Option, Some, None, IsSome, refl, sym, ap, subst, arith}
use Rattle.std.specs.Prelude.{Contains, slice_get}
use Rattle.std.proofs.lemmas.Option.{slice_get-get_or, slice_get_within, get_or_from_slice_get, same_Some}
use Rattle.elf_read_spec.specs.declared.SymbolValues.TheVariants.{One}
use Rattle.elf_read_spec.specs.Image.{Image, function_named, size_at}
use Rattle.code_reach_spec.specs.Code.{CallsOn, Reaches, call, tail, itself, further}
use Rattle.c_types_spec.specs.Core.{Body, Typed}
use Rattle.pair_setup_spec.specs.SourceReach as source
use Rattle.pair_setup_spec.specs.SourceReach.{body_of}
use Rattle.pair_setup_spec.specs.Outcome as outcome
use Rattle.pair_setup_spec.specs.Outcome.{IsPaired, IsReached}
use Rattle.pair_setup.specs.Answers.{functions_of, pairs_of}
use Rattle.pair_setup.specs.Depths.{with_name}
use Rattle.pair_setup.specs.declared.outcome.Function.{Function}
use Rattle.pair_setup.specs.declared.outcome.Pairs.{Pairs}
use Rattle.cert_run.specs.Entries.{AreReady}
use Rattle.cert_run.proofs.Named.{mapped_from}

-- ---- functions with their names

pub functions_at : (list : List (List ℕ)) (functions : List Function) (k : ℕ) (name : List ℕ) (f : Function) → slice_get list k ≡ Some name
    → slice_get functions k ≡ Some f → slice_get (functions_of list functions) k ≡ Some (with_name name f)
functions_at [] functions k name f there given = absurd (let within = slice_get_within [] k name there in omega (arith, within))
functions_at (x ∷ list) [] k name f there given = absurd (let within = slice_get_within [] k f given in omega (arith, within))
functions_at (x ∷ list) (g ∷ functions) zero name f there given =
    let names : x ≡ name = same_Some x name there in
    let same : g ≡ f = same_Some g f given in
    ap (λ (n : List ℕ). Some (with_name n g)) names ∙ ap (λ (h : Function). Some (with_name name h)) same
functions_at (x ∷ list) (g ∷ functions) (suc k) name f there given = functions_at list functions k name f there given

-- as many as names, where the names are those of the list
pub enough_functions : (list : List (List ℕ)) (functions : List Function) → map (λ (f : outcome.Function). f.name) (functions_of list functions) ≡ list
    → length list ≤ length functions
enough_functions [] functions e = omega arith
enough_functions (x ∷ list) [] e = absurd (cc)
enough_functions (x ∷ list) (g ∷ functions) e =
    let tails : map (λ (f : outcome.Function). f.name) (functions_of list functions) ≡ list = cc in
    let rest = enough_functions list functions tails in
    omega (arith, rest)

pub functions_long : (list : List (List ℕ)) (functions : List Function) → length list ≤ length functions → length (functions_of list functions) ≡ length list
functions_long [] functions h = refl
functions_long (x ∷ list) [] h = absurd (omega (arith, h))
functions_long (x ∷ list) (g ∷ functions) h = ap suc (functions_long list functions (omega (arith, h)))

-- ---- ready

some_body : (unit : Typed) (name : List ℕ) (image : Image) → outcome.HasNoFault image unit name → IsSome (body_of unit name)
some_body unit name image sound = at (body_of unit name) refl
  where
    at : (o : Option Body) → body_of unit name ≡ o → IsSome (body_of unit name)
    at None e = absurd (sound.names.bodies name (record { reached = source.itself; absent = e }))
    at (Some body) e = subst (λ (o : Option Body). IsSome o) (sym e) refl

module _ (image : Image) (unit : Typed) (list : List (List ℕ)) (pairs : Pairs) (paired : IsPaired image unit list (pairs_of list pairs)) where
  pub ready : AreReady unit list pairs.functions.items
  ready = record {
    enough = enough_functions list pairs.functions.items paired.listed;
    bodies = λ k name there.
        some_body unit name image
        (subst (outcome.HasNoFault image unit) (get_or_from_slice_get list k name name there) (paired.no_fault k name (slice_get_within list k name there)));
    small = small;
  }
    where
      small : (k : ℕ) (f : Function) → k < length list → slice_get pairs.functions.items k ≡ Some f → f.stack < 2 ^ 32
      small k f below given =
          let name : List ℕ = get_or list k [] in
          let here = functions_at list pairs.functions.items k name f (slice_get-get_or list k [] below) given in
          let within = slice_get_within (functions_of list pairs.functions.items) k (with_name name f) here in
          let is = subst (outcome.IsFunction image unit) (get_or_from_slice_get (functions_of list pairs.functions.items) k (with_name name f) (with_name name f) here)
          (paired.functions_are k (with_name name f) within) in
          let few = is.within in
          omega (arith, few)
