-- Pairs of which a certificate is a proof are valid.
use Rattle.std.proofs.Common.{◌≡◌, ◌∙◌, ◌<◌, ℕ, List, length, get_or, sym, ap, subst}
use Rattle.std.specs.Prelude.{Contains}
use Rattle.std.proofs.lemmas.List.Elements.{All-map, Contains-get_or}
use Rattle.elf_read_spec.specs.declared.SymbolValues.TheVariants.{One}
use Rattle.elf_read_spec.specs.Image.{Image, function_named}
use Rattle.code_reach_spec.specs.Code.{IsStack}
use Rattle.c_types_spec.specs.Core.{Typed}
use Rattle.pair_setup_spec.specs.Outcome as outcome
use Rattle.validity_spec.specs.Claim.{IsValid}
use Rattle.validity_laws.specs.Derivation.{Function}
use Rattle.validity_laws.specs.CheckStatements.{AreAtNames, ProofsGiveValidity}
use Rattle.cert_run.specs.Sides.{CheckedPairsAreValid, function_in, functions_in}
use Rattle.cert_run.proofs.Named.{mapped_to}
use Rattle.cert_run.proofs.Whole.{body_at, sound_at}

pub pairs_valid : ProofsGiveValidity → CheckedPairsAreValid
pairs_valid law image unit list pairs q firsts lines paired are spelled proof k d h =
    let f : outcome.Function = get_or pairs.functions k d in
    let g : Function = function_in unit f in
    let is = paired.functions_are k d h in
    let has = body_at image unit list pairs paired f (sound_at image unit list pairs paired k d h) in
    let among : Contains (functions_in unit pairs) g = mapped_to (function_in unit) pairs.functions f (Contains-get_or pairs.functions k d h) in
    let stack : IsStack q.image g.entry g.stack = subst (λ (i : Image). IsStack i f.entry f.stack) (sym are.image_is) is.stack_is in
    let valid : IsValid q.image q.unit g.body.name g.stack =
    law q firsts (functions_in unit pairs) lines are.sides are.file are.functions_are at_names spelled proof g among stack in
    subst (λ (n : List ℕ). IsValid image unit n f.stack) has.named
    (subst (λ (u : Typed). IsValid image u g.body.name f.stack) are.unit_is
    (subst (λ (i : Image). IsValid i q.unit g.body.name f.stack) are.image_is valid))
  where
    at_name : (n : ℕ) (e : outcome.Function) → n < length pairs.functions → function_named q.image (function_in unit (get_or pairs.functions n e)).body.name ≡ One (function_in unit (get_or pairs.functions n e)).entry
    at_name n e within =
        let f : outcome.Function = get_or pairs.functions n e in
        let has = body_at image unit list pairs paired f (sound_at image unit list pairs paired n e within) in
        ap (λ (i : Image). function_named i (function_in unit f).body.name) are.image_is ∙ ap (function_named image) has.named ∙ (paired.functions_are n e within).entry_is

    at_names : AreAtNames q (functions_in unit pairs)
    at_names = All-map (λ (g : Function). function_named q.image g.body.name ≡ One g.entry) (function_in unit) pairs.functions at_name
