use Rattle.std.proofs.Common.{ℕ, List, Some, None, sym, subst}
use Rattle.std.specs.Prelude.{length}
use Rattle.std.proofs.lemmas.Option.{slice_get_within}
use Rattle.cert_check_frames.specs.Parts.{AreIndices, IsFreeAt}
use Rattle.cert_check.proofs.Entered.{begin_goes, stranger_goes}
use Rattle.cert_check.proofs.walk.begin.Goals as goal

pub free-requires : goal.free-requires
free-requires c = subst (AreIndices (length c.args.listed.now)) (sym c.as_slice.ensures.value) c.requires.sound.indices

pub enter-requires : goal.enter-requires
enter-requires c = slice_get_within c.args.listed.now c.in-Some.index c.in-Some.ensures.0.function c.in-Some.ensures.0.there

pub returns-in-Some : goal.returns-in-Some
returns-in-Some c =
    begin_goes c.args.listed.now c.args.walk.now _ c.args.part.now.name.items c.args.part.now.stack c.args.line c.in-Some.index c.requires
    (subst (λ (name : List ℕ). IsFreeAt c.args.listed.now c.args.walk.now.parts.items name (Some c.in-Some.index)) c.as_slice-2.ensures.value
    (subst (λ (parts : List ℕ). IsFreeAt c.args.listed.now parts c.as_slice-2.result.now (Some c.in-Some.index)) c.as_slice.ensures.value c.in-Some.ensures))
    c.enter.result c.enter.ensures

pub returns-in-None : goal.returns-in-None
returns-in-None c =
    stranger_goes c.args.listed.now c.args.walk.now _ c.args.part.now.name.items c.args.part.now.stack c.args.line c.requires
    (subst (λ (name : List ℕ). IsFreeAt c.args.listed.now c.args.walk.now.parts.items name None) c.as_slice-2.ensures.value
    (subst (λ (parts : List ℕ). IsFreeAt c.args.listed.now parts c.as_slice-2.result.now None) c.as_slice.ensures.value c.in-None.ensures))
