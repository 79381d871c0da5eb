use Rattle.std.proofs.Common.{rules, ◌≡◌, ◌-◌, ◌<◌, ◌∙◌, false, Some, length, set, take, refl, ap, sym, subst, arith}
use Rattle.std.specs.Prelude.{slice_get}
use Rattle.std.specs.Vec.{vec_len}
use Rattle.std.proofs.lemmas.Option.{slice_get_read}
use Rattle.cnf_core.specs.Codes.{code_of}
use Rattle.sat_search_state.specs.Placed.{IsKept}
use Rattle.sat_search_state.proofs.Places.{code_inside, kept_less}
use Rattle.sat_search_state.proofs.entries.Trail.pop.Goals as goal

last_there : (c : goal.After-code) → slice_get c.self.inside.entries.items (length c.self.inside.entries.items - 1) ≡ Some c.index.result.now
last_there c =
    let entries = c.self.inside.entries.items in
    let count : c.len-last.result ≡ length entries = search rules in
    let same = ap (λ t. length t.entries) c.self.view_is in
    let positive = c.requires in
    ap (λ n. slice_get entries (n - 1)) (sym count)
    ∙ slice_get_read entries (length entries) (c.len-last.result - 1) c.index.result.now refl (omega (arith, count, same, positive)) c.index.ensures

pub index_mut-requires : goal.index_mut-requires
index_mut-requires c =
    let entries = c.self.inside.entries.items in
    let places = c.self.inside.places.items in
    let truths = c.self.inside.truths.items in
    let named = c.self.invariant.placed.of_variables (length entries - 1) c.index.result.now (last_there c) in
    let inside : code_of c.index.result.now.literal < length truths = code_inside entries places truths c.index.result.now.literal c.self.invariant.valued named in
    let count : vec_len c.self.inside.truths ≡ length truths = search rules in
    let code = c.code.ensures.value in
    omega (arith, inside, count, code)

pub invariant_of-self : goal.invariant_of-self
invariant_of-self c =
    let entries = c.self.inside.entries.items in
    let places = c.self.inside.places.items in
    let truths = c.self.inside.truths.items in
    let last = c.index.result.now in
    let count : c.len-last.result ≡ length entries = search rules in
    let same = ap (λ t. length t.entries) c.self.view_is in
    let positive = c.requires in
    let here : slice_get entries (length entries - 1) ≡ Some last =
    ap (λ n. slice_get entries (n - 1)) (sym count)
    ∙ slice_get_read entries (length entries) (c.len-last.result - 1) last refl (omega (arith, count, same, positive)) c.index.ensures
    in
    let left : c.truncate.new.self.items ≡ take (length entries - 1) entries = search rules in
    subst (λ e. IsKept e places (set truths c.code.result false)) (sym left)
    (subst (λ k. IsKept (take (length entries - 1) entries) places (set truths k false)) (sym c.code.ensures.value)
    (kept_less entries places truths last c.self.invariant here))
