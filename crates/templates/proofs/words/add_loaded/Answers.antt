use Rattle.std.proofs.Common.{ℕ, ◌+◌, ◌<◌, ◌≤◌, [], ◌∷◌, length, map, get_or, drop, sym, ap, subst, arith, ◌∙◌}
use Rattle.std.proofs.lemmas.List.Concat.{flat_map_single}
use Rattle.std.proofs.lemmas.Simd.{map-map}
use Rattle.term_core_spec.specs.Shapes.{load_word}
use Rattle.term_core_spec.specs.Term.{Term, open_term}
use Rattle.term_bank.specs.Nodes.{tree_at}
use Rattle.c_graph_terms.proofs.Banks.{kept, within_later}
use Rattle.c_graph_terms.proofs.Growing.{within_at}
use Rattle.decompile_spec.specs.State as code
use Rattle.templates.specs.Added.{AreAdded}
use Rattle.templates.proofs.Growth.{begins, goes, finished, as_added, next_of, one_added}
use Rattle.templates.proofs.words.add_loaded.Goals as goal

pub loop-address-init : goal.loop-address-init
loop-address-init c =
    begins c.args.bank.now c.args.ids.now.items (λ a. load_word (open_term code.memory) (tree_at c.args.bank.now a) ∷ []) c.args.addresses.now c.requires.ids

pub loaded-requires : goal.loaded-requires
loaded-requires c =
    let old = c.args.bank.now in
    let now = c.loop-address.bank in
    let i = c.loop-address.address-index in
    let list = c.args.addresses.now in
    let below : i < length list = omega arith in
    within_later old now (get_or list i 0) c.loop-address.invariant.added.is_grown (within_at (length old) list i c.requires.addresses below)

pub loop-address-preserved : goal.loop-address-preserved
loop-address-preserved c =
    let old = c.args.bank.now in
    let now = c.loop-address.bank in
    let next = c.loaded.new.bank in
    let ids = c.loop-address.ids.items in
    let i = c.loop-address.address-index in
    let list = c.args.addresses.now in
    let a : ℕ = get_or list i 0 in
    let below : i < length list = omega arith in
    let s = c.loop-address.invariant in
    let id = c.in-Ok-attempt.field-0 in
    let step : AreAdded now next ids c.push.new.self.items (load_word (open_term code.memory) (tree_at now a) ∷ []) =
    subst (λ l. AreAdded now next ids l (load_word (open_term code.memory) (tree_at now a) ∷ [])) (sym c.in-Ok-attempt-2.ensures.items)
    (one_added now next ids id (load_word (open_term code.memory) (tree_at now a)) s.added.within c.in-Ok-attempt.ensures) in
    goes old c.args.ids.now.items (λ a. load_word (open_term code.memory) (tree_at old a) ∷ []) list now next ids c.push.new.self.items a (drop i list) (drop (i + 1) list)
    s (next_of list i 0 below)
    (as_added now next ids c.push.new.self.items (load_word (open_term code.memory) (tree_at now a) ∷ []) (load_word (open_term code.memory) (tree_at old a) ∷ [])
    (ap (λ (t : Term). load_word (open_term code.memory) t ∷ []) (kept old now a s.added.is_grown (within_at (length old) list i c.requires.addresses below))) step)

pub returns : goal.returns
returns c =
    let old = c.args.bank.now in
    let list = c.args.addresses.now in
    let past : length list ≤ c.loop-address.address-index = omega arith in
    finished old c.loop-address.bank c.args.ids.now.items c.loop-address.ids.items (λ a. load_word (open_term code.memory) (tree_at old a) ∷ []) list c.loop-address.address-index
    (map (load_word (open_term code.memory)) (map (tree_at old) list)) past c.loop-address.invariant
    (flat_map_single (λ a. load_word (open_term code.memory) (tree_at old a)) list ∙ sym (map-map (load_word (open_term code.memory)) (tree_at old) list))
