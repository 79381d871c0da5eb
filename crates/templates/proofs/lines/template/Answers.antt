use Rattle.std.proofs.Common.{◌≡◌, ◌∙◌, List, [], ◌∷◌, ◌++◌, ap, ap₂, subst, sym, append_assoc}
use Rattle.std.specs.Prelude.{flat_map}
use Rattle.std.proofs.lemmas.List.Folds.{flat_map-map}
use Rattle.term_core_spec.specs.Term.{Term}
use Rattle.templates_spec.specs.Templates as spec
use Rattle.templates.specs.declared.facts.Known.{Known}
use Rattle.templates.specs.Added.{AreAdded}
use Rattle.templates.specs.Viewed.{facts_of, value_of, orders_of, place_lines, pointers_at}
use Rattle.templates.proofs.Growth.{added_then, as_added}
use Rattle.templates.proofs.lines.template.Goals as goal

pub returns-5 : goal.returns-5
returns-5 c =
    let old = c.args.bank.now in
    let b1 = c.add_pointer_lines.new.bank in
    let b2 = c.add_place_lines.new.bank in
    let new = c.add_orders.new.bank in
    let none = c.new-lines.result.items in
    let i1 = c.add_pointer_lines.new.lines.items in
    let i2 = c.add_place_lines.new.lines.items in
    let after = c.add_orders.new.ids.items in
    let f = facts_of c.args.facts.now in
    let ps = pointers_at c.as_slice-2.result.now in
    let qs = place_lines f in
    let os = flat_map orders_of c.as_slice-3.result.now in
    let es = spec.entry_lines f (spec.places f) in
    let ls = spec.local_lines f (spec.places f) in
    let ss = spec.sum_lines f (spec.places f) in
    let pointers : ps ≡ spec.pointer_lines f = ap pointers_at (c.as_slice-2.ensures.value ∙ (c.in-Ok-attempt.ensures ∙ c.as_slice.ensures.value)) in
    let orders : os ≡ spec.order_lines f =
    ap (λ (l : List (Known × Known)). flat_map orders_of l) c.as_slice-3.ensures.value
    ∙ sym (flat_map-map (λ (p : spec.Value × spec.Value). spec.at_most p.0 p.1 ∷ spec.at_most p.1 p.0 ∷ []) (λ (p : Known × Known). (value_of p.0, value_of p.1)) c.args.facts.now.compared.items) in
    let all : ps ++ (qs ++ os) ≡ spec.template f =
    ap₂ (λ (a b : List Term). a ++ (qs ++ b)) pointers orders
    ∙ ap (λ (l : List Term). spec.pointer_lines f ++ l) (append_assoc es (ls ++ ss) (spec.order_lines f) ∙ ap (λ (l : List Term). es ++ l) (append_assoc ls ss (spec.order_lines f))) in
    subst (λ before. AreAdded old new before after (spec.template f)) c.new-lines.ensures.items
    (as_added old new none after (ps ++ (qs ++ os)) (spec.template f) all
    (added_then old b1 new none i1 after ps (qs ++ os) c.in-Ok-attempt-2.ensures (added_then b1 b2 new i1 i2 after qs os c.in-Ok-attempt-3.ensures c.in-Ok-attempt-4.ensures)))
