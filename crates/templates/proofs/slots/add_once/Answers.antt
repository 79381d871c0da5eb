use Rattle.std.proofs.Common.{rules, ◌≡◌, ◌∙◌, true, false, List, ℕ, [], ◌∷◌, ◌++◌, sym, ap, append_assoc, nat_eq}
use Rattle.std.specs.List.{list_any}
use Rattle.templates_spec.specs.Templates.{each_once}
use Rattle.templates.proofs.Once.{once_again, once_new}
use Rattle.templates.proofs.slots.add_once.Goals as goal

pub returns-then-contains : goal.returns-then-contains
returns-then-contains c =
    let once = c.args.once.now.items in
    let n = c.args.number in
    let there : list_any (λ other. nat_eq other n) once ≡ true = search rules in
    λ rest. ap (λ (l : List ℕ). once ++ l) (sym (once_again once rest n there))

pub returns : goal.returns
returns c =
    let once = c.args.once.now.items in
    let n = c.args.number in
    let new : list_any (λ other. nat_eq other n) once ≡ false = search rules in
    let items : c.push.new.self.items ≡ once ++ n ∷ [] = c.in_ok-push.ensures.items in
    λ rest.
    ap (λ (l : List ℕ). l ++ each_once l rest) items
    ∙ (append_assoc once (n ∷ []) (each_once (once ++ n ∷ []) rest) ∙ ap (λ (l : List ℕ). once ++ l) (sym (once_new once rest n new)))
