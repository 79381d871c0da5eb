use Rattle.std.proofs.Common.{rules, ◌≡◌, ◌∙◌, ◌++◌, ◌∷◌, [], length, refl, ap, sym, subst}
use Rattle.sat_search_spec.specs.declared.Watcher.{Watcher}
use Rattle.sat_search_spec.specs.Watches.{Watched}
use Rattle.sat_search_state.specs.Lists.{IsAdded}
use Rattle.sat_search_state.proofs.Changes.{attached_one, attached_two}
use Rattle.sat_search_state.proofs.watched.Watches.attach.Goals as goal

pub returns-then-is_same : goal.returns-then-is_same
returns-then-is_same c =
    let same : c.args.watch.first ≡ c.args.watch.second = search rules in
    attached_one c.args.self.now c.push_watch.new.self c.args.watch
    (ap (λ w. w.watches) c.in_ok-push_watch.ensures) (ap (λ w. w.lists) c.in_ok-push_watch.ensures) (ap (λ w. w.head) c.in_ok-push_watch.ensures) same

pub returns : goal.returns
returns c =
    let clause : c.in_ok-clause.clause ≡ length c.args.self.now.watches = search rules in
    let first : Watcher = record { clause = c.in_ok-clause.clause; blocker = c.args.watch.second } in
    let second : Watcher = record { clause = c.in_ok-clause.clause; blocker = c.args.watch.first } in
    let pushed = c.in_ok-push_watch-2.ensures in
    attached_two c.args.self.now c.push_watch-2.new.self c.args.watch c.listen.new.self.lists first second
    (ap (λ w. w.watches) pushed ∙ ap (λ (w : Watched). w.watches ++ c.args.watch ∷ []) (let e : c.listen-2.new.self ≡ record c.args.self.now { lists = c.listen-2.new.self.lists } = c.listen-2.ensures.same ∙ ap (λ (w : Watched). let v : Watched = record w { lists = c.listen-2.new.self.lists } in v) c.listen.ensures.same in e))
    (ap (λ w. w.head) pushed ∙ ap (λ w. w.head) c.listen-2.ensures.same ∙ ap (λ w. w.head) c.listen.ensures.same)
    (ap (λ w. length w.lists) pushed ∙ c.listen-2.ensures.room ∙ c.listen.ensures.room)
    clause refl clause refl c.in_ok-listen.ensures.added
    (subst (λ ls. IsAdded c.listen.new.self.lists ls c.args.watch.second second) (sym (ap (λ w. w.lists) pushed)) c.in_ok-listen-2.ensures.added)
