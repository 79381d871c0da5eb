use Rattle.std.proofs.Common.{◌∷◌, ◌∙◌, [], List, ℕ, Bor, take, get_or, sym, ap, subst, arith}
use Rattle.std.proofs.lemmas.List.{map-append, take_more, take_all}
use Rattle.pair_setup_calls.specs.Graph.{Grows}
use Rattle.pair_setup_calls.specs.Names.{texts_of}
use Rattle.pair_setup.specs.Names.{IsOf}
use Rattle.pair_setup.specs.Walks.{IsEntry}
use Rattle.pair_setup.proofs.Added.{of-none, of-more}
use Rattle.pair_setup.proofs.walk.add_roots.Goals as goal

none : Bor (List ℕ)
none = record { ref_ptr = (0, 0); now = [] }

pub loop-name-init : goal.loop-name-init
loop-name-init c = of-none (IsEntry c.args.image.now) c.args.entries.now.keys

pub loop-name-preserved : goal.loop-name-preserved
unfolding none
loop-name-preserved c =
    let xs = c.args.list.now in
    let i = c.loop-name.name-index in
    subst (λ (l : List (List ℕ)). Grows (IsOf (IsEntry c.args.image.now) l) c.args.entries.now.keys c.add_root.new.entries.keys)
    (sym (ap texts_of (take_more xs i none c.loop-name-test.true) ∙ map-append (λ (t : Bor (List ℕ)). t.now) (take i xs) (get_or xs i none ∷ [])))
    (of-more (IsEntry c.args.image.now) (texts_of (take i xs)) (get_or xs i none).now c.args.entries.now.keys c.loop-name.entries.keys c.add_root.new.entries.keys
    c.loop-name.invariant c.in-Ok-attempt.ensures)

pub returns : goal.returns
returns c =
    subst (λ (l : List (Bor (List ℕ))). Grows (IsOf (IsEntry c.args.image.now) (texts_of l)) c.args.entries.now.keys c.loop-name.entries.keys)
    (take_all c.loop-name.name-index c.args.list.now (omega arith)) c.loop-name.invariant
