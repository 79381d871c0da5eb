use Rattle.std.proofs.Common.{◌≡◌, ℕ, sym, ap, ◌∙◌}
use Rattle.graph_core_spec.specs.declared.Next.TheVariants as next
use Rattle.proof_tree.proofs.Ahead.{grows-as}
use Rattle.proof_tree.proofs.reachable.add_next.Goals as goal

same_node : (m n : ℕ) → next.At m ≡ next.At n → m ≡ n
same_node m n e = cc

pub returns-in_ok-add-in-At : goal.returns-in_ok-add-in-At
returns-in_ok-add-in-At c =
    grows-as (λ n. c.in-At.node ≡ n) (λ n. c.args.next ≡ next.At n) c.args.found.now.keys c.add.new.found.keys
    (λ n e. c.in-At.is ∙ ap (λ m. next.At m) e) (λ n e. same_node c.in-At.node n (sym c.in-At.is ∙ e)) c.in_ok-add-in-At.ensures
