-- Tables of rules.
use Rattle.std.proofs.Common.{◌≡◌, ℕ, Bool, List, ◌∷◌, subst}
use Rattle.term_norm_rules.specs.declared.form.Form.{Form}
use Rattle.term_norm_rules.specs.Forms.{AreForms}

pub rest_forms : (n : ℕ) (rules rest : List (Bool × Form)) (first : Bool × Form) → rules ≡ first ∷ rest → AreForms n rules → AreForms n rest
rest_forms n rules rest first e h = (subst (AreForms n) e h).1
