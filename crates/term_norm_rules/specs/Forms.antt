-- What a rule gives over a bank, before it is placed there.
use Rattle.std.specs.Prelude.{ℕ, ◌<◌, Bool, if◌then◌else◌, List, [], ◌∷◌}
use Rattle.term_core_spec.specs.declared.Width.{Width}
use Rattle.term_core_spec.specs.Term.{Term, add, constant}
use Rattle.term_bank.specs.Nodes.{IsNode, tree_at, build}
use Rattle.term_norm_spec.specs.Patterns.{width_of, zero_like, full_like}
use Rattle.term_norm_rules.specs.declared.form.Form.{Form}
use Rattle.term_norm_rules.specs.declared.form.Form.TheVariants.{Same, Made, Sum, Zero, Full}
use Rattle.term_norm_rules.specs.declared.widths.Wide.{Wide}
use Rattle.term_norm_rules.specs.declared.widths.Wide.TheVariants.{Known, Like}

-- the tree of a form
abbrev pub form_tree : List Term → Form → Term
form_tree trees (Same i) = tree_at trees i
form_tree trees (Made node) = build trees node
form_tree trees (Sum x width number) = add (tree_at trees x) (constant width number)
form_tree trees (Zero x) = zero_like (tree_at trees x)
form_tree trees (Full x) = full_like (tree_at trees x)

-- what a form names is below n
abbrev pub IsForm : ℕ → Form → Type 0
IsForm n (Same i) = i < n
IsForm n (Made node) = IsNode n node
IsForm n (Sum x width number) = x < n
IsForm n (Zero x) = x < n
IsForm n (Full x) = x < n

-- ---- rules: a test, and what it gives where it holds

abbrev pub AreForms : ℕ → List (Bool × Form) → Type 0
AreForms n [] = Unit {0}
AreForms n (rule ∷ rest) = IsForm n rule.1 × AreForms n rest

-- the tree that the first rule gives whose test holds
abbrev pub chosen : List Term → List (Bool × Form) → Term → Term
chosen trees [] otherwise = otherwise
chosen trees (rule ∷ rest) otherwise = if rule.0 then form_tree trees rule.1 else chosen trees rest otherwise

-- ---- widths

-- the width that is known, or that of another term
abbrev pub wide_width : List Term → Wide → Width
wide_width trees (Known width) = width
wide_width trees (Like x) = width_of (tree_at trees x)

-- the other term is before x
abbrev pub IsBefore : ℕ → Wide → Type 0
IsBefore x (Known width) = Unit {0}
IsBefore x (Like a) = a < x

-- ---- indices

-- all of these are indices below n
abbrev pub AreWithin : ℕ → List ℕ → Type 0
AreWithin n [] = Unit {0}
AreWithin n (x ∷ rest) = (x < n) × AreWithin n rest
