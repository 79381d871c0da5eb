-- The group of a `switch` that is chosen, by what it does.
use Rattle.std.specs.Prelude.{ℤ, if◌then◌else◌, Option, Some, None}
use Rattle.std.specs.Option.{option_or}
use Rattle.std.specs.List.{list_any}
use Rattle.c_types_spec.specs.Core.{Action, Groups, no_groups, groups}
use Rattle.c_types_spec.specs.Statements.{same_label}

abbrev pub picked : Option ℤ → Groups → Option Action
picked label no_groups = None
picked label (groups labels body rest) = if list_any (λ other. same_label other label) labels then Some body else picked label rest

abbrev pub chosen_action : ℤ → Groups → Option Action
chosen_action v list = option_or (picked (Some v) list) (picked None list)
