-- Sizes of objects are below the limit of sizes, and so are the distances and the bounds in them. Numbers of a typed core
-- that typing alone doesn't bound are those of its loads and stores, moved pointers and indices.
use Rattle.std.specs.Prelude.{◌<◌, ◌≤◌, List, [], ◌∷◌, All, Option, Some, None}
use Rattle.c_types_spec.specs.declared.TheConstants.{SIZE_LIMIT}
use Rattle.c_types_spec.specs.Core.{Core, Load, Convert, Operate, Compare, Move, Within, Aligned, Choose, Action, Sequence, Evaluate, Set, Store, Call, If, Loop, Switch, Return, Groups, no_groups, groups, Body, Typed}

abbrev pub HasSizes : Core → Type 0
HasSizes (Load type address displacement offset) = (displacement < SIZE_LIMIT) × HasSizes address
HasSizes (Convert type operand) = HasSizes operand
HasSizes (Operate operator type left right offset) = HasSizes left × HasSizes right
HasSizes (Compare operator left right) = HasSizes left × HasSizes right
HasSizes (Move direction order size pointer index offset) = (size < SIZE_LIMIT) × HasSizes pointer × HasSizes index
HasSizes (Within bound index offset) = (bound ≤ SIZE_LIMIT) × HasSizes index
HasSizes (Aligned alignment pointer offset) = HasSizes pointer
HasSizes (Choose type test first second) = HasSizes test × HasSizes first × HasSizes second
HasSizes other = Unit {0}

abbrev pub HaveSizes : List Core → Type 0
HaveSizes [] = Unit {0}
HaveSizes (value ∷ values) = HasSizes value × HaveSizes values

abbrev pub ValueSizes : Option Core → Type 0
ValueSizes None = Unit {0}
ValueSizes (Some value) = HasSizes value

abbrev mutual
  pub ActionSizes : Action → Type 0
  ActionSizes (Sequence first second) = ActionSizes first × ActionSizes second
  ActionSizes (Evaluate value) = HasSizes value
  ActionSizes (Set local value) = HasSizes value
  ActionSizes (Store type address displacement value offset) = (displacement < SIZE_LIMIT) × HasSizes address × HasSizes value
  ActionSizes (Call number function arguments result) = HaveSizes arguments
  ActionSizes (If test first second) = HasSizes test × ActionSizes first × ActionSizes second
  ActionSizes (Loop number place test step body) = HasSizes test × ActionSizes step × ActionSizes body
  ActionSizes (Switch test list) = HasSizes test × GroupSizes list
  ActionSizes (Return value) = ValueSizes value
  ActionSizes other = Unit {0}

  pub GroupSizes : Groups → Type 0
  GroupSizes no_groups = Unit {0}
  GroupSizes (groups values body rest) = ActionSizes body × GroupSizes rest

abbrev pub UnitSizes : Typed → Type 0
UnitSizes unit = All (λ (body : Body). ActionSizes body.action) unit.bodies
