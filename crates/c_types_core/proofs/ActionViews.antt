-- What each statement does, by what its parts do.
use Rattle.std.proofs.Common.{◌≡◌, ℕ, List, ap, sym, ◌∙◌}
use Rattle.std.specs.Prelude.{ℤ, Option, Vec}
use Rattle.std.specs.Borrow.{Bor}
use Rattle.std.specs.declared.alloc.Global.{Global}
use Rattle.std.specs.declared.boxed.Box.{Box}
use Rattle.c_types_spec.specs.declared.Scalar.{Scalar}
use Rattle.c_types_spec.specs.declared.TestPlace.{TestPlace}
use Rattle.c_types_spec.specs.declared.Jump.{Jump}
use Rattle.c_types_spec.specs.Core as tree
use Rattle.c_types_core.specs.declared.expression.Core.{Core}
use Rattle.c_types_core.specs.declared.action.Action.{Action, fold-roll-Action}
use Rattle.c_types_core.specs.declared.action.Action.TheOpen as layer
use Rattle.c_types_core.specs.declared.action.Action.TheVariants as made
use Rattle.c_types_core.specs.declared.action.Group.{Group, roll-Group, fold-roll-Group}
use Rattle.c_types_core.specs.Expressions.{core_of}
use Rattle.c_types_core.specs.Actions.{action_of, group_of, action_step, group_step, actions_in, groups_in, cores_in, core_in}

pub Group-view : (labels : Vec (Option ℤ) Global) (body : Box Action Global) → group_of (roll-Group (record { labels = labels; body = body })) ≡ (labels.items, action_of body.value)
unfolding action_of group_of
Group-view labels body = fold-roll-Group _ _ action_step group_step (record { labels = labels; body = body })

pub Block-view : (actions : Vec Action Global) → action_of (made.Block actions) ≡ tree.sequence (actions_in actions)
unfolding action_of group_of
Block-view actions = ap action_of (sym (made.rolls-Block actions)) ∙ fold-roll-Action _ _ action_step group_step (layer.Block actions)

pub Evaluate-view : (value : Box Core Global) → action_of (made.Evaluate value) ≡ tree.Evaluate (core_of value.value)
unfolding action_of group_of
Evaluate-view value = ap action_of (sym (made.rolls-Evaluate value)) ∙ fold-roll-Action _ _ action_step group_step (layer.Evaluate value)

pub Set-view : (local : ℕ) (value : Box Core Global) → action_of (made.Set local value) ≡ tree.Set local (core_of value.value)
unfolding action_of group_of
Set-view local value = ap action_of (sym (made.rolls-Set local value)) ∙ fold-roll-Action _ _ action_step group_step (layer.Set local value)

pub Unset-view : (local : ℕ) → action_of (made.Unset local) ≡ tree.Unset local
unfolding action_of group_of
Unset-view local = ap action_of (sym (made.rolls-Unset local)) ∙ fold-roll-Action _ _ action_step group_step (layer.Unset local)

pub Store-view : (type : Scalar) (address : Box Core Global) (displacement : ℕ) (value : Box Core Global) (offset : ℕ) → action_of (made.Store type address displacement value offset) ≡ tree.Store type (core_of address.value) displacement (core_of value.value) offset
unfolding action_of group_of
Store-view type address displacement value offset = ap action_of (sym (made.rolls-Store type address displacement value offset)) ∙ fold-roll-Action _ _ action_step group_step (layer.Store type address displacement value offset)

pub Call-view : (number : ℕ) (function : Bor (List ℕ)) (arguments : Vec (Box Core Global) Global) (local : Option ℕ) → action_of (made.Call number function arguments local) ≡ tree.Call number function.now (cores_in arguments) local
unfolding action_of group_of
Call-view number function arguments local = ap action_of (sym (made.rolls-Call number function arguments local)) ∙ fold-roll-Action _ _ action_step group_step (layer.Call number function arguments local)

pub If-view : (test : Box Core Global) (first : Box Action Global) (second : Box Action Global) → action_of (made.If test first second) ≡ tree.If (core_of test.value) (action_of first.value) (action_of second.value)
unfolding action_of group_of
If-view test first second = ap action_of (sym (made.rolls-If test first second)) ∙ fold-roll-Action _ _ action_step group_step (layer.If test first second)

pub Loop-view : (number : ℕ) (place : TestPlace) (test : Box Core Global) (step : Box Action Global) (body : Box Action Global) → action_of (made.Loop number place test step body) ≡ tree.Loop number place (core_of test.value) (action_of step.value) (action_of body.value)
unfolding action_of group_of
Loop-view number place test step body = ap action_of (sym (made.rolls-Loop number place test step body)) ∙ fold-roll-Action _ _ action_step group_step (layer.Loop number place test step body)

pub Leave-view : (jump : Jump) → action_of (made.Leave jump) ≡ tree.Leave jump
unfolding action_of group_of
Leave-view jump = ap action_of (sym (made.rolls-Leave jump)) ∙ fold-roll-Action _ _ action_step group_step (layer.Leave jump)

pub Switch-view : (test : Box Core Global) (list : Vec Group Global) → action_of (made.Switch test list) ≡ tree.Switch (core_of test.value) (groups_in list)
unfolding action_of group_of
Switch-view test list = ap action_of (sym (made.rolls-Switch test list)) ∙ fold-roll-Action _ _ action_step group_step (layer.Switch test list)

pub Return-view : (value : Option (Box Core Global)) → action_of (made.Return value) ≡ tree.Return (core_in value)
unfolding action_of group_of
Return-view value = ap action_of (sym (made.rolls-Return value)) ∙ fold-roll-Action _ _ action_step group_step (layer.Return value)

pub MissingReturn-view : (offset : ℕ) → action_of (made.MissingReturn offset) ≡ tree.MissingReturn offset
unfolding action_of group_of
MissingReturn-view offset = ap action_of (sym (made.rolls-MissingReturn offset)) ∙ fold-roll-Action _ _ action_step group_step (layer.MissingReturn offset)

pub ruleset action_views = (Group-view, Block-view, Evaluate-view, Set-view, Unset-view, Store-view, Call-view, If-view, Loop-view, Leave-view, Switch-view, Return-view, MissingReturn-view)
