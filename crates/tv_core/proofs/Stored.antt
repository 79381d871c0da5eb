-- A text that is written under a name.
use Rattle.std.proofs.Common.{◌≡◌, ◌++◌, ℕ, List, [], Option, None, Some, Ok, Err, length, take, take_all, arith, refl, sym, ap, ◌∙◌, subst, inr}
use Rattle.std.specs.Prelude.{Result, OnOk, OnErr, IsErrOf, option_map}
use Rattle.attempt.specs.declared.refusal.Refusal.{Refusal}
use Rattle.attempt.specs.declared.refusal.Refusal.TheVariants.{NoMemory}
use Rattle.tv_base.specs.declared.faults.OutsideFault.{OutsideFault}
use Rattle.tv_base.specs.Faults.{HasCause}
use Rattle.tv_base.specs.Writing.{Grows, GrowsPartly, IsEmptied}
use Rattle.tv_core.specs.Objects.{Contents, SinkState}
use Rattle.tv_core.specs.Ends.{Becomes, BecomesPartly, LeavesText, LeavesTextPartly, Stores}

cleared : (held : Option (List ℕ)) (text : List ℕ) → option_map (λ h. h ++ text) (option_map (λ (h : List ℕ). []) held) ≡ option_map (λ (h : List ℕ). text) held
cleared None text = refl
cleared (Some h) text = refl

becomes : (before middle now : Contents) (name begun text : List ℕ) → IsEmptied before name middle → begun ≡ name → Grows middle begun text now → Becomes before name text now
becomes before middle now name begun text empty same grows = record {
  there = subst (λ n. now n ≡ option_map (λ h. h ++ text) (middle n)) same grows.there ∙ ap (option_map (λ h. h ++ text)) empty.there ∙ cleared (before name) text;
  elsewhere = λ other apart. grows.elsewhere other (λ at. apart (at ∙ same)) ∙ empty.elsewhere other apart;
}

pub stored : {T : Type 0} (name text : List ℕ) (before now : SinkState) (held : Contents) (begun : List ℕ) (faults : ℕ) (r : Result T (Refusal OutsideFault))
    → IsEmptied before.held name held → begun ≡ name → faults ≡ before.faults
    → OnOk r (Grows held begun text now.held) → OnErr r (GrowsPartly held begun text now.held)
    → HasCause faults now.faults r → OnOk r (now.faults ≡ faults) → (IsErrOf r NoMemory → now.faults ≡ faults)
    → Stores name text before now r
stored {T = T} name text before now held begun faults (Ok x) empty same as_before grows part cause unfailing memory =
    let whole : Becomes before.held name text now.held = becomes before.held held now.held name begun text empty same grows in
    record {
      ok = whole;
      part = inr (length text, subst (λ t. Becomes before.held name t now.held) (sym (take_all (length text) text (omega arith))) whole);
      cause = subst (λ n. HasCause {T = T} n now.faults (Ok x)) as_before cause;
      unfailing = unfailing ∙ as_before;
      no_memory = λ e. absurd cc;
    }
stored {T = T} name text before now held begun faults (Err f) empty same as_before grows part cause unfailing memory = record {
  ok = tt;
  part = inr (part.0, becomes before.held held now.held name begun (take part.0 text) empty same part.2);
  cause = subst (λ n. HasCause {T = T} n now.faults (Err f)) as_before cause;
  unfailing = tt;
  no_memory = λ e. memory e ∙ as_before;
}

-- the text of a certificate, if there is one
pub leaves_text : {T : Type 0} (name s t : List ℕ) (given : Option (List ℕ)) (before now : SinkState) (r : Result T (Refusal OutsideFault)) → given ≡ Some t → s ≡ t
    → Stores name s before now r → OnOk r (LeavesText name given before.held now.held)
leaves_text name s t given before now r e same h =
    subst (λ g. OnOk r (LeavesText name g before.held now.held)) (sym e) (subst (λ x. OnOk r (Becomes before.held name x now.held)) same h.ok)

pub leaves_partly : {T : Type 0} (name s t : List ℕ) (given : Option (List ℕ)) (before now : SinkState) (r : Result T (Refusal OutsideFault)) → given ≡ Some t → s ≡ t
    → Stores name s before now r → LeavesTextPartly name given before.held now.held
leaves_partly name s t given before now r e same h =
    subst (λ g. LeavesTextPartly name g before.held now.held) (sym e) (subst (λ x. BecomesPartly before.held name x now.held) same h.part)

pub leaves_nothing : (name : List ℕ) (given : Option (List ℕ)) (held : Contents) → given ≡ None → LeavesText name given held held
leaves_nothing name given held e = subst (λ g. LeavesText name g held held) (sym e) refl

pub leaves_nothing_partly : (name : List ℕ) (given : Option (List ℕ)) (held : Contents) → given ≡ None → LeavesTextPartly name given held held
leaves_nothing_partly name given held e = subst (λ g. LeavesTextPartly name g held held) (sym e) refl
