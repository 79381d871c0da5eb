-- What holds of a result, or of an option, where there is one.
use Rattle.std.proofs.Common.{◌≡◌, ℕ, Bool, true, false, Option, Some, None, Result, Ok, Err, IfOk, IfSome, refl, if◌then◌else◌}
use Rattle.c_types_spec.specs.Names.{Fault, bind}
use Rattle.c_types_spec.specs.Operands.{if_true, or_mismatch}

pub if_bind : {A B : Type 0} (P : A → Type 0) (Q : B → Type 0) (r : Result A Fault) (next : A → Result B Fault) → IfOk r P → ((x : A) → P x → IfOk (next x) Q) → IfOk (bind r next) Q
if_bind P Q (Ok x) next h f = f x h
if_bind P Q (Err e) next h f = tt

pub if_more : {A : Type 0} (P Q : A → Type 0) (r : Result A Fault) → IfOk r P → ((x : A) → P x → Q x) → IfOk r Q
if_more P Q (Ok x) h f = f x h
if_more P Q (Err e) h f = tt

pub if_any : {A : Type 0} (r : Result A Fault) → IfOk r (λ _. Unit {0})
if_any (Ok x) = tt
if_any (Err e) = tt

-- by the cases of a test
pub if_test : {A : Type 0} (P : A → Type 0) (test : Bool) (r s : Result A Fault) → (test ≡ true → IfOk r P) → (test ≡ false → IfOk s P) → IfOk (if test then r else s) P
if_test P true r s f g = f refl
if_test P false r s f g = g refl

pub if_true-some : {A : Type 0} (P : A → Type 0) (test : Bool) (x : A) → P x → IfSome (if_true test x) P
if_true-some P true x h = h
if_true-some P false x h = tt

pub or_mismatch-ok : {A : Type 0} (P : A → Type 0) (o : Option A) (offset : ℕ) → IfSome o P → IfOk (or_mismatch o offset) P
or_mismatch-ok P None offset h = tt
or_mismatch-ok P (Some x) offset h = h
