-- What it means that an access breaks no guard.
use Rattle.std.proofs.Common.{◌≡◌, ℕ, Bool, true, false, not, if◌then◌else◌, Option, Some, None, refl}
use Rattle.std.specs.Option.{option_or}
use Rattle.c_run_spec.specs.declared.Guard.{Guard}
use Rattle.c_run_spec.specs.declared.Guard.TheVariants.{Access, BarredZone, FixedByte}
use Rattle.c_run_spec.specs.Setting.{Setting}
use Rattle.c_run_spec.specs.Accesses.{is_object, in_zone, some_byte, read_guard, write_guard}

abbrev pub read_of : (is_whole meets : Bool) → Option Guard
read_of is_whole meets = if not is_whole then Some Access else if meets then Some BarredZone else None

abbrev pub write_of : Option Guard → (meets : Bool) → Option Guard
write_of read meets = option_or read (if meets then Some FixedByte else None)

no_zone : (is_whole meets : Bool) → read_of is_whole meets ≡ None → meets ≡ false
no_zone true true e = cc
no_zone true false e = refl
no_zone false meets e = cc

no_read : (read : Option Guard) (meets : Bool) → write_of read meets ≡ None → read ≡ None
no_read None meets e = refl
no_read (Some guard) meets e = e

no_fixed : (read : Option Guard) (meets : Bool) → write_of read meets ≡ None → meets ≡ false
no_fixed None true e = cc
no_fixed None false e = refl
no_fixed (Some guard) meets e = cc

pub read_apart : (setting : Setting) (size address : ℕ) → read_guard setting size address ≡ None → some_byte (in_zone setting.barred) size address ≡ false
unfolding read_guard
read_apart setting size address e = no_zone (is_object size address) (some_byte (in_zone setting.barred) size address) e

pub write_apart : (setting : Setting) (size address : ℕ) → write_guard setting size address ≡ None → some_byte (in_zone setting.barred) size address ≡ false
unfolding write_guard
write_apart setting size address e = read_apart setting size address (no_read (read_guard setting size address) (some_byte setting.is_fixed size address) e)

pub write_unfixed : (setting : Setting) (size address : ℕ) → write_guard setting size address ≡ None → some_byte setting.is_fixed size address ≡ false
unfolding write_guard
write_unfixed setting size address e = no_fixed (read_guard setting size address) (some_byte setting.is_fixed size address) e

pub write_readable : (setting : Setting) (size address : ℕ) → write_guard setting size address ≡ None → read_guard setting size address ≡ None
unfolding write_guard
write_readable setting size address e = no_read (read_guard setting size address) (some_byte setting.is_fixed size address) e
