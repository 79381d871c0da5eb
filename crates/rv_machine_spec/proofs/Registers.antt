-- Reading a register after a write.
use Rattle.std.proofs.Common.{◌≡◌, ℕ, ◌<◌, ◌≢◌, length, refl, ap, set, get_or, cond, Bool, true, false, ◌==◌, ne_eqb, get_or-set_same, get_or-set_other}
use Rattle.rv_machine_spec.specs.Machine.{Machine, read_register, write_register}

pub read_zero : (m : Machine) → read_register m 0 ≡ 0
unfolding read_register
read_zero m = refl

pub read-write_same : (m : Machine) (r value : ℕ) → r ≢ 0 → r < length m.registers → read_register (write_register m r value) r ≡ value
unfolding read_register write_register
read-write_same m r value nonzero below = rw (ne_eqb r 0 nonzero) (get_or-set_same m.registers r value 0 below)

pub read-write_other : (m : Machine) (r s value : ℕ) → s ≢ r → read_register (write_register m r value) s ≡ read_register m s
unfolding read_register write_register
read-write_other m r s value other = where_zero (r == 0)
  where
    kept : (b : Bool) → get_or (cond b m (record m { registers = set m.registers r value })).registers s 0 ≡ get_or m.registers s 0
    kept true = refl
    kept false = get_or-set_other m.registers r s value 0 other

    where_zero : (b : Bool) → cond (s == 0) 0 (get_or (cond b m (record m { registers = set m.registers r value })).registers s 0) ≡ cond (s == 0) 0 (get_or m.registers s 0)
    where_zero b = ap (cond (s == 0) 0) (kept b)

pub pc-write : (m : Machine) (r value : ℕ) → (write_register m r value).pc ≡ m.pc
unfolding write_register
pc-write m r value = same (r == 0)
  where
    same : (b : Bool) → (cond b m (record m { registers = set m.registers r value })).pc ≡ m.pc
    same true = refl
    same false = refl

pub memory-write : (m : Machine) (r value : ℕ) → (write_register m r value).memory ≡ m.memory
unfolding write_register
memory-write m r value = same (r == 0)
  where
    same : (b : Bool) → (cond b m (record m { registers = set m.registers r value })).memory ≡ m.memory
    same true = refl
    same false = refl
