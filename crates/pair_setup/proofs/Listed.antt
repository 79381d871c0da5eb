-- What a look-up in a set finds.
use Rattle.std.proofs.Common.{◌≡◌, ℕ, List, get_or, sym, eq-eqb, eqb-true}
use Rattle.std.specs.Prelude.{true, nat_eq, Contains}
use Rattle.std.specs.List.{list_any}
use Rattle.std.proofs.lemmas.List.Folds.{list_any_at}
use Rattle.indexmap.proofs.CallerLemmas.{Contains-list_any}

pub found-contains : (keys : List ℕ) (t : ℕ) → list_any (nat_eq t) keys ≡ true → Contains keys t
found-contains keys t e = Contains-list_any nat_eq (λ a b s. eqb-true a b s) keys t e

pub contains-found : (keys : List ℕ) (t : ℕ) → Contains keys t → list_any (nat_eq t) keys ≡ true
contains-found keys t (k, below, here) = list_any_at (nat_eq t) keys k t below (eq-eqb t (get_or keys k t) (sym here))
