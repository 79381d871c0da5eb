-- A parser may be said to stop elsewhere where that is the same for each of its values.
use Rattle.std.proofs.Common.{◌≡◌, Bool, List, [], ◌∷◌, refl, sym, subst, IsTrue}
use Rattle.exact_read.specs.Reading.{Parser, Marks, Stops}
use Rattle.exact_read.specs.Exact.{Exact}
use Rattle.exact_read.specs.Grammar.{anything}
use Rattle.exact_read.proofs.Parts.{exact-same}

Stops-same : {T : Type 0} (one two : T → Bool) (rest : List T) → ((token : T) → one token ≡ two token) → Stops one rest → Stops two rest
Stops-same one two [] same stops = tt
Stops-same one two (token ∷ more) same stops = subst IsTrue (same token) stops

pub exact-stop : {T U K X : Type 0} {marks : Marks T U} {entry : T → Bool} {S : X → List U → Type 0} {stop : X → T → Bool} {read : Parser T K X} (stop' : X → T → Bool) → ((x : X) (text : List U) → S x text → (token : T) → stop x token ≡ stop' x token)
    → Exact marks entry S stop read → Exact marks entry S stop' read
exact-stop {marks = marks} {stop = stop} stop' same is =
    record {
      takes = λ before x rest enters e. let one = is.takes before x rest enters e in
          record { text = one.text; cut = one.cut; derives = one.derives; within = one.within; stops = Stops-same (stop x) (stop' x) rest (same x one.text one.derives) one.stops };
      again = λ x text rest derives stops enters. is.again x text rest derives (Stops-same (stop' x) (stop x) rest (λ token. sym (same x text derives token)) stops) enters;
      wrongs = is.wrongs;
      exceeds = is.exceeds;
    }

-- where more is known at entry
pub exact-enter : {T U K X : Type 0} {marks : Marks T U} {S : X → List U → Type 0} {stop : X → T → Bool} {read : Parser T K X} (entry : T → Bool) → Exact marks anything S stop read → Exact marks entry S stop read
exact-enter {S = S} {read = read} entry is = exact-same entry S read (λ token h. refl) (λ x text h. h) (λ x text h. h) (λ before. refl) is
