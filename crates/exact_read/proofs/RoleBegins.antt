-- What begins a text.
use Rattle.std.proofs.Common.{◌≡◌, Bool, List, [], ◌∷◌, ◌++◌, refl, ap, sym, ◌∙◌, subst, IsTrue, arith, length, length-append}
use Rattle.exact_read.specs.Reading.{Wrong, Parser, Marks, plains}
use Rattle.exact_read.specs.Exact.{Exact}
use Rattle.exact_read.proofs.Basics.{err}
use Rattle.exact_read.specs.Expected.{Roles, Next}
use Rattle.exact_read.proofs.RolePrefixes.{limit_wrong}

-- the token begins a text
pub record Begins {T U X : Type 0} (marks : Marks T U) (S : X → List U → Type 0) (token : T) : Type 0 where
  pub value : X
  pub first : U
  pub more : List U
  pub derives : S value (first ∷ more)
  pub is : marks.plain first ≡ token

-- what begins a text has no role
abbrev pub Silent : {T U K X : Type 0} → Marks T U → Roles U K → (S : X → List U → Type 0) → Type 0
Silent {T} {U} {K} {X} marks roles S = (x : X) (u : U) (more : List U) → S x (u ∷ more) → roles.role u ≡ roles.none

pub silent_next : {T U K X : Type 0} {marks : Marks T U} {roles : Roles U K} {S : X → List U → Type 0} → Silent marks roles S → (u : U) → Next marks S [] u → roles.role u ≡ roles.none
silent_next {T} {U} {K} {X} {marks} {roles} {S} silent u n = by_before n.before n.derives n.same
  where
    by_before : (before : List U) → S n.value (before ++ u ∷ n.more) → plains marks before ≡ [] → roles.role u ≡ roles.none
    by_before [] derives same = silent n.value u n.more derives
    by_before (v ∷ before) derives same = absurd (cc)

nothing_before : {T U : Type 0} (marks : Marks T U) (prefix : List U) (rest : List T) → rest ≡ plains marks prefix ++ rest → plains marks prefix ≡ []
nothing_before marks [] rest e = refl
nothing_before marks (u ∷ prefix) rest e = absurd (omega (arith, ap length e, length-append (plains marks prefix) rest))

-- a token that begins a text is not called wrong
pub begun_enters : {T U K X : Type 0} {marks : Marks T U} {entry : T → Bool} {S : X → List U → Type 0} {stop : X → T → Bool} {read : Parser T K X} → Exact marks entry S stop read
    → (token : T) (more : List T) (kind : K) → IsTrue (entry token) → Begins marks S token → read (token ∷ more) ≡ err {X = X} (Wrong kind) (token ∷ more) → ⊥
begun_enters {marks = marks} {entry = entry} {read = read} is token more kind enters b e =
    let w = is.wrongs (token ∷ more) kind (token ∷ more) enters e in
    let new = plains marks b.more ++ [] in
    let none : plains marks w.prefix ≡ [] = nothing_before marks w.prefix (token ∷ more) w.cut in
    limit_wrong marks (b.first ∷ b.more) b.value [] kind (token ∷ new)
    (sym (is.again b.value (b.first ∷ b.more) [] b.derives tt (subst (λ t. IsTrue (entry t)) (sym b.is) enters))
    ∙ ap (λ t. read (t ∷ new)) b.is ∙ ap (λ f. read (f ++ token ∷ new)) (sym none) ∙ w.whatever token more new refl)
