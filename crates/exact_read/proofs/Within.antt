-- A text has no token at which a limit is exceeded, or it has a first one.
use Rattle.std.proofs.Common.{◌≡◌, Bool, true, false, List, [], ◌∷◌, ◌++◌, Err, refl, ap, ◌∙◌, append_assoc, ◌⊎◌, inl, inr}
use Rattle.exact_read.specs.Reading.{LimitExceeded, Outcome, Marks, plains, Within, limit}
use Rattle.exact_read.proofs.Basics.{plains-two, limit-over}

pub record FirstOver {T U : Type 0} (marks : Marks T U) (text : List U) : Type 0 where
  pub prefix : List U
  pub last : U
  pub more : List U
  pub cut : text ≡ prefix ++ last ∷ more
  pub within : Within marks prefix
  pub over : marks.over last ≡ true

pub within_or_over : {T U : Type 0} (marks : Marks T U) (text : List U) → Within marks text ⊎ FirstOver marks text
within_or_over marks [] = inl tt
within_or_over {T} {U} marks (u ∷ text) = by_mark (marks.over u) refl (within_or_over marks text)
  where
    by_mark : (b : Bool) → marks.over u ≡ b → Within marks text ⊎ FirstOver marks text → Within marks (u ∷ text) ⊎ FirstOver marks (u ∷ text)
    by_mark true e h = inr (record { prefix = []; last = u; more = text; cut = refl; within = tt; over = e })
    by_mark false e (inl w) = inl (e, w)
    by_mark false e (inr f) = inr (record { prefix = u ∷ f.prefix; last = f.last; more = f.more; cut = ap (λ t. u ∷ t) f.cut; within = (e, f.within); over = f.over })

-- what a text gives that is over, with a text after it
pub over-limit : {T U K X : Type 0} (marks : Marks T U) (text right : List U) (rest : List T) (outcome : Outcome T K X) (f : FirstOver marks text) → limit marks (text ++ right) rest outcome ≡ Err (LimitExceeded, marks.plain f.last ∷ plains marks f.more ++ (plains marks right ++ rest))
over-limit {T} {U} {K} {X} marks text right rest outcome f =
    ap (λ t. limit marks (t ++ right) rest outcome) f.cut
    ∙ ap (λ t. limit marks t rest outcome) (append_assoc f.prefix (f.last ∷ f.more) right)
    ∙ limit-over marks f.prefix f.last (f.more ++ right) rest outcome f.within f.over
    ∙ ap (λ t. Err (LimitExceeded, marks.plain f.last ∷ t)) (plains-two marks f.more right rest)
