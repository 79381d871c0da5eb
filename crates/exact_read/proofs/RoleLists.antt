-- Two ways to cut a list, and the tokens of a text.
use Rattle.std.proofs.Common.{◌≡◌, Bool, List, [], ◌∷◌, ◌++◌, refl, sym, ap, ◌∙◌}
use Rattle.exact_read.specs.Reading.{Marks, plains, Within, Stops}

-- the first of two cuts of a list is inside the left part of the second, or after it
pub data Cut {U : Type 0} (one following two after : List U) : Type 0 where
  inside : (middle : List U) → two ≡ one ++ middle → following ≡ middle ++ after → Cut one following two after
  beyond : (u : U) (middle : List U) → one ≡ two ++ u ∷ middle → after ≡ u ∷ middle ++ following → Cut one following two after

cut_next : {U : Type 0} (u v : U) (one following two after : List U) → u ≡ v → Cut one following two after → Cut (u ∷ one) following (v ∷ two) after
cut_next u v one following two after e (inside middle a b) = inside middle (ap (λ t. v ∷ t) a ∙ ap (λ w. w ∷ (one ++ middle)) (sym e)) b
cut_next u v one following two after e (beyond w middle a b) = beyond w middle (ap (λ t. u ∷ t) a ∙ ap (λ z. z ∷ (two ++ w ∷ middle)) e) b

pub cut_of : {U : Type 0} (one following two after : List U) → one ++ following ≡ two ++ after → Cut one following two after
cut_of [] following two after e = inside two refl e
cut_of (u ∷ one) following [] after e = beyond u one refl (sym e)
cut_of (u ∷ one) following (v ∷ two) after e =
    let head : u ≡ v = cc in
    let tail : one ++ following ≡ two ++ after = cc in
    cut_next u v one following two after head (cut_of one following two after tail)

-- nothing is between a list and itself
pub nothing_between : {U : Type 0} (left middle more : List U) → left ≡ (left ++ middle) ++ more → (middle ≡ []) × (more ≡ [])
nothing_between [] [] [] e = (refl, refl)
nothing_between [] [] (v ∷ more) e = absurd (cc)
nothing_between [] (v ∷ middle) more e = absurd (cc)
nothing_between (u ∷ left) middle more e = nothing_between left middle more (let tail : left ≡ (left ++ middle) ++ more = cc in tail)

-- where the tokens of a text are cut, so is the text
pub record PlainCut {T U : Type 0} (marks : Marks T U) (text : List U) (left right : List T) : Type 0 where
  pub first : List U
  pub second : List U
  pub cut : text ≡ first ++ second
  pub is_left : plains marks first ≡ left
  pub is_right : plains marks second ≡ right

pub plain_cut : {T U : Type 0} (marks : Marks T U) (text : List U) (left right : List T) → plains marks text ≡ left ++ right → PlainCut marks text left right
plain_cut marks text [] right e = record { first = []; second = text; cut = refl; is_left = refl; is_right = e }
plain_cut marks [] (t ∷ left) right e = absurd (cc)
plain_cut marks (u ∷ text) (t ∷ left) right e =
    let head : marks.plain u ≡ t = cc in
    let tail : plains marks text ≡ left ++ right = cc in
    let c = plain_cut marks text left right tail in
    record { first = u ∷ c.first; second = c.second; cut = ap (λ x. u ∷ x) c.cut; is_left = ap (λ x. marks.plain u ∷ x) c.is_left ∙ ap (λ h. h ∷ left) head; is_right = c.is_right }

pub no_tokens : {T U : Type 0} (marks : Marks T U) (text : List U) → plains marks text ≡ [] → text ≡ []
no_tokens marks [] e = refl
no_tokens marks (u ∷ text) e = absurd (cc)

pub within_left : {T U : Type 0} (marks : Marks T U) (left right : List U) → Within marks (left ++ right) → Within marks left
within_left marks [] right w = tt
within_left marks (u ∷ left) right w = (w.0, within_left marks left right w.1)

pub within_right : {T U : Type 0} (marks : Marks T U) (left right : List U) → Within marks (left ++ right) → Within marks right
within_right marks [] right w = w
within_right marks (u ∷ left) right w = within_right marks left right w.1

-- a test of the next token, where less or more is after it
pub stops_left : {T : Type 0} (test : T → Bool) (left right : List T) → Stops test (left ++ right) → Stops test left
stops_left test [] right h = tt
stops_left test (t ∷ left) right h = h

pub stops_more : {T : Type 0} (test : T → Bool) (left : List T) (t : T) (right more : List T) → Stops test (left ++ t ∷ right) → Stops test ((left ++ t ∷ right) ++ more)
stops_more test [] t right more h = h
stops_more test (a ∷ left) t right more h = h
