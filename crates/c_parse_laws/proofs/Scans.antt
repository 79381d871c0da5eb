-- The scan over the leaves of a derivation: all definitions that it finds, and where it is within an initial value.
use Rattle.std.proofs.Common.{◌≡◌, ℕ, ◌+◌, ◌==◌, ◌&&◌, Bool, true, false, if◌then◌else◌, List, [], ◌∷◌, ◌++◌, Some, refl, sym, ap, subst, ◌∙◌, append_assoc, append-nil}
use Rattle.std.proofs.lemmas.List.{map-append}
use Rattle.c_token_spec.specs.Lexical.{Placed}
use Rattle.c_parse_spec.specs.Leaves.{Leaf, marks}
use Rattle.exact_read.specs.Reading.{plains}
use Rattle.c_parse_spec.specs.Initials.{Begun, Nothing, Keyword as AfterWord, Tagged, Place, after, completes, definition_from}
use Rattle.c_parse_laws.specs.InitialValues.{each}
use Rattle.c_parse_laws.specs.InitialStatements.{values_after, definitions_from, first}
use Rattle.c_parse_laws.proofs.InitialTokens.{at, Stage, Fresh, Loose, Fits, is_plain, is_separator, is_opening, is_closing, is_brace, plain_after, separator_after, opening_after, closing_after, no_list, plain_no_brace, separator_no_brace, closing_no_brace, never, positive}

-- ---- scans

abbrev pub put : Bool → ℕ → List ℕ → List ℕ
put true offset rest = offset ∷ rest
put false offset rest = rest

-- the offset of each `{` at which a definition is found
abbrev pub all_from : Place → List Leaf → List ℕ
all_from place [] = []
all_from place (u ∷ text) = put (place.in_value && completes place.begun u.token.token) u.token.offset (all_from (after place u.token.token) text)

abbrev pub values_from : Place → List Leaf → List Bool
values_from place [] = []
values_from place (u ∷ text) = (after place u.token.token).in_value ∷ values_from (after place u.token.token) text

pub first_found : (place : Place) (tokens : List Placed) → definition_from place tokens ≡ first (definitions_from place tokens)
first_found place [] = refl
first_found place (placed ∷ rest) = by (place.in_value && completes place.begun placed.token) (first_found (after place placed.token) rest)
  where
    by : (b : Bool) → definition_from (after place placed.token) rest ≡ first (definitions_from (after place placed.token) rest)
        → (if b then Some placed.offset else definition_from (after place placed.token) rest)
        ≡ first (if b then placed.offset ∷ definitions_from (after place placed.token) rest else definitions_from (after place placed.token) rest)
    by true e = refl
    by false e = e

pub all_found : (place : Place) (text : List Leaf) → definitions_from place (plains marks text) ≡ all_from place text
all_found place [] = refl
all_found place (u ∷ text) = by (place.in_value && completes place.begun u.token.token) (all_found (after place u.token.token) text)
  where
    by : (b : Bool) → definitions_from (after place u.token.token) (plains marks text) ≡ all_from (after place u.token.token) text
        → (if b then u.token.offset ∷ definitions_from (after place u.token.token) (plains marks text) else definitions_from (after place u.token.token) (plains marks text))
        ≡ put b u.token.offset (all_from (after place u.token.token) text)
    by true e = ap (λ r. u.token.offset ∷ r) e
    by false e = e

pub values_found : (place : Place) (text : List Leaf) → values_after place (plains marks text) ≡ values_from place text
values_found place [] = refl
values_found place (u ∷ text) = ap (λ vs. (after place u.token.token).in_value ∷ vs) (values_found (after place u.token.token) text)

-- ---- one part of the leaves after another

-- from `place` the scan finds these definitions in `text`, and is at `next` where `rest` is left
pub record Passes (place : Place) (text : List Leaf) (found : List ℕ) (values : List Bool) (next : Place) (rest : List Leaf) : Type 0 where
  pub finds : all_from place text ≡ found ++ all_from next rest
  pub lies : values_from place text ≡ values ++ values_from next rest

pub stays : (place : Place) (text : List Leaf) → Passes place text [] [] place text
stays place text = record { finds = refl; lies = refl }

pub passes : (place next : Place) (u : Leaf) (rest : List Leaf) → place.in_value && completes place.begun u.token.token ≡ false → after place u.token.token ≡ next
    → Passes place (u ∷ rest) [] (next.in_value ∷ []) next rest
passes place next u rest e f = record {
  finds = ap (λ b. put b u.token.offset (all_from (after place u.token.token) rest)) e ∙ ap (λ p. all_from p rest) f;
  lies = ap (λ (p : Place). p.in_value ∷ values_from p rest) f;
}

-- the `{` of a definition
pub passes_list : (place next : Place) (u : Leaf) (rest : List Leaf) → completes place.begun u.token.token ≡ true → after place u.token.token ≡ next
    → Passes place (u ∷ rest) (put place.in_value u.token.offset []) (next.in_value ∷ []) next rest
passes_list place next u rest e f = record {
  finds = ap (λ b. put (place.in_value && b) u.token.offset (all_from (after place u.token.token) rest)) e ∙ by place.in_value ∙ ap (λ p. put place.in_value u.token.offset [] ++ all_from p rest) f;
  lies = ap (λ (p : Place). p.in_value ∷ values_from p rest) f;
}
  where
    by : (b : Bool) → put (b && true) u.token.offset (all_from (after place u.token.token) rest) ≡ put b u.token.offset [] ++ all_from (after place u.token.token) rest
    by true = refl
    by false = refl

pub joined : {p q r : Place} {one two three : List Leaf} {found more : List ℕ} {values others : List Bool} → Passes p one found values q two → Passes q two more others r three → Passes p one (found ++ more) (values ++ others) r three
joined {found = found} {more = more} {values = values} {others = others} h k = record {
  finds = h.finds ∙ ap (λ x. found ++ x) k.finds ∙ sym (append_assoc found more _);
  lies = h.lies ∙ ap (λ x. values ++ x) k.lies ∙ sym (append_assoc values others _);
}

pub same_found : {p q : Place} {one two : List Leaf} {found other : List ℕ} {values others : List Bool} → found ≡ other → values ≡ others → Passes p one found values q two → Passes p one other others q two
same_found {q = q} {two = two} e f h = record { finds = h.finds ∙ ap (λ x. x ++ all_from q two) e; lies = h.lies ∙ ap (λ x. x ++ values_from q two) f }

pub same_text : {p q : Place} {one other two : List Leaf} {found : List ℕ} {values : List Bool} → one ≡ other → Passes p one found values q two → Passes p other found values q two
same_text {p = p} e h = record { finds = ap (λ t. all_from p t) (sym e) ∙ h.finds; lies = ap (λ t. values_from p t) (sym e) ∙ h.lies }

-- ---- parts that leave the place as it was

-- definitions count within initial values only
abbrev pub shown : Bool → List ℕ → List ℕ
shown true found = found
shown false found = []

shown-append : (v : Bool) (one two : List ℕ) → shown v one ++ shown v two ≡ shown v (one ++ two)
shown-append true one two = refl
shown-append false one two = refl

pub loose : (stage : Stage) (b : Begun) → Fits stage b → Fits Loose b
loose Fresh Nothing h = tt
loose Fresh AfterWord h = h
loose Fresh Tagged h = absurd h
loose Loose b h = h

pub fits_nothing : (stage : Stage) → Fits stage Nothing
fits_nothing Fresh = tt
fits_nothing Loose = tt

-- `inner`: within brackets
abbrev pub Inside : (inner : Bool) → ℕ → Type 0
Inside true depth = depth == 0 ≡ false
Inside false depth = Unit {0}

pub record Run (end : Stage) (depth : ℕ) (v : Bool) (b : Begun) (text rest : List Leaf) (found : List ℕ) : Type 0 where
  pub left : Begun
  pub fits : Fits end left
  pub is : Passes (at depth v b) (text ++ rest) (shown v found) (each v text) (at depth v left) rest

-- the text leaves the depth as it was, and the place within or outside of an initial value; these are its definitions
pub record Runs (begin end : Stage) (inner v : Bool) (text : List Leaf) (found : List ℕ) : Type 0 where
  pub run : (rest : List Leaf) (depth : ℕ) (b : Begun) → Inside inner depth → Fits begin b → Run end depth v b text rest found

pub append : {begin middle end : Stage} {inner v : Bool} {one two : List Leaf} {found more : List ℕ} → Runs begin middle inner v one found → Runs middle end inner v two more → Runs begin end inner v (one ++ two) (found ++ more)
append {v = v} {one = one} {two = two} {found = found} {more = more} h k = record {
  run = λ rest depth b deep fits.
      let one_run = h.run (two ++ rest) depth b deep fits in
      let two_run = k.run rest depth one_run.left deep one_run.fits in
      record {
        left = two_run.left;
        fits = two_run.fits;
        is = same_text (sym (append_assoc one two rest)) (same_found (shown-append v found more) (sym (map-append (λ _. v) one two)) (joined one_run.is two_run.is));
      };
}

pub same_finds : {begin end : Stage} {inner v : Bool} {text : List Leaf} {found other : List ℕ} → found ≡ other → Runs begin end inner v text found → Runs begin end inner v text other
same_finds {v = v} e h = record {
  run = λ rest depth b deep fits.
      let r = h.run rest depth b deep fits in record { left = r.left; fits = r.fits; is = same_found (ap (shown v) e) refl r.is };
}

pub same_leaves : {begin end : Stage} {inner v : Bool} {text other : List Leaf} {found : List ℕ} → text ≡ other → Runs begin end inner v text found → Runs begin end inner v other found
same_leaves {begin = begin} {end = end} {inner = inner} {v = v} {found = found} e h = subst (λ t. Runs begin end inner v t found) e h

-- the second part defines nothing
pub append_plain : {begin middle end : Stage} {inner v : Bool} {one two : List Leaf} {found : List ℕ} → Runs begin middle inner v one found → Runs middle end inner v two [] → Runs begin end inner v (one ++ two) found
append_plain {found = found} h k = same_finds (append-nil found) (append h k)

-- outside of initial values nothing is found
pub outside : {begin end : Stage} {inner : Bool} {text : List Leaf} {found : List ℕ} (other : List ℕ) → Runs begin end inner false text found → Runs begin end inner false text other
outside other h = record { run = λ rest depth b deep fits. let r = h.run rest depth b deep fits in record { left = r.left; fits = r.fits; is = r.is } }

pub empty : {begin : Stage} {inner v : Bool} → Runs begin Loose inner v [] []
empty {begin = begin} {v = v} = record { run = λ rest depth b deep fits. record { left = b; fits = loose begin b fits; is = same_found (by v) refl (stays (at depth v b) rest) } }
  where
    by : (v : Bool) → [] ≡ shown v []
    by true = refl
    by false = refl

pub empty_fresh : {inner v : Bool} → Runs Fresh Fresh inner v [] []
empty_fresh {v = v} = record { run = λ rest depth b deep fits. record { left = b; fits = fits; is = same_found (by v) refl (stays (at depth v b) rest) } }
  where
    by : (v : Bool) → [] ≡ shown v []
    by true = refl
    by false = refl

-- ---- tokens

-- a token after which nothing is begun, and what follows it
first_token : {end : Stage} {inner v : Bool} {text : List Leaf} {found : List ℕ} (u : Leaf) (depth : ℕ) (b : Begun) (rest : List Leaf) → Inside inner depth
    → v && completes b u.token.token ≡ false → after (at depth v b) u.token.token ≡ at depth v Nothing → Runs Fresh end inner v text found → Run end depth v b (u ∷ text) rest found
first_token {v = v} {text = text} u depth b rest deep e f h =
    let r = h.run rest depth Nothing deep tt in
    record { left = r.left; fits = r.fits; is = joined (passes (at depth v b) (at depth v Nothing) u (text ++ rest) e f) r.is }

pub token : {begin end : Stage} {inner v : Bool} {u : Leaf} {text : List Leaf} {found : List ℕ} → is_plain u.token.token ≡ true → Runs Fresh end inner v text found → Runs begin end inner v (u ∷ text) found
token {begin = begin} {v = v} {u = u} e h = record {
  run = λ rest depth b deep fits.
      first_token u depth b rest deep (never v _ (no_list b u.token.token (plain_no_brace u.token.token e))) (plain_after u.token.token depth v b e (loose begin b fits)) h;
}

-- `=`, `,` and `;` within brackets
pub separator : {begin end : Stage} {v : Bool} {u : Leaf} {text : List Leaf} {found : List ℕ} → is_separator u.token.token ≡ true → Runs Fresh end true v text found → Runs begin end true v (u ∷ text) found
separator {v = v} {u = u} e h = record {
  run = λ rest depth b deep fits.
      first_token u depth b rest deep (never v _ (no_list b u.token.token (separator_no_brace u.token.token e))) (separator_after u.token.token depth v b e deep) h;
}

-- ---- brackets

pub closes : {v : Bool} {inside : List Leaf} {found : List ℕ} (closer : Leaf) (rest : List Leaf) (depth : ℕ) → is_closing closer.token.token ≡ true → Runs Fresh Loose true v inside found
    → Passes (at (depth + 1) v Nothing) (inside ++ closer ∷ rest) (shown v found) (each v (inside ++ closer ∷ [])) (at depth v Nothing) rest
closes {v = v} {inside = inside} {found = found} closer rest depth e h =
    let r = h.run (closer ∷ rest) (depth + 1) Nothing (positive depth) tt in
    same_found (append-nil (shown v found)) (sym (map-append (λ _. v) inside (closer ∷ [])))
    (joined r.is (passes (at (depth + 1) v r.left) (at depth v Nothing) closer rest (never v _ (no_list r.left closer.token.token (closing_no_brace closer.token.token e))) (closing_after closer.token.token depth v r.left e)))

enclosed : {end : Stage} {v : Bool} {opener : Leaf} {inside : List Leaf} {found : List ℕ} (closer : Leaf) (rest : List Leaf) (depth : ℕ) (b : Begun)
    → is_opening opener.token.token ≡ true → is_closing closer.token.token ≡ true → v && completes b opener.token.token ≡ false → Runs Fresh Loose true v inside found
    → Run end depth v b (opener ∷ inside ++ closer ∷ []) rest found
enclosed {end = end} {v = v} {opener = opener} {inside = inside} closer rest depth b e f g h = record {
  left = Nothing;
  fits = fits_nothing end;
  is = same_text (ap (λ t. opener ∷ t) (sym (append_assoc inside (closer ∷ []) rest)))
      (joined (passes (at depth v b) (at (depth + 1) v Nothing) opener (inside ++ closer ∷ rest) g (opening_after opener.token.token depth v b e)) (closes closer rest depth f h));
}

-- `(` and `[`
pub bracket : {begin end : Stage} {inner v : Bool} {opener : Leaf} {inside : List Leaf} {found : List ℕ} (closer : Leaf) → is_opening opener.token.token ≡ true → is_brace opener.token.token ≡ false → is_closing closer.token.token ≡ true
    → Runs Fresh Loose true v inside found → Runs begin end inner v (opener ∷ inside ++ closer ∷ []) found
bracket {v = v} {opener = opener} closer e f g h = record { run = λ rest depth b deep fits. enclosed closer rest depth b e g (never v _ (no_list b opener.token.token f)) h }

-- and what follows
pub bracket_then : {begin end : Stage} {inner v : Bool} {opener : Leaf} {inside text : List Leaf} {found more : List ℕ} (closer : Leaf) → is_opening opener.token.token ≡ true → is_brace opener.token.token ≡ false → is_closing closer.token.token ≡ true
    → Runs Fresh Loose true v inside found → Runs Fresh end inner v text more → Runs begin end inner v (opener ∷ inside ++ closer ∷ text) (found ++ more)
bracket_then {opener = opener} {inside = inside} {text = text} closer e f g h k =
    same_leaves (ap (λ t. opener ∷ t) (append_assoc inside (closer ∷ []) text)) (append {middle = Fresh} (bracket closer e f g h) k)

-- `{` where nothing is begun
pub brace : {end : Stage} {inner v : Bool} {opener : Leaf} {inside : List Leaf} {found : List ℕ} (closer : Leaf) → is_opening opener.token.token ≡ true → is_closing closer.token.token ≡ true
    → Runs Fresh Loose true v inside found → Runs Fresh end inner v (opener ∷ inside ++ closer ∷ []) found
brace {v = v} {opener = opener} closer e f h = record { run = λ rest depth b deep fits. enclosed closer rest depth b e f (never v _ (by b fits)) h }
  where
    by : (b : Begun) → Fits Fresh b → completes b opener.token.token ≡ false
    by Nothing h = refl
    by AfterWord h = absurd h
    by Tagged h = absurd h

-- `{` outside of initial values
pub block : {begin end : Stage} {inner : Bool} {opener : Leaf} {inside : List Leaf} {found : List ℕ} (closer : Leaf) → is_opening opener.token.token ≡ true → is_closing closer.token.token ≡ true
    → Runs Fresh Loose true false inside found → Runs begin end inner false (opener ∷ inside ++ closer ∷ []) found
block closer e f h = record { run = λ rest depth b deep fits. enclosed closer rest depth b e f refl h }
