-- Runs of labels and of parts, as the reference parsers give them.
use Rattle.std.proofs.Common.{◌≡◌, ℕ, ◌<◌, Bool, true, false, not, ◌||◌, List, [], ◌∷◌, ◌++◌, length, map, refl, ap, sym, ◌∙◌, Result, Ok, Err, IsErrAnd, subst}
use Rattle.std.specs.Prelude.{Vec}
use Rattle.std.specs.declared.alloc.Global.{Global}
use Rattle.std.proofs.lemmas.List.{append-nil}
use Rattle.c_token_spec.specs.declared.token.Keyword.TheVariants.{Case, Default, Else}
use Rattle.c_token_spec.specs.declared.token.Punctuator.TheVariants as punctuator
use Rattle.c_token_spec.specs.Lexical.{Placed, Token}
use Rattle.c_token.specs.declared.Token.{Token as TokenRow}
use Rattle.c_syntax_spec.specs.Unit as unit
use Rattle.c_parse_spec.specs.declared.Role.{Role}
use Rattle.exact_read.specs.Reading.{Fault, Outcome, Parser}
use Rattle.exact_read.specs.Grammar.{read_map}
use Rattle.exact_read.specs.Going.{begins, Going}
use Rattle.exact_read.proofs.Loops.{bind-ok, bind-err, going-start, going-step, going-fault, going-end}
use Rattle.c_parse_laws.specs.Classes.{is_mark}
use Rattle.c_parse_laws.specs.Parsers.{Parsers, next_is}
use Rattle.c_parse_laws.specs.Statements as statements
use Rattle.c_parse_laws.specs.Statements.{collect, before_part, Element, ElementLabel, ElementPart}
use Rattle.c_syntax.specs.declared.statement.Part.{Part}
use Rattle.c_syntax.specs.Statements.{Piece, Declares, States, part_of, parts_of, parts_in, groups_of}
use Rattle.attempt.specs.declared.refusal.Refusal.{Refusal}
use Rattle.attempt.specs.declared.refusal.Refusal.TheVariants as refusal
use Rattle.c_parse_token.specs.declared.outcome.SyntaxFault.{SyntaxFault}
use Rattle.c_parse_token.specs.Lists.{list_of, fault_of, Gives}
use Rattle.c_parse_token.proofs.Steps.{begins-next}
use Rattle.c_parse.specs.Pieces.{read_of, starts_part, taken_labels, taken_parts}
use Rattle.c_parse.specs.Runs.{Run, none, more, Runs}

-- what is read by a loop over tokens of a class
going-run : {X Y : Type 0} (test : Token → Bool) (item : Parser Placed Role X) (whole : Outcome Placed Role Y) (finish : List X → Parser Placed Role Y) (tokens rest : List Placed) (xs : List X) → Going (λ (_ : Unit {0}) next. test next.token) (λ _. item) (λ _ _. tt {0}) whole finish (tt {0}) tokens → Run test item tokens xs rest
    → Going (λ (_ : Unit {0}) next. test next.token) (λ _. item) (λ _ _. tt {0}) whole (λ ys. finish (xs ++ ys)) (tt {0}) rest
going-run test item whole finish tokens rest xs going (none t) = going
going-run test item whole finish tokens rest xs going (more t m r y ys b e l run) =
    going-run test item whole (λ zs. finish (y ∷ zs)) m rest ys (going-step going (begins-next (λ (_ : Unit {0}). test) (tt {0}) tokens ∙ b) y m e l) run

-- parts of a block
with_same : (piece : Piece) (pieces : List Piece) → statements.with_part (read_of piece) (parts_of pieces) ≡ parts_of (piece ∷ pieces)
with_same (Declares locals) pieces = refl
with_same (States statement) pieces = refl

pub parts-same : (parts : List Part) → statements.parts_of (map (λ p. read_of (part_of p)) parts) ≡ parts_of (map part_of parts)
parts-same [] = refl
parts-same (part ∷ parts) = ap (statements.with_part (read_of (part_of part))) (parts-same parts) ∙ with_same (part_of part) (map part_of parts)

pub parts-gives : (names : List (List ℕ)) (inner : Parsers) (inside : statements.Statements) (depth : ℕ) (old left : List TokenRow) (result : Result (Vec Part Global) (Refusal SyntaxFault)) → Runs starts_part (statements.read_part names inner inside depth) taken_parts old left result → Gives (statements.read_parts names inner inside depth (list_of old)) parts_in left result
parts-gives names inner inside depth old left (Ok parts) h =
    going-end (going-run starts_part (statements.read_part names inner inside depth) _ _ (list_of old) (list_of left) (taken_parts parts) going-start h.0) (begins-next (λ (_ : Unit {0}). starts_part) (tt {0}) (list_of left) ∙ h.1)
    ∙ ap (λ xs. Ok (statements.parts_of xs, list_of left)) (append-nil (taken_parts parts)) ∙ ap (λ t. Ok (t, list_of left)) (parts-same parts.items)
parts-gives names inner inside depth old left (Err refusal.NoMemory) h = tt {0}
parts-gives names inner inside depth old left (Err (refusal.Fault fault)) h =
    going-fault (going-run starts_part (statements.read_part names inner inside depth) _ _ (list_of old) h.1 h.0 going-start h.2) (begins-next (λ (_ : Unit {0}). starts_part) (tt {0}) h.1 ∙ h.3) (fault_of fault, list_of left) h.4

-- labels and parts of a `switch`
abbrev Elements : (names : List (List ℕ)) → (inner : Parsers) → (inside : statements.Statements) → (depth : ℕ) → (whole : Outcome Placed Role unit.Groups) → (made : List Element → unit.Groups) → (had_label : Bool) → List Placed → Type 0
Elements names inner inside depth whole made had_label rest = Going statements.elements_start (statements.read_element names inner inside depth) (λ _ _. true) whole (λ elements last. Ok (made elements, last)) had_label rest

label-begins : (had_label : Bool) (tokens : List Placed) → next_is statements.begins_label tokens ≡ true → begins statements.elements_start had_label tokens ≡ true
label-begins had_label [] was = absurd (cc)
label-begins false (token ∷ after) was = was
label-begins true (token ∷ after) was = ap (λ b. b || not (statements.ends_parts token.token)) was

label-read : (names : List (List ℕ)) (inner : Parsers) (inside : statements.Statements) (depth : ℕ) (had_label : Bool) (tokens : List Placed) → next_is statements.begins_label tokens ≡ true → statements.read_element names inner inside depth had_label tokens ≡ read_map (λ label. ElementLabel label) (statements.read_label inner depth) tokens
label-read names inner inside depth false tokens was = refl
label-read names inner inside depth true tokens was = rw was refl

one-label : (names : List (List ℕ)) (inner : Parsers) (inside : statements.Statements) (depth : ℕ) (whole : Outcome Placed Role unit.Groups) (made : List Element → unit.Groups) (had_label : Bool) (tokens rest : List Placed) (label : unit.Label) → Elements names inner inside depth whole made had_label tokens → next_is statements.begins_label tokens ≡ true
    → statements.read_label inner depth tokens ≡ Ok (label, rest) → length rest < length tokens → Elements names inner inside depth whole (λ es. made (ElementLabel label ∷ es)) true rest
one-label names inner inside depth whole made had_label tokens rest label going was e l =
    going-step going (label-begins had_label tokens was) (ElementLabel label) rest (label-read names inner inside depth had_label tokens was ∙ bind-ok (statements.read_label inner depth tokens) (λ x after. Ok (ElementLabel x, after)) label rest e) l

more-labels : (names : List (List ℕ)) (inner : Parsers) (inside : statements.Statements) (depth : ℕ) (whole : Outcome Placed Role unit.Groups) (made : List Element → unit.Groups) (tokens rest : List Placed) (labels : List unit.Label) → Elements names inner inside depth whole made true tokens → Run statements.begins_label (statements.read_label inner depth) tokens labels rest
    → Elements names inner inside depth whole (λ es. made (map (λ label. ElementLabel label) labels ++ es)) true rest
more-labels names inner inside depth whole made tokens rest labels going (none t) = going
more-labels names inner inside depth whole made tokens rest labels going (more t m r y ys b e l run) = more-labels names inner inside depth whole (λ es. made (ElementLabel y ∷ es)) m rest ys (one-label names inner inside depth whole made true tokens m y going b e l) run

label-fault : (names : List (List ℕ)) (inner : Parsers) (inside : statements.Statements) (depth : ℕ) (whole : Outcome Placed Role unit.Groups) (made : List Element → unit.Groups) (had_label : Bool) (tokens : List Placed) (fault : Fault Role × List Placed) → Elements names inner inside depth whole made had_label tokens → next_is statements.begins_label tokens ≡ true → statements.read_label inner depth tokens ≡ Err fault → whole ≡ Err fault
label-fault names inner inside depth whole made had_label tokens fault going was e =
    going-fault going (label-begins had_label tokens was) fault (label-read names inner inside depth had_label tokens was ∙ bind-err (statements.read_label inner depth tokens) (λ x after. Ok (ElementLabel x, after)) fault e)

labels-fault : (names : List (List ℕ)) (inner : Parsers) (inside : statements.Statements) (depth : ℕ) (whole : Outcome Placed Role unit.Groups) (made : List Element → unit.Groups) (had_label : Bool) (tokens rest : List Placed) (labels : List unit.Label) (fault : Fault Role × List Placed) → Elements names inner inside depth whole made had_label tokens → Run statements.begins_label (statements.read_label inner depth) tokens labels rest → next_is statements.begins_label rest ≡ true → statements.read_label inner depth rest ≡ Err fault → whole ≡ Err fault
labels-fault names inner inside depth whole made had_label tokens rest labels fault going (none t) was e = label-fault names inner inside depth whole made had_label tokens fault going was e
labels-fault names inner inside depth whole made had_label tokens rest labels fault going (more t m r y ys b e0 l run) was e =
    labels-fault names inner inside depth whole (λ es. made (ElementLabel y ∷ es)) true m rest ys fault (one-label names inner inside depth whole made had_label tokens m y going b e0 l) run was e

-- no label begins where a part does
apart : (brace case default otherwise : Bool) → not (brace || case || default || otherwise) ≡ true → (case || default) ≡ false
apart true case default otherwise h = absurd (cc)
apart false true default otherwise h = absurd (cc)
apart false false true otherwise h = absurd (cc)
apart false false false otherwise h = refl

no-label : (tokens : List Placed) → next_is starts_part tokens ≡ true → next_is statements.begins_label tokens ≡ false
no-label [] was = refl
no-label (token ∷ after) was = apart (is_mark punctuator.RightBrace token.token) (statements.is_keyword Case token.token) (statements.is_keyword Default token.token) (statements.is_keyword Else token.token) was

part-begins : (tokens : List Placed) → next_is starts_part tokens ≡ true → begins statements.elements_start true tokens ≡ true
part-begins [] was = absurd (cc)
part-begins (token ∷ after) was = rw (no-label (token ∷ after) was) was

part-read : (names : List (List ℕ)) (inner : Parsers) (inside : statements.Statements) (depth : ℕ) (tokens : List Placed) → next_is starts_part tokens ≡ true → statements.read_element names inner inside depth true tokens ≡ read_map (λ part. ElementPart part) (statements.read_part names inner inside depth) tokens
part-read names inner inside depth tokens was = rw (no-label tokens was) refl

more-parts : (names : List (List ℕ)) (inner : Parsers) (inside : statements.Statements) (depth : ℕ) (whole : Outcome Placed Role unit.Groups) (made : List Element → unit.Groups) (tokens rest : List Placed) (parts : List statements.Part) → Elements names inner inside depth whole made true tokens → Run starts_part (statements.read_part names inner inside depth) tokens parts rest
    → Elements names inner inside depth whole (λ es. made (map (λ part. ElementPart part) parts ++ es)) true rest
more-parts names inner inside depth whole made tokens rest parts going (none t) = going
more-parts names inner inside depth whole made tokens rest parts going (more t m r y ys b e l run) =
    more-parts names inner inside depth whole (λ es. made (ElementPart y ∷ es)) m rest ys
    (going-step going (part-begins tokens b) (ElementPart y) m (part-read names inner inside depth tokens b ∙ bind-ok (statements.read_part names inner inside depth tokens) (λ x after. Ok (ElementPart x, after)) y m e) l) run

part-fault : (names : List (List ℕ)) (inner : Parsers) (inside : statements.Statements) (depth : ℕ) (whole : Outcome Placed Role unit.Groups) (made : List Element → unit.Groups) (tokens : List Placed) (fault : Fault Role × List Placed) → Elements names inner inside depth whole made true tokens → next_is starts_part tokens ≡ true → statements.read_part names inner inside depth tokens ≡ Err fault → whole ≡ Err fault
part-fault names inner inside depth whole made tokens fault going was e =
    going-fault going (part-begins tokens was) fault (part-read names inner inside depth tokens was ∙ bind-err (statements.read_part names inner inside depth tokens) (λ x after. Ok (ElementPart x, after)) fault e)

-- what labels, and parts after them, are as groups
collected-labels : (labels : List unit.Label) (rest : List Element) → (collect (map (λ label. ElementLabel label) labels ++ rest)).labels ≡ labels ++ (collect rest).labels
collected-labels [] rest = refl
collected-labels (label ∷ labels) rest = ap (λ l. label ∷ l) (collected-labels labels rest)

collected-parts : (labels : List unit.Label) (rest : List Element) → (collect (map (λ label. ElementLabel label) labels ++ rest)).parts ≡ (collect rest).parts
collected-parts [] rest = refl
collected-parts (label ∷ labels) rest = collected-parts labels rest

collected-groups : (labels : List unit.Label) (rest : List Element) → (collect (map (λ label. ElementLabel label) labels ++ rest)).groups ≡ (collect rest).groups
collected-groups [] rest = refl
collected-groups (label ∷ labels) rest = collected-groups labels rest

-- what is read after these tokens: nothing, or a label first
abbrev Follows : List Element → List Placed → Type 0
Follows [] tokens = Unit {0}
Follows (ElementLabel label ∷ elements) tokens = next_is statements.begins_label tokens ≡ true
Follows (ElementPart part ∷ elements) tokens = ⊥

after-parts : (part : statements.Part) (parts : List statements.Part) (after : List Element) (tokens : List Placed) → Follows after tokens → collect (map (λ p. ElementPart p) (part ∷ parts) ++ after) ≡ record { labels = []; parts = statements.parts_of (part ∷ parts); groups = statements.groups_of after }
after-parts part [] [] tokens f = refl
after-parts part [] (ElementLabel label ∷ after) tokens f = refl
after-parts part [] (ElementPart other ∷ after) tokens f = absurd f
after-parts part (other ∷ parts) after tokens f = ap (before_part part) (after-parts other parts after tokens f)

group-of : (label : unit.Label) (labels : List unit.Label) (rest : List Element) → statements.groups_of (map (λ l. ElementLabel l) (label ∷ labels) ++ rest) ≡ unit.groups (label ∷ (labels ++ (collect rest).labels)) (collect rest).parts (collect rest).groups
group-of label labels rest = rw (collected-labels labels rest, collected-parts labels rest, collected-groups labels rest) refl

one-group : (names : List (List ℕ)) (inner : Parsers) (inside : statements.Statements) (depth : ℕ) (label : unit.Label) (labels : List unit.Label) (parts : List statements.Part) (after : List Element) (middle rest : List Placed) → next_is statements.begins_label middle ≡ false → Run starts_part (statements.read_part names inner inside depth) middle parts rest → Follows after rest
    → statements.groups_of (map (λ l. ElementLabel l) (label ∷ labels) ++ (map (λ p. ElementPart p) parts ++ after)) ≡ unit.groups (label ∷ labels) (statements.parts_of parts) (statements.groups_of after)
one-group names inner inside depth label labels parts [] middle rest quiet (none t) f = group-of label labels [] ∙ ap (λ l. unit.groups (label ∷ l) unit.no_parts unit.no_groups) (append-nil labels)
one-group names inner inside depth label labels parts (ElementLabel other ∷ after) middle rest quiet (none t) f = absurd (cc)
one-group names inner inside depth label labels parts (ElementPart other ∷ after) middle rest quiet (none t) f = absurd f
one-group names inner inside depth label labels parts after middle rest quiet (more t m r y ys b e l run) f =
    group-of label labels (map (λ p. ElementPart p) (y ∷ ys) ++ after)
    ∙ ap (λ c. unit.groups (label ∷ (labels ++ c.labels)) c.parts c.groups) (after-parts y ys after rest f)
    ∙ ap (λ l. unit.groups (label ∷ l) (statements.parts_of (y ∷ ys)) (statements.groups_of after)) (append-nil labels)

-- groups before others
abbrev before : List (List unit.Label × unit.Parts) → unit.Groups → unit.Groups
before [] rest = rest
before (group ∷ groups) rest = unit.groups group.0 group.1 (before groups rest)

before-last : (groups : List (List unit.Label × unit.Parts)) (group : List unit.Label × unit.Parts) (rest : unit.Groups) → before (groups ++ group ∷ []) rest ≡ before groups (unit.groups group.0 group.1 rest)
before-last [] group rest = refl
before-last (other ∷ groups) group rest = ap (unit.groups other.0 other.1) (before-last groups group rest)

before-alone : (groups : List (List unit.Label × unit.Parts)) → before groups unit.no_groups ≡ groups_of groups
before-alone [] = refl
before-alone (group ∷ groups) = ap (unit.groups group.0 group.1) (before-alone groups)

-- groups are being read, after these
pub record Groups (names : List (List ℕ)) (inner : Parsers) (inside : statements.Statements) (depth : ℕ) (whole : Outcome Placed Role unit.Groups) (read : List (List unit.Label × unit.Parts)) (rest : List Placed) : Type 0 where
  pub had_label : Bool
  pub made : List Element → unit.Groups
  pub going : Elements names inner inside depth whole made had_label rest
  pub over : had_label ≡ true → next_is starts_part rest ≡ false
  pub is : (after : List Element) → Follows after rest → made after ≡ before read (statements.groups_of after)

pub groups-start : (names : List (List ℕ)) (inner : Parsers) (inside : statements.Statements) (depth : ℕ) (tokens : List Placed) → Groups names inner inside depth (statements.read_groups names inner inside depth tokens) [] tokens
groups-start names inner inside depth tokens = record { had_label = false; made = statements.groups_of; going = going-start; over = λ h. absurd (cc); is = λ after f. refl }

pub groups-step : (names : List (List ℕ)) (inner : Parsers) (inside : statements.Statements) (depth : ℕ) (whole : Outcome Placed Role unit.Groups) (read : List (List unit.Label × unit.Parts)) (tokens middle rest : List Placed) (labels : List unit.Label) (parts : List statements.Part) → Groups names inner inside depth whole read tokens → next_is statements.begins_label tokens ≡ true
    → Run statements.begins_label (statements.read_label inner depth) tokens labels middle → next_is statements.begins_label middle ≡ false → Run starts_part (statements.read_part names inner inside depth) middle parts rest → next_is starts_part rest ≡ false → Groups names inner inside depth whole (read ++ (labels, statements.parts_of parts) ∷ []) rest
groups-step names inner inside depth whole read tokens middle rest labels parts groups was (none t) quiet run over = absurd (cc)
groups-step names inner inside depth whole read tokens middle rest labels parts groups was (more t m r y ys b e l labelled) quiet run over = record {
  had_label = true;
  made = λ es. groups.made (map (λ label. ElementLabel label) (y ∷ ys) ++ (map (λ part. ElementPart part) parts ++ es));
  going = more-parts names inner inside depth whole (λ es. groups.made (map (λ label. ElementLabel label) (y ∷ ys) ++ es)) middle rest parts
      (more-labels names inner inside depth whole (λ es. groups.made (ElementLabel y ∷ es)) m middle ys (one-label names inner inside depth whole groups.made groups.had_label tokens m y groups.going b e l) labelled) run;
  over = λ h. over;
  is = λ es f. groups.is (map (λ label. ElementLabel label) (y ∷ ys) ++ (map (λ part. ElementPart part) parts ++ es)) was
      ∙ ap (before read) (one-group names inner inside depth y ys parts es middle rest quiet run f)
      ∙ sym (before-last read (y ∷ ys, statements.parts_of parts) (statements.groups_of es));
}

pub groups-label_fault : (names : List (List ℕ)) (inner : Parsers) (inside : statements.Statements) (depth : ℕ) (whole : Outcome Placed Role unit.Groups) (read : List (List unit.Label × unit.Parts)) (tokens middle : List Placed) (labels : List unit.Label) (fault : Fault Role × List Placed) → Groups names inner inside depth whole read tokens
    → Run statements.begins_label (statements.read_label inner depth) tokens labels middle → next_is statements.begins_label middle ≡ true → statements.read_label inner depth middle ≡ Err fault → whole ≡ Err fault
groups-label_fault names inner inside depth whole read tokens middle labels fault groups run was e = labels-fault names inner inside depth whole groups.made groups.had_label tokens middle labels fault groups.going run was e

pub groups-part_fault : (names : List (List ℕ)) (inner : Parsers) (inside : statements.Statements) (depth : ℕ) (whole : Outcome Placed Role unit.Groups) (read : List (List unit.Label × unit.Parts)) (tokens middle rest : List Placed) (labels : List unit.Label) (parts : List statements.Part) (fault : Fault Role × List Placed) → Groups names inner inside depth whole read tokens → next_is statements.begins_label tokens ≡ true
    → Run statements.begins_label (statements.read_label inner depth) tokens labels middle → next_is statements.begins_label middle ≡ false → Run starts_part (statements.read_part names inner inside depth) middle parts rest → next_is starts_part rest ≡ true → statements.read_part names inner inside depth rest ≡ Err fault → whole ≡ Err fault
groups-part_fault names inner inside depth whole read tokens middle rest labels parts fault groups was (none t) quiet run begun e = absurd (cc)
groups-part_fault names inner inside depth whole read tokens middle rest labels parts fault groups was (more t m r y ys b e0 l labelled) quiet run begun e =
    part-fault names inner inside depth whole (λ es. groups.made (map (λ label. ElementLabel label) (y ∷ ys) ++ (map (λ part. ElementPart part) parts ++ es))) rest fault
    (more-parts names inner inside depth whole (λ es. groups.made (map (λ label. ElementLabel label) (y ∷ ys) ++ es)) middle rest parts
    (more-labels names inner inside depth whole (λ es. groups.made (ElementLabel y ∷ es)) m middle ys (one-label names inner inside depth whole groups.made groups.had_label tokens m y groups.going b e0 l) labelled) run) begun e

ends : (had_label : Bool) (tokens : List Placed) → (had_label ≡ true → next_is starts_part tokens ≡ false) → next_is statements.begins_label tokens ≡ false → begins statements.elements_start had_label tokens ≡ false
ends had_label [] over quiet = refl
ends false (token ∷ after) over quiet = quiet
ends true (token ∷ after) over quiet = rw quiet (over refl)

pub groups-end : (names : List (List ℕ)) (inner : Parsers) (inside : statements.Statements) (depth : ℕ) (whole : Outcome Placed Role unit.Groups) (read : List (List unit.Label × unit.Parts)) (tokens : List Placed) → Groups names inner inside depth whole read tokens → next_is statements.begins_label tokens ≡ false → whole ≡ Ok (groups_of read, tokens)
groups-end names inner inside depth whole read tokens groups quiet =
    going-end groups.going (ends groups.had_label tokens groups.over quiet) ∙ ap (λ g. Ok (g, tokens)) (groups.is [] (tt {0}) ∙ before-alone read)

-- labels, or parts, that stop
pub labels-failed : {B : Type 0} (names : List (List ℕ)) (inner : Parsers) (inside : statements.Statements) (depth : ℕ) (whole : Outcome Placed Role unit.Groups) (seen : B → unit.Groups) (read : List (List unit.Label × unit.Parts)) (old left : List TokenRow) (error : Refusal SyntaxFault) → Groups names inner inside depth whole read (list_of old)
    → Runs statements.begins_label (statements.read_label inner depth) taken_labels old left (Err error) → Gives {X = B} whole seen left (Err error)
labels-failed names inner inside depth whole seen read old left refusal.NoMemory groups runs = tt {0}
labels-failed names inner inside depth whole seen read old left (refusal.Fault fault) groups runs = groups-label_fault names inner inside depth whole read (list_of old) runs.1 runs.0 (fault_of fault, list_of left) groups runs.2 runs.3 runs.4

pub parts-failed : {B : Type 0} (names : List (List ℕ)) (inner : Parsers) (inside : statements.Statements) (depth : ℕ) (whole : Outcome Placed Role unit.Groups) (seen : B → unit.Groups) (read : List (List unit.Label × unit.Parts)) (tokens : List Placed) (labels : List unit.Label) (old left : List TokenRow) (error : Refusal SyntaxFault) → Groups names inner inside depth whole read tokens
    → next_is statements.begins_label tokens ≡ true → Run statements.begins_label (statements.read_label inner depth) tokens labels (list_of old) → next_is statements.begins_label (list_of old) ≡ false → Runs starts_part (statements.read_part names inner inside depth) taken_parts old left (Err error) → Gives {X = B} whole seen left (Err error)
parts-failed names inner inside depth whole seen read tokens labels old left refusal.NoMemory groups was labelled quiet runs = tt {0}
parts-failed names inner inside depth whole seen read tokens labels old left (refusal.Fault fault) groups was labelled quiet runs = groups-part_fault names inner inside depth whole read tokens (list_of old) runs.1 labels runs.0 (fault_of fault, list_of left) groups was labelled quiet runs.2 runs.3 runs.4
