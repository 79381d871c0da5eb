-- What is in a `switch` keeps roles, where the statements in it do.
use Rattle.std.proofs.Common.{ℕ, List, ◌∷◌, ◌++◌, ap, sym, ◌∙◌, subst, [], refl, ◌≡◌, true, Bool, false, not, ◌&&◌, IsTrue, ◌||◌, append-nil, append_assoc, inl, Ok}
use Rattle.c_token_spec.specs.declared.token.Keyword.TheVariants.{Case, Default, Else}
use Rattle.c_token_spec.specs.declared.token.Punctuator.TheVariants as punctuator
use Rattle.c_token_spec.specs.Lexical.{Placed, Token, Name as name_token, Word, Number as number_token, Character as character_token, Mark}
use Rattle.c_syntax_spec.specs.Unit as unit
use Rattle.c_parse_spec.specs.declared.Role.TheVariants.{OperandEnd, Nothing}
use Rattle.c_parse_spec.specs.Leaves.{Leaf, plain, expected, keyword_at, mark, marks, roles}
use Rattle.c_parse_spec.specs.Expressions.{Conditional}
use Rattle.c_parse_spec.specs.Statements as grammar
use Rattle.exact_read.specs.Reading.{Stops, plains}
use Rattle.exact_read.specs.Grammar.{One, Map, Or, first, second, Many, none, some, anything, bind, context_after, read_many}
use Rattle.exact_read.proofs.Many.{Items}
use Rattle.c_parse_laws.specs.Classes.{mark_offset}
use Rattle.c_parse_laws.specs.Exactness.{Closed}
use Rattle.c_parse_laws.specs.Parsers.{Parsers}
use Rattle.c_parse_laws.proofs.Marks.{Following, one-mark, mark-one, after_begins, same_begins, roled-mark, roled-closed, roled-opened, roled-choice, after_silent, map_begins, map_silent, roled-closed_by}
use Rattle.c_parse_laws.proofs.Samples.{zero_tree, zero_text, zero_conditional}
use Rattle.c_parse_laws.specs.TypeExactness.{AllFirm}
use Rattle.exact_read.proofs.Contexts.{many-context_same}
use Rattle.c_parse_laws.proofs.Tokens.{or_right}
use Rattle.c_parse_laws.specs.Statements.{keyword_offset, begins_label, Element, ElementLabel, ElementPart, is_keyword, ends_parts, elements_start, Collected, Part, PartLocals, PartStatement, with_part, before_part, collect, groups_of, parts_of, group_of, read_label, Statements, read_element, read_groups}
use Rattle.c_parse_laws.proofs.Keywords.{one-keyword, keyword-one, keyword-some, keyword-self, silent_wrong}
use Rattle.c_parse_laws.proofs.Parts.{is_open, PartText, goes_no_else, part_first, part_before, PartsMany, parts_many, StatementsFirm, roled-part, part_silent}
use Rattle.exact_read.proofs.RoleBasics.{roled-same, roled-enter}
use Rattle.exact_read.proofs.RoleBegins.{Begins, Silent, silent_next}
use Rattle.exact_read.proofs.RoleMany.{ItemRoles, roled-many}
use Rattle.c_parse_laws.specs.Firm.{Firm, quiet}
use Rattle.c_parse_laws.proofs.Firm.{firm-map}

-- a label
abbrev CaseText : (names : List (List ℕ)) → (depth : ℕ) → unit.Label → List Leaf → Type 0
CaseText names depth = Following (One plain (keyword_offset Case)) (λ offset. Map (λ x. unit.Case x offset) (Closed (expected OperandEnd) punctuator.Colon (Conditional names depth 0)))

abbrev DefaultText : unit.Label → List Leaf → Type 0
DefaultText = Following (One plain (keyword_offset Default)) (λ offset. Map (λ (_ : ℕ). unit.Default offset) (One plain (mark_offset punctuator.Colon)))

text_label : (names : List (List ℕ)) (depth : ℕ) (l : unit.Label) (text : List Leaf) → Or (CaseText names depth) DefaultText l text → grammar.Label names depth l text
text_label names depth l text (first b) =
    let m = b.is_second in
    let c = m.derives in
    subst (λ t. grammar.Label names depth l t) (sym (b.cut ∙ ap (λ t. t ++ b.right) (one-keyword Case plain b.first b.left b.is_first) ∙ ap (λ t. plain (keyword_at Case b.first) ∷ t) c.cut))
    (rw m.is (grammar.case depth m.inner c.inside b.first c.close c.derives))
text_label names depth l text (second b) =
    let m = b.is_second in
    subst (λ t. grammar.Label names depth l t) (sym (b.cut ∙ ap (λ t. t ++ b.right) (one-keyword Default plain b.first b.left b.is_first) ∙ ap (λ t. plain (keyword_at Default b.first) ∷ t) (one-mark punctuator.Colon plain m.inner b.right m.derives)))
    (rw m.is (grammar.default depth b.first m.inner))

label_text : (names : List (List ℕ)) (depth : ℕ) (l : unit.Label) (text : List Leaf) → grammar.Label names depth l text → Or (CaseText names depth) DefaultText l text
label_text names depth l text (grammar.case d x t offset colon h) =
    first (record { first = offset; left = plain (keyword_at Case offset) ∷ []; right = t ++ expected OperandEnd (mark punctuator.Colon colon) ∷ []; is_first = keyword-one Case plain offset; is_second = record { inner = x; is = refl; derives = record { inside = t; close = colon; derives = h; cut = refl } }; cut = refl })
label_text names depth l text (grammar.default d offset colon) =
    second (record { first = offset; left = plain (keyword_at Default offset) ∷ []; right = plain (mark punctuator.Colon colon) ∷ []; is_first = keyword-one Default plain offset; is_second = record { inner = colon; is = refl; derives = mark-one punctuator.Colon plain colon }; cut = refl })

label_first : (names : List (List ℕ)) (depth : ℕ) (l : unit.Label) (text : List Leaf) → grammar.Label names depth l text → (u : Leaf) × (more : List Leaf) × (text ≡ u ∷ more) × (begins_label u.token.token ≡ true)
label_first names depth l text (grammar.case d x t offset colon h) = (plain (keyword_at Case offset), _, refl, refl)
label_first names depth l text (grammar.default d offset colon) = (plain (keyword_at Default offset), _, refl, refl)

-- a label or a part
abbrev LabelText : (names : List (List ℕ)) → (depth : ℕ) → Element → List Leaf → Type 0
LabelText names depth = Map (λ label. ElementLabel label) (grammar.Label names depth)

-- what came before: nothing, or an element that an `else` would belong to or not
data Before : Type 0 where
  AtStart : Before
  AfterElement : (open_before : Bool) → Before

abbrev had_label : Before → Bool
had_label AtStart = false
had_label (AfterElement open_before) = true

abbrev open_element : Element → Bool
open_element (ElementLabel label) = false
open_element (ElementPart part) = is_open part

abbrev next_before : Before → Element → Before
next_before before element = AfterElement (open_element element)

abbrev ElementText : (names : List (List ℕ)) → (depth : ℕ) → Before → Element → List Leaf → Type 0
ElementText names depth AtStart = LabelText names depth
ElementText names depth (AfterElement open_before) = Or (LabelText names depth) (Map (λ part. ElementPart part) (PartText names depth))

abbrev stop_element : Element → Placed → Bool
stop_element element t = not (open_element element && is_keyword Else t.token)

abbrev ends_before : Before → Placed → Bool
ends_before AtStart t = true
ends_before (AfterElement open_before) t = not (open_before && is_keyword Else t.token)

label_no_else : (open_before : Bool) (k : Token) → begins_label k ≡ true → IsTrue (not (open_before && is_keyword Else k))
label_no_else open_before (Word Case) e = and_false open_before
  where
    and_false : (a : Bool) → IsTrue (not (a && false))
    and_false true = refl
    and_false false = refl
label_no_else open_before (Word Default) e = and_false open_before
  where
    and_false : (a : Bool) → IsTrue (not (a && false))
    and_false true = refl
    and_false false = refl
label_no_else open_before (Word other) e = absurd (cc)
label_no_else open_before (name_token spelling) e = absurd (cc)
label_no_else open_before (number_token value type) e = absurd (cc)
label_no_else open_before (character_token value) e = absurd (cc)
label_no_else open_before (Mark p) e = absurd (cc)

start_no_else : (open_before : Bool) (t : Placed) → IsTrue (begins_label t.token || not (ends_parts t.token)) → IsTrue (not (open_before && is_keyword Else t.token))
start_no_else open_before t h = by_label (begins_label t.token) refl h
  where
    by_label : (b : Bool) → begins_label t.token ≡ b → IsTrue (b || not (ends_parts t.token)) → IsTrue (not (open_before && is_keyword Else t.token))
    by_label true e h = label_no_else open_before t.token e
    by_label false e h = goes_no_else open_before t.token h

element_items : (names : List (List ℕ)) (depth : ℕ) → Items marks (λ before. elements_start (had_label before)) ends_before (ElementText names depth) (λ _ e. stop_element e) next_before
element_items names depth = record { begins = begins; opens_next = λ before e rest stops. opened e rest stops; stops_item = λ before e rest stops. ended e rest stops }
  where
    or_left : (a b : Bool) → a ≡ true → (a || b) ≡ true
    or_left true b e = refl
    or_left false b e = absurd (cc)

    or_both : (a b : Bool) → b ≡ true → (a || b) ≡ true
    or_both true b e = refl
    or_both false b e = e

    begins : (before : Before) (e : Element) (text : List Leaf) → ElementText names depth before e text → (u : Leaf) × (more : List Leaf) × (text ≡ u ∷ more) × (elements_start (had_label before) u.token ≡ true)
    begins AtStart e text m = label_first names depth m.inner text m.derives
    begins (AfterElement b) e text (first m) = let f = label_first names depth m.inner text m.derives in (f.0, f.1, f.2, or_left (begins_label f.0.token.token) (not (ends_parts f.0.token.token)) f.3)
    begins (AfterElement b) e text (second m) = let f = part_first names depth m.inner text m.derives in (f.0, f.1, f.2, or_both (begins_label f.0.token.token) (not (ends_parts f.0.token.token)) (ap not f.3))

    opened : (e : Element) (rest : List Placed) → Stops (stop_element e) rest → Stops (λ t. elements_start true t || ends_before (AfterElement (open_element e)) t) rest
    opened e [] h = tt
    opened e (t ∷ rest) h = or_right (elements_start true t) (stop_element e t) h

    by_test : (e : Element) (t : Placed) (b : Bool) → elements_start true t ≡ b → IsTrue (b || stop_element e t) → IsTrue (stop_element e t)
    by_test e t true f h = start_no_else (open_element e) t f
    by_test e t false f h = h

    ended : (e : Element) (rest : List Placed) → Stops (λ t. elements_start true t || ends_before (AfterElement (open_element e)) t) rest → Stops (stop_element e) rest
    ended e [] h = tt
    ended e (t ∷ rest) h = by_test e t (elements_start true t) refl h

-- what elements are, as the grammar has groups
abbrev ElementsText : (names : List (List ℕ)) → (depth : ℕ) → Before → List Element → List Leaf → Type 0
ElementsText names depth = Many next_before (ElementText names depth)

-- labels, or none
data LabelsText (names : List (List ℕ)) (depth : ℕ) : List unit.Label → List Leaf → Type 0 where
  no_labels : LabelsText names depth [] []
  some_labels : (label : unit.Label) (labels : List unit.Label) (text : List Leaf) → grammar.Labels names depth (label ∷ labels) text → LabelsText names depth (label ∷ labels) text

-- labels, parts and groups one after the other, where a part precedes groups
record CollectedText (names : List (List ℕ)) (depth : ℕ) (c : Collected) (text : List Leaf) : Type 0 where
  one : List Leaf
  two : List Leaf
  three : List Leaf
  are_labels : LabelsText names depth c.labels one
  are_parts : grammar.Parts names depth c.parts two
  are_groups : grammar.Groups names depth c.groups three
  -- where groups follow, parts precede them
  apart : grammar.is_any c.groups ≡ true → grammar.is_some c.parts ≡ true
  cut : text ≡ one ++ (two ++ three)

label_before : (names : List (List ℕ)) (depth : ℕ) (label : unit.Label) (labels : List unit.Label) (left text : List Leaf) → grammar.Label names depth label left → LabelsText names depth labels text → LabelsText names depth (label ∷ labels) (left ++ text)
label_before names depth label labels left text h no_labels = some_labels label [] (left ++ []) (subst (λ l. grammar.Labels names depth (label ∷ []) l) (sym (append-nil left)) (grammar.last depth label left h))
label_before names depth label labels left text h (some_labels l ls t k) = some_labels label (l ∷ ls) (left ++ t) (grammar.more depth label (l ∷ ls) left t h k)

with_some : (p : Part) (rest : unit.Parts) → grammar.is_some (with_part p rest) ≡ true
with_some (PartLocals l) rest = refl
with_some (PartStatement s) rest = refl

group_text : (names : List (List ℕ)) (depth : ℕ) (label : unit.Label) (labels : List unit.Label) (parts : unit.Parts) (following : unit.Groups) (one two three : List Leaf) → LabelsText names depth (label ∷ labels) one → grammar.Parts names depth parts two → grammar.Groups names depth following three → (grammar.is_any following ≡ true → grammar.is_some parts ≡ true)
    → grammar.Groups names depth (unit.groups (label ∷ labels) parts following) (one ++ (two ++ three))
group_text names depth label labels parts following one two three (some_labels l ls t k) p g apart = by_groups following g apart
  where
    by_groups : (following : unit.Groups) → grammar.Groups names depth following three → (grammar.is_any following ≡ true → grammar.is_some parts ≡ true) → grammar.Groups names depth (unit.groups (label ∷ labels) parts following) (one ++ (two ++ three))
    by_groups unit.no_groups h apart = empty three h
      where
        empty : (three : List Leaf) → grammar.Groups names depth unit.no_groups three → grammar.Groups names depth (unit.groups (label ∷ labels) parts unit.no_groups) (one ++ (two ++ three))
        empty three h = subst (λ l. grammar.Groups names depth (unit.groups (label ∷ labels) parts unit.no_groups) (one ++ (two ++ l))) (sym (no_text three h)) (subst (λ l. grammar.Groups names depth (unit.groups (label ∷ labels) parts unit.no_groups) (one ++ l)) (sym (append-nil two)) (grammar.last_group depth (label ∷ labels) parts one two k p))
          where
            no_text : (three : List Leaf) → grammar.Groups names depth unit.no_groups three → three ≡ []
            no_text three (grammar.no_groups d) = refl
    by_groups (unit.groups ls ps rest) h apart = grammar.group depth (label ∷ labels) parts (unit.groups ls ps rest) one two three k p (apart refl) h refl

labels_none : (names : List (List ℕ)) (depth : ℕ) (labels : List unit.Label) (one : List Leaf) → LabelsText names depth labels one → labels ≡ [] → one ≡ []
labels_none names depth labels one no_labels e = refl
labels_none names depth labels one (some_labels l ls t k) e = absurd (cc)

part_collected : (names : List (List ℕ)) (depth : ℕ) (p : Part) (labels : List unit.Label) (parts : unit.Parts) (following : unit.Groups) (left text : List Leaf) → PartText names depth p left → CollectedText names depth (record { labels = labels; parts = parts; groups = following }) text → CollectedText names depth (before_part p (record { labels = labels; parts = parts; groups = following })) (left ++ text)
part_collected names depth p [] parts following left text h t =
    record {
      one = [];
      two = left ++ t.two;
      three = t.three;
      are_labels = no_labels;
      are_parts = part_before names depth p parts left t.two h t.are_parts;
      are_groups = t.are_groups;
      apart = λ e. with_some p parts;
      cut = ap (λ l. left ++ l) (t.cut ∙ ap (λ l. l ++ (t.two ++ t.three)) (labels_none names depth [] t.one t.are_labels refl)) ∙ sym (append_assoc left t.two t.three);
    }
part_collected names depth p (l ∷ ls) parts following left text h t =
    record {
      one = [];
      two = left;
      three = text;
      are_labels = no_labels;
      are_parts = subst (λ k. grammar.Parts names depth (with_part p unit.no_parts) k) (append-nil left) (part_before names depth p unit.no_parts left [] h (grammar.no_parts depth));
      are_groups = subst (λ k. grammar.Groups names depth (unit.groups (l ∷ ls) parts following) k) (sym t.cut) (group_text names depth l ls parts following t.one t.two t.three t.are_labels t.are_parts t.are_groups t.apart);
      apart = λ e. with_some p unit.no_parts;
      cut = refl;
    }

label_collected : (names : List (List ℕ)) (depth : ℕ) (label : unit.Label) (c : Collected) (left text : List Leaf) → grammar.Label names depth label left → CollectedText names depth c text → CollectedText names depth (record { labels = label ∷ c.labels; parts = c.parts; groups = c.groups }) (left ++ text)
label_collected names depth label c left text h t =
    record { one = left ++ t.one; two = t.two; three = t.three; are_labels = label_before names depth label c.labels left t.one h t.are_labels; are_parts = t.are_parts; are_groups = t.are_groups; apart = t.apart; cut = ap (λ l. left ++ l) t.cut ∙ sym (append_assoc left t.one (t.two ++ t.three)) }

element_collected : (names : List (List ℕ)) (depth : ℕ) (before : Before) (e : Element) (es : List Element) (left text : List Leaf) → ElementText names depth before e left → CollectedText names depth (collect es) text → CollectedText names depth (collect (e ∷ es)) (left ++ text)
element_collected names depth AtStart e es left text m t = subst (λ (x : Element). CollectedText names depth (collect (x ∷ es)) (left ++ text)) (sym m.is) (label_collected names depth m.inner (collect es) left text m.derives t)
element_collected names depth (AfterElement b) e es left text (first m) t = subst (λ (x : Element). CollectedText names depth (collect (x ∷ es)) (left ++ text)) (sym m.is) (label_collected names depth m.inner (collect es) left text m.derives t)
element_collected names depth (AfterElement b) e es left text (second m) t = subst (λ (x : Element). CollectedText names depth (collect (x ∷ es)) (left ++ text)) (sym m.is) (part_collected names depth m.inner (collect es).labels (collect es).parts (collect es).groups left text m.derives t)

elements_collected : (names : List (List ℕ)) (depth : ℕ) (before : Before) (es : List Element) (text : List Leaf) → ElementsText names depth before es text → CollectedText names depth (collect es) text
elements_collected names depth before es text (none d) = record { one = []; two = []; three = []; are_labels = no_labels; are_parts = grammar.no_parts depth; are_groups = grammar.no_groups depth; apart = λ e. absurd (cc); cut = refl }
elements_collected names depth before es text (some d e ys left right one rest) = element_collected names depth d e ys left right one (elements_collected names depth (next_before d e) ys right rest)

-- from the start
started : (names : List (List ℕ)) (depth : ℕ) (before : Before) (e : Element) (left : List Leaf) → ElementText names depth before e left → before ≡ AtStart → (label : unit.Label) × (e ≡ ElementLabel label)
started names depth AtStart e left m same = (m.inner, m.is)
started names depth (AfterElement b) e left m same = absurd (cc)

groups_labelled : (names : List (List ℕ)) (depth : ℕ) (label : unit.Label) (es : List Element) (text : List Leaf) → CollectedText names depth (collect (ElementLabel label ∷ es)) text → grammar.Groups names depth (groups_of (ElementLabel label ∷ es)) text
groups_labelled names depth label es text t = subst (λ l. grammar.Groups names depth (groups_of (ElementLabel label ∷ es)) l) (sym t.cut) (group_text names depth label (collect es).labels (collect es).parts (collect es).groups t.one t.two t.three t.are_labels t.are_parts t.are_groups t.apart)

elements_groups : (names : List (List ℕ)) (depth : ℕ) (before : Before) (es : List Element) (text : List Leaf) → ElementsText names depth before es text → before ≡ AtStart → grammar.Groups names depth (groups_of es) text
elements_groups names depth before es text (none d) same = grammar.no_groups depth
elements_groups names depth before es text (some d e ys left right one rest) same =
    let l = started names depth d e left one same in
    let c = elements_collected names depth d (e ∷ ys) (left ++ right) (some d e ys left right one rest) in
    subst (λ (x : Element). grammar.Groups names depth (groups_of (x ∷ ys)) (left ++ right)) (sym l.1) (groups_labelled names depth l.0 ys (left ++ right) (subst (λ (x : Element). CollectedText names depth (collect (x ∷ ys)) (left ++ right)) l.1 c))

-- and back
label_element : (names : List (List ℕ)) (depth : ℕ) (before : Before) (label : unit.Label) (text : List Leaf) → grammar.Label names depth label text → ElementText names depth before (ElementLabel label) text
label_element names depth AtStart label text h = record { inner = label; is = refl; derives = h }
label_element names depth (AfterElement b) label text h = first (record { inner = label; is = refl; derives = h })

-- elements that can occur anywhere
abbrev Anywhere : (names : List (List ℕ)) → (depth : ℕ) → List Element → List Leaf → Type 0
Anywhere names depth es text = (before : Before) → ElementsText names depth before es text

abbrev labels_before : List unit.Label → List Element → List Element
labels_before [] es = es
labels_before (label ∷ labels) es = ElementLabel label ∷ labels_before labels es

abbrev parts_before : List Part → List Element → List Element
parts_before [] es = es
parts_before (part ∷ parts) es = ElementPart part ∷ parts_before parts es

-- at the start only a label can occur
abbrev After_any : (names : List (List ℕ)) → (depth : ℕ) → List Element → List Leaf → Type 0
After_any names depth es text = (b : Bool) → ElementsText names depth (AfterElement b) es text

labels_elements : (names : List (List ℕ)) (depth : ℕ) (labels : List unit.Label) (text : List Leaf) (es : List Element) (right : List Leaf) → grammar.Labels names depth labels text → After_any names depth es right → Anywhere names depth (labels_before labels es) (text ++ right)
labels_elements names depth labels text es right (grammar.last d label t h) following = λ before. some before (ElementLabel label) es t right (label_element names d before label t h) (following false)
labels_elements names depth labels text es right (grammar.more d label rest left other h k) following =
    let again = labels_elements names d rest other es right k following in
    λ before. subst (λ l. ElementsText names d before (ElementLabel label ∷ labels_before rest es) l) (sym (append_assoc left other right))
    (some before (ElementLabel label) (labels_before rest es) left (other ++ right) (label_element names d before label left h) (again (AfterElement false)))

parts_elements : (names : List (List ℕ)) (depth : ℕ) (c : Bool) (xs : List Part) (text : List Leaf) (es : List Element) (right : List Leaf) → PartsMany names depth c xs text → After_any names depth es right → After_any names depth (parts_before xs es) (text ++ right)
parts_elements names depth c xs text es right (none d) following = following
parts_elements names depth c xs text es right (some d p ys left other one rest) following =
    let again = parts_elements names depth (is_open p) ys other es right rest following in
    λ b. subst (λ l. ElementsText names depth (AfterElement b) (ElementPart p ∷ parts_before ys es) l) (sym (append_assoc left other right))
    (some (AfterElement b) (ElementPart p) (parts_before ys es) left (other ++ right) (second (record { inner = p; is = refl; derives = one })) (again (is_open p)))

collect_labels : (label : unit.Label) (labels : List unit.Label) (es : List Element) (parts : unit.Parts) (following : unit.Groups) → collect es ≡ record { labels = []; parts = parts; groups = following } → collect (labels_before (label ∷ labels) es) ≡ record { labels = label ∷ labels; parts = parts; groups = following }
collect_labels label [] es parts following e = ap (λ (c : Collected). record { labels = label ∷ c.labels; parts = c.parts; groups = c.groups }) e
collect_labels label (l ∷ ls) es parts following e = ap (λ (c : Collected). record { labels = label ∷ c.labels; parts = c.parts; groups = c.groups }) (collect_labels l ls es parts following e)

-- what elements after parts are: none, or ones that begin with labels
data Form : List Element → unit.Groups → Type 0 where
  no_more : Form [] unit.no_groups
  labelled : (es : List Element) (label : unit.Label) (labels : List unit.Label) (parts : unit.Parts) (following : unit.Groups) → collect es ≡ record { labels = label ∷ labels; parts = parts; groups = following } → Form es (unit.groups (label ∷ labels) parts following)

collect_last : (p : Part) (es : List Element) (gs : unit.Groups) → Form es gs → collect (ElementPart p ∷ es) ≡ record { labels = []; parts = with_part p unit.no_parts; groups = gs }
collect_last p es gs no_more = refl
collect_last p es gs (labelled fs label labels parts following e) = ap (λ (c : Collected). before_part p c) e

collect_parts : (p : Part) (xs : List Part) (es : List Element) (gs : unit.Groups) → Form es gs → collect (parts_before (p ∷ xs) es) ≡ record { labels = []; parts = parts_of (p ∷ xs); groups = gs }
collect_parts p [] es gs f = collect_last p es gs f
collect_parts p (q ∷ xs) es gs f = ap (λ (c : Collected). before_part p c) (collect_parts q xs es gs f)

collect_any : (xs : List Part) (es : List Element) (gs : unit.Groups) → Form es gs → (grammar.is_any gs ≡ true → grammar.is_some (parts_of xs) ≡ true) → collect (parts_before xs es) ≡ record { labels = []; parts = parts_of xs; groups = gs }
collect_any [] es gs no_more h = refl
collect_any [] es gs (labelled fs label labels parts following e) h = absurd (let f : false ≡ true = h refl in cc)
collect_any (p ∷ xs) es gs f h = collect_parts p xs es gs f

record Back (names : List (List ℕ)) (depth : ℕ) (gs : unit.Groups) (text : List Leaf) : Type 0 where
  elements : List Element
  derives : Anywhere names depth elements text
  form : Form elements gs

back_form : {names : List (List ℕ)} {depth : ℕ} (xs : List Part) (labels : List unit.Label) (one : List Leaf) (es : List Element) (gs : unit.Groups) → grammar.Labels names depth labels one → collect (parts_before xs es) ≡ record { labels = []; parts = parts_of xs; groups = gs } → Form (labels_before labels (parts_before xs es)) (unit.groups labels (parts_of xs) gs)
back_form xs labels one es gs (grammar.last d label t g) e = labelled _ label [] (parts_of xs) gs (collect_labels label [] (parts_before xs es) (parts_of xs) gs e)
back_form xs labels one es gs (grammar.more d label rest left other g m) e = labelled _ label rest (parts_of xs) gs (collect_labels label rest (parts_before xs es) (parts_of xs) gs e)

back_group : (names : List (List ℕ)) (depth : ℕ) (labels : List unit.Label) (parts : unit.Parts) (gs : unit.Groups) (one text right : List Leaf) → grammar.Labels names depth labels one → grammar.Parts names depth parts text → Back names depth gs right → (grammar.is_any gs ≡ true → grammar.is_some parts ≡ true) → Back names depth (unit.groups labels parts gs) (one ++ (text ++ right))
back_group names depth labels parts gs one text right h k b apart =
    let p = parts_many names depth false parts text k in
    let following = parts_elements names depth false p.0 text b.elements right p.1.1 (λ c. b.derives (AfterElement c)) in
    record {
      elements = labels_before labels (parts_before p.0 b.elements);
      derives = labels_elements names depth labels one (parts_before p.0 b.elements) (text ++ right) h following;
      form = subst (λ (v : unit.Parts). Form (labels_before labels (parts_before p.0 b.elements)) (unit.groups labels v gs)) (sym p.1.0) (back_form p.0 labels one b.elements gs h (collect_any p.0 b.elements gs b.form (λ e. subst (λ (v : unit.Parts). grammar.is_some v ≡ true) p.1.0 (apart e))));
    }

groups_back : (names : List (List ℕ)) (depth : ℕ) (gs : unit.Groups) (text : List Leaf) → grammar.Groups names depth gs text → Back names depth gs text
groups_back names depth gs text (grammar.no_groups d) = record { elements = []; derives = λ before. none before; form = no_more }
groups_back names depth gs text (grammar.last_group d labels parts one t h k) =
    subst (λ l. Back names d (unit.groups labels parts unit.no_groups) (one ++ l)) (append-nil t) (back_group names d labels parts unit.no_groups one t [] h k (record { elements = []; derives = λ before. none before; form = no_more }) (λ e. absurd (cc)))
groups_back names depth gs text (grammar.group d labels parts rest one t right h k s l a) = back_group names d labels parts rest one t right h k (groups_back names d rest right l) (λ e. s)

form_groups : (es : List Element) (gs : unit.Groups) → Form es gs → gs ≡ groups_of es
form_groups es gs no_more = refl
form_groups es gs (labelled fs label labels parts following e) = sym (ap (λ (c : Collected). group_of c.labels c.parts c.groups) e)

some_case : (names : List (List ℕ)) (depth offset : ℕ) → (l : unit.Label) × (right : List Leaf) × Map (λ x. unit.Case x offset) (Closed (expected OperandEnd) punctuator.Colon (Conditional names depth 0)) l right
some_case names depth offset = (unit.Case zero_tree offset, zero_text ++ expected OperandEnd (mark punctuator.Colon 0) ∷ [], record { inner = zero_tree; is = refl; derives = record { inside = zero_text; close = 0; derives = zero_conditional names depth 0; cut = refl } })

some_default : (offset : ℕ) → (l : unit.Label) × (right : List Leaf) × Map (λ (_ : ℕ). unit.Default offset) (One plain (mark_offset punctuator.Colon)) l right
some_default offset = (unit.Default offset, plain (mark punctuator.Colon 0) ∷ [], record { inner = 0; is = refl; derives = mark-one punctuator.Colon plain 0 })

case_begins : (names : List (List ℕ)) (depth : ℕ) (t : Placed) → is_keyword Case t.token ≡ true → Begins marks (CaseText names depth) t
case_begins names depth t e = after_begins (keyword_offset Case) plain (λ t. refl) t t.offset (keyword-some Case t e) (some_case names depth t.offset)

label_begins : (names : List (List ℕ)) (depth : ℕ) (t : Placed) → begins_label t.token ≡ true → Begins marks (grammar.Label names depth) t
label_begins names depth t e = same_begins (text_label names depth) t (by_case (is_keyword Case t.token) refl e)
  where
    by_case : (b : Bool) → is_keyword Case t.token ≡ b → (b || is_keyword Default t.token) ≡ true → Begins marks (Or (CaseText names depth) DefaultText) t
    by_case true f e = same_begins (λ l text h. first h) t (case_begins names depth t f)
    by_case false f e = same_begins (λ l text h. second h) t (after_begins (keyword_offset Default) plain (λ t. refl) t t.offset (keyword-some Default t e) (some_default t.offset))

label_silent : (names : List (List ℕ)) (depth : ℕ) → Silent marks roles (grammar.Label names depth)
label_silent names depth l u more h = silent_of l (u ∷ more) h refl
  where
    silent_of : (l : unit.Label) (text : List Leaf) → grammar.Label names depth l text → text ≡ u ∷ more → u.role ≡ Nothing
    silent_of l text (grammar.case d x t offset colon h) e = let head : plain (keyword_at Case offset) ≡ u = cc in ap (λ (k : Leaf). k.role) (sym head)
    silent_of l text (grammar.default d offset colon) e = let head : plain (keyword_at Default offset) ≡ u = cc in ap (λ (k : Leaf). k.role) (sym head)

roled-label : (names : List (List ℕ)) (inner : Parsers) → AllFirm names inner → (depth : ℕ) → Firm anything (grammar.Label names depth) (λ _. anything) (read_label inner depth)
roled-label names inner all depth =
    roled-same anything (grammar.Label names depth) (read_label inner depth) (λ t h. h) (text_label names depth) (label_text names depth) (λ tokens. refl)
    (roled-choice (is_keyword Case)
    record {
      first_begins = λ l text b. (plain (keyword_at Case b.first), b.right, b.cut ∙ ap (λ t. t ++ b.right) (one-keyword Case plain b.first b.left b.is_first), refl);
      second_begins = λ l text rest b stops. subst (λ t. Stops (λ t. not (is_keyword Case t.token)) (plains marks t ++ rest)) (sym (b.cut ∙ ap (λ t. t ++ b.right) (one-keyword Default plain b.first b.left b.is_first))) refl;
    }
    (λ t e. case_begins names depth t e) (after_silent (keyword_offset Case) plain (λ t. refl))
    (roled-opened (keyword_offset Case) Nothing plain (λ t. refl) (λ t. refl) (keyword_at Case 0) 0 (keyword-self Case 0)
    (some_case names depth)
    (λ offset t e within. firm-map (λ x. unit.Case x offset) (λ _. anything) (λ x. refl) (roled-closed punctuator.Colon OperandEnd (expected OperandEnd) (λ t. refl) (λ t. refl) (all.conditional depth 0) (λ x close. refl))))
    (roled-opened (keyword_offset Default) Nothing plain (λ t. refl) (λ t. refl) (keyword_at Default 0) 0 (keyword-self Default 0)
    some_default
    (λ offset t e within. firm-map (λ (_ : ℕ). unit.Default offset) (λ _. anything) (λ x. refl) (roled-mark anything punctuator.Colon Nothing plain (λ t. refl) (λ t. refl)))))

roled-element : (names : List (List ℕ)) (inner : Parsers) → AllFirm names inner → (statements : Statements) (depth : ℕ) → StatementsFirm names statements depth → (before : Before) → Firm anything (ElementText names depth before) stop_element (read_element names inner statements depth (had_label before))
roled-element names inner all statements depth is AtStart = firm-map (λ label. ElementLabel label) stop_element (λ x. refl) (roled-label names inner all depth)
roled-element names inner all statements depth is (AfterElement b) =
    roled-choice begins_label
    record {
      first_begins = λ e text m. label_first names depth m.inner text m.derives;
      second_begins = λ e text rest m stops. let f = part_first names depth m.inner text m.derives in subst (λ l. Stops (λ t. not (begins_label t.token)) (plains marks l ++ rest)) (sym f.2) (rw f.4 refl);
    }
    (λ t e. map_begins (λ label. ElementLabel label) t (label_begins names depth t e)) (map_silent (λ label. ElementLabel label) (label_silent names depth))
    (firm-map (λ label. ElementLabel label) stop_element (λ x. refl) (roled-label names inner all depth))
    (firm-map (λ part. ElementPart part) stop_element (λ x. refl) (roled-part names inner all statements depth is))

-- with the `}` after them
element_silent : (names : List (List ℕ)) (depth : ℕ) (before : Before) → Silent marks roles (ElementText names depth before)
element_silent names depth AtStart x u more m = label_silent names depth m.inner u more m.derives
element_silent names depth (AfterElement b) x u more (first m) = label_silent names depth m.inner u more m.derives
element_silent names depth (AfterElement b) x u more (second m) = part_silent names depth m.inner u more m.derives

element_roles : (names : List (List ℕ)) (inner : Parsers) → AllFirm names inner → (statements : Statements) (depth : ℕ) → StatementsFirm names statements depth
    → ItemRoles marks roles (λ before. elements_start (had_label before)) (ElementText names depth) next_before (λ _. quiet) (λ _. Nothing) (Unit {0}) (λ before. read_element names inner statements depth (had_label before))
element_roles names inner all statements depth is =
    record {
      enters = λ before t more kind s e. (tt, silent_wrong (roled-element names inner all statements depth is before) (element_silent names depth before) t more kind refl e);
      loose = λ h before. refl;
      begins = λ before u n. inl (silent_next (element_silent names depth before) u n);
      ends = λ before x text one. inl refl;
    }

pub roled-groups : (names : List (List ℕ)) (inner : Parsers) → AllFirm names inner → (statements : Statements) (depth : ℕ) → StatementsFirm names statements depth
    → Firm anything (Closed plain punctuator.RightBrace (grammar.Groups names depth)) (λ _. anything) (Rattle.c_parse_laws.specs.Parsers.before (read_groups names inner statements depth) (Rattle.c_parse_laws.specs.Parsers.token Nothing plain (mark_offset punctuator.RightBrace)))
roled-groups names inner all statements depth is =
    roled-same anything (Closed plain punctuator.RightBrace (grammar.Groups names depth)) (Rattle.c_parse_laws.specs.Parsers.before (read_groups names inner statements depth) (Rattle.c_parse_laws.specs.Parsers.token Nothing plain (mark_offset punctuator.RightBrace))) (λ t h. h) to from same
    (firm-map groups_of (λ _. anything) (λ x. refl)
    (roled-closed_by {stop = Rattle.exact_read.specs.Grammar.stop_many (λ before. elements_start (had_label before)) ends_before next_before AtStart} punctuator.RightBrace Nothing plain (λ t. refl) (λ t. refl) (λ es. inl refl) (λ h. refl)
    (roled-same anything (ElementsText names depth AtStart) (read_many elements_start (read_element names inner statements depth) (λ _ _. true) false) (λ t h. or_right (elements_start false t) true refl) (λ es text h. h) (λ es text h. h)
    (many-context_same elements_start (read_element names inner statements depth) (λ _ _. true) had_label next_before (λ d e. refl) AtStart)
    (roled-many (element_items names depth) (element_roles names inner all statements depth is) (λ before. roled-enter (elements_start (had_label before)) (roled-element names inner all statements depth is before)) AtStart))
    closes))
  where
    by_before : (before : Before) (close : ℕ) → IsTrue (ends_before before (mark punctuator.RightBrace close) && not (elements_start (had_label before) (mark punctuator.RightBrace close)))
    by_before AtStart close = refl
    by_before (AfterElement true) close = refl
    by_before (AfterElement false) close = refl

    closes : (es : List Element) (close : ℕ) → IsTrue (Rattle.exact_read.specs.Grammar.stop_many (λ before. elements_start (had_label before)) ends_before next_before AtStart es (mark punctuator.RightBrace close))
    closes es close = by_before (context_after next_before AtStart es) close

    to : (gs : unit.Groups) (text : List Leaf) → Map groups_of (Closed plain punctuator.RightBrace (ElementsText names depth AtStart)) gs text → Closed plain punctuator.RightBrace (grammar.Groups names depth) gs text
    to gs text m = let c = m.derives in
        record { inside = c.inside; close = c.close; cut = c.cut; derives = subst (λ (v : unit.Groups). grammar.Groups names depth v c.inside) (sym m.is) (elements_groups names depth AtStart m.inner c.inside c.derives refl) }

    from : (gs : unit.Groups) (text : List Leaf) → Closed plain punctuator.RightBrace (grammar.Groups names depth) gs text → Map groups_of (Closed plain punctuator.RightBrace (ElementsText names depth AtStart)) gs text
    from gs text c = let b = groups_back names depth gs c.inside c.derives in
        record { inner = b.elements; is = form_groups b.elements gs b.form; derives = record { inside = c.inside; close = c.close; cut = c.cut; derives = b.derives AtStart } }

    by_close : (es : List Element) (o : Rattle.exact_read.specs.Reading.Outcome Placed Rattle.c_parse_spec.specs.declared.Role.Role ℕ) → bind {Y = unit.Groups} o (λ _ after. Ok (groups_of es, after)) ≡ bind {X = List Element} (bind o (λ _ after. Ok (es, after))) (λ xs r. Ok (groups_of xs, r))
    by_close es (Ok (offset, rest)) = refl
    by_close es (Rattle.std.proofs.Common.Err fault) = refl

    by_elements : (o : Rattle.exact_read.specs.Reading.Outcome Placed Rattle.c_parse_spec.specs.declared.Role.Role (List Element))
        → bind {Y = unit.Groups} (bind {Y = unit.Groups} o (λ xs r. Ok (groups_of xs, r))) (λ x rest. bind (Rattle.c_parse_laws.specs.Parsers.token Nothing plain (mark_offset punctuator.RightBrace) rest) (λ _ after. Ok (x, after)))
        ≡ bind {X = List Element} (bind {Y = List Element} o (λ x rest. bind (Rattle.c_parse_laws.specs.Parsers.token Nothing plain (mark_offset punctuator.RightBrace) rest) (λ _ after. Ok (x, after)))) (λ xs r. Ok (groups_of xs, r))
    by_elements (Ok (es, rest)) = by_close es (Rattle.c_parse_laws.specs.Parsers.token Nothing plain (mark_offset punctuator.RightBrace) rest)
    by_elements (Rattle.std.proofs.Common.Err fault) = refl

    same : (tokens : List Placed) → Rattle.c_parse_laws.specs.Parsers.before (read_groups names inner statements depth) (Rattle.c_parse_laws.specs.Parsers.token Nothing plain (mark_offset punctuator.RightBrace)) tokens ≡ Rattle.exact_read.specs.Grammar.read_map groups_of (Rattle.c_parse_laws.specs.Parsers.before (read_many elements_start (read_element names inner statements depth) (λ _ _. true) false) (Rattle.c_parse_laws.specs.Parsers.token Nothing plain (mark_offset punctuator.RightBrace))) tokens
    same tokens = by_elements (read_many elements_start (read_element names inner statements depth) (λ _ _. true) false tokens)
