-- Lines are read exactly.
use Rattle.std.specs.Prelude.{codes, decimal, nat_lt}
use Rattle.std.specs.List.{list_all}
use Rattle.std.proofs.lemmas.Bool.Decides.{nat_tests}
use Rattle.std.proofs.Common.{◌≡◌, ℕ, zero, suc, Bool, true, false, List, [], ◌∷◌, ◌++◌, ◌&&◌, refl, ap, sym, ◌∙◌, subst, append_assoc, IsTrue, arith}
use Rattle.exact_read.specs.Grammar.{anything, read_nothing, Nothing, nothing}
use Rattle.exact_read.proofs.Parts.{stops_anything, exact-nothing}
use Rattle.proof_tree_spec.specs.declared.Counts.{Counts}
use Rattle.proof_tree_spec.specs.Proofs.{BinaryPoint, SourcePoint, Points}
use Rattle.clause_check_spec.specs.Log.{Step}
use Rattle.cert_text_spec.specs.declared.Symbol.{Symbol}
use Rattle.cert_text_spec.specs.Terms.{term_text}
use Rattle.cert_text_spec.specs.Points.{IsNumber, binary_text, source_text, ArePoints}
use Rattle.cert_text_spec.specs.Lines.{Line, Header, Function, InlineBinary, InlineSource, Leaf, Case, RestrictBinary, RestrictSource, Split, Call, Relation, Log, LogStep, End, AreCounts, number_line, points_text, counts_text, step_text, line_text, IsLine}
use Rattle.cert_text_spec.specs.Certificates.{Expected, AHeader, TheParts, BinaryInlines, SourceInlines, AProof, ARelation, ALog, AStep, is_rule, root_room, can_stand, Fits}
use Rattle.cert_text_laws.specs.Readers.{Reads, Word, here as at_front, there as further, not_digit}
use Rattle.cert_text_laws.specs.Parts.{read_ended, read_number, read_points, read_counts, points_of, counts_of}
use Rattle.cert_text_laws.specs.Lines.{Keyword, KHeader, KFunction, KInlineBinary, KInlineSource, KLeaf, KCase, KRestrictBinary, KRestrictSource, KSplit, KCall, KRelation, KLog, KStep, KEnd, keyword_text, rules, keywords_at, entries, line_feed, space, read_last_number, read_fields, read_line}
use Rattle.cert_text_laws.proofs.Bytes.{reads-then, reads-as, reads-same}
use Rattle.cert_text_laws.proofs.Ends.{prefix_free, reads-listed, Closed, Both, reads-ended, reads-both}
use Rattle.cert_text_laws.proofs.Names.{Name, reads-name}
use Rattle.cert_text_laws.proofs.Points.{reads-number, BinaryText, reads-binary, SourceText, reads-source}
use Rattle.cert_text_laws.proofs.Steps.{StepText, reads-step}
use Rattle.cert_text_laws.proofs.Symbols.{TermText, reads-term}
use Rattle.cert_text_laws.proofs.Items.{ItemText}

-- ---- a line after its keyword

abbrev pub keyword_of : Line → Keyword
keyword_of Header = KHeader
keyword_of (Function name stack) = KFunction
keyword_of (InlineBinary p) = KInlineBinary
keyword_of (InlineSource p) = KInlineSource
keyword_of (Leaf n) = KLeaf
keyword_of (Case t) = KCase
keyword_of (RestrictBinary p n) = KRestrictBinary
keyword_of (RestrictSource p n) = KRestrictSource
keyword_of (Split p enter step n) = KSplit
keyword_of (Call p counts before n) = KCall
keyword_of (Relation t) = KRelation
keyword_of (Log n) = KLog
keyword_of (LogStep step) = KStep
keyword_of End = KEnd

abbrev pub fields_text : Line → List ℕ
fields_text Header = []
fields_text (Function name stack) = name ++ (codes " stack " ++ number_line stack)
fields_text (InlineBinary p) = binary_text p ++ codes "\n"
fields_text (InlineSource p) = source_text p ++ codes "\n"
fields_text (Leaf n) = number_line n
fields_text (Case t) = term_text t ++ codes "\n"
fields_text (RestrictBinary p n) = binary_text p ++ (codes " " ++ number_line n)
fields_text (RestrictSource p n) = source_text p ++ (codes " " ++ number_line n)
fields_text (Split p enter step n) = points_text p ++ (counts_text enter ++ (counts_text step ++ number_line n))
fields_text (Call p counts before n) = points_text p ++ (counts_text counts ++ (decimal before ++ (codes " " ++ number_line n)))
fields_text (Relation t) = term_text t ++ codes "\n"
fields_text (Log n) = number_line n
fields_text (LogStep step) = step_text step
fields_text End = []

line_parts : (line : Line) → line_text line ≡ keyword_text (keyword_of line) ++ fields_text line
line_parts Header = refl
line_parts (Function name stack) = refl
line_parts (InlineBinary p) = refl
line_parts (InlineSource p) = refl
line_parts (Leaf n) = refl
line_parts (Case t) = refl
line_parts (RestrictBinary p n) = refl
line_parts (RestrictSource p n) = refl
line_parts (Split p enter step n) = refl
line_parts (Call p counts before n) = refl
line_parts (Relation t) = refl
line_parts (Log n) = refl
line_parts (LogStep step) = refl
line_parts End = refl

pub record FieldsText (k : Keyword) (line : Line) (text : List ℕ) : Type 0 where
  pub keyword : keyword_of line ≡ k
  pub is_line : IsLine line
  pub is : text ≡ fields_text line

-- ---- parts of lines

reads-nothing : (line : Line) → Reads (Nothing line) anything (read_nothing line)
reads-nothing line = record { exact = exact-nothing anything line; sample = line; sample_text = []; derives = nothing }

record NumberText (end : List ℕ) (n : ℕ) (text : List ℕ) : Type 0 where
  below : IsNumber n
  is : text ≡ decimal n ++ end

number_read : (c : ℕ) (end : List ℕ) → IsTrue (not_digit c) → Reads (NumberText (c ∷ end)) anything (read_ended read_number (c ∷ end))
number_read c end apart =
    reads-same (NumberText (c ∷ end)) (λ n text d. record { below = d.derives.below; is = d.cut ∙ ap (λ t. t ++ (c ∷ end)) d.derives.is })
    (λ n text d. record { inside = decimal n; derives = record { from = omega arith; below = d.below; is = refl }; cut = d.is })
    (reads-ended c end apart reads-number)

last_number : Reads (NumberText line_feed) anything read_last_number
last_number = number_read 10 [] refl

record PointsText (p : Points) (text : List ℕ) : Type 0 where
  are : ArePoints p
  is : text ≡ points_text p

points_read : Reads PointsText anything read_points
points_read =
    reads-as points_of PointsText
    (λ p text d. record {
      are = record { binary = d.first.is_point; source = d.second.is_point };
      is = d.cut ∙ ap (λ t. t ++ d.right) d.first.is ∙ append_assoc (binary_text p.0) (codes " ") d.right ∙ ap (λ t. binary_text p.0 ++ (codes " " ++ t)) d.second.is;
    })
    (λ p text t. (
      (p.binary, p.source),
      refl,
      record {
        left = binary_text p.binary ++ codes " ";
        right = source_text p.source ++ codes " ";
        first = record { is_point = t.are.binary; is = refl };
        second = record { is_point = t.are.source; is = refl };
        cut = t.is ∙ sym (append_assoc (binary_text p.binary) (codes " ") (source_text p.source ++ codes " "));
      },
    ))
    (reads-both (reads-binary space refl) (reads-source 32 [] refl refl))

record CountsText (c : Counts) (text : List ℕ) : Type 0 where
  are : AreCounts c
  is : text ≡ counts_text c

spaced_number : Reads (NumberText space) anything (read_ended read_number space)
spaced_number = number_read 32 [] refl

counts_read : Reads CountsText anything read_counts
counts_read =
    reads-as counts_of CountsText
    (λ p text d. record {
      are = record { binary = d.first.below; source = d.second.below };
      is = d.cut ∙ ap (λ t. t ++ d.right) d.first.is ∙ append_assoc (decimal p.0) (codes " ") d.right ∙ ap (λ t. decimal p.0 ++ (codes " " ++ t)) d.second.is;
    })
    (λ c text t. (
      (c.binary, c.source),
      refl,
      record {
        left = decimal c.binary ++ codes " ";
        right = decimal c.source ++ codes " ";
        first = record { below = t.are.binary; is = refl };
        second = record { below = t.are.source; is = refl };
        cut = t.is ∙ sym (append_assoc (decimal c.binary) (codes " ") (decimal c.source ++ codes " "));
      },
    ))
    (reads-both spaced_number spaced_number)

-- ---- lines of each keyword

header_back : (line : Line) (text : List ℕ) → FieldsText KHeader line text → Nothing Header line text
header_back Header text f = subst (Nothing Header Header) (sym f.is) nothing
header_back line text f = absurd (cc)

header_to : (line : Line) (text : List ℕ) → Nothing Header line text → FieldsText KHeader line text
header_to line text nothing = record { keyword = refl; is_line = tt; is = refl }

end_back : (line : Line) (text : List ℕ) → FieldsText KEnd line text → Nothing End line text
end_back End text f = subst (Nothing End End) (sym f.is) nothing
end_back line text f = absurd (cc)

end_to : (line : Line) (text : List ℕ) → Nothing End line text → FieldsText KEnd line text
end_to line text nothing = record { keyword = refl; is_line = tt; is = refl }

function_back : (line : Line) (text : List ℕ) → FieldsText KFunction line text → (p : List ℕ × ℕ) × (line ≡ Function p.0 p.1) × Both (Closed Name (codes " stack ")) (NumberText line_feed) p text
function_back (Function name stack) text f = (
  (name, stack),
  refl,
  record {
    left = name ++ codes " stack ";
    right = number_line stack;
    first = record { inside = name; derives = record { named = f.is_line.0; is = refl }; cut = refl };
    second = record { below = f.is_line.1; is = refl };
    cut = f.is ∙ sym (append_assoc name (codes " stack ") (number_line stack));
  },
)
function_back line text f = absurd (cc)

function_read : Reads (FieldsText KFunction) anything (read_fields KFunction)
function_read =
    reads-as (λ p. Function p.0 p.1) (FieldsText KFunction)
    (λ p text d. record {
      keyword = refl;
      is_line = (d.first.derives.named, d.second.below);
      is = d.cut ∙ ap (λ t. t ++ d.right) (d.first.cut ∙ ap (λ t. t ++ codes " stack ") d.first.derives.is) ∙ append_assoc p.0 (codes " stack ") d.right ∙ ap (λ t. p.0 ++ (codes " stack " ++ t)) d.second.is;
    })
    function_back (reads-both (reads-ended 32 (codes "stack ") refl reads-name) last_number)

inlinebinary_back : (line : Line) (text : List ℕ) → FieldsText KInlineBinary line text → (p : BinaryPoint) × (line ≡ InlineBinary p) × BinaryText line_feed p text
inlinebinary_back (InlineBinary p) text f = (p, refl, record { is_point = f.is_line; is = f.is })
inlinebinary_back line text f = absurd (cc)

inlinebinary_read : Reads (FieldsText KInlineBinary) anything (read_fields KInlineBinary)
inlinebinary_read = reads-as InlineBinary (FieldsText KInlineBinary) (λ p text d. record { keyword = refl; is_line = d.is_point; is = d.is }) inlinebinary_back (reads-binary line_feed refl)

inlinesource_back : (line : Line) (text : List ℕ) → FieldsText KInlineSource line text → (p : SourcePoint) × (line ≡ InlineSource p) × SourceText line_feed p text
inlinesource_back (InlineSource p) text f = (p, refl, record { is_point = f.is_line; is = f.is })
inlinesource_back line text f = absurd (cc)

inlinesource_read : Reads (FieldsText KInlineSource) anything (read_fields KInlineSource)
inlinesource_read = reads-as InlineSource (FieldsText KInlineSource) (λ p text d. record { keyword = refl; is_line = d.is_point; is = d.is }) inlinesource_back (reads-source 10 [] refl refl)

leaf_back : (line : Line) (text : List ℕ) → FieldsText KLeaf line text → (n : ℕ) × (line ≡ Leaf n) × NumberText line_feed n text
leaf_back (Leaf n) text f = (n, refl, record { below = f.is_line; is = f.is })
leaf_back line text f = absurd (cc)

leaf_read : Reads (FieldsText KLeaf) anything (read_fields KLeaf)
leaf_read = reads-as Leaf (FieldsText KLeaf) (λ n text d. record { keyword = refl; is_line = d.below; is = d.is }) leaf_back last_number

log_back : (line : Line) (text : List ℕ) → FieldsText KLog line text → (n : ℕ) × (line ≡ Log n) × NumberText line_feed n text
log_back (Log n) text f = (n, refl, record { below = f.is_line; is = f.is })
log_back line text f = absurd (cc)

log_read : Reads (FieldsText KLog) anything (read_fields KLog)
log_read = reads-as Log (FieldsText KLog) (λ n text d. record { keyword = refl; is_line = d.below; is = d.is }) log_back last_number

case_back : (line : Line) (text : List ℕ) → FieldsText KCase line text → (t : List Symbol) × (line ≡ Case t) × Closed TermText line_feed t text
case_back (Case t) text f = (t, refl, record { inside = term_text t; derives = record { is_term = f.is_line; is = refl }; cut = f.is })
case_back line text f = absurd (cc)

case_read : Reads (FieldsText KCase) anything (read_fields KCase)
case_read = reads-as Case (FieldsText KCase) (λ t text d. record { keyword = refl; is_line = d.derives.is_term; is = d.cut ∙ ap (λ s. s ++ line_feed) d.derives.is }) case_back (reads-ended 10 [] refl reads-term)

relation_back : (line : Line) (text : List ℕ) → FieldsText KRelation line text → (t : List Symbol) × (line ≡ Relation t) × Closed TermText line_feed t text
relation_back (Relation t) text f = (t, refl, record { inside = term_text t; derives = record { is_term = f.is_line; is = refl }; cut = f.is })
relation_back line text f = absurd (cc)

relation_read : Reads (FieldsText KRelation) anything (read_fields KRelation)
relation_read = reads-as Relation (FieldsText KRelation) (λ t text d. record { keyword = refl; is_line = d.derives.is_term; is = d.cut ∙ ap (λ s. s ++ line_feed) d.derives.is }) relation_back (reads-ended 10 [] refl reads-term)

restrictbinary_back : (line : Line) (text : List ℕ) → FieldsText KRestrictBinary line text → (p : BinaryPoint × ℕ) × (line ≡ RestrictBinary p.0 p.1) × Both (BinaryText space) (NumberText line_feed) p text
restrictbinary_back (RestrictBinary p n) text f = (
  (p, n),
  refl,
  record {
    left = binary_text p ++ space;
    right = number_line n;
    first = record { is_point = f.is_line.0; is = refl };
    second = record { below = f.is_line.1; is = refl };
    cut = f.is ∙ sym (append_assoc (binary_text p) space (number_line n));
  },
)
restrictbinary_back line text f = absurd (cc)

restrictbinary_read : Reads (FieldsText KRestrictBinary) anything (read_fields KRestrictBinary)
restrictbinary_read =
    reads-as (λ p. RestrictBinary p.0 p.1) (FieldsText KRestrictBinary)
    (λ p text d. record {
      keyword = refl;
      is_line = (d.first.is_point, d.second.below);
      is = d.cut ∙ ap (λ t. t ++ d.right) d.first.is ∙ append_assoc (binary_text p.0) space d.right ∙ ap (λ t. binary_text p.0 ++ (space ++ t)) d.second.is;
    })
    restrictbinary_back (reads-both (reads-binary space refl) last_number)

restrictsource_back : (line : Line) (text : List ℕ) → FieldsText KRestrictSource line text → (p : SourcePoint × ℕ) × (line ≡ RestrictSource p.0 p.1) × Both (SourceText space) (NumberText line_feed) p text
restrictsource_back (RestrictSource p n) text f = (
  (p, n),
  refl,
  record {
    left = source_text p ++ space;
    right = number_line n;
    first = record { is_point = f.is_line.0; is = refl };
    second = record { below = f.is_line.1; is = refl };
    cut = f.is ∙ sym (append_assoc (source_text p) space (number_line n));
  },
)
restrictsource_back line text f = absurd (cc)

restrictsource_read : Reads (FieldsText KRestrictSource) anything (read_fields KRestrictSource)
restrictsource_read =
    reads-as (λ p. RestrictSource p.0 p.1) (FieldsText KRestrictSource)
    (λ p text d. record {
      keyword = refl;
      is_line = (d.first.is_point, d.second.below);
      is = d.cut ∙ ap (λ t. t ++ d.right) d.first.is ∙ append_assoc (source_text p.0) space d.right ∙ ap (λ t. source_text p.0 ++ (space ++ t)) d.second.is;
    })
    restrictsource_back (reads-both (reads-source 32 [] refl refl) last_number)

split_back : (line : Line) (text : List ℕ) → FieldsText KSplit line text → (p : Points × (Counts × (Counts × ℕ))) × (line ≡ Split p.0 p.1.0 p.1.1.0 p.1.1.1) × Both PointsText (Both CountsText (Both CountsText (NumberText line_feed))) p text
split_back (Split p enter step n) text f = (
  (p, (enter, (step, n))),
  refl,
  record {
    left = points_text p;
    right = counts_text enter ++ (counts_text step ++ number_line n);
    first = record { are = f.is_line.0; is = refl };
    second = record {
      left = counts_text enter;
      right = counts_text step ++ number_line n;
      first = record { are = f.is_line.1; is = refl };
      second = record { left = counts_text step; right = number_line n; first = record { are = f.is_line.2; is = refl }; second = record { below = f.is_line.3; is = refl }; cut = refl };
      cut = refl;
    };
    cut = f.is;
  },
)
split_back line text f = absurd (cc)

split_read : Reads (FieldsText KSplit) anything (read_fields KSplit)
split_read =
    reads-as (λ p. Split p.0 p.1.0 p.1.1.0 p.1.1.1) (FieldsText KSplit)
    (λ p text d. record {
      keyword = refl;
      is_line = (d.first.are, d.second.first.are, d.second.second.first.are, d.second.second.second.below);
      is = d.cut ∙ ap (λ t. t ++ d.right) d.first.is
          ∙ ap (λ t. points_text p.0 ++ t) (d.second.cut ∙ ap (λ t. t ++ d.second.right) d.second.first.is
          ∙ ap (λ t. counts_text p.1.0 ++ t) (d.second.second.cut ∙ ap (λ t. t ++ d.second.second.right) d.second.second.first.is ∙ ap (λ t. counts_text p.1.1.0 ++ t) d.second.second.second.is));
    })
    split_back (reads-both points_read (reads-both counts_read (reads-both counts_read last_number)))

call_back : (line : Line) (text : List ℕ) → FieldsText KCall line text → (p : Points × (Counts × (ℕ × ℕ))) × (line ≡ Call p.0 p.1.0 p.1.1.0 p.1.1.1) × Both PointsText (Both CountsText (Both (NumberText space) (NumberText line_feed))) p text
call_back (Call p counts before n) text f = (
  (p, (counts, (before, n))),
  refl,
  record {
    left = points_text p;
    right = counts_text counts ++ (decimal before ++ (codes " " ++ number_line n));
    first = record { are = f.is_line.0; is = refl };
    second = record {
      left = counts_text counts;
      right = decimal before ++ (codes " " ++ number_line n);
      first = record { are = f.is_line.1; is = refl };
      second = record { left = decimal before ++ space; right = number_line n; first = record { below = f.is_line.2; is = refl }; second = record { below = f.is_line.3; is = refl }; cut = sym (append_assoc (decimal before) space (number_line n)) };
      cut = refl;
    };
    cut = f.is;
  },
)
call_back line text f = absurd (cc)

call_read : Reads (FieldsText KCall) anything (read_fields KCall)
call_read =
    reads-as (λ p. Call p.0 p.1.0 p.1.1.0 p.1.1.1) (FieldsText KCall)
    (λ p text d. record {
      keyword = refl;
      is_line = (d.first.are, d.second.first.are, d.second.second.first.below, d.second.second.second.below);
      is = d.cut ∙ ap (λ t. t ++ d.right) d.first.is
          ∙ ap (λ t. points_text p.0 ++ t) (d.second.cut ∙ ap (λ t. t ++ d.second.right) d.second.first.is
          ∙ ap (λ t. counts_text p.1.0 ++ t) (d.second.second.cut ∙ ap (λ t. t ++ d.second.second.right) d.second.second.first.is
          ∙ append_assoc (decimal p.1.1.0) space d.second.second.right ∙ ap (λ t. decimal p.1.1.0 ++ (space ++ t)) d.second.second.second.is));
    })
    call_back (reads-both points_read (reads-both counts_read (reads-both spaced_number last_number)))

step_back : (line : Line) (text : List ℕ) → FieldsText KStep line text → (s : Step) × (line ≡ LogStep s) × StepText s text
step_back (LogStep s) text f = (s, refl, record { is_step = f.is_line; is = f.is })
step_back line text f = absurd (cc)

step_read : Reads (FieldsText KStep) anything (read_fields KStep)
step_read = reads-as LogStep (FieldsText KStep) (λ s text d. record { keyword = refl; is_line = d.is_step; is = d.is }) step_back reads-step

fields_read : (k : Keyword) → Reads (FieldsText k) anything (read_fields k)
fields_read KHeader = reads-same (FieldsText KHeader) header_to header_back (reads-nothing Header)
fields_read KFunction = function_read
fields_read KInlineBinary = inlinebinary_read
fields_read KInlineSource = inlinesource_read
fields_read KLeaf = leaf_read
fields_read KCase = case_read
fields_read KRestrictBinary = restrictbinary_read
fields_read KRestrictSource = restrictsource_read
fields_read KSplit = split_read
fields_read KCall = call_read
fields_read KRelation = relation_read
fields_read KLog = log_read
fields_read KStep = step_read
fields_read KEnd = reads-same (FieldsText KEnd) end_to end_back (reads-nothing End)

-- ---- which keyword can occur where

data In (k : Keyword) : List Keyword → Type 0 where
  here : (rest : List Keyword) → In k (k ∷ rest)
  there : (first : Keyword) (rest : List Keyword) → In k rest → In k (first ∷ rest)

in_entries : (k : Keyword) (keywords : List Keyword) → In k keywords → Word k (keyword_text k) (entries keywords)
in_entries k keywords (here rest) = at_front (entries rest)
in_entries k keywords (there first rest i) = further (keyword_text first, first) (entries rest) (in_entries k rest i)

record OfEntries (k : Keyword) (text : List ℕ) (keywords : List Keyword) : Type 0 where
  listed : In k keywords
  is : text ≡ keyword_text k

of_entries : (k : Keyword) (text : List ℕ) (keywords : List Keyword) → Word k text (entries keywords) → OfEntries k text keywords
of_entries k text [] w = absurd (elim w [ ])
of_entries k text (first ∷ keywords) (at_front rest) = record { listed = here keywords; is = refl }
of_entries k text (first ∷ keywords) (further entry rest w) = let o = of_entries k text keywords w in record { listed = there first keywords o.listed; is = o.is }

passes : (test : Keyword → Bool) (k : Keyword) (keywords : List Keyword) → list_all test keywords ≡ true → In k keywords → test k ≡ true
passes test k keywords e (here rest) = first_true (test k) (list_all test rest) e
  where
    first_true : (a b : Bool) → (a && b) ≡ true → a ≡ true
    first_true true b e = refl
    first_true false b e = e
passes test k keywords e (there first rest i) = passes test k rest (second_true (test first) (list_all test rest) e) i
  where
    second_true : (a b : Bool) → (a && b) ≡ true → b ≡ true
    second_true true b e = e
    second_true false b e = absurd (cc)

rule_allowed : Keyword → (room : ℕ) → Bool
rule_allowed KLeaf room = true
rule_allowed KCase room = nat_lt 0 room
rule_allowed KRestrictBinary room = nat_lt 0 room
rule_allowed KRestrictSource room = nat_lt 0 room
rule_allowed KSplit room = nat_lt 0 room
rule_allowed KCall room = nat_lt 0 room
rule_allowed k room = false

binary_allowed : Keyword → Bool
binary_allowed KInlineBinary = true
binary_allowed KInlineSource = true
binary_allowed k = rule_allowed k root_room

source_allowed : Keyword → Bool
source_allowed KInlineSource = true
source_allowed k = rule_allowed k root_room

part_allowed : Keyword → Bool
part_allowed KFunction = true
part_allowed KEnd = true
part_allowed k = false

only : Keyword → Keyword → Bool
only KHeader KHeader = true
only KRelation KRelation = true
only KLog KLog = true
only KStep KStep = true
only k l = false

allowed : Expected → Keyword → Bool
allowed AHeader k = only KHeader k
allowed TheParts k = part_allowed k
allowed BinaryInlines k = binary_allowed k
allowed SourceInlines k = source_allowed k
allowed (AProof room) k = rule_allowed k room
allowed ARelation k = only KRelation k
allowed ALog k = only KLog k
allowed AStep k = only KStep k

same_rule : (line : Line) (room : ℕ) → is_rule line room ≡ rule_allowed (keyword_of line) room
unfolding rule_allowed
same_rule (Leaf n) room = refl
same_rule line room = refl

same_allowed : (e : Expected) (line : Line) → can_stand e line ≡ allowed e (keyword_of line)
unfolding rule_allowed binary_allowed source_allowed part_allowed only allowed
same_allowed AHeader Header = refl
same_allowed AHeader line = refl
same_allowed TheParts End = refl
same_allowed TheParts line = refl
same_allowed BinaryInlines Header = refl
same_allowed BinaryInlines line = refl
same_allowed SourceInlines Header = refl
same_allowed SourceInlines line = refl
same_allowed (AProof room) Header = refl
same_allowed (AProof room) line = refl
same_allowed ARelation Header = refl
same_allowed ARelation line = refl
same_allowed ALog Header = refl
same_allowed ALog line = refl
same_allowed AStep Header = refl
same_allowed AStep line = refl

positive : (n : ℕ) → nat_lt 0 (suc n) ≡ true
positive n = grind (arith, nat_tests)

all_allowed : (e : Expected) → list_all (allowed e) (keywords_at e) ≡ true
unfolding rule_allowed binary_allowed source_allowed part_allowed only allowed
all_allowed AHeader = refl
all_allowed TheParts = refl
all_allowed BinaryInlines = refl
all_allowed SourceInlines = refl
all_allowed (AProof zero) = refl
all_allowed (AProof (suc room)) = rw (positive room) refl
all_allowed ARelation = refl
all_allowed ALog = refl
all_allowed AStep = refl

rule_listed : (room : ℕ) (k : Keyword) → rule_allowed k room ≡ true → In k (rules room)
unfolding rule_allowed
rule_listed zero KLeaf e = here _
rule_listed zero k e = absurd (cc)
rule_listed (suc room) KLeaf e = here _
rule_listed (suc room) KCase e = there _ _ (here _)
rule_listed (suc room) KRestrictBinary e = there _ _ (there _ _ (here _))
rule_listed (suc room) KRestrictSource e = there _ _ (there _ _ (there _ _ (here _)))
rule_listed (suc room) KSplit e = there _ _ (there _ _ (there _ _ (there _ _ (here _))))
rule_listed (suc room) KCall e = there _ _ (there _ _ (there _ _ (there _ _ (there _ _ (here _)))))
rule_listed (suc room) k e = absurd (cc)

listed : (e : Expected) (k : Keyword) → allowed e k ≡ true → In k (keywords_at e)
unfolding rule_allowed binary_allowed source_allowed part_allowed only allowed
listed AHeader KHeader h = here _
listed AHeader k h = absurd (cc)
listed TheParts KFunction h = here _
listed TheParts KEnd h = there _ _ (here _)
listed TheParts k h = absurd (cc)
listed BinaryInlines KInlineBinary h = here _
listed BinaryInlines KInlineSource h = there _ _ (here _)
listed BinaryInlines k h = there _ _ (there _ _ (rule_listed root_room k h))
listed SourceInlines KInlineSource h = here _
listed SourceInlines k h = there _ _ (rule_listed root_room k h)
listed (AProof room) k h = rule_listed room k h
listed ARelation KRelation h = here _
listed ARelation k h = absurd (cc)
listed ALog KLog h = here _
listed ALog k h = absurd (cc)
listed AStep KStep h = here _
listed AStep k h = absurd (cc)

free : (e : Expected) → prefix_free (entries (keywords_at e)) ≡ true
free AHeader = refl
free TheParts = refl
free BinaryInlines = refl
free SourceInlines = refl
free (AProof zero) = refl
free (AProof (suc room)) = refl
free ARelation = refl
free ALog = refl
free AStep = refl

some_word : (e : Expected) → (k : Keyword) × (text : List ℕ) × Word k text (entries (keywords_at e))
some_word AHeader = (KHeader, keyword_text KHeader, at_front _)
some_word TheParts = (KFunction, keyword_text KFunction, at_front _)
some_word BinaryInlines = (KInlineBinary, keyword_text KInlineBinary, at_front _)
some_word SourceInlines = (KInlineSource, keyword_text KInlineSource, at_front _)
some_word (AProof zero) = (KLeaf, keyword_text KLeaf, at_front _)
some_word (AProof (suc room)) = (KLeaf, keyword_text KLeaf, at_front _)
some_word ARelation = (KRelation, keyword_text KRelation, at_front _)
some_word ALog = (KLog, keyword_text KLog, at_front _)
some_word AStep = (KStep, keyword_text KStep, at_front _)

-- ---- lines

abbrev pub text_at : Expected → Line → List ℕ
text_at e line = line_text line

pub line_read : (e : Expected) → Reads (ItemText Fits text_at e) anything (read_line e)
line_read e =
    let w = some_word e in
    reads-as (λ p. p.1) (ItemText Fits text_at e)
    (λ p text d.
    let o = of_entries p.0 d.left (keywords_at e) d.first in
    let f = d.second in
    record {
      fits = record { stands = same_allowed e p.1 ∙ ap (allowed e) f.keyword ∙ passes (allowed e) p.0 (keywords_at e) (all_allowed e) o.listed; is = f.is_line };
      is = d.cut ∙ ap (λ t. t ++ d.right) (o.is ∙ ap keyword_text (sym f.keyword)) ∙ ap (λ t. keyword_text (keyword_of p.1) ++ t) f.is ∙ sym (line_parts p.1);
    })
    (λ line text i. (
      (keyword_of line, line),
      refl,
      record {
        left = keyword_text (keyword_of line);
        right = fields_text line;
        cut = i.is ∙ line_parts line;
        first = in_entries (keyword_of line) (keywords_at e) (listed e (keyword_of line) (sym (same_allowed e line) ∙ i.fits.stands));
        second = record { keyword = refl; is_line = i.fits.is; is = refl };
      },
    ))
    (reads-then (reads-listed (entries (keywords_at e)) w.0 w.1 w.2 (free e)) fields_read (λ k line text rest d stops. stops_anything (text ++ rest)))
