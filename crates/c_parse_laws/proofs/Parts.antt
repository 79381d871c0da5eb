-- What is in a block keeps roles, where the statements in it do.
use Rattle.std.proofs.Common.{ℕ, List, Bool, false, not, ◌&&◌, ◌≡◌, ◌∷◌, true, refl, ◌||◌, subst, IsTrue, [], ap, ◌++◌, append_assoc, sym, inl}
use Rattle.c_token_spec.specs.declared.token.Keyword.TheVariants.{Else}
use Rattle.c_token_spec.specs.declared.token.Punctuator.TheVariants as punctuator
use Rattle.c_token_spec.specs.Lexical.{Placed, Token}
use Rattle.c_syntax_spec.specs.Unit as unit
use Rattle.c_parse_spec.specs.Leaves.{Leaf, marks, expected, mark, roles}
use Rattle.c_parse_spec.specs.Statements as grammar
use Rattle.exact_read.specs.Reading.{Stops, plains}
use Rattle.exact_read.specs.Grammar.{Map, Or, first, second, context_after, Many, none, some, anything}
use Rattle.exact_read.proofs.Many.{Items}
use Rattle.c_parse_laws.specs.Parsers.{Parsers}
use Rattle.c_parse_laws.proofs.Marks.{roled-choice, map_begins, map_silent}
use Rattle.c_parse_laws.specs.TypeExactness.{AllFirm}
use Rattle.exact_read.proofs.Contexts.{many-context_same}
use Rattle.c_parse_laws.proofs.Tokens.{or_right}
use Rattle.c_parse_laws.specs.Declarations.{begins_locals}
use Rattle.c_parse_laws.specs.Texts.{LocalsText}
use Rattle.c_parse_laws.proofs.Locals.{roled-locals}
use Rattle.c_parse_laws.specs.Statements.{Part, PartLocals, PartStatement, is_keyword, Statements, ends_parts, parts_of, with_part, read_part, read_parts}
use Rattle.c_parse_laws.specs.StatementEnds.{last_open, stop_parts, stop_statement}
use Rattle.c_parse_laws.proofs.StatementFirsts.{statement_first, statement_no_end, locals_first, locals_no_end, statement_no_locals}
use Rattle.exact_read.specs.Roles.{Roled}
use Rattle.exact_read.proofs.RoleBasics.{roled-same, roled-enter, roled-map}
use Rattle.exact_read.proofs.RoleBegins.{Silent, silent_next}
use Rattle.exact_read.proofs.RoleMany.{ItemRoles, roled-many}
use Rattle.c_parse_laws.specs.Firm.{Firm, quiet}
use Rattle.c_parse_laws.proofs.Firm.{firm-map}
use Rattle.c_parse_laws.proofs.Keywords.{silent_wrong}
use Rattle.c_parse_laws.proofs.Silent.{locals_silent, statement_silent}
use Rattle.c_parse_laws.proofs.StatementLocals.{begin_locals}
use Rattle.c_parse_spec.specs.declared.Role.TheVariants.{Nothing}

-- a part
abbrev pub PartText : (names : List (List ℕ)) → (depth : ℕ) → Part → List Leaf → Type 0
PartText names depth = Or (Map (λ locals. PartLocals locals) (LocalsText names depth)) (Map (λ statement. PartStatement statement) (grammar.Statement names depth))

-- whether an `else` after a part would belong to it
abbrev pub is_open : Part → Bool
is_open (PartLocals locals) = false
is_open (PartStatement statement) = grammar.takes_else statement

abbrev pub stop_part : Part → Placed → Bool
stop_part part t = not (is_open part && is_keyword Else t.token)

-- the first token of a part ends none, and is no label
pub part_first : (names : List (List ℕ)) (depth : ℕ) (p : Part) (text : List Leaf) → PartText names depth p text → (u : Leaf) × (more : List Leaf) × (text ≡ u ∷ more) × (ends_parts u.token.token ≡ false) × (Rattle.c_parse_laws.specs.Statements.begins_label u.token.token ≡ false)
part_first names depth p text (first m) = let f = locals_first names depth m.inner text m.derives in let e = locals_no_end names f.leaf.token.token f.yes in (f.leaf, f.more, f.cut, e.0, e.1)
part_first names depth p text (second m) = let f = statement_first names depth m.inner text m.derives in let e = statement_no_end names f.leaf.token.token f.yes in (f.leaf, f.more, f.cut, e.0, e.1)

abbrev ends_open : (open_before : Bool) → Placed → Bool
ends_open open_before t = not (open_before && is_keyword Else t.token)

else_ends : (k : Token) → is_keyword Else k ≡ true → ends_parts k ≡ true
else_ends k e = rw e (or_true _)
  where
    or_true : (a : Bool) → (a || true) ≡ true
    or_true true = refl
    or_true false = refl

-- a token with which a part begins is no `else`
pub goes_no_else : (open_before : Bool) (k : Token) → IsTrue (not (ends_parts k)) → IsTrue (not (open_before && is_keyword Else k))
goes_no_else open_before k h = by_else (is_keyword Else k) refl
  where
    by_else : (b : Bool) → is_keyword Else k ≡ b → IsTrue (not (open_before && b))
    by_else true e = absurd (let f : IsTrue (not true) = subst (λ (c : Bool). IsTrue (not c)) (else_ends k e) h in cc)
    by_else false e = and_false open_before
      where
        and_false : (a : Bool) → IsTrue (not (a && false))
        and_false true = refl
        and_false false = refl

part_items : (names : List (List ℕ)) (depth : ℕ) → Items marks (λ (_ : Bool) t. not (ends_parts t.token)) ends_open (λ _. PartText names depth) (λ _ p. stop_part p) (λ (_ : Bool) p. is_open p)
part_items names depth =
    record {
      begins = λ c p text h. let f = part_first names depth p text h in (f.0, f.1, f.2, ap not f.3);
      opens_next = λ c p rest stops. opened p rest stops;
      stops_item = λ c p rest stops. ended p rest stops;
    }
  where
    opened : (p : Part) (rest : List Placed) → Stops (stop_part p) rest → Stops (λ t. not (ends_parts t.token) || ends_open (is_open p) t) rest
    opened p [] h = tt
    opened p (t ∷ rest) h = or_right (not (ends_parts t.token)) (ends_open (is_open p) t) h

    by_test : (p : Part) (t : Placed) (b : Bool) → not (ends_parts t.token) ≡ b → IsTrue (b || ends_open (is_open p) t) → IsTrue (stop_part p t)
    by_test p t true e h = goes_no_else (is_open p) t.token e
    by_test p t false e h = h

    ended : (p : Part) (rest : List Placed) → Stops (λ t. not (ends_parts t.token) || ends_open (is_open p) t) rest → Stops (stop_part p) rest
    ended p [] h = tt
    ended p (t ∷ rest) h = by_test p t (not (ends_parts t.token)) refl h

open_same : (open_before : Bool) (xs : List Part) → last_open open_before (parts_of xs) ≡ context_after (λ (_ : Bool) p. is_open p) open_before xs
open_same open_before [] = refl
open_same open_before (PartLocals locals ∷ xs) = open_same false xs
open_same open_before (PartStatement statement ∷ xs) = open_same (grammar.takes_else statement) xs

abbrev pub PartsMany : (names : List (List ℕ)) → (depth : ℕ) → (open_before : Bool) → List Part → List Leaf → Type 0
PartsMany names depth = Many (λ (_ : Bool) p. is_open p) (λ _. PartText names depth)

-- as the grammar has them
pub part_before : (names : List (List ℕ)) (depth : ℕ) (p : Part) (rest : unit.Parts) (left right : List Leaf) → PartText names depth p left → grammar.Parts names depth rest right → grammar.Parts names depth (with_part p rest) (left ++ right)
part_before names depth p rest left right (first m) h =
    let l = m.derives in
    rw (m.is, l.cut, append_assoc l.inside (expected l.role (mark punctuator.Semicolon l.offset) ∷ []) right) (grammar.local depth m.inner rest l.role l.inside right l.offset l.derives h)
part_before names depth p rest left right (second m) h = rw m.is (grammar.statement depth m.inner rest left right m.derives h)

many_parts : (names : List (List ℕ)) (depth : ℕ) (c : Bool) (xs : List Part) (text : List Leaf) → PartsMany names depth c xs text → grammar.Parts names depth (parts_of xs) text
many_parts names depth c xs text (none d) = grammar.no_parts depth
many_parts names depth c xs text (some d p ys left right one rest) = part_before names depth p (parts_of ys) left right one (many_parts names depth (is_open p) ys right rest)

pub parts_many : (names : List (List ℕ)) (depth : ℕ) (c : Bool) (parts : unit.Parts) (text : List Leaf) → grammar.Parts names depth parts text → (xs : List Part) × ((parts ≡ parts_of xs) × PartsMany names depth c xs text)
parts_many names depth c parts text (grammar.no_parts d) = ([], (refl, none c))
parts_many names depth c parts text (grammar.local d list rest after t right end h k) =
    let r = parts_many names d false rest right k in (
      PartLocals list ∷ r.0,
      (
        ap (unit.parts_local list) r.1.0,
        subst (λ l. PartsMany names d c (PartLocals list ∷ r.0) l) (append_assoc t (expected after (mark punctuator.Semicolon end) ∷ []) right)
            (some c (PartLocals list) r.0 (t ++ expected after (mark punctuator.Semicolon end) ∷ []) right (first (record { inner = list; is = refl; derives = record { role = after; inside = t; offset = end; derives = h; cut = refl } })) r.1.1),
      ),
    )
parts_many names depth c parts text (grammar.statement d x rest left right h k) =
    let r = parts_many names d (grammar.takes_else x) rest right k in
    (PartStatement x ∷ r.0, (ap (unit.parts_statement x) r.1.0, some c (PartStatement x) r.0 left right (second (record { inner = x; is = refl; derives = h })) r.1.1))

-- parts stop at a `}`
pub parts_close : (parts : unit.Parts) (close : ℕ) → IsTrue (stop_parts parts (mark punctuator.RightBrace close))
parts_close parts close = by_open (last_open false parts)
  where
    by_open : (b : Bool) → IsTrue (not (b && false) && true)
    by_open true = refl
    by_open false = refl

-- statements keep roles where so many constructs are open
abbrev pub StatementsFirm : (names : List (List ℕ)) → Statements → (depth : ℕ) → Type 0
StatementsFirm names statements depth = Firm anything (grammar.Statement names depth) stop_statement (statements depth)

pub roled-part : (names : List (List ℕ)) (inner : Parsers) → AllFirm names inner → (statements : Statements) (depth : ℕ) → StatementsFirm names statements depth → Firm anything (PartText names depth) stop_part (read_part names inner statements depth)
roled-part names inner all statements depth is =
    roled-choice (begins_locals names)
    record {
      first_begins = λ x text m. let f = locals_first names depth m.inner text m.derives in (f.leaf, f.more, f.cut, f.yes);
      second_begins = λ x text rest m stops. let f = statement_first names depth m.inner text m.derives in subst (λ l. Stops (λ t. not (begins_locals names t.token)) (plains marks l ++ rest)) (sym f.cut) (rw (statement_no_locals names f.leaf.token.token f.yes) refl);
    }
    (λ t e. map_begins (λ locals. PartLocals locals) t (begin_locals names depth t e)) (map_silent (λ locals. PartLocals locals) (locals_silent names depth))
    (firm-map (λ locals. PartLocals locals) stop_part (λ x. refl) (roled-locals names inner all depth))
    (firm-map (λ statement. PartStatement statement) stop_part (λ x. refl) is)

pub part_silent : (names : List (List ℕ)) (depth : ℕ) → Silent marks roles (PartText names depth)
part_silent names depth x u more (first m) = locals_silent names depth m.inner u more m.derives
part_silent names depth x u more (second m) = statement_silent names depth m.inner (u ∷ more) m.derives u more refl

part_roles : (names : List (List ℕ)) (inner : Parsers) → AllFirm names inner → (statements : Statements) (depth : ℕ) → StatementsFirm names statements depth
    → ItemRoles marks roles (λ (_ : Bool) t. not (ends_parts t.token)) (λ _. PartText names depth) (λ (_ : Bool) p. is_open p) (λ _. quiet) (λ _. Nothing) (Unit {0}) (λ _. read_part names inner statements depth)
part_roles names inner all statements depth is =
    record {
      enters = λ c t more kind s e. (tt, silent_wrong (roled-part names inner all statements depth is) (part_silent names depth) t more kind refl e);
      loose = λ h c. refl;
      begins = λ c u n. inl (silent_next (part_silent names depth) u n);
      ends = λ c x text one. inl refl;
    }

pub roled-parts : (names : List (List ℕ)) (inner : Parsers) → AllFirm names inner → (statements : Statements) (depth : ℕ) → StatementsFirm names statements depth → Roled marks roles anything (grammar.Parts names depth) stop_parts quiet (Unit {0}) (read_parts names inner statements depth)
roled-parts names inner all statements depth is =
    roled-same anything (grammar.Parts names depth) (read_parts names inner statements depth) (λ t h. or_right (not (ends_parts t.token)) (ends_open false t) refl)
    (λ parts text m. subst (λ (v : unit.Parts). grammar.Parts names depth v text) (sym m.is) (many_parts names depth false m.inner text m.derives))
    (λ parts text h. let r = parts_many names depth false parts text h in record { inner = r.0; is = r.1.0; derives = r.1.1 })
    (λ tokens. ap (λ o. Rattle.exact_read.specs.Grammar.bind o (λ xs r. Rattle.std.proofs.Common.Ok (parts_of xs, r)))
    (many-context_same (λ (_ : Unit {0}) t. not (ends_parts t.token)) (λ _. read_part names inner statements depth) (λ _ _. tt {0}) (λ (_ : Bool). tt {0}) (λ (_ : Bool) p. is_open p) (λ d x. refl) false tokens))
    (roled-map parts_of stop_parts quiet (λ xs. ap {B = Placed → Bool} (λ (c : Bool) (t : Placed). ends_open c t && not (not (ends_parts t.token))) (open_same false xs)) (λ xs. inl refl)
    (roled-many (part_items names depth) (part_roles names inner all statements depth is) (λ c. roled-enter (λ t. not (ends_parts t.token)) (roled-part names inner all statements depth is)) false))
