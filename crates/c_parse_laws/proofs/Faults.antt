-- What the parser of units calls wrong is the fault of the tokens, and that is unique.
use Rattle.std.proofs.Common.{List, ◌≡◌, Err, ◌++◌, ap, sym, ◌∙◌, subst, refl, [], ◌∷◌, append-nil, true, false, append_assoc}
use Rattle.std.proofs.lemmas.List.{append_cancel_right}
use Rattle.c_token_spec.specs.Lexical.{Placed}
use Rattle.c_syntax_spec.specs.Unit.{TranslationUnit}
use Rattle.c_parse_spec.specs.declared.ParseFaultKind.{ParseFaultKind}
use Rattle.c_parse_spec.specs.declared.Role.{Role}
use Rattle.c_parse_spec.specs.Faults as faults
use Rattle.c_parse_spec.specs.Faults.{fault_kind, IsFault, IsUnit}
use Rattle.c_parse_spec.specs.Leaves.{marks, roles}
use Rattle.c_parse_spec.specs.Units as grammar
use Rattle.exact_read.specs.Reading.{Wrong, plains, Within}
use Rattle.exact_read.specs.Whole.{IsWrongAt, IsLimitExceeded}
use Rattle.exact_read.proofs.Basics.{plains-append}
use Rattle.exact_read.proofs.Parts.{stops_anything}
use Rattle.exact_read.specs.Expected.{Asked}
use Rattle.exact_read.proofs.RoleBasics.{asked_once}
use Rattle.exact_read.proofs.RoleLists.{plain_cut, within_left, within_right}
use Rattle.exact_read.proofs.RoleWhole.{whole_asks, wrong_once, exceeded_or_wrong, exceeded_once}
use Rattle.c_parse_laws.specs.Units.{read_unit}
use Rattle.c_parse_laws.proofs.UnitAll.{unit-is_exact}
use Rattle.c_parse_laws.specs.UnitExactness.{UnitReports}
use Rattle.c_parse_laws.proofs.ExternalDeclarations.{roled-items}

wrong_fault : (tokens : List Placed) (role : Role) (rest : List Placed) → read_unit tokens ≡ Err (Wrong role, rest) → IsFault tokens (fault_kind role rest) rest
wrong_fault tokens role rest e =
    let a = whole_asks roled-items tokens role rest e in
    faults.wrong (plains marks a.prefix) rest role (unit-is_exact.wrong tokens role rest e) a.cut a.asked

-- after the same tokens the same is expected
wrong_same : (tokens prefix other left right : List Placed) (one two : Role) → left ≡ right → tokens ≡ prefix ++ left → tokens ≡ other ++ right → Asked marks roles grammar.Unit prefix one → Asked marks roles grammar.Unit other two → (fault_kind one left ≡ fault_kind two right) × (left ≡ right)
wrong_same tokens prefix other left right one two same cut cut_other a b =
    let prefixes : prefix ≡ other = append_cancel_right prefix other right (sym (cut ∙ ap (λ l. prefix ++ l) same) ∙ cut_other) in
    let said : one ≡ two = asked_once one two a (subst (λ f. Asked marks roles grammar.Unit f two) (sym prefixes) b) in
    (ap (λ (r : Role). fault_kind r left) said ∙ ap (λ l. fault_kind two l) same, same)

unique_fault : (tokens : List Placed) (one two : ParseFaultKind) (left right : List Placed) → IsFault tokens one left → IsFault tokens two right → (one ≡ two) × (left ≡ right)
unique_fault tokens one two left right (faults.wrong prefix l a w cut h) (faults.wrong other r b v cut_other k) = wrong_same tokens prefix other l r a b (wrong_once tokens l r w v) cut cut_other h k
unique_fault tokens one two left right (faults.wrong prefix l a w cut h) (faults.exceeded r d) = absurd (exceeded_or_wrong roled-items.alike tokens l r w d)
unique_fault tokens one two left right (faults.exceeded l d) (faults.wrong other r b v cut k) = absurd (exceeded_or_wrong roled-items.alike tokens r l v d)
unique_fault tokens one two left right (faults.exceeded l d) (faults.exceeded r f) = (refl, exceeded_once roled-items.alike tokens l r d f)

-- in a unit no token is wrong
unit_or_wrong : (tokens rest : List Placed) (unit : TranslationUnit) → IsUnit tokens unit → IsWrongAt marks grammar.Unit tokens rest → ⊥
unit_or_wrong tokens [] unit u w = w.none.at_end unit u.text u.derives refl (sym u.cut ∙ w.cut ∙ append-nil (plains marks w.prefix))
unit_or_wrong tokens (token ∷ rest) unit u w = w.none.at_token unit u.text token rest rest u.derives refl (sym u.cut ∙ w.cut)

-- and no limit is exceeded at any
unit_or_exceeded : (tokens rest : List Placed) (unit : TranslationUnit) → IsUnit tokens unit → IsLimitExceeded marks grammar.Unit tokens rest → ⊥
unit_or_exceeded tokens rest unit u d =
    let begins : plains marks u.text ≡ plains marks (d.prefix ++ d.last ∷ []) ++ d.following =
    sym u.cut ∙ d.cut ∙ ap (λ r. plains marks d.prefix ++ r) d.here ∙ sym (append_assoc (plains marks d.prefix) (marks.plain d.last ∷ []) d.following) ∙ ap (λ l. l ++ d.following) (sym (plains-append marks d.prefix (d.last ∷ []))) in
    let p = plain_cut marks u.text (plains marks (d.prefix ++ d.last ∷ [])) d.following begins in
    let within : Within marks (d.prefix ++ d.last ∷ []) =
    roled-items.alike unit d.value p.first p.second (d.prefix ++ d.last ∷ []) d.more
    (subst (grammar.Unit unit) p.cut u.derives)
    (subst (grammar.Unit d.value) (sym (append_assoc d.prefix (d.last ∷ []) d.more)) d.derives)
    p.is_left (within_left marks p.first p.second (subst (Within marks) p.cut u.within)) (stops_anything (plains marks p.first)) in
    let over : true ≡ false = sym d.over ∙ (within_right marks d.prefix (d.last ∷ []) within).0 in
    cc

no_fault : (tokens : List Placed) (unit : TranslationUnit) (kind : ParseFaultKind) (rest : List Placed) → IsUnit tokens unit → IsFault tokens kind rest → ⊥
no_fault tokens unit kind rest u (faults.wrong prefix r role w cut h) = unit_or_wrong tokens r unit u w
no_fault tokens unit kind rest u (faults.exceeded r d) = unit_or_exceeded tokens r unit u d

pub unit-reports : UnitReports
unit-reports =
    record {
      wrong = wrong_fault;
      exceeded = λ tokens rest e. faults.exceeded rest (unit-is_exact.exceeded tokens rest e);
      unique = unique_fault;
      none = no_fault;
    }
