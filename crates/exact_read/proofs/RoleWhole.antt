-- Whole inputs: what is asked where one is wrong, and that a fault is unique.
use Rattle.std.proofs.Common.{◌≡◌, inl, inr, Bool, true, false, List, [], ◌∷◌, ◌++◌, Result, Ok, Err, refl, ap, sym, ◌∙◌, subst, append-nil, append_assoc}
use Rattle.exact_read.specs.Reading.{Fault, Wrong, Outcome, Parser, Marks, plains, Within}
use Rattle.exact_read.specs.Whole.{IsWrongAt, IsLimitExceeded}
use Rattle.exact_read.specs.Grammar.{anything, at_end, read_whole}
use Rattle.exact_read.proofs.Basics.{plains-append, ok, err, err_parts}
use Rattle.exact_read.proofs.Parts.{stops_anything}
use Rattle.exact_read.specs.Roles.{IsAsked, Roled, silent}
use Rattle.exact_read.specs.Expected.{Roles}
use Rattle.exact_read.proofs.RoleLists.{Cut, inside, beyond, cut_of, plain_cut, within_left, within_right}
use Rattle.exact_read.proofs.RolePrefixes.{Alike}

-- how a whole input is called wrong
data WholeWrong {T K X : Type 0} (kind : K) (read : Parser T K X) (tokens : List T) (wrong : K) (rest : List T) : Type 0 where
  following : (x : X) → read tokens ≡ ok x rest → wrong ≡ kind → WholeWrong kind read tokens wrong rest
  in_part : read tokens ≡ err {X = X} (Wrong wrong) rest → WholeWrong kind read tokens wrong rest

whole_wrong : {T K X : Type 0} (kind : K) (read : Parser T K X) (tokens : List T) (wrong : K) (rest : List T) → read_whole kind read tokens ≡ Err (Wrong wrong, rest) → WholeWrong kind read tokens wrong rest
whole_wrong {T} {K} {X} kind read tokens wrong rest e = by_outcome (read tokens) refl e
  where
    fault : Fault K × List T → Result X (Fault K × List T)
    fault pair = Err pair

    by_outcome : (o : Outcome T K X) → read tokens ≡ o → at_end kind o ≡ Err (Wrong wrong, rest) → WholeWrong kind read tokens wrong rest
    by_outcome (Ok (x, [])) f e = absurd (cc)
    by_outcome (Ok (x, token ∷ more)) f e =
        let p = err_parts {X = X} (err_of e) in
        let k : Wrong kind ≡ Wrong wrong = p.0 in
        following x (f ∙ ap (λ r. ok x r) p.1) (cc)
      where
        err_of : at_end {X = X} kind (ok x (token ∷ more)) ≡ Err (Wrong wrong, rest) → err {X = X} (Wrong kind) (token ∷ more) ≡ err {X = X} (Wrong wrong) rest
        err_of e = let a : Fault K × List T = (Wrong kind, token ∷ more) in let b : Fault K × List T = (Wrong wrong, rest) in let p : a ≡ b = cc in ap (λ (q : Fault K × List T). Err q) p
    by_outcome (Err (fault, more)) f e = in_part (f ∙ err_same e)
      where
        err_same : at_end {X = X} kind (err {X = X} fault more) ≡ Err (Wrong wrong, rest) → err {X = X} fault more ≡ err {X = X} (Wrong wrong) rest
        err_same e = let a : Fault K × List T = (fault, more) in let b : Fault K × List T = (Wrong wrong, rest) in let p : a ≡ b = cc in ap (λ (q : Fault K × List T). Err q) p

-- the kind by which a parser of whole inputs calls a token wrong is the role that is expected there
pub whole_asks : {T U K X : Type 0} {marks : Marks T U} {roles : Roles U K} {S : X → List U → Type 0} {stop : X → T → Bool} {Loose : Type 0} {read : Parser T K X} → Roled marks roles anything S stop (silent roles) Loose read
    → (tokens : List T) (kind : K) (rest : List T) → read_whole roles.none read tokens ≡ Err (Wrong kind, rest) → IsAsked marks roles S tokens kind rest
whole_asks {T} {U} {K} {X} {marks} {roles} {S} {stop} {Loose} {read} is tokens kind rest e = by_wrong (whole_wrong roles.none read tokens kind rest e)
  where
    by_wrong : WholeWrong roles.none read tokens kind rest → IsAsked marks roles S tokens kind rest
    by_wrong (following x f k) =
        let t = is.exact.takes tokens x rest (stops_anything tokens) f in
        record {
          prefix = t.text;
          cut = t.cut;
          within = t.within;
          value = x;
          more = [];
          derives = subst (S x) (sym (append-nil t.text)) t.derives;
          asked = record {
            agreed = λ u n. elim (is.reports x t.text u t.derives t.within (stops_anything (plains marks t.text)) n) [ inl h ↦ inr h | inr h ↦ inr h ];
            asked = inl k;
          };
        }
    by_wrong (in_part f) = is.asks tokens kind rest (stops_anything tokens) f

-- where a token is wrong or a limit is exceeded: at one offset only
pub wrong_once : {T U X : Type 0} {marks : Marks T U} {S : X → List U → Type 0} (tokens one two : List T) → IsWrongAt marks S tokens one → IsWrongAt marks S tokens two → one ≡ two
wrong_once {T} {U} {X} {marks} {S} tokens one two a b = by_cut (cut_of (plains marks a.prefix) one (plains marks b.prefix) two (sym a.cut ∙ b.cut))
  where
    -- the tokens of a text before `rest` go on with it no further
    apart : (prefix : List U) (rest : List T) → tokens ≡ plains marks prefix ++ rest → (x : X) (long more : List U) → S x (long ++ more) → (t : T) (middle : List T) → plains marks long ≡ plains marks prefix ++ t ∷ middle → (old : List T) → rest ≡ t ∷ old
        → ((value : X) (text : List U) (token : T) (old new : List T) → S value text → rest ≡ token ∷ old → plains marks text ≡ plains marks prefix ++ token ∷ new → ⊥) → ⊥
    apart prefix rest cut x long more derives t middle longer old here none =
        none x (long ++ more) t old (middle ++ plains marks more) derives here (plains-append marks long more ∙ ap (λ l. l ++ plains marks more) longer ∙ append_assoc (plains marks prefix) (t ∷ middle) (plains marks more))

    by_cut : Cut (plains marks a.prefix) one (plains marks b.prefix) two → one ≡ two
    by_cut (inside [] c d) = d
    by_cut (inside (t ∷ middle) c d) = absurd (apart a.prefix one a.cut b.value b.prefix b.more b.derives t middle c (middle ++ two) d a.none.at_token)
    by_cut (beyond t middle c d) = absurd (apart b.prefix two b.cut a.value a.prefix a.more a.derives t middle c (middle ++ one) d b.none.at_token)

-- no prefix that keeps the limits has a leaf that exceeds one
over_within : {T U : Type 0} (marks : Marks T U) (prefix : List U) (last : U) → marks.over last ≡ true → Within marks (prefix ++ last ∷ []) → ⊥
over_within marks prefix last over w = let h : marks.over last ≡ false = (within_right marks prefix (last ∷ []) w).0 in let e : true ≡ false = sym over ∙ h in cc

-- where a text that keeps the limits goes on after a token, no limit is exceeded there
past_exceeded : {T U X : Type 0} {marks : Marks T U} (S : X → List U → Type 0) → Alike marks anything S → (x y : X) (prefix more exceeded after : List U) (last : U) (t : T) (middle : List T) → S x (prefix ++ more) → S y (exceeded ++ last ∷ after) → Within marks prefix → marks.over last ≡ true → plains marks prefix ≡ plains marks exceeded ++ t ∷ middle → t ≡ marks.plain last → ⊥
past_exceeded {marks = marks} S alike x y prefix more exceeded after last t middle one two within over longer same =
    let whole : plains marks prefix ≡ plains marks (exceeded ++ last ∷ []) ++ middle =
    longer ∙ ap (λ h. plains marks exceeded ++ h ∷ middle) same ∙ sym (append_assoc (plains marks exceeded) (marks.plain last ∷ []) middle) ∙ ap (λ l. l ++ middle) (sym (plains-append marks exceeded (last ∷ []))) in
    let p = plain_cut marks prefix (plains marks (exceeded ++ last ∷ [])) middle whole in
    over_within marks exceeded last over
    (alike x y p.first (p.second ++ more) (exceeded ++ last ∷ []) after
    (subst (S x) (ap (λ l. l ++ more) p.cut ∙ append_assoc p.first p.second more) one)
    (subst (S y) (sym (append_assoc exceeded (last ∷ []) after)) two)
    p.is_left (within_left marks p.first p.second (subst (Within marks) p.cut within)) (stops_anything (plains marks p.first)))

pub exceeded_or_wrong : {T U X : Type 0} {marks : Marks T U} {S : X → List U → Type 0} → Alike marks anything S → (tokens one two : List T) → IsWrongAt marks S tokens one → IsLimitExceeded marks S tokens two → ⊥
exceeded_or_wrong {T} {U} {X} {marks} {S} alike tokens one two a d = by_cut (cut_of (plains marks a.prefix) one (plains marks d.prefix) two (sym a.cut ∙ d.cut))
  where
    whole : plains marks (d.prefix ++ d.last ∷ d.more) ≡ plains marks d.prefix ++ marks.plain d.last ∷ plains marks d.more
    whole = plains-append marks d.prefix (d.last ∷ d.more)

    by_cut : Cut (plains marks a.prefix) one (plains marks d.prefix) two → ⊥
    by_cut (inside [] e f) = a.none.at_token d.value (d.prefix ++ d.last ∷ d.more) (marks.plain d.last) d.following (plains marks d.more) d.derives (f ∙ d.here) (whole ∙ ap (λ l. l ++ marks.plain d.last ∷ plains marks d.more) (e ∙ append-nil (plains marks a.prefix)))
    by_cut (inside (t ∷ middle) e f) =
        a.none.at_token d.value (d.prefix ++ d.last ∷ d.more) t (middle ++ two) (middle ++ marks.plain d.last ∷ plains marks d.more) d.derives f
        (whole ∙ ap (λ l. l ++ marks.plain d.last ∷ plains marks d.more) e ∙ append_assoc (plains marks a.prefix) (t ∷ middle) (marks.plain d.last ∷ plains marks d.more))
    by_cut (beyond t middle e f) = past_exceeded S alike a.value d.value a.prefix a.more d.prefix d.more d.last t middle a.derives d.derives a.within d.over e (let h : t ∷ (middle ++ one) ≡ marks.plain d.last ∷ d.following = sym f ∙ d.here in cc)

pub exceeded_once : {T U X : Type 0} {marks : Marks T U} {S : X → List U → Type 0} → Alike marks anything S → (tokens one two : List T) → IsLimitExceeded marks S tokens one → IsLimitExceeded marks S tokens two → one ≡ two
exceeded_once {T} {U} {X} {marks} {S} alike tokens one two a b = by_cut (cut_of (plains marks a.prefix) one (plains marks b.prefix) two (sym a.cut ∙ b.cut))
  where
    by_cut : Cut (plains marks a.prefix) one (plains marks b.prefix) two → one ≡ two
    by_cut (inside [] e f) = f
    by_cut (inside (t ∷ middle) e f) =
        absurd (past_exceeded S alike b.value a.value b.prefix (b.last ∷ b.more) a.prefix a.more a.last t middle b.derives a.derives b.within a.over e (let h : t ∷ (middle ++ two) ≡ marks.plain a.last ∷ a.following = sym f ∙ a.here in cc))
    by_cut (beyond t middle e f) =
        absurd (past_exceeded S alike a.value b.value a.prefix (a.last ∷ a.more) b.prefix b.more b.last t middle a.derives b.derives a.within b.over e (let h : t ∷ (middle ++ one) ≡ marks.plain b.last ∷ b.following = sym f ∙ b.here in cc))
