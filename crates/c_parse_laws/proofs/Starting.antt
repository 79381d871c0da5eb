-- Texts that begin with a token that passes a test keep roles where the next token passes it.
use Rattle.std.proofs.Common.{◌≡◌, Bool, true, List, ◌∷◌, [], ◌++◌, Err, refl, ap, ◌∙◌, subst, ◌⊎◌, inl, inr, sym}
use Rattle.c_token_spec.specs.Lexical.{Token, Placed}
use Rattle.c_parse_spec.specs.declared.Role.{Role}
use Rattle.c_parse_spec.specs.Leaves.{Leaf, marks, roles}
use Rattle.exact_read.specs.Reading.{Wrong, Parser, plains, Stops}
use Rattle.exact_read.specs.Exact.{IsTaken, IsWrong, Exact}
use Rattle.exact_read.specs.Whole.{IsLimitExceeded}
use Rattle.exact_read.specs.Grammar.{anything}
use Rattle.exact_read.proofs.Parts.{stops_anything}
use Rattle.c_parse_spec.specs.declared.Role.TheVariants.{Nothing}
use Rattle.exact_read.specs.Roles.{IsAsked, Roled}
use Rattle.exact_read.specs.Expected.{Next, Asked}
use Rattle.exact_read.proofs.RoleBasics.{next_same}

pub record Starting {X : Type 0} (test : Token → Bool) (S : X → List Leaf → Type 0) (x : X) (text : List Leaf) : Type 0 where
  pub derives : S x text
  pub leaf : Leaf
  pub more : List Leaf
  pub cut : text ≡ leaf ∷ more
  pub passes : test leaf.token.token ≡ true

pub exact-starting : {X : Type 0} {S : X → List Leaf → Type 0} {stop : X → Placed → Bool} {read : Parser Placed Role X} (test : Token → Bool) → ((x : X) (text : List Leaf) → S x text → (u : Leaf) × (more : List Leaf) × (text ≡ u ∷ more)) → (x : X) (text : List Leaf) → Starting test S x text → Exact marks anything S stop read
    → Exact marks (λ t. test t.token) (Starting test S) stop read
exact-starting {X} {S} {stop} {read} test begins sample sample_text starts is =
    record {
      takes = λ before x rest enters e. let one = is.takes before x rest (stops_anything before) e in taken before x rest enters one (begins x one.text one.derives);
      again = λ x text rest s stops enters. is.again x text rest s.derives stops (stops_anything (plains marks text ++ rest));
      wrongs = λ before kind rest enters e. let one = is.wrongs before kind rest (stops_anything before) e in wrong before kind rest enters one one.prefix refl;
      exceeds = λ before rest enters e. let one = is.exceeds before rest (stops_anything before) e in exceeded before rest enters one one.prefix refl;
    }
  where
    taken : (before : List Placed) (x : X) (rest : List Placed) → Stops (λ t. test t.token) before → (one : IsTaken marks S stop before x rest) → (u : Leaf) × (more : List Leaf) × (one.text ≡ u ∷ more) → IsTaken marks (Starting test S) stop before x rest
    taken before x rest enters one (u, more, cut) =
        record { text = one.text; cut = one.cut; within = one.within; stops = one.stops; derives = record { derives = one.derives; leaf = u; more = more; cut = cut; passes = subst (Stops (λ t. test t.token)) (one.cut ∙ ap (λ l. plains marks l ++ rest) cut) enters } }

    wrong : (before : List Placed) (kind : Role) (rest : List Placed) → Stops (λ t. test t.token) before → (one : IsWrong marks S read before kind rest) → (prefix : List Leaf) → one.prefix ≡ prefix → IsWrong marks (Starting test S) read before kind rest
    wrong before kind rest enters one [] e =
        record {
          prefix = [];
          cut = one.cut ∙ ap (λ l. plains marks l ++ rest) e;
          within = tt;
          value = sample;
          more = sample_text;
          derives = starts;
          whatever = λ token old new here. subst (λ l. read (plains marks l ++ token ∷ new) ≡ Err (Wrong kind, token ∷ new)) e (one.whatever token old new here);
        }
    wrong before kind rest enters one (u ∷ prefix) e =
        record {
          prefix = one.prefix;
          cut = one.cut;
          within = one.within;
          value = one.value;
          more = one.more;
          derives = record { derives = one.derives; leaf = u; more = prefix ++ one.more; cut = ap (λ l. l ++ one.more) e; passes = subst (Stops (λ t. test t.token)) (one.cut ∙ ap (λ l. plains marks l ++ rest) e) enters };
          whatever = one.whatever;
        }

    exceeded : (before rest : List Placed) → Stops (λ t. test t.token) before → (one : IsLimitExceeded marks S before rest) → (prefix : List Leaf) → one.prefix ≡ prefix → IsLimitExceeded marks (Starting test S) before rest
    exceeded before rest enters one [] e =
        record {
          prefix = one.prefix;
          last = one.last;
          following = one.following;
          here = one.here;
          cut = one.cut;
          within = one.within;
          over = one.over;
          value = one.value;
          more = one.more;
          derives = record { derives = one.derives; leaf = one.last; more = one.more; cut = ap (λ l. l ++ one.last ∷ one.more) e; passes = subst (Stops (λ t. test t.token)) (one.cut ∙ ap (λ l. plains marks l ++ rest) e ∙ one.here) enters };
        }
    exceeded before rest enters one (u ∷ prefix) e =
        record {
          prefix = one.prefix;
          last = one.last;
          following = one.following;
          here = one.here;
          cut = one.cut;
          within = one.within;
          over = one.over;
          value = one.value;
          more = one.more;
          derives = record { derives = one.derives; leaf = u; more = prefix ++ one.last ∷ one.more; cut = ap (λ l. l ++ one.last ∷ one.more) e; passes = subst (Stops (λ t. test t.token)) (one.cut ∙ ap (λ l. plains marks l ++ rest) e) enters };
        }

-- what is expected where a text begins is the role of a leaf that passes the test
abbrev pub AskedFirst : {X : Type 0} → (test : Token → Bool) → (S : X → List Leaf → Type 0) → Type 0
AskedFirst {X} test S = (kind : Role) → Asked marks roles S [] kind → (kind ≡ Nothing) ⊎ ((u : Leaf) × Next marks (Starting test S) [] u × (u.role ≡ kind))

-- where each text begins with a token without a role
pub asked_nothing : {X : Type 0} {S : X → List Leaf → Type 0} (test : Token → Bool) → ((u : Leaf) → Next marks S [] u → u.role ≡ Nothing) → AskedFirst test S
asked_nothing test silent kind a = elim a.asked [ inl e ↦ inl e | inr n ↦ inl (sym n.2 ∙ silent n.0 n.1) ]

-- where this leaf can come first, and has a role
pub asked_first : {X : Type 0} {S : X → List Leaf → Type 0} (test : Token → Bool) (u : Leaf) → Next marks (Starting test S) [] u → (u.role ≡ Nothing → ⊥) → AskedFirst test S
asked_first {X} {S} test u n reports kind a = by_reported (a.agreed u (next_same (λ x text s. s.derives) [] u n))
  where
    by_reported : (u.role ≡ kind) ⊎ (u.role ≡ Nothing) → (kind ≡ Nothing) ⊎ ((u : Leaf) × Next marks (Starting test S) [] u × (u.role ≡ kind))
    by_reported (inl e) = inr (u, n, e)
    by_reported (inr e) = absurd (reports e)

pub roled-starting : {X : Type 0} {S : X → List Leaf → Type 0} {stop : X → Placed → Bool} {ending : X → Role} {Loose : Type 0} {read : Parser Placed Role X} (test : Token → Bool) → ((x : X) (text : List Leaf) → S x text → (u : Leaf) × (more : List Leaf) × (text ≡ u ∷ more)) → (x : X) (text : List Leaf) → Starting test S x text → AskedFirst test S → Roled marks roles anything S stop ending Loose read
    → Roled marks roles (λ t. test t.token) (Starting test S) stop ending Loose read
roled-starting {X} {S} {stop} {ending} {Loose} {read} test begins sample sample_text starts asks is =
    record {
      exact = exact-starting test begins sample sample_text starts is.exact;
      asks = λ before kind rest enters e. let one = is.asks before kind rest (stops_anything before) e in asked before kind rest enters one one.prefix refl;
      reports = λ x text u s within enters n. is.reports x text u s.derives within (stops_anything (plains marks text)) (next_same (λ x text s. s.derives) (plains marks text) u n);
      firm = λ x text kind rest s within enters e. is.firm x text kind rest s.derives within (stops_anything (plains marks text ++ rest)) e;
      alike = λ x y one following two after s t e within enters. is.alike x y one following two after s.derives t.derives e within (stops_anything (plains marks one));
    }
  where
    -- after a token that passes the test the texts are the same
    passing : (v : Leaf) (prefix : List Leaf) (u : Leaf) → test v.token.token ≡ true → (value : X) (before more : List Leaf) → S value (before ++ u ∷ more) → plains marks before ≡ plains marks (v ∷ prefix) → Next marks (Starting test S) (plains marks (v ∷ prefix)) u
    passing v prefix u passes value [] more derives same = absurd (cc)
    passing v prefix u passes value (w ∷ before) more derives same =
        let head : w.token ≡ v.token = cc in
        record { value = value; before = w ∷ before; more = more; derives = record { derives = derives; leaf = w; more = before ++ u ∷ more; cut = refl; passes = ap (λ (t : Placed). test t.token) head ∙ passes }; same = same }

    asked : (before : List Placed) (kind : Role) (rest : List Placed) → Stops (λ t. test t.token) before → (one : IsAsked marks roles S before kind rest) → (prefix : List Leaf) → one.prefix ≡ prefix → IsAsked marks roles (Starting test S) before kind rest
    asked before kind rest enters one [] e =
        let a = subst (λ f. Asked marks roles S (plains marks f) kind) e one.asked in
        record {
          prefix = [];
          cut = one.cut ∙ ap (λ l. plains marks l ++ rest) e;
          within = tt;
          value = sample;
          more = sample_text;
          derives = starts;
          asked = record { agreed = λ u n. a.agreed u (next_same (λ x text s. s.derives) [] u n); asked = asks kind a };
        }
    asked before kind rest enters one (v ∷ prefix) e =
        let a = subst (λ f. Asked marks roles S (plains marks f) kind) e one.asked in
        let passes = subst (Stops (λ t. test t.token)) (one.cut ∙ ap (λ l. plains marks l ++ rest) e) enters in
        record {
          prefix = v ∷ prefix;
          cut = one.cut ∙ ap (λ l. plains marks l ++ rest) e;
          within = subst (Rattle.exact_read.specs.Reading.Within marks) e one.within;
          value = one.value;
          more = one.more;
          derives = record { derives = subst (λ f. S one.value (f ++ one.more)) e one.derives; leaf = v; more = prefix ++ one.more; cut = refl; passes = passes };
          asked = record {
            agreed = λ u n. a.agreed u (next_same (λ x text s. s.derives) (plains marks (v ∷ prefix)) u n);
            asked = elim a.asked [ inl h ↦ inl h | inr n ↦ inr (n.0, passing v prefix n.0 passes n.1.value n.1.before n.1.more n.1.derives n.1.same, n.2) ];
          };
        }
