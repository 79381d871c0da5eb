-- Keywords keep roles.
use Rattle.std.proofs.Common.{◌≡◌, ℕ, Some, refl, Bool, true, false, None, ap, cond, ◌∙◌, List, [], ◌∷◌, Ok, Err, sym, subst, arith, length, length-append, ◌++◌, inl, inr, IsTrue}
use denote.Enum.Bare.{true_same, sameb, same_true}
use Rattle.c_token_spec.specs.declared.token.Keyword.{Keyword}
use Rattle.c_token_spec.specs.contracts.token.Keyword.{the_type}
use Rattle.c_token_spec.specs.Lexical.{Token, Name as name_token, Word, Number as number_token, Character as character_token, Mark, Placed}
use Rattle.c_parse_spec.specs.declared.Role.{Role}
use Rattle.c_parse_spec.specs.Leaves.{keyword_at, Leaf, marks, roles}
use Rattle.exact_read.specs.Grammar.{One, anything, bind, Map, Then}
use Rattle.c_parse_laws.specs.Parsers.{token, before}
use Rattle.c_parse_laws.proofs.Marks.{Keeps, Says}
use Rattle.c_parse_laws.specs.Statements.{keyword_offset, is_keyword}
use Rattle.exact_read.specs.Roles.{Roled, IsAsked}
use Rattle.exact_read.specs.Expected.{Next}
use Rattle.exact_read.specs.Reading.{Outcome, Parser, Wrong, plains}
use Rattle.exact_read.proofs.Basics.{err}
use Rattle.exact_read.proofs.Then.{Joins}
use Rattle.c_parse_laws.proofs.Tokens.{Kept}
use Rattle.c_parse_spec.specs.declared.Role.TheVariants.{Nothing}
use Rattle.exact_read.proofs.RoleBasics.{roled-same}
use Rattle.exact_read.proofs.RoleBegins.{Silent, silent_next}
use Rattle.exact_read.proofs.RoleThen.{roled-then}
use Rattle.c_parse_laws.specs.Firm.{Firm}
use Rattle.c_parse_laws.proofs.Firm.{firm-one, firm-map}

pub keyword-self : (w : Keyword) (offset : ℕ) → keyword_offset w (keyword_at w offset) ≡ Some offset
keyword-self w offset = rw (true_same the_type w w refl) refl

keyword-token : (w : Keyword) (k : Token) (o offset : ℕ) → cond (is_keyword w k) (Some o) None ≡ Some offset → (k ≡ Word w) × (o ≡ offset)
keyword-token w (Word v) o offset e = by_test (sameb the_type v w) refl e
  where
    by_test : (b : Bool) → sameb the_type v w ≡ b → cond b (Some o) None ≡ Some offset → (Word v ≡ Word w) × (o ≡ offset)
    by_test true f e = (ap Word (same_true the_type tt v w f), cc)
    by_test false f e = absurd (cc)
keyword-token w (name_token spelling) o offset e = absurd (cc)
keyword-token w (number_token value type) o offset e = absurd (cc)
keyword-token w (character_token value) o offset e = absurd (cc)
keyword-token w (Mark p) o offset e = absurd (cc)

abbrev at : Token → ℕ → Placed
at k o = record { token = k; offset = o }

pub keyword-is : (w : Keyword) (t : Placed) (offset : ℕ) → keyword_offset w t ≡ Some offset → t ≡ keyword_at w offset
keyword-is w t offset e = let h = keyword-token w t.token t.offset offset e in ap (λ k. at k t.offset) h.0 ∙ ap (λ o. at (Word w) o) h.1

pub one-keyword : (w : Keyword) (as_leaf : Placed → Leaf) (x : ℕ) (text : List Leaf) → One as_leaf (keyword_offset w) x text → text ≡ as_leaf (keyword_at w x) ∷ []
one-keyword w as_leaf x text o = o.cut ∙ ap (λ t. as_leaf t ∷ []) (keyword-is w o.token x o.is)

pub keyword-one : (w : Keyword) (as_leaf : Placed → Leaf) (x : ℕ) → One as_leaf (keyword_offset w) x (as_leaf (keyword_at w x) ∷ [])
keyword-one w as_leaf x = record { token = keyword_at w x; is = keyword-self w x; cut = refl }

pub keyword-known : (w : Keyword) (k : Token) → is_keyword w k ≡ true → k ≡ Word w
keyword-known w k e = ap (λ (t : Placed). t.token) (keyword-is w (record { token = k; offset = 0 }) 0 (rw e refl))

pub roled-keyword : (entry : Placed → Bool) (w : Keyword) (role : Role) (as_leaf : Placed → Leaf) → Keeps as_leaf → Says as_leaf role → Firm entry (One as_leaf (keyword_offset w)) (λ _. anything) (token role as_leaf (keyword_offset w))
roled-keyword entry w role as_leaf keeps says = firm-one entry as_leaf (keyword_offset w) role keeps says (keyword_at w 0) 0 (keyword-self w 0)

pub keyword-some : (w : Keyword) (t : Placed) → is_keyword w t.token ≡ true → keyword_offset w t ≡ Some t.offset
keyword-some w t e = rw e refl

-- a part, and another after it that is read and left
pub roled-kept : {X Y : Type 0} {entry : Placed → Bool} {S1 : X → List Leaf → Type 0} {stop1 : X → Placed → Bool} {first : Parser Placed Role X} {S2 : Y → List Leaf → Type 0} {stop : X → Placed → Bool} {second : Parser Placed Role Y}
    → Firm entry S1 stop1 first → ((x : X) → Firm (stop1 x) S2 (λ _. stop x) second) → Joins marks S1 stop1 (λ _. S2) (λ x _. stop x)
    → Firm entry (Kept S1 S2) stop (before first second)
roled-kept {X} {Y} {entry} {S1} {stop1} {first} {S2} {stop} {second} one two joins =
    roled-same entry (Kept S1 S2) (before first second) (λ t h. h) to from (λ tokens. same_read (first tokens))
    (firm-map (λ (pair : X × Y). pair.0) stop (λ pair. refl) (roled-then one (λ x. two x) joins))
  where
    same_second : (x : X) (o : Outcome Placed Role Y) → bind o (λ _ after. Ok (x, after)) ≡ bind {X = X × Y} (bind o (λ y after. Ok ((x, y), after))) (λ pair after. Ok (pair.0, after))
    same_second x (Ok found) = refl
    same_second x (Err fault) = refl

    same_read : (o : Outcome Placed Role X) → bind o (λ x rest. bind (second rest) (λ _ after. Ok (x, after))) ≡ bind {X = X × Y} (bind o (λ x rest. bind (second rest) (λ y after. Ok ((x, y), after)))) (λ pair after. Ok (pair.0, after))
    same_read (Ok (x, rest)) = same_second x (second rest)
    same_read (Err fault) = refl

    to : (x : X) (text : List Leaf) → Map (λ (pair : X × Y). pair.0) (Then S1 (λ _. S2)) x text → Kept S1 S2 x text
    to x text m = let t = m.derives in
        record { second = m.inner.1; left = t.left; right = t.right; is_first = subst (λ (z : X). S1 z t.left) (sym m.is) t.first; is_second = t.second; cut = t.cut }

    from : (x : X) (text : List Leaf) → Kept S1 S2 x text → Map (λ (pair : X × Y). pair.0) (Then S1 (λ _. S2)) x text
    from x text k = record { inner = (x, k.second); is = refl; derives = record { left = k.left; right = k.right; cut = k.cut; first = k.is_first; second = k.is_second } }

nothing_read : (prefix rest : List Placed) → rest ≡ prefix ++ rest → prefix ≡ []
nothing_read [] rest e = refl
nothing_read (t ∷ prefix) rest e = absurd (omega (arith, ap length e, length-append prefix rest))

-- where what begins a part has no role, its first token is called wrong without a role
pub silent_wrong : {X : Type 0} {entry : Placed → Bool} {S : X → List Leaf → Type 0} {stop : X → Placed → Bool} {ending : X → Role} {Loose : Type 0} {read : Parser Placed Role X} → Roled marks roles entry S stop ending Loose read → Silent marks roles S
    → (t : Placed) (more : List Placed) (kind : Role) → IsTrue (entry t) → read (t ∷ more) ≡ err {X = X} (Wrong kind) (t ∷ more) → kind ≡ Nothing
silent_wrong {X} {entry} {S} is silent t more kind enters e = by_asked (is.asks (t ∷ more) kind (t ∷ more) enters e)
  where
    by_asked : IsAsked marks roles S (t ∷ more) kind (t ∷ more) → kind ≡ Nothing
    by_asked a = elim a.asked.asked [ inl h ↦ h | inr m ↦ sym m.2 ∙ silent_next silent m.0 (subst (λ f. Next marks S f m.0) (nothing_read (plains marks a.prefix) (t ∷ more) a.cut) m.1) ]
