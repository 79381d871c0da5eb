-- Listed functions of the program and members of the definitions, by their indices.
use Rattle.std.proofs.Common.{◌≡◌, ◌≢◌, ◌∙◌, inl, inr, ℕ, zero, suc, ◌+◌, ◌<◌, List, [], ◌∷◌, ◌++◌, length, map, get_or, take, drop, Some, None, refl, sym, ap, subst, arith, length-append, take-append-drop}
use Rattle.std.specs.Prelude.{slice_get, nat_eq, option_map, All}
use Rattle.std.proofs.lemmas.List.{drop_more, length-map, length-take-le, get_or-take, get_or_at}
use Rattle.std.proofs.lemmas.List.Elements.{All-map}
use Rattle.std.proofs.lemmas.Option.{slice_get-get_or, slice_get-map, slice_get_within, slice_get_cases, get_or_from_slice_get, same_Some}
use Rattle.cert_check_spec.specs.Verdict as spec
use Rattle.cert_check_spec.specs.Verdict.{IsMissing}
use Rattle.cert_check_lines_spec.specs.Parts.{Member, IsFree, LacksPart}
use Rattle.cert_check_frames.specs.declared.listed.Listed.{Listed}
use Rattle.std.specs.Map.{lookup}
use Rattle.proof_tree_spec.specs.declared.Place.{Place}
use Rattle.cert_check_lines_spec.specs.Members.{member_of, members_of, same_place}
use Rattle.cert_check_frames.specs.Listed.{AreListed, IsListed}
use Rattle.cert_check_frames.specs.Parts.{HasPart, IsFreeAt, HaveParts, IsMissingAt}
use Rattle.cert_check.specs.Members.{AreMembers, IsMemberOf}
use Rattle.cert_check.specs.Walks.{ArePicked, no_pick, one_pick}

-- ---- the other list

pub at_index : {X : Type 0} (xs : List X) (k : ℕ) → k < length xs → (x : X) × (slice_get xs k ≡ Some x)
at_index xs k within = elim (slice_get_cases xs k).1 [
  | inl found ↦ (found.0, found.2)
  | inr past ↦ absurd (omega (arith, within, past.0))
]

-- the members of listed functions
pub members_listed : (codes : List Listed) (listed : List spec.Listed) → AreListed codes listed → AreMembers codes (members_of listed)
members_listed codes listed are = record {
  count = are.count ∙ sym (length-map listed member_of);
  each = λ k code f there at.
      let found = at_index listed k (omega (arith, are.count, slice_get_within codes k code there)) in
      let is = are.each k code found.0 there found.1 in
      let same : member_of found.0 ≡ f = same_Some (member_of found.0) f (sym (slice_get-map member_of listed k ∙ ap (option_map member_of) found.1) ∙ at) in
      subst (IsMemberOf code) same (record {
        listed = is;
        first = λ address. ap (λ (l : List (ℕ × ℕ)). lookup (nat_eq address) l) (sym is.firsts_are);
        node = λ place. ap (λ (l : List (Place × ℕ)). lookup (same_place place) l) (sym is.places_are);
      });
}

abbrev pub listed_of : Member → spec.Listed
listed_of f = f.listed

pub mapped : (members : List Member) (k : ℕ) (f : Member) → slice_get members k ≡ Some f → slice_get (map listed_of members) k ≡ Some f.listed
mapped members k f there = slice_get-map listed_of members k ∙ ap (option_map listed_of) there

module _ (codes : List Listed) (members : List Member) (are : AreMembers codes members) where
  counted : length codes ≡ length members
  counted = are.count

  pub is_member : (k : ℕ) (code : Listed) (f : Member) → slice_get codes k ≡ Some code → slice_get members k ≡ Some f → IsMemberOf code f
  is_member k code f there at = are.each k code f there at

  -- the member of an index
  pub member_there : (k : ℕ) (code : Listed) → slice_get codes k ≡ Some code → (f : Member) × (slice_get members k ≡ Some f) × IsMemberOf code f
  member_there k code there =
      let found = at_index members k (omega (arith, counted, slice_get_within codes k code there)) in
      (found.0, found.1, is_member k code found.0 there found.1)

  -- the program's
  pub code_there : (k : ℕ) (f : Member) → slice_get members k ≡ Some f → (code : Listed) × (slice_get codes k ≡ Some code) × IsMemberOf code f
  code_there k f there =
      let found = at_index codes k (omega (arith, counted, slice_get_within members k f there)) in
      (found.0, found.1, is_member k found.0 f found.1 there)

-- ---- functions that have a part

-- the item at a place of those picked, and its index
pub picked_there : (members : List Member) (parts : List ℕ) (functions : List Member) → ArePicked members parts functions → (place k : ℕ) → slice_get parts place ≡ Some k
    → (f : Member) × (slice_get functions place ≡ Some f) × (slice_get members k ≡ Some f)
picked_there members _ _ no_pick place k at = absurd (cc)
picked_there members _ _ (one_pick j f others rest there picked) zero k at =
    (f, refl, ap (slice_get members) (sym (same_Some j k at)) ∙ there)
picked_there members _ _ (one_pick j f others rest there picked) (suc place) k at = picked_there members others rest picked place k at

pub index_there : (members : List Member) (parts : List ℕ) (functions : List Member) → ArePicked members parts functions → (place : ℕ) (f : Member)
    → slice_get functions place ≡ Some f → (k : ℕ) × (slice_get parts place ≡ Some k) × (slice_get members k ≡ Some f)
index_there members _ _ no_pick place f at = absurd (cc)
index_there members _ _ (one_pick j g others rest there picked) zero f at = (j, refl, there ∙ at)
index_there members _ _ (one_pick j g others rest there picked) (suc place) f at = index_there members others rest picked place f at

pub picked_more : (members : List Member) (parts : List ℕ) (functions : List Member) (k : ℕ) (f : Member) → ArePicked members parts functions
    → slice_get members k ≡ Some f → ArePicked members (parts ++ k ∷ []) (functions ++ f ∷ [])
picked_more members _ _ k f no_pick there = one_pick k f [] [] there no_pick
picked_more members _ _ k f (one_pick j g others rest at picked) there =
    one_pick j g (others ++ k ∷ []) (rest ++ f ∷ []) at (picked_more members others rest k f picked there)

-- ---- names

module _ (codes : List Listed) (members : List Member) (are : AreMembers codes members) (parts : List ℕ) (functions : List Member) (picked : ArePicked members parts functions) where
  -- a function of the name has a part
  pub begun_named : (name : List ℕ) → HasPart codes parts name → (place : ℕ) × (f : Member) × (slice_get functions place ≡ Some f) × (f.listed.name ≡ name)
  begun_named name has =
      let found = picked_there members parts functions picked has.place has.part has.there in
      let is = is_member codes members are has.part has.named.function found.0 has.named.there found.2 in
      (has.place, found.0, found.1, is.listed.named ∙ has.named.named)

  pub none_begun : (name : List ℕ) → (HasPart codes parts name → ⊥) → All (λ (other : Member). other.listed.name ≢ name) functions
  none_begun name none = λ place d within same.
      let f = get_or functions place d in
      let at = index_there members parts functions picked place f (slice_get-get_or functions place d within) in
      let code = code_there codes members are at.0 f at.2 in
      none (record {
        place = place;
        part = at.0;
        there = at.1;
        named = record { function = code.0; there = code.1; named = sym code.2.listed.named ∙ same };
      })

  pub begun_not : (name : List ℕ) → HasPart codes parts name → All (λ (other : Member). other.listed.name ≢ name) functions → ⊥
  begun_not name has none =
      let found = begun_named name has in
      let at = get_or_from_slice_get functions found.0 found.1 found.1 found.2 in
      none found.0 found.1 (slice_get_within functions found.0 found.1 found.2) (ap (λ (f : Member). f.listed.name) at ∙ found.3)

  -- the same of what is listed
  none_listed : (name : List ℕ) → (HasPart codes parts name → ⊥) → All (λ (other : spec.Listed). other.name ≢ name) (map listed_of functions)
  none_listed name none = All-map (λ (other : spec.Listed). other.name ≢ name) listed_of functions (none_begun name none)

  not_listed : (name : List ℕ) → HasPart codes parts name → All (λ (other : spec.Listed). other.name ≢ name) (map listed_of functions) → ⊥
  not_listed name has none =
      let found = begun_named name has in
      let there = mapped functions found.0 found.1 found.2 in
      none found.0 found.1.listed (slice_get_within (map listed_of functions) found.0 found.1.listed there)
      (ap (λ (f : spec.Listed). f.name) (get_or_from_slice_get (map listed_of functions) found.0 found.1.listed found.1.listed there) ∙ found.3)

  -- ---- the beginning of a part

  pub is_free : (k : ℕ) (code : Listed) (f : Member) → slice_get codes k ≡ Some code → slice_get members k ≡ Some f → IsMemberOf code f → (HasPart codes parts code.name.now → ⊥)
      → IsFree members functions f.listed.name f
  is_free k code f there at is none = record {
    is_listed = (k, slice_get_within members k f at, get_or_from_slice_get members k f f at);
    named = refl;
    free = subst (λ (name : List ℕ). All (λ (other : Member). other.listed.name ≢ name) functions) (sym is.listed.named) (none_begun code.name.now none);
  }

  pub never_free : (name : List ℕ) → IsFreeAt codes parts name None → (f : Member) → IsFree members functions name f → ⊥
  never_free name none f free =
      let k = free.is_listed.0 in
      let at : slice_get members k ≡ Some f = slice_get-get_or members k f free.is_listed.1 ∙ ap Some free.is_listed.2 in
      let code = code_there codes members are k f at in
      none k (record { function = code.0; there = code.1; named = sym code.2.listed.named ∙ free.named }) (λ has. begun_not name has free.free)

  -- ---- the end

  cut_at : {X : Type 0} (xs : List X) (k : ℕ) (x : X) → slice_get xs k ≡ Some x → xs ≡ take k xs ++ x ∷ drop (k + 1) xs
  cut_at xs k x at =
      sym (take-append-drop k xs)
      ∙ ap (λ rest. take k xs ++ rest) (drop_more xs k x (slice_get_within xs k x at) ∙ ap (λ y. y ∷ drop (k + 1) xs) (get_or_from_slice_get xs k x x at))

  abbrev listed : List spec.Listed
  listed = map listed_of members

  listed_code : (k : ℕ) (f : spec.Listed) → slice_get listed k ≡ Some f → (code : Listed) × (slice_get codes k ≡ Some code) × IsListed code f
  listed_code k f there =
      let long = length-map members listed_of in
      let within = slice_get_within listed k f there in
      let found = at_index codes k (omega (arith, are.count, long, within)) in
      let member = at_index members k (omega (arith, long, within)) in
      let same : member.0.listed ≡ f = same_Some member.0.listed f (sym (mapped members k member.0 member.1) ∙ there) in
      (found.0, found.1, subst (IsListed found.0) same (are.each k found.0 member.0 found.1 member.1).listed)

  pub is_missing : (k : ℕ) (code : Listed) (f : Member) → slice_get codes k ≡ Some code → slice_get members k ≡ Some f → IsMemberOf code f → (HasPart codes parts code.name.now → ⊥)
      → HaveParts codes parts k → LacksPart members functions f.listed
  is_missing k code f there at is none have =
      let here = mapped members k f at in
      record {
        before = take k listed;
        after = drop (k + 1) listed;
        cut = cut_at listed k f.listed here;
        none = subst (λ (name : List ℕ). All (λ (other : spec.Listed). other.name ≢ name) (map listed_of functions)) (sym is.listed.named) (none_listed code.name.now none);
        others = λ j d within absent.
            let fits : k < length listed = slice_get_within listed k f.listed here in
            let less : j < k = omega (arith, within, fits, length-take-le k listed (omega (arith, fits))) in
            let same : get_or (take k listed) j d ≡ get_or listed j d = get_or-take k listed j d less in
            let g = get_or listed j d in
            let earlier = listed_code j g (slice_get-get_or listed j d (omega (arith, less, fits))) in
            not_listed g.name (subst (HasPart codes parts) (sym earlier.2.named) (have j earlier.0 less earlier.1))
            (subst (λ (h : spec.Listed). All (λ (other : spec.Listed). other.name ≢ h.name) (map listed_of functions)) same absent);
      }

  pub none_missing : IsMissingAt codes parts None → (f : spec.Listed) → LacksPart members functions f → ⊥
  none_missing have f missing =
      let k = length missing.before in
      let at : get_or listed k f ≡ f = ap (λ (l : List spec.Listed). get_or l k f) missing.cut ∙ get_or_at missing.before f missing.after f k refl in
      let within : k < length listed = omega (arith, ap length missing.cut, length-append missing.before (f ∷ missing.after)) in
      let there : slice_get listed k ≡ Some f = slice_get-get_or listed k f within ∙ ap Some at in
      let code = listed_code k f there in
      not_listed f.name (subst (HasPart codes parts) (sym code.2.named) (have k code.0 code.1)) missing.none
