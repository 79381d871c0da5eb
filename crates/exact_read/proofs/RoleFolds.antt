-- A part with items after it that are taken into its value keeps roles.
use Rattle.std.proofs.Common.{◌≡◌, inr, Bool, List, [], ◌∷◌, ◌++◌, refl, ap, sym, subst, ◌&&◌, not, Ok, Err}
use Rattle.std.specs.Prelude.{fold}
use Rattle.exact_read.specs.Reading.{Outcome, Parser, Marks, plains}
use Rattle.exact_read.specs.Grammar.{bind, read_map, read_then, Map, Then, read_many, Many, none, stop_many}
use Rattle.exact_read.specs.Folds.{read_after, read_folded, Folded, base}
use Rattle.exact_read.proofs.Then.{Joins}
use Rattle.exact_read.proofs.Many.{Items, many_opens}
use Rattle.exact_read.proofs.Folds.{Foldable, context_after-fold, parts_of, folded_by}
use Rattle.exact_read.specs.Roles.{Roled}
use Rattle.exact_read.specs.Expected.{Roles}
use Rattle.exact_read.proofs.RoleBasics.{Meets, roled-map, roled-same}
use Rattle.exact_read.proofs.RoleThen.{Follows, roled-then_within}
use Rattle.exact_read.proofs.RoleMany.{ItemRoles, many_ending, many_enters, no_items, roled-many}

pub roled-folded : {T U K X I C : Type 0} {marks : Marks T U} {roles : Roles U K} {entry : T → Bool} {starts ends : C → T → Bool} {next : C → I → C} {apply : X → I → X} {context : X → C} {Base : X → List U → Type 0} {stop_base : X → T → Bool} {ending_base : X → K} {Item : C → I → List U → Type 0} {stop_item : C → I → T → Bool} {ending_item : C → I → K} {end_of : C → K} {read_base : Parser T K X} {item : C → Parser T K I}
    → Foldable marks starts ends next apply context Base stop_base → Items marks starts ends Item stop_item next → ItemRoles marks roles starts Item next ending_item end_of ⊥ item → ((x : X) (text : List U) → Base x text → Meets roles (ending_base x) (end_of (context x)))
    → Roled marks roles entry Base stop_base ending_base ⊥ read_base → ((c : C) → Roled marks roles (starts c) (Item c) (stop_item c) (ending_item c) ⊥ (item c))
    → Roled marks roles entry (Folded apply context Base Item) (λ x token. ends (context x) token && not (starts (context x) token)) (λ x. end_of (context x)) ⊥ (read_folded starts item next apply context read_base)
roled-folded {T} {U} {K} {X} {I} {C} {marks} {roles} {entry} {starts} {ends} {next} {apply} {context} {Base} {stop_base} {ending_base} {Item} {stop_item} {ending_item} {end_of} {read_base} {item} fold_is items report base_ends base_is item_is =
    roled-same entry (Folded apply context Base Item) (read_folded starts item next apply context read_base) (λ token h. h) to from same_read
    (roled-map (λ (pair : X × List I). fold apply pair.0 pair.1) (λ x token. ends (context x) token && not (starts (context x) token)) (λ x. end_of (context x)) same_stop same_ending
    (roled-then_within base_is (λ x left one within. following x) joins follows))
  where
    following : (x : X) → Roled marks roles (stop_base x) (Many next Item (context x)) (stop_many starts ends next (context x)) (many_ending next end_of (context x)) ⊥ (read_many starts item next (context x))
    following x = roled-same (stop_base x) (Many next Item (context x)) (read_many starts item next (context x)) (λ token h. fold_is.leads x (token ∷ []) h) (λ xs text h. h) (λ xs text h. h) (λ before. refl) (roled-many items report item_is (context x))

    same_outcome : (o : Outcome T K X) → bind o (λ x rest. read_after starts item next apply context x rest) ≡ bind {X = X × List I} (bind o (λ x rest. bind (read_many starts item next (context x) rest) (λ items after. Ok ((x, items), after)))) (λ pair rest. Ok (fold apply pair.0 pair.1, rest))
    same_outcome (Err fault) = refl
    same_outcome (Ok (x, rest)) = by_items x (read_many starts item next (context x) rest)
      where
        by_items : (x : X) (o : Outcome T K (List I)) → bind o (λ items after. Ok (fold apply x items, after)) ≡ bind {X = X × List I} (bind o (λ items after. Ok ((x, items), after))) (λ pair rest. Ok (fold apply pair.0 pair.1, rest))
        by_items x (Ok (items, after)) = refl
        by_items x (Err fault) = refl

    same_read : (before : List T) → read_folded starts item next apply context read_base before ≡ read_map (λ (pair : X × List I). fold apply pair.0 pair.1) (read_then read_base (λ x. read_many starts item next (context x))) before
    same_read before = same_outcome (read_base before)

    same_stop : (pair : X × List I) → (λ (token : T). ends (context (fold apply pair.0 pair.1)) token && not (starts (context (fold apply pair.0 pair.1)) token)) ≡ stop_many starts ends next (context pair.0) pair.1
    same_stop pair = ap {B = T → Bool} (λ (c : C) (token : T). ends c token && not (starts c token)) (sym (context_after-fold next apply context fold_is.steps pair.0 pair.1))

    same_ending : (pair : X × List I) → Meets roles (many_ending next end_of (context pair.0) pair.1) (end_of (context (fold apply pair.0 pair.1)))
    same_ending pair = inr (ap end_of (context_after-fold next apply context fold_is.steps pair.0 pair.1))

    follows : Follows marks roles Base stop_base ending_base ⊥ (λ x. Many next Item (context x)) (λ x. many_ending next end_of (context x)) ⊥ (λ x. read_many starts item next (context x))
    follows =
        record {
          between = λ x left kind rest is stops e. absurd ((many_enters items report item_is (context x) rest kind e).0);
          empty = λ x xs left one two. subst (λ ys. Meets roles (ending_base x) (many_ending next end_of (context x) ys)) (sym (no_items items (context x) xs [] two refl)) (base_ends x left one);
          loose = λ never x left u one n. absurd never;
          loose_empty = λ never x xs left one two. absurd never;
        }

    joins : Joins marks Base stop_base (λ x. Many next Item (context x)) (λ x. stop_many starts ends next (context x))
    joins =
        record {
          ends = λ x xs left right rest one many stops. fold_is.joins x left one (plains marks right ++ rest) (many_opens items (context x) xs right rest many stops);
          goes_on = λ x left one. ([], [], none (context x));
        }

    to : (x : X) (text : List U) → Map (λ (pair : X × List I). fold apply pair.0 pair.1) (Then Base (λ x. Many next Item (context x))) x text → Folded apply context Base Item x text
    to x text m =
        let pair = m.inner in
        let t = m.derives in
        rw (m.is, t.cut) (folded_by next apply context Base Item fold_is.steps pair.0 t.left (base pair.0 t.left t.first) (context pair.0) pair.1 t.right t.second refl)

    from : (x : X) (text : List U) → Folded apply context Base Item x text → Map (λ (pair : X × List I). fold apply pair.0 pair.1) (Then Base (λ x. Many next Item (context x))) x text
    from x text f =
        let p = parts_of next apply context Base Item fold_is.steps x text f in
        record { inner = (p.first, p.items); is = p.is; derives = record { left = p.left; right = p.right; cut = p.cut; first = p.is_base; second = p.are_items } }
