-- A part with items after it that are taken into its value is read exactly.
use Rattle.std.proofs.Common.{◌≡◌, Bool, List, [], ◌∷◌, ◌++◌, refl, ap, sym, ◌∙◌, subst, append_assoc, append-nil}
use Rattle.std.specs.Prelude.{fold}
use Rattle.exact_read.specs.Reading.{Marks, Stops}
use Rattle.exact_read.specs.Grammar.{Many, none, some, context_after, opens}
use Rattle.exact_read.specs.Folds.{Folded, base, step}

-- the context of a value that has taken an item in is the next
abbrev pub Steps : {X I C : Type 0} → (next : C → I → C) → (apply : X → I → X) → (context : X → C) → Type 0
Steps {X} {I} {C} next apply context = (x : X) (i : I) → context (apply x i) ≡ next (context x) i

pub context_after-fold : {X I C : Type 0} (next : C → I → C) (apply : X → I → X) (context : X → C) → Steps next apply context → (x : X) (items : List I) → context_after next (context x) items ≡ context (fold apply x items)
context_after-fold next apply context steps x [] = refl
context_after-fold next apply context steps x (i ∷ items) = ap (λ c. context_after next c items) (sym (steps x i)) ∙ context_after-fold next apply context steps (apply x i) items

fold-last : {X I : Type 0} (apply : X → I → X) (x : X) (items : List I) (i : I) → fold apply x (items ++ i ∷ []) ≡ apply (fold apply x items) i
fold-last apply x [] i = refl
fold-last apply x (j ∷ items) i = fold-last apply (apply x j) items i

many-last : {U I C : Type 0} (next : C → I → C) (Item : C → I → List U → Type 0) (c : C) (items : List I) (text : List U) (i : I) (right : List U) → Many next Item c items text → Item (context_after next c items) i right → Many next Item c (items ++ i ∷ []) (text ++ right)
many-last next Item c items text i right (none d) one = subst (λ t. Many next Item d (i ∷ []) t) (append-nil right) (some d i [] right [] one (none (next d i)))
many-last next Item c items text i right (some d j rest left more first others) one =
    subst (λ t. Many next Item d (j ∷ (rest ++ i ∷ [])) t) (sym (append_assoc left more right)) (some d j (rest ++ i ∷ []) left (more ++ right) first (many-last next Item (next d j) rest more i right others one))

-- the parts of a folded text
pub record Parts {U X I C : Type 0} (next : C → I → C) (apply : X → I → X) (context : X → C) (Base : X → List U → Type 0) (Item : C → I → List U → Type 0) (value : X) (text : List U) : Type 0 where
  pub first : X
  pub items : List I
  pub left : List U
  pub right : List U
  pub is_base : Base first left
  pub are_items : Many next Item (context first) items right
  pub is : value ≡ fold apply first items
  pub cut : text ≡ left ++ right

pub parts_of : {U X I C : Type 0} (next : C → I → C) (apply : X → I → X) (context : X → C) (Base : X → List U → Type 0) (Item : C → I → List U → Type 0) → Steps next apply context → (value : X) (text : List U) → Folded apply context Base Item value text → Parts next apply context Base Item value text
parts_of next apply context Base Item steps value text (base x t one) =
    record { first = x; items = []; left = t; right = []; is_base = one; are_items = none (context x); is = refl; cut = sym (append-nil t) }
parts_of {U} {X} {I} {C} next apply context Base Item steps value text (step x i left right before one) =
    let p = parts_of next apply context Base Item steps x left before in
    record {
      first = p.first;
      items = p.items ++ i ∷ [];
      left = p.left;
      right = p.right ++ right;
      is_base = p.is_base;
      are_items = many-last next Item (context p.first) p.items p.right i right p.are_items
          (subst (λ (c : C). Item c i right) (ap context p.is ∙ sym (context_after-fold next apply context steps p.first p.items)) one);
      is = ap (λ v. apply v i) p.is ∙ sym (fold-last apply p.first p.items i);
      cut = ap (λ t. t ++ right) p.cut ∙ append_assoc p.left p.right right;
    }

pub folded_by : {U X I C : Type 0} (next : C → I → C) (apply : X → I → X) (context : X → C) (Base : X → List U → Type 0) (Item : C → I → List U → Type 0) → Steps next apply context
    → (x : X) (left : List U) → Folded apply context Base Item x left → (c : C) (items : List I) (right : List U) → Many next Item c items right → c ≡ context x → Folded apply context Base Item (fold apply x items) (left ++ right)
folded_by next apply context Base Item steps x left before c items right (none d) same = subst (λ t. Folded apply context Base Item x t) (sym (append-nil left)) before
folded_by {U} {X} {I} {C} next apply context Base Item steps x left before c items right (some d i rest one more first others) same =
    subst (λ t. Folded apply context Base Item (fold apply (apply x i) rest) t) (append_assoc left one more)
    (folded_by next apply context Base Item steps (apply x i) (left ++ one) (step x i left one before (subst (λ (k : C). Item k i one) same first)) (next d i) rest more others
    (ap (λ k. next k i) same ∙ sym (steps x i)))

-- what the base and the items ask
pub record Foldable {T U X I C : Type 0} (marks : Marks T U) (starts ends : C → T → Bool) (next : C → I → C) (apply : X → I → X) (context : X → C) (Base : X → List U → Type 0) (stop_base : X → T → Bool) : Type 0 where
  pub steps : Steps next apply context
  -- the base stops where an item or the end of the items can occur
  pub joins : (x : X) (text : List U) → Base x text → (rest : List T) → Stops (opens starts ends (context x)) rest → Stops (stop_base x) rest
  pub leads : (x : X) (rest : List T) → Stops (stop_base x) rest → Stops (opens starts ends (context x)) rest
