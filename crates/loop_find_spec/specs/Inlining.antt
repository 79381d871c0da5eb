-- Which calls a script inlines, and what is then there of loops and calls, in order.
use Rattle.std.specs.Prelude.{◌≡◌, ◌+◌, ◌==◌, ◌&&◌, ◌||◌, not, Bool, true, false, if◌then◌else◌, ℕ, List, [], ◌∷◌, ◌++◌, map, bytes_eq}
use Rattle.std.specs.List.{list_any}
use Rattle.loop_find_spec.specs.declared.Inlining.{Inlining}
use Rattle.loop_find_spec.specs.declared.Inlining.TheVariants.{Never, Needed, Always}

-- a loop or a call in a function or in an inlined call, whose path is the calls that lead to it, outermost first. Loops of
-- the source are known by their numbers, its calls by theirs, and calls of the code by their addresses
pub data Item : Type 0 where
  Loop : (path : List ℕ) → (number : ℕ) → Item
  Call : (path : List ℕ) → (number : ℕ) → (callee : List ℕ) → (inlined : Bool) → Item

-- of each function, by its name, the loops and calls in its order: in the code that of addresses, in the source that of
-- the text
abbrev pub Contents : Type 0
Contents = List ℕ → List Item

-- the items of both sides
pub record Sides : Type 0 where
  pub binary : List Item
  pub source : List Item

-- ---- inlining

-- in the call at the path
abbrev pub within : List ℕ → Item → Item
within path (Loop inner number) = Loop (path ++ inner) number
within path (Call inner number callee inlined) = Call (path ++ inner) number callee inlined

-- where the calls of these names are inlined, once: what a callee has comes after its call
unfoldable pub inlined_once : Contents → (chosen : List ℕ → Bool) → List Item → List Item
inlined_once contents chosen [] = []
inlined_once contents chosen (Loop path number ∷ items) = Loop path number ∷ inlined_once contents chosen items
inlined_once contents chosen (Call path number callee inlined ∷ items) =
    if not inlined && chosen callee
    then Call path number callee true ∷ (map (within (path ++ number ∷ [])) (contents callee) ++ inlined_once contents chosen items)
    else Call path number callee inlined ∷ inlined_once contents chosen items

-- the item is a call, of such a name, that isn't inlined
abbrev pub is_call_of : (chosen : List ℕ → Bool) → Item → Bool
is_call_of chosen (Loop path number) = false
is_call_of chosen (Call path number callee inlined) = not inlined && chosen callee

-- how often the name is called
unfoldable pub calls_of : List ℕ → List Item → ℕ
calls_of name [] = 0
calls_of name (item ∷ items) = (if is_call_of (bytes_eq name) item then 1 else 0) + calls_of name items

abbrev pub has_part : (parts : List (List ℕ)) → List ℕ → Bool
has_part parts name = list_any (bytes_eq name) parts

-- the calls of this name are inlined
abbrev pub is_inlined : Inlining → (parts : List (List ℕ)) → Sides → List ℕ → Bool
is_inlined Never parts s name = false
is_inlined Needed parts s name = not (has_part parts name) || not (calls_of name s.binary == calls_of name s.source)
is_inlined Always parts s name = true

-- calls are inlined on both sides, and then those that come with them, until none is left of such a name
pub data Inlines (code source : Contents) (which : Inlining) (parts : List (List ℕ)) : Sides → Sides → Type 0 where
  settled : (s : Sides) → (list_any (is_call_of (is_inlined which parts s)) s.binary || list_any (is_call_of (is_inlined which parts s)) s.source) ≡ false
      → Inlines code source which parts s s
  inwards : (s t : Sides) → (list_any (is_call_of (is_inlined which parts s)) s.binary || list_any (is_call_of (is_inlined which parts s)) s.source) ≡ true
      → Inlines code source which parts (record {
        binary = inlined_once code (is_inlined which parts s) s.binary;
        source = inlined_once source (is_inlined which parts s) s.source;
      }) t
      → Inlines code source which parts s t
