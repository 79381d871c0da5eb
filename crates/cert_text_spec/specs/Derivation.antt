-- Grammars in which each production begins with an item, so that the items of a text determine its derivation.
use Rattle.std.specs.Prelude.{ℕ, List, [], ◌∷◌, ◌++◌}

-- The items are a text where these are expected, in order. Where one is expected an item stands that fits there, and what is
-- expected after that item.
pub data Derives {N I : Type 0} (Fits : N → I → Type 0) (after : N → I → List N) : List N → List I → Type 0 where
  none : Derives Fits after [] []
  some : (n : N) (others : List N) (i : I) (items : List I) → Fits n i → Derives Fits after (after n i ++ others) items → Derives Fits after (n ∷ others) (i ∷ items)

-- the spelling of items, where that of an item may depend on what is expected there
unfoldable pub spelled : {N I : Type 0} → (after : N → I → List N) → (text : N → I → List ℕ) → List N → List I → List ℕ
spelled after text expected [] = []
spelled after text [] (i ∷ items) = []
spelled after text (n ∷ others) (i ∷ items) = text n i ++ spelled after text (after n i ++ others) items
