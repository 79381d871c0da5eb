-- What a name means after a declaration of it or of another name, and where scopes begin and end.
use Rattle.std.proofs.Common.{◌≡◌, ℕ, zero, suc, Bool, true, false, cond, List, [], ◌∷◌, ◌++◌, Option, Some, None, IfSome, bytes_eq, find, option_map, slice_get, slice_set, if◌then◌else◌, refl, sym, ap, subst, ◌∙◌}
use Rattle.std.proofs.lemmas.Slice.Eq.{bytes_eq-Decides}
use Rattle.c_token_spec.specs.Words.{entry_of}
use Rattle.c_types_spec.specs.Names.{Scopes, in_blocks, in_scope, put, declared, opened, closed, closed_hidden, all_mean}
use Rattle.std.proofs.lemmas.Option.{none-some}
use Rattle.c_types_laws.specs.Blocks.{all_declared, in_two_blocks}

-- what holds of each element
abbrev pub Each : {X : Type 0} → (X → Type 0) → List X → Type 0
Each P [] = Unit {0}
Each P (x ∷ xs) = P x × Each P xs

pub each_append : {X : Type 0} (P : X → Type 0) (xs ys : List X) → Each P xs → Each P ys → Each P (xs ++ ys)
each_append P [] ys h k = k
each_append P (x ∷ xs) ys h k = (h.0, each_append P xs ys h.1 k)

pub each_more : {X : Type 0} (P Q : X → Type 0) (xs : List X) → ((x : X) → P x → Q x) → Each P xs → Each Q xs
each_more P Q [] f h = tt
each_more P Q (x ∷ xs) f h = (f x h.0, each_more P Q xs f h.1)

-- of an element that is found, or set
pub find-each : {X : Type 0} (P : X → Type 0) (test : X → Bool) (xs : List X) → Each P xs → IfSome (find test xs) P
find-each P test [] h = tt
find-each P test (x ∷ xs) h = by_test (test x) (find-each P test xs h.1)
  where
    by_test : (b : Bool) → IfSome (find test xs) P → IfSome (cond b (Some x) (find test xs)) P
    by_test true again = h.0
    by_test false again = again

pub get-each : {X : Type 0} (P : X → Type 0) (xs : List X) (i : ℕ) → Each P xs → IfSome (slice_get xs i) P
get-each P [] i h = tt
get-each P (x ∷ xs) zero h = h.0
get-each P (x ∷ xs) (suc i) h = get-each P xs i h.1

pub each_set : {X : Type 0} (P : X → Type 0) (xs : List X) (i : ℕ) (x : X) → P x → Each P xs → Each P (slice_set xs i x)
each_set P [] i x h k = tt
each_set P (y ∷ xs) zero x h k = (h, k.1)
each_set P (y ∷ xs) (suc i) x h k = (k.0, each_set P xs i x h k.1)

pub bytes_eq_itself : (name : List ℕ) → bytes_eq name name ≡ true
bytes_eq_itself name = (bytes_eq-Decides name name).1 refl

pub bytes_eq-same : (a b : List ℕ) → bytes_eq a b ≡ true → a ≡ b
bytes_eq-same a b e = (bytes_eq-Decides a b).0 e

-- ---- one scope

-- the entry that is found, by the test of the first one
abbrev step : {V : Type 0} → (List ℕ × V) → List (List ℕ × V) → (name : List ℕ) → Bool → Option V
step {V} entry table name b = option_map (λ (x : List ℕ × V). x.1) (cond b (Some entry) (find (λ (x : List ℕ × V). bytes_eq x.0 name) table))

pub entry_of-first : {V : Type 0} (entry : List ℕ × V) (table : List (List ℕ × V)) (name : List ℕ) → bytes_eq entry.0 name ≡ true → entry_of (entry ∷ table) name ≡ Some entry.1
entry_of-first entry table name e = ap (step entry table name) e

pub entry_of-later : {V : Type 0} (entry : List ℕ × V) (table : List (List ℕ × V)) (name : List ℕ) → bytes_eq entry.0 name ≡ false → entry_of (entry ∷ table) name ≡ entry_of table name
entry_of-later entry table name e = ap (step entry table name) e

-- what holds of each entry holds of the one that is found
pub entry_of-each : {V : Type 0} (P : V → Type 0) (table : List (List ℕ × V)) (name : List ℕ) → Each (λ (x : List ℕ × V). P x.1) table → IfSome (entry_of table name) P
entry_of-each P [] name h = tt
entry_of-each P (entry ∷ table) name h = by_test (bytes_eq entry.0 name) (entry_of-each P table name h.1)
  where
    by_test : (b : Bool) → IfSome (entry_of table name) P → IfSome (step entry table name b) P
    by_test true again = h.0
    by_test false again = again

module _ {M : Type 0} where
  pub put_same : (name : List ℕ) (m : M) (scope : List (List ℕ × M)) → entry_of (put name m scope) name ≡ Some m
  put_same name m [] = entry_of-first (name, m) [] name (bytes_eq_itself name)
  put_same name m (entry ∷ scope) = by_test (bytes_eq entry.0 name) refl (put_same name m scope)
    where
      by_test : (b : Bool) → bytes_eq entry.0 name ≡ b → entry_of (put name m scope) name ≡ Some m → entry_of (if b then (entry.0, m) ∷ scope else entry ∷ put name m scope) name ≡ Some m
      by_test true e again = entry_of-first (entry.0, m) scope name e
      by_test false e again = entry_of-later entry (put name m scope) name e ∙ again

  pub put_other : (name other : List ℕ) (m : M) (scope : List (List ℕ × M)) → bytes_eq name other ≡ false → entry_of (put name m scope) other ≡ entry_of scope other
  put_other name other m [] differ = entry_of-later (name, m) [] other differ
  put_other name other m (entry ∷ scope) differ = by_test (bytes_eq entry.0 name) refl (put_other name other m scope differ)
    where
      by_other : (b : Bool) → bytes_eq entry.0 other ≡ b → entry_of (put name m scope) other ≡ entry_of scope other → entry_of (entry ∷ put name m scope) other ≡ entry_of (entry ∷ scope) other
      by_other true e again = entry_of-first entry (put name m scope) other e ∙ sym (entry_of-first entry scope other e)
      by_other false e again = entry_of-later entry (put name m scope) other e ∙ again ∙ sym (entry_of-later entry scope other e)

      by_test : (b : Bool) → bytes_eq entry.0 name ≡ b → entry_of (put name m scope) other ≡ entry_of scope other → entry_of (if b then (entry.0, m) ∷ scope else entry ∷ put name m scope) other ≡ entry_of (entry ∷ scope) other
      by_test true e again =
          let apart : bytes_eq entry.0 other ≡ false = subst (λ n. bytes_eq n other ≡ false) (sym (bytes_eq-same entry.0 name e)) differ in
          entry_of-later (entry.0, m) scope other apart ∙ sym (entry_of-later entry scope other apart)
      by_test false e again = by_other (bytes_eq entry.0 other) refl again

  pub each_put : (P : M → Type 0) (name : List ℕ) (m : M) (scope : List (List ℕ × M)) → P m → Each (λ (x : List ℕ × M). P x.1) scope → Each (λ (x : List ℕ × M). P x.1) (put name m scope)
  each_put P name m [] h k = (h, tt)
  each_put P name m (entry ∷ scope) h k = by_test (bytes_eq entry.0 name) (each_put P name m scope h k.1)
    where
      by_test : (b : Bool) → Each (λ (x : List ℕ × M). P x.1) (put name m scope) → Each (λ (x : List ℕ × M). P x.1) (if b then (entry.0, m) ∷ scope else entry ∷ put name m scope)
      by_test true again = (h, k.1)
      by_test false again = (k.0, again)

  -- ---- scopes in scopes

  abbrev found : Option M → Option M → Option M
  found inner outer = elim inner [ Some meaning ↦ Some meaning | None ↦ outer ]

  abbrev pub AreAll : (M → Type 0) → List (List ℕ × M) → Type 0
  AreAll P scope = Each (λ (x : List ℕ × M). P x.1) scope

  -- what holds of each meaning holds of the one that is found
  pub in_blocks-each : (P : M → Type 0) (blocks : List (List (List ℕ × M))) (name : List ℕ) → Each (AreAll P) blocks → IfSome (in_blocks blocks name) P
  in_blocks-each P [] name h = tt
  in_blocks-each P (block ∷ blocks) name h = by_entry (entry_of block name) (entry_of-each P block name h.0) (in_blocks-each P blocks name h.1)
    where
      by_entry : (o : Option M) → IfSome o P → IfSome (in_blocks blocks name) P → IfSome (found o (in_blocks blocks name)) P
      by_entry (Some m) k again = k
      by_entry None k again = again

  pub in_scope-each : (P : M → Type 0) (scopes : Scopes M) (name : List ℕ) → AreAll P scopes.file → Each (AreAll P) scopes.blocks → IfSome (in_scope scopes name) P
  in_scope-each P scopes name h k = by_blocks (in_blocks scopes.blocks name) (in_blocks-each P scopes.blocks name k) (entry_of-each P scopes.file name h)
    where
      by_blocks : (o : Option M) → IfSome o P → IfSome (entry_of scopes.file name) P → IfSome (found o (entry_of scopes.file name)) P
      by_blocks (Some m) l again = l
      by_blocks None l again = again

  -- of what is declared too
  pub declared-each : (P : M → Type 0) (scopes : Scopes M) (name : List ℕ) (m : M) → P m → AreAll P scopes.file → Each (AreAll P) scopes.blocks → AreAll P (declared name m scopes).file × Each (AreAll P) (declared name m scopes).blocks
  declared-each P scopes name m p h k = by_blocks scopes.file scopes.blocks h k
    where
      by_blocks : (file : List (List ℕ × M)) (blocks : List (List (List ℕ × M))) → AreAll P file → Each (AreAll P) blocks
          → AreAll P (declared name m (record { file = file; blocks = blocks })).file × Each (AreAll P) (declared name m (record { file = file; blocks = blocks })).blocks
      by_blocks file [] f g = (each_put P name m file p f, tt)
      by_blocks file (block ∷ blocks) f g = (f, ((p, g.0), g.1))

  -- a name means what it was declared as last in the innermost scope that declares it
  pub declared-same : (name : List ℕ) (m : M) (scopes : Scopes M) → in_scope (declared name m scopes) name ≡ Some m
  declared-same name m scopes = by_blocks scopes.file scopes.blocks
    where
      by_blocks : (file : List (List ℕ × M)) (blocks : List (List (List ℕ × M))) → in_scope (declared name m (record { file = file; blocks = blocks })) name ≡ Some m
      by_blocks file [] = put_same name m file
      by_blocks file (block ∷ blocks) =
          ap (λ o. found (found o (in_blocks blocks name)) (entry_of file name)) (entry_of-first (name, m) block name (bytes_eq_itself name))

  -- and a declaration changes no other name
  pub declared-other : (name other : List ℕ) (m : M) (scopes : Scopes M) → bytes_eq name other ≡ false → in_scope (declared name m scopes) other ≡ in_scope scopes other
  declared-other name other m scopes differ = by_blocks scopes.file scopes.blocks
    where
      by_blocks : (file : List (List ℕ × M)) (blocks : List (List (List ℕ × M))) → in_scope (declared name m (record { file = file; blocks = blocks })) other ≡ in_scope (record { file = file; blocks = blocks }) other
      by_blocks file [] = put_other name other m file differ
      by_blocks file (block ∷ blocks) =
          ap (λ o. found (found o (in_blocks blocks other)) (entry_of file other)) (entry_of-later (name, m) block other differ)

  -- a new block changes the meaning of no name
  pub opened-same : (scopes : Scopes M) (name : List ℕ) → in_scope (opened scopes) name ≡ in_scope scopes name
  opened-same scopes name = refl

  -- after a block the scopes are those before it, whatever the block declared
  closed-by : (list : List (List ℕ × M)) (file block : List (List ℕ × M)) (blocks : List (List (List ℕ × M)))
      → closed (all_declared list (record { file = file; blocks = block ∷ blocks })) ≡ record { file = file; blocks = blocks }
  closed-by [] file block blocks = refl
  closed-by (entry ∷ list) file block blocks = closed-by list file ((entry.0, entry.1) ∷ block) blocks

  pub closed-same : (list : List (List ℕ × M)) (scopes : Scopes M) → closed (all_declared list (opened scopes)) ≡ scopes
  closed-same list scopes = closed-by list scopes.file [] scopes.blocks

  -- what a hidden block declared is hidden, and all else is as where it is closed
  mean-found : (hidden m : M) (block outer : List (List ℕ × M)) (name : List ℕ) → entry_of block name ≡ Some m → entry_of (all_mean hidden block ++ outer) name ≡ Some hidden
  mean-found hidden m [] outer name e = absurd (none-some m e)
  mean-found hidden m (entry ∷ block) outer name e = by_test (bytes_eq entry.0 name) refl (mean-found hidden m block outer name)
    where
      by_test : (b : Bool) → bytes_eq entry.0 name ≡ b → (entry_of block name ≡ Some m → entry_of (all_mean hidden block ++ outer) name ≡ Some hidden) → entry_of ((entry.0, hidden) ∷ (all_mean hidden block ++ outer)) name ≡ Some hidden
      by_test true same again = entry_of-first (entry.0, hidden) (all_mean hidden block ++ outer) name same
      by_test false apart again = entry_of-later (entry.0, hidden) (all_mean hidden block ++ outer) name apart ∙ again (sym (entry_of-later entry block name apart) ∙ e)

  mean-none : (hidden : M) (block outer : List (List ℕ × M)) (name : List ℕ) → entry_of block name ≡ None → entry_of (all_mean hidden block ++ outer) name ≡ entry_of outer name
  mean-none hidden [] outer name e = refl
  mean-none hidden (entry ∷ block) outer name e = by_test (bytes_eq entry.0 name) refl (mean-none hidden block outer name)
    where
      by_test : (b : Bool) → bytes_eq entry.0 name ≡ b → (entry_of block name ≡ None → entry_of (all_mean hidden block ++ outer) name ≡ entry_of outer name) → entry_of ((entry.0, hidden) ∷ (all_mean hidden block ++ outer)) name ≡ entry_of outer name
      by_test true same again = absurd (none-some entry.1 (sym e ∙ entry_of-first entry block name same))
      by_test false apart again = entry_of-later (entry.0, hidden) (all_mean hidden block ++ outer) name apart ∙ again (sym (entry_of-later entry block name apart) ∙ e)

  pub hidden-found : (hidden m : M) (file block outer : List (List ℕ × M)) (blocks : List (List (List ℕ × M))) (name : List ℕ) → entry_of block name ≡ Some m
      → in_scope (closed_hidden hidden (in_two_blocks file block outer blocks)) name ≡ Some hidden
  hidden-found hidden m file block outer blocks name e = ap (λ o. found (found o (in_blocks blocks name)) (entry_of file name)) (mean-found hidden m block outer name e)

  pub hidden-none : (hidden : M) (file block outer : List (List ℕ × M)) (blocks : List (List (List ℕ × M))) (name : List ℕ) → entry_of block name ≡ None
      → in_scope (closed_hidden hidden (in_two_blocks file block outer blocks)) name ≡ in_scope (closed (in_two_blocks file block outer blocks)) name
  hidden-none hidden file block outer blocks name e = ap (λ o. found (found o (in_blocks blocks name)) (entry_of file name)) (mean-none hidden block outer name e)
