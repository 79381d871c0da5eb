-- What changes of the lists that are kept make of the blocks.
use Rattle.std.proofs.Common.{◌≡◌, ℕ, suc, ◌<◌, ◌≤◌, List, [], ◌∷◌, ◌++◌, length, map, refl, sym, ◌∙◌, ap, subst, arith, inl, inr}
use Rattle.std.specs.Prelude.{Bool, true, false, reverse, ◌==◌, Option, Some, None}
use Rattle.std.specs.Borrow.{Bor}
use Rattle.std.proofs.lemmas.Bool.{eqb-true, eqb-false}
use Rattle.std.proofs.lemmas.List.{reverse-append, reverse-reverse, length-reverse}
use Rattle.c_types_spec.specs.Names as names
use Rattle.c_types_scope.specs.declared.entries.Entry.{Entry}
use Rattle.c_types_scope.specs.Entries.{new_entry, pair_of, since, until, hidden_since, blocks_of, AreTied, AreStarts}
use Rattle.c_types_scope.specs.Scopes.{scopes_of}
use Rattle.c_types_scope.proofs.Found.{blocks-more, starts-more, blocks-opened, starts-opened}
use Rattle.c_types_scope.proofs.Hiding.{blocks-hidden, starts-hidden}

pub reverse-push : {A : Type 0} (xs : List A) (x : A) → reverse (xs ++ x ∷ []) ≡ x ∷ reverse xs
reverse-push xs x = reverse-append xs (x ∷ [])

-- ---- a block is opened

opened : (starts more : List ℕ) (start n : ℕ) → more ≡ starts ++ start ∷ [] → start ≡ n → reverse more ≡ n ∷ reverse starts
opened starts more start n e s = ap (λ l. reverse l) e ∙ reverse-push starts start ∙ ap (λ k. k ∷ reverse starts) s

pub opened-starts : {M : Type 0} (starts more : List ℕ) (start : ℕ) (items : List (Entry M)) → more ≡ starts ++ start ∷ [] → start ≡ length items → AreStarts (reverse starts) (reverse items) → AreStarts (reverse more) (reverse items)
opened-starts starts more start items e s h =
    subst (λ l. AreStarts l (reverse items)) (sym (opened starts more start (length (reverse items)) e (s ∙ sym (length-reverse items)))) (starts-opened (reverse starts) (reverse items) h)

pub opened-blocks : {M : Type 0} (starts more : List ℕ) (start : ℕ) (items : List (Entry M)) → more ≡ starts ++ start ∷ [] → start ≡ length items → blocks_of (reverse more) (reverse items) ≡ [] ∷ blocks_of (reverse starts) (reverse items)
opened-blocks starts more start items e s =
    ap (λ l. blocks_of l (reverse items)) (opened starts more start (length (reverse items)) e (s ∙ sym (length-reverse items)))
    ∙ blocks-opened (reverse starts) (reverse items)

-- ---- the innermost block is closed

popped : (starts rest : List ℕ) (start : ℕ) → starts ≡ rest ++ start ∷ [] → reverse starts ≡ start ∷ reverse rest
popped starts rest start e = ap (λ l. reverse l) e ∙ reverse-push rest start

pub closed-starts : {M : Type 0} (starts rest : List ℕ) (start : ℕ) (items less : List (Entry M)) → starts ≡ rest ++ start ∷ [] → reverse less ≡ until start (reverse items) → AreStarts (reverse starts) (reverse items) → AreStarts (reverse rest) (reverse less)
closed-starts starts rest start items less e u h =
    let k : AreStarts (start ∷ reverse rest) (reverse items) = subst (λ l. AreStarts l (reverse items)) (popped starts rest start e) h in
    subst (λ l. AreStarts (reverse rest) l) (sym u) k.1

pub closed-blocks : {M : Type 0} (starts rest : List ℕ) (start : ℕ) (items less : List (Entry M)) → starts ≡ rest ++ start ∷ [] → reverse less ≡ until start (reverse items) → blocks_of (reverse rest) (reverse less) ≡ names.inner_closed (blocks_of (reverse starts) (reverse items))
closed-blocks starts rest start items less e u =
    ap (λ l. blocks_of (reverse rest) l) u
    ∙ sym (ap (λ l. names.inner_closed (blocks_of l (reverse items))) (popped starts rest start e))

pub none-closed : {M : Type 0} (starts rest : List ℕ) (items : List (Entry M)) → starts ≡ rest ++ [] → rest ≡ [] → blocks_of (reverse rest) (reverse items) ≡ names.inner_closed (blocks_of (reverse starts) (reverse items))
none-closed starts rest items e n = rw (e, n) refl

-- the last block is closed
pub last-hidden : {M : Type 0} (starts rest : List ℕ) (start : ℕ) (items less : List (Entry M)) → starts ≡ rest ++ start ∷ [] → rest ≡ [] → blocks_of (reverse rest) (reverse less) ≡ names.inner_hidden None (blocks_of (reverse starts) (reverse items))
last-hidden starts rest start items less e n = rw (e, n) refl

-- it is hidden, and there is a block around it
around : (rest : List ℕ) → (rest ≡ [] → ⊥) → (outer : ℕ) × (others : List ℕ) × (reverse rest ≡ outer ∷ others)
around rest h = by (reverse rest) refl
  where
    by : (r : List ℕ) → r ≡ reverse rest → (outer : ℕ) × (others : List ℕ) × (reverse rest ≡ outer ∷ others)
    by [] e = absurd (h (sym (reverse-reverse rest) ∙ ap (λ l. reverse l) (sym e)))
    by (outer ∷ others) e = (outer, others, sym e)

pub hidden-starts : {M : Type 0} (starts rest : List ℕ) (start : ℕ) (items : List (Entry M)) → starts ≡ rest ++ start ∷ [] → (rest ≡ [] → ⊥) → AreStarts (reverse starts) (reverse items) → AreStarts (reverse rest) (hidden_since start (reverse items))
hidden-starts starts rest start items e n h =
    let a = around rest n in
    let r : reverse starts ≡ start ∷ a.0 ∷ a.1 = popped starts rest start e ∙ ap (λ l. start ∷ l) a.2 in
    subst (λ l. AreStarts l (hidden_since start (reverse items))) (sym a.2) (starts-hidden start a.0 a.1 (reverse items) (subst (λ l. AreStarts l (reverse items)) r h))

pub hidden-blocks : {M : Type 0} (starts rest : List ℕ) (start : ℕ) (items : List (Entry M)) → starts ≡ rest ++ start ∷ [] → (rest ≡ [] → ⊥) → AreStarts (reverse starts) (reverse items) → blocks_of (reverse rest) (hidden_since start (reverse items)) ≡ names.inner_hidden None (blocks_of (reverse starts) (reverse items))
hidden-blocks starts rest start items e n h =
    let a = around rest n in
    let r : reverse starts ≡ start ∷ a.0 ∷ a.1 = popped starts rest start e ∙ ap (λ l. start ∷ l) a.2 in
    ap (λ l. blocks_of l (hidden_since start (reverse items))) a.2
    ∙ blocks-hidden start a.0 a.1 (reverse items) (subst (λ l. AreStarts l (reverse items)) r h)
    ∙ sym (ap (λ l. names.inner_hidden None (blocks_of l (reverse items))) r)

-- ---- a name is declared

pub declared-starts : {M : Type 0} (starts : List ℕ) (items more : List (Entry M)) (entry : Entry M) → (starts ≡ [] → ⊥) → reverse more ≡ entry ∷ reverse items → AreStarts (reverse starts) (reverse items) → AreStarts (reverse starts) (reverse more)
declared-starts starts items more entry n e h =
    let a = around starts n in
    subst (λ l. AreStarts (reverse starts) l) (sym e)
    (subst (λ l. AreStarts l (entry ∷ reverse items)) (sym a.2) (starts-more a.0 a.1 entry (reverse items) (subst (λ l. AreStarts l (reverse items)) a.2 h)))

pub declared-blocks : {M : Type 0} (file : names.Scope (Option M)) (starts : List ℕ) (items more : List (Entry M)) (name : Bor (List ℕ)) (meaning : Option M) (before : Option ℕ) → (starts ≡ [] → ⊥) → reverse more ≡ new_entry name meaning before ∷ reverse items → AreStarts (reverse starts) (reverse items)
    → scopes_of (file, blocks_of (reverse starts) (reverse more)) ≡ names.declared name.now meaning (scopes_of (file, blocks_of (reverse starts) (reverse items)))
declared-blocks file starts items more name meaning before n e h =
    let a = around starts n in
    let k : AreStarts (a.0 ∷ a.1) (reverse items) = subst (λ l. AreStarts l (reverse items)) a.2 h in
    ap (λ l. scopes_of (file, blocks_of l (reverse more))) a.2
    ∙ ap (λ l. scopes_of (file, blocks_of (a.0 ∷ a.1) l)) e
    ∙ ap (λ l. scopes_of (file, l)) (blocks-more a.0 a.1 (new_entry name meaning before) (reverse items) k.0)
    ∙ sym (ap (λ l. names.declared name.now meaning (scopes_of (file, blocks_of l (reverse items)))) a.2)

pub is-empty : {A : Type 0} (xs : List A) (n : ℕ) (b : Bool) → b ≡ (n == 0) → b ≡ true → n ≡ length xs → xs ≡ []
is-empty [] n b e t s = refl
is-empty (x ∷ xs) n b e t s = let k : n ≡ 0 = eqb-true n 0 (sym e ∙ t) in absurd (omega arith)

pub not-empty : {A : Type 0} (xs : List A) (n : ℕ) (b : Bool) → b ≡ (n == 0) → b ≡ false → n ≡ length xs → xs ≡ [] → ⊥
not-empty xs n b e f s z = eqb-false n 0 (sym e ∙ f) (s ∙ ap length z)

-- a name is declared in the file scope
pub declared-file : {M : Type 0} (old new : names.Scope (Option M)) (starts : List ℕ) (entries : List (Entry M)) (name : List ℕ) (meaning : Option M) → starts ≡ [] → new ≡ names.put name meaning old
    → scopes_of (new, blocks_of (reverse starts) entries) ≡ names.declared name meaning (scopes_of (old, blocks_of (reverse starts) entries))
declared-file old new starts entries name meaning e n = rw (e, n) refl
