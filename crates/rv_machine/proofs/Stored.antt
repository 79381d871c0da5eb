-- What a store of each kind comes to, of the four bytes that it takes its own from.
use Rattle.std.proofs.Common.{◌≡◌, ℕ, ◌%◌, ◌/◌, cond, List, [], ◌∷◌, take, sym, ap, subst, ◌∙◌, Some, None, eq-eqb}
use Rattle.memory_spec.specs.Memory.{Memory}
use Rattle.rv_instr.specs.declared.StoreKind.{StoreKind}
use Rattle.rv_instr.specs.declared.StoreKind.TheVariants.{Byte, Half, Word}
use Rattle.rv_machine_spec.specs.Machine.{store_half, store_word}
use Rattle.rv_machine_spec.specs.Step.{store}
use Rattle.rv_machine.specs.Stores.{store_bytes, store_size}
use Rattle.rv_machine.proofs.Bytes.{one_stored, two_stored, four_stored}

abbrev four : ℕ → List ℕ
four value = value % 256 ∷ value / 256 % 256 ∷ value / 65536 % 256 ∷ value / 16777216 % 256 ∷ []

module _ (kind : StoreKind) (memory after : Memory) (a value : ℕ) (bytes : List ℕ) (given : bytes ≡ four value) (fits : a % store_size kind ≡ 0) where
  pub byte_done : kind ≡ Byte → after ≡ store_bytes memory a (take 1 bytes) → store kind memory a value ≡ Some after
  unfolding store
  byte_done is done =
      ap (λ j. store j memory a value) is ∙ ap Some (sym (done ∙ ap (λ bs. store_bytes memory a (take 1 bs)) given ∙ one_stored memory a value))

  pub half_done : kind ≡ Half → after ≡ store_bytes memory a (take 2 bytes) → store kind memory a value ≡ Some after
  unfolding store
  half_done is done =
      let even : a % 2 ≡ 0 = subst (λ j. a % store_size j ≡ 0) is fits in
      ap (λ j. store j memory a value) is ∙ ap (λ t. cond t (Some (store_half memory a value)) None) (eq-eqb (a % 2) 0 even)
      ∙ ap Some (sym (done ∙ ap (λ bs. store_bytes memory a (take 2 bs)) given ∙ two_stored memory a value))

  pub word_done : kind ≡ Word → after ≡ store_bytes memory a bytes → store kind memory a value ≡ Some after
  unfolding store
  word_done is done =
      let even : a % 4 ≡ 0 = subst (λ j. a % store_size j ≡ 0) is fits in
      ap (λ j. store j memory a value) is ∙ ap (λ t. cond t (Some (store_word memory a value)) None) (eq-eqb (a % 4) 0 even)
      ∙ ap Some (sym (done ∙ ap (store_bytes memory a) given ∙ four_stored memory a value))
