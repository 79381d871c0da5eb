-- A function is shown in one way.
use Rattle.std.proofs.Common.{◌≡◌, ℕ, suc, List, [], ◌∷◌, map, length, All, Some, refl, ap, sym, ◌∙◌, subst, arith}
use Rattle.elf_read_spec.specs.Image.{Image, function_named, size_at}
use Rattle.elf_read_spec.specs.declared.SymbolValues.TheVariants.{One}
use Rattle.c_types_spec.specs.Core.{Body, Typed}
use Rattle.code_reach_spec.specs.Code.{word_at, IsStack, AreReachable}
use Rattle.code_reach.specs.Found.{IsCode}
use Rattle.pair_setup_spec.specs.SourceReach.{body_of}
use Rattle.report_text_spec.specs.Verdict.{Shown}
use Rattle.tv_core_spec.specs.Verdicts.{IsShown}
use Rattle.pair_setup_spec.proofs.Stacks.{one_stack, same_places}

-- words are those at their addresses
same_words : (image : Image) (one two : List (ℕ × ℕ)) → map (λ w. w.0) one ≡ map (λ w. w.0) two → All (λ w. word_at image w.0 ≡ Some w.1) one
    → All (λ w. word_at image w.0 ≡ Some w.1) two → one ≡ two
same_words image [] [] e x y = refl
same_words image [] (b ∷ two) e x y = absurd (cc)
same_words image (a ∷ one) [] e x y = absurd (cc)
same_words image (a ∷ one) (b ∷ two) e x y =
    let address : a.0 ≡ b.0 = cc in
    let rest : map (λ (w : ℕ × ℕ). w.0) one ≡ map (λ (w : ℕ × ℕ). w.0) two = cc in
    let left : word_at image a.0 ≡ Some a.1 = x 0 a (omega arith) in
    let right : word_at image b.0 ≡ Some b.1 = y 0 b (omega arith) in
    let again : word_at image a.0 ≡ Some b.1 = ap (word_at image) address ∙ right in
    let word : a.1 ≡ b.1 = cc in
    let later = same_words image one two rest (λ k d inside. x (suc k) d (omega arith)) (λ k d inside. y (suc k) d (omega arith)) in
    λ i. (address i, word i) ∷ later i

one_code : (image : Image) (entry other : ℕ) (one two : List (ℕ × ℕ)) → entry ≡ other → IsCode image entry one → IsCode image other two → one ≡ two
one_code image entry other one two same x y =
    let left = x.size_is in
    let right : size_at image entry ≡ Some y.size = ap (size_at image) same ∙ y.size_is in
    let sizes : y.size ≡ x.size = cc in
    let places : AreReachable image entry x.size (map (λ (w : ℕ × ℕ). w.0) two) =
    subst (λ s. AreReachable image entry s (map (λ (w : ℕ × ℕ). w.0) two)) sizes
    (subst (λ e. AreReachable image e y.size (map (λ (w : ℕ × ℕ). w.0) two)) (sym same) y.places) in
    same_words image one two (same_places image entry x.size _ _ x.places places) x.words_are y.words_are

pub one_shown : (image : Image) (unit : Typed) (one two : Shown) → IsShown image unit one → IsShown image unit two → one.name ≡ two.name → one ≡ two
one_shown image unit one two x y names =
    let named = x.entry_is in
    let renamed : function_named image one.name ≡ One two.entry = ap (function_named image) names ∙ y.entry_is in
    let entries : one.entry ≡ two.entry = cc in
    let sized = x.size_is in
    let resized : size_at image one.entry ≡ Some two.size = ap (size_at image) entries ∙ y.size_is in
    let sizes : one.size ≡ two.size = cc in
    let stacks = one_stack image two.entry one.stack two.stack (subst (λ e. IsStack image e one.stack) entries x.stack_is) y.stack_is in
    let words = one_code image one.entry two.entry one.words two.words entries x.words_are y.words_are in
    let body = x.body_is in
    let rebody : body_of unit one.name ≡ Some y.body = ap (body_of unit) names ∙ y.body_is in
    let bodies : x.body ≡ y.body = cc in
    let params : one.params ≡ two.params = x.params_are ∙ ap (λ (b : Body). length b.signature.parameters) bodies ∙ sym y.params_are in
    let loops : one.loops ≡ two.loops = x.loops_are ∙ ap (λ (b : Body). b.loops) bodies ∙ sym y.loops_are in
    let calls : one.calls ≡ two.calls = x.calls_are ∙ ap (λ (b : Body). b.calls) bodies ∙ sym y.calls_are in
    λ i. record {
      name = names i;
      entry = entries i;
      size = sizes i;
      stack = stacks i;
      words = words i;
      params = params i;
      loops = loops i;
      calls = calls i;
    }
