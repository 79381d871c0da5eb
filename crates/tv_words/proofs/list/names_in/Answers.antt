use Rattle.std.proofs.Common.{◌≡◌, ◌∙◌, Bool, true, false, sym, ap, subst, List, Bor, map, bytes_eq}
use Rattle.std.specs.List.{IsDistinct, list_all}
use Rattle.std.proofs.lemmas.List.Folds.{list_all-map}
use Rattle.tv_words.specs.Names.{is_name}
use Rattle.tv_words.proofs.Lists.{Text, parts_of_list, list_of_parts}
use Rattle.tv_words.proofs.list.names_in.Goals as goal

abbrev texts_of : List (Bor Text) → List Text
texts_of = map (λ text. text.now)

abbrev all_named : List (Bor Text) → Bool
all_named = list_all (λ text. is_name text.now)

pub returns-then-not-are_names-clause-only : goal.returns-then-not-are_names-clause-only
returns-then-not-are_names-clause-only c = λ names list.
    let parts = c.in_ok-names.ensures ∙ parts_of_list _ _ list in
    let named : all_named c.in_ok-names.names.items ≡ true = sym (list_all-map is_name (λ (part : Bor Text). part.now) c.in_ok-names.names.items) ∙ ap (list_all is_name) parts ∙ list.named in
    let not_named : all_named c.in_ok-names.names.items ≡ false = sym (ap all_named c.as_slice.ensures.value) ∙ sym c.are_names.ensures ∙ c.if-not-are_names.true in
    cc

pub returns-then-not-branch-clause-only : goal.returns-then-not-branch-clause-only
returns-then-not-branch-clause-only c = λ names list.
    let parts : texts_of c.as_slice-2.result.now ≡ names = ap texts_of c.as_slice-2.ensures.value ∙ c.in_ok-names.ensures ∙ parts_of_list _ _ list in
    let apart : IsDistinct bytes_eq (texts_of c.as_slice-2.result.now) = subst (λ (texts : List Text). IsDistinct bytes_eq texts) (sym parts) list.apart in
    let yes : c.in_ok-are_distinct.field-0 ≡ true = c.in_ok-are_distinct.ensures.1 apart in
    cc (c.if-not-branch.true)

pub returns-clause-found : goal.returns-clause-found
returns-clause-found c = list_of_parts _ _ c.in_ok-names.ensures
    (list_all-map is_name (λ (part : Bor Text). part.now) c.in_ok-names.names.items ∙ sym (ap all_named c.as_slice.ensures.value) ∙ sym c.are_names.ensures ∙ c.if-not-are_names.false)
    (subst (λ (texts : List (Bor Text)). IsDistinct bytes_eq (texts_of texts)) c.as_slice-2.ensures.value (c.in_ok-are_distinct.ensures.0 c.if-not-branch.false))
