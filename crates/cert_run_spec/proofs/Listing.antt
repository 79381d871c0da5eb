-- Pairs of two files have one list of functions with their frames: its runs, its graphs and its functions are one each.
use Rattle.std.proofs.Common.{◌≡◌, ◌∙◌, ℕ, suc, ◌<◌, List, [], ◌∷◌, length, map, get_or, Option, Some, None, refl, sym, ap, subst, arith}
use Rattle.std.specs.Prelude.{Contains, slice_get}
use Rattle.std.proofs.lemmas.Option.{slice_get_within}
use Rattle.memory_spec.specs.Runs.{Run}
use Rattle.elf_read_spec.specs.Image.{Image, function_named, size_at}
use Rattle.elf_read_spec.specs.Runs.{AreRuns}
use Rattle.elf_read_spec.specs.declared.SymbolValues.TheVariants.{One}
use Rattle.code_reach_spec.specs.Code.{IsStack, instr_at, flow_at}
use Rattle.graph_core_spec.specs.Graph.{Graph, Node}
use Rattle.decompile_spec.specs.Blocks.{Setting}
use Rattle.decompile_spec.specs.CodeGraph.{IsCodeGraph, IsKept}
use Rattle.decompile_laws.specs.Layout.{Item, AreItems}
use Rattle.decompile_laws.proofs.KeptBranches.{one_kept}
use Rattle.decompile.specs.Answer.{AreFirsts, setting, counting}
use Rattle.decompile.specs.Counts.{numbered}
use Rattle.c_types_spec.specs.Core.{Typed}
use Rattle.pair_setup_spec.specs.SourceReach.{body_of}
use Rattle.pair_setup_spec.specs.Outcome as outcome
use Rattle.pair_setup_spec.specs.Outcome.{IsPaired, IsFunction}
use Rattle.pair_setup_spec.proofs.Stacks.{one_stack}
use Rattle.validity_laws.specs.Derivation.{Function}
use Rattle.validity_laws.specs.CheckStatements.{listed_of}
use Rattle.cert_run_spec.specs.Files.{CodeSide, IsSide, AreSides, firsts_of, sides_of, IsFunctionOf, AreFunctionsOf}
use Rattle.cert_run_spec.specs.Laws.{ListsHaveOnePairing, FilesHaveOneList}
use Rattle.cert_run_spec.proofs.Rising.{same_list, same_numbers}

-- ---- runs

one_runs : (image : Image) (one two : List Run) → AreRuns image one → AreRuns image two → one ≡ two
one_runs image one two x y =
    same_list (λ (run : Run). run.start) one two x.rising y.rising (λ run inside. (y.exactly run).1 ((x.exactly run).0 inside))
    (λ run inside. (x.exactly run).1 ((y.exactly run).0 inside))

-- ---- instructions

same_item : (image : Image) (entry size : ℕ) (one two : List Item) → AreItems image entry size one → AreItems image entry size two → (item : Item) → Contains one item
    → Contains two item
same_item image entry size one two x y item inside =
    let (other, among, address_is) = y.all item.address (x.reached item inside) in
    let left : instr_at image item.address ≡ Some item.instruction = x.instructions item inside in
    let right : instr_at image item.address ≡ Some other.instruction = ap (instr_at image) (sym address_is) ∙ y.instructions other among in
    let instruction_is : other.instruction ≡ item.instruction = cc in
    let flow_left : flow_at image entry item.address ≡ Some item.flow = x.flows item inside in
    let flow_right : flow_at image entry item.address ≡ Some other.flow = ap (flow_at image entry) (sym address_is) ∙ y.flows other among in
    let flow_is : other.flow ≡ item.flow = cc in
    let keeps_is : other.keeps ≡ item.keeps =
    one_kept image entry size item.address other.keeps item.keeps (subst (λ (a : ℕ). IsKept image entry size a other.keeps) address_is (y.kept other among)) (x.kept item inside) in
    subst (Contains two) (same other item address_is instruction_is flow_is keeps_is) among
  where
    same : (a b : Item) → a.address ≡ b.address → a.instruction ≡ b.instruction → a.flow ≡ b.flow → a.keeps ≡ b.keeps → a ≡ b
    same a b e f g h = λ i. record { address = e i; instruction = f i; flow = g i; keeps = h i }

one_items : (image : Image) (entry size : ℕ) (one two : List Item) → AreItems image entry size one → AreItems image entry size two → one ≡ two
one_items image entry size one two x y =
    same_list (λ (item : Item). item.address) one two x.rising y.rising (same_item image entry size one two x y) (same_item image entry size two one y x)

-- ---- graphs

by_places : {X : Type 0} (xs ys : List X) → ((n : ℕ) → slice_get xs n ≡ slice_get ys n) → xs ≡ ys
by_places [] [] same = refl
by_places [] (y ∷ ys) same = let bad : None ≡ Some y = same 0 in absurd (cc)
by_places (x ∷ xs) [] same = let bad : Some x ≡ None = same 0 in absurd (cc)
by_places (x ∷ xs) (y ∷ ys) same =
    let first : Some x ≡ Some y = same 0 in
    let head : x ≡ y = cc in
    let tail = by_places xs ys (λ n. same (suc n)) in
    λ i. head i ∷ tail i

module _ (image : Image) (f : Setting) (one two : Graph) (x : IsCodeGraph image f one) (y : IsCodeGraph image f two) where
  node_same : (n : ℕ) (node : Node) → slice_get one.nodes n ≡ Some node → slice_get two.nodes n ≡ Some node
  node_same n node is =
      let (name, other, named, at) = x.only n (slice_get_within one.nodes n node is) in
      let there : slice_get one.nodes n ≡ Some other = subst (λ k. slice_get one.nodes k ≡ Some other) at (x.there name other named) in
      let again : slice_get two.nodes n ≡ Some other = subst (λ k. slice_get two.nodes k ≡ Some other) at (y.there name other named) in
      again ∙ (sym there ∙ is)

same_nodes : (image : Image) (f : Setting) (one two : Graph) → IsCodeGraph image f one → IsCodeGraph image f two → (n : ℕ) → slice_get one.nodes n ≡ slice_get two.nodes n
same_nodes image f one two x y n = by (slice_get one.nodes n) (slice_get two.nodes n) refl refl
  where
    by : (a b : Option Node) → slice_get one.nodes n ≡ a → slice_get two.nodes n ≡ b → slice_get one.nodes n ≡ slice_get two.nodes n
    by (Some node) b is other = is ∙ sym (node_same image f one two x y n node is)
    by None (Some node) is other = node_same image f two one y x n node other ∙ sym other
    by None None is other = is ∙ sym other

one_graph : (image : Image) (f : Setting) (one two : Graph) → IsCodeGraph image f one → IsCodeGraph image f two → one ≡ two
one_graph image f one two x y =
    let nodes_are = by_places one.nodes two.nodes (same_nodes image f one two x y) in
    let entry_is = x.entry_is ∙ sym y.entry_is in
    λ i. record { nodes = nodes_are i; entry = entry_is i }

-- ---- sides

sizes_are : (image : Image) (entry one two : ℕ) → size_at image entry ≡ Some one → size_at image entry ≡ Some two → one ≡ two
sizes_are image entry one two x y = cc

one_firsts : (image : Image) (entry : ℕ) (one two : List (ℕ × ℕ)) → AreFirsts image entry one → AreFirsts image entry two → one ≡ two
one_firsts image entry one two x y =
    let size_is = sizes_are image entry y.size x.size y.size_is x.size_is in
    let items_are = one_items image entry x.size x.items y.items x.items_are (subst (λ n. AreItems image entry n y.items) size_is y.items_are) in
    let runs_are = one_runs image x.runs y.runs x.runs_are y.runs_are in
    x.numbers ∙ (ap (λ (runs : List Run). numbered (counting entry x.size (length runs)) 1 x.items) runs_are
    ∙ (ap (λ (items : List Item). numbered (counting entry x.size (length y.runs)) 1 items) items_are
    ∙ (ap (λ (n : ℕ). numbered (counting entry n (length y.runs)) 1 y.items) (sym size_is) ∙ sym y.numbers)))

pub one_side : (image : Image) (entries : List ℕ) (entry : ℕ) (one two : CodeSide) → IsSide image entries entry one → IsSide image entries entry two → one ≡ two
one_side image entries entry one two x y =
    let firsts_are = one_firsts image entry one.firsts two.firsts x.firsts_are y.firsts_are in
    let size_is = sizes_are image entry y.graph_is.size x.graph_is.size y.graph_is.size_is x.graph_is.size_is in
    let runs_are : y.graph_is.runs ≡ x.graph_is.runs = x.graph_is.only_runs y.graph_is.runs y.graph_is.graph_is.runs_are in
    let setting_is : setting entry y.graph_is.size y.graph_is.runs entries two.firsts ≡ setting entry x.graph_is.size x.graph_is.runs entries one.firsts =
    ap (λ n. setting entry n y.graph_is.runs entries two.firsts) size_is
    ∙ (ap (λ (runs : List Run). setting entry x.graph_is.size runs entries two.firsts) runs_are
    ∙ ap (setting entry x.graph_is.size x.graph_is.runs entries) (sym firsts_are)) in
    let graph_is =
    one_graph image (setting entry x.graph_is.size x.graph_is.runs entries one.firsts) one.graph two.graph x.graph_is.graph_is
    (subst (λ (f : Setting). IsCodeGraph image f two.graph) setting_is y.graph_is.graph_is) in
    λ i. record { graph = graph_is i; firsts = firsts_are i }

one_sides : (image : Image) (entries left : List ℕ) (one two : List CodeSide) → AreSides image entries left one → AreSides image entries left two → one ≡ two
unfolding AreSides
one_sides image entries [] [] [] x y = refl
one_sides image entries [] [] (b ∷ two) x y = absurd y
one_sides image entries [] (a ∷ one) two x y = absurd x
one_sides image entries (entry ∷ left) [] two x y = absurd x
one_sides image entries (entry ∷ left) (a ∷ one) [] x y = absurd y
one_sides image entries (entry ∷ left) (a ∷ one) (b ∷ two) x y =
    let head = one_side image entries entry a b x.0 y.0 in
    let tail = one_sides image entries left one two x.1 y.1 in
    λ i. head i ∷ tail i

-- ---- functions

one_function : (unit : Typed) (f : outcome.Function) (one two : Function) → IsFunctionOf unit f one → IsFunctionOf unit f two → one ≡ two
one_function unit f one two x y =
    let entry_is = x.entry_is ∙ sym y.entry_is in
    let stack_is = x.stack_is ∙ sym y.stack_is in
    let left : body_of unit f.name ≡ Some one.body = x.body_is in
    let right : body_of unit f.name ≡ Some two.body = y.body_is in
    let body_is : one.body ≡ two.body = cc in
    λ i. record { entry = entry_is i; stack = stack_is i; body = body_is i }

one_functions : (unit : Typed) (listed : List outcome.Function) (one two : List Function) → AreFunctionsOf unit listed one → AreFunctionsOf unit listed two → one ≡ two
unfolding AreFunctionsOf
one_functions unit [] [] [] x y = refl
one_functions unit [] [] (b ∷ two) x y = absurd y
one_functions unit [] (a ∷ one) two x y = absurd x
one_functions unit (f ∷ listed) [] two x y = absurd x
one_functions unit (f ∷ listed) (a ∷ one) [] x y = absurd y
one_functions unit (f ∷ listed) (a ∷ one) (b ∷ two) x y =
    let head = one_function unit f a b x.0 y.0 in
    let tail = one_functions unit listed one two x.1 y.1 in
    λ i. head i ∷ tail i

pub one_list : FilesHaveOneList
one_list image unit pairs one two x y =
    let runs_are = one_runs image x.runs y.runs x.runs_are y.runs_are in
    let sides_are = one_sides image pairs.entries pairs.entries x.sides y.sides x.sides_are y.sides_are in
    let functions_are = one_functions unit pairs.functions x.functions y.functions x.functions_are y.functions_are in
    x.listed_are
    ∙ (ap (λ (runs : List Run). map (listed_of (sides_of image unit runs pairs.entries x.sides) (firsts_of x.sides)) x.functions) runs_are
    ∙ (ap (λ (sides : List CodeSide). map (listed_of (sides_of image unit y.runs pairs.entries sides) (firsts_of sides)) x.functions) sides_are
    ∙ (ap (map (listed_of (sides_of image unit y.runs pairs.entries y.sides) (firsts_of y.sides))) functions_are ∙ sym y.listed_are)))

-- ---- pairs

pub same_function : (image : Image) (unit : Typed) (f g : outcome.Function) → IsFunction image unit f → IsFunction image unit g → f.name ≡ g.name → f ≡ g
same_function image unit f g x y name_is =
    let left : function_named image f.name ≡ One f.entry = x.entry_is in
    let right : function_named image f.name ≡ One g.entry = ap (function_named image) name_is ∙ y.entry_is in
    let entry_is : f.entry ≡ g.entry = cc in
    let size_left : size_at image f.entry ≡ Some f.size = x.size_is in
    let size_right : size_at image f.entry ≡ Some g.size = ap (size_at image) entry_is ∙ y.size_is in
    let size_is : f.size ≡ g.size = cc in
    let stack_is = one_stack image f.entry f.stack g.stack x.stack_is (subst (λ e. IsStack image e g.stack) (sym entry_is) y.stack_is) in
    λ i. record { name = name_is i; entry = entry_is i; size = size_is i; stack = stack_is i }

same_functions : (image : Image) (unit : Typed) (fs gs : List outcome.Function)
    → ((k : ℕ) (d : outcome.Function) → k < length fs → IsFunction image unit (get_or fs k d)) → ((k : ℕ) (d : outcome.Function) → k < length gs → IsFunction image unit (get_or gs k d))
    → map (λ (f : outcome.Function). f.name) fs ≡ map (λ (f : outcome.Function). f.name) gs → fs ≡ gs
same_functions image unit [] [] x y e = refl
same_functions image unit [] (g ∷ gs) x y e = absurd (cc)
same_functions image unit (f ∷ fs) [] x y e = absurd (cc)
same_functions image unit (f ∷ fs) (g ∷ gs) x y e =
    let name_is : f.name ≡ g.name = cc in
    let names_are : map (λ (h : outcome.Function). h.name) fs ≡ map (λ (h : outcome.Function). h.name) gs = cc in
    let head = same_function image unit f g (x 0 f (omega arith)) (y 0 g (omega arith)) name_is in
    let tail = same_functions image unit fs gs (λ k d inside. x (suc k) d (omega (arith, inside))) (λ k d inside. y (suc k) d (omega (arith, inside))) names_are in
    λ i. head i ∷ tail i

pub one_pairing : ListsHaveOnePairing
one_pairing image unit list one two x y =
    let functions_are = same_functions image unit one.functions two.functions x.functions_are y.functions_are (x.listed ∙ sym y.listed) in
    let entries_are =
    same_numbers one.entries two.entries x.rising y.rising (λ entry inside. (y.entries_are entry).1 ((x.entries_are entry).0 inside))
    (λ entry inside. (x.entries_are entry).1 ((y.entries_are entry).0 inside)) in
    λ i. record { functions = functions_are i; entries = entries_are i }
