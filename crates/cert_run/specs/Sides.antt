-- Both sides of listed functions, as the laws of checked certificates speak of them.
use Rattle.std.specs.Prelude.{◌≡◌, ◌<◌, ◌^◌, ℕ, List, [], map, get_or, unwrap_or, All}
use Rattle.memory_spec.specs.Runs.{Run}
use Rattle.elf_read_spec.specs.Image.{Image}
use Rattle.elf_read_spec.specs.File.{IsElf}
use Rattle.graph_core_spec.specs.Graph.{Graphs}
use Rattle.decompile_laws.specs.Together.{Numbering}
use Rattle.decompile_laws.specs.Layout.{numbers_by}
use Rattle.decompile.specs.Answer.{first_in, number_in}
use Rattle.c_types_spec.specs.Core.{Body, Typed, Skip}
use Rattle.c_graph_spec.specs.SourceGraph.{void_function}
use Rattle.pair_setup_spec.specs.SourceReach.{body_of}
use Rattle.pair_setup_spec.specs.Outcome.{Pairs}
use Rattle.pair_setup_spec.specs.Outcome as outcome
use Rattle.validity_spec.specs.Claim.{IsValid}
use Rattle.cert_text_spec.specs.Lines.{Line}
use Rattle.agreement_laws.specs.EntryFrame.{Pair}
use Rattle.validity_laws.specs.Derivation.{Function, AreSides}
use Rattle.cert_check_lines_spec.specs.Known.{IsProof}
use Rattle.validity_laws.specs.CheckStatements.{AreFunctions, AreLines, IsFile, listed_of}
use Rattle.cert_run_spec.specs.Files.{AreListed}
use Rattle.cert_check_frames.specs.Entries.{AreEntries, AreGraphs, AreSites}
use Rattle.cert_run.specs.declared.sides.Sides.{Sides}

-- ---- numbers and functions

-- the number of a function's graph is the index of its entry, and the nodes of each are numbered by the first ones of its
-- instructions
abbrev pub numbering_by : (entries : List ℕ) → List Run → (firsts : List (List (ℕ × ℕ))) → Numbering
numbering_by entries runs firsts = record {
  runs = runs;
  graph_number = number_in entries;
  node_number = λ entry. numbers_by (first_in (get_or firsts (number_in entries entry) []));
}

abbrev pub no_body : Body
no_body = record { name = []; signature = void_function; locals = []; loops = 0; calls = 0; mentions = []; action = Skip }

-- the two sides; no function is singled out
abbrev pub pair_with : Image → Typed → Numbering → Graphs → Pair
pair_with image unit numbering graphs = record {
  image = image;
  entry = 0;
  stack = 0;
  numbering = numbering;
  graphs = graphs;
  unit = unit;
  body = no_body;
}

-- a listed function with its body
abbrev pub function_in : Typed → outcome.Function → Function
function_in unit f = record { entry = f.entry; stack = f.stack; body = unwrap_or (body_of unit f.name) no_body }

abbrev pub functions_in : Typed → Pairs → List Function
functions_in unit pairs = map (function_in unit) pairs.functions

-- ---- what is made

-- these are the two sides of the functions of these pairs
pub record AreSidesOf (image : Image) (unit : Typed) (pairs : Pairs) (q : Pair) : Type 0 where
  pub image_is : q.image ≡ image
  pub unit_is : q.unit ≡ unit
  pub sides : AreSides q
  pub file : IsFile q
  pub functions_are : AreFunctions q (functions_in unit pairs)

-- what was made is of two sides of the functions of these pairs, which are listed so
pub record HasSides (image : Image) (unit : Typed) (pairs : Pairs) (s : Sides) : Type 0 where
  pub pair : Pair
  pub are : AreSidesOf image unit pairs pair
  pub graphs : AreGraphs pair s.code.now s.source.items s.runs.items
  pub firsts : List (List (ℕ × ℕ))
  pub sites : AreSites pair firsts s.firsts.now s.places.items
  pub entries : AreEntries pair (functions_in unit pairs) s.entries.items
  pub listed : AreListed image unit pairs (map (listed_of pair firsts) (functions_in unit pairs))

-- the image is that of a file of bytes
pub record IsRead (image : Image) : Type 0 where
  pub file : List ℕ
  pub are_bytes : All (λ b. b < 2 ^ 8) file
  pub image_is : IsElf file image

-- ---- the law

-- of a certificate that is a proof of the functions of pairs each is valid
abbrev pub CheckedPairsAreValid : Type 0
CheckedPairsAreValid = (image : Image) (unit : Typed) (list : List (List ℕ)) (pairs : Pairs) (q : Pair) (firsts : List (List (ℕ × ℕ))) (lines : List Line)
    → outcome.IsPaired image unit list pairs → AreSidesOf image unit pairs q → AreLines lines → IsProof (map (listed_of q firsts) (functions_in unit pairs)) lines
    → All (λ (f : outcome.Function). IsValid image unit f.name f.stack) pairs.functions
