use Rattle.std.proofs.Common.{◌∙◌, ℕ, List, [], Box, Global, get_or, refl, sym, ap}
use Rattle.proof_tree_spec.specs.declared.Place.{Place}
use Rattle.c_graph_spec.specs.SourceGraph.{body_number}
use Rattle.cert_check_frames.specs.Entries.{firsts_by, places_by}
use Rattle.term_core_spec.specs.Term.{open_term}
use Rattle.term_core.specs.declared.term.Term.{Term as CodeTerm}
use Rattle.proof_tree.specs.Frames.{terms_of}
use Rattle.sim_rules_spec.specs.Calling.{zone_from}
use Rattle.agreement_laws.specs.EntryFrame.{Fact, given}
use Rattle.cert_check_frames.specs.declared.listed.Fact.{Fact as CodeFact}
use Rattle.cert_check_frames.specs.Facts.{facts_of}
use Rattle.cert_check_frames.proofs.Framed.{same_frame, binary_is}
use Rattle.cert_check_frames.proofs.Opened.{given_of, one_apart}
use Rattle.cert_check_frames.proofs.listing.function.Goals as goal

pub returns : goal.returns
returns c = λ q firsts g is convention graphs sites.
    let facts : List CodeFact → List Fact = λ l. facts_of l in
    let lines = ap (λ (l : List (Box CodeTerm Global)). terms_of l) c.as_slice.ensures.value ∙ is.lines_are in
    record {
      named = sym is.named;
      stack_is = sym is.stack_is;
      convention_is = convention;
      zone_from_is = ap zone_from (sym is.stack_is);
      zone_to_is = refl;
      binary_is = binary_is q firsts g _ (ap facts c.as_slice-2.ensures.value ∙ is.binary_are);
      source_is = λ v. ap (λ (l : List Fact). given l open_term v) (sym (ap facts c.as_slice-3.ensures.value ∙ is.source_are)) ∙ sym (given_of _ v);
      frame_is =
          same_frame _ _ _ _ _ _ _ _ _ _ _ _ _ _ (sym graphs.code_are) (sym graphs.sources_are) (sym is.code_is) (sym is.source_is) (sym is.first_is) (sym is.setting_is) (sym lines);
      runs_are = sym graphs.runs_are;
      firsts_are =
          c.firsts_of.ensures
          ∙ ap (λ (n : ℕ). firsts_by c.args.sites.firsts.now n) is.code_is
          ∙ ap (λ (l : List (List (ℕ × ℕ))). get_or l (q.numbering.graph_number g.entry) []) sites.firsts_are;
      places_are =
          c.places_of.ensures
          ∙ ap (λ (n : ℕ). places_by c.args.sites.places.now n) is.source_is
          ∙ ap (λ (l : List (List (Place × ℕ))). get_or l (body_number g.body.name q.unit.bodies) []) sites.places_are;
      apart = one_apart _;
    }
