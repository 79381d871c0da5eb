-- Listed visits are those of a walk.
use Rattle.std.proofs.Common.{◌≡◌, ◌∙◌, ℕ, ◌<◌, zero, suc, List, [], ◌∷◌, length, get_or, map, refl, sym, ap, subst, arith}
use Rattle.visit_walk_spec.specs.declared.Incoming.{Incoming}
use Rattle.visit_walk_spec.specs.Visits.{Walk, Visit}
use Rattle.visit_walk_spec.specs.EdgesInto.{edges_into}
use Rattle.visit_walk_spec.specs.Listing.{Listing, IsListing}
use Rattle.visit_walk.specs.Tables.{stray}
use Rattle.path_cond_spec.specs.Junctions.{Junction, junctions, junction_at}
use Rattle.path_cond_spec.proofs.Links.{onward}
use Rattle.path_cond.specs.Listed.{joined, junctions_of}
use Rattle.path_cond.specs.Table.{AreEarlier}

count_joined : (visits : List Visit) (incoming : List (List Incoming)) → length (joined visits incoming) ≡ length visits
count_joined [] incoming = refl
count_joined (v ∷ visits) [] = ap suc (count_joined visits [])
count_joined (v ∷ visits) (edges ∷ incoming) = ap suc (count_joined visits incoming)

joined_at : (visits : List Visit) (incoming : List (List Incoming)) (i : ℕ) → i < length visits
    → junction_at (joined visits incoming) i ≡ record { place = (get_or visits i stray).place; edges = get_or incoming i [] }
joined_at [] incoming i less = absurd (omega arith)
joined_at (v ∷ visits) [] zero less = refl
joined_at (v ∷ visits) [] (suc i) less = joined_at visits [] i (omega arith)
joined_at (v ∷ visits) (edges ∷ incoming) zero less = refl
joined_at (v ∷ visits) (edges ∷ incoming) (suc i) less = joined_at visits incoming i (omega arith)

joined_map : (f : Visit → List Incoming) (visits : List Visit) → joined visits (map f visits) ≡ map (λ (v : Visit). record { place = v.place; edges = f v }) visits
joined_map f [] = refl
joined_map f (v ∷ visits) = ap (λ (js : List Junction). record { place = v.place; edges = f v } ∷ js) (joined_map f visits)

pub count_listed : (l : Listing) → length (junctions_of l) ≡ length l.visits
count_listed l = count_joined l.visits l.incoming

pub listed_at : (l : Listing) (i : ℕ) → i < length l.visits → junction_at (junctions_of l) i ≡ record { place = (get_or l.visits i stray).place; edges = get_or l.incoming i [] }
listed_at l i less = joined_at l.visits l.incoming i less

pub listed_is : (w : Walk) (maximum : ℕ) (l : Listing) → IsListing w maximum l → junctions_of l ≡ junctions w l.visits
listed_is w maximum l is = ap (joined l.visits) is.incoming ∙ joined_map (edges_into w l.visits) l.visits

pub listed_earlier : (w : Walk) (maximum : ℕ) (l : Listing) → IsListing w maximum l → AreEarlier (junctions_of l)
listed_earlier w maximum l is = subst AreEarlier (sym (listed_is w maximum l is)) (onward w l.visits is.visits)
