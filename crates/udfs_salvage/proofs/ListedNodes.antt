-- Listings: what their nodes and entries are of the report's.
use Rattle.std.proofs.Common.{◌≡◌, refl, ◌∙◌, ap, ℕ, zero, suc, List, [], ◌∷◌, get_or, map, Option, Some, None}
use Rattle.std.specs.Prelude.{slice_get}
use Rattle.std.specs.List.{list_all}
use Rattle.udfs_tag.specs.declared.layouts.LongAd.{LongAd}
use Rattle.udfs_lattice.specs.Volumes.{Blocks}
use Rattle.udfs_volume.specs.Answers.{Answer, found, holes, faulty}
use Rattle.udfs_walk.specs.NodeFields.{NodeFields}
use Rattle.udfs_walk.specs.declared.standings.Standing.{Standing}
use Rattle.udfs_walk.specs.declared.standings.Standing.TheVariants.{Whole, Torn, Loop, Fault}
use Rattle.udfs_walk.specs.declared.answers.Unnamed.{Unnamed}
use Rattle.udfs_salvage.specs.Found.{Found}
use Rattle.udfs_salvage.specs.Extraction.{is_offered}
use Rattle.udfs_salvage.specs.Listings.{full_entry_in, full_in, standing_in}
use Rattle.udfs_salvage.specs.Reports.{all_whole}
use Rattle.udfs_walk.specs.Unsettled.{is_whole}
use Rattle.udfs_salvage.specs.UnnamedExtraction.{is_file, is_lost_file}
use Rattle.udfs_salvage.specs.declared.extraction.Fill.{Fill}
use Rattle.std.specs.Prelude.{nat_lt, ◌&&◌, ◌||◌}
use Rattle.std.specs.Str.{bytes_eq}
use Rattle.udfs_salvage.specs.Choosing.{is_node}
use Rattle.udfs_salvage.specs.NodeTexts.{path_name}

-- the blocks and the holes do not say whether a node is written
pub same_offered : (M : Blocks) (a : Answer Found) (at : LongAd) (s : Standing) (size : Option ℕ) (fill : Fill) → is_offered (standing_in M a at s) size fill ≡ is_offered s size fill
same_offered M (found f) at Whole size fill = refl
same_offered M (found f) at (Torn torn) size fill = refl
same_offered M (found f) at Loop size fill = refl
same_offered M (found f) at (Fault e) size fill = refl
same_offered M (holes listed) at s size fill = refl
same_offered M (faulty fault) at s size fill = refl

-- nor whether it is whole
pub same_whole_in : (M : Blocks) (a : Answer Found) (at : LongAd) (s : Standing) → is_whole (standing_in M a at s) ≡ is_whole s
same_whole_in M (found f) at Whole = refl
same_whole_in M (found f) at (Torn torn) = refl
same_whole_in M (found f) at Loop = refl
same_whole_in M (found f) at (Fault e) = refl
same_whole_in M (holes listed) at s = refl
same_whole_in M (faulty fault) at s = refl

all_same : (M : Blocks) (a : Answer Found) (ns : List NodeFields) → list_all (λ n. is_whole n.standing) (map (full_in M a) ns) ≡ list_all (λ n. is_whole n.standing) ns
all_same M a [] = refl
all_same M a (n ∷ ns) = λ i. same_whole_in M a n.icb n.standing i && all_same M a ns i

-- nor whether all are
pub listed_whole : (M : Blocks) (a : Answer Found) (ns : List NodeFields) → all_whole (map (full_in M a) ns) ≡ all_whole ns
listed_whole M a [] = refl
listed_whole M a (n ∷ ns) = all_same M a (n ∷ ns)

-- nor whether an entry is a lost file
pub same_lost : (M : Blocks) (a : Answer Found) (u : Unnamed) → is_lost_file (full_entry_in M a u) ≡ is_lost_file u
same_lost M a u = ap (λ b. is_file u.kind && (nat_lt 0 u.size && b)) (same_whole_in M a _ u.standing)

-- the element that was taken is the one at its index, with what is missing of it
pub same_full : {A : Type 0} (f : A → A) (xs : List A) (i : ℕ) (x m : A) → slice_get (map f xs) i ≡ Some x → m ≡ get_or xs i m → f m ≡ x
same_full f [] i x m at is = let bad : None ≡ Some x = at in absurd (let z : ⊥ = cc in z)
same_full f (y ∷ ys) zero x m at is = let e : f y ≡ x = cc in ap f is ∙ e
same_full f (y ∷ ys) (suc i) x m at is = same_full f ys i x m at is

-- nor whether a path is that of a node
pub same_node : (M : Blocks) (a : Answer Found) (ns : List NodeFields) (word : List ℕ) → is_node (map (full_in M a) ns) word ≡ is_node ns word
same_node M a [] word = refl
same_node M a (n ∷ ns) word = ap (λ b. bytes_eq (path_name n.path) word || b) (same_node M a ns word)
