-- What a listing has without what is missing of torn nodes, said of the report's.
use Rattle.std.proofs.Common.{◌≡◌, ◌<◌, refl, sym, ◌∙◌, ap, arith, get_or, length, ℕ, zero, suc, Bool, true, false, List, [], ◌∷◌, map, Option, Some, cond, slice_get}
use Rattle.std.specs.Prelude.{◌&&◌, nat_lt, option_map}
use Rattle.std.specs.List.{list_all}
use Rattle.std.proofs.lemmas.Option.{slice_get-map}
use Rattle.udfs_tag.specs.declared.layouts.LongAd.{LongAd}
use Rattle.udfs_lattice.specs.Volumes.{Blocks}
use Rattle.udfs_volume.specs.Answers.{Answer, found, holes, faulty}
use Rattle.udfs_file.specs.declared.faults.Kind.{Kind}
use Rattle.udfs_file.specs.declared.faults.Kind.TheVariants as kind
use Rattle.udfs_walk.specs.NodeFields.{NodeFields}
use Rattle.udfs_walk.specs.declared.standings.Standing.{Standing}
use Rattle.udfs_walk.specs.declared.standings.Standing.TheVariants as standing
use Rattle.udfs_walk.specs.declared.answers.Unnamed.{Unnamed}
use Rattle.udfs_salvage.specs.Found.{Found}
use Rattle.udfs_salvage.specs.Extraction.{is_offered}
use Rattle.udfs_salvage.specs.Listings.{full_entry_in, full_in, standing_in}
use Rattle.udfs_walk.specs.Unsettled.{is_whole}
use Rattle.udfs_salvage.specs.UnnamedExtraction.{is_file, is_lost_file}
use Rattle.udfs_salvage.specs.declared.extraction.Fill.{Fill}
use Rattle.udfs_salvage.specs.Choosing.{chosen, is_chosen, is_node}
use Rattle.udfs_salvage.proofs.ListedNodes.{same_node}
use Rattle.udfs_extraction.specs.Extracting.{deed}
use Rattle.udfs_extraction.specs.LostFiles.{lost_line}
use Rattle.udfs_extraction.specs.declared.nodes.Deed.TheVariants.{File, Skip}
use Rattle.udfs_extraction.specs.declared.nodes.Fate.{Fate}
use Rattle.udfs_extraction.specs.declared.nodes.Fate.TheVariants.{Made, Written, Failed, Left, Skipped, Passed}

same_offered : (M : Blocks) (a : Answer Found) (at : LongAd) (s : Standing) (size : Option ℕ) (fill : Fill) → is_offered (standing_in M a at s) size fill ≡ is_offered s size fill
same_offered M (found f) at standing.Whole size fill = refl
same_offered M (found f) at (standing.Torn torn) size fill = refl
same_offered M (found f) at standing.Loop size fill = refl
same_offered M (found f) at (standing.Fault e) size fill = refl
same_offered M (holes listed) at s size fill = refl
same_offered M (faulty fault) at s size fill = refl

same_whole : (M : Blocks) (a : Answer Found) (at : LongAd) (s : Standing) → is_whole (standing_in M a at s) ≡ is_whole s
same_whole M (found f) at standing.Whole = refl
same_whole M (found f) at (standing.Torn torn) = refl
same_whole M (found f) at standing.Loop = refl
same_whole M (found f) at (standing.Fault e) = refl
same_whole M (holes listed) at s = refl
same_whole M (faulty fault) at s = refl

-- what is made of a node
pub same_deed : (M : Blocks) (a : Answer Found) (at : LongAd) (k : Kind) (s : Standing) (size : Option ℕ) (fill : Fill) → deed k (standing_in M a at s) size fill ≡ deed k s size fill
same_deed M (found f) at kind.Directory standing.Whole size fill = refl
same_deed M (found f) at kind.Directory (standing.Torn torn) size fill = refl
same_deed M (found f) at kind.Directory standing.Loop size fill = refl
same_deed M (found f) at kind.Directory (standing.Fault e) size fill = refl
same_deed M (found f) at kind.File s size fill = ap (λ b. cond b File Skip) (same_offered M (found f) at s size fill)
same_deed M (found f) at kind.Link s size fill = refl
same_deed M (found f) at (kind.Other t) s size fill = refl
same_deed M (found f) at kind.Unread s size fill = refl
same_deed M (holes listed) at k s size fill = refl
same_deed M (faulty fault) at k s size fill = refl

-- whether an entry is a lost file
pub same_lost : (M : Blocks) (a : Answer Found) (u : Unnamed) → is_lost_file (full_entry_in M a u) ≡ is_lost_file u
same_lost M a u = ap (λ b. is_file u.kind && (nat_lt 0 u.size && b)) (same_whole M a _ u.standing)

-- and its line
pub same_line : (two : Bool) (fate : Fate) (M : Blocks) (a : Answer Found) (u : Unnamed) → lost_line two fate (full_entry_in M a u) ≡ lost_line two fate u
same_line two Made M a u = refl
same_line two Written M a u = refl
same_line two Failed M a u = refl
same_line two Left M a u = refl
same_line two Skipped M a u = refl
same_line two Passed M a u = refl

-- the element at an index
pub full_at : {A : Type 0} (f : A → A) (xs : List A) (i : ℕ) (m : A) → slice_get xs i ≡ Some m → slice_get (map f xs) i ≡ Some (f m)
full_at f xs i m at = slice_get-map f xs i ∙ ap (option_map f) at

-- the element that was taken is the one at its index
pub at_index : {A : Type 0} (f : A → A) (xs : List A) (i : ℕ) (m : A) → i < length xs → m ≡ get_or xs i m → slice_get (map f xs) i ≡ Some (f m)
at_index f [] i m below is = absurd (omega (arith, below))
at_index f (x ∷ xs) zero m below is = ap (λ y. Some (f y)) (sym is)
at_index f (x ∷ xs) (suc i) m below is = at_index f xs i m (omega (arith, below)) is

-- ---- which nodes are asked for

pub same_named : (M : Blocks) (a : Answer Found) (ns : List NodeFields) (words : List (List ℕ)) → list_all (is_node (map (full_in M a) ns)) words ≡ list_all (is_node ns) words
same_named M a ns [] = refl
same_named M a ns (word ∷ words) = λ i. same_node M a ns word i && same_named M a ns words i

abbrev all_whole : List NodeFields → Bool
all_whole ns = list_all (λ (n : NodeFields). is_whole n.standing) ns

one_more : (b : Bool) (n m : NodeFields) (ns ms : List NodeFields) → is_whole n.standing ≡ is_whole m.standing → all_whole ns ≡ all_whole ms → all_whole (cond b (n ∷ ns) ns) ≡ all_whole (cond b (m ∷ ms) ms)
one_more true n m ns ms one rest = λ i. one i && rest i
one_more false n m ns ms one rest = rest

pub same_chosen : (M : Blocks) (a : Answer Found) (only : List (List ℕ)) (ns : List NodeFields) → list_all (λ (n : NodeFields). is_whole n.standing) (chosen only (map (full_in M a) ns)) ≡ list_all (λ (n : NodeFields). is_whole n.standing) (chosen only ns)
same_chosen M a only [] = refl
same_chosen M a only (n ∷ ns) = one_more (is_chosen only n.path) (full_in M a n) n (chosen only (map (full_in M a) ns)) (chosen only ns) (same_whole M a n.icb n.standing) (same_chosen M a only ns)
