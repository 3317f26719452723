-- The nodes of a listing that are in line with some words, and the blocks to read again for them.
use Rattle.std.proofs.Common.{◌≡◌, refl, sym, ◌∙◌, ap, arith, Bool, true, false, ℕ, ◌<◌, ◌==◌, List, [], ◌∷◌, cond, length, map, slice_get, Option, Some, None, Bor}
use Rattle.std.specs.Prelude.{◌&&◌, ◌||◌, not, zero, suc}
use Rattle.std.specs.List.{list_any}
use Rattle.std.proofs.lemmas.Bool.{eqb-true}
use Rattle.udfs_lattice.specs.Volumes.{Blocks}
use Rattle.udfs_walk.specs.KnownLaws.{taken}
use Rattle.udfs_volume.specs.Answers.{Answer, found, holes, faulty}
use Rattle.udfs_volume.specs.Seen.{IsRising}
use Rattle.udfs_walk.specs.NodeFields.{NodeFields}
use Rattle.udfs_walk.specs.Rereads.{reread}
use Rattle.udfs_salvage.specs.Found.{Found}
use Rattle.udfs_salvage.specs.Choosing.{is_node, is_under}
use Rattle.udfs_salvage.specs.InLine.{IsFirstOf, RereadsForAll, is_in_line, lies_along, may_hide, may_list, names_nothing, reread_by}
use Rattle.udfs_salvage.specs.Listings.{full_in, reread_in, unnamed_in}
use Rattle.udfs_salvage.specs.NodeTexts.{path_name}
use Rattle.udfs_salvage.specs.Reports.{ReportsBy}
use Rattle.udfs_salvage.proofs.ListedNodes.{same_node, same_whole_in}
use Rattle.udfs_salvage.proofs.Rereads.{reread_rises}

-- what is missing of a node does not change its path
same_nodes : (blocks : Blocks) (volume : Answer Found) (takes : List (List ℕ) → Bool) (nodes : List NodeFields) → map (full_in blocks volume) (taken takes nodes) ≡ taken takes (map (full_in blocks volume) nodes)
same_nodes blocks volume takes [] = refl
same_nodes blocks volume takes (n ∷ nodes) = go (takes n.path) (same_nodes blocks volume takes nodes)
  where
    full : NodeFields
    full = full_in blocks volume n

    go : (b : Bool) → map (full_in blocks volume) (taken takes nodes) ≡ taken takes (map (full_in blocks volume) nodes)
        → map (full_in blocks volume) (cond b (n ∷ taken takes nodes) (taken takes nodes)) ≡ cond b (full ∷ taken takes (map (full_in blocks volume) nodes)) (taken takes (map (full_in blocks volume) nodes))
    go true same = ap (λ ns. full ∷ ns) same
    go false same = same

pub kept_nodes : (blocks : Blocks) (volume : Answer Found) (takes : List (List ℕ) → Bool) (nodes kept : List NodeFields) → kept ≡ taken takes nodes
    → map (full_in blocks volume) kept ≡ taken takes (map (full_in blocks volume) nodes)
kept_nodes blocks volume takes nodes kept e = ap (map (full_in blocks volume)) e ∙ same_nodes blocks volume takes nodes

-- the blocks to read again of those nodes are those for the words
pub kept_blocks : (blocks : Blocks) (volume : Answer Found) (words : List (List ℕ)) (nodes kept : List NodeFields) → kept ≡ taken (is_in_line words) nodes
    → reread_in volume (map (full_in blocks volume) kept)
    ≡ reread_by volume words (record { volume = volume; nodes = map (full_in blocks volume) nodes; unnamed = unnamed_in blocks volume (map (full_in blocks volume) nodes); reread = reread_in volume (map (full_in blocks volume) nodes) })
kept_blocks blocks (found f) words nodes kept e = ap reread (kept_nodes blocks (found f) (is_in_line words) nodes kept e)
kept_blocks blocks (holes listed) words nodes kept e = refl
kept_blocks blocks (faulty fault) words nodes kept e = refl

-- they rise, since those of the listing did
pub kept_rise : (volume : Answer Found) (nodes kept : List NodeFields) → IsRising (reread_in volume nodes) → IsRising (reread_in volume kept)
kept_rise (found f) nodes kept rises = reread_rises (reread kept) kept refl
kept_rise (holes listed) nodes kept rises = rises
kept_rise (faulty fault) nodes kept rises = rises

-- without words no node is left out
all_taken : (nodes : List NodeFields) → taken (is_in_line []) nodes ≡ nodes
all_taken [] = refl
all_taken (n ∷ nodes) = ap (λ ns. n ∷ ns) (all_taken nodes)

pub rereads_for_all : RereadsForAll
rereads_for_all profile blocks last report r = go report.volume r.by_volume
  where
    go : (v : Answer Found) → ReportsBy blocks v report → reread_by v [] report ≡ report.reread
    go (found f) by = ap reread (all_taken report.nodes) ∙ sym by.reread_is
    go (holes listed) by = refl
    go (faulty fault) by = refl

-- ---- words
-- without words every path is in line
pub in_line_none : (words : List (Bor (List ℕ))) (path : List (List ℕ)) → (length words == 0) ≡ true → true ≡ is_in_line (map (λ (w : Bor (List ℕ)). w.now) words) path
in_line_none [] path e = refl
in_line_none (w ∷ words) path e = let none : length (w ∷ words) ≡ 0 = eqb-true (length (w ∷ words)) 0 e in absurd (omega (arith, none))

-- with some, those that lie along one of them
pub in_line_some : (words : List (Bor (List ℕ))) (path : List (List ℕ)) → (length words == 0) ≡ false
    → list_any (λ word. lies_along word path) (map (λ (w : Bor (List ℕ)). w.now) words) ≡ is_in_line (map (λ (w : Bor (List ℕ)). w.now) words) path
in_line_some [] path e = let bad : true ≡ false = e in cc
in_line_some (w ∷ words) path e = refl

-- a word that is there has a place among the words
pub got_below : (words : List (List ℕ)) (k : ℕ) (word : List ℕ) → slice_get words k ≡ Some word → k < length words
got_below [] k word at = let bad : None ≡ Some word = at in absurd (let z : ⊥ = cc in z)
got_below (w ∷ words) zero word at = omega arith
got_below (w ∷ words) (suc k) word at = let less = got_below words k word at in omega (arith, less)

-- ---- paths of nothing

-- what is missing of a node does not say whether it may hide a name
same_hides : (blocks : Blocks) (volume : Answer Found) (nodes : List NodeFields) (word : List ℕ) → list_any (λ n. may_hide n word) (map (full_in blocks volume) nodes) ≡ list_any (λ n. may_hide n word) nodes
same_hides blocks volume [] word = refl
same_hides blocks volume (n ∷ nodes) word =
    ap (λ whole. (not whole && may_list n.kind && is_under (path_name n.path) word) || list_any (λ m. may_hide m word) (map (full_in blocks volume) nodes)) (same_whole_in blocks volume n.icb n.standing)
    ∙ ap (λ hides. may_hide n word || hides) (same_hides blocks volume nodes word)

-- nor whether a path is one of nothing
same_nothing : (blocks : Blocks) (volume : Answer Found) (nodes : List NodeFields) (word : List ℕ) → names_nothing (map (full_in blocks volume) nodes) word ≡ names_nothing nodes word
same_nothing blocks volume [] word = refl
same_nothing blocks volume (n ∷ nodes) word =
    ap (λ is. not is && not (list_any (λ m. may_hide m word) (map (full_in blocks volume) (n ∷ nodes)))) (same_node blocks volume (n ∷ nodes) word)
    ∙ ap (λ hides. not (is_node (n ∷ nodes) word) && not hides) (same_hides blocks volume (n ∷ nodes) word)

-- so the first such path of a listing is that of its report
pub first_listed : (blocks : Blocks) (volume : Answer Found) (words : List (List ℕ)) (nodes : List NodeFields) (first : Option ℕ) → IsFirstOf words nodes first → IsFirstOf words (map (full_in blocks volume) nodes) first
first_listed blocks volume words nodes None all = λ k word at. same_nothing blocks volume nodes word ∙ all k word at
first_listed blocks volume words nodes (Some number) found_first = record {
  index = found_first.index;
  counted = found_first.counted;
  word = found_first.word;
  stands = found_first.stands;
  nothing = same_nothing blocks volume nodes found_first.word ∙ found_first.nothing;
  first = λ k other less at. same_nothing blocks volume nodes other ∙ found_first.first k other less at;
}
