-- What is listed to be read again for the nodes in line with some words, of a report of a lawful volume.
use Rattle.std.proofs.Common.{◌≡◌, sym, ◌∙◌, ap, subst, inl, inr, ◌⊎◌, ℕ, true, List, []}
use Rattle.std.specs.Prelude.{Contains}
use Rattle.udfs_volume.specs.declared.profiles.Profile.{Profile}
use Rattle.udfs_lattice.specs.States.{is_known, join_of}
use Rattle.udfs_lattice.specs.Volumes.{Blocks, Volume, Agrees, IsUnread}
use Rattle.udfs_lattice.proofs.Inclusion.{in_nothing}
use Rattle.udfs_volume.specs.Answers.{found, holes}
use Rattle.udfs_volume.specs.Laws.{ListsGroup, valid_anchors}
use Rattle.udfs_volume.specs.Sequence.{anchor_places}
use Rattle.udfs_walk.specs.Rereads.{reread}
use Rattle.udfs_walk.specs.Walks.{AreNodes}
use Rattle.udfs_walk.specs.KnownLaws.{AreWantedOf, IsListedWhole, taken}
use Rattle.udfs_walk.specs.KnownLaws as known
use Rattle.udfs_walk.specs.Needs.{HasKnown}
use Rattle.udfs_walk.specs.Trees.{TreeFile, InTree}
use Rattle.udfs_walk.proofs.TreePublicLaws.{chosen_is_wanted}
use Rattle.udfs_salvage.specs.Found.{Found}
use Rattle.udfs_salvage.specs.InLine.{EachRereadForSuffices, IsWantedFor, is_in_line, reread_by, reread_for}
use Rattle.udfs_salvage.specs.KnownEnough.{HoldsWantedIn, IsReportedWhole}
use Rattle.udfs_salvage.specs.Laws.{IsVolumeGroup}
use Rattle.udfs_salvage.specs.Reports.{Report, IsReportBy}
use Rattle.udfs_salvage.specs.VolumeTrees.{IsInVolumeBy, IsLawfulBy, IsMetBy}
use Rattle.udfs_salvage.proofs.Founds.{known_not_unread}
use Rattle.udfs_salvage.proofs.InLineNames.{in_line_above, root_in_line}
use Rattle.udfs_salvage.proofs.Openings.{lawful_tree, read_as}
use Rattle.udfs_salvage.proofs.Rereading.{IsOpenOrShut, all_of, blocks_of, group_has, is_open, is_shut, listed_whole, node_up, open_or_shut, part_is, part_of, root_in_tree, shut_has_none, tree_down, tree_up, unread_join, volume_up, whole_and_met}

-- what is asked of the list, but for the pass
record IsRightFor (W : List (List ℕ)) (P : Profile) (T : Blocks) (V : Volume) (N : ℕ) (report : Report) (listed : List ℕ) : Type 0 where
  none_if : listed ≡ [] → (path : List (List ℕ)) (file : TreeFile) → is_in_line W path ≡ true → IsInVolumeBy P V N path file → IsReportedWhole T report path file
  none_only_if : ((path : List (List ℕ)) (file : TreeFile) → is_in_line W path ≡ true → IsInVolumeBy P V N path file → IsReportedWhole T report path file) → listed ≡ []
  not_known : IsUnread T listed
  each : (n : ℕ) → Contains listed n → IsWantedFor W P T V N n ⊎ (Contains (anchor_places N) n × IsUnread T (valid_anchors V N))
  whole_or_held : (path : List (List ℕ)) (file : TreeFile) → is_in_line W path ≡ true → IsInVolumeBy P V N path file → IsReportedWhole T report path file ⊎ HoldsWantedIn P T V N path listed

-- of a volume that opens
open_list : (W : List (List ℕ)) (P : Profile) (T : Blocks) (V : Volume) (N : ℕ) (l : IsLawfulBy P V N) → Agrees T V N → (report : Report) → report.volume ≡ found l.is_volume.found_is
    → AreNodes (part_of P T V N l) l.is_volume.found_is.root report.nodes → IsRightFor W P T V N report (reread (taken (is_in_line W) report.nodes))
open_list W P T V N l a report e are = record {
  none_if = λ none path file i t. (f, e, w.none.0 none path file i (tree_down P V N l path file t));
  none_only_if = λ h. w.none.1 (λ path file i t. listed_whole T report f path file e (h path file i (tree_up P V N l path file t)));
  not_known = w.not_known;
  each = λ n i. inl (by_block n (w.each n i));
  whole_or_held = λ path file i t. by_path path file (w.whole_or_held path file i (tree_down P V N l path file t));
}
  where
    f : Found
    f = l.is_volume.found_is

    listed : List ℕ
    listed = reread (taken (is_in_line W) report.nodes)

    w : AreWantedOf (is_in_line W) (part_of P T V N l) (all_of P V N l) (blocks_of P V N l) f.root report.nodes listed
    w = chosen_is_wanted (is_in_line W) (in_line_above W) (part_of P T V N l) (all_of P V N l) (blocks_of P V N l) (part_is P T V N l a) (read_as P V N l).is_whole f.root (lawful_tree P V N l) report.nodes are

    by_block : (n : ℕ) → (path : List (List ℕ)) × (file : TreeFile) × (group : List ℕ) × (is_in_line W path ≡ true) × InTree (blocks_of P V N l) f.root path file
        × known.IsWanted (part_of P T V N l) (all_of P V N l) (blocks_of P V N l) f.root path group × Contains group n → IsWantedFor W P T V N n
    by_block n (path, file, g, i, t, (needs, u), c) = (path, file, g, i, tree_up P V N l path file t, (node_up P V N l path g needs, u), c)

    by_path : (path : List (List ℕ)) (file : TreeFile) → IsListedWhole (part_of P T V N l) f.root report.nodes path file ⊎ known.HoldsWanted (part_of P T V N l) (all_of P V N l) (blocks_of P V N l) f.root path listed
        → IsReportedWhole T report path file ⊎ HoldsWantedIn P T V N path listed
    by_path path file (inl x) = inl (f, e, x)
    by_path path file (inr (g, (needs, u), h)) = inr (g, (node_up P V N l path g needs, u), h)

-- of one that does not: the root is in line with all words
shut_list : (W : List (List ℕ)) (P : Profile) (T : Blocks) (V : Volume) (N : ℕ) (l : IsLawfulBy P V N) (report : Report) (listed : List ℕ) → report.volume ≡ holes listed
    → ListsGroup T (valid_anchors V N) (anchor_places N) (IsVolumeGroup V N l.is_volume.found_is) listed → IsRightFor W P T V N report listed
shut_list W P T V N l report listed e x = record {
  none_if = λ none path file i t. let h : (n : ℕ) × Contains x.group n = group_has P V N l x.group x.is_group in
      in_nothing h.0 (subst (λ z. Contains z h.0) none (x.holds h.0 h.1));
  none_only_if = λ h. shut_has_none T report listed [] root.0 e (h [] root.0 (root_in_line W) root.1);
  not_known = x.not_known;
  each = λ n i. by n (x.each n i);
  whole_or_held = λ path file i t. inr (x.group, (volume_up P V N l path x.group x.is_group, x.unread), x.holds);
}
  where
    root : (file : TreeFile) × IsInVolumeBy P V N [] file
    root = root_in_tree P V N l

    by : (n : ℕ) → ((g : List ℕ) × IsVolumeGroup V N l.is_volume.found_is g × IsUnread T g × Contains g n) ⊎ (Contains (anchor_places N) n × IsUnread T (valid_anchors V N))
        → IsWantedFor W P T V N n ⊎ (Contains (anchor_places N) n × IsUnread T (valid_anchors V N))
    by n (inl (g, is, u, i)) = inl ([], root.0, g, root_in_line W, root.1, (volume_up P V N l [] g is, u), i)
    by n (inr k) = inr k

-- so the list is right
right_for : (W : List (List ℕ)) (P : Profile) (T : Blocks) (V : Volume) (N : ℕ) (l : IsLawfulBy P V N) → Agrees T V N → (report : Report) → IsReportBy P T N report → IsRightFor W P T V N report (reread_for W report)
right_for W P T V N l a report r = go (open_or_shut P T V N l a report r)
  where
    go : IsOpenOrShut T V N l.is_volume.found_is report → IsRightFor W P T V N report (reread_for W report)
    go (is_open e are again known) = subst (λ v. IsRightFor W P T V N report (reread_by v W report)) (sym e) (open_list W P T V N l a report e are)
    go (is_shut listed e again x) = subst (λ v. IsRightFor W P T V N report (reread_by v W report)) (sym e)
        (subst (IsRightFor W P T V N report) (sym again) (shut_list W P T V N l report listed e x))

-- for a pass too: a group that neither the table nor the pass knows a block of has none in the join
pub each_reread_for_suffices : EachRereadForSuffices
each_reread_for_suffices W P T N report r V l a = record {
  none = (s.none_if, s.none_only_if);
  not_known = s.not_known;
  each = s.each;
  whole_or_held = s.whole_or_held;
  needed_pass = λ pass joined other are b u q path file i t w. go pass joined are u path file (whole_and_met P joined V N l b other q path file w).is_met (s.whole_or_held path file i t);
}
  where
    s : IsRightFor W P T V N report (reread_for W report)
    s = right_for W P T V N l a report r

    go : (pass joined : Blocks) → ((n : ℕ) → joined n ≡ join_of (T n) (pass n)) → IsUnread pass (reread_for W report) → (path : List (List ℕ)) (file : TreeFile) → IsMetBy P joined V N path
        → IsReportedWhole T report path file ⊎ HoldsWantedIn P T V N path (reread_for W report) → IsReportedWhole T report path file
    go pass joined are u path file met (inl w) = w
    go pass joined are u path file met (inr (g, (needs, v), h)) = let k : HasKnown joined g = met g needs in
        known_not_unread joined k.0 k.2 (ap is_known (are k.0) ∙ unread_join (T k.0) (pass k.0) (v k.0 k.1) (u k.0 (h k.0 k.1)))
