-- Lost trees of a volume that opens or does not, over a table that agrees with a lawful volume.
use Rattle.std.proofs.Common.{◌≡◌, refl, sym, ◌∙◌, ap, subst, inl, inr, ◌⊎◌, ℕ, Bool, true, false, cond, List, [], ◌∷◌, map, Some, None, option_map}
use Rattle.std.specs.Prelude.{Contains}
use Rattle.std.specs.List.{AllZip}
use Rattle.udfs_lattice.specs.Volumes.{Blocks, Volume, Agrees, complete, IsUnread}
use Rattle.udfs_lattice.proofs.Inclusion.{Includes, in_nothing, included}
use Rattle.udfs_volume.specs.Answers.{Answer, found, holes, faulty, and_then}
use Rattle.udfs_volume.specs.Layout.{Layout, layout_by}
use Rattle.udfs_volume.specs.Laws.{IsAnswerOf, IsSequenceGroup, ListsGroup, the_same, valid_anchors}
use Rattle.udfs_volume.specs.Laws.IsAnswerOf.{unread as unread_answer}
use Rattle.udfs_volume.specs.Sequence.{anchor_places}
use Rattle.udfs_volume.specs.declared.profiles.Profile.{Profile}
use Rattle.udfs_volume.proofs.PublicLaws.{layout_of_lawful_by}
use Rattle.udfs_space.specs.Laws.{IsSparingGroup}
use Rattle.udfs_space.specs.Places.{View, view}
use Rattle.udfs_space.specs.Sparing.{Space, space}
use Rattle.udfs_space.specs.Standard.{standard_space}
use Rattle.udfs_space.proofs.PublicLaws.{space_of_lawful_by}
use Rattle.udfs_walk.specs.Bare.{full_node}
use Rattle.udfs_walk.specs.NodeFields.{NodeFields}
use Rattle.udfs_walk.specs.Targets.{Icb}
use Rattle.udfs_walk.specs.UnnamedEntries.{address_of}
use Rattle.udfs_walk.specs.Walks.{AreNodes}
use Rattle.udfs_walk.specs.declared.answers.Unnamed.{Unnamed}
use Rattle.udfs_lost.specs.LostTrees.{IsLostTree}
use Rattle.udfs_lost.specs.PlacedVolumes.{Placed, has_two, if_found, placed_by, placed_in}
use Rattle.udfs_lost.specs.Subtrees.{IsFolderAt, TellsBelow}
use Rattle.udfs_lost.specs.declared.trees.LostTree.{LostTree}
use Rattle.udfs_lost.proofs.PublicLaws.{lost_trees_tell}
use Rattle.udfs_salvage.specs.Found.{Found}
use Rattle.udfs_salvage.specs.Laws.{IsLawfulVolumeBy, IsToldOf}
use Rattle.udfs_salvage.specs.VolumeTrees.{IsLawfulBy, IsOpenedBy, Opened}
use Rattle.udfs_salvage.proofs.Openings.{ReadAs, has_partitions, lawful_tree, read_as}
use Rattle.udfs_salvage.proofs.Opens.{FoundBy, found_by}
use Rattle.udfs_salvage.proofs.TreeReports.{part_of}
use Rattle.udfs_salvage.proofs.VolumeLaw.{tells_lawful}
use Rattle.udfs_overview.specs.Disagreements.{has_room}
use Rattle.udfs_overview.specs.LostVolumes.{IsPlaceGroup, IsPlacedAs, FoundTreesAreTheVolumes, PlacesAreTheVolumes}
use Rattle.udfs_overview.specs.Searched.{Searched, of_placed, searched_by, without_root}

-- ---- the places

-- what holds of some groups holds of more
more_groups : (M : Blocks) (av ps : List ℕ) (G H : List ℕ → Type 0) (listed : List ℕ) → ((g : List ℕ) → G g → H g) → ListsGroup M av ps G listed → ListsGroup M av ps H listed
more_groups M av ps G H listed f x = record { group = x.group; is_group = f x.group x.is_group; unread = x.unread; holds = x.holds; not_known = x.not_known; each = λ n i. go n (x.each n i) }
  where
    go : (n : ℕ) → ((g : List ℕ) × G g × IsUnread M g × Contains g n) ⊎ (Contains ps n × IsUnread M av) → ((g : List ℕ) × H g × IsUnread M g × Contains g n) ⊎ (Contains ps n × IsUnread M av)
    go n (inl w) = inl (w.0, f w.0 w.1, w.2, w.3)
    go n (inr w) = inr w

no_places : (M : Blocks) (av ps : List ℕ) (G : List ℕ → Type 0) (listed : List ℕ) → ListsGroup M [] [] G listed → ListsGroup M av ps G listed
no_places M av ps G listed x = record { group = x.group; is_group = x.is_group; unread = x.unread; holds = x.holds; not_known = x.not_known; each = λ n i. go n (x.each n i) }
  where
    go : (n : ℕ) → ((g : List ℕ) × G g × IsUnread M g × Contains g n) ⊎ (Contains [] n × IsUnread M []) → ((g : List ℕ) × G g × IsUnread M g × Contains g n) ⊎ (Contains ps n × IsUnread M av)
    go n (inl w) = inl w
    go n (inr w) = in_nothing n w.0

pub places_are_the_volumes : PlacesAreTheVolumes
unfolding placed_by
places_are_the_volumes P M V N lawful a = by_layout (layout_of_lawful_by P M V N lawful.volume_is lawful.layout a)
  where
    f : Found
    f = lawful.found_is

    by : FoundBy P (complete V N) N f
    by = found_by P (complete V N) N f lawful.finds

    Result : Answer Placed → Type 0
    Result told = IsPlacedAs V M N f told

    from_layout : (o : Answer Layout) → layout_by P M N ≡ o → placed_by P M N ≡ and_then o (placed_in M)
    from_layout o q = ap (λ x. and_then x (placed_in M)) q

    in_space : (o : Answer Space) → space M f.layout ≡ o → placed_in M f.layout ≡ and_then o (λ s. found (record { layout = f.layout; space = s }))
    in_space o q = ap (λ x. and_then x (λ s. found (record { layout = f.layout; space = s }))) q

    by_space : layout_by P M N ≡ found f.layout → IsAnswerOf M [] [] (IsSparingGroup f.layout.partitions) (space M f.layout) (space (complete V N) f.layout) → Result (placed_by P M N)
    by_space q (the_same r k) = subst Result (sym (from_layout (found f.layout) q ∙ in_space (found f.space) (r ∙ by.space_is))) (refl, refl)
    by_space q (unread_answer listed r x) = subst Result (sym (from_layout (found f.layout) q ∙ in_space (holes listed) r))
        (no_places M (valid_anchors V N) (anchor_places N) (IsPlaceGroup V N f) listed (more_groups M [] [] (IsSparingGroup f.layout.partitions) (IsPlaceGroup V N f) listed (λ g h. inr h) x))

    by_layout : IsAnswerOf M (valid_anchors V N) (anchor_places N) (IsSequenceGroup V N) (layout_by P M N) (layout_by P (complete V N) N) → Result (placed_by P M N)
    by_layout (the_same q k) = by_space (q ∙ by.layout_is) (space_of_lawful_by P M V N f.layout lawful.volume_is by.layout_is lawful.sparing a)
    by_layout (unread_answer listed q x) = subst Result (sym (from_layout (holes listed) q))
        (more_groups M (valid_anchors V N) (anchor_places N) (IsSequenceGroup V N) (IsPlaceGroup V N f) listed (λ g h. inl h) x)

-- ---- where it is looked for

some_same : (s t : Searched) → Some s ≡ Some t → s ≡ t
some_same s t e = cc

-- what is looked through in place of a volume that does not open is a placed one
placed_seen : (M : Blocks) (b : Bool) (o : Answer Placed) (s : Searched) → cond b (option_map (of_placed M) (if_found o)) None ≡ Some s → (p : Placed) × (o ≡ found p) × (s ≡ of_placed M p)
placed_seen M true (found p) s e = (p, refl, sym (some_same (of_placed M p) s e))
placed_seen M true (holes listed) s e = absurd (let z : ⊥ = cc in z)
placed_seen M true (faulty fault) s e = absurd (let z : ⊥ = cc in z)
placed_seen M false o s e = absurd (let z : ⊥ = cc in z)

closed_view : (P : Profile) (M : Blocks) (V : Volume) (N : ℕ) (l : IsLawfulVolumeBy P V N) → Agrees M V N → (s : Searched) → without_root P M N ≡ Some s → s.view ≡ view M l.found_is.space
unfolding without_root
closed_view P M V N l a s e = ap (λ (t : Searched). t.view) p.2 ∙ ap (view M) same.1
  where
    p : (p : Placed) × (placed_by P M N ≡ found p) × (s ≡ of_placed M p)
    p = placed_seen M (has_room N) (placed_by P M N) s e

    same : ((p.0).layout ≡ l.found_is.layout) × ((p.0).space ≡ l.found_is.space)
    same = subst (IsPlacedAs V M N l.found_is) p.1 (places_are_the_volumes P M V N l a)

-- it is part of the volume
view_of : (P : Profile) (M : Blocks) (V : Volume) (N : ℕ) (l : IsLawfulVolumeBy P V N) → Agrees M V N → (entries : List Unnamed) (told : Answer Found) → IsToldOf V M N l.found_is told
    → (s : Searched) → searched_by (without_root P M N) M told entries ≡ Some s → s.view ≡ view M l.found_is.space
view_of P M V N l a entries (found g) is s e = ap (λ (t : Searched). t.view) (sym (some_same (record { view = view M g.space; two = has_two g.layout; entries = entries }) s e)) ∙ ap (λ (h : Found). view M h.space) is.same
view_of P M V N l a entries (holes listed) is s e = closed_view P M V N l a s e
view_of P M V N l a entries (faulty fault) is s e = absurd is

-- ---- the trees

-- what is in the second list stands beside something of the first
beside_one : (v : View) (icbs : List Icb) (trees : List LostTree) (tree : LostTree) → AllZip (IsLostTree v) icbs trees → Includes trees tree → IsLostTree v tree.folder tree
beside_one v [] [] tree zip i = absurd i
beside_one v [] (t ∷ trees) tree zip i = absurd zip
beside_one v (icb ∷ icbs) [] tree zip i = absurd i
beside_one v (icb ∷ icbs) (t ∷ trees) tree zip (inl same) = subst (λ (x : LostTree). IsLostTree v x.folder x) same (subst (λ (k : Icb). IsLostTree v k t) (sym zip.0.folder) zip.0)
beside_one v (icb ∷ icbs) (t ∷ trees) tree zip (inr i) = beside_one v icbs trees tree zip.1 i

-- the tree of a folder, seen in a part of the volume
tells_in : (P : Profile) (M : Blocks) (V : Volume) (N : ℕ) (l : IsLawfulBy P V N) → Agrees M V N → (opened : Opened) → IsOpenedBy P V N opened → (path : List (List ℕ)) (icb : Icb) → IsFolderAt opened.blocks opened.root path icb
    → (nodes : List NodeFields) → AreNodes (view M l.is_volume.found_is.space) (address_of icb) nodes
    → TellsBelow (view M l.is_volume.found_is.space) (view (complete V N) (standard_space V opened.layout)) opened.blocks opened.root path icb nodes
tells_in P M V N l a opened is path icb folder nodes are =
    subst (λ (o : Opened). IsFolderAt o.blocks o.root path icb → TellsBelow (view M f.space) (view (complete V N) (standard_space V o.layout)) o.blocks o.root path icb nodes) (sym (r.only opened is)) there folder
  where
    f : Found
    f = l.is_volume.found_is

    r : ReadAs P V N f
    r = read_as P V N l

    there : IsFolderAt r.opened.blocks r.opened.root path icb → TellsBelow (view M f.space) (view (complete V N) (standard_space V r.opened.layout)) r.opened.blocks r.opened.root path icb nodes
    there = subst (λ (g : Found). IsFolderAt r.opened.blocks g.root path icb → TellsBelow (view M f.space) (view (complete V N) g.space) r.opened.blocks g.root path icb nodes) (sym r.is_found)
        (λ at. lost_trees_tell (view (complete V N) f.space) r.opened.blocks r.is_whole (has_partitions (complete V N) f.space) f.root (lawful_tree P V N l) path icb at (view M f.space) (part_of P M V N l a) nodes are)

pub found_trees_are_the_volumes : FoundTreesAreTheVolumes
found_trees_are_the_volumes P M V N l a opened is report is_report s at deleted trees lost tree has path folder =
    subst (λ (v : View). AreNodes v (address_of tree.folder) (map (full_node v) tree.nodes.items) → TellsBelow v (view (complete V N) (standard_space V opened.layout)) opened.blocks opened.root path tree.folder (map (full_node v) tree.nodes.items))
    (sym seen) (tells_in P M V N l a opened is path tree.folder folder (map (full_node (view M l.is_volume.found_is.space)) tree.nodes.items)) (beside_one s.view lost.roots trees tree lost.are_trees.each (included trees tree has)).nodes
  where
    seen : s.view ≡ view M l.is_volume.found_is.space
    seen = view_of P M V N l.is_volume a report.unnamed report.volume (tells_lawful P M N report.volume is_report.volume_is V l.is_volume a) s at
