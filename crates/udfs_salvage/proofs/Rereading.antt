-- What a report says of a lawful volume where more of it is known, and what is listed to be read again.
use Rattle.std.proofs.Common.{◌≡◌, ◌≢◌, refl, sym, ◌∙◌, ap, subst, inl, inr, ◌⊎◌, ℕ, false, List, []}
use Rattle.std.specs.Prelude.{Contains}
use Rattle.udfs_volume.specs.declared.profiles.Profile.{Profile}
use Rattle.udfs_lattice.specs.States.{State, IsBelow, is_known, join_of}
use Rattle.udfs_lattice.specs.Volumes.{Blocks, Volume, Agrees, complete, IsUnread}
use Rattle.udfs_lattice.proofs.Inclusion.{in_nothing}
use Rattle.udfs_lattice.specs.declared.facts.Fact.{Fact}
use Rattle.udfs_lattice.specs.declared.facts.Fact.TheVariants.{Unknown, Known, Conflict}
use Rattle.udfs_lattice.proofs.PublicLaws.{complete_agrees}
use Rattle.udfs_volume.specs.Answers.{Answer, found, holes, faulty}
use Rattle.udfs_volume.specs.Laws.{IsAnswerOf, the_same, unread as unread_answer, ListsGroup, valid_anchors}
use Rattle.udfs_volume.specs.Sequence.{Bytes, anchor_places}
use Rattle.udfs_space.specs.Places.{View, view, IsPartOf}
use Rattle.udfs_space.proofs.PublicLaws.{places_are_blocks_by}
use Rattle.udfs_file.specs.declared.cells.Cell.{Cell}
use Rattle.udfs_walk.specs.NodeFields.{NodeFields}
use Rattle.udfs_walk.specs.Rereads.{reread}
use Rattle.udfs_walk.specs.Walks.{AreNodes}
use Rattle.udfs_walk.specs.Cells.{IsWholeAs, HasCellsAt}
use Rattle.udfs_walk.specs.KnownLaws.{IsListedWhole, AreWanted}
use Rattle.udfs_walk.specs.KnownLaws as known
use Rattle.udfs_walk.specs.TreeLaws.{IsNodeOf}
use Rattle.udfs_walk.specs.Needs.{Needs, HasKnown, IsMet}
use Rattle.udfs_walk.specs.Trees.{PartitionBlocks, TreeFile, InTree}
use Rattle.udfs_walk.proofs.TreePublicLaws.{missing_is_wanted, partial_nodes, root_is_in_tree, whole_alike}
use Rattle.udfs_salvage.specs.Found.{Found, volume_by}
use Rattle.udfs_salvage.specs.Laws.{IsVolumeGroup, IsToldOf}
use Rattle.udfs_salvage.specs.KnownEnough.{IsReportedWhole, MetIsReported, StaysWhole, HoldsWantedIn, IsWantedBlock, RereadsSuffice}
use Rattle.udfs_salvage.specs.Reports.{Report, IsReportBy, ReportsBy}
use Rattle.udfs_salvage.specs.VolumeTrees.{IsInVolumeBy, IsLawfulBy, NeedsOf, for_volume, for_node, IsNeededIn, IsMetBy}
use Rattle.udfs_salvage.proofs.Founds.{found_same, known_not_unread}
use Rattle.udfs_salvage.proofs.Opens.{FoundBy, found_by}
use Rattle.udfs_salvage.proofs.Openings.{ReadAs, lawful_tree, read_as}
use Rattle.udfs_salvage.proofs.RulesFound.{found_rules}
use Rattle.udfs_salvage.proofs.VolumeLaw.{volume_law, tells_lawful}

-- ---- the volume, and its complete view
abbrev pub all_of : (P : Profile) (V : Volume) (N : ℕ) → IsLawfulBy P V N → View
all_of P V N l = view (complete V N) l.is_volume.found_is.space

-- what a table knows of it
abbrev pub part_of : (P : Profile) (T : Blocks) (V : Volume) (N : ℕ) → IsLawfulBy P V N → View
part_of P T V N l = view T l.is_volume.found_is.space

-- a table that agrees knows a part of the complete view
pub part_is : (P : Profile) (T : Blocks) (V : Volume) (N : ℕ) (l : IsLawfulBy P V N) → Agrees T V N → IsPartOf (part_of P T V N l) (all_of P V N l)
part_is P T V N l a = let by : FoundBy P (complete V N) N l.is_volume.found_is = found_by P (complete V N) N l.is_volume.found_is l.is_volume.finds in
    places_are_blocks_by P T V N l.is_volume.found_is.layout l.is_volume.found_is.space l.is_volume.volume_is by.layout_is by.space_is a

-- the blocks of its partitions
abbrev pub blocks_of : (P : Profile) (V : Volume) (N : ℕ) → IsLawfulBy P V N → PartitionBlocks
blocks_of P V N l = (read_as P V N l).opened.blocks

-- what is in the tree is in the volume
pub tree_up : (P : Profile) (V : Volume) (N : ℕ) (l : IsLawfulBy P V N) (path : List (List ℕ)) (file : TreeFile) → InTree (blocks_of P V N l) l.is_volume.found_is.root path file → IsInVolumeBy P V N path file
tree_up P V N l path file t = let s : ReadAs P V N l.is_volume.found_is = read_as P V N l in
    (s.opened, s.is_opened, subst (λ z. InTree s.opened.blocks z.root path file) (sym s.is_found) t)

-- and what is in the volume is in its tree
pub tree_down : (P : Profile) (V : Volume) (N : ℕ) (l : IsLawfulBy P V N) (path : List (List ℕ)) (file : TreeFile) → IsInVolumeBy P V N path file → InTree (blocks_of P V N l) l.is_volume.found_is.root path file
tree_down P V N l path file (o, is, t) = let s : ReadAs P V N l.is_volume.found_is = read_as P V N l in
    subst (λ z. InTree s.opened.blocks z.root path file) s.is_found (subst (λ z. InTree z.blocks z.root path file) (s.only o is) t)

-- a group of the volume is needed for every path
pub volume_up : (P : Profile) (V : Volume) (N : ℕ) (l : IsLawfulBy P V N) (path : List (List ℕ)) (g : List ℕ) → IsVolumeGroup V N l.is_volume.found_is g → IsNeededIn P V N path g
volume_up P V N l path g x = let s : ReadAs P V N l.is_volume.found_is = read_as P V N l in
    (s.opened, s.is_opened, for_volume (subst (λ z. IsVolumeGroup V N z g) (sym s.is_found) x))

-- a group that a node of the tree needs is needed in the volume
pub node_up : (P : Profile) (V : Volume) (N : ℕ) (l : IsLawfulBy P V N) (path : List (List ℕ)) (g : List ℕ) → Needs (all_of P V N l) (blocks_of P V N l) l.is_volume.found_is.root path g → IsNeededIn P V N path g
node_up P V N l path g x = let s : ReadAs P V N l.is_volume.found_is = read_as P V N l in
    (s.opened, s.is_opened, for_node (subst (λ z. Needs (view (complete V N) z.space) s.opened.blocks z.root path g) (sym s.is_found) x))

-- there are no other groups
needs_down : (P : Profile) (V : Volume) (N : ℕ) (l : IsLawfulBy P V N) (path : List (List ℕ)) (g : List ℕ) → IsNeededIn P V N path g
    → IsVolumeGroup V N l.is_volume.found_is g ⊎ Needs (all_of P V N l) (blocks_of P V N l) l.is_volume.found_is.root path g
needs_down P V N l path g (o, is, n) = go (subst (λ z. NeedsOf V N z path g) (s.only o is) n)
  where
    s : ReadAs P V N l.is_volume.found_is
    s = read_as P V N l

    go : NeedsOf V N s.opened path g → IsVolumeGroup V N l.is_volume.found_is g ⊎ Needs (all_of P V N l) (blocks_of P V N l) l.is_volume.found_is.root path g
    go (for_volume x) = inl (subst (λ z. IsVolumeGroup V N z g) s.is_found x)
    go (for_node x) = inr (subst (λ z. Needs (view (complete V N) z.space) s.opened.blocks z.root path g) s.is_found x)

-- the root is in the tree
pub root_in_tree : (P : Profile) (V : Volume) (N : ℕ) → IsLawfulBy P V N → (file : TreeFile) × IsInVolumeBy P V N [] file
root_in_tree P V N l = let h : (file : TreeFile) × InTree (blocks_of P V N l) l.is_volume.found_is.root [] file =
    root_is_in_tree (all_of P V N l) (blocks_of P V N l) (read_as P V N l).is_whole l.is_volume.found_is.root (lawful_tree P V N l) in
    (h.0, tree_up P V N l [] h.0 h.1)

-- ---- what the report of a lawful volume is
-- its nodes, where each group of the volume has a known block; or no nodes, and what has to be read before there are any
pub data IsOpenOrShut (T : Blocks) (V : Volume) (N : ℕ) (f : Found) (report : Report) : Type 0 where
  is_open : report.volume ≡ found f → AreNodes (view T f.space) f.root report.nodes → report.reread ≡ reread report.nodes
      → ((g : List ℕ) → IsVolumeGroup V N f g → HasKnown T g) → IsOpenOrShut T V N f report
  is_shut : (listed : List ℕ) → report.volume ≡ holes listed → report.reread ≡ listed
      → ListsGroup T (valid_anchors V N) (anchor_places N) (IsVolumeGroup V N f) listed → IsOpenOrShut T V N f report

-- one of both it is
pub open_or_shut : (P : Profile) (T : Blocks) (V : Volume) (N : ℕ) (l : IsLawfulBy P V N) → Agrees T V N → (report : Report) → IsReportBy P T N report → IsOpenOrShut T V N l.is_volume.found_is report
open_or_shut P T V N l a report r = go report.volume refl (tells_lawful P T N report.volume r.volume_is V l.is_volume a) r.by_volume
  where
    f : Found
    f = l.is_volume.found_is

    go : (v : Answer Found) → report.volume ≡ v → IsToldOf V T N f v → ReportsBy T v report → IsOpenOrShut T V N f report
    go (found got) e t b = is_open (e ∙ ap found t.same) (subst (λ z. AreNodes (view T z.space) z.root report.nodes) t.same b.nodes_are) b.reread_is t.known
    go (holes listed) e t b = is_shut listed e b.reread_is t
    go (faulty fault) e t b = absurd t

-- a report of a volume that does not open has nothing whole
pub shut_has_none : {A : Type 0} (T : Blocks) (report : Report) (listed : List ℕ) (path : List (List ℕ)) (file : TreeFile) → report.volume ≡ holes listed → IsReportedWhole T report path file → A
shut_has_none T report listed path file h (f, e, x) = absurd (let t : holes listed ≡ found f = sym h ∙ e in let z : ⊥ = cc in z)

-- what is whole in a report that opens is whole in its list
pub listed_whole : (T : Blocks) (report : Report) (f : Found) (path : List (List ℕ)) (file : TreeFile) → report.volume ≡ found f → IsReportedWhole T report path file
    → IsListedWhole (view T f.space) f.root report.nodes path file
listed_whole T report f path file e (g, h, x) = subst (λ z. IsListedWhole (view T z.space) z.root report.nodes path file) (found_same g f (sym h ∙ e)) x

-- ---- what is whole is met
-- a file of the tree as which a node is whole, where all that it needs is known
pub record IsWholeAndMet (P : Profile) (T : Blocks) (V : Volume) (N : ℕ) (report : Report) (path : List (List ℕ)) (file : TreeFile) : Type 0 where
  pub other : TreeFile
  pub in_volume : IsInVolumeBy P V N path other
  pub is_met : IsMetBy P T V N path
  pub alike : (m : NodeFields) (es : List Cell) → IsWholeAs P m other es → IsWholeAs P m file es

-- what is whole has a known block in each group, since what is whole over a part has
pub whole_and_met : (P : Profile) (T : Blocks) (V : Volume) (N : ℕ) (l : IsLawfulBy P V N) → Agrees T V N → (report : Report) → IsReportBy P T N report → (path : List (List ℕ)) (file : TreeFile)
    → IsReportedWhole T report path file → IsWholeAndMet P T V N report path file
whole_and_met P T V N l a report r path file w = go (open_or_shut P T V N l a report r)
  where
    f : Found
    f = l.is_volume.found_is

    met : ((g : List ℕ) → IsVolumeGroup V N f g → HasKnown T g) → IsMet (part_of P T V N l) (all_of P V N l) (blocks_of P V N l) f.root path → IsMetBy P T V N path
    met known tree g needs = by (needs_down P V N l path g needs)
      where
        by : IsVolumeGroup V N f g ⊎ Needs (all_of P V N l) (blocks_of P V N l) f.root path g → HasKnown T g
        by (inl x) = known g x
        by (inr x) = tree g x

    listed : AreNodes (part_of P T V N l) f.root report.nodes → ((g : List ℕ) → IsVolumeGroup V N f g → HasKnown T g) → IsListedWhole (part_of P T V N l) f.root report.nodes path file
        → IsWholeAndMet P T V N report path file
    listed are known (i, n, cs, get, named, at, is) = record {
      other = o.file;
      in_volume = subst (λ z. IsInVolumeBy P V N z o.file) named (tree_up P V N l n.path o.file o.in_tree);
      is_met = met known (subst (IsMet (part_of P T V N l) (all_of P V N l) (blocks_of P V N l) f.root) named whole.1);
      alike = subst (λ p. (m : NodeFields) (es : List Cell) → IsWholeAs p m o.file es → IsWholeAs p m file es) (found_rules P (complete V N) N f l.is_volume.finds)
          (whole_alike (part_of P T V N l) f.root i n file o.file cs whole.0.0 at whole.0.1 is whole.0.2);
    }
      where
        o : IsNodeOf (part_of P T V N l) (all_of P V N l) (blocks_of P V N l) f.root i n
        o = partial_nodes (part_of P T V N l) (all_of P V N l) (blocks_of P V N l) (part_is P T V N l a) (read_as P V N l).is_whole f.root (lawful_tree P V N l) report.nodes are i n get

        whole : ((ds : List Cell) × HasCellsAt (part_of P T V N l) f.root i ds × IsWholeAs f.space.profile n o.file ds) × IsMet (part_of P T V N l) (all_of P V N l) (blocks_of P V N l) f.root n.path
        whole = o.whole is.standing

    go : IsOpenOrShut T V N f report → IsWholeAndMet P T V N report path file
    go (is_open e are again known) = listed are known (listed_whole T report f path file e w)
    go (is_shut ns e again x) = shut_has_none T report ns path file e w

-- ---- the list of blocks to read again
-- each group of the volume has a block
pub group_has : (P : Profile) (V : Volume) (N : ℕ) (l : IsLawfulBy P V N) (g : List ℕ) → IsVolumeGroup V N l.is_volume.found_is g → (n : ℕ) × Contains g n
group_has P V N l g i = go (volume_law P (complete V N) V N l.is_volume (complete_agrees V N))
  where
    go : IsAnswerOf (complete V N) (valid_anchors V N) (anchor_places N) (IsVolumeGroup V N l.is_volume.found_is) (volume_by P (complete V N) N) (volume_by P (complete V N) N) → (n : ℕ) × Contains g n
    go (the_same e k) = ((k g i).0, (k g i).1)
    go (unread_answer listed e x) = absurd (let t : holes listed ≡ found l.is_volume.found_is = sym e ∙ l.is_volume.finds in let z : ⊥ = cc in z)

-- what is asked of the list, but for the pass
record IsRightList (P : Profile) (T : Blocks) (V : Volume) (N : ℕ) (report : Report) : Type 0 where
  none_if : report.reread ≡ [] → (path : List (List ℕ)) (file : TreeFile) → IsInVolumeBy P V N path file → IsReportedWhole T report path file
  none_only_if : ((path : List (List ℕ)) (file : TreeFile) → IsInVolumeBy P V N path file → IsReportedWhole T report path file) → report.reread ≡ []
  not_known : IsUnread T report.reread
  each : (n : ℕ) → Contains report.reread n → IsWantedBlock P T V N n ⊎ (Contains (anchor_places N) n × IsUnread T (valid_anchors V N))
  whole_or_held : (path : List (List ℕ)) (file : TreeFile) → IsInVolumeBy P V N path file → IsReportedWhole T report path file ⊎ HoldsWantedIn P T V N path report.reread

-- of a volume that opens
open_list : (P : Profile) (T : Blocks) (V : Volume) (N : ℕ) (l : IsLawfulBy P V N) → Agrees T V N → (report : Report) → report.volume ≡ found l.is_volume.found_is
    → AreNodes (part_of P T V N l) l.is_volume.found_is.root report.nodes → report.reread ≡ reread report.nodes → IsRightList P T V N report
open_list P T V N l a report e are again = record {
  none_if = λ none path file t. (f, e, w.none.0 (sym again ∙ none) path file (tree_down P V N l path file t));
  none_only_if = λ h. again ∙ w.none.1 (λ path file t. listed_whole T report f path file e (h path file (tree_up P V N l path file t)));
  not_known = subst (IsUnread T) (sym again) w.not_known;
  each = λ n i. inl (by_block n (w.each n (subst (λ z. Contains z n) again i)));
  whole_or_held = λ path file t. by_path path file (w.whole_or_held path file (tree_down P V N l path file t));
}
  where
    f : Found
    f = l.is_volume.found_is

    w : AreWanted (part_of P T V N l) (all_of P V N l) (blocks_of P V N l) f.root report.nodes (reread report.nodes)
    w = missing_is_wanted (part_of P T V N l) (all_of P V N l) (blocks_of P V N l) (part_is P T V N l a) (read_as P V N l).is_whole f.root (lawful_tree P V N l) report.nodes are

    by_block : (n : ℕ) → (path : List (List ℕ)) × (file : TreeFile) × (group : List ℕ) × InTree (blocks_of P V N l) f.root path file
        × known.IsWanted (part_of P T V N l) (all_of P V N l) (blocks_of P V N l) f.root path group × Contains group n → IsWantedBlock P T V N n
    by_block n (path, file, g, t, (needs, u), i) = (path, file, g, tree_up P V N l path file t, (node_up P V N l path g needs, u), i)

    by_path : (path : List (List ℕ)) (file : TreeFile) → IsListedWhole (part_of P T V N l) f.root report.nodes path file ⊎ known.HoldsWanted (part_of P T V N l) (all_of P V N l) (blocks_of P V N l) f.root path (reread report.nodes)
        → IsReportedWhole T report path file ⊎ HoldsWantedIn P T V N path report.reread
    by_path path file (inl x) = inl (f, e, x)
    by_path path file (inr (g, (needs, u), h)) = inr (g, (node_up P V N l path g needs, u), λ n i. subst (λ z. Contains z n) (sym again) (h n i))

-- of one that does not
shut_list : (P : Profile) (T : Blocks) (V : Volume) (N : ℕ) (l : IsLawfulBy P V N) (report : Report) (listed : List ℕ) → report.volume ≡ holes listed → report.reread ≡ listed
    → ListsGroup T (valid_anchors V N) (anchor_places N) (IsVolumeGroup V N l.is_volume.found_is) listed → IsRightList P T V N report
shut_list P T V N l report listed e again x = record {
  none_if = λ none path file t. let h : (n : ℕ) × Contains x.group n = group_has P V N l x.group x.is_group in
      in_nothing h.0 (subst (λ z. Contains z h.0) (sym again ∙ none) (x.holds h.0 h.1));
  none_only_if = λ h. shut_has_none T report listed [] root.0 e (h [] root.0 root.1);
  not_known = subst (IsUnread T) (sym again) x.not_known;
  each = λ n i. by n (x.each n (subst (λ z. Contains z n) again i));
  whole_or_held = λ path file t. inr (x.group, (volume_up P V N l path x.group x.is_group, x.unread), λ n i. subst (λ z. Contains z n) (sym again) (x.holds n i));
}
  where
    root : (file : TreeFile) × IsInVolumeBy P V N [] file
    root = root_in_tree P V N l

    by : (n : ℕ) → ((g : List ℕ) × IsVolumeGroup V N l.is_volume.found_is g × IsUnread T g × Contains g n) ⊎ (Contains (anchor_places N) n × IsUnread T (valid_anchors V N))
        → IsWantedBlock P T V N n ⊎ (Contains (anchor_places N) n × IsUnread T (valid_anchors V N))
    by n (inl (g, is, u, i)) = inl ([], root.0, g, root.1, (volume_up P V N l [] g is, u), i)
    by n (inr k) = inr k

-- so the list is right
right_list : (P : Profile) (T : Blocks) (V : Volume) (N : ℕ) (l : IsLawfulBy P V N) → Agrees T V N → (report : Report) → IsReportBy P T N report → IsRightList P T V N report
right_list P T V N l a report r = go (open_or_shut P T V N l a report r)
  where
    go : IsOpenOrShut T V N l.is_volume.found_is report → IsRightList P T V N report
    go (is_open e are again known) = open_list P T V N l a report e are again
    go (is_shut listed e again x) = shut_list P T V N l report listed e again x

-- ---- the laws
-- where each group has a known block, no group is wanted
pub met_is_reported : (P : Profile) (T : Blocks) (N : ℕ) (report : Report) → IsReportBy P T N report → MetIsReported P T N report
met_is_reported P T N report r V l a path file t met = go ((right_list P T V N l a report r).whole_or_held path file t)
  where
    go : IsReportedWhole T report path file ⊎ HoldsWantedIn P T V N path report.reread → IsReportedWhole T report path file
    go (inl w) = w
    go (inr (g, (needs, u), h)) = let k : HasKnown T g = met g needs in known_not_unread T k.0 k.2 (u k.0 k.1)

-- what is known and not disputed is known in a table above
known_above : (a b : State) (bytes : Bytes) → a ≡ Known bytes → IsBelow a b → b ≢ Conflict → b ≡ Known bytes
known_above a b bytes e h c = go b (subst (λ x. IsBelow x b) e h) c
  where
    go : (b : State) → IsBelow (Fact.Known bytes) b → b ≢ Conflict → b ≡ Known bytes
    go Unknown h c = absurd h
    go (Known other) h c = ap Fact.Known (sym h)
    go Conflict h c = absurd (c refl)

-- what is whole has a known block in each group, and so it has in a table above
pub stays_whole : (P : Profile) (T : Blocks) (N : ℕ) (report : Report) → IsReportBy P T N report → StaysWhole P T N report
stays_whole P T N report r V l a M other b q k path file w = go (met_is_reported P M N other q V l b path x.other x.in_volume more)
  where
    x : IsWholeAndMet P T V N report path file
    x = whole_and_met P T V N l a report r path file w

    more : IsMetBy P M V N path
    more g needs = let h : HasKnown T g = x.is_met g needs in (h.0, h.1, (h.2.0, known_above (T h.0) (M h.0) h.2.0 h.2.1 (k.below h.0) (k.undisputed h.0 h.2)))

    go : IsReportedWhole M other path x.other → IsReportedWhole M other path file
    go (f, e, (i, n, cs, get, named, at, is)) = let rules : f.space.profile ≡ P = found_rules P M N f (sym q.volume_is ∙ e) in
        (f, e, (i, n, cs, get, named, at, subst (λ p. IsWholeAs p n file cs) (sym rules) (x.alike n cs (subst (λ p. IsWholeAs p n x.other cs) rules is))))

-- what neither of two tables knows, their join does not know
pub unread_join : (a b : State) → is_known a ≡ false → is_known b ≡ false → is_known (join_of a b) ≡ false
unread_join Unknown b u v = v
unread_join (Known x) b u v = absurd (let z : ⊥ = cc in z)
unread_join Conflict b u v = refl

-- a group that neither the table nor the pass knows a block of has none in the join
pub rereads_suffice : (P : Profile) (T : Blocks) (N : ℕ) (report : Report) → IsReportBy P T N report → RereadsSuffice P T N report
rereads_suffice P T N report r V l a = record {
  none = (s.none_if, s.none_only_if);
  not_known = s.not_known;
  each = s.each;
  whole_or_held = s.whole_or_held;
  needed_pass = λ pass joined other are b u q path file t w. go pass joined are u path file (whole_and_met P joined V N l b other q path file w).is_met (s.whole_or_held path file t);
}
  where
    s : IsRightList P T V N report
    s = right_list P T V N l a report r

    go : (pass joined : Blocks) → ((n : ℕ) → joined n ≡ join_of (T n) (pass n)) → IsUnread pass report.reread → (path : List (List ℕ)) (file : TreeFile) → IsMetBy P joined V N path
        → IsReportedWhole T report path file ⊎ HoldsWantedIn P T V N path report.reread → IsReportedWhole T report path file
    go pass joined are u path file met (inl w) = w
    go pass joined are u path file met (inr (g, (needs, v), h)) = let k : HasKnown joined g = met g needs in
        known_not_unread joined k.0 k.2 (ap is_known (are k.0) ∙ unread_join (T k.0) (pass k.0) (v k.0 k.1) (u k.0 (h k.0 k.1)))
