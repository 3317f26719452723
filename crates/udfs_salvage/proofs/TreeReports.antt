-- The report of a table that agrees with a lawful volume tells of that volume's tree.
use Rattle.std.proofs.Common.{◌≡◌, refl, sym, ◌∙◌, ap, subst, inl, inr, ℕ, List, [], arith, Some, None, slice_get}
use Rattle.udfs_volume.specs.declared.profiles.Profile.{Profile}
use Rattle.udfs_lattice.specs.Volumes.{Blocks, Volume, Agrees, complete}
use Rattle.udfs_volume.specs.Answers.{Answer, found, holes, faulty}
use Rattle.udfs_space.specs.Places.{view, IsPartOf}
use Rattle.udfs_space.proofs.PublicLaws.{places_are_blocks_by}
use Rattle.udfs_walk.specs.NodeFields.{NodeFields}
use Rattle.udfs_walk.specs.Routes.{HasMoreRoutes}
use Rattle.udfs_walk.specs.Trees.{TreeFile, InTree}
use Rattle.udfs_walk.specs.Needs.{Needs, HasKnown, IsMet}
use Rattle.udfs_walk.specs.TreeLaws.{AreTheTree, IsNodeOf}
use Rattle.udfs_walk.proofs.TreePublicLaws.{complete_nodes, fewer_routes, once_per_path, one_file, partial_nodes}
use Rattle.udfs_salvage.specs.Found.{Found}
use Rattle.udfs_salvage.specs.Laws.{IsVolumeGroup, IsFoundOf, IsToldOf}
use Rattle.udfs_salvage.specs.Reports.{Report, ReportsNodes, ReportsBy, IsReportBy, IsOutOfRange, IsPastEnd, HasTooManyPathsBy, IsLookRefused, IsUnfit}
use Rattle.udfs_salvage.specs.VolumeTrees.{IsInVolumeBy, IsLawfulBy, NeedsOf, for_volume, for_node, IsMetBy}
use Rattle.udfs_salvage.specs.TreeReports.{IsNodeOfVolume, IsReportOf, TellsTreeBy, IsWholeReportOf, TellsWholeTreeBy, AgreesWithNoneBy, IsOfNoLawfulBy, OpensOnceBy, OneFileAtBy, ReportsTellTreeBy}
use Rattle.udfs_salvage.specs.declared.errors.SalvageError.{SalvageError}
use Rattle.udfs_salvage.specs.declared.errors.SalvageError.TheVariants as errors
use Rattle.udfs_salvage.proofs.Opens.{FoundBy, found_by}
use Rattle.udfs_salvage.proofs.Openings.{ReadAs, lawful_tree, read_as}
use Rattle.udfs_salvage.proofs.RulesFound.{found_rules}
use Rattle.udfs_salvage.proofs.VolumeLaw.{tells_lawful}

-- what is known of the partitions is part of the complete ones
pub part_of : (P : Profile) (M : Blocks) (V : Volume) (N : ℕ) (l : IsLawfulBy P V N) → Agrees M V N → IsPartOf (view M l.is_volume.found_is.space) (view (complete V N) l.is_volume.found_is.space)
part_of P M V N l a = places_are_blocks_by P M V N f.layout f.space l.is_volume.volume_is by.layout_is by.space_is a
  where
    f : Found
    f = l.is_volume.found_is

    by : FoundBy P (complete V N) N f
    by = found_by P (complete V N) N f l.is_volume.finds

root_is : (P : Profile) (V : Volume) (N : ℕ) (f : Found) (r : ReadAs P V N f) → r.opened.root ≡ f.root
root_is P V N f r = ap (λ z. z.root) r.is_found

-- the tree of the volume is that of what it opens
pub in_volume : (P : Profile) (V : Volume) (N : ℕ) (f : Found) (r : ReadAs P V N f) (path : List (List ℕ)) (file : TreeFile) → InTree r.opened.blocks f.root path file → IsInVolumeBy P V N path file
in_volume P V N f r path file t = (r.opened, r.is_opened, subst (λ z. InTree r.opened.blocks z path file) (sym (root_is P V N f r)) t)

pub from_volume : (P : Profile) (V : Volume) (N : ℕ) (f : Found) (r : ReadAs P V N f) (path : List (List ℕ)) (file : TreeFile) → IsInVolumeBy P V N path file → InTree r.opened.blocks f.root path file
from_volume P V N f r path file (o, is, t) = subst (λ z. InTree r.opened.blocks z path file) (root_is P V N f r) (subst (λ z. InTree z.blocks z.root path file) (r.only o is) t)

-- where the groups of the volume and those of a node have known blocks, all that the node needs have
pub met_by : (P : Profile) (M : Blocks) (V : Volume) (N : ℕ) (f : Found) (r : ReadAs P V N f) → ((group : List ℕ) → IsVolumeGroup V N f group → HasKnown M group) → (path : List (List ℕ))
    → IsMet (view M f.space) (view (complete V N) f.space) r.opened.blocks f.root path → IsMetBy P M V N path
met_by P M V N f r known path met group (o, is, need) = go (subst (λ z. NeedsOf V N z path group) (r.only o is) need)
  where
    go : NeedsOf V N r.opened path group → HasKnown M group
    go (for_volume g) = known group (subst (λ z. IsVolumeGroup V N z group) r.is_found g)
    go (for_node x) = met group (subst (λ z. Needs (view (complete V N) z.space) r.opened.blocks z.root path group) r.is_found x)

-- ---- one node
node_in : (P : Profile) (M : Blocks) (V : Volume) (N : ℕ) (l : IsLawfulBy P V N) → Agrees M V N → ((group : List ℕ) → IsVolumeGroup V N l.is_volume.found_is group → HasKnown M group)
    → (told : Answer Found) → told ≡ found l.is_volume.found_is → (report : Report) → ReportsNodes M l.is_volume.found_is report
    → (index : ℕ) (n : NodeFields) → slice_get report.nodes index ≡ Some n → IsNodeOfVolume P M V N told index n
node_in P M V N l a known told e report x index n at = record {
  opened = f;
  opens = e;
  rules = found_rules P (complete V N) N f l.is_volume.finds;
  file = y.file;
  in_volume = in_volume P V N f r n.path y.file y.in_tree;
  no_fault = y.no_fault;
  as_far = y.told;
  whole = λ w. let z = y.whole w in (z.0, met_by P M V N f r known n.path z.1);
}
  where
    f : Found
    f = l.is_volume.found_is

    r : ReadAs P V N f
    r = read_as P V N l

    y : IsNodeOf (view M f.space) (view (complete V N) f.space) r.opened.blocks f.root index n
    y = partial_nodes (view M f.space) (view (complete V N) f.space) r.opened.blocks (part_of P M V N l a) r.is_whole f.root (lawful_tree P V N l) report.nodes x.nodes_are index n at

no_nodes : {A : Type 0} (report : Report) → report.nodes ≡ [] → (index : ℕ) (n : NodeFields) → slice_get report.nodes index ≡ Some n → A
no_nodes report none index n at = absurd (let t : None ≡ Some n = ap (λ z. slice_get z index) (sym none) ∙ at in let z : ⊥ = cc in z)

report_of : (P : Profile) (M : Blocks) (V : Volume) (N : ℕ) (l : IsLawfulBy P V N) → Agrees M V N → (report : Report) (told : Answer Found) → report.volume ≡ told → ReportsBy M told report
    → IsToldOf V M N l.is_volume.found_is told → IsReportOf P M V N report
report_of P M V N l a report (found got) e by is = record {
  no_fault = inl (got, e);
  nodes = node_in P M V N l a is.known report.volume (e ∙ ap found is.same) report x;
  once = once_per_path (view M f.space) (view (complete V N) f.space) r.opened.blocks (part_of P M V N l a) r.is_whole f.root (lawful_tree P V N l) report.nodes x.nodes_are;
}
  where
    f : Found
    f = l.is_volume.found_is

    r : ReadAs P V N f
    r = read_as P V N l

    x : ReportsNodes M f report
    x = subst (λ z. ReportsNodes M z report) is.same by
report_of P M V N l a report (holes listed) e by is = record {
  no_fault = inr (listed, e);
  nodes = λ index n at. no_nodes report by.no_nodes index n at;
  once = λ i j m n at other q. no_nodes report by.no_nodes i m at;
}
report_of P M V N l a report (faulty fault) e by is = absurd is

pub tells_tree : (P : Profile) (M : Blocks) (N : ℕ) (report : Report) → IsReportBy P M N report → TellsTreeBy P M N report
tells_tree P M N report x V l a = report_of P M V N l a report report.volume refl x.by_volume (tells_lawful P M N report.volume x.volume_is V l.is_volume a)

-- ---- all known
whole_report : (P : Profile) (V : Volume) (N : ℕ) → IsLawfulBy P V N → (report : Report) → IsReportBy P (complete V N) N report → IsWholeReportOf P (complete V N) V N report
whole_report P V N l report x = record {
  opened = f;
  opens = opens;
  rules = found_rules P (complete V N) N f l.is_volume.finds;
  in_volume = λ index n at. let y = t.in_tree index n at in (y.0, in_volume P V N f r n.path y.0 y.2, (y.1, y.3, y.4));
  is_listed = λ path file i. let y = t.is_listed path file (from_volume P V N f r path file i) in (y.0, y.1, y.3, y.4, (y.2, y.5, y.6));
  once = t.once;
}
  where
    f : Found
    f = l.is_volume.found_is

    opens : report.volume ≡ found f
    opens = x.volume_is ∙ l.is_volume.finds

    r : ReadAs P V N f
    r = read_as P V N l

    by : ReportsNodes (complete V N) f report
    by = subst (λ z. ReportsBy (complete V N) z report) opens x.by_volume

    t : AreTheTree (view (complete V N) f.space) r.opened.blocks f.root report.nodes
    t = complete_nodes (view (complete V N) f.space) r.opened.blocks r.is_whole f.root (lawful_tree P V N l) report.nodes by.nodes_are

pub tells_whole_tree : (P : Profile) (M : Blocks) (N : ℕ) (report : Report) → IsReportBy P M N report → TellsWholeTreeBy P M N report
tells_whole_tree P M N report x V l h = subst (λ z. IsWholeReportOf P z V N report) (sym same) (whole_report P V N l report (subst (λ z. IsReportBy P z N report) same x))
  where
    same : M ≡ complete V N
    same = λ i n. h n i

-- ---- no report
pub out_of_range : (P : Profile) (M : Blocks) (N : ℕ) → IsOutOfRange N → AgreesWithNoneBy P M N
out_of_range P M N (inl h) V l a = let from = l.is_volume.volume_is.from in omega (arith, h, from)
out_of_range P M N (inr h) V l a = let to = l.is_volume.volume_is.to in omega (arith, h, to)

pub past_end : (P : Profile) (M : Blocks) (N n : ℕ) → IsPastEnd M N n → AgreesWithNoneBy P M N
past_end P M N n p V l a = p.not_unknown (a.above n p.past)

pub too_many : (P : Profile) (M : Blocks) (N : ℕ) → HasTooManyPathsBy P M N → AgreesWithNoneBy P M N
too_many P M N (got, e, more) V l a = go (tells_lawful P M N (found got) (sym e) V l.is_volume a)
  where
    f : Found
    f = l.is_volume.found_is

    r : ReadAs P V N f
    r = read_as P V N l

    go : IsFoundOf V M N f got → ⊥
    go is = (lawful_tree P V N l).limit (fewer_routes (view M f.space) (view (complete V N) f.space) r.opened.blocks (part_of P M V N l a) r.is_whole f.root (lawful_tree P V N l) 65536
        (subst (λ z. HasMoreRoutes (view M z.space) z.root 65536) is.same more))

pub unfit : (P : Profile) (M : Blocks) (N : ℕ) (e : SalvageError) → IsUnfit M N e → IsOfNoLawfulBy P M N e
unfit P M N errors.LastRange h = out_of_range P M N h
unfit P M N (errors.PastEnd n) h = past_end P M N n h.1
unfit P M N errors.TooManyPaths h = absurd h
unfit P M N errors.OutOfMemory h = absurd h

pub look_refused : (P : Profile) (M : Blocks) (N : ℕ) (e : SalvageError) → IsLookRefused P M N e → IsOfNoLawfulBy P M N e
look_refused P M N errors.LastRange h = absurd h
look_refused P M N (errors.PastEnd n) h = absurd h
look_refused P M N errors.TooManyPaths h = too_many P M N h
look_refused P M N errors.OutOfMemory h = tt

-- ---- one tree
pub opens_once : (P : Profile) → OpensOnceBy P
opens_once P V N l = let r : ReadAs P V N l.is_volume.found_is = read_as P V N l in (r.opened, r.is_opened, r.only)

pub one_file_at : (P : Profile) → OneFileAtBy P
one_file_at P V N l path file other t u = one_file (view (complete V N) f.space) r.opened.blocks r.is_whole f.root (lawful_tree P V N l) path file other (from_volume P V N f r path file t) (from_volume P V N f r path other u)
  where
    f : Found
    f = l.is_volume.found_is

    r : ReadAs P V N f
    r = read_as P V N l

pub reports_tell_tree : (P : Profile) → ReportsTellTreeBy P
reports_tell_tree P M N report x = (tells_tree P M N report x, tells_whole_tree P M N report x)
