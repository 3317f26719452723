-- What is known contradicts a lawful volume: no volume that agrees is lawful.
use Rattle.std.proofs.Common.{◌≡◌, refl, sym, ◌∙◌, ap, inl, inr, ℕ, ◌<◌, ◌≤◌, arith, List, slice_get}
use Rattle.udfs_lattice.specs.Volumes.{Agrees, Blocks, Volume}
use Rattle.udfs_volume.specs.Answers.{found, faulty}
use Rattle.udfs_volume.specs.declared.faults.VolumeFault.{VolumeFault}
use Rattle.udfs_volume.specs.declared.profiles.Profile.{Profile}
use Rattle.udfs_space.specs.Places.{View, view}
use Rattle.udfs_file.specs.declared.faults.NodeFault.{NodeFault}
use Rattle.udfs_walk.specs.NodeFields.{NodeFields}
use Rattle.udfs_walk.specs.Rereads.{reread}
use Rattle.udfs_walk.specs.UnnamedEntries.{unnamed}
use Rattle.udfs_walk.specs.declared.standings.Standing.TheVariants as standing
use Rattle.udfs_salvage.specs.Found.{volume_by}
use Rattle.udfs_salvage.specs.Reports.{IsOutOfRange, IsReportBy, Report}
use Rattle.udfs_salvage.specs.TreeReports.{AgreesWithNoneBy, IsReportOf}
use Rattle.udfs_salvage.specs.VolumeTrees.{IsLawfulBy}
use Rattle.udfs_salvage.proofs.TreeReports.{tells_tree, too_many}
use Rattle.udfs_salvage.proofs.VolumeLaw.{tells_lawful}
use Rattle.udfs_lawfulness.specs.Lawfulness.{AreTwoAt, HasNodes, HasStanding, IsRefuted, IsWhy}
use Rattle.udfs_lawfulness.specs.Structures.{IsContradicted}
use Rattle.udfs_lawfulness.specs.declared.answers.Reason.{Reason}
use Rattle.udfs_lawfulness.specs.declared.answers.Why.{Why}
use Rattle.udfs_lawfulness.specs.declared.answers.Why.TheVariants.{Structures, Volume as Unopened, TooManyPaths, Fault, Loop, SameName}
use Rattle.udfs_lawfulness.proofs.LawfulVolumes.{no_lawful_agrees}

in_range : (N : ℕ) → 513 ≤ N → N ≤ 4194303 → IsOutOfRange N → ⊥
in_range N h k (inl o) = omega (arith, h, o)
in_range N h k (inr o) = omega (arith, k, o)

-- the report of these nodes describes each lawful volume that agrees
told : (P : Profile) (T : Blocks) (N : ℕ) (Holds : View → List NodeFields → Type 0) (x : HasNodes P T N Holds) (V : Volume) → IsLawfulBy P V N → Agrees T V N
    → (report : Report) × (report.nodes ≡ x.nodes) × IsReportOf P T V N report
told P T N Holds x V l a = (report, refl, tells_tree P T N report is V l a)
  where
    report : Report
    report = record { volume = found x.opened; nodes = x.nodes; unnamed = unnamed (view T x.opened.space) x.opened.space x.nodes; reread = reread x.nodes }

    is : IsReportBy P T N report
    is = record {
      in_range = in_range N l.is_volume.volume_is.from l.is_volume.volume_is.to;
      nothing_past = a.above;
      volume_is = sym x.opens;
      by_volume = record { nodes_are = x.nodes_are; unnamed_is = refl; reread_is = refl };
    }

pub opened_none : (P : Profile) (T : Blocks) (N : ℕ) (f : VolumeFault) → volume_by P T N ≡ faulty f → AgreesWithNoneBy P T N
opened_none P T N f e V l a = tells_lawful P T N (faulty f) (sym e) V l.is_volume a

pub standing_none : (P : Profile) (T : Blocks) (N : ℕ) (path : List (List ℕ)) (fault : NodeFault) → IsWhy P T N (Fault path fault) → AgreesWithNoneBy P T N
standing_none P T N path fault x V l a = let t = told P T N (λ v. HasStanding path (standing.Fault fault)) x V l a in let h = x.holds in
    (t.2.nodes h.0 h.1 (ap (λ z. slice_get z h.0) t.1 ∙ h.2)).no_fault.1 fault h.4

pub loop_none : (P : Profile) (T : Blocks) (N : ℕ) (path : List (List ℕ)) → IsWhy P T N (Loop path) → AgreesWithNoneBy P T N
loop_none P T N path x V l a = let t = told P T N (λ v. HasStanding path standing.Loop) x V l a in let h = x.holds in
    (t.2.nodes h.0 h.1 (ap (λ z. slice_get z h.0) t.1 ∙ h.2)).no_fault.0 h.4

pub names_none : (P : Profile) (T : Blocks) (N : ℕ) (path : List (List ℕ)) → IsWhy P T N (SameName path) → AgreesWithNoneBy P T N
names_none P T N path x V l a = let t = told P T N (λ v. AreTwoAt path) x V l a in let h = x.holds in
    let same : h.0 ≡ h.1 = t.2.once h.0 h.1 h.2 h.3 (ap (λ z. slice_get z h.0) t.1 ∙ h.5) (ap (λ z. slice_get z h.1) t.1 ∙ h.6) (h.7 ∙ sym h.8) in
    let less : h.0 < h.1 = h.4 in omega (arith, same, less)

-- each reason refutes a lawful volume: one of the structures by what is known of them
pub refuted : (P : Profile) (T : Blocks) (N : ℕ) (why : Why) → ((r : Reason) → why ≡ Structures r → IsContradicted P T N r) → IsWhy P T N why → IsRefuted P T N why
refuted P T N (Structures r) c w = record { reason = w; none = no_lawful_agrees P T N (c r refl).none }
refuted P T N (Unopened f) c w = record { reason = w; none = opened_none P T N f w }
refuted P T N TooManyPaths c w = record { reason = w; none = too_many P T N w }
refuted P T N (Fault path f) c w = record { reason = w; none = standing_none P T N path f w }
refuted P T N (Loop path) c w = record { reason = w; none = loop_none P T N path w }
refuted P T N (SameName path) c w = record { reason = w; none = names_none P T N path w }
