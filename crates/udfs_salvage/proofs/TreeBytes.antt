-- What is written of a node is the bytes of the file of the tree, with its holes filled.
use Rattle.std.proofs.Common.{◌≡◌, refl, sym, ◌∙◌, ap, subst, inl, inr, ℕ, true, false, List, [], ◌∷◌, length, map, Some, None}
use Rattle.std.proofs.lemmas.Option.{slice_get-map}
use Rattle.std.specs.Prelude.{zero, suc, slice_get, option_map}
use Rattle.std.specs.List.{AllZip}
use Rattle.udfs_volume.specs.declared.profiles.Profile.{Profile}
use Rattle.udfs_lattice.specs.Volumes.{Blocks}
use Rattle.udfs_volume.specs.Answers.{found}
use Rattle.udfs_space.specs.Places.{view}
use Rattle.udfs_file.specs.Laws.{IsMissingAt}
use Rattle.udfs_file.specs.Standard.{Located}
use Rattle.udfs_file.specs.declared.cells.Cell.{Cell}
use Rattle.udfs_file.specs.declared.cells.Cell.TheVariants.{Byte, Gap}
use Rattle.udfs_walk.specs.NodeFields.{NodeFields}
use Rattle.udfs_walk.specs.declared.standings.Standing.{Standing}
use Rattle.udfs_walk.specs.declared.standings.Standing.TheVariants.{Whole, Torn, Loop, Fault}
use Rattle.udfs_walk.specs.Rereads.{holes_of}
use Rattle.udfs_walk.specs.Cells.{HasCellsAt, IsByteOf, IsByteOrMissing, IsToldAs, IsTornAs, IsUntold}
use Rattle.udfs_walk.specs.TreeLaws.{IsTold}
use Rattle.udfs_walk.proofs.TreePublicLaws.{one_reading}
use Rattle.udfs_salvage.specs.Found.{Found, volume_by}
use Rattle.udfs_salvage.specs.Reports.{Report, IsReportBy}
use Rattle.udfs_salvage.specs.Extraction.{HasCellsInBy, cell_byte, filled, is_offered}
use Rattle.udfs_salvage.specs.TreeReports.{AreFilled, FillsFileBy, IsNodeOfVolume, IsReportedAs, WritesFileBy, file_bytes}
use Rattle.udfs_salvage.specs.declared.extraction.Fill.{Fill}
use Rattle.udfs_salvage.proofs.Founds.{found_same}
use Rattle.udfs_salvage.proofs.TreeReports.{tells_tree}

-- cells that are all there are filled by their own bytes
all_there : (x : ℕ) (cs : List Cell) (body : List Located) → AllZip IsByteOf cs body → filled x cs ≡ map (λ l. l.0) body
unfolding filled
all_there x [] [] z = refl
all_there x [] (l ∷ ls) z = absurd z
all_there x (c ∷ cs) [] z = absurd z
all_there x (Byte b o ∷ cs) (l ∷ ls) z = λ i. z.0 i ∷ all_there x cs ls z.1 i
all_there x (Gap n ∷ cs) (l ∷ ls) z = absurd z.0

-- the cells at a place of a report, as the tree's laws say it
as_tree : (P : Profile) (M : Blocks) (N index : ℕ) (cs : List Cell) (f : Found) → volume_by P M N ≡ found f → HasCellsInBy P M N index cs → HasCellsAt (view M f.space) f.root index cs
as_tree P M N index cs f e h = subst (λ (g : Found). HasCellsAt (view M g.space) g.root index cs) (found_same h.opened f (sym h.opens ∙ e)) h.has_cells

-- what holds of the cells that are written holds of the file's bytes
pub writes_file : (P : Profile) (M : Blocks) (N index : ℕ) (report : Report) (fill : ℕ) (Writes : List ℕ → Type 0) → IsReportBy P M N report → (n : NodeFields) → slice_get report.nodes index ≡ Some n → n.standing ≡ Whole
    → ((cs : List Cell) × HasCellsInBy P M N index cs × Writes (filled fill cs)) → WritesFileBy P M N n Writes
writes_file P M N index report fill Writes is n at whole w V lawful agrees = (y.file, y.in_volume, subst (λ p. IsToldAs p n y.file) y.rules told.2.told, subst Writes (all_there fill cs y.file.body bytes) w.2)
  where
    y : IsNodeOfVolume P M V N report.volume index n
    y = (tells_tree P M N report is V lawful agrees).nodes index n at

    told : IsReportedAs M y.opened index n y.file
    told = (y.whole whole).0

    cs : List Cell
    cs = w.0

    same : told.0 ≡ cs
    same = one_reading (view M y.opened.space) y.opened.root index told.0 cs told.1 (as_tree P M N index cs y.opened (sym is.volume_is ∙ y.opens) w.1)

    bytes : AllZip IsByteOf cs y.file.body
    bytes = subst (λ z. AllZip IsByteOf z y.file.body) same told.2.bytes

-- ---- bytes of a node that is filled
-- a cell that is there is written as the file's byte
there_at : (x : ℕ) (cs : List Cell) (body : List Located) → AllZip IsByteOrMissing cs body → (k : ℕ) → ¬ IsMissingAt cs k → slice_get (filled x cs) k ≡ slice_get (map (λ l. l.0) body) k
unfolding filled
there_at x [] [] z k there = refl
there_at x [] (l ∷ ls) z k there = absurd z
there_at x (c ∷ cs) [] z k there = absurd z
there_at x (Byte b o ∷ cs) (l ∷ ls) z zero there = ap Some z.0
there_at x (Gap n ∷ cs) (l ∷ ls) z zero there = absurd (there (n, refl))
there_at x (c ∷ cs) (l ∷ ls) z (suc k) there = there_at x cs ls z.1 k there

-- one that is missing, as the byte that fills
filled_at : (x : ℕ) (cs : List Cell) (k : ℕ) → IsMissingAt cs k → slice_get (filled x cs) k ≡ Some x
unfolding filled
filled_at x cs k (n, e) = slice_get-map (cell_byte x) cs k ∙ ap (option_map (cell_byte x)) e

as_long : (x : ℕ) (cs : List Cell) (body : List Located) → AllZip IsByteOrMissing cs body → length (filled x cs) ≡ length (map (λ l. l.0) body)
unfolding filled
as_long x [] [] z = refl
as_long x [] (l ∷ ls) z = absurd z
as_long x (c ∷ cs) [] z = absurd z
as_long x (c ∷ cs) (l ∷ ls) z = ap suc (as_long x cs ls z.1)

-- what holds of the cells that are written holds of the file's bytes, with the node's holes filled
pub fills_file : (P : Profile) (M : Blocks) (N index : ℕ) (report : Report) (fill : ℕ) (given : Fill) (Writes : List ℕ → Type 0) → IsReportBy P M N report → (n : NodeFields) → slice_get report.nodes index ≡ Some n
    → is_offered n.standing n.size given ≡ true → ((cs : List Cell) × HasCellsInBy P M N index cs × Writes (filled fill cs)) → FillsFileBy P M N n fill Writes
fills_file P M N index report fill given Writes is n at offered w V lawful agrees = (y.file, y.in_volume, subst (λ p. IsToldAs p n y.file) y.rules told.2.told, (filled fill cs, bytes, w.2))
  where
    y : IsNodeOfVolume P M V N report.volume index n
    y = (tells_tree P M N report is V lawful agrees).nodes index n at

    -- of a node that is written something is told
    known : IsUntold n → (s : Standing) → n.standing ≡ s → ⊥
    known u Whole e = let t : n.size ≡ Some y.file.fields.size = ((y.whole e).0).2.told.size in let z : None ≡ Some y.file.fields.size = sym u.size ∙ t in let q : ⊥ = cc in q
    known u (Torn torn) e = let z : false ≡ true = sym (ap (λ o. is_offered (Torn torn) o given) u.size) ∙ sym (ap (λ s. is_offered s n.size given) e) ∙ offered in let q : ⊥ = cc in q
    known u Loop e = let z : false ≡ true = sym (ap (λ s. is_offered s n.size given) e) ∙ offered in let q : ⊥ = cc in q
    known u (Fault f) e = let z : false ≡ true = sym (ap (λ s. is_offered s n.size given) e) ∙ offered in let q : ⊥ = cc in q

    told_by : IsTold (view M y.opened.space) y.opened.root index n y.file → (ds : List Cell) × HasCellsAt (view M y.opened.space) y.opened.root index ds × IsTornAs y.opened.space.profile n y.file ds
    told_by (inl u) = absurd (known u n.standing refl)
    told_by (inr t) = t

    told : (ds : List Cell) × HasCellsAt (view M y.opened.space) y.opened.root index ds × IsTornAs y.opened.space.profile n y.file ds
    told = told_by y.as_far

    cs : List Cell
    cs = w.0

    same : told.0 ≡ cs
    same = one_reading (view M y.opened.space) y.opened.root index told.0 cs told.1 (as_tree P M N index cs y.opened (sym is.volume_is ∙ y.opens) w.1)

    torn : IsTornAs y.opened.space.profile n y.file cs
    torn = subst (λ z. IsTornAs y.opened.space.profile n y.file z) same told.2

    bytes : AreFilled (holes_of n.standing) fill (file_bytes y.file) (filled fill cs)
    bytes = record {
      size = as_long fill cs y.file.body torn.bytes;
      outside = λ k not_in. there_at fill cs y.file.body torn.bytes k (λ m. not_in ((torn.holes k).0 m));
      inside = λ k in_runs. filled_at fill cs k ((torn.holes k).1 in_runs);
    }
