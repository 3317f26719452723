-- A body of which a part is known has no fault where the whole has none.
use Rattle.std.proofs.Common.{◌≡◌, ℕ, Bool, true, false, List, cond, nat_eq}
use Rattle.udfs_space.specs.Places.{View, IsPartOf}
use Rattle.udfs_file.specs.Entries.{EntryFields}
use Rattle.udfs_file.specs.Bodies.{allocation_descriptors, cells, extents_body, extents_body_by, embedded_body, body}
use Rattle.udfs_file.specs.declared.cells.Cell.{Cell}
use Rattle.udfs_file.proofs.Parts.{PartIs, AllZip-refl, descriptors_is, part_extents}
use Rattle.udfs_file.proofs.Tails.{counted_body, body_counted}

-- over a part of a complete view a body without a fault has none, and each cell is the whole's or missing
pub part_body : (s w : View) → IsPartOf s w → (r b : ℕ) (entry : EntryFields) (whole : List Cell) → body w r b entry ≡ cells whole → PartIs (body s r b entry) whole
unfolding body
part_body s w p r b entry whole e = go (nat_eq entry.form 3) e
  where
    go : (x : Bool) → cond x (embedded_body b entry) (extents_body_by w entry.form r entry.size entry.area) ≡ cells whole
        → PartIs (cond x (embedded_body b entry) (extents_body_by s entry.form r entry.size entry.area)) whole
    go true k = record { part = whole; is = k; each = AllZip-refl whole }
    go false k = let q : PartIs (extents_body s entry.size (allocation_descriptors s r entry)) whole =
        part_extents s w p entry.size (allocation_descriptors s r entry) (allocation_descriptors w r entry) (descriptors_is s w p r entry) whole (counted_body w r entry whole k) in
        record { part = q.part; is = body_counted s r entry q.part q.is; each = q.each }
