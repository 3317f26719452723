-- How many cells a body has.
use Rattle.std.proofs.Common.{◌≡◌, refl, sym, ◌∙◌, ap, ℕ, ◌-◌, Bool, true, false, List, length, take, map, cond, arith, Some, nat_eq, nat_le}
use Rattle.std.proofs.lemmas.Bool.{leb-true}
use Rattle.std.proofs.lemmas.List.{length-map, length-take-le}
use Rattle.udfs_file.specs.Entries.{EntryFields}
use Rattle.udfs_file.specs.Bodies.{allocation_descriptors, cells, faulty_body, extents_body_by, embedded_body, body}
use Rattle.udfs_file.specs.Laws.{BodyLength}
use Rattle.udfs_file.specs.declared.cells.Cell.{Cell}
use Rattle.udfs_file.specs.declared.cells.Cell.TheVariants.{Byte}
use Rattle.udfs_file.specs.declared.faults.NodeFault.TheVariants.{Short}
use Rattle.udfs_file.proofs.BodyFrom.{body-from}
use Rattle.udfs_file.proofs.Tails.{counted_body}
use Rattle.udfs_file.proofs.Parts.{from-length, cells-same, no_cells}

embedded_length : (b : ℕ) (e : EntryFields) (cs : List Cell) → embedded_body b e ≡ cells cs → length cs ≡ e.size
embedded_length b e cs q = go (nat_le e.size (length e.area)) refl q
  where
    go : (x : Bool) → nat_le e.size (length e.area) ≡ x → cond x (cells (map (λ x. Byte x (Some b)) (take e.size e.area))) (faulty_body Short) ≡ cells cs → length cs ≡ e.size
    go true h p = ap length (sym (cells-same (map (λ x. Byte x (Some b)) (take e.size e.area)) cs p)) ∙ length-map (take e.size e.area) (λ x. Byte x (Some b))
        ∙ length-take-le e.size e.area (leb-true e.size (length e.area) h)
    go false h p = no_cells Short cs p

pub body_length : BodyLength
unfolding body
body_length v r b e cs = go (nat_eq e.form 3)
  where
    go : (x : Bool) → cond x (embedded_body b e) (extents_body_by v e.form r e.size e.area) ≡ cells cs → length cs ≡ e.size
    go true q = embedded_length b e cs q
    go false q = from-length v e.size (allocation_descriptors v r e).behind 0 (allocation_descriptors v r e).all cs (sym (body-from v e.size (allocation_descriptors v r e)) ∙ counted_body v r e cs q)
        ∙ (let z : e.size - 0 ≡ e.size = omega arith in z)
