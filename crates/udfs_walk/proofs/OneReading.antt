-- A node has one list of cells, so a file that has its bytes has those of each file that it is whole as.
use Rattle.std.proofs.Common.{◌≡◌, sym, ◌∙◌, ap, subst, List, [], ◌∷◌, slice_get}
use Rattle.std.specs.List.{AllZip}
use Rattle.udfs_file.specs.Bodies.{cells, body}
use Rattle.udfs_file.specs.Entries.{EntryFields}
use Rattle.udfs_file.specs.Standard.{Located}
use Rattle.udfs_file.specs.declared.cells.Cell.{Cell}
use Rattle.udfs_file.specs.declared.cells.Cell.TheVariants.{Byte, Gap}
use Rattle.udfs_walk.proofs.PublicLaws.{only_walk}
use Rattle.udfs_walk.specs.Targets.{entry, target}
use Rattle.udfs_walk.specs.Cells.{IsByteOf}
use Rattle.udfs_walk.specs.TreeLaws.{OneReading, WholeAlike}
use Rattle.udfs_walk.proofs.EntryAddresses.{some_same}

-- equal targets have equal fields
entry_same : (x y : EntryFields) → entry x ≡ entry y → x ≡ y
entry_same x y e = cc

-- equal bodies have equal cells
cells_same : (x y : List Cell) → cells x ≡ cells y → x ≡ y
cells_same x y e = cc

-- there is one walk, so the end at a place is one, and its cells are
pub one_reading : OneReading
one_reading v root index cs ds x y = cells_same cs ds
    (sym x.has_cells.has_body ∙ (λ i. body v (end i).address.reference (end i).address.block (fields i)) ∙ y.has_cells.has_body)
  where
    end : x.end ≡ y.end
    end = some_same x.end y.end (sym x.at ∙ ap (λ z. slice_get z index) (only_walk v root x.walks y.walks x.walk y.walk) ∙ y.at)

    fields : x.has_cells.fields ≡ y.has_cells.fields
    fields = entry_same x.has_cells.fields y.has_cells.fields (sym x.has_cells.is_entry ∙ ap (λ z. target v z.address) end ∙ y.has_cells.is_entry)

-- two files that hold the bytes of the same cells
same_bytes : (cs : List Cell) (xs ys : List Located) (ds : List Cell) → AllZip IsByteOf cs xs → AllZip IsByteOf cs ys → AllZip IsByteOf ds xs → AllZip IsByteOf ds ys
same_bytes [] [] [] [] h k l = tt
same_bytes [] [] [] (d ∷ ds) h k l = absurd l
same_bytes [] [] (y ∷ ys) ds h k l = absurd k
same_bytes [] (x ∷ xs) ys ds h k l = absurd h
same_bytes (c ∷ cs) [] ys ds h k l = absurd h
same_bytes (c ∷ cs) (x ∷ xs) [] ds h k l = absurd k
same_bytes (c ∷ cs) (x ∷ xs) (y ∷ ys) [] h k l = absurd l
same_bytes (c ∷ cs) (x ∷ xs) (y ∷ ys) (d ∷ ds) h k l = (go c d h.0 k.0 l.0, same_bytes cs xs ys ds h.1 k.1 l.1)
  where
    go : (c d : Cell) → IsByteOf c x → IsByteOf c y → IsByteOf d x → IsByteOf d y
    go (Byte a o) (Byte b p) u v w = w ∙ sym u ∙ v
    go (Byte a o) (Gap n) u v w = absurd w
    go (Gap n) d u v w = absurd u

-- what is whole as a file is whole as each file of which one node is whole as both
pub whole_alike : WholeAlike
whole_alike v root index n file other cs ds x y f o m es w = record {
  standing = w.standing;
  told = record {
    kind = w.told.kind ∙ sym o.told.kind ∙ f.told.kind;
    size = w.told.size ∙ sym o.told.size ∙ f.told.size;
    stamp = w.told.stamp ∙ sym o.told.stamp ∙ f.told.stamp;
  };
  bytes = same_bytes cs other.body file.body es (subst (λ z. AllZip IsByteOf z other.body) (sym (one_reading v root index cs ds x y)) o.bytes) f.bytes w.bytes;
}
