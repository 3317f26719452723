use Rattle.std.proofs.Common.{inl, refl}
use Rattle.udfs_common.proofs.NamingLemmas.{memory_names_none}
use Rattle.udfs_common.proofs.StoredLemmas.{any_told, reasons_for_any, sources_for_any}
use Rattle.udfs_common.proofs.StoredVolumes.{indexed_of, unindexed_of}
use Rattle.udfs_common.proofs.stored_volumes.indexed_volume.Goals as goal

pub returns-in-Err-clause-refused : goal.returns-in-Err-clause-refused
returns-in-Err-clause-refused g c = (record { why = inl refl }, λ forced. memory_names_none _ refl)

pub returns-in-Ok-index_all-clause-index : goal.returns-in-Ok-index_all-clause-index
returns-in-Ok-index_all-clause-index g c =
    let have = sources_for_any g.F.Input.Source.remaining g.F.Image.Image.bytes g.F.Stored.Stored.content g.met.F.Files.stored_as_input g.met.F.Files.stored_as_image in
    indexed_of _ _ c.args.volume.now _ have c.args.disc.now.stored.items c.args.disc.now.last _ (any_told g.F.Stored.Stored.content) c.requires
    (rw c.as_slice-paths.ensures.value at (rw c.as_slice.ensures.value at (c.in-Ok-index_all.ensures.table c.in-Ok.ensures)))

pub returns-in-Ok-index_all-clause-taken : goal.returns-in-Ok-index_all-clause-taken
returns-in-Ok-index_all-clause-taken g c = rw c.as_slice-paths.ensures.value at (rw c.as_slice.ensures.value at (c.in-Ok-index_all.ensures.table c.in-Ok.ensures))

pub returns-clause-refused : goal.returns-clause-refused
returns-clause-refused g c =
    let have = sources_for_any g.F.Input.Source.remaining g.F.Image.Image.bytes g.F.Stored.Stored.content g.met.F.Files.stored_as_input g.met.F.Files.stored_as_image in
    let same = reasons_for_any g.F.Input.Source.remaining g.F.Image.Image.bytes g.F.Stored.Stored.content g.met.F.Files.stored_as_input g.met.F.Files.stored_as_image in
    unindexed_of _ _ c.args.volume.now _ have same c.args.disc.now.stored.items c.args.disc.now.last _ (any_told g.F.Stored.Stored.content) c.requires
    (rw c.as_slice-paths.ensures.value at (rw c.as_slice.ensures.value at (c.in-Err-index_all.ensures.why c.in-Ok.ensures)))
