use Rattle.std.proofs.Common.{◌≡◌, ◌<◌, length, refl, subst, sym}
use Rattle.udfs_lattice.specs.Records.{join_all}
use Rattle.udfs_common.specs.Spelling.{table_file}
use Rattle.udfs_common.proofs.PutsLemmas.{wider}
use Rattle.udfs_tables.proofs.MergingLemmas.{not_indexed, not_put, of_indexed}
use Rattle.udfs_common.proofs.NamingLemmas.{err_is}
use Rattle.udfs_common.proofs.StoredLemmas.{any_told, reasons_for_any, sources_for_any}
use Rattle.udfs_tables.proofs.merge_stored.merge_stored.Goals as goal

pub put_index-requires : goal.put_index-requires
put_index-requires g c = subst (λ n. 0 < n) (sym c.requires.each) c.requires.some

pub returns-in-Ok-put_index-clause-puts : goal.returns-in-Ok-put_index-clause-puts
returns-in-Ok-put_index-clause-puts g c =
    let i = c.in-Ok.ensures.table in
    let taken = c.index.ensures (join_all i.tables) i.took in
    let have = sources_for_any g.F.Input.Source.remaining g.F.Image.Image.bytes g.F.Stored.Stored.content g.met.F.Files.stored_as_input g.met.F.Files.stored_as_image in
    wider _ _ (λ bytes is. of_indexed _ _ c.args.request.now.inputs c.args.request.now.force _ have _ c.args.stored.now _ (λ table. bytes ≡ table_file c.args.request.now.version table) c.as_slice-paths.ensures.value c.requires.each c.requires.opened (λ tells. any_told g.F.Stored.Stored.content (g.met.F.Files.stored_told tells)) i is)
    (c.in-Ok-put_index.ensures.puts (join_all i.tables) (λ told. taken.0) taken.1)

pub returns-clause-puts : goal.returns-clause-puts
returns-clause-puts g c =
    let i = c.in-Ok.ensures.table in
    let taken = c.index.ensures (join_all i.tables) i.took in
    let have = sources_for_any g.F.Input.Source.remaining g.F.Image.Image.bytes g.F.Stored.Stored.content g.met.F.Files.stored_as_input g.met.F.Files.stored_as_image in
    wider _ _ (λ bytes is. of_indexed _ _ c.args.request.now.inputs c.args.request.now.force _ have _ c.args.stored.now _ (λ table. bytes ≡ table_file c.args.request.now.version table) c.as_slice-paths.ensures.value c.requires.each c.requires.opened (λ tells. any_told g.F.Stored.Stored.content (g.met.F.Files.stored_told tells)) i is)
    (c.in-Err-put_index.ensures.puts (join_all i.tables) (λ told. taken.0) taken.1)

pub returns-in-Err-clause-why : goal.returns-in-Err-clause-why
returns-in-Err-clause-why g c =
    let have = sources_for_any g.F.Input.Source.remaining g.F.Image.Image.bytes g.F.Stored.Stored.content g.met.F.Files.stored_as_input g.met.F.Files.stored_as_image in
    let why = rw c.as_slice-paths.ensures.value at c.in-Err.ensures.why in
    not_indexed have (reasons_for_any g.F.Input.Source.remaining g.F.Image.Image.bytes g.F.Stored.Stored.content g.met.F.Files.stored_as_input g.met.F.Files.stored_as_image) _ _ _ c.args.request.now.inputs.paths.items _ c.args.stored.now _
    c.requires.each c.requires.opened c.requires.judged (any_told g.F.Stored.Stored.content) why

pub returns-in-Err-clause-unkept : goal.returns-in-Err-clause-unkept
returns-in-Err-clause-unkept g c is tells = absurd (c.in-Err.ensures.why.1 (err_is is refl))

pub returns-clause-why : goal.returns-clause-why
returns-clause-why g c = not_put _ _ _ _ c.args.request.now.inputs.paths.items _ (length c.args.stored.now) _ c.requires.each c.in-Err-put_index.ensures.why

pub returns-clause-unkept : goal.returns-clause-unkept
returns-clause-unkept g c is_unkept tells =
    let i = c.in-Ok.ensures.table in
    let taken = c.index.ensures (join_all i.tables) i.took in
    let have = sources_for_any g.F.Input.Source.remaining g.F.Image.Image.bytes g.F.Stored.Stored.content g.met.F.Files.stored_as_input g.met.F.Files.stored_as_image in
    let bytes = table_file c.args.request.now.version (join_all i.tables) in (
      bytes,
      of_indexed _ _ c.args.request.now.inputs c.args.request.now.force _ have _ c.args.stored.now _ (λ table. bytes ≡ table_file c.args.request.now.version table) c.as_slice-paths.ensures.value c.requires.each c.requires.opened (λ tells. any_told g.F.Stored.Stored.content (g.met.F.Files.stored_told tells)) i refl,
      c.in-Err-put_index.ensures.unkept is_unkept tells (join_all i.tables) (λ told. taken.0) taken.1,
    )
