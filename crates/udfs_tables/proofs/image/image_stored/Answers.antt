use Rattle.std.proofs.Common.{inl, inr, length, ⊎_elim}
use Rattle.udfs_index.specs.Copying.{AreAllTold}
use Rattle.udfs_index.specs.AnyStored.{stored_in}
use Rattle.udfs_lattice.specs.Records.{join_all}
use Rattle.udfs_common.proofs.IndexingLemmas.{all_fit, tell_all}
use Rattle.udfs_common.proofs.NamingLemmas.{reread_names_none}
use Rattle.udfs_common.proofs.StoredLemmas.{any_told, of_unread, reasons_for_any, sources_for_any}
use Rattle.udfs_tables.specs.Imaging.{IsImageOf}
use Rattle.udfs_tables.proofs.MergingLemmas.{not_taken, of_indexed}
use Rattle.udfs_tables.proofs.PairingLemmas.{of_disc, of_unput, unbegun, wider}
use Rattle.udfs_tables.proofs.image.image_stored.Goals as goal

pub returns-in-Ok-put_imaged-clause-puts : goal.returns-in-Ok-put_imaged-clause-puts
returns-in-Ok-put_imaged-clause-puts g c =
    let r = c.args.request.now in
    let i = c.in-Ok.ensures.table in
    let t = join_all i.tables in
    let told : g.F.Files.tells → AreAllTold (stored_in g.F.Stored.Stored.content) = λ tells. any_told g.F.Stored.Stored.content (g.met.F.Files.stored_told tells) in
    let have = sources_for_any g.F.Input.Source.remaining g.F.Image.Image.bytes g.F.Stored.Stored.content g.met.F.Files.stored_as_input g.met.F.Files.stored_as_image in
    wider _ _ (λ bytes text is. of_disc _ _ r c.args.last (λ last u. IsImageOf (AreAllTold g.F.Stored.Stored.content) last bytes text u) c.requires.ends
    (of_indexed _ _ r.inputs r.force _ have _ c.args.stored.now _ (λ u. IsImageOf (AreAllTold g.F.Stored.Stored.content) c.args.last bytes text u) c.as_slice-paths.ensures.value c.requires.each c.requires.opened told i is))
    (c.in-Ok-put_imaged.ensures.puts t (λ all. (any_told g.F.Stored.Stored.content all, all_fit _ c.args.stored.now i.tables (tell_all _ c.args.stored.now i.tables (any_told g.F.Stored.Stored.content all) i.are), i.took)))

pub returns-clause-puts : goal.returns-clause-puts
returns-clause-puts g c =
    let r = c.args.request.now in
    let i = c.in-Ok.ensures.table in
    let t = join_all i.tables in
    let told : g.F.Files.tells → AreAllTold (stored_in g.F.Stored.Stored.content) = λ tells. any_told g.F.Stored.Stored.content (g.met.F.Files.stored_told tells) in
    let have = sources_for_any g.F.Input.Source.remaining g.F.Image.Image.bytes g.F.Stored.Stored.content g.met.F.Files.stored_as_input g.met.F.Files.stored_as_image in
    wider _ _ (λ bytes text is. of_disc _ _ r c.args.last (λ last u. IsImageOf (AreAllTold g.F.Stored.Stored.content) last bytes text u) c.requires.ends
    (of_indexed _ _ r.inputs r.force _ have _ c.args.stored.now _ (λ u. IsImageOf (AreAllTold g.F.Stored.Stored.content) c.args.last bytes text u) c.as_slice-paths.ensures.value c.requires.each c.requires.opened told i is))
    (c.in-Err-put_imaged.ensures.puts t (λ all. (any_told g.F.Stored.Stored.content all, all_fit _ c.args.stored.now i.tables (tell_all _ c.args.stored.now i.tables (any_told g.F.Stored.Stored.content all) i.are), i.took)))

pub returns-in-Err-clause-puts : goal.returns-in-Err-clause-puts
returns-in-Err-clause-puts g c = unbegun _ _ _ _ _ _ g.met.F.Files.only_now

pub returns-in-Err-clause-why : goal.returns-in-Err-clause-why
returns-in-Err-clause-why g c =
    let r = c.args.request.now in
    let have = sources_for_any g.F.Input.Source.remaining g.F.Image.Image.bytes g.F.Stored.Stored.content g.met.F.Files.stored_as_input g.met.F.Files.stored_as_image in
    let why = rw c.as_slice-paths.ensures.value at c.in-Err.ensures.why in
    inl (not_taken have (reasons_for_any g.F.Input.Source.remaining g.F.Image.Image.bytes g.F.Stored.Stored.content g.met.F.Files.stored_as_input g.met.F.Files.stored_as_image) _ _ r.inputs.paths.items _ c.args.stored.now _
    c.requires.each c.requires.opened c.requires.judged (any_told g.F.Stored.Stored.content) why)

pub returns-clause-why : goal.returns-clause-why
returns-clause-why g c =
    let r = c.args.request.now in
    let i = c.in-Ok.ensures.table in
    let t = join_all i.tables in
    let told : g.F.Files.tells → AreAllTold (stored_in g.F.Stored.Stored.content) = λ tells. any_told g.F.Stored.Stored.content (g.met.F.Files.stored_told tells) in
    let have = sources_for_any g.F.Input.Source.remaining g.F.Image.Image.bytes g.F.Stored.Stored.content g.met.F.Files.stored_as_input g.met.F.Files.stored_as_image in
    ⊎_elim (λ reread. inl (of_unread _ _ _ r.inputs.paths.items (length c.args.stored.now) _ c.requires.each reread, λ forced. reread_names_none _ _ reread))
    (λ unput. inr (of_unput _ _ r c.args.last c.in-Err-put_imaged.refusal c.requires.ends
    (of_indexed _ _ r.inputs r.force _ have _ c.args.stored.now _ _ c.as_slice-paths.ensures.value c.requires.each c.requires.opened told i
    (unput t (λ all. (any_told g.F.Stored.Stored.content all, all_fit _ c.args.stored.now i.tables (tell_all _ c.args.stored.now i.tables (any_told g.F.Stored.Stored.content all) i.are), i.took))))))
    c.in-Err-put_imaged.ensures.why
