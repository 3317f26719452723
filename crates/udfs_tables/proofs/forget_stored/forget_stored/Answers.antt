use Rattle.std.proofs.Common.{◌<◌, length, subst, sym, refl}
use Rattle.udfs_lattice.specs.Records.{join_all}
use Rattle.udfs_common.specs.Spelling.{table_file}
use Rattle.udfs_common.proofs.IndexingLemmas.{all_fit, tell_all}
use Rattle.udfs_common.proofs.NamingLemmas.{err_is}
use Rattle.udfs_common.proofs.PutsLemmas.{wider}
use Rattle.udfs_common.proofs.StoredLemmas.{any_told, reasons_for_any, sources_for_any}
use Rattle.udfs_index.specs.AnyStored.{stored_in}
use Rattle.udfs_tables.specs.Forgetting.{Forgets}
use Rattle.udfs_words.specs.declared.forms.Version.TheVariants.{Two}
use Rattle.udfs_tables.proofs.ForgettingLemmas.{forgets_of, forgets_without, left_is_table, without}
use Rattle.udfs_tables.proofs.MergingLemmas.{not_indexed, not_put, of_indexed}
use Rattle.udfs_tables.proofs.forget_stored.forget_stored.Goals as goal

pub put_index-requires : goal.put_index-requires
put_index-requires g c = subst (λ n. 0 < n) (sym c.requires.each) c.requires.some

pub returns-in-Ok-put_index-clause-puts : goal.returns-in-Ok-put_index-clause-puts
returns-in-Ok-put_index-clause-puts g c =
    let i = c.in-Ok.ensures.table in
    let r = c.args.request.now in
    let blocks = c.args.blocks.now in
    let t = join_all i.tables in
    let u = without r.conflicts blocks t in
    let forgets = forgets_without r.conflicts blocks t in
    let have = sources_for_any g.F.Input.Source.remaining g.F.Image.Image.bytes g.F.Stored.Stored.content g.met.F.Files.stored_as_input g.met.F.Files.stored_as_image in
    let left = of_indexed _ _ r.inputs r.force _ have _ c.args.stored.now _ (λ joined. Forgets r.conflicts blocks joined u) c.as_slice-paths.ensures.value c.requires.each c.requires.opened (λ tells. any_told g.F.Stored.Stored.content (g.met.F.Files.stored_told tells)) i forgets in
    wider _ _ (λ bytes is. (u, forgets_of _ _ r blocks u c.requires.listed left, is))
    (c.in-Ok-put_index.ensures.puts u (λ told. left_is_table r.conflicts blocks t u forgets (all_fit _ c.args.stored.now i.tables (tell_all _ c.args.stored.now i.tables told i.are))) (c.forget_in.ensures t u i.took forgets))

pub returns-clause-puts : goal.returns-clause-puts
returns-clause-puts g c =
    let i = c.in-Ok.ensures.table in
    let r = c.args.request.now in
    let blocks = c.args.blocks.now in
    let t = join_all i.tables in
    let u = without r.conflicts blocks t in
    let forgets = forgets_without r.conflicts blocks t in
    let have = sources_for_any g.F.Input.Source.remaining g.F.Image.Image.bytes g.F.Stored.Stored.content g.met.F.Files.stored_as_input g.met.F.Files.stored_as_image in
    let left = of_indexed _ _ r.inputs r.force _ have _ c.args.stored.now _ (λ joined. Forgets r.conflicts blocks joined u) c.as_slice-paths.ensures.value c.requires.each c.requires.opened (λ tells. any_told g.F.Stored.Stored.content (g.met.F.Files.stored_told tells)) i forgets in
    wider _ _ (λ bytes is. (u, forgets_of _ _ r blocks u c.requires.listed left, is))
    (c.in-Err-put_index.ensures.puts u (λ told. left_is_table r.conflicts blocks t u forgets (all_fit _ c.args.stored.now i.tables (tell_all _ c.args.stored.now i.tables told i.are))) (c.forget_in.ensures t u i.took forgets))

pub returns-in-Err-clause-why : goal.returns-in-Err-clause-why
returns-in-Err-clause-why g c =
    let r = c.args.request.now in
    let have = sources_for_any g.F.Input.Source.remaining g.F.Image.Image.bytes g.F.Stored.Stored.content g.met.F.Files.stored_as_input g.met.F.Files.stored_as_image in
    let why = rw c.as_slice-paths.ensures.value at c.in-Err.ensures.why in
    not_indexed have (reasons_for_any g.F.Input.Source.remaining g.F.Image.Image.bytes g.F.Stored.Stored.content g.met.F.Files.stored_as_input g.met.F.Files.stored_as_image) _ _ _ r.inputs.paths.items _ c.args.stored.now _
    c.requires.each c.requires.opened c.requires.judged (any_told g.F.Stored.Stored.content) why

pub returns-in-Err-clause-unkept : goal.returns-in-Err-clause-unkept
returns-in-Err-clause-unkept g c is tells = absurd (c.in-Err.ensures.why.1 (err_is is refl))

pub returns-clause-why : goal.returns-clause-why
returns-clause-why g c = not_put _ _ _ _ c.args.request.now.inputs.paths.items _ (length c.args.stored.now) _ c.requires.each c.in-Err-put_index.ensures.why

pub returns-clause-unkept : goal.returns-clause-unkept
returns-clause-unkept g c is_unkept tells =
    let i = c.in-Ok.ensures.table in
    let r = c.args.request.now in
    let blocks = c.args.blocks.now in
    let t = join_all i.tables in
    let u = without r.conflicts blocks t in
    let forgets = forgets_without r.conflicts blocks t in
    let have = sources_for_any g.F.Input.Source.remaining g.F.Image.Image.bytes g.F.Stored.Stored.content g.met.F.Files.stored_as_input g.met.F.Files.stored_as_image in
    let left = of_indexed _ _ r.inputs r.force _ have _ c.args.stored.now _ (λ joined. Forgets r.conflicts blocks joined u) c.as_slice-paths.ensures.value c.requires.each c.requires.opened (λ tells. any_told g.F.Stored.Stored.content (g.met.F.Files.stored_told tells)) i forgets in (
      table_file Two u,
      (u, forgets_of _ _ r blocks u c.requires.listed left, refl),
      c.in-Err-put_index.ensures.unkept is_unkept tells u (λ told. left_is_table r.conflicts blocks t u forgets (all_fit _ c.args.stored.now i.tables (tell_all _ c.args.stored.now i.tables told i.are))) (c.forget_in.ensures t u i.took forgets),
    )
