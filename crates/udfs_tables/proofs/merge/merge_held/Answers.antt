use Rattle.std.proofs.Common.{◌∙◌, ap, inl, inr, refl}
use Rattle.udfs_common.specs.Spelling.{table_file}
use Rattle.udfs_common.proofs.PutsLemmas.{wider}
use Rattle.udfs_common.proofs.NamingLemmas.{err_is, unput_names_none}
use Rattle.udfs_common.proofs.StoredLemmas.{of_held}
use Rattle.udfs_tables.proofs.merge.merge_held.Goals as goal

pub returns-in-Ok-put_file-clause-puts : goal.returns-in-Ok-put_file-clause-puts
returns-in-Ok-put_file-clause-puts g c =
    let t = c.in-Ok.ensures.joined in
    wider _ _ (λ bytes is. record { one_disc = t.one_disc; join = (t.join.0, t.join.1, is ∙ ap (table_file c.args.request.now.version) (c.table.ensures ∙ t.join.2)) }) c.in-Ok-put_file.ensures.puts

pub returns-clause-puts : goal.returns-clause-puts
returns-clause-puts g c =
    let t = c.in-Ok.ensures.joined in
    wider _ _ (λ bytes is. record { one_disc = t.one_disc; join = (t.join.0, t.join.1, is ∙ ap (table_file c.args.request.now.version) (c.table.ensures ∙ t.join.2)) }) c.in-Err-put_file.ensures.puts

pub returns-clause-why : goal.returns-clause-why
returns-clause-why g c = (inr c.in-Err-put_file.ensures.why, λ forced. unput_names_none _ _ c.in-Err-put_file.ensures.why)

pub returns-in-Err-clause-why : goal.returns-in-Err-clause-why
returns-in-Err-clause-why g c = (inl (of_held _ _ _ _ _ _ c.in-Err.ensures.refused.0), c.in-Err.ensures.refused.2)

pub returns-in-Err-clause-unkept : goal.returns-in-Err-clause-unkept
returns-in-Err-clause-unkept g c is tells = absurd (c.in-Err.ensures.refused.1 (err_is is refl))

pub returns-clause-unkept : goal.returns-clause-unkept
returns-clause-unkept g c is tells =
    let t = c.in-Ok.ensures.joined in
    (_, record { one_disc = t.one_disc; join = (t.join.0, t.join.1, ap (table_file c.args.request.now.version) (c.table.ensures ∙ t.join.2)) }, c.in-Err-put_file.ensures.unkept is tells)
