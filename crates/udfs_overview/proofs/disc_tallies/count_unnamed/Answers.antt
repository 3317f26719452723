use Rattle.std.proofs.Common.{◌∙◌, ap, sym}
use Rattle.std.specs.Prelude.{count_by}
use Rattle.udfs_salvage.specs.Found.{volume_now}
use Rattle.udfs_overview.specs.DiscTallies.{has_data, is_empty_file, unnamed_of}
use Rattle.udfs_overview.proofs.DiscCounting.{data_full, empty_full}
use Rattle.udfs_overview.proofs.disc_tallies.count_unnamed.Goals as goal

pub returns : goal.returns
unfolding unnamed_of
returns g c =
    let s = c.args.survey.now in
    let M = g.B.BlockStore.states s.table.now in
    let same = c.as_slice-entries.ensures.value in
    let with_bytes = c.count_with_data.ensures ∙ ap (count_by has_data) same ∙ sym (data_full M (volume_now s.volume) s.unnamed.items) in
    let empties = c.count_empty.ensures ∙ ap (count_by is_empty_file) same ∙ sym (empty_full M (volume_now s.volume) s.unnamed.items) in
    λ j. record { with_data = with_bytes j; empty = empties j }
