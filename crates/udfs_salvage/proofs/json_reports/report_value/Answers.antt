use Rattle.std.proofs.Common.{ap}
use Rattle.serde_json.proofs.Views.{view-Object}
use Rattle.serde_json.specs.Data.{object}
use Rattle.udfs_lattice.specs.Tables.{conflict_count, known_count, state_of}
use Rattle.udfs_salvage.specs.Found.{volume_now}
use Rattle.udfs_salvage.specs.JsonNodes.{count, list_data, unnamed_data}
use Rattle.udfs_salvage.specs.JsonReports.{label_data_of, nodes_data, report_data_by, reread_data, volume_data}
use Rattle.udfs_salvage.specs.Texts.{has_two}
use Rattle.udfs_salvage.proofs.JsonVolumes.{report_members}
use Rattle.udfs_salvage.proofs.json_reports.report_value.Goals as goal

pub returns : goal.returns
unfolding report_data_by
returns c =
    let r = c.args.report.now in
    let v = volume_now r.volume in
    rw (
      view-Object c.in_ok-all.all,
      c.in_ok-all.ensures,
      c.in_ok-put-8.ensures.ok,
      c.in_ok-put-7.ensures.ok,
      c.in_ok-put-6.ensures.ok,
      c.in_ok-put-5.ensures.ok,
      c.in_ok-put-4.ensures.ok,
      c.in_ok-put-3.ensures.ok,
      c.in_ok-put-2.ensures.ok,
      c.in_ok-put.ensures.ok,
      c.new-members.ensures.empty,
      c.in_ok-label.ensures,
      c.in_ok-nodes.ensures,
      c.in_ok-reread.ensures,
      c.in_ok-unnamed.ensures,
      c.in_ok-volume.ensures,
      c.from.ensures,
      c.from-2.ensures,
      c.from-3.ensures,
      c.conflicts.ensures,
      c.known.ensures,
      c.has_two-two.ensures,
      c.deref.ensures.value,
      c.deref-2.ensures.value,
    ) (ap object (report_members r.profile (count (conflict_count r.table.now)) (count (known_count r.table.now)) (label_data_of v) (count r.last) (nodes_data r.profile (state_of r.table.now) v r.nodes.items)
    (list_data (reread_data (state_of r.table.now)) r.reread.items) (list_data (unnamed_data (has_two v)) r.unnamed.items) (volume_data v)))
