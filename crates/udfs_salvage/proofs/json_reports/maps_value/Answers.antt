use Rattle.std.proofs.Common.{◌∙◌}
use Rattle.serde_json.proofs.Views.{view-Array}
use Rattle.serde_json.specs.Data.{string}
use Rattle.udfs_volume.specs.LayoutParts.{partition_now}
use Rattle.udfs_salvage.specs.JsonReports.{map_name}
use Rattle.udfs_salvage.proofs.JsonLists.{listed_all, listed_item}
use Rattle.udfs_salvage.proofs.json_reports.maps_value.Goals as goal

pub loop-partition-preserved : goal.loop-partition-preserved
loop-partition-preserved c =
    listed_item (λ p. string (map_name (partition_now p).kind)) c.args.partitions.now c.loop-partition.partition-index c.partition-item.result c.loop-partition.items.items c.push.new.self.items
    c.in_ok-map_value.field-0 c.loop-partition-test.true c.loop-partition.invariant c.partition-item.is c.in_ok-map_value.ensures c.in_ok-push.ensures.items

pub returns : goal.returns
returns c = view-Array c.loop-partition.items ∙ listed_all (λ p. string (map_name (partition_now p).kind)) c.args.partitions.now c.loop-partition.partition-index c.loop-partition.items.items
    c.loop-partition-test.false c.loop-partition.invariant
