use Rattle.udfs_rescue.proofs.ReadMaps.{map_reads_back, image_map_reads_back}
use Rattle.udfs_rescue.proofs.laws.maps_read_back.Goals as goal

pub returns-clause-each : goal.returns-clause-each
returns-clause-each c = map_reads_back

pub returns-clause-image : goal.returns-clause-image
returns-clause-image c = image_map_reads_back
