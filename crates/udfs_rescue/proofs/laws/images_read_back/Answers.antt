use Rattle.udfs_rescue.proofs.ReadImages.{image_reads_back, image_is_pair}
use Rattle.udfs_rescue.proofs.laws.images_read_back.Goals as goal

pub returns-clause-table : goal.returns-clause-table
returns-clause-table c = image_reads_back

pub returns-clause-pair : goal.returns-clause-pair
returns-clause-pair c = image_is_pair
