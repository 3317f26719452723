use Rattle.udfs_osta.proofs.FieldTexts.{local_text}
use Rattle.udfs_osta.proofs.stamps.local_text_shows_fields.Goals as goal

pub returns : goal.returns
returns c = local_text
