use Rattle.udfs_words.proofs.SizeLemmas.{one_size_of}
use Rattle.udfs_words.proofs.laws.a_text_has_one_size.Goals as goal

pub returns : goal.returns
returns c = one_size_of
