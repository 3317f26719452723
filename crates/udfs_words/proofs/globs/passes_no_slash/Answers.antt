use Rattle.std.specs.Str.{chars}
use Rattle.udfs_words.specs.Globs.{names_in}
use Rattle.udfs_words.proofs.GlobCounting.{as_many}
use Rattle.udfs_words.proofs.globs.passes_no_slash.Goals as goal

pub returns : goal.returns
returns c = λ word path single fits. as_many (names_in (chars word)) (names_in (chars path)) single fits
