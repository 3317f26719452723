use Rattle.std.proofs.Common.{rules, sym}
use Rattle.udfs_extraction.proofs.ShortNameLemmas.{three_bytes, two_bytes}
use Rattle.udfs_extraction.proofs.short_names.unit_size.Goals as goal

pub returns-in-0-to-2047 : goal.returns-in-0-to-2047
returns-in-0-to-2047 c = sym (two_bytes c.args.unit (search rules) (search rules))

pub returns-in_default : goal.returns-in_default
returns-in_default c = sym (three_bytes c.args.unit (search rules) (search rules) (λ h. search rules))

pub returns-in_default-2 : goal.returns-in_default-2
returns-in_default-2 c = sym (three_bytes c.args.unit (search rules) (search rules) (λ h. search rules))
