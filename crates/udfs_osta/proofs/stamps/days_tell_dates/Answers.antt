use Rattle.udfs_osta.proofs.CivilDates.{civil_date-days_from_civil}
use Rattle.udfs_osta.proofs.stamps.days_tell_dates.Goals as goal

pub returns : goal.returns
returns c = civil_date-days_from_civil
