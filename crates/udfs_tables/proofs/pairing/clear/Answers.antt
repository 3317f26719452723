use Rattle.std.proofs.Common.{refl, rules}
use Rattle.udfs_tables.proofs.pairing.clear.Goals as goal

pub returns-in-Ok-sync_folder-clause-gone : goal.returns-in-Ok-sync_folder-clause-gone
returns-in-Ok-sync_folder-clause-gone g c tells = (
  search rules,
  λ d left. g.met.F.Files.absent_kept c.remove_old.new.files c.args.mapfile.now (d c.args.mapfile.now) tells (c.in-Ok.ensures.gone tells) (c.in-Ok-sync_folder.ensures.durable d c.args.mapfile.now left refl),
)
