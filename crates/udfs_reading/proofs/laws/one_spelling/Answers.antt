use Rattle.std.proofs.Common.{refl, sym, ◌∙◌}
use Rattle.udfs_reading.specs.PacketFile.{table_bytes}
use Rattle.udfs_reading.specs.TableFile.{table_bytes_v1}
use Rattle.udfs_reading.proofs.Outcomes.{tables_v1_laws, tables_v2_laws}
use Rattle.udfs_reading.proofs.laws.one_spelling.Goals as goal

pub returns-clause-spelled : goal.returns-clause-spelled
returns-clause-spelled c t is = record { is_table = is; spelled = refl }

pub returns-clause-one : goal.returns-clause-one
returns-clause-one c bytes other t h k = h.spelled ∙ sym k.spelled

pub returns-clause-tells_it : goal.returns-clause-tells_it
returns-clause-tells_it c t u h k same = tables_v2_laws.one_file (table_bytes t) _ _ t u (record { is_table = h; spelled = refl }, refl) (record { is_table = k; spelled = same }, refl)

pub returns-clause-spelled_v1 : goal.returns-clause-spelled_v1
returns-clause-spelled_v1 c t is = record { is_table = is; spelled = refl }

pub returns-clause-one_v1 : goal.returns-clause-one_v1
returns-clause-one_v1 c bytes other t h k = h.spelled ∙ sym k.spelled

pub returns-clause-tells_it_v1 : goal.returns-clause-tells_it_v1
returns-clause-tells_it_v1 c t u h k same = tables_v1_laws.one_file (table_bytes_v1 t) _ _ t u (record { is_table = h; spelled = refl }, refl) (record { is_table = k; spelled = same }, refl)
