use Rattle.std.proofs.Common.{◌≡◌, true, sym, ◌∙◌}
use Rattle.std.specs.Str.{bytes_eq}
use Rattle.std.proofs.lemmas.Result.{err_from_is_err_and}
use Rattle.udfs_reading.specs.Reading.{magic, readings}
use Rattle.udfs_reading.specs.TableFile.{table_magic}
use Rattle.udfs_reading.specs.TableReading.{tables_v1}
use Rattle.udfs_reading.specs.PacketFile.{packet_magic}
use Rattle.udfs_reading.specs.PacketReading.{tables_v2}
use Rattle.udfs_reading.specs.Inputs.{files}
use Rattle.udfs_reading.proofs.GainLemmas.{gains_as}
use Rattle.udfs_reading.proofs.Magics.{accepts, ends_behind, takes_behind, reading_at, v1_at, v2_at, ends_input, takes_input, ends_input_cut, ends_input_magic}
use Rattle.udfs_reading.proofs.input.join_files.Goals as goal

pub returns-in_err-magic-clause-err : goal.returns-in_err-magic-clause-err
returns-in_err-magic-clause-err g c =
    let p = err_from_is_err_and c.from_residual.result c.from_residual.ensures.1 in
    rw (p.1, p.2) (ends_input_cut c.args.readings c.in_err-magic.ensures.err)

pub returns-in_err-read_body-clause-err : goal.returns-in_err-read_body-clause-err
returns-in_err-read_body-clause-err g c =
    let p = err_from_is_err_and c.from_residual-in_err-read_body.result c.from_residual-in_err-read_body.ensures.1 in
    let a : (c.args.readings ≡ true) × (bytes_eq c.in_ok-magic.magic magic ≡ true) = accepts c.args.readings _ (sym c.names_accepted.ensures ∙ c.if-names_accepted.true) in
    rw (p.1, p.2) (ends_behind (files c.args.readings) magic c.in_ok-magic.magic c.in_ok-magic.ensures.bytes c.in_ok-magic.ensures.count a.1 (ends_input c.args.readings readings magic (reading_at c.args.readings a.0) c.in_err-read_body.ensures.err))

pub returns-then-names_accepted-clause-ok : goal.returns-then-names_accepted-clause-ok
returns-then-names_accepted-clause-ok g c =
    let a : (c.args.readings ≡ true) × (bytes_eq c.in_ok-magic.magic magic ≡ true) = accepts c.args.readings _ (sym c.names_accepted.ensures ∙ c.if-names_accepted.true) in
    gains_as (λ before after t. takes_behind (files c.args.readings) magic c.in_ok-magic.magic c.in_ok-magic.ensures.bytes a.1 (takes_input c.args.readings readings magic (reading_at c.args.readings a.0) t)) c.in_ok-read_body.ensures.ok

pub returns-in_err-read_body-2-clause-err : goal.returns-in_err-read_body-2-clause-err
returns-in_err-read_body-2-clause-err g c =
    let p = err_from_is_err_and c.from_residual-in_err-read_body-2.result c.from_residual-in_err-read_body-2.ensures.1 in
    rw (p.1, p.2) (ends_behind (files c.args.readings) table_magic c.in_ok-magic.magic c.in_ok-magic.ensures.bytes c.in_ok-magic.ensures.count (sym c.names_table.ensures ∙ c.if-names_table.true) (ends_input c.args.readings tables_v1 table_magic (v1_at c.args.readings) c.in_err-read_body-2.ensures.err))

pub returns-then-names_table-clause-ok : goal.returns-then-names_table-clause-ok
returns-then-names_table-clause-ok g c =
    gains_as (λ before after t. takes_behind (files c.args.readings) table_magic c.in_ok-magic.magic c.in_ok-magic.ensures.bytes (sym c.names_table.ensures ∙ c.if-names_table.true) (takes_input c.args.readings tables_v1 table_magic (v1_at c.args.readings) t)) c.in_ok-read_body-2.ensures.ok

pub returns-in_err-read_body-3-clause-err : goal.returns-in_err-read_body-3-clause-err
returns-in_err-read_body-3-clause-err g c =
    let p = err_from_is_err_and c.from_residual-in_err-read_body-3.result c.from_residual-in_err-read_body-3.ensures.1 in
    rw (p.1, p.2) (ends_behind (files c.args.readings) packet_magic c.in_ok-magic.magic c.in_ok-magic.ensures.bytes c.in_ok-magic.ensures.count (sym c.names_packets.ensures ∙ c.if-names_packets.true) (ends_input c.args.readings tables_v2 packet_magic (v2_at c.args.readings) c.in_err-read_body-3.ensures.err))

pub returns-then-names_packets-clause-ok : goal.returns-then-names_packets-clause-ok
returns-then-names_packets-clause-ok g c =
    gains_as (λ before after t. takes_behind (files c.args.readings) packet_magic c.in_ok-magic.magic c.in_ok-magic.ensures.bytes (sym c.names_packets.ensures ∙ c.if-names_packets.true) (takes_input c.args.readings tables_v2 packet_magic (v2_at c.args.readings) t)) c.in_ok-read_body-3.ensures.ok

pub returns-clause-err : goal.returns-clause-err
returns-clause-err g c =
    ends_input_magic c.args.readings c.in_ok-magic.magic c.in_ok-magic.ensures.bytes c.in_ok-magic.ensures.count c.in_ok-magic.ensures.eight
    (sym c.names_accepted.ensures ∙ c.if-names_accepted.false) (sym c.names_table.ensures ∙ c.if-names_table.false) (sym c.names_packets.ensures ∙ c.if-names_packets.false)

pub read_body-requires : goal.read_body-requires
read_body-requires g c = c.in_ok-magic.ensures.at _ c.requires

pub read_body-requires-then-names_table : goal.read_body-requires-then-names_table
read_body-requires-then-names_table g c = c.in_ok-magic.ensures.at _ c.requires

pub read_body-requires-then-names_packets : goal.read_body-requires-then-names_packets
read_body-requires-then-names_packets g c = c.in_ok-magic.ensures.at _ c.requires
