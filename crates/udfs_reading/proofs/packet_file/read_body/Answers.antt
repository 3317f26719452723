use Rattle.std.proofs.Common.{ℕ, ◌<◌, ◌^◌, [], ◌++◌, rules, refl, sym, subst, ◌∙◌, append-nil}
use Rattle.std.proofs.lemmas.Result.{err_from_is_err_and}
use Rattle.std.specs.List.{flat_map}
use Rattle.std.specs.Io.KnownBytes.{Consumes}
use Rattle.std.proofs.KnownBytes.{Consumes-trans}
use Rattle.udfs_reading.specs.PacketFile.{packet_magic, packet_bytes}
use Rattle.udfs_reading.specs.PacketReading.{packet_format, tables_v2, AtPacketsEnd, table_of_packets}
use Rattle.udfs_reading.specs.Format.{number}
use Rattle.udfs_reading.proofs.GainLemmas.{gained, gains_as}
use Rattle.udfs_reading.proofs.Ends.{ends_after, ends_bare, ends_end}
use Rattle.udfs_reading.proofs.Packets.{whole_packet_front, is_packet_file}
use Rattle.udfs_reading.proofs.packet_file.read_body.Goals as goal

pub returns-in_err-count-clause-err : goal.returns-in_err-count-clause-err
returns-in_err-count-clause-err g c =
    let p = err_from_is_err_and c.from_residual.result c.from_residual.ensures.1 in
    rw (p.1, p.2) (ends_bare packet_format c.in_err-count.ensures.of_file (c.in_err-count.ensures.err packet_magic))

pub returns-in_err-read_packets-clause-err : goal.returns-in_err-read_packets-clause-err
returns-in_err-read_packets-clause-err g c =
    let p = err_from_is_err_and c.from_residual-in_err-read_packets.result c.from_residual-in_err-read_packets.ensures.1 in
    let n = c.in_ok-count.count in
    rw (p.1, p.2) (ends_after tables_v2 packet_magic (number 2048 ++ number n) c.in_ok-count.ensures.bytes c.in_ok-count.ensures.count
    (rw (← whole_packet_front n) c.in_err-read_packets.ensures.err))

pub returns-in_err-read_end-clause-err : goal.returns-in_err-read_end-clause-err
returns-in_err-read_end-clause-err g c =
    let p = err_from_is_err_and c.from_residual-in_err-read_end.result c.from_residual-in_err-read_end.ensures.1 in
    let t = gained c.in_ok-read_packets.ensures.ok.1 in
    let n = c.in_ok-count.count in
    let got = (number 2048 ++ number n) ++ flat_map packet_bytes t.taken in
    let fits : n < 2 ^ 32 = search rules in
    let file = is_packet_file n t.taken t.many t.rises in
    rw (p.1, p.2) (ends_after tables_v2 packet_magic got
    (Consumes-trans _ _ _ (number 2048 ++ number n) (flat_map packet_bytes t.taken) c.in_ok-count.ensures.bytes t.given)
    (c.in_ok-read_packets.ensures.count ∙ c.in_ok-count.ensures.count)
    (ends_end packet_format (AtPacketsEnd t.taken) (packet_magic ++ got) (table_of_packets t.taken) (subst (λ (k : ℕ). k < 2 ^ 32) (sym t.many) fits, t.rises) file.2 (sym t.many) refl (λ more some. some) (file.0, file.1) c.in_err-read_end.ensures.err))

pub returns-clause-ok : goal.returns-clause-ok
returns-clause-ok g c =
    let n = c.in_ok-count.count in
    gains_as (λ before after t.
    let got = (number 2048 ++ number n) ++ flat_map packet_bytes t.taken in
    let file = is_packet_file n t.taken t.many t.rises in
    record {
      got = got;
      count = n;
      table = table_of_packets t.taken;
      given = subst (Consumes _ _) (append-nil got)
          (Consumes-trans _ _ _ got [] (Consumes-trans _ _ _ (number 2048 ++ number n) (flat_map packet_bytes t.taken) c.in_ok-count.ensures.bytes t.given) c.in_ok-read_end.ensures.ok);
      end = c.in_ok-read_end.ensures.end;
      file = (file.0, file.1);
      joined = t.put;
    }) c.in_ok-read_packets.ensures.ok.1

pub read_packets-requires : goal.read_packets-requires
read_packets-requires g c = c.in_ok-count.ensures.at _ c.requires
