use Rattle.std.proofs.Common.{◌≡◌, ℕ, ◌+◌, ◌*◌, ◌<◌, List, [], ◌++◌, rules, arith, refl, sym, ap, subst, ◌∙◌, append-nil}
use Rattle.std.proofs.lemmas.Result.{err_from_is_err_and}
use Rattle.std.specs.List.{flat_map}
use Rattle.std.specs.Io.KnownBytes.{Consumes}
use Rattle.std.proofs.KnownBytes.{Consumes-nil, Consumes-trans}
use Rattle.udfs_lattice.specs.States.{State, is_known, is_conflict}
use Rattle.udfs_lattice.specs.Tables.{join_tables}
use Rattle.udfs_lattice.specs.Records.{table_of_entries}
use Rattle.udfs_reading.specs.declared.error.ReadingFault.TheVariants.{BlockNumber, Order}
use Rattle.udfs_reading.specs.Format.{number, value_of, In}
use Rattle.udfs_reading.specs.PacketFile.{mask_of, content, masks_bytes}
use Rattle.udfs_reading.specs.PacketReading.{packet_format, tables_v2, packets_front, listed, AtPacket}
use Rattle.udfs_reading.proofs.GainLemmas.{gains_as}
use Rattle.udfs_reading.proofs.Numbers.{length-number, value_of-number}
use Rattle.udfs_reading.proofs.PacketMasks.{mask_some}
use Rattle.udfs_reading.proofs.Ends.{fault_at, ends_cut, ends_after}
use Rattle.udfs_reading.proofs.packet_file.read_packet.Goals as goal

pub returns-in_err-packet-clause-err : goal.returns-in_err-packet-clause-err
returns-in_err-packet-clause-err g c =
    let p = err_from_is_err_and c.from_residual.result c.from_residual.ensures.1 in
    rw (p.1, p.2) (λ count done under at low. ends_cut packet_format (In (AtPacket count done)) (packets_front count done) [] under (sym (append-nil (packets_front count done))) (sym at) (Consumes-nil _) refl c.in_err-packet.ensures.err)

pub returns-then-packet-gt-LAST_PACKET-clause-err : goal.returns-then-packet-gt-LAST_PACKET-clause-err
returns-then-packet-gt-LAST_PACKET-clause-err g c count done under at low =
    let n = c.in_ok-packet.packet in
    let value : value_of (number n) ≡ n = ap value_of (sym (append-nil (number n))) ∙ value_of-number n [] (search rules) in
    record {
      got = number n;
      given = c.in_ok-packet.ensures.bytes;
      why = (c.in_ok-packet.ensures.count, fault_at packet_format (In (AtPacket count done)) (packets_front count done) [] (number n) BlockNumber c.args.entry under (sym (append-nil (packets_front count done))) (sym at) (omega (arith, length-number n), rw value c.if-packet-gt-LAST_PACKET.true));
    }

pub returns-then-packet-low-clause-err : goal.returns-then-packet-low-clause-err
returns-then-packet-low-clause-err g c count done under at low =
    let n = c.in_ok-packet.packet in
    let value : value_of (number n) ≡ n = ap value_of (sym (append-nil (number n))) ∙ value_of-number n [] (search rules) in
    record {
      got = number n;
      given = c.in_ok-packet.ensures.bytes;
      why = (c.in_ok-packet.ensures.count, fault_at packet_format (In (AtPacket count done)) (packets_front count done) [] (number n) Order c.args.entry under (sym (append-nil (packets_front count done))) (sym at) (omega (arith, length-number n), rw (value, low) (c.if-packet-gt-LAST_PACKET.false, c.if-packet-low.true)));
    }

pub returns-in_err-masks-clause-err : goal.returns-in_err-masks-clause-err
returns-in_err-masks-clause-err g c =
    let p = err_from_is_err_and c.from_residual-in_err-masks.result c.from_residual-in_err-masks.ensures.1 in
    rw (p.1, p.2) (λ count done under at low. ends_after tables_v2 (packets_front count done) (number c.in_ok-packet.packet) c.in_ok-packet.ensures.bytes c.in_ok-packet.ensures.count
    (c.in_err-masks.ensures.err count done (under, rw low c.if-packet-low.false, c.if-packet-gt-LAST_PACKET.false) at))

pub returns-in_err-read_blocks-clause-err : goal.returns-in_err-read_blocks-clause-err
returns-in_err-read_blocks-clause-err g c =
    let p = err_from_is_err_and c.from_residual-in_err-read_blocks.result c.from_residual-in_err-read_blocks.ensures.1 in
    let n = c.in_ok-packet.packet in
    let m = c.in_ok-masks.masks in
    rw (p.1, p.2) (λ count done under at low. ends_after tables_v2 (packets_front count done) (number n ++ (number m.known ++ number m.conflict))
    (Consumes-trans _ _ _ (number n) (number m.known ++ number m.conflict) c.in_ok-packet.ensures.bytes c.in_ok-masks.ensures.given) (c.in_ok-masks.ensures.count ∙ c.in_ok-packet.ensures.count)
    (c.in_err-read_blocks.ensures.err count done (under, rw low c.if-packet-low.false, c.if-packet-gt-LAST_PACKET.false) at))

pub returns-clause-ok : goal.returns-clause-ok
returns-clause-ok g c =
    let n = c.in_ok-packet.packet in
    let m = c.in_ok-masks.masks in
    gains_as (λ before after s.
    let masks : number m.known ++ number m.conflict ≡ masks_bytes s.taken = ap (λ (k : ℕ). number k ++ number m.conflict) (sym s.known_is) ∙ ap (λ (k : ℕ). number (mask_of is_known s.taken) ++ number k) (sym s.conflict_is) in
    let some : 0 < mask_of is_known s.taken + mask_of is_conflict s.taken = rw (s.known_is, s.conflict_is) c.in_ok-masks.ensures.masks.1 in
    record {
      taken = (n, s.taken);
      above = c.if-packet-low.false;
      there = c.if-packet-gt-LAST_PACKET.false;
      states = record { many = s.many; each = s.each; some = mask_some s.taken some };
      given = Consumes-trans _ _ _ (number n) (masks_bytes s.taken ++ flat_map content s.taken) c.in_ok-packet.ensures.bytes
          (Consumes-trans _ _ _ (masks_bytes s.taken) (flat_map content s.taken) (subst (Consumes _ _) masks c.in_ok-masks.ensures.given) s.given);
      next_is = refl;
      put = s.put ∙ ap (λ (l : List (ℕ × State)). join_tables before (table_of_entries l)) (sym (append-nil (listed (32 * n) s.taken)));
    }) c.in_ok-read_blocks.ensures.ok

pub read_blocks-requires-clause-at : goal.read_blocks-requires-clause-at
read_blocks-requires-clause-at g c = c.in_ok-masks.ensures.at _ (c.in_ok-packet.ensures.at _ c.requires)
