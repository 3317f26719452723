use Rattle.std.proofs.Common.{◌≡◌, arith, nat_lt, refl, true}
use Rattle.udfs_file.specs.declared.cursors.Step.TheVariants.{Stop, Fault, End}
use Rattle.udfs_file.proofs.FoundLemmas.{entry_rest, entry_told, entry_uncovered}
use Rattle.udfs_file.proofs.found_names.entry_ahead.Goals as goal

pub returns-then-crc_length-eq0-clause-found : goal.returns-then-crc_length-eq0-clause-found
returns-then-crc_length-eq0-clause-found g c told = entry_uncovered c.args.cursor.now c.in-Id.pieces c.crc_length.result (rw c.in-Id.is at (c.in_ok-pieces.ensures.value told)) (rw c.in-Id.is at (c.in_ok-pieces.ensures.bytes told)) c.crc_length.ensures c.if-crc_length-eq0.true

pub returns-in_ok-entry-in-Id-clause-found : goal.returns-in_ok-entry-in-Id-clause-found
returns-in_ok-entry-in-Id-clause-found g c told = entry_told c.args.cursor.now c.in-Id.pieces c.crc_length.result c.in_ok-entry-in-Id.entry (rw c.in-Id.is at (c.in_ok-pieces.ensures.value told)) (rw c.in-Id.is at (c.in_ok-pieces.ensures.bytes told)) c.crc_length.ensures
    (let some : nat_lt 0 c.crc_length.result ≡ true = grind (arith, c.if-crc_length-eq0.false) in some) c.in_ok-entry-in-Id.ensures.entry

pub returns-in-Stop-clause-found : goal.returns-in-Stop-clause-found
returns-in-Stop-clause-found g c told = entry_rest c.args.cursor.now (Stop c.in-Stop.field-0) (rw c.in-Stop.is at (c.in_ok-pieces.ensures.value told)) refl

pub returns-in-Fault-clause-found : goal.returns-in-Fault-clause-found
returns-in-Fault-clause-found g c told = entry_rest c.args.cursor.now (Fault c.in-Fault.field-0) (rw c.in-Fault.is at (c.in_ok-pieces.ensures.value told)) refl

pub returns-in-End-clause-found : goal.returns-in-End-clause-found
returns-in-End-clause-found g c told = entry_rest c.args.cursor.now End (rw c.in-End.is at (c.in_ok-pieces.ensures.value told)) refl
