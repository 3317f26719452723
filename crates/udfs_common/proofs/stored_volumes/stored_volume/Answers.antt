use Rattle.std.proofs.Common.{◌≡◌, ◌<◌, arith, inl, inr, length, rules, ⊎_elim}
use Rattle.udfs_common.proofs.NamingLemmas.{shut_names_none}
use Rattle.udfs_common.proofs.stored_volumes.stored_volume.Goals as goal

pub returns-in-Err-clause-refused : goal.returns-in-Err-clause-refused
returns-in-Err-clause-refused g c = (inl (rw c.as_slice-paths.ensures.value at c.in-Err.ensures.blamed), c.in-Err.ensures.forced)

pub returns-in-Err-open_all_stored-clause-refused : goal.returns-in-Err-open_all_stored-clause-refused
returns-in-Err-open_all_stored-clause-refused g c =
    let blamed = rw c.as_slice-paths.ensures.value at c.in-Err-open_all_stored.ensures.blamed in
    (inr (record { why = ⊎_elim (λ memory. inl memory) (λ shut. inr (inl shut)) blamed }), λ forced. shut_names_none _ _ _ blamed)

pub returns-in-Ok-Some-clause-stored : goal.returns-in-Ok-Some-clause-stored
returns-in-Ok-Some-clause-stored g c =
    let value = c.as_slice-paths.ensures.value in
    let many = rw value at (rw c.in-Ok-Some.field-0-is at c.in-Ok-Some.ensures.each) in
    let each : length c.in-Ok-Some.stored.items ≡ length c.args.volume.now.inputs.paths.items = search (rules, many) in
    let some : 0 < length c.args.volume.now.inputs.paths.items = grind arith in
    record {
      ends = rw value at c.in-Ok.ensures.ends;
      some = some;
      each = each;
      opened = rw value at (rw c.in-Ok-Some.field-0-is at c.in-Ok-Some.ensures.opened);
      judged = rw value at (rw c.in-Ok-Some.field-0-is at c.in-Ok-Some.ensures.judged);
    }
