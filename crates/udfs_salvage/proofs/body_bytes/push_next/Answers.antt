use Rattle.std.proofs.Common.{take}
use Rattle.udfs_file.specs.Portions.{portion_count}
use Rattle.udfs_salvage.proofs.BodyBytes.{first_count, first_split, first_taken}
use Rattle.udfs_salvage.proofs.body_bytes.push_next.Goals as goal

pub returns-in-Err-push_portion-clause-step : goal.returns-in-Err-push_portion-clause-step
returns-in-Err-push_portion-clause-step g c tells =
    let p = c.in-Ok-Some.portion in
    let s = c.args.portions.now in
    let t = c.next.new.self in
    let first = first_taken s t c.in-Ok-Some.field-0 p c.in-Ok-Some.field-0-is (c.in-Ok-Some.ensures.gives tells) in
    let front = take (portion_count p) s in
    (front, t, first_split p s t first, c.in-Err-push_portion.ensures front first.portion (first_count p s t first))
