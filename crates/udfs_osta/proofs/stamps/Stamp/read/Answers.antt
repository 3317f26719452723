use Rattle.std.proofs.Common.{◌≡◌, rules, w64, to_z, of_z}
use Rattle.udfs_osta.specs.declared.stamps.Stamp.TheVariants.{Local}
use Rattle.udfs_osta.specs.Stamps.{stamp_of}
use Rattle.udfs_osta.proofs.FieldTexts.{local_text}
use Rattle.udfs_osta.proofs.stamps.Stamp.read.Goals as goal

pub returns-then-low-eq-NO_OFFSET-clause-local : goal.returns-then-low-eq-NO_OFFSET-clause-local
unfolding stamp_of
returns-then-low-eq-NO_OFFSET-clause-local c =
    let local = to_z w64 (of_z w64 c.in-Some.local) in
    let e : stamp_of c.args.bytes.now ≡ Local local = search rules in
    λ micros same. local_text c.args.bytes.now local e
