-- The extents of an anchor.
use Rattle.std.proofs.Common.{◌≡◌, ◌∙◌, ap, ℕ, ◌%◌, arith, Bool, true, ◌&&◌, nat_eq, nat_le, cond}
use Rattle.std.proofs.lemmas.Bool.{eqb-true, le-leb}
use Rattle.udfs_tag.specs.Faults.{is_within}
use Rattle.udfs_volume.specs.declared.anchors.AnchorExtents.{AnchorExtents}
use Rattle.udfs_volume.specs.Laws.{StrictSequence}
use Rattle.udfs_volume.specs.Sequence.{are_extents, fits_to, shorter}
use Rattle.udfs_volume.proofs.Known.{both}

-- extents that the strict rules take have one length
pub one_length : (last : ℕ) (e : AnchorExtents) → are_extents last e ≡ true → e.main.length ≡ e.reserve.length
one_length last e h = eqb-true e.main.length e.reserve.length (both a b (both (a && b) c (both (a && b && c) (fits_to last e.main) (both (a && b && c && fits_to last e.main) (fits_to last e.reserve) h).0).0).0).0
  where
    a : Bool
    a = nat_eq e.main.length e.reserve.length

    b : Bool
    b = nat_eq (e.main.length % 2048) 0

    c : Bool
    c = is_within 32768 524288 e.main.length

pub strict_sequence : StrictSequence
strict_sequence last e h = λ i. record {
  main = record { length = main i; block = e.main.block };
  reserve = record { length = reserve i; block = e.reserve.block };
}
  where
    same : e.main.length ≡ e.reserve.length
    same = one_length last e h

    le : nat_le e.main.length e.reserve.length ≡ true
    le = let q : e.main.length ≡ e.reserve.length = same in le-leb e.main.length e.reserve.length (omega (arith, q))

    main : shorter e ≡ e.main.length
    main = ap (λ b. cond b e.main.length e.reserve.length) le

    reserve : shorter e ≡ e.reserve.length
    reserve = main ∙ same
