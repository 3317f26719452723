-- No time has a long text.
use Rattle.std.proofs.Common.{◌≡◌, refl, ap, ℕ, ◌≤◌, Bool, true, false, List, ◌++◌, length, length-append, arith}
use Rattle.std.specs.Prelude.{ℤ, codes, if◌then◌else◌}
use Rattle.udfs_osta.specs.StampTexts.{is_shown, moment_text, stamp_text}
use Rattle.udfs_osta.specs.declared.stamps.Stamp.{Stamp}
use Rattle.udfs_osta.specs.declared.stamps.Stamp.TheVariants.{Utc, Local, Invalid}

moment_length : (m : ℤ) → length (moment_text m) ≡ 26
unfolding moment_text
moment_length m = refl

ended_short : (b : Bool) (m : ℤ) (ending : List ℕ) → length ending ≤ 1 → length (if b then moment_text m ++ ending else codes "invalid") ≤ 2048
ended_short true m ending h = let e = length-append (moment_text m) ending in let l = moment_length m in omega (arith, e, l, h)
ended_short false m ending h = omega arith

pub stamp_short : (s : Stamp) → length (stamp_text s) ≤ 2048
unfolding stamp_text
stamp_short (Utc m) = ended_short (is_shown m) m (codes "Z") (omega arith)
stamp_short (Local m) = ended_short (is_shown m) m (codes "") (omega arith)
stamp_short Invalid = omega arith

-- the end of a short text is short
pub end_short : (front ending whole : List ℕ) → front ++ ending ≡ whole → length whole ≤ 2048 → length ending ≤ 2048
end_short front ending whole is h = let e = length-append front ending in let f = ap length is in omega (arith, e, f, h)
