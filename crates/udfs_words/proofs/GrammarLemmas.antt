-- A plain command has no global argument.
use Rattle.std.proofs.Common.{◌≡◌, Bool, true, false, not, ◌&&◌, refl}
use Rattle.std.proofs.lemmas.Bool.{false≢true}

right : (a b : Bool) → (a && b) ≡ true → b ≡ true
right true b h = h
right false b h = absurd (false≢true h)

left : (a b : Bool) → (a && b) ≡ true → a ≡ true
left true b h = refl
left false b h = absurd (false≢true h)

no : (a : Bool) → not a ≡ true → a ≡ false
no true h = absurd (false≢true h)
no false h = refl

pub third_is_false : (a b c d : Bool) → (a && (b && (not c && d))) ≡ true → c ≡ false
third_is_false a b c d h = no c (left (not c) d (right b (not c && d) (right a (b && (not c && d)) h)))
