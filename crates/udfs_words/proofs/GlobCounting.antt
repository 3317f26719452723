-- Names that are not `**` stand for one name each.
use Rattle.std.proofs.Common.{◌≡◌, refl, ap, ℕ, suc, Bool, true, false, List, [], ◌∷◌, codes, length, map}
use Rattle.std.specs.Prelude.{◌&&◌, not, if◌then◌else◌}
use Rattle.std.specs.List.{list_all}
use Rattle.std.specs.Str.{bytes_eq}
use Rattle.udfs_words.specs.Globs.{Any, One, fits, fits_name, is_single, name_step}

second : (a b : Bool) → (a && b) ≡ true → b ≡ true
second true b h = h
second false b h = absurd (let z : ⊥ = cc in z)

-- one more name of a pattern, where the others stand for as many names
one_more : (b : Bool) (p : List ℕ) (ps names : List (List ℕ))
    → ((xs : List (List ℕ)) → list_all is_single ps ≡ true → fits (map name_step ps) xs ≡ true → length xs ≡ length ps)
    → (not b && list_all is_single ps) ≡ true → fits ((if b then Any else One (fits_name p)) ∷ map name_step ps) names ≡ true → length names ≡ suc (length ps)
one_more true p ps names rest s h = absurd (let z : ⊥ = cc in z)
one_more false p ps [] rest s h = absurd (let z : ⊥ = cc in z)
one_more false p ps (x ∷ xs) rest s h = ap suc (rest xs s (second (fits_name p x) (fits (map name_step ps) xs) h))

-- they stand for as many
pub as_many : (pattern names : List (List ℕ)) → list_all is_single pattern ≡ true → fits (map name_step pattern) names ≡ true → length names ≡ length pattern
as_many [] [] s h = refl
as_many [] (x ∷ xs) s h = absurd (let z : ⊥ = cc in z)
as_many (p ∷ ps) names s h = one_more (bytes_eq p (codes "**")) p ps names (λ xs t f. as_many ps xs t f) s h
