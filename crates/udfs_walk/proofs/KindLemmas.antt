-- Which file types are told as files, by which rules.
use Rattle.std.proofs.Common.{◌≡◌, refl, sym, ap, ℕ, Bool, true, false, cond, ◌||◌, nat_eq}
use Rattle.std.proofs.lemmas.Bool.{eqb-false, ne_eqb}
use Rattle.udfs_volume.specs.declared.profiles.Profile.TheVariants.{Strict, Wide}
use Rattle.udfs_volume.specs.Profiles.{is_file_type}
use Rattle.udfs_file.specs.Entries.{kind_of}
use Rattle.udfs_file.specs.declared.faults.Kind.TheVariants.{Directory, File, Link, Other}
use Rattle.udfs_walk.specs.Kinds.{KindsByRules, kind_by}

-- of what is no file of bytes by its type, the strict rules make none
strict : (type : ℕ) → kind_by Strict (kind_of type) ≡ kind_of type
strict type = go (nat_eq type 4) (nat_eq type 5) (nat_eq type 12) refl
  where
    go : (a b c : Bool) → nat_eq type 5 ≡ b
        → kind_by Strict (cond a Directory (cond b File (cond c Link (Other type)))) ≡ cond a Directory (cond b File (cond c Link (Other type)))
    go true b c e = refl
    go false true c e = refl
    go false false true e = refl
    go false false false e = ap (λ x. cond (x || false) File (Other type)) (ne_eqb 5 type (λ h. eqb-false type 5 e (sym h)))

-- and the wide ones none of any type but theirs
wide : (type : ℕ) → is_file_type Wide type ≡ false → kind_by Wide (kind_of type) ≡ kind_of type
wide type other = go (nat_eq type 4) (nat_eq type 5) (nat_eq type 12)
  where
    go : (a b c : Bool) → kind_by Wide (cond a Directory (cond b File (cond c Link (Other type)))) ≡ cond a Directory (cond b File (cond c Link (Other type)))
    go true b c = refl
    go false true c = refl
    go false false true = refl
    go false false false = ap (λ x. cond x File (Other type)) other

pub kinds_by_rules : KindsByRules
kinds_by_rules = record { strict = strict; unspecified = refl; real_time = refl; wide = wide }
