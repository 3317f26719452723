-- A body without a fault stays as it is where the tail of a last extent is taken too.
use Rattle.std.proofs.Common.{◌≡◌, refl, sym, ◌∙◌, ap, ℕ, Bool, true, false, List, cond, nat_eq}
use Rattle.std.specs.Prelude.{zero, suc}
use Rattle.udfs_tag.specs.declared.layouts.LongAd.{LongAd}
use Rattle.udfs_space.specs.Places.{View}
use Rattle.udfs_volume.specs.declared.profiles.Profile.{Profile}
use Rattle.udfs_volume.specs.declared.profiles.Profile.TheVariants.{Strict, Wide}
use Rattle.udfs_file.specs.Bodies.{Descriptors, descriptors_in, up_to_next, next_descriptor, next_of, joined, chain, cells, listed_body, extents_body, extents_body_by, embedded_body, body}
use Rattle.udfs_file.specs.Laws.{TailKeepsBodies, by_profile}
use Rattle.udfs_file.specs.declared.cells.Cell.{Cell}
use Rattle.udfs_file.proofs.Tails.{tail_same}
use Rattle.udfs_file.proofs.Tails as tails

-- the descriptors do not depend on the rules
pub chain_kept : (t : Bool) (s u : Profile) (v : View) (form r left : ℕ) (area : List ℕ) → chain t (by_profile s v) form r left area ≡ chain t (by_profile u v) form r left area
chain_kept t s u v form r zero area = refl
chain_kept t s u v form r (suc left) area = let ds : List LongAd = descriptors_in t form r area in
    λ i. joined (up_to_next ds) (next_of (by_profile s v) form false (next_descriptor ds)) (λ a. chain_kept t s u v form r left a i)

-- nor does what they give (the number of continuations is left open here, since 256 of them would be computed where it is not)
extents_same : (v : View) (size : ℕ) (ds : Descriptors) → extents_body (by_profile Strict v) size ds ≡ extents_body (by_profile Wide v) size ds
extents_same v size ds = refl

chained_kept : (v : View) (form r size most : ℕ) (area : List ℕ) → extents_body (by_profile Strict v) size (chain false (by_profile Strict v) form r most area) ≡ extents_body (by_profile Wide v) size (chain false (by_profile Wide v) form r most area)
chained_kept v form r size most area =
    ap (extents_body (by_profile Strict v) size) (chain_kept false Strict Wide v form r most area) ∙ extents_same v size (chain false (by_profile Wide v) form r most area)

listed_kept : (v : View) (form r size : ℕ) (area : List ℕ) → listed_body false (by_profile Strict v) form r size area ≡ listed_body false (by_profile Wide v) form r size area
unfolding listed_body
listed_kept v form r size area = chained_kept v form r size 256 area

extents_kept : (v : View) (form r size : ℕ) (area : List ℕ) (cs : List Cell) → extents_body_by (by_profile Strict v) form r size area ≡ cells cs → extents_body_by (by_profile Wide v) form r size area ≡ cells cs
extents_kept v form r size area cs e = tails.with_tail (by_profile Wide v) form r size area cs refl
    (tail_same (by_profile Wide v) form r size area cs (sym (listed_kept v form r size area) ∙ sym (tails.no_tail (by_profile Strict v) form r size area refl) ∙ e))

pub tail_keeps : TailKeepsBodies
unfolding body
tail_keeps v r b entry cs = go (nat_eq entry.form 3)
  where
    go : (x : Bool) → cond x (embedded_body b entry) (extents_body_by (by_profile Strict v) entry.form r entry.size entry.area) ≡ cells cs
        → cond x (embedded_body b entry) (extents_body_by (by_profile Wide v) entry.form r entry.size entry.area) ≡ cells cs
    go true e = e
    go false e = extents_kept v entry.form r entry.size entry.area cs e
