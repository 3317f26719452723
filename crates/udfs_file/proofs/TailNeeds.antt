-- A body that is read by the tail of its last extent is one with it, and has a fault without it.
use Rattle.std.proofs.Common.{◌≡◌, ◌≢◌, refl, sym, ◌∙◌, ap, ℕ, Bool, true, false, not, List, cond, ◌&&◌, nat_eq}
use Rattle.std.proofs.lemmas.Bool.{eqb-true}
use Rattle.udfs_space.specs.Places.{View}
use Rattle.udfs_volume.specs.Profiles.{takes_tail}
use Rattle.udfs_volume.specs.declared.profiles.Profile.TheVariants.{Strict}
use Rattle.udfs_file.specs.Bodies.{Body, cells, faulty_body, body, embedded_body, extents_body, extents_body_by, listed_body, or_body}
use Rattle.udfs_file.specs.Entries.{EntryFields}
use Rattle.udfs_file.specs.Laws.{by_profile}
use Rattle.udfs_file.specs.Stretches.{cells_of}
use Rattle.udfs_file.specs.TailBodies.{has_cells, is_tail_read}
use Rattle.udfs_file.specs.declared.faults.NodeFault.{NodeFault}
use Rattle.udfs_file.specs.declared.stretches.Stretch.{Stretch}
use Rattle.udfs_file.proofs.KeptBodies.{chain_kept}

-- what a walk gives
pub gives : (v : View) (ss : List Stretch) (whole : Body) → whole ≡ cells (cells_of v ss) → true ≡ has_cells whole
gives v ss whole e = sym (ap has_cells e)

pub gives_none : (f : NodeFault) (whole : Body) → whole ≡ faulty_body f → false ≡ has_cells whole
gives_none f whole e = sym (ap has_cells e)

same_not : (b : Bool) → (b && not b) ≡ false
same_not true = refl
same_not false = refl

either : (x y : Body) → (has_cells (or_body x y) && not (has_cells y)) ≡ (has_cells x && not (has_cells y))
either (cells cs) y = refl
either (faulty_body f) y = same_not (has_cells y)

-- the body without the tail is that of the strict rules
strict_listed : (v : View) (form r size : ℕ) (area : List ℕ) → extents_body_by (by_profile Strict v) form r size area ≡ listed_body false v form r size area
unfolding extents_body_by listed_body
strict_listed v form r size area = ap (extents_body v size) (chain_kept false Strict v.profile v form r 256 area)

-- an embedded body has no tail
pub embedded_none : (v : View) (r b : ℕ) (e : EntryFields) → e.form ≡ 3 → false ≡ is_tail_read v r b e
unfolding is_tail_read body
embedded_none v r b e three = sym ((λ i. has_cells (cond (nat_eq (three i) 3) (embedded_body b e) (extents_body_by v e.form r e.size e.area))
    && not (has_cells (cond (nat_eq (three i) 3) (embedded_body b e) (extents_body_by (by_profile Strict v) e.form r e.size e.area)))) ∙ same_not (has_cells (embedded_body b e)))

-- nor has one by rules that take none
pub untaken_none : (v : View) (r b : ℕ) (e : EntryFields) → takes_tail v.profile ≡ false → false ≡ is_tail_read v r b e
unfolding is_tail_read body extents_body_by
untaken_none v r b e t = sym (go (nat_eq e.form 3))
  where
    whole : Bool → Body
    whole c = cond c (or_body (listed_body true v e.form r e.size e.area) (listed_body false v e.form r e.size e.area)) (listed_body false v e.form r e.size e.area)

    go : (x : Bool) → (has_cells (cond x (embedded_body b e) (whole (takes_tail v.profile))) && not (has_cells (cond x (embedded_body b e) (listed_body false (by_profile Strict v) e.form r e.size e.area)))) ≡ false
    go true = same_not (has_cells (embedded_body b e))
    go false = (λ i. has_cells (whole (t i)) && not (has_cells (strict_listed v e.form r e.size e.area i))) ∙ same_not (has_cells (listed_body false v e.form r e.size e.area))

-- any other is one with the tail, and none without
pub needs : (v : View) (r b : ℕ) (e : EntryFields) → e.form ≢ 3 → takes_tail v.profile ≡ true
    → (has_cells (listed_body true v e.form r e.size e.area) && not (has_cells (listed_body false v e.form r e.size e.area))) ≡ is_tail_read v r b e
unfolding is_tail_read body extents_body_by
needs v r b e listed t = sym ((λ i. has_cells (cond (other i) (embedded_body b e) (whole (t i))) && not (has_cells (cond (other i) (embedded_body b e) (strict_listed v e.form r e.size e.area i))))
    ∙ either (listed_body true v e.form r e.size e.area) (listed_body false v e.form r e.size e.area))
  where
    whole : Bool → Body
    whole c = cond c (or_body (listed_body true v e.form r e.size e.area) (listed_body false v e.form r e.size e.area)) (listed_body false v e.form r e.size e.area)

    differs : (x : Bool) → nat_eq e.form 3 ≡ x → nat_eq e.form 3 ≡ false
    differs true q = absurd (listed (eqb-true e.form 3 q))
    differs false q = q

    other : nat_eq e.form 3 ≡ false
    other = differs (nat_eq e.form 3) refl
