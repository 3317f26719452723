-- The law of bodies and directories of which a part is known.
use Rattle.std.proofs.Common.{◌≡◌, refl, sym, ◌∙◌, ap, subst, inl, inr, ◌⊎◌, ℕ, ◌+◌, ◌-◌, ◌<◌, ◌≤◌, Bool, true, false, List, [], ◌∷◌, ◌++◌, length, take, map, cond, ◌&&◌, arith, Some, slice_get, nat_eq, nat_le, nat_lt}
use Rattle.std.specs.Prelude.{zero, suc, ◌↔◌}
use Rattle.std.proofs.lemmas.List.Sums.{take_while-cons}
use Rattle.std.proofs.lemmas.Bool.{eqb-true, leb-true}
use Rattle.std.proofs.lemmas.Option.{slice_get_within}
use Rattle.udfs_lattice.specs.States.{is_known}
use Rattle.udfs_lattice.proofs.Inclusion.{Includes, included, contained}
use Rattle.udfs_tag.specs.declared.layouts.LongAd.{LongAd}
use Rattle.udfs_space.specs.Places.{View, IsPartOf}
use Rattle.udfs_volume.specs.Profiles.{takes_tail}
use Rattle.udfs_file.specs.Entries.{EntryFields}
use Rattle.udfs_file.specs.Bodies.{covers, with_start, used, allocation_descriptors, cells, chain, faulty_body, extents_body_by, embedded_body, body, IsRecordedFor, IsContinuedFor, IsNeededFor}
use Rattle.udfs_file.specs.declared.cells.Cell.{Cell}
use Rattle.udfs_file.specs.declared.cells.Cell.TheVariants.{Byte, Gap}
use Rattle.udfs_file.specs.Laws.{IsMissingAt, PartialBodies}
use Rattle.udfs_file.specs.declared.faults.NodeFault.TheVariants.{Short}
use Rattle.udfs_file.proofs.BodyFrom.{from, takes, taken_from, is_lt, body-from}
use Rattle.udfs_file.proofs.Tails.{counted_body}
use Rattle.udfs_file.proofs.PartBodies.{part_body}
use Rattle.udfs_file.proofs.Parts.{PartIs, from-length, cells-same, no_cells}
use Rattle.udfs_file.proofs.PartFronts.{AllZip-length}
use Rattle.udfs_file.proofs.Reached.{partial_directory}
use Rattle.udfs_file.proofs.ChainFits.{ChainFits, chain_fits}
use Rattle.udfs_file.proofs.Gaps.{HoldsCell, Continues, NeedIn, GapsAt, gaps_from}

taken-cons : (size c : ℕ) (d : LongAd) (ds : List LongAd) → taken_from size c (d ∷ ds) ≡ cond (takes size (c, d)) ((c, d) ∷ taken_from size (c + covers d) ds) []
taken-cons size c d ds = take_while-cons (takes size) (c, d) (with_start (c + covers d) ds)

takes_it : (size c : ℕ) (d : LongAd) → c < size → nat_lt 0 d.length ≡ true → takes size (c, d) ≡ true
takes_it size c d h l = ap (λ b. b && nat_lt 0 d.length) (is_lt c size h) ∙ l

it_takes : (a b : Bool) → (a && b) ≡ true → (a ≡ true) × (b ≡ true)
it_takes true b e = (refl, e)
it_takes false b e = absurd (let z : ⊥ = cc in z)

abbrev IsFor : View → ℕ → ℕ → ℕ → List (ℕ × LongAd) → Type 0
IsFor w size k n taken = (e : ℕ × LongAd) × Includes taken e × (HoldsCell w size e k n ⊎ Continues w e k n)

need_taken : (w : View) (size c : ℕ) (ds : List LongAd) (k n : ℕ) → NeedIn w size c ds k n → IsFor w size k n (taken_from size c ds)
need_taken w size c [] k n h = absurd h
need_taken w size c (d ∷ ds) k n (h, l, q) = subst (IsFor w size k n) (sym (taken-cons size c d ds ∙ ap (λ b. cond b ((c, d) ∷ taken_from size (c + covers d) ds) []) (takes_it size c d h l)))
    (go (need_taken w size (c + covers d) ds k n) q)
  where
    go : (NeedIn w size (c + covers d) ds k n → IsFor w size k n (taken_from size (c + covers d) ds))
        → (HoldsCell w size (c, d) k n ⊎ Continues w (c, d) k n) ⊎ NeedIn w size (c + covers d) ds k n → IsFor w size k n ((c, d) ∷ taken_from size (c + covers d) ds)
    go later (inl here) = ((c, d), inl refl, here)
    go later (inr more) = let r : IsFor w size k n (taken_from size (c + covers d) ds) = later more in (r.0, inr r.1, r.2)

taken_need : (w : View) (size c : ℕ) (ds : List LongAd) (k n : ℕ) → IsFor w size k n (taken_from size c ds) → NeedIn w size c ds k n
taken_need w size c [] k n (e, i, q) = absurd i
taken_need w size c (d ∷ ds) k n all = go (taken_need w size (c + covers d) ds k n) (takes size (c, d)) refl (subst (IsFor w size k n) (taken-cons size c d ds) all)
  where
    at : (nat_lt c size ≡ true) × (nat_lt 0 d.length ≡ true) → (HoldsCell w size (c, d) k n ⊎ Continues w (c, d) k n) ⊎ NeedIn w size (c + covers d) ds k n → NeedIn w size c (d ∷ ds) k n
    at t q = ((let h : suc c ≤ size = leb-true (suc c) size t.0 in omega (arith, h)), t.1, q)

    go : (IsFor w size k n (taken_from size (c + covers d) ds) → NeedIn w size (c + covers d) ds k n) → (b : Bool) → takes size (c, d) ≡ b
        → IsFor w size k n (cond b ((c, d) ∷ taken_from size (c + covers d) ds) []) → NeedIn w size c (d ∷ ds) k n
    go later true b (e, inl same, q) = at (it_takes (nat_lt c size) (nat_lt 0 d.length) b) (inl (subst (λ x. HoldsCell w size x k n ⊎ Continues w x k n) (sym same) q))
    go later true b (e, inr i, q) = at (it_takes (nat_lt c size) (nat_lt 0 d.length) b) (inr (later (e, i, q)))
    go later false b (e, i, q) = absurd i

to_needed : (w : View) (size : ℕ) (ds : List LongAd) (k n : ℕ) → NeedIn w size 0 ds k n → IsRecordedFor w size (used size ds) k n ⊎ IsContinuedFor w (used size ds) k n
unfolding used
to_needed w size ds k n h = go (need_taken w size 0 ds k n h)
  where
    go : IsFor w size k n (taken_from size 0 ds) → IsRecordedFor w size (taken_from size 0 ds) k n ⊎ IsContinuedFor w (taken_from size 0 ds) k n
    go (e, i, inl q) = inl (record { extent = e; is_taken = contained (taken_from size 0 ds) e i; is_recorded = q.0; from = q.1; to = q.2; place = q.3 })
    go (e, i, inr q) = inr (record { extent = e; is_taken = contained (taken_from size 0 ds) e i; continues = q.0; from = q.1; place = q.2 })

from_needed : (w : View) (size : ℕ) (ds : List LongAd) (k n : ℕ) → IsRecordedFor w size (used size ds) k n ⊎ IsContinuedFor w (used size ds) k n → NeedIn w size 0 ds k n
unfolding used
from_needed w size ds k n (inl q) = taken_need w size 0 ds k n (q.extent, included (taken_from size 0 ds) q.extent q.is_taken, inl (q.is_recorded, q.from, q.to, q.place))
from_needed w size ds k n (inr q) = taken_need w size 0 ds k n (q.extent, included (taken_from size 0 ds) q.extent q.is_taken, inr (q.continues, q.from, q.place))

-- embedded bytes are all there
no_gap : (b : ℕ) (xs : List ℕ) (k : ℕ) → IsMissingAt (map (λ x. Byte x (Some b)) xs) k → ⊥
no_gap b [] k (n, e) = let z : ⊥ = cc in z
no_gap b (x ∷ xs) zero (n, e) = let z : ⊥ = cc in z
no_gap b (x ∷ xs) (suc k) m = no_gap b xs k m

embedded_cells : (b : ℕ) (e : EntryFields) (part : List Cell) → embedded_body b e ≡ cells part → part ≡ map (λ x. Byte x (Some b)) (take e.size e.area)
embedded_cells b e part q = go (nat_le e.size (length e.area)) q
  where
    go : (x : Bool) → cond x (cells (map (λ x. Byte x (Some b)) (take e.size e.area))) (faulty_body Short) ≡ cells part → part ≡ map (λ x. Byte x (Some b)) (take e.size e.area)
    go true p = sym (cells-same (map (λ x. Byte x (Some b)) (take e.size e.area)) part p)
    go false p = no_cells Short part p

record Gaps (s w : View) (r : ℕ) (e : EntryFields) (part : List Cell) (k : ℕ) : Type 0 where
  names : (n : ℕ) → slice_get part k ≡ Some (Gap n) → (is_known (s.blocks n) ≡ false) × IsNeededFor w r e k n
  gaps : IsMissingAt part k ↔ ((n : ℕ) × (is_known (s.blocks n) ≡ false) × IsNeededFor w r e k n)

descriptors_fit : (s w : View) → IsPartOf s w → (r : ℕ) (e : EntryFields) → ChainFits s w (allocation_descriptors s r e) (allocation_descriptors w r e)
unfolding allocation_descriptors
descriptors_fit s w p r e = subst (λ t. ChainFits s w (chain (takes_tail s.profile) s e.form r 256 e.area) (chain t w e.form r 256 e.area)) (ap takes_tail p.profile)
    (chain_fits (takes_tail s.profile) s w p e.form r 256 e.area)

gaps_of : (s w : View) → IsPartOf s w → (r b : ℕ) (e : EntryFields) (whole part : List Cell) → body w r b e ≡ cells whole → body s r b e ≡ cells part → length part ≡ length whole
    → (k : ℕ) → Gaps s w r e part k
unfolding body
gaps_of s w p r b e whole part ew es len k = go (nat_eq e.form 3) refl ew es
  where
    f : ChainFits s w (allocation_descriptors s r e) (allocation_descriptors w r e)
    f = descriptors_fit s w p r e

    go : (x : Bool) → nat_eq e.form 3 ≡ x → cond x (embedded_body b e) (extents_body_by w e.form r e.size e.area) ≡ cells whole
        → cond x (embedded_body b e) (extents_body_by s e.form r e.size e.area) ≡ cells part → Gaps s w r e part k
    go true x qw qs = record {
      names = λ n m. absurd (no_gap b (take e.size e.area) k (subst (λ z. IsMissingAt z k) (embedded_cells b e part qs) (n, m)));
      gaps = (
        (λ m. absurd (no_gap b (take e.size e.area) k (subst (λ z. IsMissingAt z k) (embedded_cells b e part qs) m))),
        (λ (n, u, need). absurd (need.1 (eqb-true e.form 3 x))),
      );
    }
    go false x qw qs = record { names = needed; gaps = ((λ (n, m). let q : (is_known (s.blocks n) ≡ false) × IsNeededFor w r e k n = needed n m in (n, q.0, q.1)), open_if) }
      where
        fw : from w e.size (allocation_descriptors w r e).behind 0 ((allocation_descriptors s r e).all ++ f.rest) ≡ cells whole
        fw = ap (from w e.size (allocation_descriptors w r e).behind 0) (sym f.splits) ∙ sym (body-from w e.size (allocation_descriptors w r e)) ∙ counted_body w r e whole qw

        fs : from s e.size (allocation_descriptors s r e).behind 0 (allocation_descriptors s r e).all ≡ cells part
        fs = sym (body-from s e.size (allocation_descriptors s r e)) ∙ counted_body s r e part qs

        g : GapsAt s w e.size 0 ((allocation_descriptors s r e).all ++ f.rest) part k
        g = gaps_from s w p e.size (allocation_descriptors s r e).behind (allocation_descriptors w r e).behind f.rest 0 (allocation_descriptors s r e).all f.fits whole part fw fs k

        not_three : ¬ (e.form ≡ 3)
        not_three q = let t : nat_eq e.form 3 ≡ true = ap (λ z. nat_eq z 3) q in let z : ⊥ = cc in z

        long : length part ≡ e.size - 0
        long = len ∙ from-length w e.size (allocation_descriptors w r e).behind 0 ((allocation_descriptors s r e).all ++ f.rest) whole fw

        same : 0 + k ≡ k
        same = omega arith

        needed : (n : ℕ) → slice_get part k ≡ Some (Gap n) → (is_known (s.blocks n) ≡ false) × IsNeededFor w r e k n
        needed n m = let q : (is_known (s.blocks n) ≡ false) × NeedIn w e.size 0 ((allocation_descriptors s r e).all ++ f.rest) (0 + k) n = g.needed n m in
            let inside : k < length part = slice_get_within part k (Gap n) m in (
              q.0,
              (
                omega (arith, inside, long),
                not_three,
                to_needed w e.size (allocation_descriptors w r e).all k n (subst (λ z. NeedIn w e.size 0 z k n) (sym f.splits) (subst (λ z. NeedIn w e.size 0 ((allocation_descriptors s r e).all ++ f.rest) z n) same q.1)),
              ),
            )

        open_if : (n : ℕ) × (is_known (s.blocks n) ≡ false) × IsNeededFor w r e k n → IsMissingAt part k
        open_if (n, u, need) = g.open_if n u (let l : k < e.size = need.0 in omega (arith, l))
            (subst (λ z. NeedIn w e.size 0 ((allocation_descriptors s r e).all ++ f.rest) z n) (sym same) (subst (λ z. NeedIn w e.size 0 z k n) f.splits (from_needed w e.size (allocation_descriptors w r e).all k n need.2)))

pub partial_bodies : PartialBodies
partial_bodies s w p r b e whole q = let part : PartIs (body s r b e) whole = part_body s w p r b e whole q in record {
  part = part.part;
  is = part.is;
  cells_are = record {
    each = part.each;
    names = λ k. (gaps_of s w p r b e whole part.part q part.is (AllZip-length part.part whole part.each) k).names;
    gaps = λ k. (gaps_of s w p r b e whole part.part q part.is (AllZip-length part.part whole part.each) k).gaps;
  };
  inside = partial_directory w.profile part.part whole part.each;
}
