-- Of a lawful volume the reserve sequence gives what the main one gives, so that the main one counts.
use Rattle.std.proofs.Common.{◌≡◌, refl, sym, ◌∙◌, ap, inl, ℕ, ◌+◌, ◌/◌, ◌<◌, ◌≤◌, Bool, true, false, cond, ◌&&◌, arith, List, [], map, nat_le}
use Rattle.std.specs.Prelude.{⊤}
use Rattle.std.specs.List.{range_with_len}
use Rattle.std.proofs.lemmas.Bool.{leb-true, leb-false}
use Rattle.udfs_lattice.specs.Volumes.{Blocks, Volume, complete}
use Rattle.udfs_volume.specs.declared.anchors.AnchorExtents.{AnchorExtents}
use Rattle.udfs_volume.specs.declared.faults.VolumeFault.TheVariants.{Extents}
use Rattle.udfs_volume.specs.declared.profiles.Profile.{Profile}
use Rattle.udfs_volume.specs.declared.profiles.Profile.TheVariants.{Strict, Wide}
use Rattle.udfs_volume.specs.Answers.{Answer, found, faulty, and_then}
use Rattle.udfs_volume.specs.Laws.{IsAnswerOf, IsLawfulLayoutBy, IsSequenceGroup, LayoutLawBy, MainLayoutBy, the_same, valid_anchors}
use Rattle.udfs_volume.specs.Laws.IsAnswerOf.{unread as unread_answer}
use Rattle.udfs_volume.specs.Layout.{Layout, layout_by, layout_of, main_layout_by, or_reserve, reserve_layout_by}
use Rattle.udfs_volume.specs.Sequence.{anchor, anchor_places, are_extents_by, exchanged, extents_of, is_extent, positions, read_positions, reserve_sequence_by, sequence_at, sequence_by, shared, shorter}
use Rattle.udfs_volume.proofs.Choosing.{or_found, or_holes, twice}
use Rattle.udfs_volume.proofs.Known.{both, complete-known}
use Rattle.udfs_volume.proofs.LayoutLaw.{Alike, ReadsAlike, all_same, one_unread, Through, complete_anchor, count, main_fits, main_law, needed_at, needs, reads_alike, row, through_end}
use Rattle.udfs_volume.proofs.Needed.{needed}
use Rattle.udfs_volume.proofs.NeededLayouts.{layout_by_needed, reads_needed}
use Rattle.udfs_volume.proofs.Positions.{main_is, same_described}

-- ---- the extents with their roles exchanged
shorter_exchanged : (e : AnchorExtents) → shorter (exchanged e) ≡ shorter e
shorter_exchanged e = go (nat_le e.reserve.length e.main.length) refl (nat_le e.main.length e.reserve.length) refl
  where
    go : (a : Bool) → nat_le e.reserve.length e.main.length ≡ a → (b : Bool) → nat_le e.main.length e.reserve.length ≡ b
        → cond a e.reserve.length e.main.length ≡ cond b e.main.length e.reserve.length
    go true p true q = let l : e.reserve.length ≤ e.main.length = leb-true e.reserve.length e.main.length p in
        let m : e.main.length ≤ e.reserve.length = leb-true e.main.length e.reserve.length q in omega (arith, l, m)
    go true p false q = refl
    go false p true q = refl
    go false p false q = absurd (let l : e.main.length < e.reserve.length = leb-false e.reserve.length e.main.length p in
        let m : e.reserve.length < e.main.length = leb-false e.main.length e.reserve.length q in let z : ⊥ = omega (arith, l, m) in z)

extents_exchanged : (N : ℕ) (e : AnchorExtents) → are_extents_by Wide N e ≡ true → are_extents_by Wide N (exchanged e) ≡ true
extents_exchanged N e b = let p : (is_extent N e.main ≡ true) × (is_extent N e.reserve ≡ true) = both (is_extent N e.main) (is_extent N e.reserve) b in
    λ i. p.1 i && p.0 i

reserve_at : (T : Blocks) (N : ℕ) (e : AnchorExtents) → anchor T N ≡ found e → are_extents_by Wide N (exchanged e) ≡ true
    → reserve_layout_by Wide T N ≡ and_then (read_positions (map (needs T (exchanged e)) (range_with_len 0 (count e)))) (layout_of Wide N)
unfolding reserve_layout_by reserve_sequence_by
reserve_at T N e q b = ap (λ x. and_then (and_then x (λ e. sequence_at Wide T N (exchanged e))) (layout_of Wide N)) q
    ∙ ap (λ c. and_then (cond c (read_positions (positions T (shared (exchanged e)))) (faulty Extents)) (layout_of Wide N)) b
    ∙ sym (layout_by_needed Wide N (read_positions (positions T (shared (exchanged e)))))
    ∙ sym (ap (λ x. and_then x (layout_of Wide N)) (reads_needed (row T (exchanged e)) (range_with_len 0 (count (exchanged e)))))
    ∙ ap (λ n. and_then (read_positions (map (needs T (exchanged e)) (range_with_len 0 (n / 2048)))) (layout_of Wide N)) (shorter_exchanged e)

-- ---- over a lawful volume both rows of positions are the same
rows_same : (V : Volume) (N : ℕ) → IsLawfulLayoutBy Wide V N → (e : AnchorExtents) → anchor (complete V N) N ≡ found e → are_extents_by Wide N e ≡ true
    → read_positions (map (needs (complete V N) (exchanged e)) (range_with_len 0 (count e))) ≡ read_positions (map (needs (complete V N) e) (range_with_len 0 (count e)))
rows_same V N lw e q b = done (reads_alike (needs C (exchanged e)) (needs C e) (λ i. []) (λ i. ⊤) (λ i. ⊥) 0 (count e) each)
  where
    C : Blocks
    C = complete V N

    fits : (i : ℕ) → i < 0 + count e → (e.main.block + i ≤ N) × (e.reserve.block + i ≤ N)
    fits i h = let m : e.main.block + shorter e / 2048 ≤ N + 1 = main_fits Wide N e b in
        let r : e.reserve.block + shorter (exchanged e) / 2048 ≤ N + 1 = main_fits Wide N (exchanged e) (extents_exchanged N e b) in
        let s : shorter (exchanged e) ≡ shorter e = shorter_exchanged e in
        (omega (arith, m, h), reserve_fits (shorter (exchanged e)) (shorter e) s r h)
      where
        reserve_fits : (a b : ℕ) → a ≡ b → e.reserve.block + a / 2048 ≤ N + 1 → i < 0 + b / 2048 → e.reserve.block + i ≤ N
        reserve_fits a b s r h = omega (arith, s, r, h)

    each : (i : ℕ) → Through (needs C e) 0 (count e) i → Alike (needs C (exchanged e)) (needs C e) (λ i. []) (λ i. ⊤) (λ i. ⊥) i
    each i t = let m = e.main.block + i in let r = e.reserve.block + i in let f : (m ≤ N) × (r ≤ N) = fits i t.1 in
        inl (
          ap needed (main_is C V r m (complete-known V N r f.1)) ∙ same_described V m r (lw.copies e i q (through_end V N e i t))
              ∙ sym (ap needed (main_is C V m r (complete-known V N m f.0))),
          tt,
        )

    done : ReadsAlike (needs C (exchanged e)) (needs C e) (λ i. []) (λ i. ⊤) (λ i. ⊥) 0 (count e)
        → read_positions (map (needs C (exchanged e)) (range_with_len 0 (count e))) ≡ read_positions (map (needs C e) (range_with_len 0 (count e)))
    done (all_same is all) = is
    done (one_unread i t is u) = absurd u

-- extents that are not taken are a fault in both roles
unfit : (profile : Profile) (T : Blocks) (N : ℕ) (e : AnchorExtents) → anchor T N ≡ found e → are_extents_by profile N e ≡ false → main_layout_by profile T N ≡ faulty Extents
unfolding main_layout_by sequence_by
unfit profile T N e q b = ap (λ x. and_then (and_then x (sequence_at profile T N)) (layout_of profile N)) q
    ∙ ap (λ c. and_then (cond c (read_positions (positions T (shared e))) (faulty Extents)) (layout_of profile N)) b

-- what is found of a lawful volume with all known is what the main sequence gives
wide_of_lawful : (V : Volume) (N : ℕ) → IsLawfulLayoutBy Wide V N → (e : AnchorExtents) → anchor (complete V N) N ≡ found e → (l : Layout)
    → or_reserve Wide (main_layout_by Wide (complete V N) N) (reserve_layout_by Wide (complete V N) N) ≡ found l → main_layout_by Wide (complete V N) N ≡ found l
wide_of_lawful V N lw e q l h = go (are_extents_by Wide N e) refl
  where
    C : Blocks
    C = complete V N

    go : (b : Bool) → are_extents_by Wide N e ≡ b → main_layout_by Wide C N ≡ found l
    go false b = absurd (let f : faulty Extents ≡ found l = ap (λ x. or_reserve Wide x (reserve_layout_by Wide C N)) (sym (unfit Wide C N e q b)) ∙ h in let z : ⊥ = cc in z)
    go true b = let same : reserve_layout_by Wide C N ≡ main_layout_by Wide C N = reserve_at C N e q (extents_exchanged N e b)
        ∙ ap (λ x. and_then x (layout_of Wide N)) (rows_same V N lw e q b) ∙ sym (needed_at Wide C N e q b) in
        sym (twice Wide (main_layout_by Wide C N)) ∙ ap (or_reserve Wide (main_layout_by Wide C N)) (sym same) ∙ h

pub main_of_lawful : (profile : Profile) (V : Volume) (N : ℕ) → 513 ≤ N → (lw : IsLawfulLayoutBy profile V N) → main_layout_by profile (complete V N) N ≡ found lw.laid_out.0
unfolding layout_by
main_of_lawful Strict V N h lw = lw.laid_out.1
main_of_lawful Wide V N h lw = let c = complete_anchor Wide V N h lw in wide_of_lawful V N lw (extents_of (V c.0)) c.2 lw.laid_out.0 lw.laid_out.1

-- ---- so what counts over a table that agrees is what the main sequence gives
answers : (profile : Profile) (M : Blocks) (V : Volume) (N : ℕ) (l : Layout) → main_layout_by profile (complete V N) N ≡ found l
    → IsAnswerOf M (valid_anchors V N) (anchor_places N) (IsSequenceGroup V N) (main_layout_by profile M N) (main_layout_by profile (complete V N) N)
    → layout_by profile M N ≡ main_layout_by profile M N
unfolding layout_by
answers profile M V N l laid (the_same e known) = or_found profile (main_layout_by profile M N) (reserve_layout_by profile M N) l (e ∙ laid) ∙ sym (e ∙ laid)
answers profile M V N l laid (unread_answer listed e lists) = or_holes profile (main_layout_by profile M N) (reserve_layout_by profile M N) listed e ∙ sym e

pub main_counts : (profile : Profile) → MainLayoutBy profile
main_counts profile M V N hv lw a = let laid = main_of_lawful profile V N hv.from lw in
    answers profile M V N lw.laid_out.0 laid (main_law profile M V N hv lw a lw.laid_out.0 laid)

-- and with all known it is found
pub whole_is_main : (profile : Profile) (V : Volume) (N : ℕ) → 513 ≤ N → (lw : IsLawfulLayoutBy profile V N) → main_layout_by profile (complete V N) N ≡ layout_by profile (complete V N) N
whole_is_main profile V N h lw = main_of_lawful profile V N h lw ∙ sym lw.laid_out.1

in_both : (M : Blocks) (anchors places : List ℕ) (G : List ℕ → Type 0) (some all some' all' : Answer Layout) → some' ≡ some → all ≡ all' → IsAnswerOf M anchors places G some all → IsAnswerOf M anchors places G some' all'
in_both M anchors places G some all some' all' p q (the_same e known) = the_same (p ∙ e ∙ q) known
in_both M anchors places G some all some' all' p q (unread_answer listed e lists) = unread_answer listed (p ∙ e) lists

pub layout_law : (profile : Profile) → LayoutLawBy profile
layout_law profile M V N hv lw a = in_both M (valid_anchors V N) (anchor_places N) (IsSequenceGroup V N) (main_layout_by profile M N) (main_layout_by profile (complete V N) N)
    (layout_by profile M N) (layout_by profile (complete V N) N) (main_counts profile M V N hv lw a) (whole_is_main profile V N hv.from lw)
    (main_law profile M V N hv lw a lw.laid_out.0 (main_of_lawful profile V N hv.from lw))
