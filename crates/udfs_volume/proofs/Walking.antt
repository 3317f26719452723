-- The walk over the positions of a sequence.
use Rattle.std.proofs.Common.{◌≡◌, refl, sym, ◌∙◌, ap, ℕ, ◌+◌, ◌-◌, ◌<◌, true, false, List, [], ◌∷◌, ◌++◌, map, not, cond, ◌||◌, nat_eq, arith, append_assoc, append-nil, Some}
use Rattle.std.specs.Prelude.{suc}
use Rattle.std.specs.List.{range_with_len}
use Rattle.udfs_lattice.specs.Volumes.{Blocks}
use Rattle.udfs_volume.specs.declared.anchors.AnchorExtents.{AnchorExtents}
use Rattle.udfs_volume.specs.declared.faults.VolumeFault.{VolumeFault}
use Rattle.udfs_volume.specs.declared.faults.VolumeFault.TheVariants.{Extents, Pointer}
use Rattle.udfs_volume.specs.declared.profiles.Profile.{Profile}
use Rattle.udfs_volume.specs.Answers.{Answer, found, holes, faulty, and_then}
use Rattle.udfs_volume.specs.Sequence.{Descriptor, Position, unread, invalid, descriptor, position, goes_on, ended_by, read_positions, positions, anchor, are_extents_by, exchanged, reserve_sequence_by, sequence_by, sequence_at, shared}
use Rattle.udfs_volume.proofs.Positions.{before, read-on, read-stop}

-- position i of the two extents
abbrev pub row : Blocks → AnchorExtents → ℕ → Position
row T e i = position T (e.main.block + i) (e.reserve.block + i)

-- with descriptors that stand before
abbrev pub after : List Descriptor → Answer (List Descriptor) → Answer (List Descriptor)
after ds (found es) = found (ds ++ es)
after ds (holes ns) = holes ns
after ds (faulty f) = faulty f

pub unroll : {A : Type 0} (f : ℕ → A) (i n : ℕ) → i < n → map f (range_with_len i (n - i)) ≡ f i ∷ map f (range_with_len (i + 1) (n - (i + 1)))
unroll f i n h = let e : n - i ≡ suc (n - (i + 1)) = omega (arith, h) in ap (λ k. map f (range_with_len i k)) e

from_here : (f : ℕ → Position) (i n : ℕ) (ds : List Descriptor) (x : Answer (List Descriptor)) → i < n → after ds (read_positions (map f (range_with_len i (n - i)))) ≡ x
    → after ds (read_positions (f i ∷ map f (range_with_len (i + 1) (n - (i + 1))))) ≡ x
from_here f i n ds x h e = sym (ap (λ ps. after ds (read_positions ps)) (unroll f i n h)) ∙ e

stops : (f : ℕ → Position) (i n : ℕ) (ds : List Descriptor) (x : Answer (List Descriptor)) (p : Position) → i < n → p ≡ f i → goes_on p ≡ false
    → after ds (read_positions (map f (range_with_len i (n - i)))) ≡ x → x ≡ after ds (ended_by (Some p) [])
stops f i n ds x p h e g inv = sym (from_here f i n ds x h inv) ∙ ap (λ q. after ds (read_positions (q ∷ map f (range_with_len (i + 1) (n - (i + 1)))))) (sym e)
    ∙ ap (after ds) (read-stop p (map f (range_with_len (i + 1) (n - (i + 1)))) g)

-- neither copy is known
pub stops-unread : (f : ℕ → Position) (i n : ℕ) (ds : List Descriptor) (x : Answer (List Descriptor)) (ns : List ℕ) → i < n → unread ns ≡ f i
    → after ds (read_positions (map f (range_with_len i (n - i)))) ≡ x → x ≡ holes ns
stops-unread f i n ds x ns h e inv = stops f i n ds x (unread ns) h e refl inv

-- no descriptor
pub stops-invalid : (f : ℕ → Position) (i n : ℕ) (ds : List Descriptor) (x : Answer (List Descriptor)) → i < n → invalid ≡ f i
    → after ds (read_positions (map f (range_with_len i (n - i)))) ≡ x → x ≡ found ds
stops-invalid f i n ds x h e inv = stops f i n ds x invalid h e refl inv ∙ ap found (append-nil ds)

-- a pointer
pub stops-pointer : (f : ℕ → Position) (i n : ℕ) (ds : List Descriptor) (x : Answer (List Descriptor)) (d : Descriptor) → i < n → descriptor d ≡ f i → d.identifier ≡ 3
    → after ds (read_positions (map f (range_with_len i (n - i)))) ≡ x → x ≡ faulty Pointer
stops-pointer f i n ds x d h e is inv = stops f i n ds x (descriptor d) h e (ap (λ k. not (nat_eq k 8 || nat_eq k 3)) is) inv
    ∙ ap (λ k. after ds (cond (nat_eq k 3) (faulty Pointer) (found []))) is

-- a terminating descriptor
pub stops-end : (f : ℕ → Position) (i n : ℕ) (ds : List Descriptor) (x : Answer (List Descriptor)) (d : Descriptor) → i < n → descriptor d ≡ f i → d.identifier ≡ 8
    → after ds (read_positions (map f (range_with_len i (n - i)))) ≡ x → x ≡ found ds
stops-end f i n ds x d h e is inv = stops f i n ds x (descriptor d) h e (ap (λ k. not (nat_eq k 8 || nat_eq k 3)) is) inv
    ∙ ap (λ k. after ds (cond (nat_eq k 3) (faulty Pointer) (found []))) is ∙ ap found (append-nil ds)

after-before : (ds : List Descriptor) (d : Descriptor) (a : Answer (List Descriptor)) → after ds (before (descriptor d) a) ≡ after (ds ++ d ∷ []) a
after-before ds d (found es) = ap found (sym (append_assoc ds (d ∷ []) es))
after-before ds d (holes ns) = refl
after-before ds d (faulty f) = refl

-- any other descriptor
pub goes-on : (f : ℕ → Position) (i n : ℕ) (ds : List Descriptor) (x : Answer (List Descriptor)) (d : Descriptor) → i < n → descriptor d ≡ f i
    → nat_eq d.identifier 3 ≡ false → nat_eq d.identifier 8 ≡ false
    → after ds (read_positions (map f (range_with_len i (n - i)))) ≡ x → after (ds ++ d ∷ []) (read_positions (map f (range_with_len (i + 1) (n - (i + 1))))) ≡ x
goes-on f i n ds x d h e not3 not8 inv = sym (after-before ds d (read_positions rest)) ∙ sym (ap (after ds) (read-on (descriptor d) rest (λ k. not (not8 k || not3 k))))
    ∙ ap (λ q. after ds (read_positions (q ∷ rest))) e ∙ from_here f i n ds x h inv
  where
    rest : List Position
    rest = map f (range_with_len (i + 1) (n - (i + 1)))

-- ---- from the anchor on

pub sequence-holes : (profile : Profile) (T : Blocks) (last : ℕ) (ns : List ℕ) → anchor T last ≡ holes ns → sequence_by profile T last ≡ holes ns
unfolding sequence_by
sequence-holes profile T last ns h = ap (λ a. and_then a (sequence_at profile T last)) h

pub sequence_faulty : (profile : Profile) (T : Blocks) (last : ℕ) (f : VolumeFault) → anchor T last ≡ faulty f → sequence_by profile T last ≡ faulty f
unfolding sequence_by
sequence_faulty profile T last f h = ap (λ a. and_then a (sequence_at profile T last)) h

pub sequence-found : (profile : Profile) (T : Blocks) (last : ℕ) (e : AnchorExtents) → anchor T last ≡ found e → sequence_by profile T last ≡ sequence_at profile T last e
unfolding sequence_by
sequence-found profile T last e h = ap (λ a. and_then a (sequence_at profile T last)) h

-- the same with the roles of the extents exchanged

pub reserve-holes : (profile : Profile) (T : Blocks) (last : ℕ) (ns : List ℕ) → anchor T last ≡ holes ns → reserve_sequence_by profile T last ≡ holes ns
unfolding reserve_sequence_by
reserve-holes profile T last ns h = ap (λ a. and_then a (λ e. sequence_at profile T last (exchanged e))) h

pub reserve_faulty : (profile : Profile) (T : Blocks) (last : ℕ) (f : VolumeFault) → anchor T last ≡ faulty f → reserve_sequence_by profile T last ≡ faulty f
unfolding reserve_sequence_by
reserve_faulty profile T last f h = ap (λ a. and_then a (λ e. sequence_at profile T last (exchanged e))) h

pub reserve-found : (profile : Profile) (T : Blocks) (last : ℕ) (e : AnchorExtents) → anchor T last ≡ found e → reserve_sequence_by profile T last ≡ sequence_at profile T last (exchanged e)
unfolding reserve_sequence_by
reserve-found profile T last e h = ap (λ a. and_then a (λ e. sequence_at profile T last (exchanged e))) h

pub unfit : (profile : Profile) (T : Blocks) (last : ℕ) (e : AnchorExtents) → are_extents_by profile last e ≡ false → sequence_at profile T last e ≡ faulty Extents
unfit profile T last e b = ap (λ c. cond c (read_positions (positions T (shared e))) (faulty Extents)) b

pub fit : (profile : Profile) (T : Blocks) (last : ℕ) (e : AnchorExtents) → are_extents_by profile last e ≡ true → sequence_at profile T last e ≡ read_positions (positions T (shared e))
fit profile T last e b = ap (λ c. cond c (read_positions (positions T (shared e))) (faulty Extents)) b
