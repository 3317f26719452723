-- Holes are ascending, each once.
use Rattle.std.proofs.Common.{◌≡◌, refl, sym, subst, inl, inr, ◌⊎◌, ℕ, ◌+◌, ◌-◌, ◌<◌, ◌≤◌, Bool, true, false, not, List, [], ◌∷◌, filter, map, cond, arith, Option, Some, None, nat_eq, nat_lt, ◌==◌}
use Rattle.std.specs.Prelude.{⊤}
use Rattle.std.proofs.lemmas.Bool.{ltb-true, ltb-false, eqb-false}
use Rattle.udfs_lattice.specs.States.{is_known}
use Rattle.udfs_lattice.specs.Volumes.{Blocks, first_known, not_known, insert_once, ascending}
use Rattle.udfs_lattice.proofs.Inclusion.{Includes, included, contained, in_nothing}
use Rattle.udfs_tag.specs.Tags.{is_sound}
use Rattle.udfs_volume.specs.declared.anchors.AnchorExtents.{AnchorExtents}
use Rattle.udfs_volume.specs.declared.faults.VolumeFault.TheVariants.{Extents, Pointer}
use Rattle.udfs_volume.specs.declared.seen.Seen.{Seen}
use Rattle.udfs_volume.specs.declared.seen.Seen.TheVariants.{Got, Holes, Fault, OutOfMemory}
use Rattle.udfs_volume.specs.declared.profiles.Profile.{Profile}
use Rattle.udfs_volume.specs.Answers.{Answer, found, holes, faulty, and_then}
use Rattle.udfs_volume.specs.Seen.{Sees, IsRising, HolesRise}
use Rattle.udfs_volume.specs.Sequence.{Bytes, Descriptor, Position, unread, invalid, descriptor, anchor, anchor_or, anchor_places, first_anchor, position, position_of, positions, goes_on, read_positions, ended_by, are_extents_by, sequence_at, sequence_by, shared}
use Rattle.udfs_volume.proofs.Known.{Includes-from_filter}
use Rattle.udfs_volume.proofs.Positions.{before, read-on, read-stop}

-- ---- lists

pub rising_filter : (test : ℕ → Bool) (ns : List ℕ) → IsRising ns → IsRising (filter test ns)
rising_filter test [] r = tt
rising_filter test (n ∷ ns) r = go (rising_filter test ns r.1) (test n)
  where
    go : IsRising (filter test ns) → (b : Bool) → IsRising (cond b (n ∷ filter test ns) (filter test ns))
    go later true = (λ m i. r.0 m (contained ns m (Includes-from_filter test ns m (included (filter test ns) m i)).0), later)
    go later false = later

-- where a number is inserted
inserted : (n x : ℕ) (ms : List ℕ) → Includes (insert_once n ms) x → (n ≡ x) ⊎ Includes ms x
inserted n x [] h = h
inserted n x (m ∷ ms) h = go (λ i. inserted n x ms i) (nat_lt n m) (n == m) h
  where
    behind : (n ≡ x) ⊎ Includes ms x → (n ≡ x) ⊎ Includes (m ∷ ms) x
    behind (inl e) = inl e
    behind (inr i) = inr (inr i)

    go : (Includes (insert_once n ms) x → (n ≡ x) ⊎ Includes ms x) → (b c : Bool)
        → Includes (cond b (n ∷ m ∷ ms) (cond c (m ∷ ms) (m ∷ insert_once n ms))) x → (n ≡ x) ⊎ Includes (m ∷ ms) x
    go later true c h = h
    go later false true h = inr h
    go later false false (inl e) = inr (inl e)
    go later false false (inr i) = behind (later i)

rising_inserted : (n : ℕ) (ms : List ℕ) → IsRising ms → IsRising (insert_once n ms)
rising_inserted n [] r = (λ m i. in_nothing m i, tt)
rising_inserted n (m ∷ ms) r = go (rising_inserted n ms r.1) (nat_lt n m) (n == m) refl refl
  where
    above : n < m → (x : ℕ) → Includes (m ∷ ms) x → n < x
    above h x (inl e) = subst (λ y. n < y) e h
    above h x (inr i) = let next : m < x = r.0 x (contained ms x i) in omega (arith, h, next)

    below : m < n → (x : ℕ) → (n ≡ x) ⊎ Includes ms x → m < x
    below h x (inl e) = subst (λ y. m < y) e h
    below h x (inr i) = r.0 x (contained ms x i)

    passes : nat_lt n m ≡ false → (n == m) ≡ false → m < n
    passes p q = let least : m ≤ n = ltb-false n m p in let other : n ≡ m → ⊥ = eqb-false n m q in omega (arith, least, other)

    go : IsRising (insert_once n ms) → (b c : Bool) → nat_lt n m ≡ b → (n == m) ≡ c → IsRising (cond b (n ∷ m ∷ ms) (cond c (m ∷ ms) (m ∷ insert_once n ms)))
    go later true c p q = (λ x i. above (ltb-true n m p) x (included (m ∷ ms) x i), r)
    go later false true p q = r
    go later false false p q = (λ x i. below (passes p q) x (inserted n x ms (included (insert_once n ms) x i)), later)

pub rising_ascending : (ns : List ℕ) → IsRising (ascending ns)
rising_ascending [] = tt
rising_ascending (n ∷ ns) = rising_inserted n (ascending ns) (rising_ascending ns)

-- ---- answers

-- the answer's holes rise
abbrev pub Rises : {A : Type 0} → Answer A → Type 0
Rises (found x) = ⊤
Rises (holes blocks) = IsRising blocks
Rises (faulty fault) = ⊤

pub holes_rise : {A B : Type 0} (view : A → B) (seen : Seen A) (answer : Answer B) → Sees view seen answer → Rises answer → HolesRise seen
holes_rise view (Got x) answer s r = tt
holes_rise view (Holes blocks) answer s r = subst Rises s r
holes_rise view (Fault fault) answer s r = tt
holes_rise view OutOfMemory answer s r = tt

rises_and_then : {A B : Type 0} (answer : Answer A) (f : A → Answer B) → Rises answer → ((x : A) → Rises (f x)) → Rises (and_then answer f)
rises_and_then (found x) f r all = all x
rises_and_then (holes blocks) f r all = r
rises_and_then (faulty fault) f r all = tt

rising_places : (last : ℕ) → 513 ≤ last → IsRising (anchor_places last)
rising_places last from = (λ m i. first m (included ((last - 256) ∷ last ∷ []) m i), (λ m i. second m (included (last ∷ []) m i), (λ m i. in_nothing m i, tt)))
  where
    first : (m : ℕ) → Includes ((last - 256) ∷ last ∷ []) m → 256 < m
    first m (inl e) = omega (arith, from, e)
    first m (inr (inl e)) = omega (arith, from, e)
    first m (inr (inr none)) = absurd none

    second : (m : ℕ) → Includes (last ∷ []) m → last - 256 < m
    second m (inl e) = omega (arith, from, e)
    second m (inr none) = absurd none

rises_or : (o : Option Bytes) (ns : List ℕ) → IsRising ns → Rises (anchor_or o ns)
rises_or (Some bytes) ns r = tt
rises_or None [] r = tt
rises_or None (n ∷ ns) r = r

pub anchor_rises : (T : Blocks) (last : ℕ) → 513 ≤ last → Rises (anchor T last)
unfolding anchor
anchor_rises T last from = rises_or (first_anchor T (anchor_places last)) (not_known T (anchor_places last))
    (rising_filter (λ n. not (is_known (T n))) (anchor_places last) (rising_places last from))

-- the copies of a position that is not known rise
abbrev CopiesRise : Position → Type 0
CopiesRise (unread copies) = IsRising copies
CopiesRise invalid = ⊤
CopiesRise (descriptor d) = ⊤

position_rises : (T : Blocks) (main reserve : ℕ) → CopiesRise (position T main reserve)
unfolding position
position_rises T main reserve = go (first_known T (main ∷ reserve ∷ []))
  where
    by : (b : Bool) (d : Descriptor) → CopiesRise (cond b (descriptor d) invalid)
    by true d = tt
    by false d = tt

    go : (o : Option (ℕ × Bytes)) → CopiesRise (position_of (main ∷ reserve ∷ []) o)
    go None = rising_ascending (main ∷ reserve ∷ [])
    go (Some known) = by (is_sound known.1 known.0) _

abbrev AllRise : List Position → Type 0
AllRise [] = ⊤
AllRise (p ∷ ps) = CopiesRise p × AllRise ps

all_rise : (f : ℕ → Position) → ((i : ℕ) → CopiesRise (f i)) → (is : List ℕ) → AllRise (map f is)
all_rise f each [] = tt
all_rise f each (i ∷ is) = (each i, all_rise f each is)

rises_before : (p : Position) (a : Answer (List Descriptor)) → Rises a → Rises (before p a)
rises_before p (found ds) r = tt
rises_before p (holes ns) r = r
rises_before p (faulty f) r = tt

rises_ended : (p : Position) → CopiesRise p → Rises (ended_by (Some p) [])
rises_ended (unread copies) r = r
rises_ended invalid r = tt
rises_ended (descriptor d) r = go (nat_eq d.identifier 3)
  where
    go : (b : Bool) → Rises {A = List Descriptor} (cond b (faulty Pointer) (found []))
    go true = tt
    go false = tt

read_rises : (ps : List Position) → AllRise ps → Rises (read_positions ps)
read_rises [] all = tt
read_rises (p ∷ ps) all = go (read_rises ps all.1) (goes_on p) refl
  where
    go : Rises (read_positions ps) → (b : Bool) → goes_on p ≡ b → Rises (read_positions (p ∷ ps))
    go later true e = subst Rises (sym (read-on p ps e)) (rises_before p (read_positions ps) later)
    go later false e = subst Rises (sym (read-stop p ps e)) (rises_ended p all.0)

sequence_at_rises : (profile : Profile) (T : Blocks) (last : ℕ) (e : AnchorExtents) → Rises (sequence_at profile T last e)
sequence_at_rises profile T last e = go (are_extents_by profile last e)
  where
    go : (b : Bool) → Rises (cond b (read_positions (positions T (shared e))) (faulty Extents))
    go true = read_rises (positions T (shared e)) (all_rise _ (λ i. position_rises T (e.main.block + i) (e.reserve.block + i)) _)
    go false = tt

pub sequence_rises : (profile : Profile) (T : Blocks) (last : ℕ) → 513 ≤ last → Rises (sequence_by profile T last)
unfolding sequence_by
sequence_rises profile T last from = rises_and_then (anchor T last) (sequence_at profile T last) (anchor_rises T last from) (sequence_at_rises profile T last)
