-- What the call `build` tells, by what the space is.
use Rattle.std.proofs.Common.{◌≡◌, sym, ◌∙◌, subst, ℕ, Bool, Option, Some, None, drop, map, List, [], ◌∷◌}
use Rattle.udfs_lattice.specs.Volumes.{Blocks, first_known, Volume, IsVolume, Agrees, complete}
use Rattle.udfs_tag.specs.Tags.{is_valid}
use Rattle.udfs_volume.specs.declared.profiles.Profile.{Profile}
use Rattle.udfs_volume.specs.declared.faults.VolumeFault.{VolumeFault}
use Rattle.udfs_volume.specs.declared.seen.Seen.{Seen}
use Rattle.udfs_volume.specs.declared.seen.Seen.TheVariants.{Got, Holes, Fault, OutOfMemory}
use Rattle.udfs_volume.specs.Answers.{Answer, found, holes, faulty, and_then, unless_fault}
use Rattle.udfs_volume.specs.Layout.{Layout, Partition, PartitionMap, type1, sparable, blocks_in, layout_by}
use Rattle.udfs_volume.specs.Laws.{IsBounded, ListsGroup, IsAnswerOf, the_same, unread}
use Rattle.udfs_volume.specs.Seen.{Sees, HolesRise, IfGot, IsRising}
use Rattle.udfs_volume.proofs.PublicLaws.{ascending_rises}
use Rattle.udfs_space.proofs.Facts.{found_same}
use Rattle.udfs_space.specs.declared.spaces.Space as code_space
use Rattle.udfs_space.specs.Laws.{IsLawfulSparing, IsSparingGroup}
use Rattle.std.specs.Prelude.{flat_map, ⊤}
use Rattle.udfs_space.specs.Sparing.{Space, Spared, copies, counted, place_of, sparing_table_bytes, space, span, spans, spared, spared_by, spared_from, spared_unless, sparing_fault, span_of, spared_in}
use Rattle.udfs_space.specs.Sparing.{unread as unread_in}
use Rattle.udfs_space.specs.Standard.{standard_space}
use Rattle.udfs_space.specs.Told.{ArePlacesUpTo, IsSpaceOf, TellsLawfulSpace}
use Rattle.udfs_space.proofs.PlaceLaw.{place_law, places_up_to}
use Rattle.udfs_space.proofs.Counting.{space_law, standard_space_law}

-- ---- a lawful volume
got_of : (profile : Profile) (T : Blocks) (V : Volume) (N : ℕ) (l : Layout) (got : Space) → IsVolume V N → layout_by profile (complete V N) N ≡ found l → IsLawfulSparing V N l → Agrees T V N → space T l ≡ found got
    → IsAnswerOf T [] [] (IsSparingGroup l.partitions) (space T l) (space (complete V N) l) → IsSpaceOf V N T l got
got_of profile T V N l got hv hl lw a is (the_same e known) =
    let all : space (complete V N) l ≡ found got = sym e ∙ is in
    record { whole = all; standard = found_same (standard_space V l) got (sym (standard_space_law profile V N l hv hl lw) ∙ all); known = known; part = place_law profile T V N l got hv hl all a }
got_of profile T V N l got hv hl lw a is (unread listed e lists) = absurd (let no : ⊥ = cc in no)

holes_of : (T : Blocks) (V : Volume) (N : ℕ) (l : Layout) (ns : List ℕ) → IsLawfulSparing V N l → space T l ≡ holes ns
    → IsAnswerOf T [] [] (IsSparingGroup l.partitions) (space T l) (space (complete V N) l) → ListsGroup T [] [] (IsSparingGroup l.partitions) ns
holes_of T V N l ns lw is (the_same e known) = absurd (let f : space (complete V N) l ≡ found lw.placed.0 = lw.placed.1 in let no : ⊥ = cc in no)
holes_of T V N l ns lw is (unread listed e lists) = let same : listed ≡ ns = cc in subst (ListsGroup T [] [] (IsSparingGroup l.partitions)) same lists

no_fault_of : (T : Blocks) (V : Volume) (N : ℕ) (l : Layout) (f : VolumeFault) → IsLawfulSparing V N l → space T l ≡ faulty f
    → IsAnswerOf T [] [] (IsSparingGroup l.partitions) (space T l) (space (complete V N) l) → ⊥
no_fault_of T V N l f lw is (the_same e known) = let q : space (complete V N) l ≡ found lw.placed.0 = lw.placed.1 in cc
no_fault_of T V N l f lw is (unread listed e lists) = cc

tells_lawful : (T : Blocks) (l : Layout) (seen : Seen code_space.Space) → Sees (λ s. s) seen (space T l) → TellsLawfulSpace T l seen
tells_lawful T l (Got got) s profile V N hv hl lw a = got_of profile T V N l got hv hl lw a s (space_law profile T V N l hv hl lw a)
tells_lawful T l (Holes blocks) s profile V N hv hl lw a = holes_of T V N l blocks.items lw s (space_law profile T V N l hv hl lw a)
tells_lawful T l (Fault fault) s profile V N hv hl lw a = no_fault_of T V N l fault lw s (space_law profile T V N l hv hl lw a)
tells_lawful T l OutOfMemory s profile V N hv hl lw a = tt

-- ---- holes rise
-- the answer's holes rise
abbrev Rises : {A : Type 0} → Answer A → Type 0
Rises (found x) = ⊤
Rises (holes blocks) = IsRising blocks
Rises (faulty fault) = ⊤

holes_rise : {A B : Type 0} (view : A → B) (seen : Seen A) (answer : Answer B) → Sees view seen answer → Rises answer → HolesRise seen
holes_rise view (Got x) answer s r = tt
holes_rise view (Holes blocks) answer s r = subst Rises s r
holes_rise view (Fault fault) answer s r = tt
holes_rise view OutOfMemory answer s r = tt

then_rises : {A B : Type 0} (a : Answer A) (f : A → Answer B) → Rises a → ((x : A) → Rises (f x)) → Rises (and_then a f)
then_rises (found x) f r g = g x
then_rises (holes ns) f r g = r
then_rises (faulty fault) f r g = tt

from_rises : (last packet size : ℕ) (valid : Bool) (content : List ℕ) → Rises (spared_from last packet size valid content)
from_rises last packet size valid content = go (sparing_fault last packet size valid content)
  where
    go : (o : Option VolumeFault) → Rises (unless_fault o (spared_in content))
    go None = tt
    go (Some f) = tt

unless_rises : (tables ks : List ℕ) (a : Answer Spared) → Rises a → Rises (spared_unless tables ks a)
unless_rises tables [] a r = r
unless_rises tables (k ∷ ks) a r = ascending_rises (flat_map (copies tables) (k ∷ ks))

spared_rises : (T : Blocks) (last : ℕ) (m : PartitionMap) → Rises (spared T last m)
unfolding spared
spared_rises T last type1 = tt
spared_rises T last (sparable packet size tables) = unless_rises tables (unread_in T tables (blocks_in size)) (spared_by T last packet size tables) (from_rises last packet size
    (is_valid (sparing_table_bytes T size tables) (place_of (first_known T (copies tables 0))) 0) (drop 16 (sparing_table_bytes T size tables)))

spans_rise : (T : Blocks) (last : ℕ) (ps : List Partition) → Rises (spans T last ps)
spans_rise T last [] = tt
spans_rise T last (p ∷ ps) = then_rises (span T last p) (λ s. and_then (spans T last ps) (λ ss. found (s ∷ ss)))
    (then_rises (spared T last p.kind) (λ s. found (span_of p s)) (spared_rises T last p.kind) (λ s. tt))
    (λ s. then_rises (spans T last ps) (λ ss. found (s ∷ ss)) (spans_rise T last ps) (λ ss. tt))

space_rises : (T : Blocks) (l : Layout) → Rises (space T l)
unfolding space
space_rises T l = then_rises (spans T l.last (map (counted l.profile T) l.partitions)) (λ ss. found (record { spans = ss; profile = l.profile })) (spans_rise T l.last (map (counted l.profile T) l.partitions)) (λ ss. tt)

got_up_to : (T : Blocks) (l : Layout) (seen : Seen code_space.Space) → IsBounded l.last l → Sees (λ s. s) seen (space T l) → IfGot seen (ArePlacesUpTo l.last)
got_up_to T l (Got got) bounds s = places_up_to T l got bounds s
got_up_to T l (Holes blocks) bounds s = tt
got_up_to T l (Fault fault) bounds s = tt
got_up_to T l OutOfMemory bounds s = tt

abbrev pub SpaceClauses : Blocks → Layout → Seen code_space.Space → Type 0
SpaceClauses T l seen = record { value : Sees (λ s. s) seen (space T l); lawful : TellsLawfulSpace T l seen; rising : HolesRise seen; within : IfGot seen (ArePlacesUpTo l.last) }

-- the same, by what it saw
pub space_clauses : (T : Blocks) (l : Layout) (seen : Seen code_space.Space) → IsBounded l.last l → Sees (λ s. s) seen (space T l)
    → SpaceClauses T l seen
space_clauses T l seen bounds s = record {
  value = s;
  lawful = tells_lawful T l seen s;
  rising = holes_rise (λ s. s) seen (space T l) s (space_rises T l);
  within = got_up_to T l seen bounds s;
}
