-- A position of which a copy is known is the volume's; and what a list of positions gives.
use Rattle.std.proofs.Common.{◌≡◌, refl, sym, ◌∙◌, ap, inl, inr, ℕ, ◌≤◌, Bool, true, false, List, [], ◌∷◌, length, drop, cond, Option, Some, None, slice_get, nat_eq}
use Rattle.std.specs.Prelude.{take_while}
use Rattle.std.proofs.lemmas.List.Sums.{take_while-cons}
use Rattle.udfs_lattice.specs.States.{is_known, State}
use Rattle.udfs_lattice.specs.Volumes.{Blocks, first_known, first_known_by, ascending, Volume, Agrees, complete}
use Rattle.udfs_lattice.proofs.Inclusion.{Includes}
use Rattle.udfs_lattice.specs.declared.facts.Fact.TheVariants.{Unknown, Known, Conflict}
use Rattle.udfs_tag.specs.Tags.{is_sound, identifier}
use Rattle.udfs_volume.specs.Answers.{Answer, found, holes, faulty}
use Rattle.udfs_volume.specs.declared.faults.VolumeFault.TheVariants.{Pointer}
use Rattle.udfs_volume.specs.Sequence.{Position, Descriptor, unread, invalid, descriptor, position, position_of, goes_on, cons_descriptor, descriptors, ended_by, read_positions}
use Rattle.udfs_volume.specs.Laws.{SaysTheSame, is_of_layout}
use Rattle.udfs_volume.proofs.Needed.{needed, needed_else}
use Rattle.udfs_volume.proofs.Known.{complete-known, known_is, true_false}

-- a position as the layout needs it is the volume's, and one of its copies is known; or neither is
pub data PositionIs (M : Blocks) (V : Volume) (N m r : ℕ) : Type 0 where
  same : needed (position M m r) ≡ needed (position (complete V N) m r) → (n : ℕ) → Includes (m ∷ r ∷ []) n → M n ≡ Known (V n) → PositionIs M V N m r
  neither : position M m r ≡ unread (ascending (m ∷ r ∷ [])) → is_known (M m) ≡ false → is_known (M r) ≡ false → PositionIs M V N m r

-- what stands at a block that is known
abbrev pub described : Volume → ℕ → Position
described V n = cond (is_sound (V n) n) (descriptor (record { identifier = identifier (V n); content = drop 16 (V n) })) invalid

pub same_described : (V : Volume) (m r : ℕ) → SaysTheSame V m r → needed (described V r) ≡ needed (described V m)
same_described V m r s = go (is_sound (V m) m) refl
  where
    at : ℕ → Position
    at n = descriptor (record { identifier = identifier (V n); content = drop 16 (V n) })

    by : (b : Bool) → is_of_layout (identifier (V m)) ≡ b → is_sound (V m) m ≡ true → needed (at r) ≡ needed (at m)
    by true q e = let x : identifier (V m) ≡ identifier (V r) = s.identifiers e in let y : drop 16 (V m) ≡ drop 16 (V r) = s.contents e q in
        λ i. needed (descriptor (record { identifier = sym x i; content = sym y i }))
    by false q e = let x : identifier (V m) ≡ identifier (V r) = s.identifiers e in
        ap (λ n. needed (descriptor (record { identifier = n; content = drop 16 (V r) }))) (sym x)
        ∙ needed_else (identifier (V m)) (drop 16 (V r)) (drop 16 (V m)) q

    go : (b : Bool) → is_sound (V m) m ≡ b → needed (described V r) ≡ needed (described V m)
    go true e = ap (λ b. needed (cond b (at r) invalid)) (sym s.soundness ∙ e)
        ∙ by (is_of_layout (identifier (V m))) refl e
        ∙ sym (ap (λ b. needed (cond b (at m) invalid)) e)
    go false e = ap (λ b. needed (cond b (at r) invalid)) (sym s.soundness ∙ e)
        ∙ sym (ap (λ b. needed (cond b (at m) invalid)) e)

pub main_is : (T : Blocks) (V : Volume) (m r : ℕ) → T m ≡ Known (V m) → position T m r ≡ described V m
unfolding position
main_is T V m r e = ap (λ s. position_of (m ∷ r ∷ []) (first_known_by m s (first_known T (r ∷ [])))) e

main_unread : (T : Blocks) (m r : ℕ) → is_known (T m) ≡ false → position T m r ≡ position_of (m ∷ r ∷ []) (first_known T (r ∷ []))
unfolding position
main_unread T m r e = go (T m) refl
  where
    go : (s : State) → T m ≡ s → position T m r ≡ position_of (m ∷ r ∷ []) (first_known T (r ∷ []))
    go Unknown q = ap (λ s. position_of (m ∷ r ∷ []) (first_known_by m s (first_known T (r ∷ [])))) q
    go (Known bytes) q = true_false (is_known (T m)) (ap is_known q) e
    go Conflict q = ap (λ s. position_of (m ∷ r ∷ []) (first_known_by m s (first_known T (r ∷ [])))) q

reserve_is : (T : Blocks) (V : Volume) (m r : ℕ) → is_known (T m) ≡ false → T r ≡ Known (V r) → position T m r ≡ described V r
reserve_is T V m r u e = main_unread T m r u ∙ ap (λ s. position_of (m ∷ r ∷ []) (first_known_by r s None)) e

reserve_unread : (T : Blocks) (m r : ℕ) → is_known (T m) ≡ false → is_known (T r) ≡ false → position T m r ≡ unread (ascending (m ∷ r ∷ []))
reserve_unread T m r u v = main_unread T m r u ∙ go (T r) refl
  where
    go : (s : State) → T r ≡ s → position_of (m ∷ r ∷ []) (first_known T (r ∷ [])) ≡ unread (ascending (m ∷ r ∷ []))
    go Unknown q = ap (λ s. position_of (m ∷ r ∷ []) (first_known_by r s None)) q
    go (Known bytes) q = true_false (is_known (T r)) (ap is_known q) v
    go Conflict q = ap (λ s. position_of (m ∷ r ∷ []) (first_known_by r s None)) q

pub position_lem : (M : Blocks) (V : Volume) (N : ℕ) → Agrees M V N → (m r : ℕ) → m ≤ N → SaysTheSame V m r → PositionIs M V N m r
position_lem M V N a m r fits says = at_main (M m) refl
  where
    whole : position (complete V N) m r ≡ described V m
    whole = main_is (complete V N) V m r (complete-known V N m fits)

    at_reserve : is_known (M m) ≡ false → (s : State) → M r ≡ s → PositionIs M V N m r
    at_reserve u Unknown q = neither (reserve_unread M m r u (ap is_known q)) u (ap is_known q)
    at_reserve u (Known bytes) q = let k : M r ≡ Known (V r) = known_is M V N a r bytes q in
        same (ap needed (reserve_is M V m r u k) ∙ same_described V m r says ∙ sym (ap needed whole)) r (inr (inl refl)) k
    at_reserve u Conflict q = neither (reserve_unread M m r u (ap is_known q)) u (ap is_known q)

    at_main : (s : State) → M m ≡ s → PositionIs M V N m r
    at_main Unknown q = at_reserve (ap is_known q) (M r) refl
    at_main (Known bytes) q = let k : M m ≡ Known (V m) = known_is M V N a m bytes q in same (ap needed (main_is M V m r k ∙ sym whole)) m (inl refl) k
    at_main Conflict q = at_reserve (ap is_known q) (M r) refl

-- a descriptor that goes on stands before what follows
abbrev pub before : Position → Answer (List Descriptor) → Answer (List Descriptor)
before p (found ds) = found (cons_descriptor p ds)
before p (holes ns) = holes ns
before p (faulty f) = faulty f

abbrev read_by : List Position → List Position → Answer (List Descriptor)
read_by all front = ended_by (slice_get all (length front)) (descriptors front)

ended-cons : (p : Position) (stop : Option Position) (ds : List Descriptor) → ended_by stop (cons_descriptor p ds) ≡ before p (ended_by stop ds)
ended-cons p None ds = refl
ended-cons p (Some (unread ns)) ds = refl
ended-cons p (Some invalid) ds = refl
ended-cons p (Some (descriptor d)) ds = go (nat_eq d.identifier 3)
  where
    go : (b : Bool) → cond b (faulty Pointer) (found (cons_descriptor p ds)) ≡ before p (cond b (faulty Pointer) (found ds))
    go true = refl
    go false = refl

pub read-on : (p : Position) (ps : List Position) → goes_on p ≡ true → read_positions (p ∷ ps) ≡ before p (read_positions ps)
read-on p ps g = ap (read_by (p ∷ ps)) (take_while-cons goes_on p ps ∙ ap (λ b. cond b (p ∷ take_while goes_on ps) []) g)
    ∙ ended-cons p (slice_get ps (length (take_while goes_on ps))) (descriptors (take_while goes_on ps))

pub read-stop : (p : Position) (ps : List Position) → goes_on p ≡ false → read_positions (p ∷ ps) ≡ ended_by (Some p) []
read-stop p ps g = ap (read_by (p ∷ ps)) (take_while-cons goes_on p ps ∙ ap (λ b. cond b (p ∷ take_while goes_on ps) []) g)
