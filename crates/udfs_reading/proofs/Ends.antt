-- What an error says of the source: a field that was cut, or that broke its rule, at a place of the file.
use Rattle.std.proofs.Common.{◌≡◌, ℕ, ◌+◌, ◌%◌, ◌^◌, ◌<◌, List, [], ◌++◌, length, Option, refl, sym, ap, subst, ◌∙◌, append_assoc, append-nil, arith, inl, inr}
use Rattle.std.specs.Io.KnownBytes.{Consumes}
use Rattle.std.proofs.KnownBytes.{Consumes-trans}
use Rattle.udfs_reading.specs.declared.error.ReadingError.{ReadingError}
use Rattle.udfs_reading.specs.declared.error.ReadingFault.{ReadingFault}
use Rattle.udfs_reading.specs.declared.error.ReadingFault.TheVariants.{Magic, BlockSize, BlockNumber, Truncated, Trailing, Order, State, Io, OutOfMemory}
use Rattle.udfs_lattice.specs.Tables.{Table}
use Rattle.udfs_reading.specs.Field.{CutBy, CutsField, OverrunBy, Overruns, BlockFailsBy, BlockFails}
use Rattle.udfs_reading.specs.Format.{Format, Spot, AtMagic, AtBlockSize, AtCount, In, IsSpot, before, record_of, size_of, FaultHere, HasFault, bare}
use Rattle.udfs_reading.specs.Kind.{Kind, kind}
use Rattle.udfs_reading.specs.Outcome.{Explains, Ends, HeaderIsSound}

-- the fault of what stands at a place
pub fault_at : (F : Format) (place : Spot F.Place) (front got rest : List ℕ) (fault : ReadingFault) (number : ℕ) → IsSpot F place → before F place ≡ front ++ got → number ≡ record_of F place
    → FaultHere F place rest fault → HasFault F (front ++ (got ++ rest)) fault number
fault_at F place front got rest fault number is_place at which here =
    record {
      spot = place;
      is_spot = is_place;
      rest = rest;
      split = sym (append_assoc front got rest) ∙ ap (λ (l : List ℕ). l ++ rest) (sym at);
      here = here;
      which = which;
    }

explain_cut : (F : Format) (fault : ReadingFault) (place : Spot F.Place) (front got cut : List ℕ) (rest : Option (List ℕ)) (i j k number : ℕ) → IsSpot F place → before F place ≡ front ++ got → number ≡ record_of F place
    → length cut < size_of F place → j ≡ i → CutBy fault rest j k → Explains (kind F) (front ++ (got ++ cut)) rest i k fault number
explain_cut F Truncated place front got cut rest i j k number is_place at which short kept why =
    (why.1 ∙ kept, fault_at F place front got cut Truncated number is_place at which short, why.0)
explain_cut F Io place front got cut rest i j k number is_place at which short kept why =
    (why ∙ ap (λ n. (n + 1) % 2 ^ 64) kept, inl (fault_at F place front got cut Truncated number is_place at which short))
explain_cut F _ place front got cut rest i j k number is_place at which short kept why = absurd why

-- a field was cut at this place, after `got`
pub ends_cut : (F : Format) (place : Spot F.Place) (front got : List ℕ) {a b c : Option (List ℕ)} {i j k number : ℕ} {e : ReadingError} → IsSpot F place → before F place ≡ front ++ got → number ≡ record_of F place
    → Consumes a b got → j ≡ i → CutsField b c j k (size_of F place) number e → Ends (kind F) front a c i k e
ends_cut F place front got {a} {b} {c} {i} {j} {k} {number} {e} is_place at which given kept cut =
    record {
      got = got ++ cut.got;
      given = Consumes-trans a b c got cut.got given cut.given;
      why = explain_cut F e.fault place front got cut.got c i j k e.number is_place at (cut.which ∙ which) cut.short kept cut.why;
    }

-- the error of a later part
pub ends_after : (K : Kind) (front got : List ℕ) {a b c : Option (List ℕ)} {i j k : ℕ} {e : ReadingError} → Consumes a b got → j ≡ i → Ends K (front ++ got) b c j k e → Ends K front a c i k e
ends_after K front got {a} {b} {c} {i} {j} {k} {e} given kept h =
    record {
      got = got ++ h.got;
      given = Consumes-trans a b c got h.got given h.given;
      why = subst (λ (n : ℕ). Explains K (front ++ (got ++ h.got)) c n k e.fault e.number) kept (subst (λ (l : List ℕ). Explains K l c j k e.fault e.number) (append_assoc front got h.got) h.why);
    }

-- what a header alone says, any file with that header says
bare_here : (F : Format) (rest : List ℕ) (fault : ReadingFault) (spot : Spot ⊥) → IsSpot (bare F.magic) spot → FaultHere (bare F.magic) spot rest fault
    → (s : Spot F.Place) × IsSpot F s × (before F s ≡ before (bare F.magic) spot) × (record_of F s ≡ record_of (bare F.magic) spot) × FaultHere F s rest fault
bare_here F rest Truncated AtMagic is h = (AtMagic, tt, refl, refl, h)
bare_here F rest Magic AtMagic is h = (AtMagic, tt, refl, refl, h)
bare_here F rest _ AtMagic is h = absurd h.1
bare_here F rest Truncated AtBlockSize is h = (AtBlockSize, tt, refl, refl, h)
bare_here F rest BlockSize AtBlockSize is h = (AtBlockSize, tt, refl, refl, h)
bare_here F rest _ AtBlockSize is h = absurd h.1
bare_here F rest Truncated AtCount is h = (AtCount, tt, refl, refl, h)
bare_here F rest _ AtCount is h = absurd h.1
bare_here F rest fault (In p) is h = absurd p

pub bare_fault : (F : Format) (bytes : List ℕ) (fault : ReadingFault) (number : ℕ) → HasFault (bare F.magic) bytes fault number → HasFault F bytes fault number
bare_fault F bytes fault number h =
    let s = bare_here F h.rest fault h.spot h.is_spot h.here in
    record { spot = s.0; is_spot = s.1; rest = h.rest; split = h.split ∙ ap (λ (l : List ℕ). l ++ h.rest) (sym s.2); here = s.4; which = h.which ∙ sym s.3 }

explains_bare : (F : Format) (fault : ReadingFault) (got : List ℕ) (rest : Option (List ℕ)) (i j number : ℕ) → (fault ≡ OutOfMemory → ⊥) → Explains (kind (bare F.magic)) got rest i j fault number → Explains (kind F) got rest i j fault number
explains_bare F Truncated got rest i j number file h = (h.0, bare_fault F got Truncated number h.1, h.2)
explains_bare F Io got rest i j number file h = (h.0, elim h.1 [ inl f ↦ inl (bare_fault F got Truncated number f) | inr n ↦ absurd n.1 ])
explains_bare F OutOfMemory got rest i j number file h = absurd (file refl)
explains_bare F Magic got rest i j number file h = (h.0, bare_fault F got Magic number h.1)
explains_bare F BlockSize got rest i j number file h = (h.0, bare_fault F got BlockSize number h.1)
explains_bare F BlockNumber got rest i j number file h = (h.0, bare_fault F got BlockNumber number h.1)
explains_bare F Trailing got rest i j number file h = (h.0, bare_fault F got Trailing number h.1)
explains_bare F Order got rest i j number file h = (h.0, bare_fault F got Order number h.1)
explains_bare F State got rest i j number file h = (h.0, bare_fault F got State number h.1)

pub ends_bare : (F : Format) {front : List ℕ} {a b : Option (List ℕ)} {i j : ℕ} {e : ReadingError} → (e.fault ≡ OutOfMemory → ⊥) → Ends (kind (bare F.magic)) front a b i j e → Ends (kind F) front a b i j e
ends_bare F {front} {a} {b} {i} {j} {e} file h = record { got = h.got; given = h.given; why = explains_bare F e.fault (front ++ h.got) b i j e.number file h.why }

-- ---- where the end is due

explain_end : (F : Format) (fault : ReadingFault) (place : F.Place) (front got : List ℕ) (rest : Option (List ℕ)) (i j number : ℕ) (table : Table) → F.IsPlace place → F.before place ≡ front → number ≡ F.record_of place
    → F.size_of place ≡ 0 → (0 < length got → F.Breaks place got Trailing) → F.IsFile front number table → OverrunBy fault got i j → Explains (kind F) (front ++ got) rest i j fault number
explain_end F Trailing place front got rest i j number table is_place at which size breaks file why =
    (why.1, fault_at F (In place) front [] got Trailing number is_place (at ∙ sym (append-nil front)) which (omega (arith, size), breaks why.0))
explain_end F Io place front got rest i j number table is_place at which size breaks file why =
    (why.1, inr (table, subst (λ (l : List ℕ). F.IsFile l number table) (sym (ap (λ (l : List ℕ). front ++ l) why.0 ∙ append-nil front)) file))
explain_end F _ place front got rest i j number table is_place at which size breaks file why = absurd why

-- more came after a whole file, or the source failed there
pub ends_end : (F : Format) (place : F.Place) (front : List ℕ) (table : Table) {a b : Option (List ℕ)} {i j number : ℕ} {e : ReadingError} → F.IsPlace place → F.before place ≡ front → number ≡ F.record_of place
    → F.size_of place ≡ 0 → ((got : List ℕ) → 0 < length got → F.Breaks place got Trailing) → F.IsFile front number table → Overruns a b i j number e → Ends (kind F) front a b i j e
ends_end F place front table {a} {b} {i} {j} {number} {e} is_place at which size breaks file h =
    record {
      got = h.got;
      given = h.given;
      why = subst (Explains (kind F) (front ++ h.got) b i j e.fault) (sym h.which) (explain_end F e.fault place front h.got b i j number table is_place at which size (breaks h.got) file h.why);
    }

-- ---- the bytes of a block

explain_block : (F : Format) (fault : ReadingFault) (place : Spot F.Place) (front got cut : List ℕ) (rest : Option (List ℕ)) (i j k number : ℕ) → IsSpot F place → before F place ≡ front ++ got → number ≡ record_of F place
    → size_of F place ≡ 2048 → 0 < number → HeaderIsSound (kind F) (front ++ (got ++ cut)) → j ≡ i → BlockFailsBy fault cut rest j k → Explains (kind F) (front ++ (got ++ cut)) rest i k fault number
explain_block F OutOfMemory place front got cut rest i j k number is_place at which size some sound kept why = (why ∙ kept, sound, some)
explain_block F Truncated place front got cut rest i j k number is_place at which size some sound kept why = explain_cut F Truncated place front got cut rest i j k number is_place at which (rw size why.0) kept why.1
explain_block F Io place front got cut rest i j k number is_place at which size some sound kept why = explain_cut F Io place front got cut rest i j k number is_place at which (rw size why.0) kept why.1
explain_block F _ place front got cut rest i j k number is_place at which size some sound kept why = absurd why.1

pub ends_block : (F : Format) (place : Spot F.Place) (front got : List ℕ) {a b c : Option (List ℕ)} {i j k number : ℕ} {e : ReadingError} → IsSpot F place → before F place ≡ front ++ got → number ≡ record_of F place
    → size_of F place ≡ 2048 → 0 < number → ((cut : List ℕ) → HeaderIsSound (kind F) (front ++ (got ++ cut))) → Consumes a b got → j ≡ i → BlockFails b c j k number e → Ends (kind F) front a c i k e
ends_block F place front got {a} {b} {c} {i} {j} {k} {number} {e} is_place at which size some sound given kept h =
    record {
      got = got ++ h.got;
      given = Consumes-trans a b c got h.got given h.given;
      why = explain_block F e.fault place front got h.got c i j k e.number is_place at (h.which ∙ which) size (subst (λ (n : ℕ). 0 < n) (sym h.which) some) (sound h.got) kept h.why;
    }
