-- What was read of a packet so far, and what an error in it says of the source.
use Rattle.std.proofs.Common.{◌≡◌, ℕ, zero, suc, ◌+◌, ◌-◌, ◌/◌, ◌%◌, ◌^◌, ◌<◌, ◌≤◌, Bool, true, false, cond, List, [], ◌∷◌, ◌++◌, length, drop, Option, refl, sym, ap, subst, ◌∙◌, append_assoc, append-nil, arith, length-append, inl}
use Rattle.std.specs.Prelude.{◌==◌}
use Rattle.std.specs.List.{flat_map, AllByRecursion}
use Rattle.std.specs.Int.Bits.{bit_and}
use Rattle.std.specs.Io.KnownBytes.{Consumes}
use Rattle.std.proofs.KnownBytes.{Consumes-nil, Consumes-trans}
use Rattle.std.proofs.lemmas.List.{drop_at}
use Rattle.std.proofs.lemmas.List.Concat.{flat_map-append}
use Rattle.udfs_lattice.specs.declared.facts.Fact.TheVariants.{Unknown, Known, Conflict}
use Rattle.udfs_lattice.specs.States.{State, is_known, is_conflict}
use Rattle.udfs_lattice.specs.Tables.{Table, one_entry, join_tables}
use Rattle.udfs_lattice.specs.TableLaws.{join_tables-assoc, join_tables-empty_right}
use Rattle.udfs_lattice.specs.Records.{table_of_entries}
use Rattle.udfs_lattice.proofs.PublicLaws.{entry_added}
use Rattle.udfs_reading.specs.declared.error.ReadingError.{ReadingError}
use Rattle.udfs_reading.specs.declared.error.ReadingFault.{ReadingFault}
use Rattle.udfs_reading.specs.declared.error.ReadingFault.TheVariants.{Truncated, Io, OutOfMemory}
use Rattle.udfs_reading.specs.Field.{CutBy, CutsField, BlockFailsBy}
use Rattle.udfs_reading.specs.Format.{number, value_of, In}
use Rattle.udfs_reading.specs.Outcome.{Explains, Ends, HeaderIsSound}
use Rattle.udfs_reading.specs.PacketFile.{Packet, mask_of, content}
use Rattle.udfs_reading.specs.PacketReading.{IsHeld, Clash, AreMasks, size_of_blocks, packets_front, IsNextPacket, AtBlocks, packet_format, tables_v2, entry_at, listed, TakesPlace, PlaceFails, TakesStates}
use Rattle.udfs_reading.proofs.Numbers.{length-number, value_of-number}
use Rattle.udfs_reading.proofs.Ends.{fault_at}
use Rattle.udfs_reading.proofs.PacketMasks.{apart_half, halve, size_odd, size_even}
use Rattle.udfs_reading.proofs.PacketStates.{listed-append}
use Rattle.udfs_reading.proofs.JudgePackets.{header_is_sound}

-- ---- the masks

-- the end, or a fault, cuts the first mask, and so both
pub first_cut : {a b : Option (List ℕ)} {i j number : ℕ} {e : ReadingError} → CutsField a b i j 4 number e → CutsField a b i j 8 number e
first_cut h = record { got = h.got; given = h.given; short = (let short = h.short in omega arith); why = h.why; which = h.which }

-- or the second
pub second_cut : {a b c : Option (List ℕ)} {i j k which : ℕ} {e : ReadingError} (mask : ℕ) → Consumes a b (number mask) → j ≡ i → CutsField b c j k 4 which e → CutsField a c i k 8 which e
second_cut {a} {b} {c} {i} {j} {k} {which} {e} mask given kept h =
    record {
      got = number mask ++ h.got;
      given = Consumes-trans a b c (number mask) h.got given h.given;
      short = (let short = h.short in omega (arith, length-append (number mask) h.got, length-number mask));
      why = subst (λ (n : ℕ). CutBy e.fault c n k) kept h.why;
      which = h.which;
    }

-- whole masks that clash
pub clash_here : (K C : ℕ) → K < 2 ^ 32 → C < 2 ^ 32 → Clash K C → (8 ≤ length (number K ++ number C)) × Clash (value_of (number K ++ number C)) (value_of (drop 4 (number K ++ number C)))
clash_here K C fits also h =
    let first : value_of (number K ++ number C) ≡ K = value_of-number K (number C) fits in
    let alone : value_of (number C) ≡ C = ap value_of (sym (append-nil (number C))) ∙ value_of-number C [] also in
    let second : value_of (drop 4 (number K ++ number C)) ≡ C = ap value_of (drop_at (number K) (number C) 4 (length-number K)) ∙ alone in
    (omega (arith, length-append (number K) (number C), length-number K, length-number C), subst (λ (x : ℕ). Clash x (value_of (drop 4 (number K ++ number C)))) (sym first) (subst (λ (x : ℕ). Clash K x) (sym second) h))

-- ---- one bit after the other

bit_of : (x : ℕ) → x < 2 → cond (x == 1) 1 0 ≡ x
bit_of zero h = refl
bit_of (suc zero) h = refl
bit_of (suc (suc x)) h = absurd (omega arith)

other_bit : (x y : ℕ) → x < 2 → y < 2 → bit_and x y ≡ 0 → cond (cond (x == 1) false (y == 1)) 1 0 ≡ y
other_bit zero y h k apart = bit_of y k
other_bit (suc zero) zero h k apart = refl
other_bit (suc zero) (suc zero) h k apart = let e : 1 ≡ 0 = apart in absurd (omega arith)
other_bit (suc zero) (suc (suc y)) h k apart = absurd (omega arith)
other_bit (suc (suc x)) y h k apart = absurd (omega arith)

pub known_bit : (s : State) (k : ℕ) → is_known s ≡ (k % 2 == 1) → cond (is_known s) 1 0 ≡ k % 2
known_bit s k e = ap (λ (b : Bool). cond b 1 0) e ∙ bit_of (k % 2) (omega arith)

pub conflict_bit : (s : State) (k c : ℕ) → bit_and (k % 2) (c % 2) ≡ 0 → is_conflict s ≡ cond (k % 2 == 1) false (c % 2 == 1) → cond (is_conflict s) 1 0 ≡ c % 2
conflict_bit s k c apart e = ap (λ (b : Bool). cond b 1 0) e ∙ other_bit (k % 2) (c % 2) (omega arith) (omega arith) apart

-- the bytes of a block, and those of the bits after it
content_size : (s : State) (k : ℕ) → IsHeld s → cond (is_known s) 1 0 ≡ k % 2 → length (content s) + size_of_blocks (k / 2) ≡ size_of_blocks k
content_size Unknown k held e = let z = size_even k (sym e) in omega arith
content_size (Known bytes) k held e = let z = size_odd k (sym e) in let whole = held.whole in omega arith
content_size Conflict k held e = let z = size_even k (sym e) in omega arith

-- the state of one more block
entry_joined : (es : List (ℕ × State)) (n : ℕ) (s : State) → table_of_entries (es ++ (entry_at n s ++ [])) ≡ join_tables (table_of_entries es) (one_entry n s)
entry_joined es n Unknown = ap table_of_entries (append-nil es) ∙ sym (join_tables-empty_right (table_of_entries es))
entry_joined es n (Known bytes) = entry_added es n (Known bytes)
entry_joined es n Conflict = entry_added es n Conflict

-- the states of so many blocks were read and joined; k and c are what is left of the masks
pub record BlocksSoFar (old new : Option (List ℕ)) (block known conflict k c place : ℕ) (before after : Table) : Type 0 where
  pub taken : List State
  pub many : length taken ≡ place
  pub each : AllByRecursion IsHeld taken
  pub known_is : (rest : List State) → mask_of is_known rest ≡ k → mask_of is_known (taken ++ rest) ≡ known
  pub conflict_is : (rest : List State) → mask_of is_conflict rest ≡ c → mask_of is_conflict (taken ++ rest) ≡ conflict
  pub apart : bit_and k c ≡ 0
  pub few_known : k < 2 ^ (32 - place)
  pub few_conflict : c < 2 ^ (32 - place)
  pub size : length (flat_map content taken) + size_of_blocks k ≡ size_of_blocks known
  pub given : Consumes old new (flat_map content taken)
  pub put : after ≡ join_tables before (table_of_entries (listed block taken))

pub blocks_none : (a : Option (List ℕ)) (block known conflict : ℕ) (t : Table) → bit_and known conflict ≡ 0 → known < 2 ^ 32 → conflict < 2 ^ 32 → BlocksSoFar a a block known conflict known conflict 0 t t
blocks_none a block known conflict t apart few also =
    record {
      taken = [];
      many = refl;
      each = tt;
      known_is = λ rest e. e;
      conflict_is = λ rest e. e;
      apart = apart;
      few_known = few;
      few_conflict = also;
      size = omega arith;
      given = Consumes-nil a;
      put = sym (join_tables-empty_right t);
    }

each-push : (ss : List State) (s : State) → AllByRecursion IsHeld ss → IsHeld s → AllByRecursion IsHeld (ss ++ s ∷ [])
each-push [] s all h = (h, tt)
each-push (x ∷ ss) s all h = (all.0, each-push ss s all.1 h)

content-push : (ss : List State) (s : State) → flat_map content (ss ++ s ∷ []) ≡ flat_map content ss ++ content s
content-push ss s = flat_map-append content ss (s ∷ []) ∙ ap (λ (l : List ℕ). flat_map content ss ++ l) (append-nil (content s))

fewer : (k place : ℕ) → place < 32 → k < 2 ^ (32 - place) → k / 2 < 2 ^ (32 - (place + 1))
fewer k place lt h = let z : 32 - place ≡ suc (32 - (place + 1)) = omega arith in halve k (32 - (place + 1)) (subst (λ (m : ℕ). k < 2 ^ m) z h)

-- one more block
pub blocks_more : {a b d : Option (List ℕ)} {block known conflict k c place : ℕ} {t u v : Table} → place < 32 → BlocksSoFar a b block known conflict k c place t u
    → TakesPlace b d (block + place) (k % 2 == 1) (cond (k % 2 == 1) false (c % 2 == 1)) u v → BlocksSoFar a d block known conflict (k / 2) (c / 2) (place + 1) t v
blocks_more {a} {b} {d} {block} {known} {conflict} {k} {c} {place} {t} {u} {v} lt h p =
    let halves = apart_half k c h.apart in
    let one : cond (is_known p.taken) 1 0 ≡ k % 2 = known_bit p.taken k p.known_is in
    let two : cond (is_conflict p.taken) 1 0 ≡ c % 2 = conflict_bit p.taken k c halves.1 p.conflict_is in
    let many = h.many in
    let ss = h.taken in
    record {
      taken = ss ++ p.taken ∷ [];
      many = omega (arith, length-append ss (p.taken ∷ []));
      each = each-push ss p.taken h.each p.held;
      known_is = λ rest e. ap (mask_of is_known) (append_assoc ss (p.taken ∷ []) rest) ∙ h.known_is (p.taken ∷ rest) (omega arith);
      conflict_is = λ rest e. ap (mask_of is_conflict) (append_assoc ss (p.taken ∷ []) rest) ∙ h.conflict_is (p.taken ∷ rest) (omega arith);
      apart = halves.0;
      few_known = fewer k place lt h.few_known;
      few_conflict = fewer c place lt h.few_conflict;
      size = (let z = content_size p.taken k p.held one in let y = h.size in let x = ap length (content-push ss p.taken) in omega (arith, length-append (flat_map content ss) (content p.taken)));
      given = subst (Consumes a d) (sym (content-push ss p.taken)) (Consumes-trans a b d _ _ h.given p.given);
      put = p.put ∙ ap (λ (l : Table). join_tables l (one_entry (block + place) p.taken)) h.put
          ∙ join_tables-assoc t (table_of_entries (listed block ss)) (one_entry (block + place) p.taken)
          ∙ ap (join_tables t) (sym (ap table_of_entries (listed-append block ss (p.taken ∷ [])) ∙ ap (λ (m : ℕ). table_of_entries (listed block ss ++ (entry_at (block + m) p.taken ++ []))) many ∙ entry_joined (listed block ss) (block + place) p.taken));
    }

-- all 32 blocks
pub blocks_all : {a b : Option (List ℕ)} {block known conflict k c place : ℕ} {t u : Table} → place ≡ 32 → BlocksSoFar a b block known conflict k c place t u → TakesStates a b block known conflict t u
blocks_all {a} {b} {block} {known} {conflict} {k} {c} {place} {t} {u} e h =
    let few : k < 2 ^ (32 - 32) = subst (λ (m : ℕ). k < 2 ^ (32 - m)) e h.few_known in
    let also : c < 2 ^ (32 - 32) = subst (λ (m : ℕ). c < 2 ^ (32 - m)) e h.few_conflict in
    record {
      taken = h.taken;
      many = h.many ∙ e;
      each = h.each;
      known_is = ap (mask_of is_known) (sym (append-nil h.taken)) ∙ h.known_is [] (omega arith);
      conflict_is = ap (mask_of is_conflict) (sym (append-nil h.taken)) ∙ h.conflict_is [] (omega arith);
      given = h.given;
      put = h.put;
    }

-- ---- an error in a block

-- past the header, whatever came of the packet
pub packet_sound : (count : ℕ) (done : List Packet) (head got : List ℕ) (p : ℕ) → IsNextPacket count done p → HeaderIsSound tables_v2 ((packets_front count done ++ head) ++ got)
packet_sound count done head got p next =
    subst (HeaderIsSound tables_v2) (sym (append_assoc (packets_front count done) head got)) (header_is_sound count done (head ++ got) next.0)

abbrev blocks_front : ℕ → List Packet → ℕ → ℕ → ℕ → List ℕ
blocks_front count done p known conflict = packets_front count done ++ (number p ++ (number known ++ number conflict))

explain_place : (fault : ReadingFault) (count : ℕ) (done : List Packet) (p known conflict : ℕ) (blocks cut : List ℕ) (rest : Option (List ℕ)) (i j k which : ℕ) → IsNextPacket count done p → known < 2 ^ 32 → conflict < 2 ^ 32 → AreMasks known conflict
    → length done + 1 ≡ which → ((fault ≡ OutOfMemory → ⊥) → length cut < 2048 → length (blocks ++ cut) < size_of_blocks known) → j ≡ i → BlockFailsBy fault cut rest j k
    → Explains tables_v2 (blocks_front count done p known conflict ++ (blocks ++ cut)) rest i k fault which
explain_place OutOfMemory count done p known conflict blocks cut rest i j k which next few also masks at short kept why =
    (why ∙ kept, packet_sound count done _ (blocks ++ cut) p next, omega arith)
explain_place Truncated count done p known conflict blocks cut rest i j k which next few also masks at short kept why =
    let front = blocks_front count done p known conflict in
    (why.1.1 ∙ kept, fault_at packet_format (In (AtBlocks count done p known conflict)) front [] (blocks ++ cut) Truncated which (next, few, also, masks) (sym (append-nil front)) (sym at) (short (λ e. cc) why.0), why.1.0)
explain_place Io count done p known conflict blocks cut rest i j k which next few also masks at short kept why =
    let front = blocks_front count done p known conflict in
    (why.1 ∙ ap (λ n. (n + 1) % 2 ^ 64) kept, inl (fault_at packet_format (In (AtBlocks count done p known conflict)) front [] (blocks ++ cut) Truncated which (next, few, also, masks) (sym (append-nil front)) (sym at) (short (λ e. cc) why.0)))
explain_place _ count done p known conflict blocks cut rest i j k which next few also masks at short kept why = absurd why.1

true_bit : (k : ℕ) → (k % 2 == 1) ≡ true → k % 2 ≡ 1
true_bit k e = sym (bit_of (k % 2) (omega arith)) ∙ ap (λ (b : Bool). cond b 1 0) e

pub ends_place : {a b d : Option (List ℕ)} {i j l block known conflict k c place which : ℕ} {t u : Table} {e : ReadingError} (count : ℕ) (done : List Packet) (p : ℕ) → IsNextPacket count done p → known < 2 ^ 32 → conflict < 2 ^ 32 → AreMasks known conflict
    → length done + 1 ≡ which → BlocksSoFar a b block known conflict k c place t u → j ≡ i → PlaceFails b d j l which (k % 2 == 1) e → Ends tables_v2 (blocks_front count done p known conflict) a d i l e
ends_place {a} {b} {d} {i} {j} {l} {block} {known} {conflict} {k} {c} {place} {which} {t} {u} {e} count done p next few also masks at h kept f =
    let blocks = flat_map content h.taken in
    let size = h.size in
    record {
      got = blocks ++ f.fails.got;
      given = Consumes-trans a b d blocks f.fails.got h.given f.fails.given;
      why = explain_place e.fault count done p known conflict blocks f.fails.got d i j l e.number next few also masks (at ∙ sym f.fails.which)
          (λ other short. let z = size_odd k (true_bit k (f.due other)) in omega (arith, length-append blocks f.fails.got)) kept f.fails.why;
    }
