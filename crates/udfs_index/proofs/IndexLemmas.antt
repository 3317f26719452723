-- What an index took, step by step.
use Rattle.std.proofs.Common.{◌≡◌, ℕ, zero, suc, ◌+◌, ◌-◌, ◌/◌, ◌%◌, ◌^◌, ◌<◌, ◌==◌, Bool, true, false, cond, List, [], ◌∷◌, ◌++◌, length, take, drop, map, get_or, Option, None, Some, IfSome, refl, sym, ap, subst, ◌∙◌, arith, length-append}
use Rattle.std.specs.Borrow.{Bor}
use Rattle.std.specs.List.{slice_get}
use Rattle.std.specs.Str.{bytes_eq}
use Rattle.std.proofs.lemmas.List.{length-map, map-append}
use Rattle.std.proofs.lemmas.Bool.{eqb-true}
use lib.Seq.{drop-drop}
use Rattle.udfs_lattice.specs.declared.facts.Fact.TheVariants.{Unknown, Known, Conflict}
use Rattle.udfs_lattice.specs.States.{State, join_of, join_of-unknown}
use Rattle.udfs_lattice.specs.Tables.{AreForgotten, IsWithoutConflicts, Table, empty_table, is_named, join_tables, one_entry, state_of, without_conflict}
use Rattle.udfs_lattice.specs.TableLaws.{state_of-empty, state_of-join_tables, state_of-one_entry}
use Rattle.udfs_reading.specs.Places.{HasBlockAt}
use Rattle.udfs_index.specs.declared.packet.Packet.{Packet}
use Rattle.udfs_index.specs.Slots.{Slot, slot_at, settled, AreSlotsForgotten, AreSlotsSame, AreSlotsSet, AreSlotsSettled}
use Rattle.udfs_index.specs.Places.{behind, from_place, bytes_at, state_by, AreHeld, IsInside}
use Rattle.udfs_index.specs.Copying.{AreAllTold}
use Rattle.udfs_index.specs.Index.{contents_of, input_by, Took, IsFrontAt, IsAtPlace, IsPlaceOf}

-- nothing was taken
pub took_none : (packets : List Packet) → ((q : ℕ) → slot_at packets q ≡ Unknown) → Took [] packets empty_table
took_none packets none =
    record {
      inside = λ n. subst (IsInside 0) (sym (none n)) tt;
      says = λ wholes told n. state_of-empty n ∙ ap (state_by wholes) (sym (none n));
    }

-- the packets say what they said
pub took_same : {contents : List (Option (List ℕ))} {old new : List Packet} {t : Table} → AreSlotsSame old new → Took contents old t → Took contents new t
took_same {contents} {old} {new} {t} same h =
    record {
      inside = λ n. subst (IsInside (length contents)) (sym (same n)) (h.inside n);
      says = λ wholes told n. h.says wholes told n ∙ ap (state_by wholes) (sym (same n));
    }

inside_set : (k : ℕ) (slot other : Slot) (b : Bool) → IsInside k slot → IsInside k other → IsInside k (cond b slot other)
inside_set k slot other true h o = h
inside_set k slot other false h o = o

joined_at : (packets : List Packet) (block n : ℕ) (slot : Slot) (s x : State) (wholes : List (List ℕ)) → x ≡ state_by wholes (slot_at packets n) → join_of (state_by wholes (slot_at packets block)) s ≡ state_by wholes slot → (b : Bool) → (n == block) ≡ b
    → join_of x (cond b s Unknown) ≡ state_by wholes (cond b slot (slot_at packets n))
joined_at packets block n slot s x wholes was joined true is =
    ap (λ (y : State). join_of y s) (was ∙ ap (λ (k : ℕ). state_by wholes (slot_at packets k)) (eqb-true n block is)) ∙ joined
joined_at packets block n slot s x wholes was joined false is = join_of-unknown x ∙ was

-- a state was joined to that of a block
pub took_joined : {contents : List (Option (List ℕ))} {old new : List Packet} {t : Table} (block : ℕ) (slot : Slot) (s : State) → AreSlotsSet old block slot new → IsInside (length contents) slot
    → ((wholes : List (List ℕ)) → contents ≡ map Some wholes → join_of (state_by wholes (slot_at old block)) s ≡ state_by wholes slot)
    → Took contents old t → Took contents new (join_tables t (one_entry block s))
took_joined {contents} {old} {new} {t} block slot s set inside joined h =
    record {
      inside = λ n. subst (IsInside (length contents)) (sym (set n)) (inside_set (length contents) slot (slot_at old n) (n == block) inside (h.inside n));
      says = λ wholes told n.
          state_of-join_tables t (one_entry block s) n
          ∙ ap (join_of (state_of t n)) (state_of-one_entry block s n)
          ∙ joined_at old block n slot s (state_of t n) wholes (h.says wholes told n) (joined wholes told) (n == block) refl
          ∙ ap (state_by wholes) (sym (set n));
    }

unchanged_at : (packets : List Packet) (block n : ℕ) (b : Bool) → (n == block) ≡ b → slot_at packets n ≡ cond b (slot_at packets block) (slot_at packets n)
unchanged_at packets block n true is = ap (slot_at packets) (eqb-true n block is)
unchanged_at packets block n false is = refl

-- what is said of a block stays
pub unchanged : (packets : List Packet) (block : ℕ) (slot : Slot) → slot_at packets block ≡ slot → AreSlotsSet packets block slot packets
unchanged packets block slot is n = unchanged_at packets block n (n == block) refl ∙ ap (λ (x : Slot). cond (n == block) x (slot_at packets n)) is

-- ---- one more input
head_of : {A : Type 0} (x y : A) (xs ys : List A) → x ∷ xs ≡ y ∷ ys → x ≡ y
head_of x y xs ys e = let same : x ≡ y = cc in same

tail_of : {A : Type 0} (x y : A) (xs ys : List A) → x ∷ xs ≡ y ∷ ys → xs ≡ ys
tail_of x y xs ys e = let same : xs ≡ ys = cc in same

no_cons : {A : Type 0} (x : A) (xs : List A) → x ∷ xs ≡ [] → ⊥
no_cons x xs e = let no : ⊥ = cc in no

same_at : (w : List ℕ) (n : ℕ) (all front : List (List ℕ)) → ((i : ℕ) → i < n → get_or all i [] ≡ get_or front i []) → (i : ℕ) → i < suc n → get_or (w ∷ all) i [] ≡ get_or (w ∷ front) i []
same_at w n all front h zero lt = refl
same_at w n all front h (suc i) lt = h i (omega (arith, lt))

told_front : (contents : List (Option (List ℕ))) (c : Option (List ℕ)) (all : List (List ℕ)) → contents ++ c ∷ [] ≡ map Some all → (front : List (List ℕ)) × (contents ≡ map Some front) × ((i : ℕ) → i < length contents → get_or all i [] ≡ get_or front i [])
told_front [] c all e = ([], refl, λ i lt. absurd (omega (arith, lt)))
told_front (x ∷ contents) c [] e = absurd (no_cons x (contents ++ c ∷ []) e)
told_front (x ∷ contents) c (w ∷ all) e =
    let rest = told_front contents c all (tail_of x (Some w) (contents ++ c ∷ []) (map Some all) e) in
    (w ∷ rest.0, ap (λ (y : Option (List ℕ)). y ∷ contents) (head_of x (Some w) (contents ++ c ∷ []) (map Some all) e) ∙ ap (λ (l : List (Option (List ℕ))). Some w ∷ l) rest.1, same_at w (length contents) all rest.0 rest.2)

inside_more : (k m : ℕ) (slot : Slot) → k < m → IsInside k slot → IsInside m slot
inside_more k m Unknown more h = tt
inside_more k m (Known place) more h = omega (arith, more, h)
inside_more k m Conflict more h = tt

same_state : (k : ℕ) (all front : List (List ℕ)) (slot : Slot) → IsInside k slot → ((i : ℕ) → i < k → get_or all i [] ≡ get_or front i []) → state_by front slot ≡ state_by all slot
same_state k all front Unknown inside h = refl
same_state k all front (Known place) inside h = ap (λ (w : List ℕ). Known (take 2048 (drop (place % 2 ^ 44) w))) (sym (h (place / 2 ^ 44) inside))
same_state k all front Conflict inside h = refl

pub took_begun : {contents : List (Option (List ℕ))} {packets : List Packet} {t : Table} (c : Option (List ℕ)) → Took contents packets t → Took (contents ++ c ∷ []) packets t
took_begun {contents} {packets} {t} c h =
    let longer : length (contents ++ c ∷ []) ≡ length contents + 1 = length-append contents (c ∷ []) in
    record {
      inside = λ n. inside_more (length contents) (length (contents ++ c ∷ [])) (slot_at packets n) (omega (arith, longer)) (h.inside n);
      says = λ all told n.
          let front = told_front contents c all told in
          h.says front.0 front.1 n ∙ same_state (length contents) all front.0 (slot_at packets n) (h.inside n) front.2;
    }

-- ---- the bytes at a place
told_at : (contents : List (Option (List ℕ))) (wholes : List (List ℕ)) (i : ℕ) → contents ≡ map Some wholes → i < length contents → get_or contents i None ≡ Some (get_or wholes i [])
told_at [] wholes i e lt = absurd (omega (arith, lt))
told_at (x ∷ contents) [] i e lt = absurd (no_cons x contents e)
told_at (x ∷ contents) (w ∷ wholes) zero e lt = head_of x (Some w) contents (map Some wholes) e
told_at (x ∷ contents) (w ∷ wholes) (suc i) e lt = told_at contents wholes i (tail_of x (Some w) contents (map Some wholes) e) (omega (arith, lt))

-- what is taken stands at its place
pub stands_at : (contents : List (Option (List ℕ))) (begun : Option ℕ) (at place : ℕ) (bytes : List ℕ) → IsPlaceOf (length contents) begun at place → HasBlockAt (input_by contents begun) at bytes
    → (wholes : List (List ℕ)) → contents ≡ map Some wholes → bytes_at wholes place ≡ bytes
stands_at contents begun at place bytes p has wholes told =
    let some = p.some in
    let last = told_at contents wholes (length contents - 1) told (omega (arith, some)) in
    let w = get_or wholes (length contents - 1) [] in
    let here : HasBlockAt (input_by contents (Some p.base)) at bytes = subst (λ (o : Option ℕ). HasBlockAt (input_by contents o) at bytes) p.from has in
    let stands : take 2048 (drop at (drop p.base w)) ≡ bytes = subst (λ (o : Option (List ℕ)). HasBlockAt (behind p.base o) at bytes) last here in
    ap (λ (k : ℕ). take 2048 (drop (place % 2 ^ 44) (get_or wholes k []))) p.input
    ∙ ap (λ (k : ℕ). take 2048 (drop k w)) p.offset
    ∙ ap (take 2048) (sym (drop-drop at p.base w)) ∙ stands

-- a block of which nothing was known has its place now
pub took_kept : {S : Type 0} (content : S → Option (List ℕ)) (inputs : List (Bor S)) (begun : Option ℕ) (block at place : ℕ) (bytes : List ℕ) {old new : List Packet} {t : Table} → slot_at old block ≡ Unknown → AreSlotsSet old block (Known place) new
    → IsPlaceOf (length inputs) begun at place → HasBlockAt (input_by (contents_of content inputs) begun) at bytes → Took (contents_of content inputs) old t → Took (contents_of content inputs) new (join_tables t (one_entry block (Known bytes)))
took_kept {S} content inputs begun block at place bytes {old} {new} {t} unknown set p has h =
    let contents = contents_of content inputs in
    let many : length contents ≡ length inputs = length-map inputs (λ (i : Bor S). content i.now) in
    let q : IsPlaceOf (length contents) begun at place = subst (λ (k : ℕ). IsPlaceOf k begun at place) (sym many) p in
    let some = q.some in
    let input = q.input in
    took_joined block (Known place) (Known bytes) set (omega (arith, some, input))
    (λ wholes told. ap (λ (s : Slot). join_of (state_by wholes s) (Known bytes)) unknown ∙ ap Known (sym (stands_at contents begun at place bytes q has wholes told))) h

-- ---- what stands at a place
same_ref : {S : Type 0} (x s : Bor S) → Some x ≡ Some s → x ≡ s
same_ref x s e = let same : x ≡ s = cc in same

content_at : {S : Type 0} (content : S → Option (List ℕ)) (inputs : List (Bor S)) (wholes : List (List ℕ)) (i : ℕ) (s : Bor S) → slice_get inputs i ≡ Some s → contents_of content inputs ≡ map Some wholes → content s.now ≡ Some (get_or wholes i [])
content_at {S} content [] wholes i s got told = let no : ⊥ = cc in absurd no
content_at {S} content (x ∷ inputs) [] i s got told = absurd (no_cons (content x.now) (contents_of content inputs) told)
content_at {S} content (x ∷ inputs) (w ∷ wholes) zero s got told =
    subst (λ (y : Bor S). content y.now ≡ Some w) (same_ref x s got) (head_of (content x.now) (Some w) (contents_of content inputs) (map Some wholes) told)
content_at {S} content (x ∷ inputs) (w ∷ wholes) (suc i) s got told = content_at content inputs wholes i s got (tail_of (content x.now) (Some w) (contents_of content inputs) (map Some wholes) told)

-- what was read from a place on stands there
pub read_at_place : {S : Type 0} (content : S → Option (List ℕ)) (inputs : List (Bor S)) (place : ℕ) (s : Bor S) (there : List ℕ) → slice_get inputs (place / 2 ^ 44) ≡ Some s → IfSome (content s.now) (λ all. there ≡ take (length there) (drop (place % 2 ^ 44) all)) → IsFrontAt (contents_of content inputs) place there
read_at_place {S} content inputs place s there got read wholes told =
    subst (λ (o : Option (List ℕ)). IfSome o (λ all. there ≡ take (length there) (drop (place % 2 ^ 44) all))) (content_at content inputs wholes (place / 2 ^ 44) s got told) read

pub looked : (contents : List (Option (List ℕ))) (place : ℕ) (there : List ℕ) → length there ≡ 2048 → IsFrontAt contents place there → IsAtPlace contents place there
looked contents place there whole read wholes told = ap (λ (k : ℕ). take k (from_place wholes place)) (sym whole) ∙ sym (read wholes told)

joined_same : (x there bytes : List ℕ) → x ≡ there → bytes_eq there bytes ≡ true → join_of (Known x) (Known bytes) ≡ Known x
joined_same x there bytes e h = ap (λ (r : Bool). cond r (Known x) Conflict) (ap (λ (y : List ℕ). bytes_eq y bytes) e ∙ h)

joined_other : (x there bytes : List ℕ) → x ≡ there → bytes_eq there bytes ≡ false → join_of (Known x) (Known bytes) ≡ Conflict
joined_other x there bytes e h = ap (λ (r : Bool). cond r (Known x) Conflict) (ap (λ (y : List ℕ). bytes_eq y bytes) e ∙ h)

-- the same bytes came again
pub took_again : {contents : List (Option (List ℕ))} {packets : List Packet} {t : Table} (block place : ℕ) (there bytes : List ℕ) → slot_at packets block ≡ Known place → IsAtPlace contents place there → bytes_eq there bytes ≡ true
    → Took contents packets t → Took contents packets (join_tables t (one_entry block (Known bytes)))
took_again {contents} {packets} {t} block place there bytes is at same h =
    took_joined block (Known place) (Known bytes) (unchanged packets block (Known place) is) (subst (IsInside (length contents)) is (h.inside block))
    (λ wholes told. ap (λ (s : Slot). join_of (state_by wholes s) (Known bytes)) is ∙ joined_same (bytes_at wholes place) there bytes (at wholes told) same) h

-- other bytes came
pub took_other : {contents : List (Option (List ℕ))} {old new : List Packet} {t : Table} (block place : ℕ) (there bytes : List ℕ) → slot_at old block ≡ Known place → IsAtPlace contents place there → bytes_eq there bytes ≡ false → AreSlotsSet old block Conflict new
    → Took contents old t → Took contents new (join_tables t (one_entry block (Known bytes)))
took_other {contents} {old} {new} {t} block place there bytes is at other set h =
    took_joined block Conflict (Known bytes) set tt
    (λ wholes told. ap (λ (s : Slot). join_of (state_by wholes s) (Known bytes)) is ∙ joined_other (bytes_at wholes place) there bytes (at wholes told) other) h

-- bytes came of a block in conflict
pub took_more : {contents : List (Option (List ℕ))} {packets : List Packet} {t : Table} (block : ℕ) (s : State) → slot_at packets block ≡ Conflict → Took contents packets t → Took contents packets (join_tables t (one_entry block s))
took_more {contents} {packets} {t} block s is h =
    took_joined block Conflict s (unchanged packets block Conflict is) tt (λ wholes told. ap (λ (x : Slot). join_of (state_by wholes x) s) is) h

with_conflict : (s : State) → join_of s Conflict ≡ Conflict
with_conflict Unknown = refl
with_conflict (Known a) = refl
with_conflict Conflict = refl

-- a block was told to be in conflict
pub took_conflict : {contents : List (Option (List ℕ))} {old new : List Packet} {t : Table} (block : ℕ) → AreSlotsSet old block Conflict new → Took contents old t → Took contents new (join_tables t (one_entry block Conflict))
took_conflict {contents} {old} {new} {t} block set h = took_joined block Conflict Conflict set tt (λ wholes told. with_conflict (state_by wholes (slot_at old block))) h

-- one more input was begun
pub took_pushed : {S : Type 0} (content : S → Option (List ℕ)) (old new : List (Bor S)) (s : Bor S) {packets : List Packet} {t : Table} → new ≡ old ++ s ∷ [] → Took (contents_of content old) packets t → Took (contents_of content new) packets t
took_pushed {S} content old new s {packets} {t} is h =
    subst (λ (l : List (Bor S)). Took (contents_of content l) packets t) (sym is)
    (subst (λ (l : List (Option (List ℕ))). Took l packets t) (sym (map-append (λ (i : Bor S). content i.now) old (s ∷ []))) (took_begun (content s.now) h))

-- where all inputs of the kind tell their bytes, these do
pub told_all : {S : Type 0} (content : S → Option (List ℕ)) (inputs : List (Bor S)) → AreAllTold content → (wholes : List (List ℕ)) × (contents_of content inputs ≡ map Some wholes)
told_all {S} content [] told = ([], refl)
told_all {S} content (x ∷ inputs) told =
    let rest = told_all content inputs told in
    let first = told x.now in
    (first.0 ∷ rest.0, ap (λ (o : Option (List ℕ)). o ∷ contents_of content inputs) first.1 ∙ ap (λ (l : List (Option (List ℕ))). Some first.0 ∷ l) rest.1)

-- an input that ends before does not hold so many bytes
pub not_held : {S : Type 0} (content : S → Option (List ℕ)) (inputs : List (Bor S)) (wholes : List (List ℕ)) (place size : ℕ) (s : Bor S) → slice_get inputs (place / 2 ^ 44) ≡ Some s → contents_of content inputs ≡ map Some wholes → IfSome (content s.now) (λ all. length all < place % 2 ^ 44 + size) → AreHeld wholes place size → ⊥
not_held {S} content inputs wholes place size s got told short held =
    let less : length (get_or wholes (place / 2 ^ 44) []) < place % 2 ^ 44 + size = subst (λ (o : Option (List ℕ)). IfSome o (λ all. length all < place % 2 ^ 44 + size)) (content_at content inputs wholes (place / 2 ^ 44) s got told) short in
    omega (arith, less, held)

inside_unless : (k : ℕ) (slot : Slot) (b : Bool) → IsInside k slot → IsInside k (cond b Unknown slot)
inside_unless k slot true h = tt
inside_unless k slot false h = h

state_unless : (wholes : List (List ℕ)) (slot : Slot) (b : Bool) → cond b Unknown (state_by wholes slot) ≡ state_by wholes (cond b Unknown slot)
state_unless wholes slot true = refl
state_unless wholes slot false = refl

-- some blocks were forgotten
pub took_forgotten : {contents : List (Option (List ℕ))} {old new : List Packet} {t u : Table} (blocks : List ℕ) → AreSlotsForgotten old blocks new → AreForgotten t blocks u → Took contents old t → Took contents new u
took_forgotten {contents} {old} {new} {t} {u} blocks set left h =
    record {
      inside = λ n. subst (IsInside (length contents)) (sym (set n)) (inside_unless (length contents) (slot_at old n) (is_named blocks n) (h.inside n));
      says = λ wholes told n. left n ∙ ap (cond (is_named blocks n) Unknown) (h.says wholes told n) ∙ state_unless wholes (slot_at old n) (is_named blocks n) ∙ ap (state_by wholes) (sym (set n));
    }

inside_settled : (k : ℕ) (slot : Slot) → IsInside k slot → IsInside k (settled slot)
inside_settled k Unknown h = tt
inside_settled k (Known place) h = h
inside_settled k Conflict h = tt

state_settled : (wholes : List (List ℕ)) (slot : Slot) → without_conflict (state_by wholes slot) ≡ state_by wholes (settled slot)
state_settled wholes Unknown = refl
state_settled wholes (Known place) = refl
state_settled wholes Conflict = refl

-- those in conflict were
pub took_settled : {contents : List (Option (List ℕ))} {old new : List Packet} {t u : Table} → AreSlotsSettled old new → IsWithoutConflicts t u → Took contents old t → Took contents new u
took_settled {contents} {old} {new} {t} {u} set left h =
    record {
      inside = λ n. subst (IsInside (length contents)) (sym (set n)) (inside_settled (length contents) (slot_at old n) (h.inside n));
      says = λ wholes told n. left n ∙ ap without_conflict (h.says wholes told n) ∙ state_settled wholes (slot_at old n) ∙ ap (state_by wholes) (sym (set n));
    }
