-- The laws of witnesses.
use Rattle.std.proofs.Common.{◌≡◌, ◌≤◌, ◌<◌, ◌⊎◌, ◌+◌, ◌-◌, ℕ, zero, suc, List, [], ◌∷◌, ◌++◌, length, Bool, true, false, cond, arith, inl, inr, refl, sym, ap, subst, ◌∙◌, ◌≢◌, length-append}
use Rattle.std.specs.Prelude.{Contains, filter, nat_le, nat_lt, ◌==◌, ◌&&◌}
use Rattle.std.proofs.Math.Nat.{div-le_of_le-mul, mul-le-mul_right}
use Rattle.std.proofs.lemmas.Bool.{leb-true, le-leb, eqb-true, eqb-false}
use Rattle.std.proofs.lemmas.List.Elements.{Contains-append_left, Contains-append_right}
use Rattle.std.proofs.lemmas.List.Sums.{length-filter, count_by-le-length}
use Rattle.udfs_lattice.specs.States.{State, is_known}
use Rattle.udfs_lattice.specs.Volumes.{Blocks, ascending, insert_once}
use Rattle.udfs_lattice.proofs.Inclusion.{Includes, contained, included}
use Rattle.udfs_lattice.proofs.PublicLaws.{ascending_contains}
use Rattle.udfs_volume.proofs.Known.{both}
use Rattle.udfs_volume.proofs.PublicLaws.{ascending_rises}
use Rattle.udfs_lattice.specs.declared.facts.Fact.TheVariants.{Unknown, Known, Conflict}
use Rattle.udfs_volume.specs.Answers.{Answer, found, holes, faulty}
use Rattle.udfs_volume.specs.Sequence.{anchor, anchor_places}
use Rattle.udfs_volume.specs.declared.anchors.AnchorExtents.{AnchorExtents}
use Rattle.udfs_witnesses.specs.Laws.{NamedAreWitnesses, SpreadAreWitnesses, WitnessesAreFew, WitnessesAreKnown, WitnessesRise}
use Rattle.udfs_witnesses.specs.Witnesses.{descriptor_from, descriptors_in, first_of, is_descriptor, is_telling, is_witness, named, ninth, spread, telling_from, telling_in, witnesses}

-- ---- they rise, and are known
pub witnesses_rise : WitnessesRise
unfolding witnesses
witnesses_rise blocks last structures = ascending_rises (filter (is_witness blocks last) (named blocks last structures ++ spread blocks last))

passes : (p : ℕ → Bool) (xs : List ℕ) (n : ℕ) → Includes (filter p xs) n → p n ≡ true
passes p [] n i = absurd i
passes p (x ∷ xs) n i = go (λ j. passes p xs n j) (p x) refl i
  where
    go : (Includes (filter p xs) n → p n ≡ true) → (b : Bool) → p x ≡ b → Includes (cond b (x ∷ filter p xs) (filter p xs)) n → p n ≡ true
    go later true e (inl is) = subst (λ y. p y ≡ true) is e
    go later true e (inr j) = later j
    go later false e j = later j

stays : (p : ℕ → Bool) (xs : List ℕ) (n : ℕ) → Includes xs n → p n ≡ true → Includes (filter p xs) n
stays p [] n i e = absurd i
stays p (x ∷ xs) n i e = go (λ j. stays p xs n j e) (p x) refl i
  where
    go : (Includes xs n → Includes (filter p xs) n) → (b : Bool) → p x ≡ b → (x ≡ n) ⊎ Includes xs n → Includes (cond b (x ∷ filter p xs) (filter p xs)) n
    go later true t (inl is) = inl is
    go later true t (inr j) = inr (later j)
    go later false t (inl is) = absurd (let z : false ≡ true = sym t ∙ ap p is ∙ e in cc)
    go later false t (inr j) = later j

pub witnesses_are_known : WitnessesAreKnown
unfolding witnesses
witnesses_are_known blocks last structures n c =
    let all = named blocks last structures ++ spread blocks last in
    let kept = (ascending_contains (filter (is_witness blocks last) all) n).0 c in
    let t = both (nat_le n last) (is_known (blocks n)) (passes (is_witness blocks last) all n (included _ n kept)) in
    (leb-true n last t.0, t.1)

-- what is known and in one of the two lists
chosen : (blocks : Blocks) (last : ℕ) (all : List ℕ) (n : ℕ) → Contains all n → n ≤ last → is_known (blocks n) ≡ true → Contains (ascending (filter (is_witness blocks last) all)) n
chosen blocks last all n c le known =
    (ascending_contains (filter (is_witness blocks last) all) n).1 (contained _ n (stays (is_witness blocks last) all n (included all n c)
    (ap (λ (b : Bool). b && is_known (blocks n)) (le-leb n last le) ∙ known)))

pub named_are_witnesses : NamedAreWitnesses
unfolding witnesses
named_are_witnesses blocks last structures n c le known = chosen blocks last (named blocks last structures ++ spread blocks last) n (Contains-append_left (named blocks last structures) (spread blocks last) n c) le known

-- ---- they are few
length-inserted : (n : ℕ) (ms : List ℕ) → length (insert_once n ms) ≤ length ms + 1
length-inserted n [] = omega arith
length-inserted n (m ∷ ms) = go (length-inserted n ms) (nat_lt n m) (n == m)
  where
    go : length (insert_once n ms) ≤ length ms + 1 → (b c : Bool) → length (cond b (n ∷ m ∷ ms) (cond c (m ∷ ms) (m ∷ insert_once n ms))) ≤ length (m ∷ ms) + 1
    go more true c = omega arith
    go more false true = omega arith
    go more false false = omega (arith, more)

length-ascending : (ns : List ℕ) → length (ascending ns) ≤ length ns
length-ascending [] = omega arith
length-ascending (n ∷ ns) = let one = length-inserted n (ascending ns) in let rest = length-ascending ns in omega (arith, one, rest)

length-kept : (p : ℕ → Bool) (xs : List ℕ) → length (filter p xs) ≤ length xs
length-kept p xs = subst (λ (k : ℕ). k ≤ length xs) (sym (length-filter p xs)) (count_by-le-length p xs)

length-first : (test : ℕ → Bool) (n count : ℕ) → length (first_of test n count) ≤ 1
unfolding first_of
length-first test n zero = omega arith
length-first test n (suc count) = go (length-first test (n + 1) count) (test n)
  where
    go : length (first_of test (n + 1) count) ≤ 1 → (b : Bool) → length (cond b (n ∷ []) (first_of test (n + 1) count)) ≤ 1
    go later true = omega arith
    go later false = later

length-telling : (blocks : Blocks) (last i count : ℕ) → length (telling_from blocks last i count) ≤ count
unfolding telling_from
length-telling blocks last i zero = omega arith
length-telling blocks last i (suc count) =
    let one = length-first (λ n. is_telling (blocks n)) (ninth last i) (ninth last (i + 1) - ninth last i) in
    let rest = length-telling blocks last (i + 1) count in
    let both_of = length-append (telling_in blocks last i) (telling_from blocks last (i + 1) count) in
    omega (arith, one, rest, both_of)

length-descriptors : (blocks : Blocks) (last : ℕ) (answer : Answer AnchorExtents) → length (descriptors_in blocks last answer) ≤ 2
length-descriptors blocks last (found e) = go (nat_le e.main.block last)
  where
    go : (b : Bool) → length (cond b (descriptor_from blocks e.main.block 1 ++ descriptor_from blocks e.main.block 6) []) ≤ 2
    go true =
        let one = length-first (λ n. is_descriptor 1 n (blocks n)) e.main.block 16 in
        let two = length-first (λ n. is_descriptor 6 n (blocks n)) e.main.block 16 in
        let both_of = length-append (descriptor_from blocks e.main.block 1) (descriptor_from blocks e.main.block 6) in
        omega (arith, one, two, both_of)
    go false = omega arith
length-descriptors blocks last (holes unread) = omega arith
length-descriptors blocks last (faulty fault) = omega arith

pub witnesses_are_few : WitnessesAreFew
unfolding witnesses
witnesses_are_few blocks last structures few =
    let descriptors = descriptors_in blocks last (anchor blocks last) in
    let all = named blocks last structures ++ spread blocks last in
    let sorted = length-ascending (filter (is_witness blocks last) all) in
    let kept = length-kept (is_witness blocks last) all in
    let parts = length-append (named blocks last structures) (spread blocks last) in
    let names = length-append (anchor_places last ++ descriptors) structures in
    let places = length-append (anchor_places last) descriptors in
    let of_two = length-descriptors blocks last (anchor blocks last) in
    let of_nine = length-telling blocks last 0 9 in
    omega (arith, sorted, kept, parts, names, places, of_two, of_nine, few)

-- ---- they are from all over the disc

-- some number from `from` on, before the end, that passes, and is in a list
pub record IsFoundIn (test : ℕ → Bool) (from end : ℕ) (xs : List ℕ) : Type 0 where
  pub at : ℕ
  pub after : from ≤ at
  pub before : at < end
  pub passes : test at ≡ true
  pub in_list : Includes xs at

first_is : (test : ℕ → Bool) (from count n : ℕ) → from ≤ n → n < from + count → test n ≡ true → IsFoundIn test from (from + count) (first_of test from count)
unfolding first_of
first_is test from zero n le lt e = absurd (let z : ⊥ = omega (arith, le, lt) in z)
first_is test from (suc count) n le lt e = go (λ later. first_is test (from + 1) count n later (omega (arith, lt)) e) (test from) refl
  where
    goes_on : test from ≡ false → from + 1 ≤ n
    goes_on t = let apart : from ≢ n = λ is. let z : true ≡ false = sym e ∙ sym (ap test is) ∙ t in cc in omega (arith, le, apart)

    go : (from + 1 ≤ n → IsFoundIn test (from + 1) (from + 1 + count) (first_of test (from + 1) count)) → (b : Bool) → test from ≡ b → IsFoundIn test from (from + suc count) (cond b (from ∷ []) (first_of test (from + 1) count))
    go found_later true t = record { at = from; after = omega arith; before = omega arith; passes = t; in_list = inl refl }
    go found_later false t =
        let f = found_later (goes_on t) in
        record { at = f.at; after = (let a = f.after in omega (arith, a)); before = (let b = f.before in omega (arith, b)); passes = f.passes; in_list = f.in_list }

in_spread : (blocks : Blocks) (last j count i m : ℕ) → j ≤ i → i < j + count → Includes (telling_in blocks last i) m → Includes (telling_from blocks last j count) m
unfolding telling_from
in_spread blocks last j zero i m le lt h = absurd (let z : ⊥ = omega (arith, le, lt) in z)
in_spread blocks last j (suc count) i m le lt h = go (λ later. in_spread blocks last (j + 1) count i m later (omega (arith, lt)) h) (j == i) refl
  where
    rest : List ℕ
    rest = telling_from blocks last (j + 1) count

    go : (j + 1 ≤ i → Includes rest m) → (b : Bool) → (j == i) ≡ b → Includes (telling_in blocks last j ++ rest) m
    go in_rest true e = included _ m (Contains-append_left (telling_in blocks last j) rest m (contained _ m (subst (λ (k : ℕ). Includes (telling_in blocks last k) m) (sym (eqb-true j i e)) h)))
    go in_rest false e =
        let apart : j ≢ i = eqb-false j i e in
        included _ m (Contains-append_right (telling_in blocks last j) rest m (contained _ m (in_rest (omega (arith, le, apart)))))

telling_is_known : (s : State) → is_telling s ≡ true → is_known s ≡ true
telling_is_known Unknown e = e
telling_is_known (Known bytes) e = refl
telling_is_known Conflict e = absurd (let z : false ≡ true = e in cc)

ninth_ends : (last i : ℕ) → i < 9 → ninth last (i + 1) ≤ last + 1
ninth_ends last i lt = div-le_of_le-mul 9 (mul-le-mul_right (last + 1) (let le : i + 1 ≤ 9 = omega (arith, lt) in le))

pub spread_are_witnesses : SpreadAreWitnesses
unfolding witnesses
spread_are_witnesses blocks last structures i n lt after before e =
    let test : ℕ → Bool = λ k. is_telling (blocks k) in
    let room : n < ninth last i + (ninth last (i + 1) - ninth last i) = omega (arith, after, before) in
    let f = first_is test (ninth last i) (ninth last (i + 1) - ninth last i) n after room e in
    let end : f.at < ninth last (i + 1) = (let b = f.before in omega (arith, b, after, before)) in
    let all_end = ninth_ends last i lt in
    let here = contained _ f.at (in_spread blocks last 0 9 i f.at (omega arith) (omega (arith, lt)) f.in_list) in
    (f.at, f.after, end, f.passes, chosen blocks last (named blocks last structures ++ spread blocks last) f.at (Contains-append_right (named blocks last structures) (spread blocks last) f.at here) (omega (arith, end, all_end)) (telling_is_known (blocks f.at) f.passes))
