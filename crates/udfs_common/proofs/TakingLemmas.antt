-- Sources are taken one after the other.
use Rattle.std.proofs.Common.{◌≡◌, ◌≢◌, ◌⊎◌, ◌<◌, ◌+◌, ◌-◌, ◌∙◌, arith, ap, sym, refl, subst, inl, inr, ap₂, not, nat_lt, ◌&&◌, cond, count_by, get_or, map, ℕ, zero, suc, Bool, true, false, List, [], ◌∷◌, ◌++◌, Option, Some, IfSome, Err, length, slice_get, take, drop}
use Rattle.std.proofs.lemmas.List.{drop-drop, length-map, map-append, take-append-drop, take-map}
use borrow.Rule.Slice.PartMut.{mid_of, put_mid}
use Rattle.std.proofs.lemmas.List.Recursion.{is_count_by}
use Rattle.std.proofs.lemmas.Bool.{lt-ltb, true≢false}
use Rattle.std.specs.Prelude.{⊤, ◌↔◌}
use Rattle.udfs_lattice.specs.Records.{join_all}
use Rattle.udfs_lattice.specs.States.{State}
use Rattle.udfs_lattice.specs.TableLaws.{join_tables-assoc, join_tables-empty, join_tables-empty_right, state_of-empty}
use Rattle.udfs_lattice.specs.Tables.{Table, empty_table, entries_of, join_tables, state_of}
use Rattle.udfs_index.specs.Comparing.{are_other, disagreeing, is_other_disc, shared}
use Rattle.udfs_reading.specs.Answers.{FailsAfter, GivesFault, RefusesFaulty}
use Rattle.udfs_reading.specs.Inputs.{inputs}
use Rattle.udfs_reading.specs.Several.{HasTable, InputFails, TablesAre}
use Rattle.udfs_reading.specs.declared.error.ReadingFault.TheVariants.{Io}
use Rattle.udfs_reading.specs.declared.inputs.InputError.{InputError}
use Rattle.udfs_common.proofs.KeepingLemmas.{last_of}
use Rattle.udfs_common.specs.Blaming.{AreJudged, BlamesSource, InputsRefused, source_reason}
use Rattle.udfs_common.specs.Keeping.{Opens}
use Rattle.udfs_common.specs.OtherDiscs.{EachIsOne, IsOneDisc, IsOtherBy, IsOtherDisc, is_compared, pair_at}
use Rattle.udfs_common.specs.Refusing.{refusal_for, refusal_with}
use Rattle.udfs_common.specs.Taking.{AreUntaken, BlamesAlone, IsOther, IsOtherSource, IsUntaken, NoneFails, Taken, Takes, TakesAlone}
use Rattle.udfs_common.specs.declared.refusal.Refusal.{Refusal}
use Rattle.udfs_common.specs.declared.refusal.Refusal.TheVariants.{OtherDisc}
use Rattle.udfs_common.specs.declared.sources.AnySource.{AnySource}
use Rattle.udfs_common.specs.declared.sources.AnySource.TheVariants.{File, Paired, Refused}
use Rattle.udfs_words.specs.declared.input_path.InputPath.{InputPath}

-- ---- lists
take_within : {A : Type 0} (xs ys : List A) (n : ℕ) (x : A) → slice_get xs n ≡ Some x → take n (xs ++ ys) ≡ take n xs
take_within [] ys n x e = absurd (let b : ⊥ = cc in b)
take_within (y ∷ xs) ys zero x e = refl
take_within (y ∷ xs) ys (suc n) x e = ap (λ (l : List _). y ∷ l) (take_within xs ys n x e)

take_front : {A : Type 0} (xs ys : List A) → take (length xs) (xs ++ ys) ≡ xs
take_front [] ys = refl
take_front (x ∷ xs) ys = ap (λ (l : List _). x ∷ l) (take_front xs ys)

pub take_next : {A : Type 0} (xs : List A) (n : ℕ) (x : A) → slice_get xs n ≡ Some x → take (n + 1) xs ≡ take n xs ++ x ∷ []
take_next [] n x e = absurd (let b : ⊥ = cc in b)
take_next (y ∷ xs) zero x e = let same : y ≡ x = cc in ap (λ (z : _). z ∷ []) same
take_next (y ∷ xs) (suc n) x e = let z : suc n + 1 ≡ suc (n + 1) = omega arith in ap (λ (k : ℕ). take k (y ∷ xs)) z ∙ ap (λ (l : List _). y ∷ l) (take_next xs n x e)

pub split_at : {A : Type 0} (xs : List A) (n : ℕ) (x : A) → slice_get xs n ≡ Some x → xs ≡ take n xs ++ x ∷ drop (n + 1) xs
split_at [] n x e = absurd (let b : ⊥ = cc in b)
split_at (y ∷ xs) zero x e = let same : y ≡ x = cc in ap (λ (z : _). z ∷ xs) same
split_at (y ∷ xs) (suc n) x e = let z : suc (n + 1) ≡ suc n + 1 = omega arith in ap (λ (l : List _). y ∷ l) (split_at xs n x e) ∙ ap (λ (k : ℕ). take (suc n) (y ∷ xs) ++ x ∷ drop k (y ∷ xs)) z

pub length_within : {A : Type 0} (xs : List A) (n : ℕ) (x : A) → slice_get xs n ≡ Some x → length (take n xs) ≡ n
length_within [] n x e = absurd (let b : ⊥ = cc in b)
length_within (y ∷ xs) zero x e = refl
length_within (y ∷ xs) (suc n) x e = ap suc (length_within xs n x e)

same_take : {A B : Type 0} (xs : List A) (ys : List B) (n : ℕ) → length xs ≡ length ys → length (take n xs) ≡ length (take n ys)
same_take [] [] zero e = refl
same_take [] [] (suc n) e = refl
same_take [] (y ∷ ys) n e = absurd (omega (arith, e))
same_take (x ∷ xs) [] n e = absurd (omega (arith, e))
same_take (x ∷ xs) (y ∷ ys) zero e = refl
same_take (x ∷ xs) (y ∷ ys) (suc n) e = ap suc (same_take xs ys n (omega (arith, e)))

get_take : {A : Type 0} (xs : List A) (n k : ℕ) (x : A) → slice_get (take n xs) k ≡ Some x → slice_get xs k ≡ Some x
get_take [] zero k x e = absurd (let b : ⊥ = cc in b)
get_take [] (suc n) k x e = absurd (let b : ⊥ = cc in b)
get_take (y ∷ xs) zero k x e = absurd (let b : ⊥ = cc in b)
get_take (y ∷ xs) (suc n) zero x e = e
get_take (y ∷ xs) (suc n) (suc k) x e = get_take xs n k x e

no_rest : {A : Type 0} (xs : List A) (o : A) (l : List A) → [] ≡ xs ++ o ∷ l → ⊥
no_rest [] o l e = cc
no_rest (a ∷ xs) o l e = cc

only_here : {A : Type 0} (xs : List A) (o : A) (l : List A) (s : A) → s ∷ [] ≡ xs ++ o ∷ l → (xs ≡ []) × (o ≡ s) × (l ≡ [])
only_here [] o l s e =
    let same : o ≡ s = cc in
    let none : l ≡ [] = cc in
    (refl, same, none)
only_here (a ∷ xs) o l s e = absurd (no_rest xs o l (let same : [] ≡ xs ++ o ∷ l = cc in same))

none_mapped : {A B : Type 0} (f : A → B) (xs : List A) → map f xs ≡ [] → xs ≡ []
none_mapped f [] e = refl
none_mapped f (x ∷ xs) e = absurd (let b : ⊥ = cc in b)

pub alone_is : {A : Type 0} (xs : List A) (d : A) → length xs ≡ 1 → xs ≡ get_or xs 0 d ∷ []
alone_is [] d e = absurd (omega (arith, e))
alone_is (x ∷ []) d e = refl
alone_is (x ∷ y ∷ xs) d e = absurd (omega (arith, e))

-- ---- a part of a list
mid_alone : {A : Type 0} (xs : List A) (n k : ℕ) (x : A) → k ≡ 1 → slice_get xs n ≡ Some x → mid_of n k xs ≡ x ∷ []
mid_alone [] n k x one e = absurd (let b : ⊥ = cc in b)
mid_alone (y ∷ xs) zero k x one e =
    let same : y ≡ x = cc in
    ap (λ (m : ℕ). take m (y ∷ xs)) one ∙ ap (λ (z : _). z ∷ []) same
mid_alone (y ∷ xs) (suc n) k x one e = mid_alone xs n k x one e

-- what follows it
behind_mid : {A : Type 0} (xs ys : List A) (n k : ℕ) → k ≡ 1 → drop n xs ≡ drop n ys → drop k (drop n xs) ≡ drop (n + 1) ys
behind_mid xs ys n k one same = ap₂ drop one same ∙ drop-drop 1 n ys

-- it is put back with the same counts
pub put_counts : {A : Type 0} (f : A → ℕ) (n k : ℕ) (xs ys : List A) → map f ys ≡ map f (mid_of n k xs) → map f (put_mid n k xs ys) ≡ map f xs
put_counts f n k xs ys same =
    map-append f (take n xs) (ys ++ drop k (drop n xs)) ∙ ap (λ (l : List ℕ). map f (take n xs) ++ l) (map-append f ys (drop k (drop n xs)) ∙ ap (λ (l : List ℕ). l ++ map f (drop k (drop n xs))) same
    ∙ sym (map-append f (take k (drop n xs)) (drop k (drop n xs))) ∙ ap (map f) (take-append-drop k (drop n xs))) ∙ sym (map-append f (take n xs) (drop n xs)) ∙ ap (map f) (take-append-drop n xs)

pub put_many : {A : Type 0} (f : A → ℕ) (n k : ℕ) (xs ys : List A) → map f ys ≡ map f (mid_of n k xs) → length (put_mid n k xs ys) ≡ length xs
put_many f n k xs ys same = sym (length-map (put_mid n k xs ys) f) ∙ ap length (put_counts f n k xs ys same) ∙ length-map xs f

behind_put : {A : Type 0} (xs ys : List A) (n k : ℕ) (z : A) → slice_get xs n ≡ Some z → length ys ≡ 1 → drop (n + 1) (put_mid n k xs ys) ≡ drop k (drop n xs)
behind_put [] ys n k z at one = absurd (let b : ⊥ = cc in b)
behind_put (x ∷ xs) [] zero k z at one = absurd (omega (arith, one))
behind_put (x ∷ xs) (y ∷ []) zero k z at one = refl
behind_put (x ∷ xs) (y ∷ w ∷ ys) zero k z at one = absurd (omega (arith, one))
behind_put (x ∷ xs) ys (suc n) k z at one =
    let m : suc n + 1 ≡ suc (n + 1) = omega arith in
    ap (λ (j : ℕ). drop j (put_mid (suc n) k (x ∷ xs) ys)) m ∙ behind_put xs ys n k z at one

-- ---- tables
pub join_all-last : (ts : List Table) (u : Table) → join_all (ts ++ u ∷ []) ≡ join_tables (join_all ts) u
join_all-last [] u = join_tables-empty_right u ∙ sym (join_tables-empty u)
join_all-last (t ∷ ts) u = ap (join_tables t) (join_all-last ts u) ∙ sym (join_tables-assoc t (join_all ts) u)

pub tables_last : {R : Type 0} (remaining : R → Option (List ℕ)) (sources : List R) (ts : List Table) (x : R) (own : Table) → TablesAre remaining sources ts → IfSome (remaining x) (λ bytes. HasTable bytes own) → TablesAre remaining (sources ++ x ∷ []) (ts ++ own ∷ [])
tables_last remaining [] [] x own are has = (has, tt)
tables_last remaining [] (t ∷ ts) x own are has = absurd are
tables_last remaining (r ∷ rs) [] x own are has = absurd are
tables_last remaining (r ∷ rs) (t ∷ ts) x own are has = (are.0, tables_last remaining rs ts x own are.1 has)

pub tables_length : {R : Type 0} (remaining : R → Option (List ℕ)) (sources : List R) (ts : List Table) → TablesAre remaining sources ts → length ts ≡ length sources
tables_length remaining [] [] are = refl
tables_length remaining [] (t ∷ ts) are = absurd are
tables_length remaining (r ∷ rs) [] are = absurd are
tables_length remaining (r ∷ rs) (t ∷ ts) are = ap suc (tables_length remaining rs ts are.1)

-- ---- nothing was read before: then nothing disagrees
none_other : (es : List (ℕ × State)) → count_by (λ (e : ℕ × State). are_other (state_of empty_table e.0) e.1) es ≡ 0
none_other es = sym (is_count_by (λ (l : List (ℕ × State)). 0) (λ (e : ℕ × State). are_other (state_of empty_table e.0) e.1) refl (λ e rest. sym (ap (λ (s : State). cond (are_other s e.1) 1 0) (state_of-empty e.0))) es)

empty_is_one : (own : Table) → IsOneDisc empty_table own
empty_is_one own = ap (λ (n : ℕ). is_other_disc n (shared empty_table own)) (none_other (entries_of own))

pub last_is_one : (ts : List Table) (n : ℕ) (u : Table) → length ts ≡ n → (n ≢ 0 → IsOneDisc (join_all ts) u) → IsOneDisc (join_all ts) u
last_is_one [] n u e h = empty_is_one u
last_is_one (t ∷ ts) n u e h = h (λ z. omega (arith, e, z))

each_by : (paths : List InputPath) (ts : List Table) (u : Table) → EachIsOne paths ts → (pair_at paths (length ts) ≡ true → IsOneDisc (join_all ts) u) → (place : ℕ) (own : Table) → pair_at paths place ≡ true →
    (slice_get ts place ≡ Some own) ⊎ ((place ≡ length ts) × (u ≡ own)) → IsOneDisc (join_all (take place (ts ++ u ∷ []))) own
each_by paths ts u each last place own pair (inl h) = subst (λ (l : List Table). IsOneDisc (join_all l) own) (sym (take_within ts (u ∷ []) place own h)) (each place own pair h)
each_by paths ts u each last place own pair (inr h) =
    let front : take place (ts ++ u ∷ []) ≡ ts = ap (λ (n : ℕ). take n (ts ++ u ∷ [])) h.0 ∙ take_front ts (u ∷ []) in
    subst (λ (l : List Table). IsOneDisc (join_all l) own) (sym front) (subst (λ (w : Table). IsOneDisc (join_all ts) w) h.1 (last (subst (λ (n : ℕ). pair_at paths n ≡ true) h.0 pair)))

pub each_last : (paths : List InputPath) (ts : List Table) (u : Table) → EachIsOne paths ts → (pair_at paths (length ts) ≡ true → IsOneDisc (join_all ts) u) → EachIsOne paths (ts ++ u ∷ [])
each_last paths ts u each last place own pair at = each_by paths ts u each last place own pair (last_of ts u place own at)

-- ---- an input that is compared
pub compared_by : (paths : List InputPath) (n : ℕ) (force : Bool) → force ≡ false → pair_at paths n ≡ true → n ≢ 0 → is_compared paths n force ≡ true
compared_by paths zero force unforced pair some = absurd (some refl)
compared_by paths (suc n) true unforced pair some = absurd (true≢false unforced)
compared_by paths (suc n) false unforced pair some = rw (lt-ltb 0 (suc n) (omega arith)) pair

both_so : (a b c : Bool) → (not a && (b && c)) ≡ true → (a ≡ false) × (c ≡ true)
both_so true b c h = absurd (true≢false (sym h))
both_so false true c h = (refl, h)
both_so false false c h = absurd (true≢false (sym h))

pub compared_is : (paths : List InputPath) (n : ℕ) (force : Bool) → is_compared paths n force ≡ true → (force ≡ false) × (pair_at paths n ≡ true)
compared_is paths n force h = both_so force (nat_lt 0 n) (pair_at paths n) h

-- ---- one source
pub with_reason : {R I : Type 0} (source : AnySource R I) (error : InputError) → refusal_with (source_reason source) error ≡ refusal_for (Some source) error
with_reason (File s) error = refl
with_reason (Paired s) error = refl
with_reason (Refused fault count) error = refl

pub blamed_here : {R I : Type 0} (remaining : AnySource R I → Option (List ℕ)) (faults : AnySource R I → ℕ) (olds news : List (AnySource R I)) (number : ℕ) (source : AnySource R I) (reason : Option _) (error : InputError) (refusal : Refusal) →
    olds ≡ source ∷ [] → reason ≡ source_reason source → InputFails remaining faults olds news error → refusal ≡ refusal_with reason (record { input = number; error = error.error }) → BlamesAlone remaining faults olds news number refusal
blamed_here remaining faults olds news number source reason error refusal only why fails told = record {
  error = error;
  fails = fails;
  told = told ∙ ap (λ r. refusal_with r (record { input = number; error = error.error })) why ∙ with_reason source (record { input = number; error = error.error }) ∙ ap (λ (l : List _). refusal_for (slice_get l 0) (record { input = number; error = error.error })) (sym only);
}

pub one_taken : {R : Type 0} (remaining : R → Option (List ℕ)) (source : R) (ts : List Table) (Old New : Table → Type 0) → TablesAre remaining (source ∷ []) ts → ((t : Table) → Old t → New (join_tables t (join_all ts))) → Takes remaining source Old New ⊥
one_taken remaining source [] Old New are took = absurd are
one_taken remaining source (own ∷ []) Old New are took = record { own = own; has = are.0; took = λ t old. subst (λ (u : Table). New (join_tables t u)) (join_tables-empty_right own) (took t old); one = λ no t old. absurd no }
one_taken remaining source (own ∷ u ∷ ts) Old New are took = absurd are.1

pub alone_taken : {R : Type 0} (remaining : R → Option (List ℕ)) (olds : List R) (ts : List Table) (Old New : Table → Type 0) → TablesAre remaining olds ts → ((t : Table) → Old t → New (join_tables t (join_all ts))) → TakesAlone remaining olds Old New ⊥
alone_taken remaining olds ts Old New are took source only = one_taken remaining source ts Old New (subst (λ (l : List _). TablesAre remaining l ts) only are) took

pub takes_by : {R : Type 0} {remaining : R → Option (List ℕ)} {source : R} {Old New : Table → Type 0} {A B : Type 0} → (B → A) → Takes remaining source Old New A → Takes remaining source Old New B
takes_by f takes = record { own = takes.own; has = takes.has; took = takes.took; one = λ b. takes.one (f b) }

pub alone_by : {R : Type 0} {remaining : R → Option (List ℕ)} {olds : List R} {Old New : Table → Type 0} {A B : Type 0} → (B → A) → TakesAlone remaining olds Old New A → TakesAlone remaining olds Old New B
alone_by f takes source only = takes_by f (takes source only)

pub other_by : (before own now : Table) (number blocks of : ℕ) → now ≡ before → blocks ≡ disagreeing now own → of ≡ shared now own → is_other_disc blocks of ≡ true → IsOtherBy before own number (OtherDisc number blocks of)
other_by before own now number blocks of same b o other =
    let bb : blocks ≡ disagreeing before own = b ∙ ap (λ (t : Table). disagreeing t own) same in
    let oo : of ≡ shared before own = o ∙ ap (λ (t : Table). shared t own) same in
    record { other = ap₂ is_other_disc (sym bb) (sym oo) ∙ other; named = ap₂ (OtherDisc number) bb oo }

pub one_by : (before own now : Table) (blocks of : ℕ) → now ≡ before → blocks ≡ disagreeing now own → of ≡ shared now own → is_other_disc blocks of ≡ false → IsOneDisc before own
one_by before own now blocks of same b o one =
    ap₂ is_other_disc (sym (b ∙ ap (λ (t : Table). disagreeing t own) same)) (sym (o ∙ ap (λ (t : Table). shared t own) same)) ∙ one

own_is : {R : Type 0} (remaining : R → Option (List ℕ)) (source : R) (empty now : Table) (takes : Takes remaining source (λ t. empty ≡ t) (λ t. now ≡ t) ⊥) → empty ≡ empty_table → now ≡ takes.own
own_is remaining source empty now takes none = takes.took empty_table none ∙ join_tables-empty takes.own

pub apart_taken : {R : Type 0} (remaining : R → Option (List ℕ)) (source : R) (Old New : Table → Type 0) (empty now : Table) → Takes remaining source (λ t. empty ≡ t) (λ t. now ≡ t) ⊥ → empty ≡ empty_table →
    ((t : Table) → Old t → New (join_tables t now)) → ((t : Table) → Old t → IsOneDisc t now) → Takes remaining source Old New ⊤
apart_taken remaining source Old New empty now takes none took one =
    let is = own_is remaining source empty now takes none in
    record { own = takes.own; has = takes.has; took = λ t old. subst (λ (u : Table). New (join_tables t u)) is (took t old); one = λ so t old. subst (λ (u : Table). IsOneDisc t u) is (one t old) }

pub apart_other : {R : Type 0} (remaining : R → Option (List ℕ)) (source : R) (Old : Table → Type 0) (empty now : Table) (number : ℕ) (refusal : Refusal) → Takes remaining source (λ t. empty ≡ t) (λ t. now ≡ t) ⊥ → empty ≡ empty_table →
    ((t : Table) → Old t → IsOtherBy t now number refusal) → IsOther remaining source Old number refusal
apart_other remaining source Old empty now number refusal takes none other =
    let is = own_is remaining source empty now takes none in
    record { own = takes.own; has = takes.has; other = λ t old. subst (λ (u : Table). IsOtherBy t u number refusal) is (other t old) }

-- ---- what was taken
pub taken_none : {R : Type 0} (remaining : R → Option (List ℕ)) (paths : List InputPath) (force : Bool) (Old : Table → Type 0) → Taken remaining paths [] force Old Old
taken_none remaining paths force Old = record {
  tables = [];
  are = tt;
  took = λ t old. subst Old (sym (join_tables-empty_right t)) old;
  each = λ old unforced place own pair at. absurd (let b : ⊥ = cc in b);
}

joined_now : {R : Type 0} (remaining : R → Option (List ℕ)) (paths : List InputPath) (done : List R) (force : Bool) (Old Mid : Table → Type 0) (taken : Taken remaining paths done force Old Mid) → Old empty_table → Mid (join_all taken.tables)
joined_now remaining paths done force Old Mid taken old = subst Mid (join_tables-empty (join_all taken.tables)) (taken.took empty_table old)

pub taken_more : {R : Type 0} (remaining : R → Option (List ℕ)) (paths : List InputPath) (done : List R) (force : Bool) (Old Mid New : Table → Type 0) (x : R) →
    Taken remaining paths done force Old Mid → Takes remaining x Mid New (is_compared paths (length done) force ≡ true) → Taken remaining paths (done ++ x ∷ []) force Old New
taken_more remaining paths done force Old Mid New x taken takes =
    let long : length taken.tables ≡ length done = tables_length remaining done taken.tables taken.are in
    record {
      tables = taken.tables ++ takes.own ∷ [];
      are = tables_last remaining done taken.tables x takes.own taken.are takes.has;
      took = λ t old. subst New (join_tables-assoc t (join_all taken.tables) takes.own ∙ ap (join_tables t) (sym (join_all-last taken.tables takes.own))) (takes.took (join_tables t (join_all taken.tables)) (taken.took t old));
      each = λ old unforced. each_last paths taken.tables takes.own (taken.each old unforced)
          (λ pair. last_is_one taken.tables (length done) takes.own long
          (λ some. takes.one (compared_by paths (length done) force unforced (subst (λ (n : ℕ). pair_at paths n ≡ true) long pair) some) (join_all taken.tables) (joined_now remaining paths done force Old Mid taken old)));
    }

-- ---- what was not
pub blamed_alone : {R I : Type 0} (remaining : AnySource R I → Option (List ℕ)) (faults : AnySource R I → ℕ) (all now news : List (AnySource R I)) (n k : ℕ) (source : AnySource R I) (tables : List Table) (refusal : Refusal) →
    k ≡ 1 → slice_get all n ≡ Some source → slice_get now n ≡ Some source → drop n now ≡ drop n all → NoneFails faults all now → TablesAre remaining (take n all) tables →
    BlamesAlone remaining faults (mid_of n k now) news (n + 1) refusal → BlamesSource remaining faults all (put_mid n k now news) refusal
blamed_alone {R = R} {I = I} remaining faults all now news n k source tables refusal one at here rest counts have alone =
    let f = alone.fails in
    let only = mid_alone now n k source one here in
    let are = only_here f.earlier f.old f.later source (sym only ∙ f.were) in
    let same : f.old ≡ source = are.1 in
    let none : f.earlier_new ≡ [] = none_mapped faults f.earlier_new (f.counts ∙ ap (map faults) are.0) in
    let new : news ≡ f.new ∷ [] = f.are ∙ ap₂ (λ (xs ys : List _). xs ++ f.new ∷ ys) none are.2 in
    let place : n + 1 - 1 ≡ n = omega arith in
    let there : slice_get all (n + 1 - 1) ≡ Some source = ap (slice_get all) place ∙ at in
    record {
      error = record { input = n + 1; error = alone.error.error };
      fails = record {
        earlier = take n all;
        earlier_new = take n now;
        later = drop (n + 1) all;
        old = source;
        new = f.new;
        were = split_at all n source at;
        are = ap (λ (l : List _). take n now ++ l) (ap₂ (λ (xs ys : List _). xs ++ ys) new (behind_mid now all n k one rest));
        which = ap (λ (m : ℕ). m + 1) (sym (length_within all n source at));
        tables = tables;
        have_tables = have;
        counts = sym (take-map faults n now) ∙ ap (take n) counts ∙ take-map faults n all;
        io = subst (λ (s : AnySource R I). (alone.error.error.fault ≡ Io) ↔ (faults f.new ≢ faults s)) same f.io;
        fault = subst (λ (s : AnySource R I). GivesFault inputs (remaining s) (Err alone.error.error)) same f.fault;
        faulty = subst (λ (s : AnySource R I). RefusesFaulty inputs (remaining s) (Err alone.error.error)) same f.faulty;
        cut = subst (λ (s : AnySource R I). FailsAfter inputs (remaining s) (remaining f.new) (Err alone.error.error)) same f.cut;
      };
      told = alone.told ∙ ap (λ (l : List _). refusal_for (slice_get l 0) (record { input = n + 1; error = alone.error.error })) only ∙ ap (λ s. refusal_for s (record { input = n + 1; error = alone.error.error })) (sym there);
    }

pub other_alone : {R : Type 0} (remaining : R → Option (List ℕ)) (paths : List InputPath) (all : List R) (force : Bool) (Old Mid : Table → Type 0) (k : ℕ) (source : R) (refusal : Refusal) →
    slice_get all k ≡ Some source → k < length all → Taken remaining paths (take k all) force Old Mid → pair_at paths k ≡ true → IsOther remaining source Mid (k + 1) refusal → Old empty_table → IsOtherSource remaining paths all refusal
other_alone remaining paths all force Old Mid k source refusal at within taken pair other old = record {
  place = k;
  within = within;
  pair = pair;
  tables = taken.tables;
  own = other.own;
  have = subst (λ (l : List _). TablesAre remaining l (taken.tables ++ other.own ∷ [])) (sym (take_next all k source at)) (tables_last remaining (take k all) taken.tables source other.own taken.are other.has);
  other = other.other (join_all taken.tables) (joined_now remaining paths (take k all) force Old Mid taken old);
}

-- ---- one source after the other
some_at : {A : Type 0} (xs : List A) (n : ℕ) → n < length xs → (x : A) × (slice_get xs n ≡ Some x)
some_at [] n less = absurd (omega (arith, less))
some_at (x ∷ xs) zero less = (x, refl)
some_at (x ∷ xs) (suc n) less = some_at xs n (omega (arith, less))

first_of : {A : Type 0} (xs : List A) (n : ℕ) → slice_get xs n ≡ slice_get (drop n xs) 0
first_of [] zero = refl
first_of [] (suc n) = refl
first_of (x ∷ xs) zero = refl
first_of (x ∷ xs) (suc n) = first_of xs n

same_at : {A : Type 0} (xs ys : List A) (n : ℕ) (y : A) → drop n xs ≡ drop n ys → slice_get ys n ≡ Some y → slice_get xs n ≡ Some y
same_at xs ys n y rest at = first_of xs n ∙ ap (λ (l : List _). slice_get l 0) rest ∙ sym (first_of ys n) ∙ at

pub take_whole : {A : Type 0} (xs : List A) (n : ℕ) → n ≡ length xs → take n xs ≡ xs
take_whole [] zero e = refl
take_whole [] (suc n) e = refl
take_whole (x ∷ xs) zero e = absurd (omega (arith, e))
take_whole (x ∷ xs) (suc n) e = ap (λ (l : List _). x ∷ l) (take_whole xs n (omega (arith, e)))

pub get_within : {A : Type 0} (xs : List A) (n : ℕ) (x : A) → slice_get xs n ≡ Some x → n < length xs
get_within [] n x e = absurd (let b : ⊥ = cc in b)
get_within (y ∷ xs) zero x e = omega arith
get_within (y ∷ xs) (suc n) x e = let h = get_within xs n x e in omega (arith, h)

pub taken_start : {R : Type 0} (remaining : R → Option (List ℕ)) (paths : List InputPath) (all : List R) (n : ℕ) (force : Bool) (Old : Table → Type 0) → n ≡ 0 → Taken remaining paths (take n all) force Old Old
taken_start remaining paths all n force Old e = subst (λ (k : ℕ). Taken remaining paths (take k all) force Old Old) (sym e) (taken_none remaining paths force Old)

pub rest_next : {A : Type 0} (f : A → ℕ) (n k : ℕ) (all now ys : List A) → k ≡ 1 → n < length all → map f ys ≡ map f (mid_of n k now) → drop n now ≡ drop n all → drop (n + 1) (put_mid n k now ys) ≡ drop (n + 1) all
rest_next f n k all now ys one less same rest =
    let x = some_at all n less in
    let here = same_at now all n x.0 rest x.1 in
    let long : length ys ≡ 1 = sym (length-map ys f) ∙ ap length (same ∙ ap (map f) (mid_alone now n k x.0 one here)) in
    behind_put now ys n k x.0 here long ∙ behind_mid now all n k one rest

pub taken_then : {R : Type 0} (remaining : R → Option (List ℕ)) (paths : List InputPath) (all now : List R) (n k : ℕ) (force : Bool) (Old Mid New : Table → Type 0) →
    k ≡ 1 → n < length all → drop n now ≡ drop n all → Taken remaining paths (take n all) force Old Mid → TakesAlone remaining (mid_of n k now) Mid New (is_compared paths n force ≡ true) → Taken remaining paths (take (n + 1) all) force Old New
taken_then remaining paths all now n k force Old Mid New one less rest taken takes =
    let x = some_at all n less in
    subst (λ (l : List _). Taken remaining paths l force Old New) (sym (take_next all n x.0 x.1))
    (taken_more remaining paths (take n all) force Old Mid New x.0 taken
    (takes_by (λ h. subst (λ (m : ℕ). is_compared paths m force ≡ true) (length_within all n x.0 x.1) h) (takes x.0 (mid_alone now n k x.0 one (same_at now all n x.0 rest x.1)))))

pub taken_end : {R : Type 0} (remaining : R → Option (List ℕ)) (paths : List InputPath) (all : List R) (n : ℕ) (force : Bool) (Old New : Table → Type 0) → n ≡ length all → Taken remaining paths (take n all) force Old New → Taken remaining paths all force Old New
taken_end {R} remaining paths all n force Old New e taken = subst (λ (l : List R). Taken remaining paths l force Old New) (take_whole all n e) taken

pub not_taken : {R I : Type 0} (remaining : AnySource R I → Option (List ℕ)) (faults : AnySource R I → ℕ) (paths : List InputPath) (all now news : List (AnySource R I)) (n k : ℕ) (force : Bool) (Old Mid : Table → Type 0) (refusal : Refusal) →
    k ≡ 1 → n < length all → drop n now ≡ drop n all → NoneFails faults all now → Taken remaining paths (take n all) force Old Mid →
    IsUntaken remaining faults (mid_of n k now) news Mid (n + 1) (pair_at paths n ≡ true) refusal → AreUntaken remaining faults paths all (put_mid n k now news) Old refusal
not_taken remaining faults paths all now news n k force Old Mid refusal one less rest counts taken (inl memory) = inl (memory.0, put_counts faults n k now news memory.1 ∙ counts)
not_taken remaining faults paths all now news n k force Old Mid refusal one less rest counts taken (inr (inl alone)) =
    let x = some_at all n less in
    inr (inl (blamed_alone remaining faults all now news n k x.0 taken.tables refusal one x.1 (same_at now all n x.0 rest x.1) rest counts taken.are alone))
not_taken remaining faults paths all now news n k force Old Mid refusal one less rest counts taken (inr (inr other)) =
    let x = some_at all n less in
    inr (inr (λ old. other_alone remaining paths all force Old Mid n x.0 refusal x.1 less taken other.0 (other.1 x.0 (mid_alone now n k x.0 one (same_at now all n x.0 rest x.1))) old))

-- ---- by the paths
pub other_disc : {R : Type 0} (found : List ℕ → Option (Option (List ℕ))) (remaining : R → Option (List ℕ)) (paths : List InputPath) (sources : List R) (refusal : Refusal) →
    length sources ≡ length paths → Opens found remaining paths sources → IsOtherSource remaining paths sources refusal → IsOtherDisc found remaining paths refusal
other_disc found remaining paths sources refusal each opened other = record {
  place = other.place;
  pair = other.pair;
  tables = other.tables;
  own = other.own;
  joined = record {
    sources = take (other.place + 1) sources;
    each = same_take sources paths (other.place + 1) each;
    opened = λ k path source p s. opened k path source (get_take paths (other.place + 1) k path p) (get_take sources (other.place + 1) k source s);
    are = other.have;
  };
  other = other.other;
}

refused_by : {R I : Type 0} (found : List ℕ → Option (Option (List ℕ))) (shut : List ℕ → Type 0) (remaining : AnySource R I → Option (List ℕ)) (faults : AnySource R I → ℕ) (paths : List InputPath) (sources after : List (AnySource R I)) (Old : Table → Type 0) (refusal : Refusal) →
    length sources ≡ length paths → Opens found remaining paths sources → AreJudged found paths sources → Old empty_table → AreUntaken remaining faults paths sources after Old refusal → InputsRefused found shut remaining faults paths refusal
refused_by found shut remaining faults paths sources after Old refusal each opened judged none (inl memory) = record { why = inl memory.0 }
refused_by found shut remaining faults paths sources after Old refusal each opened judged none (inr (inl blames)) =
    record { why = inr (inr (inl (record { sources = sources; after = after; each = each; opened = opened; judged = judged; blames = blames }))) }
refused_by found shut remaining faults paths sources after Old refusal each opened judged none (inr (inr other)) =
    record { why = inr (inr (inr (other_disc found remaining paths sources refusal each opened (other none)))) }

-- so the inputs were not joined
pub inputs_refused : {R I : Type 0} (found : List ℕ → Option (Option (List ℕ))) (shut : List ℕ → Type 0) (remaining : AnySource R I → Option (List ℕ)) (faults : AnySource R I → ℕ) (paths : List InputPath) (sources lent after : List (AnySource R I)) (Old : Table → Type 0) (refusal : Refusal) →
    length sources ≡ length paths → Opens found remaining paths sources → AreJudged found paths sources → lent ≡ sources → Old empty_table → AreUntaken remaining faults paths lent after Old refusal → InputsRefused found shut remaining faults paths refusal
inputs_refused {R} {I} found shut remaining faults paths sources lent after Old refusal each opened judged same none untaken =
    refused_by found shut remaining faults paths sources after Old refusal each opened judged none (subst (λ (l : List (AnySource R I)). AreUntaken remaining faults paths l after Old refusal) same untaken)
