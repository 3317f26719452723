-- What files in memory keep agrees with their log, and each call could be made when it was.
--     AreNodes start kept calls       each path names what is kept of it
--     AreContents kept calls          each new file has the bytes that are kept of it
--     IsCount count calls             so many calls were made, where they can be counted
--     was_lawful start calls          each call could be made when it was
--     numbers node                    the numbers of a file's device and of the file on it
use Rattle.std.proofs.Common.{refl, sym, ◌∙◌, ap, subst, inl, inr, ⊎_elim, arith}
use Rattle.std.proofs.lemmas.Bool.{cases_Bool, cond-true, cond-false, eq-eqb, eqb-true}
use Rattle.std.specs.Coded.{Coded, Coded-set, code_by, coded_list, coded_option, coded_ℕ, coded×, Π_prop, →_prop, ×_prop, le_prop}
use Rattle.std.specs.Prelude.{◌≡◌, ◌⊎◌, ℕ, ◌+◌, ◌≤◌, ◌<◌, ◌-◌, ◌^◌, Bool, true, false, List, [], ◌∷◌, length, Option, Some, None, if◌then◌else◌, bytes_eq, nat_eq}
use Rattle.udfs_calls.specs.Lawful.{IsLawful, can_follow}
use Rattle.udfs_calls.specs.Log.{Call, Node, Start, is_created, new_content, node_at}
use Rattle.udfs_calls.specs.Log.Call.{created, opened, synced, renamed, removed, folder_made, folder_synced, failed}
use Rattle.udfs_calls.specs.Log.Node.{there, made, folder}
use Rattle.udfs_memory.specs.Keeping.{call_in, content_after, content_in, found, node_after}
use Rattle.udfs_memory.specs.declared.kept.Kept.{Kept}

-- each path names what is kept of it
abbrev pub AreNodes : Start → List Kept → List Call → Type 0
AreNodes start kept calls = (p : List ℕ) → node_at start calls p ≡ found start kept p

-- each new file has the bytes that are kept of it
abbrev pub AreContents : List Kept → List Call → Type 0
AreContents kept calls = (number : ℕ) → new_content calls number ≡ content_in kept number

-- so many calls were made, where they can be counted
abbrev pub IsCount : ℕ → List Call → Type 0
IsCount count calls = (count ≤ length calls) × (count < 2 ^ 64 - 1 → length calls ≤ count)

-- it is so in one way
pub IsCount-prop : (count : ℕ) (calls : List Call) → IsProp (IsCount count calls)
IsCount-prop count calls = ×_prop le_prop (→_prop le_prop)

-- a file, as two numbers
abbrev pub numbers : Node → ℕ × ℕ
numbers (there number) = (0, number)
numbers (made number) = (1, number)
numbers (folder number) = (2, number)

-- the file of two numbers
abbrev node_by : ℕ × ℕ → Node
node_by x = if nat_eq x.0 0 then there x.1 else if nat_eq x.0 1 then made x.1 else folder x.1

numbered : (node : Node) → node_by (numbers node) ≡ node
numbered (there number) = refl
numbered (made number) = refl
numbered (folder number) = refl

-- two files have not the same numbers
pub apart : (a b : Node) → numbers a ≡ numbers b → a ≡ b
apart a b same = sym (numbered a) ∙ ap node_by same ∙ numbered b

abbrev coded_node : Coded Node
coded_node = code_by (ℕ × ℕ) (coded× coded_ℕ coded_ℕ) numbers node_by numbered

-- it is so in one way
pub AreNodes-prop : (start : Start) (kept : List Kept) (calls : List Call) → IsProp (AreNodes start kept calls)
AreNodes-prop start kept calls = Π_prop (λ p. Coded-set (coded_option coded_node) (node_at start calls p) (found start kept p))

-- it is so in one way
pub AreContents-prop : (kept : List Kept) (calls : List Call) → IsProp (AreContents kept calls)
AreContents-prop kept calls = Π_prop (λ number. Coded-set (coded_option (coded_list coded_ℕ)) (new_content calls number) (content_in kept number))

-- what a call does to names
node_steps : (start : Start) (calls : List Call) (call : Call) (p : List ℕ) → node_at start (call ∷ calls) p ≡ node_after (length calls) call (node_at start calls) p
node_steps start calls (created q) p = refl
node_steps start calls (opened q) p = refl
node_steps start calls (synced number bytes) p = refl
node_steps start calls (renamed from to) p = refl
node_steps start calls (removed q) p = refl
node_steps start calls (folder_made q) p = refl
node_steps start calls (folder_synced q) p = refl
node_steps start calls (failed call) p = refl

-- what a call does to bytes
content_steps : (calls : List Call) (call : Call) (number : ℕ) → new_content (call ∷ calls) number ≡ content_after call (new_content calls) number
content_steps calls (created q) number = refl
content_steps calls (opened q) number = refl
content_steps calls (synced m bytes) number = refl
content_steps calls (renamed from to) number = refl
content_steps calls (removed q) number = refl
content_steps calls (folder_made q) number = refl
content_steps calls (folder_synced q) number = refl
content_steps calls (failed call) number = refl

-- a call does the same to the same
node_alike : (number : ℕ) (call : Call) (f g : List ℕ → Option Node) (p : List ℕ) → ((q : List ℕ) → f q ≡ g q) → node_after number call f p ≡ node_after number call g p
node_alike number (created q) f g p same = ap (λ x. if bytes_eq p q then Some (made number) else x) (same p)
node_alike number (opened q) f g p same = ap (λ x. if bytes_eq p q then Some (made number) else x) (same p)
node_alike number (synced m bytes) f g p same = same p
node_alike number (renamed from to) f g p same = ap (λ x. if bytes_eq p to then x else if bytes_eq p from then None else f p) (same from) ∙ ap (λ x. if bytes_eq p to then g from else if bytes_eq p from then None else x) (same p)
node_alike number (removed q) f g p same = ap (λ x. if bytes_eq p q then None else x) (same p)
node_alike number (folder_made q) f g p same = ap (λ x. if bytes_eq p q then Some (folder number) else x) (same p)
node_alike number (folder_synced q) f g p same = same p
node_alike number (failed call) f g p same = same p

content_alike : (call : Call) (f g : ℕ → Option (List ℕ)) (number : ℕ) → ((n : ℕ) → f n ≡ g n) → content_after call f number ≡ content_after call g number
content_alike (created q) f g number same = same number
content_alike (opened q) f g number same = same number
content_alike (synced m bytes) f g number same = ap (λ x. if nat_eq number m then Some bytes else x) (same number)
content_alike (renamed from to) f g number same = same number
content_alike (removed q) f g number same = same number
content_alike (folder_made q) f g number same = same number
content_alike (folder_synced q) f g number same = same number
content_alike (failed call) f g number same = same number

-- what is kept of a call agrees with it
pub nodes_on : (start : Start) (kept : List Kept) (calls : List Call) (call : Call) (k : Kept) → AreNodes start kept calls → k.number ≡ length calls → call_in k.what ≡ call → AreNodes start (k ∷ kept) (call ∷ calls)
nodes_on start kept calls call k same number is p =
    node_steps start calls call p ∙ node_alike (length calls) call (node_at start calls) (found start kept) p same
    ∙ ap (λ n. node_after n call (found start kept) p) (sym number) ∙ ap (λ c. node_after k.number c (found start kept) p) (sym is)

-- the bytes that are kept of a call agree with it
pub contents_on : (kept : List Kept) (calls : List Call) (call : Call) (k : Kept) → AreContents kept calls → call_in k.what ≡ call → AreContents (k ∷ kept) (call ∷ calls)
contents_on kept calls call k same is number = content_steps calls call number ∙ content_alike call (new_content calls) (content_in kept) number same ∙ ap (λ c. content_after c (content_in kept) number) (sym is)

-- ---- calls that could be made

abbrev both : Bool → Bool → Bool
both a b = if a then b else false

both_true : (a b : Bool) → a ≡ true → b ≡ true → both a b ≡ true
both_true a b one two = cond-true a b false one ∙ two

of_both : (a b : Bool) → both a b ≡ true → (a ≡ true) × (b ≡ true)
of_both a b is = elim (cases_Bool a) [
  | inl one ↦ (one, sym (cond-true a b false one) ∙ is)
  | inr none ↦ let bad = sym (cond-false a b false none) ∙ is in cc
]

abbrev is_none : {A : Type 0} → Option A → Bool
is_none {A} None = true
is_none {A} (Some x) = false

none_told : {A : Type 0} (o : Option A) → o ≡ None → is_none o ≡ true
none_told {A} None is = refl
none_told {A} (Some x) is = cc

told_none : {A : Type 0} (o : Option A) → is_none o ≡ true → o ≡ None
told_none {A} None is = refl
told_none {A} (Some x) is = cc

-- whether a file of this number was made new
abbrev is_made : List Call → ℕ → Bool
is_made [] number = false
is_made (created q ∷ calls) number = if nat_eq number (length calls) then true else is_made calls number
is_made (opened q ∷ calls) number = is_made calls number
is_made (synced m bytes ∷ calls) number = is_made calls number
is_made (renamed from to ∷ calls) number = is_made calls number
is_made (removed q ∷ calls) number = is_made calls number
is_made (folder_made q ∷ calls) number = is_made calls number
is_made (folder_synced q ∷ calls) number = is_made calls number
is_made (failed call ∷ calls) number = is_made calls number

made_told : (calls : List Call) (number : ℕ) → is_created calls number → is_made calls number ≡ true
made_told [] number is = absurd is
made_told (created q ∷ calls) number is = elim (cases_Bool (nat_eq number (length calls))) [
  | inl hit ↦ cond-true (nat_eq number (length calls)) true (is_made calls number) hit
  | inr miss ↦ cond-false (nat_eq number (length calls)) true (is_made calls number) miss
      ∙ ⊎_elim (λ here. let hit : nat_eq number (length calls) ≡ true = eq-eqb number (length calls) here in cc) (λ before. made_told calls number before) is
]
made_told (opened q ∷ calls) number is = made_told calls number is
made_told (synced m bytes ∷ calls) number is = made_told calls number is
made_told (renamed from to ∷ calls) number is = made_told calls number is
made_told (removed q ∷ calls) number is = made_told calls number is
made_told (folder_made q ∷ calls) number is = made_told calls number is
made_told (folder_synced q ∷ calls) number is = made_told calls number is
made_told (failed call ∷ calls) number is = made_told calls number is

told_made : (calls : List Call) (number : ℕ) → is_made calls number ≡ true → is_created calls number
told_made [] number is = cc
told_made (created q ∷ calls) number is = elim (cases_Bool (nat_eq number (length calls))) [
  | inl hit ↦ inl (eqb-true number (length calls) hit)
  | inr miss ↦ inr (told_made calls number (sym (cond-false (nat_eq number (length calls)) true (is_made calls number) miss) ∙ is))
]
told_made (opened q ∷ calls) number is = told_made calls number is
told_made (synced m bytes ∷ calls) number is = told_made calls number is
told_made (renamed from to ∷ calls) number is = told_made calls number is
told_made (removed q ∷ calls) number is = told_made calls number is
told_made (folder_made q ∷ calls) number is = told_made calls number is
told_made (folder_synced q ∷ calls) number is = told_made calls number is
told_made (failed call ∷ calls) number is = told_made calls number is

-- whether this call can be made after these
abbrev may_follow : Start → List Call → Call → Bool
may_follow start calls (created q) = is_none (node_at start calls q)
may_follow start calls (folder_made q) = is_none (node_at start calls q)
may_follow start calls (synced number bytes) = both (is_made calls number) (is_none (new_content calls number))
may_follow start calls (opened q) = true
may_follow start calls (renamed from to) = true
may_follow start calls (removed q) = true
may_follow start calls (folder_synced q) = true
may_follow start calls (failed call) = true

follow_told : (start : Start) (calls : List Call) (call : Call) → can_follow start calls call → may_follow start calls call ≡ true
follow_told start calls (created q) can = none_told (node_at start calls q) can
follow_told start calls (folder_made q) can = none_told (node_at start calls q) can
follow_told start calls (synced number bytes) can = both_true (is_made calls number) (is_none (new_content calls number)) (made_told calls number can.0) (none_told (new_content calls number) can.1)
follow_told start calls (opened q) can = refl
follow_told start calls (renamed from to) can = refl
follow_told start calls (removed q) can = refl
follow_told start calls (folder_synced q) can = refl
follow_told start calls (failed call) can = refl

told_follow : (start : Start) (calls : List Call) (call : Call) → may_follow start calls call ≡ true → can_follow start calls call
told_follow start calls (created q) is = told_none (node_at start calls q) is
told_follow start calls (folder_made q) is = told_none (node_at start calls q) is
told_follow start calls (synced number bytes) is =
    let two = of_both (is_made calls number) (is_none (new_content calls number)) is in
    (told_made calls number two.0, told_none (new_content calls number) two.1)
told_follow start calls (opened q) is = tt
told_follow start calls (renamed from to) is = tt
told_follow start calls (removed q) is = tt
told_follow start calls (folder_synced q) is = tt
told_follow start calls (failed call) is = tt

-- whether each call could be made when it was
abbrev pub was_lawful : Start → List Call → Bool
was_lawful start [] = true
was_lawful start (call ∷ calls) = both (may_follow start calls call) (was_lawful start calls)

-- one call more could be made when it was
pub lawful_on : (start : Start) (calls : List Call) (call : Call) → was_lawful start calls ≡ true → can_follow start calls call → was_lawful start (call ∷ calls) ≡ true
lawful_on start calls call lawful can = both_true (may_follow start calls call) (was_lawful start calls) (follow_told start calls call can) lawful

-- each call could be made when it was
pub is_lawful : (start : Start) (calls : List Call) → was_lawful start calls ≡ true → IsLawful start calls
is_lawful start [] is = tt
is_lawful start (call ∷ calls) is =
    let two = of_both (may_follow start calls call) (was_lawful start calls) is in
    (told_follow start calls call two.0, is_lawful start calls two.1)

-- what is kept of a call that could be made agrees with the log of one call more
pub record Stands (start : Start) (kept : List Kept) (calls : List Call) (count : ℕ) : Type 0 where
  pub nodes : AreNodes start kept calls
  pub contents : AreContents kept calls
  pub counted : IsCount count calls
  pub lawful : was_lawful start calls ≡ true

-- all of it, after a call that could be made
pub stands_on : (start : Start) (kept new_kept : List Kept) (calls new_calls : List Call) (count : ℕ) (call : Call) (k : Kept) → new_kept ≡ k ∷ kept → new_calls ≡ call ∷ calls → call_in k.what ≡ call → k.number ≡ count → count < 2 ^ 64 - 1
    → Stands start kept calls count → can_follow start calls call → Stands start new_kept new_calls (count + 1)
stands_on start kept new_kept calls new_calls count call k more longer is number below old can =
    let all : count ≡ length calls = let low = old.counted.0 in let high = old.counted.1 below in omega (arith, low, high) in
    subst (λ ks. Stands start ks new_calls (count + 1)) (sym more) (subst (λ cs. Stands start (k ∷ kept) cs (count + 1)) (sym longer) (record {
      nodes = nodes_on start kept calls call k old.nodes (number ∙ all) is;
      contents = contents_on kept calls call k old.contents is;
      counted = (omega (arith, all), λ _. omega (arith, all));
      lawful = lawful_on start calls call old.lawful can;
    }))
