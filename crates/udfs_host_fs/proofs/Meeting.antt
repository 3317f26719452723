-- What a call does to a disk, and so to what paths hold.
use Rattle.std.proofs.Common.{inl, inr, refl, sym, ◌∙◌, ap, arith}
use Rattle.std.proofs.lemmas.Bool.{cases_Bool, eq-eqb}
use Rattle.std.proofs.lemmas.Slice.Eq.{bytes_eq-Decides}
use Rattle.std.specs.Prelude.{◌≡◌, ◌≢◌, ℕ, ◌+◌, ◌<◌, Bool, true, false, List, [], ◌∷◌, length, Option, Some, None, if◌then◌else◌, bytes_eq}
use Rattle.udfs_calls.proofs.SomeCrash.{alike, apart, later_unknown, unlike}
use Rattle.udfs_calls.specs.Lawful.{IsLawful}
use Rattle.udfs_calls.specs.Log.{Call, Made, Node, Start, content, held, held_by, new_content, node_at, told_bytes}
use Rattle.udfs_calls.specs.Log.Call.{created, opened, synced, renamed, removed, folder_made, folder_synced, failed}
use Rattle.udfs_calls.specs.Log.Node.{there, made, folder}
use Rattle.udfs_host_fs.specs.Disk.{Disk, Same, SameBut}

-- a file may be made at no other path
pub made_but : (entry : Option Node) (path : List ℕ) (d c : Disk) → Made entry path d c → SameBut path d c
made_but None path d c step = step
made_but (Some node) path d c step = λ q other. step q

-- where one is, none is made
pub made_none : (entry : Option Node) (path : List ℕ) (d c : Disk) → entry ≢ None → Made entry path d c → Same d c
made_none None path d c some step = absurd (some refl)
made_none (Some node) path d c some step = step

hits : (p r : List ℕ) → bytes_eq p r ≡ true → p ≡ r
hits p r hit = (bytes_eq-Decides p r).0 hit

misses : (p r : List ℕ) → bytes_eq p r ≡ false → p ≡ r → ⊥
misses p r miss is = let hit = (bytes_eq-Decides p r).1 is in let bad : true ≡ false = sym hit ∙ miss in cc

-- what is held is the same where the bytes of files are
same_held : (old new : Node → Option (List ℕ)) → ((node : Node) → new node ≡ old node) → (entry : Option Node) → held_by new entry ≡ held_by old entry
same_held old new same None = refl
same_held old new same (Some (there number)) = ap told_bytes (same (there number))
same_held old new same (Some (made number)) = ap told_bytes (same (made number))
same_held old new same (Some (folder number)) = refl

-- no call but a sync tells what is in a file
after_created : (start : Start) (calls : List Call) (path : List ℕ) (node : Node) → content start (created path ∷ calls) node ≡ content start calls node
after_created start calls path (there number) = refl
after_created start calls path (made number) = refl
after_created start calls path (folder number) = refl

after_opened : (start : Start) (calls : List Call) (path : List ℕ) (node : Node) → content start (opened path ∷ calls) node ≡ content start calls node
after_opened start calls path (there number) = refl
after_opened start calls path (made number) = refl
after_opened start calls path (folder number) = refl

after_renamed : (start : Start) (calls : List Call) (from to : List ℕ) (node : Node) → content start (renamed from to ∷ calls) node ≡ content start calls node
after_renamed start calls from to (there number) = refl
after_renamed start calls from to (made number) = refl
after_renamed start calls from to (folder number) = refl

after_removed : (start : Start) (calls : List Call) (path : List ℕ) (node : Node) → content start (removed path ∷ calls) node ≡ content start calls node
after_removed start calls path (there number) = refl
after_removed start calls path (made number) = refl
after_removed start calls path (folder number) = refl

after_folder : (start : Start) (calls : List Call) (path : List ℕ) (node : Node) → content start (folder_made path ∷ calls) node ≡ content start calls node
after_folder start calls path (there number) = refl
after_folder start calls path (made number) = refl
after_folder start calls path (folder number) = refl

after_failed : (start : Start) (calls : List Call) (call : Call) (node : Node) → content start (failed call ∷ calls) node ≡ content start calls node
after_failed start calls call (there number) = refl
after_failed start calls call (made number) = refl
after_failed start calls call (folder number) = refl

after_named : (start : Start) (calls : List Call) (f : List ℕ) (node : Node) → content start (folder_synced f ∷ calls) node ≡ content start calls node
after_named start calls f (there number) = refl
after_named start calls f (made number) = refl
after_named start calls f (folder number) = refl

module _ (start : Start) (calls : List Call) (path : List ℕ) where
  -- what is held where something new is at a path, or nothing
  module _ (call : Call) (entry : Option Node) (same : (node : Node) → content start (call ∷ calls) node ≡ content start calls node) where
    own_held : held_by (content start (call ∷ calls)) (if bytes_eq path path then entry else node_at start calls path) ≡ held_by (content start calls) entry
    own_held = ap (λ b. held_by (content start (call ∷ calls)) (if b then entry else node_at start calls path)) (alike path) ∙ same_held (content start calls) (content start (call ∷ calls)) same entry

    other_held : (q : List ℕ) → q ≢ path → held_by (content start (call ∷ calls)) (if bytes_eq q path then entry else node_at start calls q) ≡ held start calls q
    other_held q other = ap (λ b. held_by (content start (call ∷ calls)) (if b then entry else node_at start calls q)) (apart q path other)
        ∙ same_held (content start calls) (content start (call ∷ calls)) same (node_at start calls q)

  -- a file that is made now is not known
  unknown_now : IsLawful start calls → held_by (content start calls) (Some (made (length calls))) ≡ None
  unknown_now lawful = ap told_bytes (later_unknown start calls (length calls) lawful (omega arith))

  pub created_open : IsLawful start calls → held start (created path ∷ calls) path ≡ None
  created_open lawful = own_held (created path) (Some (made (length calls))) (after_created start calls path) ∙ unknown_now lawful

  pub created_others : (q : List ℕ) → q ≢ path → held start (created path ∷ calls) q ≡ held start calls q
  created_others = other_held (created path) (Some (made (length calls))) (after_created start calls path)

  pub opened_open : IsLawful start calls → held start (opened path ∷ calls) path ≡ None
  opened_open lawful = own_held (opened path) (Some (made (length calls))) (after_opened start calls path) ∙ unknown_now lawful

  pub opened_others : (q : List ℕ) → q ≢ path → held start (opened path ∷ calls) q ≡ held start calls q
  opened_others = other_held (opened path) (Some (made (length calls))) (after_opened start calls path)

  pub removed_gone : held start (removed path ∷ calls) path ≡ Some None
  removed_gone = own_held (removed path) None (after_removed start calls path)

  pub removed_others : (q : List ℕ) → q ≢ path → held start (removed path ∷ calls) q ≡ held start calls q
  removed_others = other_held (removed path) None (after_removed start calls path)

  -- a new folder is no file, as nothing was
  pub folder_no_file : node_at start calls path ≡ None → (q : List ℕ) → held start (folder_made path ∷ calls) q ≡ held start calls q
  folder_no_file none q = elim (cases_Bool (bytes_eq q path)) [
    | inl hit ↦
        let is : q ≡ path = hits q path hit in
        ap (held start (folder_made path ∷ calls)) is ∙ own_held (folder_made path) (Some (folder (length calls))) (after_folder start calls path)
        ∙ sym (ap (held start calls) is ∙ ap (held_by (content start calls)) none)
    | inr miss ↦ other_held (folder_made path) (Some (folder (length calls))) (after_folder start calls path) q (misses q path miss)
  ]

pub failed_held : (start : Start) (calls : List Call) (call : Call) (q : List ℕ) → held start (failed call ∷ calls) q ≡ held start calls q
failed_held start calls call q = same_held (content start calls) (content start (failed call ∷ calls)) (after_failed start calls call) (node_at start calls q)

pub named_held : (start : Start) (calls : List Call) (f q : List ℕ) → held start (folder_synced f ∷ calls) q ≡ held start calls q
named_held start calls f q = same_held (content start calls) (content start (folder_synced f ∷ calls)) (after_named start calls f) (node_at start calls q)

-- what was moved is at its new path alone
module _ (start : Start) (calls : List Call) (from to : List ℕ) (differ : from ≢ to) where
  abbrev bytes : Node → Option (List ℕ)
  bytes = content start (renamed from to ∷ calls)

  same : (entry : Option Node) → held_by bytes entry ≡ held_by (content start calls) entry
  same = same_held (content start calls) bytes (after_renamed start calls from to)

  pub renamed_there : held start (renamed from to ∷ calls) to ≡ held start calls from
  renamed_there = ap (λ b. held_by bytes (if b then node_at start calls from else if bytes_eq to from then None else node_at start calls to)) (alike to) ∙ same (node_at start calls from)

  pub renamed_gone : held start (renamed from to ∷ calls) from ≡ Some None
  renamed_gone = ap (λ b. held_by bytes (if b then node_at start calls from else if bytes_eq from from then None else node_at start calls from)) (apart from to differ)
      ∙ ap (λ b. held_by bytes (if b then None else node_at start calls from)) (alike from)

  pub renamed_others : (q : List ℕ) → q ≢ from → q ≢ to → held start (renamed from to ∷ calls) q ≡ held start calls q
  renamed_others q not_from not_to = ap (λ b. held_by bytes (if b then node_at start calls from else if bytes_eq q from then None else node_at start calls q)) (apart q to not_to)
      ∙ ap (λ b. held_by bytes (if b then None else node_at start calls q)) (apart q from not_from) ∙ same (node_at start calls q)

-- ---- a new file has one path

-- what was there when the run began is no new file
old_start : (content : ℕ → Option (List ℕ)) (x : Option ℕ) (p : List ℕ) (number : ℕ) → node_at (record { number_at = λ _. x; content = content }) [] p ≡ Some (made number) → ⊥
old_start content None p number is = let bad : None ≡ Some (made number) = is in cc
old_start content (Some m) p number is = let bad : Some (there m) ≡ Some (made number) = is in cc

abbrev number_of : Option Node → ℕ
number_of None = 0
number_of (Some (there number)) = 0
number_of (Some (made number)) = number
number_of (Some (folder number)) = 0

-- where nothing is, no new file is
no_new : (number : ℕ) → None ≡ Some (made number) → ⊥
no_new number is = cc

no_folder : (number n : ℕ) → Some (folder n) ≡ Some (made number) → ⊥
no_folder number n is = cc

-- its number is one of those that were given
module _ (number : ℕ) where
  early_new : (b : Bool) (n : ℕ) (entry : Option Node) → (entry ≡ Some (made number) → number < n) → (if b then Some (made n) else entry) ≡ Some (made number) → number < n + 1
  early_new true n entry old is = let same : n ≡ number = ap number_of is in omega (arith, same)
  early_new false n entry old is = let l = old is in omega (arith, l)

  early_moved : (b c : Bool) (n : ℕ) (x y : Option Node) → (x ≡ Some (made number) → number < n) → (y ≡ Some (made number) → number < n) → (if b then x else if c then None else y) ≡ Some (made number) → number < n + 1
  early_moved true c n x y at_x at_y is = let l = at_x is in omega (arith, l)
  early_moved false true n x y at_x at_y is = absurd (no_new number is)
  early_moved false false n x y at_x at_y is = let l = at_y is in omega (arith, l)

  early_other : (e : Option Node) → (e ≡ Some (made number) → ⊥) → (b : Bool) (n : ℕ) (x : Option Node) → (x ≡ Some (made number) → number < n) → (if b then e else x) ≡ Some (made number) → number < n + 1
  early_other e never true n x at_x is = absurd (never is)
  early_other e never false n x at_x is = let l = at_x is in omega (arith, l)

  given : (start : Start) (calls : List Call) (p : List ℕ) → node_at start calls p ≡ Some (made number) → number < length calls
  given start [] p is = absurd (old_start start.content (start.number_at p) p number is)
  given start (created path ∷ calls) p is = let l = early_new (bytes_eq p path) (length calls) (node_at start calls p) (given start calls p) is in omega (arith, l)
  given start (opened path ∷ calls) p is = let l = early_new (bytes_eq p path) (length calls) (node_at start calls p) (given start calls p) is in omega (arith, l)
  given start (folder_made path ∷ calls) p is =
      let l = early_other (Some (folder (length calls))) (no_folder number (length calls)) (bytes_eq p path) (length calls) (node_at start calls p) (given start calls p) is in omega (arith, l)
  given start (renamed from to ∷ calls) p is =
      let l = early_moved (bytes_eq p to) (bytes_eq p from) (length calls) (node_at start calls from) (node_at start calls p) (given start calls from) (given start calls p) is in omega (arith, l)
  given start (removed path ∷ calls) p is = let l = early_other None (no_new number) (bytes_eq p path) (length calls) (node_at start calls p) (given start calls p) is in omega (arith, l)
  given start (synced m bytes ∷ calls) p is = let l = given start calls p is in omega (arith, l)
  given start (folder_synced f ∷ calls) p is = let l = given start calls p is in omega (arith, l)
  given start (failed call ∷ calls) p is = let l = given start calls p is in omega (arith, l)

module _ (number : ℕ) (p q : List ℕ) where
  one_new : (r : List ℕ) (n : ℕ) (x y : Option Node) (b c : Bool) → (b ≡ true → p ≡ r) → (c ≡ true → q ≡ r) → (x ≡ Some (made number) → number < n) → (y ≡ Some (made number) → number < n)
      → (x ≡ Some (made number) → y ≡ Some (made number) → p ≡ q) → (if b then Some (made n) else x) ≡ Some (made number) → (if c then Some (made n) else y) ≡ Some (made number) → p ≡ q
  one_new r n x y true true at_p at_q early_x early_y old one two = at_p refl ∙ sym (at_q refl)
  one_new r n x y true false at_p at_q early_x early_y old one two = absurd (let same : n ≡ number = ap number_of one in let l = early_y two in omega (arith, same, l))
  one_new r n x y false true at_p at_q early_x early_y old one two = absurd (let same : n ≡ number = ap number_of two in let l = early_x one in omega (arith, same, l))
  one_new r n x y false false at_p at_q early_x early_y old one two = old one two

  one_moved : (from to : List ℕ) (x y z : Option Node) (b c d e : Bool) → (b ≡ true → p ≡ to) → (d ≡ true → q ≡ to) → (c ≡ false → p ≡ from → ⊥) → (e ≡ false → q ≡ from → ⊥)
      → (x ≡ Some (made number) → y ≡ Some (made number) → from ≡ p) → (x ≡ Some (made number) → z ≡ Some (made number) → from ≡ q) → (y ≡ Some (made number) → z ≡ Some (made number) → p ≡ q)
      → (if b then x else if c then None else y) ≡ Some (made number) → (if d then x else if e then None else z) ≡ Some (made number) → p ≡ q
  one_moved from to x y z true c true e p_to q_to p_apart q_apart old_p old_q old one two = p_to refl ∙ sym (q_to refl)
  one_moved from to x y z true c false true p_to q_to p_apart q_apart old_p old_q old one two = absurd (no_new number two)
  one_moved from to x y z true c false false p_to q_to p_apart q_apart old_p old_q old one two = absurd (q_apart refl (sym (old_q one two)))
  one_moved from to x y z false true d e p_to q_to p_apart q_apart old_p old_q old one two = absurd (no_new number one)
  one_moved from to x y z false false true e p_to q_to p_apart q_apart old_p old_q old one two = absurd (p_apart refl (sym (old_p two one)))
  one_moved from to x y z false false false true p_to q_to p_apart q_apart old_p old_q old one two = absurd (no_new number two)
  one_moved from to x y z false false false false p_to q_to p_apart q_apart old_p old_q old one two = old one two

  one_other : (e : Option Node) → (e ≡ Some (made number) → ⊥) → (x y : Option Node) (b c : Bool) → (x ≡ Some (made number) → y ≡ Some (made number) → p ≡ q) → (if b then e else x) ≡ Some (made number) → (if c then e else y) ≡ Some (made number) → p ≡ q
  one_other e never x y true c old one two = absurd (never one)
  one_other e never x y false true old one two = absurd (never two)
  one_other e never x y false false old one two = old one two

-- one path alone names a new file
one_path : (number : ℕ) (start : Start) (calls : List Call) (p q : List ℕ) → node_at start calls p ≡ Some (made number) → node_at start calls q ≡ Some (made number) → p ≡ q
one_path number start [] p q one two = absurd (old_start start.content (start.number_at p) p number one)
one_path number start (created r ∷ calls) p q one two =
    one_new number p q r (length calls) (node_at start calls p) (node_at start calls q) (bytes_eq p r) (bytes_eq q r) (hits p r) (hits q r) (given number start calls p) (given number start calls q) (one_path number start calls p q) one two
one_path number start (opened r ∷ calls) p q one two =
    one_new number p q r (length calls) (node_at start calls p) (node_at start calls q) (bytes_eq p r) (bytes_eq q r) (hits p r) (hits q r) (given number start calls p) (given number start calls q) (one_path number start calls p q) one two
one_path number start (folder_made r ∷ calls) p q one two =
    one_other number p q (Some (folder (length calls))) (no_folder number (length calls)) (node_at start calls p) (node_at start calls q) (bytes_eq p r) (bytes_eq q r) (one_path number start calls p q) one two
one_path number start (renamed from to ∷ calls) p q one two =
    one_moved number p q from to (node_at start calls from) (node_at start calls p) (node_at start calls q) (bytes_eq p to) (bytes_eq p from) (bytes_eq q to) (bytes_eq q from) (hits p to) (hits q to)
    (misses p from) (misses q from) (one_path number start calls from p) (one_path number start calls from q) (one_path number start calls p q) one two
one_path number start (removed r ∷ calls) p q one two = one_other number p q None (no_new number) (node_at start calls p) (node_at start calls q) (bytes_eq p r) (bytes_eq q r) (one_path number start calls p q) one two
one_path number start (synced m bytes ∷ calls) p q one two = one_path number start calls p q one two
one_path number start (folder_synced f ∷ calls) p q one two = one_path number start calls p q one two
one_path number start (failed call ∷ calls) p q one two = one_path number start calls p q one two

-- a sync tells of one file alone
module _ (start : Start) (calls : List Call) (number : ℕ) (bytes : List ℕ) where
  other_file : (entry : Option Node) → (entry ≡ Some (made number) → ⊥) → held_by (content start (synced number bytes ∷ calls)) entry ≡ held_by (content start calls) entry
  other_file None apart = refl
  other_file (Some (there m)) apart = refl
  other_file (Some (folder m)) apart = refl
  other_file (Some (made m)) apart = ap (λ b. told_bytes (if b then Some bytes else new_content calls m)) (unlike m number (λ is. apart (ap (λ n. Some (made n)) is)))

  own_file : held_by (content start (synced number bytes ∷ calls)) (Some (made number)) ≡ Some (Some bytes)
  own_file = ap (λ b. told_bytes (if b then Some bytes else new_content calls number)) (eq-eqb number number refl)

  pub synced_held : (path : List ℕ) → node_at start calls path ≡ Some (made number) → held start (synced number bytes ∷ calls) path ≡ Some (Some bytes)
  synced_held path is = ap (held_by (content start (synced number bytes ∷ calls))) is ∙ own_file

  pub synced_others : (path : List ℕ) → node_at start calls path ≡ Some (made number) → (q : List ℕ) → q ≢ path → held start (synced number bytes ∷ calls) q ≡ held start calls q
  synced_others path is q other = other_file (node_at start calls q) (λ same. other (one_path number start calls q path same is))
