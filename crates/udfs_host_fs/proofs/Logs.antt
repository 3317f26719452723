-- What a call does to what a log tells of files: what paths hold, and what a crash may leave.
use Rattle.std.proofs.Common.{inl, inr, ⊎_elim, refl, sym, ◌∙◌, ap, subst, arith}
use Rattle.std.proofs.lemmas.Bool.{cases_Bool}
use Rattle.std.proofs.lemmas.Slice.Eq.{bytes_eq-Decides}
use Rattle.std.specs.Prelude.{◌≡◌, ◌≢◌, ℕ, Bool, true, false, List, [], ◌∷◌, length, Option, Some, None, if◌then◌else◌, bytes_eq, IfSome}
use Rattle.udfs_calls.proofs.SomeCrash.{alike, apart}
use Rattle.udfs_calls.specs.Lawful.{IsLawfulLog}
use Rattle.udfs_calls.specs.Log.{AreNamed, Call, IsAt, IsFresh, IsOpen, Log, Names, NamesSome, Node, Start, after, after_sync, content, held_by, holds, is_folder, is_named, kept, kept_of, moment_of, names_folder, new_content, node_at, number_now, shown, told_bytes}
use Rattle.udfs_calls.specs.Log.Call.{created, opened, synced, renamed, removed, folder_made, folder_synced, failed}
use Rattle.udfs_calls.specs.Log.Node.{there, made, folder}
use Rattle.udfs_calls.specs.Paths.{parent}
use Rattle.udfs_host_fs.proofs.Going.{goes_nowhere, goes_on}
use Rattle.udfs_host_fs.proofs.Meeting.{created_open, created_others, failed_held, folder_no_file, made_but, made_none, named_held, opened_open, opened_others, removed_gone, removed_others, renamed_gone, renamed_others, renamed_there, synced_held, synced_others}
use Rattle.udfs_host_fs.specs.Disk.{Disk, Gone, Goes, Moved, Same, SameBut}
use Rattle.udfs_host_fs.specs.Told.{LogGoes, Settles, kept_by, left_by, left_since_by}

-- ---- from one log to another

-- a log that is known goes on with a call of which a crash shows no more than this step
one_more : (start : Start) (calls : List Call) (call : Call) (step : Disk → Disk → Type 0) → ((d c : Disk) → shown start calls call d c → step d c)
    → LogGoes (Some (record { start = start; calls = calls })) (Some (record { start = start; calls = call ∷ calls })) step
one_more start calls call step widen = record {
  later = omega arith;
  now = λ c left. (left.0.0, left.0.1, widen left.0.0 c left.0.2);
  since = λ t c le left. ⊎_elim (λ now. inr (now.0.0, now.0.1, widen now.0.0 c now.0.2)) (λ before. inl before.1) left;
  keeps = λ t c le left. inr (le, left);
}

-- of a log that is not known nothing is told
nothing_told : (step : Disk → Disk → Type 0) → ((c : Disk) → step c c) → LogGoes None None step
nothing_told step idle = record {
  later = omega arith;
  now = λ c left. (c, tt, idle c);
  since = λ t c le left. inl tt;
  keeps = λ t c le left. tt;
}

-- a call of which a crash shows no more than this step
pub goes_by : (old new : Option Log) (call : Call) (step : Disk → Disk → Type 0) → ((c : Disk) → step c c) → ((start : Start) (calls : List Call) (d c : Disk) → old ≡ Some (record { start = start; calls = calls }) → shown start calls call d c → step d c)
    → new ≡ after call old → LogGoes old new step
goes_by None new call step idle widen e = subst (λ n. LogGoes None n step) (sym e) (nothing_told step idle)
goes_by (Some log) new call step idle widen e = subst (λ n. LogGoes (Some log) n step) (sym e) (one_more log.start log.calls call step (λ d c. widen log.start log.calls d c refl))

-- no call
pub stays_by : (old new : Option Log) (step : Disk → Disk → Type 0) → ((c : Disk) → step c c) → new ≡ old → LogGoes old new step
stays_by old new step idle e = subst (λ n. LogGoes old n step) (sym e) (goes_nowhere moment_of left_by left_since_by old step idle)

pub same_idle : (c : Disk) → Same c c
same_idle c q = refl

-- nothing changed
pub same_nowhere : (log : Option Log) → LogGoes log log Same
same_nowhere log = stays_by log log Same same_idle refl

pub same_goes : (old new : Option Log) → new ≡ old → LogGoes old new Same
same_goes old new e = stays_by old new Same same_idle e

-- two calls that a crash shows nothing of
pub same_then : (old mid new : Option Log) → LogGoes old mid Same → LogGoes mid new Same → LogGoes old new Same
same_then old mid new one two = goes_on moment_of left_by left_since_by old mid new Same Same Same one two (λ d c same. same) (λ d e c same again q. again q ∙ same q)

pub but_idle : (path : List ℕ) (c : Disk) → SameBut path c c
but_idle path c q other = refl

pub gone_idle : (path : List ℕ) (c : Disk) → Gone path c c
gone_idle path c = record { others = λ q other. refl; target = inl refl }

-- what the files of a machine do, as its log tells
pub by_log : {F : Type 0} (log : F → Option Log) (old new : F) (step : Disk → Disk → Type 0) → LogGoes (log old) (log new) step
    → Goes (λ f. moment_of (log f)) (λ f. left_by (log f)) (λ f. left_since_by (log f)) old new step
by_log log old new step goes = record { later = goes.later; now = goes.now; since = goes.since; keeps = goes.keeps }

-- ---- what is kept

pub kept_same : (old new : Option Log) (p q : List ℕ) (c : Option (List ℕ)) → holds new p ≡ holds old q → kept_by new p c → kept_by old q c
kept_same old new p q c e is = subst (λ h. kept_of h c) e is

pub kept_bytes : (log : Option Log) (p bytes : List ℕ) (c : Option (List ℕ)) → holds log p ≡ Some (Some bytes) → kept_by log p c → c ≡ Some bytes
kept_bytes log p bytes c e is = subst (λ h. kept_of h c) e is

-- ---- what is there

pub absent_held : (log : Option Log) (p : List ℕ) → (l : Log) × (log ≡ Some l) → Names log p None → holds log p ≡ Some None
absent_held None p known none = let bad : None ≡ Some known.0 = known.1 in cc
absent_held (Some log) p known none = ap (held_by (content log.start log.calls)) none

told_some : (b : Option (List ℕ)) → told_bytes b ≡ Some None → ⊥
told_some None is = let bad : None ≡ Some None = is in cc
told_some (Some xs) is = let bad : Some (Some xs) ≡ Some None = is in cc

entry_there : (bytes : Node → Option (List ℕ)) (entry : Option Node) → entry ≢ None → is_folder entry ≢ true → held_by bytes entry ≢ Some None
entry_there bytes None some no_folder is = some refl
entry_there bytes (Some (there number)) some no_folder is = told_some (bytes (there number)) is
entry_there bytes (Some (made number)) some no_folder is = told_some (bytes (made number)) is
entry_there bytes (Some (folder number)) some no_folder is = no_folder refl

pub there_held : (log : Option Log) (p : List ℕ) → NamesSome log p → names_folder log p ≢ true → holds log p ≢ Some None
there_held None p some no_folder is = let bad : None ≡ Some None = is in cc
there_held (Some log) p some no_folder is = entry_there (content log.start log.calls) (node_at log.start log.calls p) some no_folder is

-- what was opened has what is held, where something is there
pub held_whole : (h : Option (Option (List ℕ))) (b : Option (List ℕ)) → h ≢ Some None → IfSome h (λ held. IfSome held (λ all. b ≡ Some all)) → IfSome h (λ held. b ≡ held)
held_whole None b some is = tt
held_whole (Some None) b some is = absurd (some refl)
held_whole (Some (Some all)) b some is = is

-- ---- a call that failed, and a folder's sync

pub failed_holds : (old new : Option Log) (call : Call) → new ≡ after (failed call) old → (q : List ℕ) → holds new q ≡ holds old q
failed_holds None new call e q = ap (λ n. holds n q) e
failed_holds (Some log) new call e q = ap (λ n. holds n q) e ∙ failed_held log.start log.calls call q

pub named_holds : (old new : Option Log) (f : List ℕ) → new ≡ after (folder_synced f) old → (q : List ℕ) → holds new q ≡ holds old q
named_holds None new f e q = ap (λ n. holds n q) e
named_holds (Some log) new f e q = ap (λ n. holds n q) e ∙ named_held log.start log.calls f q

pub same_holds : (old new : Option Log) → new ≡ old → (q : List ℕ) → holds new q ≡ holds old q
same_holds old new e q = ap (λ n. holds n q) e

pub named_goes : (old new : Option Log) (f : List ℕ) → new ≡ after (folder_synced f) old → LogGoes old new Same
named_goes old new f e = goes_by old new (folder_synced f) Same same_idle (λ start calls d c is step. step) e

pub unnamed_goes : (old new : Option Log) (f : List ℕ) → new ≡ after (failed (folder_synced f)) old → LogGoes old new Same
unnamed_goes old new f e = goes_by old new (failed (folder_synced f)) Same same_idle (λ start calls d c is step. step) e

-- ---- a new file

module _ (old new : Option Log) (path : List ℕ) where
  pub created_goes : new ≡ after (created path) old → LogGoes old new (SameBut path)
  created_goes e = goes_by old new (created path) (SameBut path) (but_idle path) (λ start calls d c is step. made_but (node_at start calls path) path d c step) e

  pub uncreated_goes : new ≡ after (failed (created path)) old → LogGoes old new (SameBut path)
  uncreated_goes e = goes_by old new (failed (created path)) (SameBut path) (but_idle path) (λ start calls d c is step. made_but (node_at start calls path) path d c step) e

-- where something is, nothing is made
pub old_stays : (old new : Option Log) (path : List ℕ) → holds old path ≢ Some None → new ≡ after (failed (created path)) old → LogGoes old new Same
old_stays old new path some e = goes_by old new (failed (created path)) Same same_idle (λ start calls d c is step. made_none (node_at start calls path) path d c
    (λ none. some (ap (λ l. holds l path) is ∙ ap (held_by (content start calls)) none)) step) e

pub created_holds : (old new : Option Log) (path : List ℕ) → IsLawfulLog old → new ≡ after (created path) old → holds new path ≡ None
created_holds None new path lawful e = ap (λ n. holds n path) e
created_holds (Some log) new path lawful e = ap (λ n. holds n path) e ∙ created_open log.start log.calls path lawful

pub created_elsewhere : (old new : Option Log) (path : List ℕ) → new ≡ after (created path) old → (q : List ℕ) → q ≢ path → holds new q ≡ holds old q
created_elsewhere None new path e q other = ap (λ n. holds n q) e
created_elsewhere (Some log) new path e q other = ap (λ n. holds n q) e ∙ created_others log.start log.calls path q other

-- its number is the one at its path
pub created_at : (old new : Option Log) (path : List ℕ) (number : Option ℕ) → new ≡ after (created path) old → number ≡ number_now old → IsAt new path number
created_at None new path number e n = subst (λ l. IsAt l path number) (sym e) tt
created_at (Some log) new path number e n = subst (λ l. IsAt l path number) (sym e) (subst (IsAt (Some (record { start = log.start; calls = created path ∷ log.calls })) path) (sym n)
    (inl refl, ap (λ b. if b then Some (made (length log.calls)) else node_at log.start log.calls path) (alike path)))

-- where the log is known, it has one
pub created_numbered : (log : Option Log) (number : Option ℕ) → (l : Log) × (log ≡ Some l) → number ≡ number_now log → number ≢ None
created_numbered None number known n none = let bad : None ≡ Some known.0 = known.1 in cc
created_numbered (Some log) number known n none = let bad : None ≡ Some (length log.calls) = sym none ∙ n in cc

-- ---- what is written in place

pub opened_goes : (old new : Option Log) (path : List ℕ) → new ≡ after (opened path) old → LogGoes old new (SameBut path)
opened_goes old new path e = goes_by old new (opened path) (SameBut path) (but_idle path) (λ start calls d c is step. step) e

pub unopened_goes : (old new : Option Log) (path : List ℕ) → new ≡ after (failed (opened path)) old → LogGoes old new (SameBut path)
unopened_goes old new path e = goes_by old new (failed (opened path)) (SameBut path) (but_idle path) (λ start calls d c is step. step) e

pub opened_holds : (old new : Option Log) (path : List ℕ) → IsLawfulLog old → new ≡ after (opened path) old → holds new path ≡ None
opened_holds None new path lawful e = ap (λ n. holds n path) e
opened_holds (Some log) new path lawful e = ap (λ n. holds n path) e ∙ opened_open log.start log.calls path lawful

pub opened_elsewhere : (old new : Option Log) (path : List ℕ) → new ≡ after (opened path) old → (q : List ℕ) → q ≢ path → holds new q ≡ holds old q
opened_elsewhere None new path e q other = ap (λ n. holds n q) e
opened_elsewhere (Some log) new path e q other = ap (λ n. holds n q) e ∙ opened_others log.start log.calls path q other

unnumbered : (log : Option Log) (path : List ℕ) → IsAt log path None
unnumbered None path = tt
unnumbered (Some log) path = tt

pub opened_at : (log : Option Log) (path : List ℕ) (number : Option ℕ) → number ≡ None → IsAt log path number
opened_at log path number n = subst (IsAt log path) (sym n) (unnumbered log path)

-- ---- a file's sync

unknown : (b : Option (List ℕ)) → told_bytes b ≡ None → b ≡ None
unknown None is = refl
unknown (Some xs) is = let bad : Some (Some xs) ≡ None = is in cc

-- a new file whose path holds what is not known was not synced
pub still_open : (log : Option Log) (path : List ℕ) (number : Option ℕ) → IsAt log path number → holds log path ≡ None → IsOpen log number
still_open None path number at unsynced = tt
still_open (Some log) path None at unsynced = tt
still_open (Some log) path (Some number) at unsynced = (at.0, unknown (new_content log.calls number) (sym (ap (held_by (content log.start log.calls)) at.1) ∙ unsynced))

pub synced_goes : (old new : Option Log) (number : Option ℕ) (bytes : Option (List ℕ)) → new ≡ after_sync number bytes old → LogGoes old new Same
synced_goes old new None bytes e = stays_by old new Same same_idle e
synced_goes old new (Some number) None e = stays_by old new Same same_idle e
synced_goes old new (Some number) (Some bytes) e = goes_by old new (synced number bytes) Same same_idle (λ start calls d c is step. step) e

pub synced_elsewhere : (old new : Option Log) (path : List ℕ) (number : Option ℕ) (bytes : Option (List ℕ)) → IsAt old path number → new ≡ after_sync number bytes old → (q : List ℕ) → q ≢ path → holds new q ≡ holds old q
synced_elsewhere old new path None bytes at e q other = ap (λ n. holds n q) e
synced_elsewhere old new path (Some number) None at e q other = ap (λ n. holds n q) e
synced_elsewhere None new path (Some number) (Some bytes) at e q other = ap (λ n. holds n q) e
synced_elsewhere (Some log) new path (Some number) (Some bytes) at e q other = ap (λ n. holds n q) e ∙ synced_others log.start log.calls number bytes path at.1 q other

synced_known : (old new : Option Log) (path : List ℕ) (number : Option ℕ) (bytes : List ℕ) → (l : Log) × (old ≡ Some l) → number ≢ None → IsAt old path number → new ≡ after_sync number (Some bytes) old → holds new path ≡ Some (Some bytes)
synced_known old new path None bytes known numbered at e = absurd (numbered refl)
synced_known None new path (Some number) bytes known numbered at e = let bad : None ≡ Some known.0 = known.1 in cc
synced_known (Some log) new path (Some number) bytes known numbered at e = ap (λ n. holds n path) e ∙ synced_held log.start log.calls number bytes path at.1

pub synced_holds : (old new : Option Log) (path : List ℕ) (number : Option ℕ) (contents : Option (List ℕ)) (bytes : List ℕ) → (l : Log) × (old ≡ Some l) → number ≢ None → IsAt old path number → new ≡ after_sync number contents old → contents ≡ Some bytes → holds new path ≡ Some (Some bytes)
synced_holds old new path number contents bytes known numbered at e told = synced_known old new path number bytes known numbered at (e ∙ ap (λ b. after_sync number b old) told)

-- ---- a file is moved or removed

moved_shown : (from to : List ℕ) (d c : Disk) (start : Start) (calls : List Call) → shown start calls (renamed from to) d c → Moved from to (kept start calls from) d c
moved_shown from to d c start calls step = record { others = step.others; target = step.target }

moved_step : (old : Option Log) (from to : List ℕ) (start : Start) (calls : List Call) (d c : Disk) → old ≡ Some (record { start = start; calls = calls }) → shown start calls (renamed from to) d c → Moved from to (kept_by old from) d c
moved_step old from to start calls d c is step = subst (λ l. Moved from to (kept_by l from) d c) (sym is) (moved_shown from to d c start calls step)

module _ (old new : Option Log) (from to : List ℕ) where
  abbrev step : Disk → Disk → Type 0
  step = Moved from to (kept_by old from)

  idle : (c : Disk) → step c c
  idle c = record { others = λ q not_from not_to. refl; target = inl refl }

  pub renamed_goes : new ≡ after (renamed from to) old → LogGoes old new (Moved from to (kept_by old from))
  renamed_goes e = goes_by old new (renamed from to) step idle (λ start calls d c is shows. moved_step old from to start calls d c is shows) e

  pub unrenamed_goes : new ≡ after (failed (renamed from to)) old → LogGoes old new (Moved from to (kept_by old from))
  unrenamed_goes e = goes_by old new (failed (renamed from to)) step idle (λ start calls d c is shows. moved_step old from to start calls d c is shows) e

-- no file is moved
pub moves_nowhere : (log : Option Log) (from to : List ℕ) → LogGoes log log (Moved from to (kept_by log from))
moves_nowhere log from to = stays_by log log (Moved from to (kept_by log from)) (λ c. record { others = λ q not_from not_to. refl; target = inl refl }) refl

pub renamed_held : (old new : Option Log) (from to : List ℕ) → from ≢ to → new ≡ after (renamed from to) old → holds new to ≡ holds old from
renamed_held None new from to differ e = ap (λ n. holds n to) e
renamed_held (Some log) new from to differ e = ap (λ n. holds n to) e ∙ renamed_there log.start log.calls from to differ

pub renamed_away : (old new : Option Log) (from to : List ℕ) → (l : Log) × (old ≡ Some l) → from ≢ to → new ≡ after (renamed from to) old → holds new from ≡ Some None
renamed_away None new from to known differ e = let bad : None ≡ Some known.0 = known.1 in cc
renamed_away (Some log) new from to known differ e = ap (λ n. holds n from) e ∙ renamed_gone log.start log.calls from to differ

pub renamed_elsewhere : (old new : Option Log) (from to : List ℕ) → from ≢ to → new ≡ after (renamed from to) old → (q : List ℕ) → q ≢ from → q ≢ to → holds new q ≡ holds old q
renamed_elsewhere None new from to differ e q not_from not_to = ap (λ n. holds n q) e
renamed_elsewhere (Some log) new from to differ e q not_from not_to = ap (λ n. holds n q) e ∙ renamed_others log.start log.calls from to differ q not_from not_to

module _ (old new : Option Log) (path : List ℕ) where
  pub removed_goes : new ≡ after (removed path) old → LogGoes old new (Gone path)
  removed_goes e = goes_by old new (removed path) (Gone path) (gone_idle path) (λ start calls d c is step. record { others = step.others; target = step.target }) e

  pub unremoved_goes : new ≡ after (failed (removed path)) old → LogGoes old new (Gone path)
  unremoved_goes e = goes_by old new (failed (removed path)) (Gone path) (gone_idle path) (λ start calls d c is step. record { others = step.others; target = step.target }) e

pub removed_held : (old new : Option Log) (path : List ℕ) → (l : Log) × (old ≡ Some l) → new ≡ after (removed path) old → holds new path ≡ Some None
removed_held None new path known e = let bad : None ≡ Some known.0 = known.1 in cc
removed_held (Some log) new path known e = ap (λ n. holds n path) e ∙ removed_gone log.start log.calls path

pub removed_elsewhere : (old new : Option Log) (path : List ℕ) → new ≡ after (removed path) old → (q : List ℕ) → q ≢ path → holds new q ≡ holds old q
removed_elsewhere None new path e q other = ap (λ n. holds n q) e
removed_elsewhere (Some log) new path e q other = ap (λ n. holds n q) e ∙ removed_others log.start log.calls path q other

-- ---- folders

pub folder_goes : (old new : Option Log) (path : List ℕ) → new ≡ after (folder_made path) old → LogGoes old new Same
folder_goes old new path e = goes_by old new (folder_made path) Same same_idle (λ start calls d c is step. step) e

pub unmade_goes : (old new : Option Log) (path : List ℕ) → new ≡ after (failed (folder_made path)) old → LogGoes old new Same
unmade_goes old new path e = goes_by old new (failed (folder_made path)) Same same_idle (λ start calls d c is step. step) e

pub folder_holds : (old new : Option Log) (path : List ℕ) → Names old path None → new ≡ after (folder_made path) old → (q : List ℕ) → holds new q ≡ holds old q
folder_holds None new path none e q = ap (λ n. holds n q) e
folder_holds (Some log) new path none e q = ap (λ n. holds n q) e ∙ folder_no_file log.start log.calls path none q

-- it alone may not be on the disk by its name
pub folder_named : (old new : Option Log) (path : List ℕ) → AreNamed old None → new ≡ after (folder_made path) old → AreNamed new (Some path)
folder_named None new path named e = subst (λ l. AreNamed l (Some path)) (sym e) tt
folder_named (Some log) new path named e = subst (λ l. AreNamed l (Some path)) (sym e) (λ f other.
    ap (λ b. if b then false else is_named log.calls f) (apart f path (λ same. other (ap (λ p. Some p) (sym same)))) ∙ named f (λ none. cc))

-- nothing but a folder that is made loses its name
pub kept_named : (old new : Option Log) (but : Option (List ℕ)) → new ≡ old → AreNamed old but → AreNamed new but
kept_named old new but e named = subst (λ l. AreNamed l but) (sym e) named

pub failed_named : (old new : Option Log) (but : Option (List ℕ)) (call : Call) → new ≡ after (failed call) old → AreNamed old but → AreNamed new but
failed_named None new but call e named = subst (λ l. AreNamed l but) (sym e) tt
failed_named (Some log) new but call e named = subst (λ l. AreNamed l but) (sym e) named

pub created_named : (old new : Option Log) (but : Option (List ℕ)) (path : List ℕ) → new ≡ after (created path) old → AreNamed old but → AreNamed new but
created_named None new but path e named = subst (λ l. AreNamed l but) (sym e) tt
created_named (Some log) new but path e named = subst (λ l. AreNamed l but) (sym e) named

pub opened_named : (old new : Option Log) (but : Option (List ℕ)) (path : List ℕ) → new ≡ after (opened path) old → AreNamed old but → AreNamed new but
opened_named None new but path e named = subst (λ l. AreNamed l but) (sym e) tt
opened_named (Some log) new but path e named = subst (λ l. AreNamed l but) (sym e) named

pub renamed_named : (old new : Option Log) (but : Option (List ℕ)) (from to : List ℕ) → new ≡ after (renamed from to) old → AreNamed old but → AreNamed new but
renamed_named None new but from to e named = subst (λ l. AreNamed l but) (sym e) tt
renamed_named (Some log) new but from to e named = subst (λ l. AreNamed l but) (sym e) named

pub removed_named : (old new : Option Log) (but : Option (List ℕ)) (path : List ℕ) → new ≡ after (removed path) old → AreNamed old but → AreNamed new but
removed_named None new but path e named = subst (λ l. AreNamed l but) (sym e) tt
removed_named (Some log) new but path e named = subst (λ l. AreNamed l but) (sym e) named

pub synced_named : (old new : Option Log) (but : Option (List ℕ)) (number : Option ℕ) (bytes : Option (List ℕ)) → new ≡ after_sync number bytes old → AreNamed old but → AreNamed new but
synced_named old new but None bytes e named = kept_named old new but e named
synced_named old new but (Some number) None e named = kept_named old new but e named
synced_named None new but (Some number) (Some bytes) e named = subst (λ l. AreNamed l but) (sym e) tt
synced_named (Some log) new but (Some number) (Some bytes) e named = subst (λ l. AreNamed l but) (sym e) named

-- what was named stays so when a folder is synced
still_named : (b x y : Bool) → y ≡ true → (if b then (if x then true else y) else y) ≡ true
still_named true true y is = refl
still_named true false y is = is
still_named false x y is = is

pub folder_synced_named : (old new : Option Log) (but : Option (List ℕ)) (g : List ℕ) → new ≡ after (folder_synced g) old → AreNamed old but → AreNamed new but
folder_synced_named None new but g e named = subst (λ l. AreNamed l but) (sym e) tt
folder_synced_named (Some log) new but g e named = subst (λ l. AreNamed l but) (sym e) (λ f other. still_named (bytes_eq (parent f) g) (is_named log.calls g) (is_named log.calls f) (named f other))

-- the last folder is named once the folder that it is in is synced, which was named
pub last_named : (old new : Option Log) (last : List ℕ) → parent last ≢ last → new ≡ after (folder_synced (parent last)) old → AreNamed old (Some last) → AreNamed new None
last_named None new last apart e named = subst (λ l. AreNamed l None) (sym e) tt
last_named (Some log) new last differs e named = subst (λ l. AreNamed l None) (sym e) (λ f any. elim (cases_Bool (bytes_eq f last)) [
  | inl hit ↦
      let is : f ≡ last = (bytes_eq-Decides f last).0 hit in
      let own : is_named log.calls (parent last) ≡ true = named (parent last) (λ same. differs (sym (unsome same))) in
      ap (λ p. is_named (folder_synced (parent last) ∷ log.calls) p) is
      ∙ ap (λ b. if b then (if is_named log.calls (parent last) then true else is_named log.calls last) else is_named log.calls last) (alike (parent last))
      ∙ ap (λ b. if b then true else is_named log.calls last) own
  | inr miss ↦ still_named (bytes_eq (parent f) (parent last)) (is_named log.calls (parent last)) (is_named log.calls f) (named f (λ same. absurd (let is : f ≡ last = sym (unsome same) in let bad : true ≡ false = sym ((bytes_eq-Decides f last).1 is) ∙ miss in cc)))
])
  where
    or_none : Option (List ℕ) → List ℕ
    or_none None = []
    or_none (Some p) = p

    unsome : {p q : List ℕ} → Some p ≡ Some q → p ≡ q
    unsome e = ap or_none e

-- What was in a folder when it was synced stays, if its own name was on the disk.
pub names_stay : (first old new : Option Log) (but : Option (List ℕ)) (f : List ℕ) → but ≢ Some f → AreNamed old but → ((q : List ℕ) → holds old q ≡ holds first q) → new ≡ after (folder_synced f) old
    → Settles first new f
names_stay first old new but f other named same e c q left is = subst (λ h. kept_of h (c q)) (same q) (stay old new other named e left)
  where
    stay : (old new : Option Log) → but ≢ Some f → AreNamed old but → new ≡ after (folder_synced f) old → left_by new c → kept_by old q (c q)
    stay None new other named e left = tt
    stay (Some log) new other named e left = (subst (λ l. left_by l c) e left).1 (named f other) q is

-- what was in the folder of the last folder stays
pub last_settles : (old new : Option Log) (last : List ℕ) → parent last ≢ last → new ≡ after (folder_synced (parent last)) old → AreNamed old (Some last) → Settles old new (parent last)
last_settles old new last differs e named = names_stay old old new (Some last) (parent last) (λ same. differs (sym (path_in same))) named (λ q. refl) e
  where
    or_none : Option (List ℕ) → List ℕ
    or_none None = []
    or_none (Some p) = p

    path_in : {p q : List ℕ} → Some p ≡ Some q → p ≡ q
    path_in same = ap or_none same

-- ---- laws

pub fresh_named : (log : Option Log) → IsFresh log → AreNamed log None
fresh_named None fresh = tt
fresh_named (Some log) fresh = λ f any. ap (λ calls. is_named calls f) fresh
