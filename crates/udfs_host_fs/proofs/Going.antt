-- How calls follow one another.
use Rattle.std.proofs.lemmas.Bool.{cases_Bool}
use Rattle.std.proofs.lemmas.Slice.Eq.{bytes_eq-Decides}
use Rattle.std.specs.Prelude.{bytes_eq}
use Rattle.std.proofs.Common.{◌≡◌, ◌≢◌, inl, inr, ⊎_elim, ℕ, ◌+◌, ◌++◌, List, [], Option, Some, refl, sym, ◌∙◌, subst, arith, codes, length, length-append, ap}
use Rattle.std.specs.Io.KnownBytes.{Appends}
use Rattle.udfs_host_fs.specs.Disk.{Disk, Same, SameBut, SameButOwn, IsOwn, Moved, Replaced, After, Goes}
use Rattle.udfs_host_fs.specs.Jobs.{HoldsSome, LeavesSome, ReplacedBySome}

module _ {F : Type 0} (moment : F → ℕ) (may_leave : F → Disk → Type 0) (left_since : F → ℕ → Disk → Type 0) where
  -- one call more
  pub goes_on : (old mid new : F) (first second whole : Disk → Disk → Type 0) → Goes moment may_leave left_since old mid first → Goes moment may_leave left_since mid new second
      → ((d c : Disk) → first d c → whole d c) → ((d e c : Disk) → first d e → second e c → whole d c) → Goes moment may_leave left_since old new whole
  goes_on old mid new first second whole one two alone both = record {
    later = omega (arith, one.later, two.later);
    now = λ c left. join c (two.now c left);
    since = λ t c le left. ⊎_elim (λ before. ⊎_elim (λ long. inl long) (λ after. inr (after.0, after.1, alone _ _ after.2)) (one.since t c le before)) (λ after. inr (join c after)) (two.since t c (omega (arith, le, one.later)) left);
    keeps = λ t c le left. two.keeps t c (omega (arith, le, one.later)) (one.keeps t c le left);
  }
    where
      join : (c : Disk) → After (may_leave mid) second c → After (may_leave old) whole c
      join c after = let from = one.now after.0 after.1 in (from.0, from.1, both from.0 after.0 c from.2 after.2)

  -- a step may be told as a wider one
  pub goes_wider : (old new : F) (step wider : Disk → Disk → Type 0) → Goes moment may_leave left_since old new step → ((d c : Disk) → step d c → wider d c) → Goes moment may_leave left_since old new wider
  goes_wider old new step wider goes widen = record {
    later = goes.later;
    now = λ c left. let after = goes.now c left in (after.0, after.1, widen _ _ after.2);
    since = λ t c le left. ⊎_elim (λ long. inl long) (λ after. inr (after.0, after.1, widen _ _ after.2)) (goes.since t c le left);
    keeps = goes.keeps;
  }

  -- no call at all
  pub goes_nowhere : (files : F) (step : Disk → Disk → Type 0) → ((c : Disk) → step c c) → Goes moment may_leave left_since files files step
  goes_nowhere files step idle = record {
    later = omega arith;
    now = λ c left. (c, left, idle c);
    since = λ t c le left. inl left;
    keeps = λ t c le left. left;
  }

pub but_twice : (path : List ℕ) (d e c : Disk) → SameBut path d e → SameBut path e c → SameBut path d c
but_twice path d e c one two = λ q other. two q other ∙ one q other

-- a path is longer with more behind it
pub never_own : (path : List ℕ) → ¬ IsOwn path path
never_own path own =
    let lengths : length path ≡ length path + length (codes ".unfinished") + length own.0 =
    ap length own.1 ∙ length-append (path ++ codes ".unfinished") own.0 ∙ ap (λ n. n + length own.0) (length-append path (codes ".unfinished")) in
    let eleven : length (codes ".unfinished") ≡ 11 = refl in
    omega (arith, lengths, eleven)

pub own_apart : (path own : List ℕ) → IsOwn path own → own ≢ path
own_apart path own is e = never_own path (subst (IsOwn path) e is)

module _ (path : List ℕ) (Is : List ℕ → Type 0) where
  pub own_only : (d c : Disk) → SameButOwn path d c → ReplacedBySome path Is d c
  own_only d c same = record { whole = inl (same path (never_own path)); others = λ q far not_path. same q far }

  pub own_then_replaced : (d e c : Disk) → SameButOwn path d e → ReplacedBySome path Is e c → ReplacedBySome path Is d c
  own_then_replaced d e c one two = record {
    whole = ⊎_elim (λ same. inl (same ∙ one path (never_own path))) (λ new. inr new) two.whole;
    others = λ q far not_path. two.others q far not_path ∙ one q far;
  }

pub own_again : (path : List ℕ) (d e c : Disk) → SameButOwn path d e → SameButOwn path e c → SameButOwn path d c
own_again path d e c one two q far = two q far ∙ one q far

-- what a job wrote into an output that was empty
pub wrote_new : (W : Option (List ℕ) → Option (List ℕ) → Type 0) (a b : Option (List ℕ)) (bytes : List ℕ) → a ≡ Some [] → b ≡ Some bytes → W a b → W (Some []) (Some bytes)
wrote_new W a b bytes p q w = subst (λ x. W x (Some bytes)) p (subst (λ y. W a y) q w)

-- what another path holds, where it is the same
pub held_there : (Is : List ℕ → Type 0) (a b : Option (Option (List ℕ))) → b ≡ a → HoldsSome Is a → HoldsSome Is b
held_there Is a b e some = (some.0, some.1, e ∙ some.2)

-- what a content's job wrote into a new file is the content
pub content_held : (bytes : List ℕ) (held : Option (Option (List ℕ))) → HoldsSome (λ b. Appends (Some []) (Some b) bytes) held → held ≡ Some (Some bytes)
content_held bytes held some = some.2 ∙ ap (λ b. Some (Some b)) some.1

pub content_left : (bytes : List ℕ) (left : Option (List ℕ)) → LeavesSome (λ b. Appends (Some []) (Some b) bytes) left → left ≡ Some bytes
content_left bytes left some = some.2 ∙ ap (λ b. Some b) some.1

module _ (own path : List ℕ) (Is : List ℕ → Type 0) (is_own : IsOwn path own) (apart : own ≢ path) where
  not_it : (q : List ℕ) → (¬ IsOwn path q) → q ≢ own
  not_it q far e = far (subst (IsOwn path) (sym e) is_own)

  pub but_own : (d c : Disk) → SameBut own d c → SameButOwn path d c
  but_own d c same q far = same q (not_it q far)

  own_alone : (d c : Disk) → SameBut own d c → ReplacedBySome path Is d c
  own_alone d c same = record { whole = inl (same path (λ is. apart (sym is))); others = λ q far not_path. same q (not_it q far) }

  own_twice : (d e c : Disk) → SameBut own d e → SameBut own e c → ReplacedBySome path Is d c
  own_twice d e c one two = own_alone d c (but_twice own d e c one two)

  -- the new file was written whole, and is moved
  moved : (kept : Option (List ℕ) → Type 0) → ((c : Option (List ℕ)) → kept c → LeavesSome Is c) → (d e c : Disk) → SameBut own d e → Moved own path kept e c → ReplacedBySome path Is d c
  moved kept whole d e c one two = record {
    whole = ⊎_elim (λ same. inl (same ∙ one path (λ is. apart (sym is)))) (λ new. inr (whole (c path) new)) two.target;
    others = λ q far not_path. two.others q (not_it q far) not_path ∙ one q (not_it q far);
  }

  removed : (d e c : Disk) → ReplacedBySome path Is d e → SameBut own e c → ReplacedBySome path Is d c
  removed d e c one two = record {
    whole = let same = two path (λ is. apart (sym is)) in ⊎_elim (λ old. inl (same ∙ old)) (λ new. inr (new.0, new.1, same ∙ new.2)) one.whole;
    others = λ q far not_path. two q (not_it q far) ∙ one.others q far not_path;
  }

  named : (d e c : Disk) → ReplacedBySome path Is d e → Same e c → ReplacedBySome path Is d c
  named d e c one two = record {
    whole = ⊎_elim (λ old. inl (two path ∙ old)) (λ new. inr (new.0, new.1, two path ∙ new.2)) one.whole;
    others = λ q far not_path. two q ∙ one.others q far not_path;
  }

  module _ {F : Type 0} (moment : F → ℕ) (may_leave : F → Disk → Type 0) (left_since : F → ℕ → Disk → Type 0) where
    abbrev GoesBy : F → F → (Disk → Disk → Type 0) → Type 0
    GoesBy old new step = Goes moment may_leave left_since old new step

    -- after a new file that could not be made
    pub not_made : (old new : F) → GoesBy old new (SameBut own) → GoesBy old new (ReplacedBySome path Is)
    not_made old new goes = goes_wider moment may_leave left_since old new _ _ goes own_alone

    pub not_tried : (old new : F) → GoesBy old new (SameBut own) → GoesBy old new (SameButOwn path)
    not_tried old new goes = goes_wider moment may_leave left_since old new _ _ goes but_own

    -- after one that could not be written, and is removed
    pub not_written : (old mid new : F) → GoesBy old mid (SameBut own) → GoesBy mid new (SameBut own) → GoesBy old new (ReplacedBySome path Is)
    not_written old mid new one two = goes_on moment may_leave left_since old mid new _ _ _ one two own_alone own_twice

    pub written : (old mid new : F) (kept : Option (List ℕ) → Type 0) → ((c : Option (List ℕ)) → kept c → LeavesSome Is c) → GoesBy old mid (SameBut own) → GoesBy mid new (Moved own path kept) → GoesBy old new (ReplacedBySome path Is)
    written old mid new kept whole one two = goes_on moment may_leave left_since old mid new _ _ _ one two own_alone (moved kept whole)

    pub then_removed : (old mid new : F) → GoesBy old mid (ReplacedBySome path Is) → GoesBy mid new (SameBut own) → GoesBy old new (ReplacedBySome path Is)
    then_removed old mid new one two = goes_on moment may_leave left_since old mid new _ _ _ one two (λ d c so_far. so_far) removed

    pub then_named : (old mid new : F) → GoesBy old mid (ReplacedBySome path Is) → GoesBy mid new Same → GoesBy old new (ReplacedBySome path Is)
    then_named old mid new one two = goes_on moment may_leave left_since old mid new _ _ _ one two (λ d c so_far. so_far) named

module _ {F : Type 0} (moment : F → ℕ) (may_leave : F → Disk → Type 0) (left_since : F → ℕ → Disk → Type 0) where
  -- from the beginning on
  pub each : (path bytes : List ℕ) → ((files : F) (c : Disk) → left_since files (moment files) c → may_leave files c) → (old new : F) → Goes moment may_leave left_since old new (Replaced path bytes)
      → (c : Disk) → left_since new (moment old) c → After (may_leave old) (Replaced path bytes) c
  each path bytes only_now old new goes c left =
      ⊎_elim (λ at_first. (c, only_now old c at_first, record { whole = inl refl; others = λ q far not_path. refl })) (λ after. after) (goes.since (moment old) c (omega arith) left)

  -- after paths at which nothing could be made
  pub tried_then_replaced : (path : List ℕ) (Is : List ℕ → Type 0) (old mid new : F) → Goes moment may_leave left_since old mid (SameButOwn path) → Goes moment may_leave left_since mid new (ReplacedBySome path Is) → Goes moment may_leave left_since old new (ReplacedBySome path Is)
  tried_then_replaced path Is old mid new one two = goes_on moment may_leave left_since old mid new _ _ _ one two (own_only path Is) (own_then_replaced path Is)

  pub tried_again : (path : List ℕ) (old mid new : F) → Goes moment may_leave left_since old mid (SameButOwn path) → Goes moment may_leave left_since mid new (SameButOwn path) → Goes moment may_leave left_since old new (SameButOwn path)
  tried_again path old mid new one two = goes_on moment may_leave left_since old mid new _ _ _ one two (λ d c so_far. so_far) (own_again path)

  pub only_tried : (path : List ℕ) (Is : List ℕ → Type 0) (old new : F) → Goes moment may_leave left_since old new (SameButOwn path) → Goes moment may_leave left_since old new (ReplacedBySome path Is)
  only_tried path Is old new goes = goes_wider moment may_leave left_since old new _ _ goes (own_only path Is)

  -- what a content's job wrote into a new file is the content
  pub content_goes : (path bytes : List ℕ) (old new : F) → Goes moment may_leave left_since old new (ReplacedBySome path (λ b. Appends (Some []) (Some b) bytes)) → Goes moment may_leave left_since old new (Replaced path bytes)
  content_goes path bytes old new goes = goes_wider moment may_leave left_since old new _ _ goes (λ d c step. record { whole = ⊎_elim (λ same. inl same) (λ new. inr (content_left bytes (c path) new)) step.whole; others = step.others })

-- two that agree at a path and elsewhere agree
pub agree : {V : Type 0} (own : List ℕ) (h k : List ℕ → V) → h own ≡ k own → ((q : List ℕ) → q ≢ own → h q ≡ k q) → (q : List ℕ) → h q ≡ k q
agree own h k at elsewhere q = elim (cases_Bool (bytes_eq q own)) [
  | inl hit ↦ let e = (bytes_eq-Decides q own).0 hit in ap h e ∙ at ∙ sym (ap k e)
  | inr miss ↦ elsewhere q (λ e. let hit = (bytes_eq-Decides q own).1 e in let bad = sym hit ∙ miss in cc)
]
