-- How the calls that put an image and its mapfile follow one another.
use Rattle.std.proofs.Common.{◌≡◌, inl, inr, ⊎_elim, ℕ, List, Some, None, refl, sym, ◌∙◌, arith}
use Rattle.udfs_host_fs.specs.Disk.{Disk, Same, Gone, Replaced, After, Goes}
use Rattle.udfs_tables.specs.Pairing.{BothReplaced}
use Rattle.udfs_common.specs.Guarding.{IsApart}

module _ {F : Type 0} (moment : F → ℕ) (may_leave : F → Disk → Type 0) (left_since : F → ℕ → Disk → Type 0) where
  -- one call more, of which it is known what a crash before it leaves
  pub goes_by : (old mid new : F) (first second whole : Disk → Disk → Type 0) → Goes moment may_leave left_since old mid first → Goes moment may_leave left_since mid new second
      → ((d c : Disk) → first d c → whole d c) → ((d e c : Disk) → first d e → may_leave mid e → second e c → whole d c) → Goes moment may_leave left_since old new whole
  goes_by old mid new first second whole one two alone both = record {
    later = omega (arith, one.later, two.later);
    now = λ c left. join c (two.now c left);
    since = λ t c le left. ⊎_elim (λ before. ⊎_elim (λ long. inl long) (λ after. inr (after.0, after.1, alone _ _ after.2)) (one.since t c le before)) (λ after. inr (join c after)) (two.since t c (omega (arith, le, one.later)) left);
    keeps = λ t c le left. two.keeps t c (omega (arith, le, one.later)) (one.keeps t c le left);
  }
    where
      join : (c : Disk) → After (may_leave mid) second c → After (may_leave old) whole c
      join c after = let from = one.now after.0 after.1 in (from.0, from.1, both from.0 after.0 c from.2 after.1 after.2)

  -- a step may be told as a wider one
  pub goes_wider : (old new : F) (step wider : Disk → Disk → Type 0) → Goes moment may_leave left_since old new step → ((d c : Disk) → step d c → wider d c) → Goes moment may_leave left_since old new wider
  goes_wider old new step wider goes widen = record {
    later = goes.later;
    now = λ c left. let after = goes.now c left in (after.0, after.1, widen _ _ after.2);
    since = λ t c le left. ⊎_elim (λ long. inl long) (λ after. inr (after.0, after.1, widen _ _ after.2)) (goes.since t c le left);
    keeps = goes.keeps;
  }

  -- no call at all
  pub goes_nowhere : (files : F) (path : List ℕ) → Goes moment may_leave left_since files files (Gone path)
  goes_nowhere files path = record {
    later = omega arith;
    now = λ c left. (c, left, record { others = λ q other. refl; target = inl refl });
    since = λ t c le left. inl left;
    keeps = λ t c le left. left;
  }

  -- from the beginning on
  pub each : (step : Disk → Disk → Type 0) → ((files : F) (c : Disk) → left_since files (moment files) c → may_leave files c) → ((c : Disk) → step c c) → (old new : F) → Goes moment may_leave left_since old new step
      → (c : Disk) → left_since new (moment old) c → After (may_leave old) step c
  each step only_now idle old new goes c left = ⊎_elim (λ at_first. (c, only_now old c at_first, idle c)) (λ after. after) (goes.since (moment old) c (omega arith) left)

  -- a name was removed, and its folder synced
  pub cleared : (old mid new : F) (path : List ℕ) → Goes moment may_leave left_since old mid (Gone path) → Goes moment may_leave left_since mid new Same → Goes moment may_leave left_since old new (Gone path)
  cleared old mid new path one two = goes_by old mid new _ _ _ one two (λ d c so_far. so_far)
      (λ d e c first known second. record {
        others = λ q other. second q ∙ first.others q other;
        target = ⊎_elim (λ same. inl (second path ∙ same)) (λ none. inr (second path ∙ none)) first.target;
      })

  module _ (image mapfile bytes text : List ℕ) (apart : IsApart image mapfile) where
    abbrev Both : Disk → Disk → Type 0
    Both = BothReplaced image mapfile bytes text

    only_gone : (d c : Disk) → Gone mapfile d c → Both d c
    only_gone d c gone = record {
      stand = ⊎_elim (λ same. inl (gone.others image apart.differ, same)) (λ none. inr (inl (none, inl (gone.others image apart.differ)))) gone.target;
      others = λ q a b not_image not_mapfile. gone.others q not_mapfile;
    }

    -- an old mapfile was removed
    pub after_clear : (old new : F) → Goes moment may_leave left_since old new (Gone mapfile) → Goes moment may_leave left_since old new Both
    after_clear old new goes = goes_wider old new _ _ goes only_gone

    -- and the image put
    pub after_image : (old mid new : F) → Goes moment may_leave left_since old mid (Gone mapfile) → ((c : Disk) → may_leave mid c → c mapfile ≡ None) → Goes moment may_leave left_since mid new (Replaced image bytes)
        → Goes moment may_leave left_since old new Both
    after_image old mid new one none two = goes_by old mid new _ _ _ one two only_gone
        (λ d e c first known second. record {
          stand = inr (inl (
            second.others mapfile apart.mapfile_is_no_own (λ is. apart.differ (sym is)) ∙ none e known,
            ⊎_elim (λ same. inl (same ∙ first.others image apart.differ)) (λ new_one. inr new_one) second.whole,
          ));
          others = λ q a b not_image not_mapfile. second.others q a not_image ∙ first.others q not_mapfile;
        })

    -- no mapfile is there still
    pub still_none : (mid new : F) → ((c : Disk) → may_leave mid c → c mapfile ≡ None) → Goes moment may_leave left_since mid new (Replaced image bytes) → (c : Disk) → may_leave new c → c mapfile ≡ None
    still_none mid new none two c left =
        let after = two.now c left in
        after.2.others mapfile apart.mapfile_is_no_own (λ is. apart.differ (sym is)) ∙ none after.0 after.1

    -- and the mapfile put
    pub after_mapfile : (old mid new : F) → Goes moment may_leave left_since old mid Both → ((c : Disk) → may_leave mid c → c image ≡ Some bytes) → ((c : Disk) → may_leave mid c → c mapfile ≡ None)
        → Goes moment may_leave left_since mid new (Replaced mapfile text) → Goes moment may_leave left_since old new Both
    after_mapfile old mid new one has none two = goes_by old mid new _ _ _ one two (λ d c so_far. so_far)
        (λ d e c first known second.
        let is : c image ≡ Some bytes = second.others image apart.image_is_no_own apart.differ ∙ has e known in
        record {
          stand = ⊎_elim (λ same. inr (inl (same ∙ none e known, inr is))) (λ new_one. inr (inr (is, new_one))) second.whole;
          others = λ q a b not_image not_mapfile. second.others q b not_mapfile ∙ first.others q a b not_image not_mapfile;
        })

    -- the image is there still
    pub still_image : (mid new : F) → ((c : Disk) → may_leave mid c → c image ≡ Some bytes) → Goes moment may_leave left_since mid new (Replaced mapfile text) → (c : Disk) → may_leave new c → c image ≡ Some bytes
    still_image mid new has two c left =
        let after = two.now c left in
        after.2.others image apart.image_is_no_own apart.differ ∙ has after.0 after.1
