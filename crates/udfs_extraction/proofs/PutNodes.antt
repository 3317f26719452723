-- How the nodes of a volume are gone through, and what was written stays.
use Rattle.std.proofs.lemmas.Bool.{cases_Bool}
use Rattle.std.proofs.lemmas.Slice.Eq.{bytes_eq-Decides}
use Rattle.std.specs.Prelude.{bytes_eq, true, false, Bool, cond, drop}
use Rattle.std.proofs.Common.{◌≡◌, ◌≢◌, inl, inr, ⊎_elim, ℕ, suc, ◌+◌, ◌++◌, ◌≤◌, ◌%◌, ◌^◌, List, [], ◌∷◌, Option, Some, None, refl, sym, ◌∙◌, subst, arith, length, ap, slice_get, if◌then◌else◌, rules, append_assoc}
use Rattle.std.specs.Io.KnownBytes.{Appends}
use Rattle.std.proofs.KnownBytes.{Appends-trans}
use Rattle.udfs_file.specs.declared.faults.Kind.{Kind}
use Rattle.udfs_file.specs.declared.faults.Kind.TheVariants as kind
use Rattle.udfs_host_fs.specs.Disk.{Disk, Same, SameBut, After, Goes}
use Rattle.udfs_lattice.specs.Volumes.{Blocks}
use Rattle.udfs_walk.specs.NodeFields.{NodeFields}
use Rattle.udfs_walk.specs.declared.standings.Standing.{Standing}
use Rattle.udfs_walk.specs.declared.standings.Standing.TheVariants as standing
use Rattle.udfs_salvage.specs.Extraction.{is_offered}
use Rattle.udfs_salvage.specs.Reports.{Report}
use Rattle.udfs_salvage.specs.declared.extraction.Fill.{Fill}
use Rattle.udfs_extraction.specs.Extracting.{Each, IsDone, IsIn, IsPut, IsSafe, Spares, Stay, TellsLines, TellsOn, all_good, deed, fate_lines, is_good}
use Rattle.udfs_common.specs.Keeping.{IsKept}
use Rattle.udfs_extraction.specs.declared.nodes.Deed.TheVariants.{Folder, File, Skip}
use Rattle.udfs_extraction.specs.declared.nodes.Fate.{Fate}
use Rattle.udfs_reading.specs.Device.{Stream}

abbrev pub Held : Type 0
Held = List ℕ → Option (Option (List ℕ))

-- a file is made only of a node that is offered
pub offered : (k : Kind) (s : Standing) (size : Option ℕ) (fill : Fill) → deed k s size fill ≡ File → is_offered s size fill ≡ true
offered kind.Directory standing.Whole size fill e = let bad : Folder ≡ File = e in cc
offered kind.Directory (standing.Torn torn) size fill e = let bad : Folder ≡ File = e in cc
offered kind.Directory standing.Loop size fill e = let bad : Skip ≡ File = e in cc
offered kind.Directory (standing.Fault f) size fill e = let bad : Folder ≡ File = e in cc
offered kind.File s size fill e = elim (cases_Bool (is_offered s size fill)) [
  | inl is ↦ is
  | inr not_so ↦ let bad : Skip ≡ File = sym (ap (λ b. cond b File Skip) not_so) ∙ e in cc
]
offered kind.Link s size fill e = let bad : Skip ≡ File = e in cc
offered (kind.Other t) s size fill e = let bad : Skip ≡ File = e in cc
offered kind.Unread s size fill e = let bad : Skip ≡ File = e in cc

-- one path alone is changed, and not where something was
pub stay_by : (path : List ℕ) (old new : Held) → ((q : List ℕ) → q ≢ path → new q ≡ old q) → (old path ≢ Some None → new path ≡ old path) → Stay old new
stay_by path old new others there q bytes is = elim (cases_Bool (bytes_eq q path)) [
  | inl hit ↦
      let e = (bytes_eq-Decides q path).0 hit in
      let at : old path ≡ Some (Some bytes) = subst (λ p. old p ≡ Some (Some bytes)) e is in
      subst (λ p. new p ≡ Some (Some bytes)) (sym e) (there (λ none. let bad : Some (Some bytes) ≡ Some None = sym at ∙ none in cc) ∙ at)
  | inr miss ↦ others q (λ e. let hit = (bytes_eq-Decides q path).1 e in let bad = sym hit ∙ miss in cc) ∙ is
]

module _ {F : Type 0} (moment : F → ℕ) (may_leave : F → Disk → Type 0) (left_since : F → ℕ → Disk → Type 0) where
  abbrev GoesBy : F → F → (Disk → Disk → Type 0) → Type 0
  GoesBy old new step = Goes moment may_leave left_since old new step

  pub goes_on : (old mid new : F) (first second whole : Disk → Disk → Type 0) → GoesBy old mid first → GoesBy mid new second
      → ((d c : Disk) → first d c → whole d c) → ((d e c : Disk) → first d e → second e c → whole d c) → GoesBy old new whole
  goes_on old mid new first second whole one two alone both = record {
    later = omega (arith, one.later, two.later);
    now = λ c left. join c (two.now c left);
    since = λ t c le left. ⊎_elim (λ before. ⊎_elim (λ long. inl long) (λ after. inr (after.0, after.1, alone _ _ after.2)) (one.since t c le before)) (λ after. inr (join c after)) (two.since t c (omega (arith, le, one.later)) left);
    keeps = λ t c le left. two.keeps t c (omega (arith, le, one.later)) (one.keeps t c le left);
  }
    where
      join : (c : Disk) → After (may_leave mid) second c → After (may_leave old) whole c
      join c after = let from = one.now after.0 after.1 in (from.0, from.1, both from.0 after.0 c from.2 after.2)

  pub goes_wider : (old new : F) (step wider : Disk → Disk → Type 0) → GoesBy old new step → ((d c : Disk) → step d c → wider d c) → GoesBy old new wider
  goes_wider old new step wider goes widen = record {
    later = goes.later;
    now = λ c left. let after = goes.now c left in (after.0, after.1, widen _ _ after.2);
    since = λ t c le left. ⊎_elim (λ long. inl long) (λ after. inr (after.0, after.1, widen _ _ after.2)) (goes.since t c le left);
    keeps = goes.keeps;
  }

  same_spares : (folder : List ℕ) (held : Held) (d c : Disk) → Same d c → Spares folder held d c
  same_spares folder held d c same = record { outside = λ q out. same q; there = λ q bytes is. same q }

  pub spares_all : (old new : F) (folder : List ℕ) (held : Held) → GoesBy old new Same → GoesBy old new (Spares folder held)
  spares_all old new folder held goes = goes_wider old new _ _ goes (same_spares folder held)

  pub spares_nothing : (files : F) (folder : List ℕ) (held : Held) → GoesBy files files (Spares folder held)
  spares_nothing files folder held = record {
    later = omega arith;
    now = λ c left. (c, left, same_spares folder held c c (λ q. refl));
    since = λ t c le left. inl left;
    keeps = λ t c le left. left;
  }

  -- a call at one path of the folder
  pub spares_at : (old new : F) (folder path : List ℕ) (held : Held) → IsIn folder path → GoesBy old new (SameBut path) → (held path ≢ Some None → GoesBy old new Same) → GoesBy old new (Spares folder held)
  spares_at old new folder path held is_in but same = by (held path) refl
    where
      widen : ((bytes : List ℕ) → held path ≢ Some (Some bytes)) → (d c : Disk) → SameBut path d c → Spares folder held d c
      widen never d c one = record {
        outside = λ q out. one q (λ e. out (subst (IsIn folder) (sym e) is_in));
        there = λ q bytes is. one q (λ e. never bytes (subst (λ p. held p ≡ Some (Some bytes)) e is));
      }

      by : (h : Option (Option (List ℕ))) → held path ≡ h → GoesBy old new (Spares folder held)
      by None e = goes_wider old new _ _ but (widen (λ bytes is. let bad : None ≡ Some (Some bytes) = sym e ∙ is in cc))
      by (Some None) e = goes_wider old new _ _ but (widen (λ bytes is. let bad : Some None ≡ Some (Some bytes) = sym e ∙ is in cc))
      by (Some (Some b)) e = spares_all old new folder held (same (λ none. let bad : Some (Some b) ≡ Some None = sym e ∙ none in cc))

  -- one call after another
  pub spares_on : (old mid new : F) (folder : List ℕ) (before held : Held) → Stay before held → GoesBy old mid (Spares folder before) → GoesBy mid new (Spares folder held) → GoesBy old new (Spares folder before)
  spares_on old mid new folder before held stay one two = goes_on old mid new _ _ _ one two (λ d c so_far. so_far)
      (λ d e c first second. record {
        outside = λ q out. second.outside q out ∙ first.outside q out;
        there = λ q bytes is. second.there q bytes (stay q bytes is) ∙ first.there q bytes is;
      })

  -- what each crash leaves is left from now on
  pub safe : (files : F) (holds : Held) (path bytes : List ℕ) → ((c : Disk) → left_since files (moment files) c → may_leave files c) → IsKept holds (may_leave files) path bytes
      → IsSafe holds (moment files) (left_since files) path bytes
  safe files holds path bytes only_now kept = record { held = kept.held; since = moment files; past = omega arith; durable = λ c left. kept.durable c (only_now c left) }

  -- and after a call that spares it
  safe_still : (mid new : F) (folder path bytes : List ℕ) (before after : Held) → ((t : ℕ) (c : Disk) → t ≤ moment mid → may_leave mid c → left_since mid t c) → Stay before after
      → GoesBy mid new (Spares folder before) → IsSafe before (moment mid) (left_since mid) path bytes → IsSafe after (moment new) (left_since new) path bytes
  safe_still mid new folder path bytes before after counts_now stay goes s = record {
    held = stay path bytes s.held;
    since = s.since;
    past = omega (arith, s.past, goes.later);
    durable = λ c left. ⊎_elim (λ long. s.durable c long) (λ next. next.2.there path bytes s.held ∙ s.durable next.0 (counts_now s.since next.0 s.past next.1)) (goes.since s.since c s.past left);
  }

  -- what was put stays put
  pub put_still : (tells fails : Type 0) (blocks : Blocks) (report : Report) (fill : Fill) (short : Bool) (folder : List ℕ) (mid new : F) (before after : Held) → ((t : ℕ) (c : Disk) → t ≤ moment mid → may_leave mid c → left_since mid t c)
      → (tells → Stay before after) → (tells → GoesBy mid new (Spares folder before)) → (k : ℕ) (n : NodeFields) (fate : Fate)
      → IsPut tells fails blocks report fill short folder before (moment mid) (left_since mid) k n fate → IsPut tells fails blocks report fill short folder after (moment new) (left_since new) k n fate
  put_still tells fails blocks report fill short folder mid new before after counts_now stay goes k n fate put = record {
    done = put.done;
    written = λ is told profile last reported. let w = put.written is told profile last reported in (w.0, w.1, safe_still mid new folder _ _ before after counts_now (stay told) (goes told) w.2);
    failed = put.failed;
  }

  -- and so did what was done of nodes that are asked for
  pub done_still : (only : List (List ℕ)) (tells fails : Type 0) (blocks : Blocks) (report : Report) (fill : Fill) (short : Bool) (folder : List ℕ) (mid new : F) (before after : Held) → ((t : ℕ) (c : Disk) → t ≤ moment mid → may_leave mid c → left_since mid t c)
      → (tells → Stay before after) → (tells → GoesBy mid new (Spares folder before)) → (k : ℕ) (n : NodeFields) (fate : Fate)
      → IsDone only (IsPut tells fails blocks report fill short folder before (moment mid) (left_since mid)) k n fate → IsDone only (IsPut tells fails blocks report fill short folder after (moment new) (left_since new)) k n fate
  done_still only tells fails blocks report fill short folder mid new before after counts_now stay goes k n fate done = record {
    asked = λ is. put_still tells fails blocks report fill short folder mid new before after counts_now stay goes k n fate (done.asked is);
    passed = done.passed;
  }

pub each_map : (P Q : ℕ → NodeFields → Fate → Type 0) → ((k : ℕ) (n : NodeFields) (fate : Fate) → P k n fate → Q k n fate) → (k : ℕ) (ns : List NodeFields) (fates : List Fate) → Each P k ns fates → Each Q k ns fates
each_map P Q to k ns [] each = tt
each_map P Q to k [] (fate ∷ fates) each = absurd each
each_map P Q to k (n ∷ ns) (fate ∷ fates) each = (to k n fate each.0, each_map P Q to (suc k) ns fates each.1)

pub each_more : (P : ℕ → NodeFields → Fate → Type 0) (k : ℕ) (ns : List NodeFields) (fates : List Fate) (n : NodeFields) (fate : Fate) → slice_get ns (length fates) ≡ Some n → Each P k ns fates → P (length fates + k) n fate → Each P k ns (fates ++ fate ∷ [])
each_more P k [] [] n fate at each one = let bad : None ≡ Some n = at in cc
each_more P k (m ∷ ns) [] n fate at each one = let e : m ≡ n = cc in let z : 0 + k ≡ k = omega arith in (subst (λ x. P k x fate) (sym e) (subst (λ x. P x n fate) z one), tt)
each_more P k [] (f ∷ fates) n fate at each one = absurd each
each_more P k (m ∷ ns) (f ∷ fates) n fate at each one = (each.0, each_more P (suc k) ns fates n fate at each.1 (subst (λ x. P x n fate) (omega arith) one))

pub lines_more : (lined : Fate → NodeFields → List ℕ) (ns : List NodeFields) (fates : List Fate) (n : NodeFields) (fate : Fate) → slice_get ns (length fates) ≡ Some n
    → fate_lines lined ns (fates ++ fate ∷ []) ≡ fate_lines lined ns fates ++ lined fate n
lines_more lined [] [] n fate at = let bad : None ≡ Some n = at in cc
lines_more lined (m ∷ ns) [] n fate at = let e : m ≡ n = cc in search rules
lines_more lined [] (f ∷ fates) n fate at = let bad : None ≡ Some n = at in cc
lines_more lined (m ∷ ns) (f ∷ fates) n fate at =
    ap (λ l. lined f m ++ l) (lines_more lined ns fates n fate at) ∙ sym (append_assoc (lined f m) (fate_lines lined ns fates) (lined fate n))

pub good_more : (fates : List Fate) (fate : Fate) → all_good (fates ++ fate ∷ []) ≡ (if is_good fate then all_good fates else false)
good_more fates fate = elim (cases_Bool (is_good fate)) [ inl good ↦ same fates good ∙ sym (ap (λ b. if b then all_good fates else false) good) | inr bad ↦ none fates bad ∙ sym (ap (λ b. if b then all_good fates else false) bad) ]
  where
    same : (fs : List Fate) → is_good fate ≡ true → all_good (fs ++ fate ∷ []) ≡ all_good fs
    same [] good = ap (λ b. if b then true else false) good
    same (f ∷ fs) good = ap (λ b. if is_good f then b else false) (same fs good)

    none : (fs : List Fate) → is_good fate ≡ false → all_good (fs ++ fate ∷ []) ≡ false
    none [] bad = ap (λ b. if b then true else false) bad
    none (f ∷ fs) bad = elim (cases_Bool (is_good f)) [
      | inl is ↦ ap (λ b. if b then all_good (fs ++ fate ∷ []) else false) is ∙ none fs bad
      | inr is ↦ ap (λ b. if b then all_good (fs ++ fate ∷ []) else false) is
    ]

pub tells_more : (heard : Bool) (old mid new : Stream) (text more : List ℕ) → TellsLines true old mid text → TellsLines heard mid new more → TellsLines heard old new (text ++ more)
tells_more true old mid new text more one two = record { given = Appends-trans _ _ _ _ _ one.given two.given; kept = two.kept ∙ one.kept }
tells_more false old mid new text more one two = record {
  out = text ++ two.out;
  rest = two.rest;
  given = Appends-trans _ _ _ _ _ one.given two.given;
  whole = ap (λ l. text ++ l) two.whole ∙ sym (append_assoc text two.out two.rest);
  moved = two.moved ∙ ap (λ n. (n + 1) % 2 ^ 64) one.kept;
}

pub tells_on : (before still : Bool) (old mid new : Stream) (text more : List ℕ) → TellsLines before old mid text → TellsOn before still mid new more → TellsLines still old new (text ++ more)
tells_on true still old mid new text more one two = tells_more still old mid new text more one two
tells_on false still old mid new text more one two = subst (λ b. TellsLines b old new (text ++ more)) (sym two.0) (record {
  out = one.out;
  rest = one.rest ++ more;
  given = subst (λ (m : Stream). Appends old.contents m.contents one.out) (sym two.1) one.given;
  whole = ap (λ l. l ++ more) one.whole ∙ append_assoc one.out one.rest more;
  moved = ap (λ (m : Stream). m.faults) two.1 ∙ one.moved;
})

pub each_few : (P : ℕ → NodeFields → Fate → Type 0) (k : ℕ) (ns : List NodeFields) (fates : List Fate) → Each P k ns fates → length fates ≤ length ns
each_few P k ns [] each = omega arith
each_few P k [] (f ∷ fates) each = absurd each
each_few P k (n ∷ ns) (f ∷ fates) each = let few = each_few P (suc k) ns fates each.1 in omega (arith, few)

pub all_behind : (ns : List NodeFields) (m : ℕ) → length ns ≤ m + 1 → length (drop 1 ns) ≤ m
all_behind [] m few = omega arith
all_behind (n ∷ ns) m few = let le : length ns ≤ m = omega (arith, few) in le

pub one_on : (ns : List NodeFields) (k : ℕ) → slice_get (drop 1 ns) k ≡ slice_get ns (suc k)
one_on [] k = refl
one_on (n ∷ ns) k = refl
