-- What a walk still owes: all that stands below the entries that are left.
--     IsWalking v root nodes frames room     the nodes so far, and what the directories still owe, are all
use Rattle.std.proofs.Common.{◌≡◌, refl, sym, ◌∙◌, ap, subst, ℕ, ◌+◌, ◌-◌, ◌<◌, ◌≤◌, false, List, [], ◌∷◌, ◌++◌, Option, None, Some, length, map, arith, append_assoc, length-append, drop, get_or}
use Rattle.std.specs.Prelude.{suc, flat_map, Result, Err, IfErr, IsErrAnd, MatchResult}
use Rattle.std.proofs.lemmas.Result.{err_from_is_err_and}
use Rattle.std.proofs.lemmas.List.{append-nil, drop_more, length-drop, length-map}
use Rattle.udfs_tag.specs.declared.layouts.LongAd.{LongAd}
use Rattle.udfs_space.specs.Places.{View}
use Rattle.udfs_file.specs.declared.directories.DirEntry.{DirEntry}
use Rattle.udfs_walk.specs.NodeFields.{NodeFields}
use Rattle.udfs_walk.specs.Targets.{Icb, icb_of}
use Rattle.udfs_walk.specs.Routes.{Walked, at_root, inside, entries_below, HasMoreRoutes}
use Rattle.udfs_walk.specs.Unsettled.{AreUnsettled, unsettled}
use Rattle.udfs_walk.specs.Visits.{AreRefused, end_at}
use Rattle.udfs_walk.specs.Frames.{FrameFields, HasManyBelow, IsFrameOf, IsStepRefused, count_left, frame_at, IsNextTaken, frames_with}
use Rattle.udfs_walk.specs.Walks.{IsNodesRefused}
use Rattle.udfs_walk.specs.GivingUp.{IfTold}
use Rattle.udfs_walk.specs.declared.answers.NodesGaveUp.{NodesGaveUp}
use Rattle.udfs_walk.specs.declared.answers.NodesGaveUp.TheVariants.{TooManyPaths, OutOfMemory, Unread}
use Rattle.udfs_walk.proofs.Trees.{tree, tree-is, tree_walk, tree_more}

-- what one directory owes
abbrev pub owed_frame : View → FrameFields → List Walked
owed_frame v f = flat_map (λ e. tree v (inside f.path f.above e)) f.left

-- what all owe, the last first
abbrev pub owed : View → List FrameFields → List Walked
owed v [] = []
owed v (f ∷ fs) = owed v fs ++ owed_frame v f

-- how many entries are left in all
abbrev pub left_in : List FrameFields → ℕ
left_in [] = 0
left_in (f ∷ fs) = left_in fs + length f.left

-- and there is room for so many nodes more
pub record IsWalking (v : View) (root : LongAd) (nodes : List NodeFields) (frames : List FrameFields) (room : ℕ) : Type 0 where
  pub all : map (unsettled v) (tree v (at_root root)) ≡ nodes ++ map (unsettled v) (owed v frames)
  pub few : length nodes + left_in frames + room ≡ 65536

owed_last : (v : View) (fs : List FrameFields) (f : FrameFields) → owed v (fs ++ f ∷ []) ≡ owed_frame v f ++ owed v fs
owed_last v [] f = sym (append-nil (owed_frame v f))
owed_last v (g ∷ fs) f = ap (λ x. x ++ owed_frame v g) (owed_last v fs f) ∙ append_assoc (owed_frame v f) (owed v fs) (owed_frame v g)

-- a place, and then what it owes as a directory
tree_frame : (v : View) (w : Walked) → tree v w ≡ w ∷ owed_frame v (frame_at v w)
tree_frame v w = tree-is v w

-- a directory that need not be frames_with owes nothing
kept_owed : (v : View) (fs : List FrameFields) (o : Option FrameFields) (f : FrameFields) → IsFrameOf o f → owed_frame v f ++ owed v fs ≡ owed v (frames_with fs o)
kept_owed v fs None f e = ap (λ es. flat_map (λ e. tree v (inside f.path f.above e)) es ++ owed v fs) e
kept_owed v fs (Some g) f e = ap (λ x. owed_frame v x ++ owed v fs) (sym e) ∙ sym (owed_last v fs g)

pub left_last : (fs : List FrameFields) (f : FrameFields) → left_in (fs ++ f ∷ []) ≡ left_in fs + length f.left
left_last [] f = refl
left_last (g ∷ fs) f = let e : left_in (fs ++ f ∷ []) ≡ left_in fs + length f.left = left_last fs f in omega (arith, e)

left_kept : (fs : List FrameFields) (o : Option FrameFields) → left_in (frames_with fs o) ≡ left_in fs + count_left o
left_kept fs None = omega arith
left_kept fs (Some f) = left_last fs f

pub walk_start : (v : View) (root : LongAd) (n : NodeFields) (f : Option FrameFields) (path : List (List ℕ)) (above : List Icb) (nodes : List NodeFields) (frames : List FrameFields) (room : ℕ)
    → path ≡ [] → above ≡ [] → n ≡ unsettled v (end_at root path above false) → IsFrameOf f (frame_at v (end_at root path above false)) → nodes ≡ n ∷ [] → frames ≡ frames_with [] f
    → count_left f + room ≡ 65535 → IsWalking v root nodes frames room
walk_start v root n f path above nodes frames room p a en ef ns fs h = record {
  all = ap (map (unsettled v)) (tree_frame v (at_root root))
      ∙ (λ i. unsettled v (end_at root (sym p i) (sym a i) false) ∷ map (unsettled v) (owed_frame v (frame_at v (end_at root (sym p i) (sym a i) false))))
      ∙ (λ i. sym en i ∷ map (unsettled v) (sym (append-nil (owed_frame v (frame_at v (end_at root path above false)))) i))
      ∙ ap (λ x. n ∷ map (unsettled v) x) (kept_owed v [] f (frame_at v (end_at root path above false)) ef)
      ∙ (λ i. sym ns i ++ map (unsettled v) (owed v (sym fs i)));
  few = let l : left_in frames ≡ 0 + count_left f = ap left_in fs ∙ left_kept [] f in let one : length nodes ≡ 1 = ap length ns in omega (arith, h, l, one);
}

pub walk_none : (v : View) (root : LongAd) (nodes : List NodeFields) (frames rest : List FrameFields) (f : FrameFields) (room : ℕ) → IsWalking v root nodes frames room
    → frames ≡ rest ++ f ∷ [] → f.left ≡ [] → IsWalking v root nodes rest room
walk_none v root nodes frames rest f room w e l = record {
  all = w.all ∙ ap (λ x. nodes ++ map (unsettled v) x)
      (ap (owed v) e ∙ owed_last v rest f ∙ ap (λ es. flat_map (λ e. tree v (inside f.path f.above e)) es ++ owed v rest) l);
  few = let a : left_in frames ≡ left_in rest + length f.left = ap left_in e ∙ left_last rest f in let z : length f.left ≡ 0 = ap length l in let h = w.few in omega (arith, a, z, h);
}

-- where an entry is left, the last directory owes it and what is below it
taken_owed : (v : View) (frames rest : List FrameFields) (f g : FrameFields) (n : NodeFields) (b : Option FrameFields) → frames ≡ rest ++ f ∷ []
    → (t : IsNextTaken v f g n b) → owed v frames ≡ inside f.path f.above t.entry ∷ owed v (frames_with (rest ++ g ∷ []) b)
taken_owed v frames rest f g n b e t =
    ap (owed v) e ∙ owed_last v rest f
    ∙ ap (λ es. flat_map (λ e. tree v (inside f.path f.above e)) es ++ owed v rest) t.first
    ∙ ap (λ x. (x ++ flat_map (λ e. tree v (inside f.path f.above e)) g.left) ++ owed v rest) (tree_frame v (inside f.path f.above t.entry))
    ∙ ap (λ x. inside f.path f.above t.entry ∷ x) (
    append_assoc (owed_frame v (frame_at v (inside f.path f.above t.entry))) (flat_map (λ e. tree v (inside f.path f.above e)) g.left) (owed v rest)
    ∙ (λ i. owed_frame v (frame_at v (inside f.path f.above t.entry)) ++ (flat_map (λ e. tree v (inside (sym t.path i) (sym t.above i) e)) g.left ++ owed v rest))
    ∙ ap (λ x. owed_frame v (frame_at v (inside f.path f.above t.entry)) ++ x) (sym (owed_last v rest g))
    ∙ kept_owed v (rest ++ g ∷ []) b (frame_at v (inside f.path f.above t.entry)) t.frame)

-- and one entry fewer is left in it
taken_left : (v : View) (frames rest : List FrameFields) (f g : FrameFields) (n : NodeFields) (b : Option FrameFields) → frames ≡ rest ++ f ∷ []
    → IsNextTaken v f g n b → left_in frames ≡ left_in rest + length g.left + 1
taken_left v frames rest f g n b e t =
    let a : left_in frames ≡ left_in rest + length f.left = ap left_in e ∙ left_last rest f in
    let l : length f.left ≡ suc (length g.left) = ap length t.first in
    omega (arith, a, l)

-- so there are fewer nodes than the limit
pub walk_short : (v : View) (root : LongAd) (nodes : List NodeFields) (frames rest : List FrameFields) (f g : FrameFields) (n : NodeFields) (b : Option FrameFields) (room : ℕ)
    → IsWalking v root nodes frames room → frames ≡ rest ++ f ∷ [] → IsNextTaken v f g n b → length nodes < 65536
walk_short v root nodes frames rest f g n b room w e t =
    let l : left_in frames ≡ left_in rest + length g.left + 1 = taken_left v frames rest f g n b e t in let h = w.few in omega (arith, l, h)

pub walk_some : (v : View) (root : LongAd) (nodes more : List NodeFields) (frames rest next : List FrameFields) (f g : FrameFields) (n : NodeFields) (b : Option FrameFields) (room less : ℕ)
    → IsWalking v root nodes frames room → frames ≡ rest ++ f ∷ [] → IsNextTaken v f g n b
    → more ≡ nodes ++ n ∷ [] → next ≡ frames_with (rest ++ g ∷ []) b → count_left b + less ≡ room → IsWalking v root more next less
walk_some v root nodes more frames rest next f g n b room less w e t em en h = record {
  all = w.all ∙ ap (λ x. nodes ++ map (unsettled v) x) (taken_owed v frames rest f g n b e t)
      ∙ (λ i. nodes ++ (sym t.node i ∷ map (unsettled v) (owed v (sym en i))))
      ∙ sym (append_assoc nodes (n ∷ []) (map (unsettled v) (owed v next)))
      ∙ ap (λ x. x ++ map (unsettled v) (owed v next)) (sym em);
  few =
      let l : length more ≡ length nodes + 1 = ap length em ∙ length-append nodes (n ∷ []) in
      let a : left_in frames ≡ left_in rest + length g.left + 1 = taken_left v frames rest f g n b e t in
      let k : left_in next ≡ left_in (rest ++ g ∷ []) + count_left b = ap left_in en ∙ left_kept (rest ++ g ∷ []) b in
      let r : left_in (rest ++ g ∷ []) ≡ left_in rest + length g.left = left_last rest g in
      let q = w.few in
      omega (arith, l, a, k, r, q, h);
}

-- ---- a directory with many entries
-- below entries stand at least as many
at_least : (v : View) (path : List (List ℕ)) (above : List Icb) (es : List DirEntry) → length es ≤ length (flat_map (λ e. tree v (inside path above e)) es)
at_least v path above [] = omega arith
at_least v path above (e ∷ es) =
    let one : length (tree v (inside path above e)) ≡ suc (length (owed_frame v (frame_at v (inside path above e)))) = ap length (tree_frame v (inside path above e)) in
    let sum : length (tree v (inside path above e) ++ flat_map (λ e. tree v (inside path above e)) es) ≡ length (tree v (inside path above e)) + length (flat_map (λ e. tree v (inside path above e)) es)
    = length-append (tree v (inside path above e)) (flat_map (λ e. tree v (inside path above e)) es) in
    let more : length es ≤ length (flat_map (λ e. tree v (inside path above e)) es) = at_least v path above es in
    omega (arith, one, sum, more)

-- at a place and below it stand more than it has entries
tree_least : (v : View) (w : Walked) → length (entries_below v w) < length (tree v w)
tree_least v w =
    let e : length (tree v w) ≡ suc (length (owed_frame v (frame_at v w))) = ap length (tree_frame v w) in
    let m : length (entries_below v w) ≤ length (owed_frame v (frame_at v w)) = at_least v w.path (w.above ++ icb_of w.address ∷ []) (entries_below v w) in
    omega (arith, e, m)

-- of each entry that is left stands at least one
owed_least : (v : View) (fs : List FrameFields) → left_in fs ≤ length (owed v fs)
owed_least v [] = omega arith
owed_least v (f ∷ fs) =
    let rest : left_in fs ≤ length (owed v fs) = owed_least v fs in
    let own : length f.left ≤ length (owed_frame v f) = at_least v f.path f.above f.left in
    let sum : length (owed v fs ++ owed_frame v f) ≡ length (owed v fs) + length (owed_frame v f) = length-append (owed v fs) (owed_frame v f) in
    omega (arith, rest, own, sum)

pub start_many : (v : View) (root : LongAd) (path : List (List ℕ)) (above : List Icb) → path ≡ [] → above ≡ []
    → 65535 < length (entries_below v (end_at root path above false)) → HasMoreRoutes v root 65536
start_many v root path above p a h = tree_more v root 65536 (
    let same : length (entries_below v (end_at root path above false)) ≡ length (entries_below v (at_root root)) = (λ i. length (entries_below v (end_at root (p i) (a i) false))) in
    let more : length (entries_below v (at_root root)) < length (tree v (at_root root)) = tree_least v (at_root root) in
    omega (arith, h, same, more))

pub walk_below : (v : View) (root : LongAd) (nodes : List NodeFields) (frames rest : List FrameFields) (f : FrameFields) (room : ℕ) → IsWalking v root nodes frames room
    → frames ≡ rest ++ f ∷ [] → HasManyBelow v room f → HasMoreRoutes v root 65536
walk_below v root nodes frames rest f room w e b = tree_more v root 65536 (
    let all : length (map (unsettled v) (tree v (at_root root))) ≡ length (tree v (at_root root)) = length-map (tree v (at_root root)) (unsettled v) in
    let sum : length (map (unsettled v) (tree v (at_root root))) ≡ length nodes + length (map (unsettled v) (owed v frames)) = ap length w.all ∙ length-append nodes (map (unsettled v) (owed v frames)) in
    let left : length (map (unsettled v) (owed v frames)) ≡ length (owed v frames) = length-map (owed v frames) (unsettled v) in
    let first : length (owed v frames) ≡ length (owed_below b.entry ++ flat_map owed_below b.rest) + length (owed v rest)
    = ap length (ap (owed v) e ∙ owed_last v rest f ∙ ap (λ es. flat_map owed_below es ++ owed v rest) b.first) ∙ length-append (owed_below b.entry ++ flat_map owed_below b.rest) (owed v rest) in
    let one : length (owed_below b.entry ++ flat_map owed_below b.rest) ≡ length (owed_below b.entry) + length (flat_map owed_below b.rest) = length-append (owed_below b.entry) (flat_map owed_below b.rest) in
    let more : length (entries_below v (inside f.path f.above b.entry)) < length (owed_below b.entry) = tree_least v (inside f.path f.above b.entry) in
    let many : room < length (entries_below v (inside f.path f.above b.entry)) = b.many in
    let beside : length b.rest ≤ length (flat_map owed_below b.rest) = at_least v f.path f.above b.rest in
    let behind : left_in rest ≤ length (owed v rest) = owed_least v rest in
    let all_left : left_in frames ≡ left_in rest + length f.left = ap left_in e ∙ left_last rest f in
    let own_left : length f.left ≡ suc (length b.rest) = ap length b.first in
    let few = w.few in
    omega (arith, all, sum, left, first, one, more, many, beside, behind, all_left, own_left, few))
  where
    owed_below : DirEntry → List Walked
    owed_below d = tree v (inside f.path f.above d)

-- ---- the next entry
pub drop_next : {A : Type 0} (xs : List A) (i : ℕ) (x : A) → i < length xs → x ≡ get_or xs i x → drop i xs ≡ x ∷ drop (i + 1) xs
drop_next xs i x h e = drop_more xs i x h ∙ ap (λ y. y ∷ drop (i + 1) xs) (sym e)

-- where one is left, some are
pub some_left : {A : Type 0} (xs : List A) (i : ℕ) → i < length xs → drop i xs ≡ [] → ⊥
some_left xs i h e = let none : length (drop i xs) ≡ 0 = ap length e in let few : length (drop i xs) ≡ length xs - i = length-drop i xs in omega (arith, h, none, few)

-- ---- an error that is handed up; where it is told only under a condition, so is what it means
pub step_refused : {A : Type 0} (T : Type 0) (v : View) (most : ℕ) (f : FrameFields) (e : DirEntry) (rest : List DirEntry) (w : Walked) (r : Result A NodesGaveUp) (error : NodesGaveUp) → IsErrAnd r (λ d. d ≡ error)
    → f.left ≡ e ∷ rest → w ≡ inside f.path f.above e → (T → IfTold (AreRefused most (entries_below v w)) error) → IfErr r (λ d. T → IfTold (IsStepRefused v most f) d)
step_refused T v most f e rest w r error h l q a = let x = err_from_is_err_and r h in subst (λ r. IfErr r (λ d. T → IfTold (IsStepRefused v most f) d)) (sym (x.1 ∙ ap Err x.2)) (λ told. go error (a told))
  where
    go : (d : NodesGaveUp) → IfTold (AreRefused most (entries_below v w)) d → IfTold (IsStepRefused v most f) d
    go TooManyPaths m = record { entry = e; rest = rest; first = l; many = subst (λ z. most < length (entries_below v z)) q m }
    go OutOfMemory m = tt
    go Unread m = tt

pub start_refused : {A : Type 0} (v : View) (root : LongAd) (path : List (List ℕ)) (above : List Icb) (P : A → Type 0) (r : Result A NodesGaveUp) (error : NodesGaveUp) → IsErrAnd r (λ e. e ≡ error)
    → IfTold (AreRefused 65535 (entries_below v (end_at root path above false))) error → path ≡ [] → above ≡ [] → MatchResult r P (IfTold (IsNodesRefused v root))
start_refused v root path above P r error h a p q = let x = err_from_is_err_and r h in subst (λ r. MatchResult r P (IfTold (IsNodesRefused v root))) (sym (x.1 ∙ ap Err x.2)) (go error a)
  where
    go : (e : NodesGaveUp) → IfTold (AreRefused 65535 (entries_below v (end_at root path above false))) e → IfTold (IsNodesRefused v root) e
    go TooManyPaths m = start_many v root path above p q m
    go OutOfMemory m = tt
    go Unread m = tt

pub walk_refused : {A : Type 0} (v : View) (root : LongAd) (nodes : List NodeFields) (frames rest : List FrameFields) (f : FrameFields) (room : ℕ) (P : A → Type 0) (r : Result A NodesGaveUp) (error : NodesGaveUp)
    → IsErrAnd r (λ e. e ≡ error) → IsWalking v root nodes frames room → frames ≡ rest ++ f ∷ [] → IfTold (IsStepRefused v room f) error → MatchResult r P (IfTold (IsNodesRefused v root))
walk_refused v root nodes frames rest f room P r error h w e s = let x = err_from_is_err_and r h in subst (λ r. MatchResult r P (IfTold (IsNodesRefused v root))) (sym (x.1 ∙ ap Err x.2)) (go error s)
  where
    go : (d : NodesGaveUp) → IfTold (IsStepRefused v room f) d → IfTold (IsNodesRefused v root) d
    go TooManyPaths m = walk_below v root nodes frames rest f room w e m
    go OutOfMemory m = tt
    go Unread m = tt

-- ---- how much room there is, whatever is told of the entries
pub room_start : (n : NodeFields) (f : Option FrameFields) (nodes : List NodeFields) (frames : List FrameFields) (room : ℕ)
    → nodes ≡ n ∷ [] → frames ≡ frames_with [] f → count_left f + room ≡ 65535 → length nodes + left_in frames + room ≡ 65536
room_start n f nodes frames room ns fs h =
    let l : left_in frames ≡ 0 + count_left f = ap left_in fs ∙ left_kept [] f in let one : length nodes ≡ 1 = ap length ns in omega (arith, h, l, one)

pub room_none : (nodes : List NodeFields) (frames rest : List FrameFields) (f : FrameFields) (room : ℕ) → length nodes + left_in frames + room ≡ 65536 → frames ≡ rest ++ f ∷ [] → length f.left ≡ 0
    → length nodes + left_in rest + room ≡ 65536
room_none nodes frames rest f room h e z = let a : left_in frames ≡ left_in rest + length f.left = ap left_in e ∙ left_last rest f in omega (arith, a, z, h)

pub room_short : (nodes : List NodeFields) (frames rest : List FrameFields) (f g : FrameFields) (room : ℕ) → length nodes + left_in frames + room ≡ 65536 → frames ≡ rest ++ f ∷ []
    → length f.left ≡ length g.left + 1 → length nodes < 65536
room_short nodes frames rest f g room h e l = let a : left_in frames ≡ left_in rest + length f.left = ap left_in e ∙ left_last rest f in omega (arith, a, l, h)

pub room_some : (nodes more : List NodeFields) (frames rest next : List FrameFields) (f g : FrameFields) (n : NodeFields) (b : Option FrameFields) (room less : ℕ)
    → length nodes + left_in frames + room ≡ 65536 → frames ≡ rest ++ f ∷ [] → length f.left ≡ length g.left + 1
    → more ≡ nodes ++ n ∷ [] → next ≡ frames_with (rest ++ g ∷ []) b → count_left b + less ≡ room → length more + left_in next + less ≡ 65536
room_some nodes more frames rest next f g n b room less h e t em en less_is =
    let l : length more ≡ length nodes + 1 = ap length em ∙ length-append nodes (n ∷ []) in
    let a : left_in frames ≡ left_in rest + length f.left = ap left_in e ∙ left_last rest f in
    let k : left_in next ≡ left_in (rest ++ g ∷ []) + count_left b = ap left_in en ∙ left_kept (rest ++ g ∷ []) b in
    let r : left_in (rest ++ g ∷ []) ≡ left_in rest + length g.left = left_last rest g in
    omega (arith, l, a, k, r, t, h, less_is)

pub none_left : {A : Type 0} (xs : List A) → length xs ≡ 0 → xs ≡ []
none_left [] h = refl
none_left (x ∷ xs) h = absurd (let z : ⊥ = omega (arith, h) in z)

pub walk_done : (v : View) (root : LongAd) (nodes : List NodeFields) (frames : List FrameFields) (room : ℕ) → IsWalking v root nodes frames room → length frames ≡ 0 → AreUnsettled v root nodes
walk_done v root nodes frames room w n =
    let e : frames ≡ [] = none_left frames n in
    let is : map (unsettled v) (tree v (at_root root)) ≡ nodes = w.all ∙ ap (λ fs. nodes ++ map (unsettled v) (owed v fs)) e ∙ append-nil nodes in
    record {
      walks = tree v (at_root root);
      walk = tree_walk v root;
      few = let l : length (tree v (at_root root)) ≡ length nodes = sym (length-map (tree v (at_root root)) (unsettled v)) ∙ ap length is in let h = w.few in omega (arith, l, h);
      is = sym is;
    }
