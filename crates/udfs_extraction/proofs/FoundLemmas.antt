-- What is lost of a volume that opens, by the entries as its table lends them and as its report has them.
use Rattle.std.proofs.Common.{◌≡◌, ◌<◌, ◌≤◌, ◌+◌, ℕ, inl, inr, refl, sym, ◌∙◌, ap, append_assoc, subst, Bool, true, false, List, [], ◌∷◌, ◌++◌, Bor, get_or, length, map, take, cond}
use Rattle.std.proofs.lemmas.List.{append-nil, map-append}
use Rattle.std.specs.Prelude.{filter}
use Rattle.std.specs.List.{AllZip}
use Rattle.udfs_lattice.specs.Volumes.{Blocks}
use Rattle.udfs_volume.specs.Answers.{Answer, found}
use Rattle.udfs_space.specs.Places.{View, view}
use Rattle.udfs_walk.specs.Bare.{full_entry}
use Rattle.udfs_walk.specs.GivingUp.{IfTold}
use Rattle.udfs_walk.specs.Targets.{Icb}
use Rattle.udfs_walk.specs.declared.answers.NodesError.{NodesError}
use Rattle.udfs_walk.specs.declared.answers.NodesError.TheVariants as errors
use Rattle.udfs_walk.specs.declared.answers.NodesGaveUp.{NodesGaveUp}
use Rattle.udfs_walk.specs.declared.answers.NodesGaveUp.TheVariants.{TooManyPaths, OutOfMemory, Unread}
use Rattle.udfs_walk.specs.declared.answers.Unnamed.{Unnamed}
use Rattle.udfs_lost.specs.Folders.{AreLostRoots, icb_of_entry}
use Rattle.udfs_lost.specs.LostFiles.{lost_files}
use Rattle.udfs_lost.specs.LostTrees.{IsLostTree}
use Rattle.udfs_lost.specs.declared.trees.LostTree.{LostTree}
use Rattle.udfs_lattice.proofs.Inclusion.{Includes, contained, included}
use Rattle.udfs_lost.proofs.Members.{get_or_in, in_one, take_next, take_whole}
use Rattle.udfs_lost.proofs.PublicLaws.{bare_entries_will_do}
use Rattle.udfs_salvage.specs.Found.{Found}
use Rattle.udfs_salvage.specs.Listings.{full_entry_in}
use Rattle.udfs_salvage.specs.UnnamedExtraction.{is_lost_file}
use Rattle.udfs_overview.specs.LostTrees.{IsUnfound}
use Rattle.udfs_extraction.specs.LostTrees.{AddsFiles, AreLostIn, AreLostOf, IsFileRefused, IsUnfoundIn, IsUnfoundOf}
use Rattle.udfs_extraction.proofs.ListedLemmas.{same_lost}

-- ---- one file more

zip_append : {A B : Type 0} (R : A → B → Type 0) (xs more : List A) (ys others : List B) → AllZip R xs ys → AllZip R more others → AllZip R (xs ++ more) (ys ++ others)
zip_append R [] more [] others h k = k
zip_append R [] more (z ∷ ys) others h k = absurd h
zip_append R (w ∷ xs) more [] others h k = absurd h
zip_append R (w ∷ xs) more (z ∷ ys) others h k = (h.0, zip_append R xs more ys others h.1 k)

files_append : (us more : List Unnamed) → map icb_of_entry (filter is_lost_file us) ++ map icb_of_entry (filter is_lost_file more) ≡ map icb_of_entry (filter is_lost_file (us ++ more))
files_append [] more = refl
files_append (w ∷ us) more = one (is_lost_file w) (filter is_lost_file us) (filter is_lost_file (us ++ more)) (files_append us more)
  where
    one : (b : Bool) (some all : List Unnamed) → map icb_of_entry some ++ map icb_of_entry (filter is_lost_file more) ≡ map icb_of_entry all
        → map icb_of_entry (cond b (w ∷ some) some) ++ map icb_of_entry (filter is_lost_file more) ≡ map icb_of_entry (cond b (w ∷ all) all)
    one true some all e = ap (λ l. icb_of_entry w ∷ l) e
    one false some all e = e

pub adds_none : (v : View) (trees : List LostTree) → AddsFiles v [] trees trees
adds_none v trees = record { more = []; are = sym (append-nil trees); each = tt }

-- a file that is none with data, whole
pub adds_same : (v : View) (u : Unnamed) (trees : List LostTree) → is_lost_file u ≡ false → AddsFiles v (u ∷ []) trees trees
adds_same v u trees is = record {
  more = [];
  are = sym (append-nil trees);
  each = subst (λ b. AllZip (IsLostTree v) (map icb_of_entry (cond b (u ∷ []) [])) []) (sym is) tt;
}

-- one that is
pub adds_one : (v : View) (u : Unnamed) (old new : List LostTree) (tree : LostTree) → is_lost_file u ≡ true → IsLostTree v (icb_of_entry u) tree → new ≡ old ++ tree ∷ [] → AddsFiles v (u ∷ []) old new
adds_one v u old new tree is one are = record {
  more = tree ∷ [];
  are = are;
  each = subst (λ b. AllZip (IsLostTree v) (map icb_of_entry (cond b (u ∷ []) [])) (tree ∷ [])) (sym is) (one, tt);
}

-- one more of the files
pub adds_next : (v : View) (files : List (Bor Unnamed)) (i : ℕ) (file : Bor Unnamed) (start old new : List LostTree) → i < length files → file ≡ get_or files i file
    → AddsFiles v (map (λ (f : Bor Unnamed). f.now) (take i files)) start old → AddsFiles v (file.now ∷ []) old new → AddsFiles v (map (λ (f : Bor Unnamed). f.now) (take (i + 1) files)) start new
adds_next v files i file start old new below at so_far one = subst (λ (l : List (Bor Unnamed)). AddsFiles v (map (λ (f : Bor Unnamed). f.now) l) start new) (sym (take_next files i file below at)) (record {
  more = so_far.more ++ one.more;
  are = one.are ∙ ap (λ l. l ++ one.more) so_far.are ∙ append_assoc start so_far.more one.more;
  each = subst (λ (icbs : List Icb). AllZip (IsLostTree v) icbs (so_far.more ++ one.more)) (files_append (map (λ (f : Bor Unnamed). f.now) (take i files)) (file.now ∷ []) ∙ ap (λ us. map icb_of_entry (filter is_lost_file us)) (sym (map-append (λ (f : Bor Unnamed). f.now) (take i files) (file ∷ []))))
      (zip_append (IsLostTree v) _ _ so_far.more one.more so_far.each one.each);
})

pub adds_all : (v : View) (files : List (Bor Unnamed)) (i : ℕ) (start new : List LostTree) → length files ≤ i → AddsFiles v (map (λ (f : Bor Unnamed). f.now) (take i files)) start new → AddsFiles v (map (λ (f : Bor Unnamed). f.now) files) start new
adds_all v files i start new past so_far = subst (λ (l : List (Bor Unnamed)). AddsFiles v (map (λ (f : Bor Unnamed). f.now) l) start new) (take_whole files i past) so_far

-- ---- entries with what they lack

full_icbs : (M : Blocks) (f : Found) (us : List Unnamed) → map icb_of_entry (filter is_lost_file (map (full_entry (view M f.space)) us)) ≡ map icb_of_entry (filter is_lost_file us)
full_icbs M f [] = refl
full_icbs M f (u ∷ us) =
    one (is_lost_file (full_entry (view M f.space) u)) (is_lost_file u) (filter is_lost_file (map (full_entry (view M f.space)) us)) (filter is_lost_file us) (same_lost M (found f) u) (full_icbs M f us)
  where
    one : (b d : Bool) (more some : List Unnamed) → b ≡ d → map icb_of_entry more ≡ map icb_of_entry some → map icb_of_entry (cond b (full_entry (view M f.space) u ∷ more) more) ≡ map icb_of_entry (cond d (u ∷ some) some)
    one b true more some is e = ap (λ c. map icb_of_entry (cond c (full_entry (view M f.space) u ∷ more) more)) is ∙ ap (λ l. icb_of_entry u ∷ l) e
    one b false more some is e = ap (λ c. map icb_of_entry (cond c (full_entry (view M f.space) u ∷ more) more)) is ∙ e

are_full : (M : Blocks) (f : Found) (deleted : Bool) (es : List Unnamed) (trees : List LostTree) → AreLostIn (view M f.space) deleted es trees → AreLostIn (view M f.space) deleted (map (full_entry (view M f.space)) es) trees
are_full M f deleted es trees a =
    let v = view M f.space in
    let law = bare_entries_will_do v deleted a.folders es in
    record {
      folders = a.folders;
      are_folders = record {
        roots = a.are_folders.roots;
        are_roots = subst (λ folders. AreLostRoots v folders a.are_folders.roots) (sym law.folders) a.are_folders.are_roots;
        are_trees = a.are_folders.are_trees;
      };
      are_files = record {
        more = a.are_files.more;
        are = a.are_files.are;
        each = subst (λ (icbs : List Icb). AllZip (IsLostTree v) icbs a.are_files.more)
            (sym (full_icbs M f (lost_files v deleted a.folders es)) ∙ ap (λ (us : List Unnamed). map icb_of_entry (filter is_lost_file us)) (sym law.files)) a.are_files.each;
      };
    }

pub in_map : {A B : Type 0} (to : A → B) (xs : List A) (x : A) → Includes xs x → Includes (map to xs) (to x)
in_map to [] x i = absurd i
in_map to (y ∷ xs) x (inl same) = inl (ap to same)
in_map to (y ∷ xs) x (inr i) = inr (in_map to xs x i)

refused_full : (M : Blocks) (f : Found) (us : List Unnamed) (error : NodesError) → IsFileRefused (view M f.space) us error → IsFileRefused (view M f.space) (map (full_entry (view M f.space)) us) error
refused_full M f us error (inl (u, is, lost, refused)) = inl (
  full_entry (view M f.space) u,
  contained _ _ (in_map (full_entry (view M f.space)) us u (included us u is)),
  same_lost M (found f) u ∙ lost,
  refused,
)
refused_full M f us error (inr memory) = inr memory

-- what is said of one of the files
pub refused_next : (v : View) (files : List (Bor Unnamed)) (i : ℕ) (file : Bor Unnamed) (error : NodesError) → i < length files → file ≡ get_or files i file
    → IsFileRefused v (file.now ∷ []) error → IsFileRefused v (map (λ (f : Bor Unnamed). f.now) files) error
refused_next v files i file error below at (inl (u, is, lost, refused)) = inl (u, contained _ _ (subst (λ w. Includes (map (λ (f : Bor Unnamed). f.now) files) w) (in_one file.now u (included (file.now ∷ []) u is)) within), lost, refused)
  where
    within : Includes (map (λ (f : Bor Unnamed). f.now) files) file.now
    within = in_map (λ (f : Bor Unnamed). f.now) files file (subst (λ g. Includes files g) (sym at) (get_or_in files i file below))
refused_next v files i file error below at (inr memory) = inr memory

unfound_full : (M : Blocks) (f : Found) (deleted : Bool) (es : List Unnamed) (error : NodesError) → IsUnfoundIn (view M f.space) deleted es error → IsUnfoundIn (view M f.space) deleted (map (full_entry (view M f.space)) es) error
unfound_full M f deleted es error (inl unfound) = inl (subst (λ folders. IsUnfound (view M f.space) folders error) (sym (bare_entries_will_do (view M f.space) deleted [] es).folders) unfound)
unfound_full M f deleted es error (inr (folders, are, refused)) =
    let v = view M f.space in
    let law = bare_entries_will_do v deleted folders es in
    inr (
      folders,
      record {
        roots = are.roots;
        are_roots = subst (λ icbs. AreLostRoots v icbs are.roots) (sym law.folders) are.are_roots;
        are_trees = are.are_trees;
      },
      subst (λ us. IsFileRefused v us error) (sym law.files) (refused_full M f (lost_files v deleted folders es) error refused),
    )

-- ---- seen by the table

pub lost_seen : (deleted : Bool) (M : Blocks) (answer : Answer Found) (f : Found) (v : View) (es told : List Unnamed) (trees : List LostTree) → answer ≡ found f → v ≡ view M f.space → map (full_entry_in M answer) es ≡ told
    → AreLostIn v deleted es trees → AreLostOf deleted M answer told trees
lost_seen deleted M answer f v es told trees opened seen are a =
    subst (λ us. AreLostOf deleted M answer us trees) are (subst (λ z. AreLostOf deleted M z (map (full_entry_in M z) es) trees) (sym opened) (are_full M f deleted es trees (subst (λ w. AreLostIn w deleted es trees) seen a)))

pub unlost_seen : (deleted : Bool) (M : Blocks) (answer : Answer Found) (f : Found) (v : View) (es told : List Unnamed) (error : NodesError) → answer ≡ found f → v ≡ view M f.space → map (full_entry_in M answer) es ≡ told
    → IsUnfoundIn v deleted es error → IsUnfoundOf deleted M answer told error
unlost_seen deleted M answer f v es told error opened seen are a =
    subst (λ us. IsUnfoundOf deleted M answer us error) are (subst (λ z. IsUnfoundOf deleted M z (map (full_entry_in M z) es) error) (sym opened) (unfound_full M f deleted es error (subst (λ w. IsUnfoundIn w deleted es error) seen a)))

-- ---- why it was not found

-- what follows from an error that a walk over a table has too
pub told_by : (P Q : NodesError → Type 0) → ((error : NodesError) → P error → Q error) → (e : NodesGaveUp) → IfTold P e → IfTold Q e
told_by P Q by TooManyPaths h = by errors.TooManyPaths h
told_by P Q by OutOfMemory h = by errors.OutOfMemory h
told_by P Q by Unread h = tt
