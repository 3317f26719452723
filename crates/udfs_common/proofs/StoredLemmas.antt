-- Inputs that are read at positions have the tables of their paths.
use Rattle.std.proofs.Common.{◌≡◌, ◌⊎◌, ◌+◌, ◌-◌, Err, alloc_error, ℕ, zero, suc, List, [], ◌∷◌, ◌++◌, length, take, Option, None, Some, IfSome, slice_get, refl, sym, ap, subst, ◌∙◌, inl, inr, arith}
use Rattle.std.specs.Io.KnownBytes.{Appends}
use Rattle.udfs_host_fs.specs.Telling.{ToldOrSilent}
use Rattle.udfs_index.specs.Copying.{AreAllTold}
use Rattle.udfs_reading.specs.Device.{Stream}
use Rattle.udfs_lattice.specs.Tables.{Table}
use Rattle.udfs_reading.specs.Answers.{GivesFault, RefusesFaulty}
use Rattle.udfs_reading.specs.Inputs.{inputs}
use Rattle.udfs_reading.specs.Several.{HasTable, TablesAre}
use Rattle.udfs_reading.specs.declared.inputs.InputError.{InputError}
use Rattle.udfs_common.specs.Blaming.{AreJudgedFor, BlamesInput, InputsRefused, IsJudged, IsJudgedFor, IsShut, source_reason, stored_reason}
use Rattle.udfs_common.specs.OtherDiscs.{IsOtherDisc}
use Rattle.udfs_common.specs.Keeping.{Joined, Opens}
use Rattle.udfs_common.specs.Refusing.{refusal_for, refusal_with}
use Rattle.udfs_common.specs.Sources.{IsPathOpened, left_in}
use Rattle.udfs_common.specs.declared.refusal.Refusal.{Refusal}
use Rattle.udfs_common.specs.declared.refusal.Refusal.TheVariants.{Memory}
use Rattle.udfs_common.specs.declared.sources.AnySource.{AnySource}
use Rattle.udfs_common.specs.declared.sources.AnySource.TheVariants.{File, Paired, Refused}
use Rattle.udfs_index.specs.AnyStored.{stored_in}
use Rattle.udfs_index.specs.declared.any_stored.AnyStored.{AnyStored}
use Rattle.udfs_index.specs.declared.any_stored.AnyStored.TheVariants as any
use Rattle.udfs_reading.specs.Format.{header}
use Rattle.udfs_reading.specs.Reading.{magic}
use Rattle.udfs_rescue.specs.Blocks.{left_bytes, reading_known, reading_of, records_of}
use Rattle.udfs_rescue.specs.declared.known.BlockRange.{BlockRange}
use Rattle.udfs_rescue.specs.declared.opening.PairFault.{PairFault}
use Rattle.udfs_common.proofs.TakingLemmas.{other_disc}
use Rattle.udfs_common.specs.Indexing.{IsOtherOf}
use Rattle.udfs_common.specs.Refused.{BlamesOne, BlamesPath, IsUncompared, IsRereadOf, IndexRefused, OneFails, StoredRefused, refused_in}
use Rattle.udfs_words.specs.declared.input_path.InputPath.{InputPath}

-- for each thing that is stored there is a source that has left what it holds
abbrev pub HaveSources : {R S : Type 0} → (R → Option (List ℕ)) → (S → Option (List ℕ)) → Type 0
HaveSources {R} {S} remaining content = (s : S) → (r : R) × (remaining r ≡ content s)

abbrev sources_of : {R S : Type 0} {remaining : R → Option (List ℕ)} {content : S → Option (List ℕ)} → HaveSources remaining content → List S → List R
sources_of have [] = []
sources_of have (s ∷ ss) = (have s).0 ∷ sources_of have ss

as_many : {R S : Type 0} {remaining : R → Option (List ℕ)} {content : S → Option (List ℕ)} (have : HaveSources remaining content) (ss : List S) → length (sources_of have ss) ≡ length ss
as_many have [] = refl
as_many have (s ∷ ss) = ap suc (as_many have ss)

same_some : {R : Type 0} (x y : R) → Some x ≡ Some y → x ≡ y
same_some x y e = let same : x ≡ y = cc in same

no_some : {R : Type 0} (r : R) → None ≡ Some r → ⊥
no_some r e = let no : ⊥ = cc in no

source_at : {R S : Type 0} {remaining : R → Option (List ℕ)} {content : S → Option (List ℕ)} (have : HaveSources remaining content) (ss : List S) (k : ℕ) (r : R) → slice_get (sources_of have ss) k ≡ Some r → (s : S) × (slice_get ss k ≡ Some s) × (remaining r ≡ content s)
source_at {R} have [] k r e = absurd (no_some r e)
source_at {remaining = remaining} {content = content} have (s ∷ ss) zero r e = (s, refl, subst (λ x. remaining x ≡ content s) (same_some (have s).0 r e) (have s).1)
source_at have (s ∷ ss) (suc k) r e = source_at have ss k r e

tables_of : {R S : Type 0} {remaining : R → Option (List ℕ)} {content : S → Option (List ℕ)} (have : HaveSources remaining content) (ss : List S) (ts : List Table) → TablesAre content ss ts → TablesAre remaining (sources_of have ss) ts
tables_of have [] [] are = tt
tables_of have [] (t ∷ ts) are = are
tables_of have (s ∷ ss) [] are = are
tables_of have (s ∷ ss) (t ∷ ts) are = (subst (λ (o : Option (List ℕ)). IfSome o (λ bytes. HasTable bytes t)) (sym (have s).1) are.0, tables_of have ss ts are.1)

-- the inputs of these paths have the tables
pub joined_by : {R S : Type 0} {remaining : R → Option (List ℕ)} {content : S → Option (List ℕ)} (have : HaveSources remaining content) (found : List ℕ → Option (Option (List ℕ))) (paths : List InputPath) (ss : List S) (ts : List Table) →
    Opens found content paths ss → length ss ≡ length paths → TablesAre content ss ts → Joined found remaining paths ts
joined_by have found paths ss ts opened many are =
    record {
      sources = sources_of have ss;
      each = as_many have ss ∙ many;
      opened = λ k path r at there. let a = source_at have ss k r there in subst (IsPathOpened found path) (sym a.2) (opened k path a.0 at a.1);
      are = tables_of have ss ts are;
    }

-- ---- what was put

-- what was written where inputs that tell their bytes are told to be written
pub taken_by : {S W : Type 0} (content : S → Option (List ℕ)) (stream : W → Stream) (bytes : List ℕ) (before after : W) → ToldOrSilent content stream → (AreAllTold content → Appends (stream before).contents (stream after).contents bytes) → Appends (stream before).contents (stream after).contents bytes
taken_by content stream bytes before after (inl told) wrote = wrote told
taken_by content stream bytes before after (inr none) wrote = subst (λ (o : Option (List ℕ)). Appends o (stream after).contents bytes) (sym (none before)) tt

-- ---- inputs of both kinds

-- what a source of the reading of these blocks gives first
abbrev pending_of : Option (List ℕ) → List BlockRange → List ℕ
pending_of None ranges = []
pending_of (Some all) ranges = header magic (length (records_of all ranges))

pair_left : (image : Option (List ℕ)) (ranges : List BlockRange) → left_bytes image (pending_of image ranges) [] ranges ≡ reading_known image ranges
pair_left None ranges = refl
pair_left (Some all) ranges = refl

pair_by : (told image : Option (List ℕ)) (ranges : List BlockRange) → told ≡ image → left_bytes told (pending_of image ranges) [] ranges ≡ reading_known image ranges
pair_by told image ranges is = ap (λ (o : Option (List ℕ)). left_bytes o (pending_of image ranges) [] ranges) is ∙ pair_left image ranges

-- where each thing that is stored can be read from its front and as an image, each input has a source of its kind
pub sources_for_any : {R I S : Type 0} {g : _} (file : R → Option (List ℕ)) (bytes : I → Option (List ℕ)) (content : S → Option (List ℕ)) → ((s : S) → (input : R) × (file input ≡ content s)) → ((s : S) → (image : I) × (bytes image ≡ content s))
    → HaveSources {R = AnySource R I} {S = AnyStored S g} (left_in file (λ p. left_bytes (bytes p.image) p.pending p.piece p.left)) (stored_in content)
sources_for_any file bytes content as_input as_image (any.File s) = let i = as_input s in (File i.0, i.1)
sources_for_any file bytes content as_input as_image (any.Paired p) =
    let i = as_image p.image in
    (Paired (record { image = i.0; pending = pending_of (content p.image) p.blocks; piece = []; left = p.blocks; faults = 0 }), pair_by (bytes i.0) (content p.image) p.blocks i.1)
sources_for_any file bytes content as_input as_image (any.Refused fault) = (Refused fault 0, refl)

-- where images tell their bytes, inputs of both kinds do
pub any_told : {S : Type 0} {g : _} (content : S → Option (List ℕ)) → AreAllTold content → AreAllTold {S = AnyStored S g} (stored_in content)
any_told content told (any.File s) = told s
any_told content told (any.Paired p) = let t = told p.image in (reading_of t.0 p.blocks, ap (λ (o : Option (List ℕ)). reading_known o p.blocks) t.1)
any_told content told (any.Refused fault) = ([], refl)

pub any_told_or_silent : {S W : Type 0} {g : _} (content : S → Option (List ℕ)) (stream : W → Stream) → ToldOrSilent content stream → ToldOrSilent {S = AnyStored S g} (stored_in content) stream
any_told_or_silent content stream (inl told) = inl (any_told content told)
any_told_or_silent content stream (inr none) = inr none

-- each input has the reason of its source
pub reasons_for_any : {R I S : Type 0} {g : _} (file : R → Option (List ℕ)) (bytes : I → Option (List ℕ)) (content : S → Option (List ℕ)) (as_input : (s : S) → (input : R) × (file input ≡ content s)) (as_image : (s : S) → (image : I) × (bytes image ≡ content s)) (s : AnyStored S g) →
    source_reason (sources_for_any {R = R} {I = I} {S = S} {g = g} file bytes content as_input as_image s).0 ≡ stored_reason s
unfolding sources_for_any
reasons_for_any file bytes content as_input as_image (any.File s) = refl
reasons_for_any file bytes content as_input as_image (any.Paired p) = refl
reasons_for_any file bytes content as_input as_image (any.Refused fault) = refl

-- ---- why inputs were not taken

at_seam : {A : Type 0} (xs : List A) (y : A) (ys : List A) → slice_get (xs ++ y ∷ ys) (length xs) ≡ Some y
at_seam [] y ys = refl
at_seam (x ∷ xs) y ys = at_seam xs y ys

reason_is : {S : Type 0} {g : _} (one : AnyStored S g) → refused_in (Some one) ≡ stored_reason one
reason_is (any.File s) = refl
reason_is (any.Paired p) = refl
reason_is (any.Refused fault) = refl

there : {A : Type 0} (remaining : A → Option (List ℕ)) (all : List A) (error : InputError) (fails : OneFails remaining all error) → slice_get all (error.input - 1) ≡ Some fails.one
there remaining all error fails =
    let which : error.input ≡ length fails.earlier + 1 = fails.which in
    let place : error.input - 1 ≡ length fails.earlier = omega (arith, which) in
    rw (fails.are) (rw (place) (at_seam fails.earlier fails.one fails.later))

pub stored_blamed : {S : Type 0} {g : _} (content : AnyStored S g → Option (List ℕ)) (stored : List (AnyStored S g)) (error : InputError) (r : Refusal) → OneFails content stored error →
    (r ≡ refusal_with (refused_in (slice_get stored (error.input - 1))) error) ⊎ IsUncompared (length stored) r → StoredRefused content stored_reason stored r
stored_blamed {S} {g} content stored error r fails (inr unread) = inr (inr unread)
stored_blamed {S} {g} content stored error r fails (inl told) =
    inr (inl (record {
      error = error;
      fails = fails;
      told = told ∙ ap (λ (o : Option (AnyStored S g)). refusal_with (refused_in o) error) (there content stored error fails) ∙ ap (λ (o : Option PairFault). refusal_with o error) (reason_is fails.one);
    }))

sources_apart : {R S : Type 0} {remaining : R → Option (List ℕ)} {content : S → Option (List ℕ)} (have : HaveSources remaining content) (front : List S) (one : S) (rest : List S) → sources_of have (front ++ one ∷ rest) ≡ sources_of have front ++ (have one).0 ∷ sources_of have rest
sources_apart have [] one rest = refl
sources_apart {R} have (s ∷ front) one rest = ap (λ (l : List R). (have s).0 ∷ l) (sources_apart have front one rest)

fails_of : {R S : Type 0} {remaining : R → Option (List ℕ)} {content : S → Option (List ℕ)} (have : HaveSources remaining content) (ss : List S) (error : InputError) → OneFails content ss error → OneFails remaining (sources_of have ss) error
fails_of {S = S} have ss error fails =
    record {
      earlier = sources_of have fails.earlier;
      one = (have fails.one).0;
      later = sources_of have fails.later;
      are = ap (λ (l : List S). sources_of have l) fails.are ∙ sources_apart have fails.earlier fails.one fails.later;
      which = fails.which ∙ ap (λ (n : ℕ). n + 1) (sym (as_many have fails.earlier));
      tables = fails.tables;
      have_tables = tables_of have fails.earlier fails.tables fails.have_tables;
      fault = subst (λ (o : Option (List ℕ)). GivesFault inputs o (Err error.error)) (sym (have fails.one).1) fails.fault;
      faulty = subst (λ (o : Option (List ℕ)). RefusesFaulty inputs o (Err error.error)) (sym (have fails.one).1) fails.faulty;
    }

source_from : {R S : Type 0} {remaining : R → Option (List ℕ)} {content : S → Option (List ℕ)} (have : HaveSources remaining content) (ss : List S) (k : ℕ) (r : R) → slice_get (sources_of have ss) k ≡ Some r → (s : S) × (slice_get ss k ≡ Some s) × ((have s).0 ≡ r)
source_from have [] k r e = absurd (no_some r e)
source_from have (s ∷ ss) zero r e = (s, refl, same_some (have s).0 r e)
source_from have (s ∷ ss) (suc k) r e = source_from have ss k r e

judged_of : {R S : Type 0} {remaining : R → Option (List ℕ)} {content : S → Option (List ℕ)} (have : HaveSources remaining content) (reason : R → Option PairFault) (why : S → Option PairFault) → ((s : S) → reason (have s).0 ≡ why s) →
    (found : List ℕ → Option (Option (List ℕ))) (paths : List InputPath) (ss : List S) → AreJudgedFor found why paths ss → AreJudgedFor found reason paths (sources_of have ss)
judged_of {R} have reason why same found paths ss judged k path r at here =
    let a = source_from have ss k r here in
    subst (λ (x : R). IsJudgedFor found path (reason x)) a.2 (subst (IsJudgedFor found path) (sym (same a.0)) (judged k path a.0 at a.1))

blamed_of : {R S : Type 0} {remaining : R → Option (List ℕ)} {content : S → Option (List ℕ)} (have : HaveSources remaining content) (reason : R → Option PairFault) (why : S → Option PairFault) → ((s : S) → reason (have s).0 ≡ why s) →
    (found : List ℕ → Option (Option (List ℕ))) (paths : List InputPath) (ss : List S) (r : Refusal) → length ss ≡ length paths → Opens found content paths ss → AreJudgedFor found why paths ss → BlamesOne content why ss r → BlamesPath found remaining reason paths r
unfolding fails_of
blamed_of have reason why same found paths ss r many opened judged blames =
    record {
      sources = sources_of have ss;
      each = as_many have ss ∙ many;
      opened = λ k path x at here. let a = source_at have ss k x here in subst (IsPathOpened found path) (sym a.2) (opened k path a.0 at a.1);
      judged = judged_of have reason why same found paths ss judged;
      blames = record { error = blames.error; fails = fails_of have ss blames.error blames.fails; told = blames.told ∙ ap (λ (o : Option PairFault). refusal_with o blames.error) (sym (same blames.fails.one)) };
    }

-- inputs of paths that were not taken were not merged
pub of_stored : {R I S : Type 0} {g : _} {tells : Type 0} {remaining : AnySource R I → Option (List ℕ)} {content : AnyStored S g → Option (List ℕ)} (have : HaveSources remaining content) → ((s : AnyStored S g) → source_reason (have s).0 ≡ stored_reason s) →
    (found : List ℕ → Option (Option (List ℕ))) (shut : List ℕ → Type 0) (paths : List InputPath) (ss : List (AnyStored S g)) (r : Refusal) → length ss ≡ length paths → Opens found content paths ss → AreJudgedFor found stored_reason paths ss →
    StoredRefused content stored_reason ss r → IndexRefused tells found shut remaining paths r
of_stored have same found shut paths ss r many opened judged (inl memory) = record { why = inl memory }
of_stored have same found shut paths ss r many opened judged (inr (inl blames)) = record { why = inr (inr (inl (blamed_of have source_reason stored_reason same found paths ss r many opened judged blames))) }
of_stored have same found shut paths ss r many opened judged (inr (inr unread)) = record { why = inr (inr (inr (inl (subst (λ (n : ℕ). IsUncompared n r) many unread)))) }

-- nor were those that could not be read a second time
pub of_unread : {R I : Type 0} {tells : Type 0} (found : List ℕ → Option (Option (List ℕ))) (shut : List ℕ → Type 0) (remaining : AnySource R I → Option (List ℕ)) (paths : List InputPath) (count : ℕ) (r : Refusal) → count ≡ length paths → IsRereadOf count r → IndexRefused tells found shut remaining paths r
of_unread found shut remaining paths count r many unread = record { why = inr (inr (inr (inr (inl (subst (λ (n : ℕ). IsRereadOf n r) many unread))))) }

-- nor those that are shut
pub of_shut : {R I : Type 0} {tells : Type 0} (found : List ℕ → Option (Option (List ℕ))) (shut : List ℕ → Type 0) (remaining : AnySource R I → Option (List ℕ)) (paths : List InputPath) (r : Refusal) → (r ≡ Memory alloc_error) ⊎ IsShut shut paths r → IndexRefused tells found shut remaining paths r
of_shut found shut remaining paths r (inl memory) = record { why = inl memory }
of_shut found shut remaining paths r (inr named) = record { why = inr (inl named) }

-- ---- and of sources that are read from their front

judged_for : {R I : Type 0} (found : List ℕ → Option (Option (List ℕ))) (path : InputPath) (source : AnySource R I) → IsJudged found path source → IsJudgedFor found path (source_reason source)
judged_for found path (File source) judged = record { by = tt }
judged_for found path (Paired source) judged = record { by = tt }
judged_for found path (Refused fault count) judged = record { by = judged.by }

held_reason : {R I : Type 0} (one : AnySource R I) (error : InputError) → refusal_for (Some one) error ≡ refusal_with (source_reason one) error
held_reason (File source) error = refl
held_reason (Paired source) error = refl
held_reason (Refused fault count) error = refl

held_blamed : {R I : Type 0} (found : List ℕ → Option (Option (List ℕ))) (remaining : AnySource R I → Option (List ℕ)) (faults : AnySource R I → ℕ) (paths : List InputPath) (r : Refusal) → BlamesInput found remaining faults paths r → BlamesPath found remaining source_reason paths r
held_blamed {R} {I} found remaining faults paths r blames =
    let error = blames.blames.error in
    let f = blames.blames.fails in
    let fails : OneFails remaining blames.sources error = record { earlier = f.earlier; one = f.old; later = f.later; are = f.were; which = f.which; tables = f.tables; have_tables = f.have_tables; fault = f.fault; faulty = f.faulty } in
    record {
      sources = blames.sources;
      each = blames.each;
      opened = blames.opened;
      judged = λ k path source at here. judged_for found path source (blames.judged k path source at here);
      blames = record {
        error = error;
        fails = fails;
        told = blames.blames.told ∙ ap (λ (o : Option (AnySource R I)). refusal_for o error) (there remaining blames.sources error fails) ∙ held_reason f.old error;
      };
    }

held_why : {R I : Type 0} {tells : Type 0} (found : List ℕ → Option (Option (List ℕ))) (shut : List ℕ → Type 0) (remaining : AnySource R I → Option (List ℕ)) (faults : AnySource R I → ℕ) (paths : List InputPath) (r : Refusal) →
    (r ≡ Memory alloc_error) ⊎ IsShut shut paths r ⊎ BlamesInput found remaining faults paths r ⊎ IsOtherDisc found remaining paths r → IndexRefused tells found shut remaining paths r
held_why found shut remaining faults paths r (inl memory) = record { why = inl memory }
held_why found shut remaining faults paths r (inr (inl named)) = record { why = inr (inl named) }
held_why found shut remaining faults paths r (inr (inr (inl blames))) = record { why = inr (inr (inl (held_blamed found remaining faults paths r blames))) }
held_why found shut remaining faults paths r (inr (inr (inr other))) = record { why = inr (inr (inr (inr (inr ((_, _, _, other.other.named), λ told. other))))) }

pub of_held : {R I : Type 0} {tells : Type 0} (found : List ℕ → Option (Option (List ℕ))) (shut : List ℕ → Type 0) (remaining : AnySource R I → Option (List ℕ)) (faults : AnySource R I → ℕ) (paths : List InputPath) (r : Refusal) → InputsRefused found shut remaining faults paths r → IndexRefused tells found shut remaining paths r
of_held found shut remaining faults paths r refused = held_why found shut remaining faults paths r refused.why

-- nor those among which an image is of another disc
pub of_other : {R I S : Type 0} {g : _} {tells : Type 0} {remaining : AnySource R I → Option (List ℕ)} {content : AnyStored S g → Option (List ℕ)} (have : HaveSources remaining content) →
    (found : List ℕ → Option (Option (List ℕ))) (shut : List ℕ → Type 0) (paths : List InputPath) (ss : List (AnyStored S g)) (r : Refusal) → length ss ≡ length paths → Opens found content paths ss → (tells → AreAllTold content) → IsOtherOf content paths ss r → IndexRefused tells found shut remaining paths r
of_other have found shut paths ss r many opened told other =
    record {
      why = inr (inr (inr (inr (inr (
        other.named,
        λ tells. let disc = other_disc found _ paths ss r many opened (other.other (told tells)) in record {
          place = disc.place;
          pair = disc.pair;
          tables = disc.tables;
          own = disc.own;
          joined = joined_by have found (take (disc.place + 1) paths) disc.joined.sources _ disc.joined.opened disc.joined.each disc.joined.are;
          other = disc.other;
        },
      )))));
    }
