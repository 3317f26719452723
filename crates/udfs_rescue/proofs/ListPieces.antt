-- A list of blocks that comes in pieces.
use Rattle.std.specs.Prelude.{◌↔◌, IfErr, IsErrOf}
use Rattle.std.proofs.Common.{◌≡◌, ℕ, ◌+◌, ◌%◌, ◌^◌, arith, List, [], ◌++◌, Option, None, Some, IfSome, Result, Ok, Err, refl, sym, ap, subst, ◌∙◌, append_assoc}
use Rattle.std.specs.Io.KnownBytes.{Consumes, IsAtEnd, Keeps}
use Rattle.udfs_reading.specs.Answers.{HadGiven}
use Rattle.udfs_rescue.specs.declared.list.ListError.{ListError}
use Rattle.udfs_rescue.specs.declared.list.ListError.TheVariants as errors
use Rattle.udfs_rescue.specs.declared.list.ListReader.{ListReader}
use Rattle.udfs_rescue.specs.BlockLists.{list_outcome, NoneWrongYet, ReadsList, RefusesList, ParsesList, StandsList, NoList, GivesList}

-- the bytes that came, after which the reader stands for what all of it comes to
abbrev pub Came : Option (List ℕ) → Option (List ℕ) → ListReader → Type 0
Came None left r = (says : List ℕ → Result (List ℕ) ℕ) × StandsList r says
Came (Some bytes) None r = ⊥
Came (Some bytes) (Some rest) r = (got : List ℕ) × (bytes ≡ got ++ rest) × StandsList r (λ more. list_outcome (got ++ more))

same_says : (r : ListReader) (x y : List ℕ → Result (List ℕ) ℕ) → ((rest : List ℕ) → x rest ≡ y rest) → StandsList r x → StandsList r y
same_says r x y e s = record { line = s.line; keeps = s.keeps; left = λ rest. sym (e rest) ∙ s.left rest }

pub came_new : (a : Option (List ℕ)) (r : ListReader) → StandsList r list_outcome → Came a a r
came_new None r s = (list_outcome, s)
came_new (Some bytes) r s = ([], refl, s)

pub came_more : (a b c : Option (List ℕ)) (old new : ListReader) (piece : List ℕ) → Came a b old → Consumes b c piece
    → ((says : List ℕ → Result (List ℕ) ℕ) → StandsList old says → StandsList new (λ rest. says (piece ++ rest))) → Came a c new
came_more None b c old new piece h e f = ((λ rest. h.0 (piece ++ rest)), f h.0 h.1)
came_more (Some xs) None c old new piece h e f = absurd h
came_more (Some xs) (Some ys) None old new piece h e f = absurd e
came_more (Some xs) (Some ys) (Some zs) old new piece h e f = (
  h.0 ++ piece,
  h.1 ∙ ap (λ l. h.0 ++ l) e ∙ sym (append_assoc h.0 piece zs),
  same_says new (λ rest. list_outcome (h.0 ++ (piece ++ rest))) (λ rest. list_outcome ((h.0 ++ piece) ++ rest)) (λ rest. ap list_outcome (sym (append_assoc h.0 piece rest))) (f (λ more. list_outcome (h.0 ++ more)) h.2),
)

-- the reader refuses what came
came_refused : (a b c : Option (List ℕ)) (old : ListReader) (piece : List ℕ) (err : ListError) → Came a b old → Consumes b c piece
    → ((says : List ℕ → Result (List ℕ) ℕ) → StandsList old says → (rest : List ℕ) → RefusesList err (says (piece ++ rest))) → IfSome a (λ bytes. RefusesList err (list_outcome bytes))
came_refused None b c old piece err h e f = tt
came_refused (Some xs) None c old piece err h e f = absurd h
came_refused (Some xs) (Some ys) None old piece err h e f = absurd e
came_refused (Some xs) (Some ys) (Some zs) old piece err h e f = subst (RefusesList err) (ap list_outcome (ap (λ l. h.0 ++ l) (sym e) ∙ sym h.1)) (f (λ more. list_outcome (h.0 ++ more)) h.2 zs)

abbrev pub Refusal : ListReader → List ℕ → ListError → Type 0
Refusal old piece err = (says : List ℕ → Result (List ℕ) ℕ) → StandsList old says → (rest : List ℕ) → RefusesList err (says (piece ++ rest))

not_io : (old : ListReader) (piece : List ℕ) (err : ListError) → Refusal old piece err → (says : List ℕ → Result (List ℕ) ℕ) → StandsList old says → err ≡ errors.Io → ⊥
not_io old piece errors.Io f says s e = f says s []
not_io old piece errors.OutOfMemory f says s e = absurd cc
not_io old piece (errors.Line l) f says s e = absurd cc

came_not_io : (a b : Option (List ℕ)) (old : ListReader) (piece : List ℕ) (err : ListError) → Came a b old → Refusal old piece err → err ≡ errors.Io → ⊥
came_not_io None b old piece err h f = not_io old piece err f h.0 h.1
came_not_io (Some xs) None old piece err h f = absurd h
came_not_io (Some xs) (Some ys) old piece err h f = not_io old piece err f (λ more. list_outcome (h.0 ++ more)) h.2

fails_by : (a c : Option (List ℕ)) (i j : ℕ) (err : ListError) → j ≡ i → IfSome a (λ bytes. RefusesList err (list_outcome bytes)) → (err ≡ errors.Io → ⊥) → NoList a c i j err
fails_by a c i j errors.Io k h n = absurd (n refl)
fails_by a c i j errors.OutOfMemory k h n = (k, h)
fails_by a c i j (errors.Line f) k h n = (k, h)

-- a piece is refused
pub came_fails : (a b c : Option (List ℕ)) (i j : ℕ) (old : ListReader) (piece : List ℕ) (err : ListError) → Came a b old → Consumes b c piece → j ≡ i → Refusal old piece err → NoList a c i j err
came_fails a b c i j old piece err h e k f = fails_by a c i j err k (came_refused a b c old piece err h e f) (came_not_io a b old piece err h f)

no_fault : (got : List ℕ) (r : ListReader) → StandsList r (λ more. list_outcome (got ++ more)) → NoneWrongYet got
no_fault got r s = record { line = r.at; so_far = r.numbers.items; begun = s.line; whatever = s.left }

-- the device fails
pub came_io : (a b c : Option (List ℕ)) (r : ListReader) → Came a b r → Keeps b c → HadGiven a c NoneWrongYet
came_io None b c r h e = tt
came_io (Some xs) None c r h e = absurd h
came_io (Some xs) (Some ys) None r h e = absurd e
came_io (Some xs) (Some ys) (Some zs) r h e = (h.0, h.1 ∙ ap (λ l. h.0 ++ l) (sym e), no_fault h.0 r h.2)

finished : (r : ListReader) (res : Result (List ℕ) ListError) (bytes got : List ℕ) → bytes ≡ got ++ [] → StandsList r (λ more. list_outcome (got ++ more))
    → ((says : List ℕ → Result (List ℕ) ℕ) → StandsList r says → ParsesList res (says [])) → ParsesList res (list_outcome bytes)
finished r res bytes got e s f = subst (λ l. ParsesList res (list_outcome l)) (sym e) (f (λ more. list_outcome (got ++ more)) s)

finish_none : (i j : ℕ) (c : Option (List ℕ)) (res : Result (List ℕ) ListError) (says : List ℕ → Result (List ℕ) ℕ) → j ≡ i → ParsesList res (says []) → GivesList None c i j res
finish_none i j c (Ok runs) says k h = (k, tt)
finish_none i j c (Err errors.Io) says k h = absurd h
finish_none i j c (Err errors.OutOfMemory) says k h = (k, tt)
finish_none i j c (Err (errors.Line f)) says k h = (k, tt)

finish_some : (i j : ℕ) (bytes : List ℕ) (c : Option (List ℕ)) (res : Result (List ℕ) ListError) → j ≡ i → ParsesList res (list_outcome bytes) → GivesList (Some bytes) c i j res
finish_some i j bytes c (Ok runs) k h = (k, h)
finish_some i j bytes c (Err errors.Io) k h = absurd h
finish_some i j bytes c (Err errors.OutOfMemory) k h = (k, h)
finish_some i j bytes c (Err (errors.Line f)) k h = (k, h)

-- the end of the source
pub came_end : (a b c : Option (List ℕ)) (i j : ℕ) (r : ListReader) (res : Result (List ℕ) ListError) → Came a b r → Consumes b c [] → IsAtEnd c → j ≡ i
    → ((says : List ℕ → Result (List ℕ) ℕ) → StandsList r says → ParsesList res (says [])) → GivesList a c i j res
came_end None b c i j r res h e end k f = finish_none i j c res h.0 k (f h.0 h.1)
came_end (Some xs) None c i j r res h e end k f = absurd h
came_end (Some xs) (Some ys) None i j r res h e end k f = absurd e
came_end (Some xs) (Some ys) (Some zs) i j r res h e end k f =
    finish_some i j xs (Some zs) res k (finished r res xs h.0 (h.1 ∙ ap (λ l. h.0 ++ l) (e ∙ end)) h.2 f)

-- ---- what the public call says

moved : (i j : ℕ) → j ≡ (i + 1) % 2 ^ 64 → j ≡ i → ⊥
moved i j e f = omega arith

pub read_outcome : (a c : Option (List ℕ)) (i j : ℕ) (res : Result (List ℕ) ListError) → GivesList a c i j res → IfSome a (λ bytes. ReadsList res (list_outcome bytes))
read_outcome None c i j res h = tt
read_outcome (Some bytes) c i j (Ok runs) h = h.1
read_outcome (Some bytes) c i j (Err errors.Io) h = tt
read_outcome (Some bytes) c i j (Err errors.OutOfMemory) h = tt
read_outcome (Some bytes) c i j (Err (errors.Line f)) h = h.1

pub read_io : (a c : Option (List ℕ)) (i j : ℕ) (res : Result (List ℕ) ListError) → GivesList a c i j res → IsErrOf res errors.Io ↔ (j ≡ i → ⊥)
read_io a c i j (Ok runs) h = (λ e. absurd cc, λ n. absurd (n h.0))
read_io a c i j (Err errors.Io) h = (λ e k. moved i j h.0 k, λ n. refl)
read_io a c i j (Err errors.OutOfMemory) h = (λ e. absurd cc, λ n. absurd (n h.0))
read_io a c i j (Err (errors.Line f)) h = (λ e. absurd cc, λ n. absurd (n h.0))

pub read_kept : (a c : Option (List ℕ)) (i j : ℕ) (res : Result (List ℕ) ListError) → GivesList a c i j res → (IsErrOf res errors.Io → ⊥) → j ≡ i
read_kept a c i j (Ok runs) h n = h.0
read_kept a c i j (Err errors.Io) h n = absurd (n refl)
read_kept a c i j (Err errors.OutOfMemory) h n = h.0
read_kept a c i j (Err (errors.Line f)) h n = h.0

pub read_cut : (a c : Option (List ℕ)) (i j : ℕ) (res : Result (List ℕ) ListError) → GivesList a c i j res → IfErr res (λ e. e ≡ errors.Io → HadGiven a c NoneWrongYet)
read_cut a c i j (Ok runs) h = tt
read_cut a c i j (Err errors.Io) h = λ e. h.1
read_cut a c i j (Err errors.OutOfMemory) h = λ e. absurd cc
read_cut a c i j (Err (errors.Line f)) h = λ e. absurd cc
