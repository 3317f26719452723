-- A mapfile that comes in pieces.
use Rattle.std.specs.Prelude.{◌↔◌, IfErr, IsErrOf}
use Rattle.std.proofs.Common.{◌≡◌, ℕ, ◌+◌, ◌%◌, ◌^◌, arith, List, [], ◌++◌, Option, None, Some, IfSome, Result, Ok, Err, refl, sym, ap, subst, ◌∙◌, append_assoc}
use Rattle.std.specs.Io.KnownBytes.{Consumes, IsAtEnd, Keeps}
use Rattle.udfs_reading.specs.Answers.{HadGiven}
use Rattle.udfs_rescue.specs.declared.run.Run.{Run}
use Rattle.udfs_rescue.specs.declared.fault.LineFault.{LineFault}
use Rattle.udfs_rescue.specs.declared.fault.MapError.{MapError}
use Rattle.udfs_rescue.specs.declared.fault.MapError.TheVariants as errors
use Rattle.udfs_rescue.specs.declared.stream.MapReader.{MapReader}
use Rattle.udfs_rescue.specs.Lines.{outcome, HasNoFaultYet}
use Rattle.udfs_rescue.specs.Views.{ReadsRuns, Refuses, Parses}
use Rattle.udfs_rescue.specs.Stream.{StandsFor, MapFails, ReadsMap}

-- the bytes that came, after which the reader stands for what all of it comes to
abbrev pub Came : Option (List ℕ) → Option (List ℕ) → MapReader → Type 0
Came None left r = (says : List ℕ → Result (List Run) LineFault) × StandsFor r says
Came (Some bytes) None r = ⊥
Came (Some bytes) (Some rest) r = (got : List ℕ) × (bytes ≡ got ++ rest) × StandsFor r (λ more. outcome (got ++ more))

same_says : (r : MapReader) (x y : List ℕ → Result (List Run) LineFault) → ((rest : List ℕ) → x rest ≡ y rest) → StandsFor r x → StandsFor r y
same_says r x y e s = record { line = s.line; front = s.front; keeps = s.keeps; left = λ rest. sym (e rest) ∙ s.left rest }

pub came_new : (a : Option (List ℕ)) (r : MapReader) → StandsFor r outcome → Came a a r
came_new None r s = (outcome, s)
came_new (Some bytes) r s = ([], refl, s)

pub came_more : (a b c : Option (List ℕ)) (old new : MapReader) (piece : List ℕ) → Came a b old → Consumes b c piece
    → ((says : List ℕ → Result (List Run) LineFault) → StandsFor old says → StandsFor new (λ rest. says (piece ++ rest))) → Came a c new
came_more None b c old new piece h e f = ((λ rest. h.0 (piece ++ rest)), f h.0 h.1)
came_more (Some xs) None c old new piece h e f = absurd h
came_more (Some xs) (Some ys) None old new piece h e f = absurd e
came_more (Some xs) (Some ys) (Some zs) old new piece h e f = (
  h.0 ++ piece,
  h.1 ∙ ap (λ l. h.0 ++ l) e ∙ sym (append_assoc h.0 piece zs),
  same_says new (λ rest. outcome (h.0 ++ (piece ++ rest))) (λ rest. outcome ((h.0 ++ piece) ++ rest)) (λ rest. ap outcome (sym (append_assoc h.0 piece rest))) (f (λ more. outcome (h.0 ++ more)) h.2),
)

-- the reader refuses what came
came_refused : (a b c : Option (List ℕ)) (old : MapReader) (piece : List ℕ) (err : MapError) → Came a b old → Consumes b c piece
    → ((says : List ℕ → Result (List Run) LineFault) → StandsFor old says → (rest : List ℕ) → Refuses err (says (piece ++ rest))) → IfSome a (λ bytes. Refuses err (outcome bytes))
came_refused None b c old piece err h e f = tt
came_refused (Some xs) None c old piece err h e f = absurd h
came_refused (Some xs) (Some ys) None old piece err h e f = absurd e
came_refused (Some xs) (Some ys) (Some zs) old piece err h e f = subst (Refuses err) (ap outcome (ap (λ l. h.0 ++ l) (sym e) ∙ sym h.1)) (f (λ more. outcome (h.0 ++ more)) h.2 zs)

abbrev pub Refusal : MapReader → List ℕ → MapError → Type 0
Refusal old piece err = (says : List ℕ → Result (List Run) LineFault) → StandsFor old says → (rest : List ℕ) → Refuses err (says (piece ++ rest))

not_io : (old : MapReader) (piece : List ℕ) (err : MapError) → Refusal old piece err → (says : List ℕ → Result (List Run) LineFault) → StandsFor old says → err ≡ errors.Io → ⊥
not_io old piece errors.Io f says s e = f says s []
not_io old piece errors.OutOfMemory f says s e = absurd cc
not_io old piece (errors.Line l) f says s e = absurd cc

came_not_io : (a b : Option (List ℕ)) (old : MapReader) (piece : List ℕ) (err : MapError) → Came a b old → Refusal old piece err → err ≡ errors.Io → ⊥
came_not_io None b old piece err h f = not_io old piece err f h.0 h.1
came_not_io (Some xs) None old piece err h f = absurd h
came_not_io (Some xs) (Some ys) old piece err h f = not_io old piece err f (λ more. outcome (h.0 ++ more)) h.2

fails_by : (a c : Option (List ℕ)) (i j : ℕ) (err : MapError) → j ≡ i → IfSome a (λ bytes. Refuses err (outcome bytes)) → (err ≡ errors.Io → ⊥) → MapFails a c i j err
fails_by a c i j errors.Io k h n = absurd (n refl)
fails_by a c i j errors.OutOfMemory k h n = (k, h)
fails_by a c i j (errors.Line f) k h n = (k, h)

-- a piece is refused
pub came_fails : (a b c : Option (List ℕ)) (i j : ℕ) (old : MapReader) (piece : List ℕ) (err : MapError) → Came a b old → Consumes b c piece → j ≡ i → Refusal old piece err → MapFails a c i j err
came_fails a b c i j old piece err h e k f = fails_by a c i j err k (came_refused a b c old piece err h e f) (came_not_io a b old piece err h f)

no_fault : (got : List ℕ) (r : MapReader) → StandsFor r (λ more. outcome (got ++ more)) → HasNoFaultYet got
no_fault got r s = record { line = r.line; so_far = r.runs; begun = s.line; whatever = s.left }

-- the device fails
pub came_io : (a b c : Option (List ℕ)) (r : MapReader) → Came a b r → Keeps b c → HadGiven a c HasNoFaultYet
came_io None b c r h e = tt
came_io (Some xs) None c r h e = absurd h
came_io (Some xs) (Some ys) None r h e = absurd e
came_io (Some xs) (Some ys) (Some zs) r h e = (h.0, h.1 ∙ ap (λ l. h.0 ++ l) (sym e), no_fault h.0 r h.2)

finished : (r : MapReader) (res : Result (List Run) MapError) (bytes got : List ℕ) → bytes ≡ got ++ [] → StandsFor r (λ more. outcome (got ++ more))
    → ((says : List ℕ → Result (List Run) LineFault) → StandsFor r says → Parses res (says [])) → Parses res (outcome bytes)
finished r res bytes got e s f = subst (λ l. Parses res (outcome l)) (sym e) (f (λ more. outcome (got ++ more)) s)

finish_none : (i j : ℕ) (c : Option (List ℕ)) (res : Result (List Run) MapError) (says : List ℕ → Result (List Run) LineFault) → j ≡ i → Parses res (says []) → ReadsMap None c i j res
finish_none i j c (Ok runs) says k h = (k, tt)
finish_none i j c (Err errors.Io) says k h = absurd h
finish_none i j c (Err errors.OutOfMemory) says k h = (k, tt)
finish_none i j c (Err (errors.Line f)) says k h = (k, tt)

finish_some : (i j : ℕ) (bytes : List ℕ) (c : Option (List ℕ)) (res : Result (List Run) MapError) → j ≡ i → Parses res (outcome bytes) → ReadsMap (Some bytes) c i j res
finish_some i j bytes c (Ok runs) k h = (k, h)
finish_some i j bytes c (Err errors.Io) k h = absurd h
finish_some i j bytes c (Err errors.OutOfMemory) k h = (k, h)
finish_some i j bytes c (Err (errors.Line f)) k h = (k, h)

-- the end of the source
pub came_end : (a b c : Option (List ℕ)) (i j : ℕ) (r : MapReader) (res : Result (List Run) MapError) → Came a b r → Consumes b c [] → IsAtEnd c → j ≡ i
    → ((says : List ℕ → Result (List Run) LineFault) → StandsFor r says → Parses res (says [])) → ReadsMap a c i j res
came_end None b c i j r res h e end k f = finish_none i j c res h.0 k (f h.0 h.1)
came_end (Some xs) None c i j r res h e end k f = absurd h
came_end (Some xs) (Some ys) None i j r res h e end k f = absurd e
came_end (Some xs) (Some ys) (Some zs) i j r res h e end k f =
    finish_some i j xs (Some zs) res k (finished r res xs h.0 (h.1 ∙ ap (λ l. h.0 ++ l) (e ∙ end)) h.2 f)

-- ---- what the public call says

moved : (i j : ℕ) → j ≡ (i + 1) % 2 ^ 64 → j ≡ i → ⊥
moved i j e f = omega arith

pub read_outcome : (a c : Option (List ℕ)) (i j : ℕ) (res : Result (List Run) MapError) → ReadsMap a c i j res → IfSome a (λ bytes. ReadsRuns res (outcome bytes))
read_outcome None c i j res h = tt
read_outcome (Some bytes) c i j (Ok runs) h = h.1
read_outcome (Some bytes) c i j (Err errors.Io) h = tt
read_outcome (Some bytes) c i j (Err errors.OutOfMemory) h = tt
read_outcome (Some bytes) c i j (Err (errors.Line f)) h = h.1

pub read_io : (a c : Option (List ℕ)) (i j : ℕ) (res : Result (List Run) MapError) → ReadsMap a c i j res → IsErrOf res errors.Io ↔ (j ≡ i → ⊥)
read_io a c i j (Ok runs) h = (λ e. absurd cc, λ n. absurd (n h.0))
read_io a c i j (Err errors.Io) h = (λ e k. moved i j h.0 k, λ n. refl)
read_io a c i j (Err errors.OutOfMemory) h = (λ e. absurd cc, λ n. absurd (n h.0))
read_io a c i j (Err (errors.Line f)) h = (λ e. absurd cc, λ n. absurd (n h.0))

pub read_kept : (a c : Option (List ℕ)) (i j : ℕ) (res : Result (List Run) MapError) → ReadsMap a c i j res → (IsErrOf res errors.Io → ⊥) → j ≡ i
read_kept a c i j (Ok runs) h n = h.0
read_kept a c i j (Err errors.Io) h n = absurd (n refl)
read_kept a c i j (Err errors.OutOfMemory) h n = h.0
read_kept a c i j (Err (errors.Line f)) h n = h.0

pub read_cut : (a c : Option (List ℕ)) (i j : ℕ) (res : Result (List Run) MapError) → ReadsMap a c i j res → IfErr res (λ e. e ≡ errors.Io → HadGiven a c HasNoFaultYet)
read_cut a c i j (Ok runs) h = tt
read_cut a c i j (Err errors.Io) h = λ e. h.1
read_cut a c i j (Err errors.OutOfMemory) h = λ e. absurd cc
read_cut a c i j (Err (errors.Line f)) h = λ e. absurd cc
