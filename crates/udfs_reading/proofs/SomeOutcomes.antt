-- All bytes have an outcome, in each kind of file.
use Rattle.std.proofs.Common.{◌≡◌, ◌≢◌, ℕ, Bool, true, false, List, length, refl, inl, inr, ⊎_elim}
use Rattle.std.specs.Prelude.{◌⊎◌}
use Rattle.std.specs.Str.{bytes_eq}
use Rattle.std.proofs.lemmas.Bool.{cases_lt, cases_Bool}
use Rattle.udfs_reading.specs.declared.error.ReadingFault.TheVariants.{Magic, Truncated}
use Rattle.udfs_reading.specs.Kind.{AreBytes, HasOutcome}
use Rattle.udfs_reading.specs.Reading.{reading_format, readings}
use Rattle.udfs_reading.specs.TableReading.{table_format}
use Rattle.udfs_reading.specs.PacketReading.{packet_format}
use Rattle.udfs_reading.specs.Inputs.{unnamed_kind, named, files}
use Rattle.udfs_reading.proofs.Magics.{same_bytes, other_bytes}
use Rattle.udfs_reading.proofs.SomeHeader.{some_outcome}
use Rattle.udfs_reading.proofs.SomeReading as reading
use Rattle.udfs_reading.proofs.SomeEntries as entries
use Rattle.udfs_reading.proofs.SomePackets as packets

same_or_not : (xs ys : List ℕ) → (xs ≡ ys) ⊎ (xs ≢ ys)
same_or_not xs ys = ⊎_elim (λ e. inl (same_bytes xs ys e)) (λ e. inr (other_bytes xs ys e)) (cases_Bool (bytes_eq xs ys))

pub some_reading : (bytes : List ℕ) → AreBytes bytes → HasOutcome readings bytes
some_reading bytes are = some_outcome reading_format reading.behind same_or_not bytes are

unnamed_outcome : (bytes : List ℕ) → HasOutcome unnamed_kind bytes
unnamed_outcome bytes = ⊎_elim (λ short. inr (Truncated, 0, (short, refl))) (λ long. inr (Magic, 0, (long, refl))) (cases_lt (length bytes) 8)

named_outcome : (a b c : Bool) (bytes : List ℕ) → AreBytes bytes → HasOutcome (named a b c) bytes
named_outcome true b c bytes are = some_reading bytes are
named_outcome false true c bytes are = some_outcome table_format entries.behind same_or_not bytes are
named_outcome false false true bytes are = some_outcome packet_format packets.behind same_or_not bytes are
named_outcome false false false bytes are = unnamed_outcome bytes

pub some_file : (too : Bool) (bytes : List ℕ) → AreBytes bytes → HasOutcome (files too) bytes
some_file too bytes are = named_outcome _ _ _ bytes are
