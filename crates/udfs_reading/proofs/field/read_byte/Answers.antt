use Rattle.std.proofs.Common.{◌≡◌, ℕ, List, [], ◌∷◌, ◌++◌, length, take, drop, sym, ap, ◌∙◌, subst, take-append-drop, length-take-le}
use Rattle.std.specs.Prelude.{slice_index}
use Rattle.std.specs.Io.KnownBytes.{Consumes}
use Rattle.udfs_reading.specs.Device.{left}
use Rattle.udfs_reading.proofs.Entries.{one_byte}
use Rattle.udfs_reading.proofs.PlaceLemmas.{chunk_moves}
use Rattle.udfs_reading.proofs.WindowLemmas.{left_taken}
use Rattle.udfs_reading.proofs.field.read_byte.Goals as goal

pub returns-clause-bytes : goal.returns-clause-bytes
returns-clause-bytes g c =
    let w = c.field.new.window.bytes in
    let chunk = c.chunk.result.now in
    let byte : ℕ = slice_index chunk 0 in
    let len : length chunk ≡ 1 = ap length c.chunk.ensures.value ∙ length-take-le 1 w c.in_ok-field.ensures.whole in
    let is : byte ∷ [] ≡ take 1 w = sym (one_byte chunk len) ∙ c.chunk.ensures.value in
    subst (λ (l : List ℕ). Consumes (left c.args.window.now.bytes (g.R.Source.remaining c.args.source.now)) (left l (g.R.Source.remaining c.field.new.source)) (byte ∷ []))
    (sym c.take.ensures.bytes)
    (left_taken w (byte ∷ []) 1 (left c.args.window.now.bytes (g.R.Source.remaining c.args.source.now)) (g.R.Source.remaining c.field.new.source)
    (sym (take-append-drop 1 w) ∙ ap (λ (l : List ℕ). l ++ drop 1 w) (sym is)) c.in_ok-field.ensures.left)

pub returns-clause-at : goal.returns-clause-at
returns-clause-at g c = chunk_moves _ _ _ 1 c.field.new.window.bytes _ _ (g.R.Source.remaining c.field.new.source) c.in_ok-field.ensures.whole c.in_ok-field.ensures.at c.take.ensures.at c.take.ensures.bytes c.in_ok-field.ensures.left
