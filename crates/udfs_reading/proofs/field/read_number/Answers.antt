use Rattle.std.proofs.Common.{◌≡◌, ℕ, List, ◌++◌, length, take, drop, sym, ap, ◌∙◌, subst, take-append-drop, length-take-le}
use Rattle.std.specs.Io.KnownBytes.{Consumes}
use Rattle.udfs_reading.specs.Device.{left}
use Rattle.udfs_reading.specs.Format.{number}
use Rattle.udfs_reading.proofs.Numbers.{number-value}
use Rattle.udfs_reading.proofs.PlaceLemmas.{chunk_moves}
use Rattle.udfs_reading.proofs.WindowLemmas.{left_taken}
use Rattle.udfs_reading.proofs.field.read_number.Goals as goal

pub returns-clause-bytes : goal.returns-clause-bytes
returns-clause-bytes g c =
    let w = c.field.new.window.bytes in
    let n = c.read_u32-n.result in
    let chunk = c.chunk.result.now in
    let len : length chunk ≡ 4 = ap length c.chunk.ensures.value ∙ length-take-le 4 w c.in_ok-field.ensures.whole in
    let is : number n ≡ take 4 w = number-value chunk n len c.chunk.ensures.range c.read_u32-n.ensures ∙ c.chunk.ensures.value in
    subst (λ (l : List ℕ). Consumes (left c.args.window.now.bytes (g.R.Source.remaining c.args.source.now)) (left l (g.R.Source.remaining c.field.new.source)) (number n))
    (sym c.take.ensures.bytes)
    (left_taken w (number n) 4 (left c.args.window.now.bytes (g.R.Source.remaining c.args.source.now)) (g.R.Source.remaining c.field.new.source)
    (sym (take-append-drop 4 w) ∙ ap (λ (l : List ℕ). l ++ drop 4 w) (sym is)) c.in_ok-field.ensures.left)

pub returns-clause-at : goal.returns-clause-at
returns-clause-at g c = chunk_moves _ _ _ 4 c.field.new.window.bytes _ _ (g.R.Source.remaining c.field.new.source) c.in_ok-field.ensures.whole c.in_ok-field.ensures.at c.take.ensures.at c.take.ensures.bytes c.in_ok-field.ensures.left
