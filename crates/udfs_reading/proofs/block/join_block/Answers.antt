use Rattle.std.proofs.Common.{◌∙◌, ◌≡◌, ℕ, List, Option, [], take, drop, refl, sym, subst}
use Rattle.std.specs.Io.KnownBytes.{Consumes}
use Rattle.std.proofs.lemmas.Result.{err_from_is_err_and}
use Rattle.udfs_lattice.specs.Tables.{join_tables, one_record}
use Rattle.udfs_reading.specs.Device.{left}
use Rattle.udfs_reading.specs.Places.{StandsAt}
use Rattle.udfs_reading.proofs.GainLemmas.{gains_one}
use Rattle.udfs_reading.proofs.Cuts.{block_cut}
use Rattle.udfs_reading.proofs.Records.{is_block}
use Rattle.udfs_reading.proofs.PlaceLemmas.{block_stands, chunk_moves, stands_still}
use Rattle.udfs_reading.proofs.WindowLemmas.{left_chunk}
use Rattle.udfs_reading.proofs.block.join_block.Goals as goal

pub returns-in_err-field-clause-err : goal.returns-in_err-field-clause-err
returns-in_err-field-clause-err g c =
    let p = err_from_is_err_and c.from_residual.result c.from_residual.ensures.1 in
    rw (p.1, p.2) (block_cut c.in_err-field.ensures.err)

pub put-outcome-requires-clause-at : goal.put-outcome-requires-clause-at
put-outcome-requires-clause-at g c = block_stands _ _ c.field.new.window.bytes _ (g.R.Source.remaining c.field.new.source) c.in_ok-field.ensures.whole c.chunk.ensures.value (stands_still _ _ _ _ _ (c.at.ensures ∙ c.in_ok-field.ensures.at) c.in_ok-field.ensures.left c.requires.at)

-- the bytes of the block were taken
given_block : (w now : List ℕ) (a d : Option (List ℕ)) → Consumes a (left w d) [] → now ≡ drop 2048 w → Consumes a (left now d) (take 2048 w)
given_block w now a d k e = subst (λ (l : List ℕ). Consumes a (left l d) (take 2048 w)) (sym e) (left_chunk w 2048 a d k)

pub returns-in-Ok-clause-ok : goal.returns-in-Ok-clause-ok
returns-in-Ok-clause-ok g c =
    let w = c.field.new.window.bytes in
    let R = g.R.Source in
    let block = c.args.block in
    gains_one (one_record block (take 2048 w))
    (λ t. record {
      taken = take 2048 w;
      is_block = is_block w c.chunk.result.now c.in_ok-field.ensures.whole c.chunk.ensures.value c.chunk.ensures.range;
      given = given_block w c.take.new.self.bytes (left c.args.window.now.bytes (R.remaining c.args.source.now)) (R.remaining c.field.new.source) c.in_ok-field.ensures.left c.take.ensures.bytes;
      put = refl;
    })
    (λ t h. subst (λ (l : List ℕ). g.T.Taker.took c.put-outcome.new.self (join_tables t (one_record block l))) c.chunk.ensures.value (c.in-Ok.ensures.ok t h))

pub returns-in-Ok-clause-at : goal.returns-in-Ok-clause-at
returns-in-Ok-clause-at g c =
    subst (λ (o : Option (List ℕ)). StandsAt o c.take.new.self.at (left c.take.new.self.bytes (g.R.Source.remaining c.field.new.source))) (sym c.in-Ok.ensures.input)
    (chunk_moves _ _ _ 2048 c.field.new.window.bytes _ _ (g.R.Source.remaining c.field.new.source) c.in_ok-field.ensures.whole c.in_ok-field.ensures.at c.take.ensures.at c.take.ensures.bytes c.in_ok-field.ensures.left _ c.requires.at)

pub returns-in-Err-clause-err : goal.returns-in-Err-clause-err
returns-in-Err-clause-err g c =
    let w = c.field.new.window.bytes in
    let R = g.R.Source in
    record {
      got = take 2048 w;
      given = given_block w c.take.new.self.bytes (left c.args.window.now.bytes (R.remaining c.args.source.now)) (R.remaining c.field.new.source) c.in_ok-field.ensures.left c.take.ensures.bytes;
      why = c.in_ok-field.ensures.count;
      which = refl;
    }
