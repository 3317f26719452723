use Rattle.std.proofs.Common.{[], refl, sym, ◌∙◌}
use Rattle.std.proofs.lemmas.Result.{err_from_is_err_and}
use Rattle.std.proofs.KnownBytes.{Consumes-nil}
use Rattle.udfs_reading.specs.Format.{AtMagic}
use Rattle.udfs_reading.specs.Reading.{magic, reading_format, readings}
use Rattle.udfs_reading.proofs.GainLemmas.{gains_as}
use Rattle.udfs_reading.proofs.Ends.{ends_cut}
use Rattle.udfs_reading.proofs.Magics.{ends_magic, ends_behind, takes_behind}
use Rattle.udfs_reading.proofs.input.join_reading.Goals as goal

pub returns-in_err-magic-clause-err : goal.returns-in_err-magic-clause-err
returns-in_err-magic-clause-err g c =
    let p = err_from_is_err_and c.from_residual.result c.from_residual.ensures.1 in
    rw (p.1, p.2) (ends_cut reading_format AtMagic [] [] tt refl refl (Consumes-nil _) refl c.in_err-magic.ensures.err)

pub returns-in_err-read_body-clause-err : goal.returns-in_err-read_body-clause-err
returns-in_err-read_body-clause-err g c =
    let p = err_from_is_err_and c.from_residual-in_err-read_body.result c.from_residual-in_err-read_body.ensures.1 in
    rw (p.1, p.2) (ends_behind readings magic c.in_ok-magic.magic c.in_ok-magic.ensures.bytes c.in_ok-magic.ensures.count (sym c.names_reading.ensures ∙ c.if-names_reading.true) c.in_err-read_body.ensures.err)

pub returns-then-names_reading-clause-ok : goal.returns-then-names_reading-clause-ok
returns-then-names_reading-clause-ok g c = gains_as (λ before after. takes_behind readings magic c.in_ok-magic.magic c.in_ok-magic.ensures.bytes (sym c.names_reading.ensures ∙ c.if-names_reading.true)) c.in_ok-read_body.ensures.ok

pub returns-clause-err : goal.returns-clause-err
returns-clause-err g c =
    ends_magic reading_format c.in_ok-magic.magic c.in_ok-magic.ensures.bytes c.in_ok-magic.ensures.count c.in_ok-magic.ensures.eight (sym c.names_reading.ensures ∙ c.if-names_reading.false)

pub read_body-requires : goal.read_body-requires
read_body-requires g c = c.in_ok-magic.ensures.at _ c.requires
