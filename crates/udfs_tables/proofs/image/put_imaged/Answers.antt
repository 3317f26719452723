use Rattle.std.proofs.Common.{◌≡◌, ℕ, ap, inl, inr, refl, ⊎_elim}
use Rattle.std.specs.Prelude.{Err}
use Rattle.udfs_index.specs.Copying.{AreAllTold}
use Rattle.udfs_rescue.specs.Images.{image_bytes}
use Rattle.udfs_rescue.specs.Writing.{map_text, table_status}
use Rattle.udfs_tables.specs.Imaging.{IsImageOf}
use Rattle.udfs_tables.proofs.ImagedLemmas.{same_map}
use Rattle.udfs_tables.proofs.PairingLemmas.{goes_told, kept_told, left_made, no_place, not_made, put_there, spares_there, unbegun}
use Rattle.udfs_tables.proofs.image.put_imaged.Goals as goal

pub returns-in-Err-clause-puts : goal.returns-in-Err-clause-puts
returns-in-Err-clause-puts g c t shows = unbegun _ _ _ _ _ _ g.met.F.Files.only_now

pub returns-in-Err-find_places-clause-puts : goal.returns-in-Err-find_places-clause-puts
returns-in-Err-find_places-clause-puts g c t shows = unbegun _ _ _ _ _ _ g.met.F.Files.only_now

pub returns-in-Ok-put_at-clause-puts : goal.returns-in-Ok-put_at-clause-puts
returns-in-Ok-put_at-clause-puts g c t shows =
    let last = c.args.last in
    let of = c.args.of.now in
    let told : g.F.Files.tells → (n : ℕ) → g.T.Statuses.statuses of n ≡ table_status t n = λ tells. g.met.T.Imaged.shown of t (shows (g.met.F.Files.stored_told tells)) in
    let are : IsImageOf (AreAllTold g.F.Stored.Stored.content) last (image_bytes t last) (map_text (table_status t) last) t = record { in_range = c.in-Ok.ensures.in_range; nothing_past = λ told. c.in-Ok.ensures.nothing_past t (shows told); image = refl; mapfile = refl } in
    record {
      put = put_there _ _ _ _ _ _ _ _ _ _ c.in-Ok-find_places.ensures.image c.in-Ok-find_places.ensures.mapfile are (kept_told g.F.Files _ _ (image_bytes t last) _ _ _ (λ tells. same_map (g.T.Statuses.statuses of) t last (told tells)) (c.in-Ok-put_at.ensures.kept t (λ tells. shows (g.met.F.Files.stored_told tells))));
      left = tt;
      spares = spares_there _ _ _ _ _ _ _ _ _ _ c.in-Ok-find_places.ensures.image c.in-Ok-find_places.ensures.mapfile are g.met.F.Files.only_now (goes_told g.F.Files _ _ (image_bytes t last) _ _ _ _ (λ tells. same_map (g.T.Statuses.statuses of) t last (told tells)) (c.put_at.ensures.goes t (λ tells. shows (g.met.F.Files.stored_told tells))));
    }

pub returns-clause-puts : goal.returns-clause-puts
returns-clause-puts g c t shows =
    let last = c.args.last in
    let of = c.args.of.now in
    let told : g.F.Files.tells → (n : ℕ) → g.T.Statuses.statuses of n ≡ table_status t n = λ tells. g.met.T.Imaged.shown of t (shows (g.met.F.Files.stored_told tells)) in
    let are : IsImageOf (AreAllTold g.F.Stored.Stored.content) last (image_bytes t last) (map_text (table_status t) last) t = record { in_range = c.in-Ok.ensures.in_range; nothing_past = λ told. c.in-Ok.ensures.nothing_past t (shows told); image = refl; mapfile = refl } in
    record {
      put = tt;
      left = inr (left_made _ _ (not_made _ _ c.in-Err-put_at.ensures.why));
      spares = spares_there _ _ _ _ _ _ _ _ _ _ c.in-Ok-find_places.ensures.image c.in-Ok-find_places.ensures.mapfile are g.met.F.Files.only_now (goes_told g.F.Files _ _ (image_bytes t last) _ _ _ _ (λ tells. same_map (g.T.Statuses.statuses of) t last (told tells)) (c.put_at.ensures.goes t (λ tells. shows (g.met.F.Files.stored_told tells))));
    }

pub returns-in-Err-clause-why : goal.returns-in-Err-clause-why
returns-in-Err-clause-why g c = inr (λ t shows. inl (⊎_elim (λ range. inl range) (λ past. inr (past.0, past.1, past.2, λ told. past.3 t (shows told))) c.in-Err.ensures.told))

pub returns-in-Err-find_places-clause-why : goal.returns-in-Err-find_places-clause-why
returns-in-Err-find_places-clause-why g c = inr (λ t shows. no_place _ c.in-Err-find_places.ensures.told (λ e. c.in-Err-find_places.ensures.cause (ap (λ x. Err x) e)) (λ e. c.in-Err-find_places.ensures.spared (ap (λ x. Err x) e)))

pub returns-clause-why : goal.returns-clause-why
returns-clause-why g c = ⊎_elim (λ unput. inr (λ t shows. inr (inr unput))) (λ reread. inl reread) (not_made _ _ c.in-Err-put_at.ensures.why)
