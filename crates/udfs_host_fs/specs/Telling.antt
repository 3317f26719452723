-- What is known of inputs and outputs.
use Rattle.std.specs.Prelude.{◌≡◌, ◌⊎◌, ℕ, List, Option, None}
use Rattle.udfs_index.specs.Copying.{AreAllTold}
use Rattle.udfs_reading.specs.Device.{Stream}

-- the bytes of each input of this kind are known, or it is known of no output of this kind what was written to it
abbrev pub ToldOrSilent : {S W : Type 0} → (S → Option (List ℕ)) → (W → Stream) → Type 0
ToldOrSilent {S} {W} content stream = AreAllTold content ⊎ ((w : W) → (stream w).contents ≡ None)
