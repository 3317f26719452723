-- What holds of a result of a call on a store of blocks.
use Rattle.std.proofs.Common.{Result, Ok, Err, IfOk}

-- what holds of a result's value, where something else holds of it
pub if_ok : {A E : Type 0} (r : Result A E) (P Q : A → Type 0) → ((x : A) → P x → Q x) → IfOk r P → IfOk r Q
if_ok (Ok x) P Q f p = f x p
if_ok (Err e) P Q f p = tt

-- the same, of what a store tells only under a condition
pub retold : {A E : Type 0} (Told : Type 0) (r : Result A E) (P Q : A → Type 0) → (Told → (x : A) → P x → Q x) → IfOk r (λ x. Told → P x) → IfOk r (λ x. Told → Q x)
retold Told (Ok x) P Q f p = λ told. f told x (p told)
retold Told (Err e) P Q f p = tt
