-- What holds of an answer, by what is known of it.
use Rattle.std.specs.Prelude.{Result, Ok, Err, IfOk}

pub if_ok_then : {X F : Type 0} (r : Result X F) (P Q : X → Type 0) → ((x : X) → P x → Q x) → IfOk r P → IfOk r Q
if_ok_then (Ok x) P Q f p = f x p
if_ok_then (Err e) P Q f p = tt
