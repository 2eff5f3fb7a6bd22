-- What making a state says of the bytes that were there.
use Rattle.std.proofs.Common.{take, Result, Ok, Err, ◌∙◌, ◌≡◌, ◌≢◌, ℕ, ◌+◌, ◌-◌, ◌<◌, ◌≤◌, List, ◌++◌, length, drop, replicate, ap, arith, length-append, length-drop}
use Rattle.std.proofs.lemmas.List.{length-replicate}
use Rattle.std.specs.Prelude.{IfOk, IfErr}
use Rattle.key_state.specs.declared.fault.StateFault.{StateFault}
use Rattle.key_state.specs.declared.fault.StateFault.TheVariants.{DiskFault, NotFormatted, WrongLength, Exhausted, Broken, Memory}
use Rattle.key_state.specs.Keys.{header, IsKeys, Refuses}
use Rattle.trial_authority.specs.Key.{leaves}
use Rattle.trial_authority.specs.Inside.{SaysLong}

-- new is what is made over old
made_length : (n : ℕ) (old new : List ℕ) → new ≡ header ++ replicate n 0 ++ drop (16 + n) old → length new ≡ 16 + n + (length old - (16 + n))
made_length n old new is =
    omega (arith, ap length is, length-append (header ++ replicate n 0) (drop (16 + n) old), length-append header (replicate n 0), length-replicate {A = ℕ} n 0, length-drop (16 + n) old)

pub made_over_few : (n : ℕ) (old new : List ℕ) → new ≡ header ++ replicate n 0 ++ drop (16 + n) old → IsKeys new n → length old ≤ 16 + n
made_over_few n old new is keys = omega (arith, made_length n old new is, keys.size)

pub made_over_more : (n : ℕ) (old new : List ℕ) → new ≡ header ++ replicate n 0 ++ drop (16 + n) old → length new ≢ 16 + n → 16 + n < length old
made_over_more n old new is long = omega (arith, made_length n old new is, long)

-- why a state that was made isn't opened
pub says_long : (old new : List ℕ) → new ≡ header ++ replicate leaves 0 ++ drop (16 + leaves) old → (e : StateFault) → Refuses new leaves e → SaysLong old e
says_long old new is DiskFault r = tt
says_long old new is Memory r = tt
says_long old new is (WrongLength n) r = made_over_more leaves old new is (λ e. r.2 (r.1 ∙ e))
says_long old new is NotFormatted r = r (ap (take 16) is)
says_long old new is Exhausted r = r
says_long old new is (Broken index) r = r

-- ---- what an answer says, by what it says already

pub if_ok : {T E : Type 0} (r : Result T E) (P Q : T → Type 0) → ((x : T) → P x → Q x) → IfOk r P → IfOk r Q
if_ok (Ok x) P Q more p = more x p
if_ok (Err e) P Q more p = tt

pub if_both : {T E : Type 0} (r : Result T E) (P Q R : T → Type 0) → ((x : T) → P x → Q x → R x) → IfOk r P → IfOk r Q → IfOk r R
if_both (Ok x) P Q R more p q = more x p q
if_both (Err e) P Q R more p q = tt

pub if_err : {T E : Type 0} (r : Result T E) (P Q : E → Type 0) → ((e : E) → P e → Q e) → IfErr r P → IfErr r Q
if_err (Ok x) P Q more p = tt
if_err (Err e) P Q more p = more e p
