-- A part of what is written is no longer than the whole.
use Rattle.std.proofs.Common.{ℕ, ◌<◌, List, ◌∷◌, [], ◌++◌, length, Option, Some, None}
use Rattle.std.specs.Prelude.{IfSome}
use Rattle.std.specs.Borrow.{Bor}
use Rattle.std.specs.Option.{option_map}
use Rattle.der_values.specs.Value.{value}
use Rattle.der_values.proofs.Lengths.{front_shorter, second_shorter}
use Rattle.tst_info.specs.Imprint.{imprint_text}
use Rattle.tst_info.specs.Info.{Tst, tst_contents}
use Rattle.tst_info.specs.Request.{ToStamp, request_contents}
use Rattle.tst_info.specs.Spelling.{flag_text, nonce_text}

pub nonce_shorter : (before : List ℕ) (nonce : Option (List ℕ)) (most : ℕ) → length (before ++ nonce_text nonce) < most → IfSome nonce (λ n. length n < most)
nonce_shorter before None most short = tt
nonce_shorter before (Some n) most short = second_shorter before 2 n most short

-- the same of a nonce in memory
pub nonce_seen_shorter : (nonce : Option (Bor (List ℕ))) (most : ℕ) → IfSome (option_map (λ b. b.now) nonce) (λ n. length n < most) → IfSome nonce (λ b. length b.now < most)
nonce_seen_shorter None most short = tt
nonce_seen_shorter (Some n) most short = short

-- what stands in a TSTInfo
pub record TstShort (t : Tst (List ℕ)) (most : ℕ) : Type 0 where
  pub policy : length t.policy < most
  pub imprint : length (imprint_text t.hash t.imprint) < most
  pub serial : length t.serial < most
  pub time : length t.time < most
  pub nonce : IfSome t.nonce (λ n. length n < most)

pub tst_shorter : (t : Tst (List ℕ)) (most : ℕ) → length (tst_contents t) < most → TstShort t most
tst_shorter t most short =
    let version = value 2 (1 ∷ []) in
    let policy = version ++ value 6 t.policy in
    let imprint = policy ++ value 48 (imprint_text t.hash t.imprint) in
    let serial = imprint ++ value 2 t.serial in
    let time = serial ++ value 24 t.time in
    let flag = time ++ flag_text t.ordering in
    let f = front_shorter flag (nonce_text t.nonce) most short in
    let g = front_shorter time (flag_text t.ordering) most f in
    let h = front_shorter serial (value 24 t.time) most g in
    let i = front_shorter imprint (value 2 t.serial) most h in
    let j = front_shorter policy (value 48 (imprint_text t.hash t.imprint)) most i in
    record {
      policy = second_shorter version 6 t.policy most j;
      imprint = second_shorter policy 48 (imprint_text t.hash t.imprint) most i;
      serial = second_shorter imprint 2 t.serial most h;
      time = second_shorter serial 24 t.time most g;
      nonce = nonce_shorter flag t.nonce most short;
    }

-- what stands in a request
pub record RequestShort (q : ToStamp) (most : ℕ) : Type 0 where
  pub imprint : length (imprint_text q.hash q.imprint) < most
  pub nonce : IfSome q.nonce (λ n. length n < most)

pub request_shorter : (q : ToStamp) (most : ℕ) → length (request_contents q) < most → RequestShort q most
request_shorter q most short =
    let version = value 2 (1 ∷ []) in
    let imprint = version ++ value 48 (imprint_text q.hash q.imprint) in
    record {
      imprint = second_shorter version 48 (imprint_text q.hash q.imprint) most (front_shorter imprint (nonce_text q.nonce) most short);
      nonce = nonce_shorter imprint q.nonce most short;
    }
