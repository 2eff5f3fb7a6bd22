-- An authority whose requests or replies are bent on the way.
use Rattle.std.specs.Prelude.{ℕ, ◌-◌, List, length, slice_index, slice_set, bit_xor, nat_lt, if◌then◌else◌}
use Rattle.ev_world.specs.declared.authority.StampCall.{StampCall}
use Rattle.ev_devices.specs.declared.bent.BendAt.{BendAt}
use Rattle.ev_devices.specs.declared.bent.BendAt.TheVariants.{Request, Reply}

-- the bits of the mask turned in the byte that stands so far before the end; a text without that byte is as it was
abbrev pub bent : ℕ → ℕ → List ℕ → List ℕ
bent from_end mask b =
    let place = length b - 1 - from_end in
    if nat_lt from_end (length b) then slice_set b place (bit_xor (slice_index b place) mask) else b

-- what is bent, which byte, and how; the authority behind; and the calls that were made
pub record Bending (A : Type 0) : Type 0 where
  pub inner : A
  pub at : BendAt
  pub from_end : ℕ
  pub mask : ℕ
  pub calls : List StampCall

-- the request as the authority behind gets it
abbrev pub bent_request : {A : Type 0} → Bending A → List ℕ → List ℕ
bent_request b text = elim b.at [ Request ↦ bent b.from_end b.mask text | Reply ↦ text ]

-- the reply as it is handed out
abbrev pub bent_reply : {A : Type 0} → Bending A → List ℕ → List ℕ
bent_reply b text = elim b.at [ Request ↦ text | Reply ↦ bent b.from_end b.mask text ]
