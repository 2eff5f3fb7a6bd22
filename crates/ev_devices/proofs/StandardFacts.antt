-- Worked values of the definitions, so that a wrong rule in the specs does not check.
use Rattle.std.proofs.Common.{◌≡◌, List, [], ◌∷◌, Some, None, refl}
use Rattle.ev_world.specs.Disk.{put}
use Rattle.ev_devices.specs.Bend.{bent}
use Rattle.ev_devices.specs.Writes.{replay, made_at, left_by}
use Rattle.ev_devices.specs.declared.crash.Crash.TheVariants.{Old, New, Torn}
use Rattle.ev_devices.specs.declared.written.Written.{Written}

-- over what is there, and past the end
over : put (1 ∷ 2 ∷ 3 ∷ []) 1 (7 ∷ 8 ∷ 9 ∷ []) ≡ 1 ∷ 7 ∷ 8 ∷ 9 ∷ []
over = refl

inside : put (1 ∷ 2 ∷ 3 ∷ []) 1 (7 ∷ []) ≡ 1 ∷ 7 ∷ 3 ∷ []
inside = refl

-- one write that was synced at moment 2, and one past the end at moment 3
abbrev writes : List Written
writes =
    record { place = 0; bytes = 7 ∷ []; moment = 1; synced = Some 2 }
    ∷ record { place = 1; bytes = 8 ∷ 9 ∷ []; moment = 3; synced = None } ∷ []

read : replay (1 ∷ 2 ∷ []) writes ≡ 7 ∷ 8 ∷ 9 ∷ []
read = refl

-- at moment 1 the first write is there, and not synced yet
at_one : made_at 1 writes ≡ record { place = 0; bytes = 7 ∷ []; moment = 1; synced = None } ∷ []
at_one = refl

old : left_by Old (1 ∷ 2 ∷ []) writes ≡ 7 ∷ 2 ∷ []
old = refl

new : left_by New (1 ∷ 2 ∷ []) writes ≡ 7 ∷ 8 ∷ 9 ∷ []
new = refl

filled : left_by (Torn 255) (1 ∷ 2 ∷ []) writes ≡ 7 ∷ 255 ∷ 255 ∷ []
filled = refl

-- the last byte, with its lowest bit turned; and a byte that isn't there
turned : bent 0 1 (1 ∷ 2 ∷ 6 ∷ []) ≡ 1 ∷ 2 ∷ 7 ∷ []
turned = refl

absent : bent 3 1 (1 ∷ 2 ∷ 6 ∷ []) ≡ 1 ∷ 2 ∷ 6 ∷ []
absent = refl
