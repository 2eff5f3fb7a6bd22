-- What a crash leaves of a disk in memory is one of its images.
use Rattle.std.proofs.Common.{◌≡◌, ℕ, zero, suc, ◌+◌, Bool, List, [], ◌∷◌, length, take, drop, replicate, Some, None, refl, sym, ◌∙◌, ap, subst, arith, if◌then◌else◌}
use Rattle.std.specs.Prelude.{nat_eq}
use Rattle.std.specs.declared.option.Option.{Option}
use Rattle.std.proofs.lemmas.Bool.{ne_eqb}
use Rattle.std.proofs.lemmas.List.{length-replicate}
use Rattle.ev_world.specs.Disk.{put, Torn, After}
use Rattle.ev_world.proofs.Writes.{torn_none}
use Rattle.ev_devices.specs.Writes.{once_synced, Leaves, Images, is_synced, before_sync, touched, touch_all, left_by, made_at}
use Rattle.ev_devices.specs.Inside.{Came}
use Rattle.ev_devices.specs.WriteLaws.{put_torn, put_left}
use Rattle.ev_devices.proofs.WriteLemmas.{all_made}
use Rattle.ev_devices.specs.declared.written.Written.{Written}
use Rattle.ev_devices.specs.declared.crash.Crash.{Crash}
use Rattle.ev_devices.specs.declared.crash.Crash.TheVariants.{Old, New, Torn as Filled}

-- how many came before the last sync, where some were counted already
abbrev pub counted_on : ℕ → ℕ → List Written → ℕ
counted_on count made rest = if nat_eq (before_sync rest) 0 then count else made + before_sync rest

-- a write that isn't synced, as a crash makes it
touched_left : (how : Crash) (w : Written) (b c : List ℕ) (images : List ℕ → Type 0) → images c → w.synced ≡ None
    → once_synced w.synced b (After (Torn w.place (length w.bytes)) images) (touched how c w)
touched_left how w b c images here none =
    subst (λ (o : Option ℕ). once_synced o b (After (Torn w.place (length w.bytes)) images) (touched how c w)) (sym none) (c, here, torn how)
  where
    torn : (how : Crash) → Torn w.place (length w.bytes) c (touched how c w)
    torn Old = torn_none w.place (length w.bytes) c
    torn New = put_torn w.place w.bytes c
    torn (Filled byte) = subst (λ (n : ℕ). Torn w.place n c (put c w.place (replicate (length w.bytes) byte))) (length-replicate (length w.bytes) byte) (put_torn w.place (replicate (length w.bytes) byte) c)

unsynced : (o : Option ℕ) → is_synced o ≡ 0 → o ≡ None
unsynced None none = refl
unsynced (Some m) none = absurd (omega (arith, none))

abbrev count_first : Option ℕ → ℕ → ℕ
count_first o n = if nat_eq n 0 then is_synced o else suc n

no_suc : (n : ℕ) → suc n ≡ 0 → ⊥
no_suc n e = omega (arith, e)

grow : (o : Option ℕ) (n : ℕ) → count_first o (suc n) ≡ suc (suc n)
grow o n = ap (λ (b : Bool). if b then is_synced o else suc (suc n)) (ne_eqb (suc n) 0 (no_suc n))

-- no write is synced exactly where the first isn't and no later one is
first_unsynced : (o : Option ℕ) (n : ℕ) → count_first o n ≡ 0 → (o ≡ None) × (n ≡ 0)
first_unsynced o zero none = (unsynced o none, refl)
first_unsynced o (suc n) none = absurd (no_suc (suc n) (sym (grow o n) ∙ none))

-- writes of which none is synced, as a crash makes them
unsynced_left : (how : Crash) (ws : List Written) (b c : List ℕ) (images : List ℕ → Type 0) → images c → before_sync ws ≡ 0
    → Leaves b images ws (touch_all how c ws)
unsynced_left how [] b c images here none = here
unsynced_left how (w ∷ ws) b c images here none =
    let parts = first_unsynced w.synced (before_sync ws) none in
    unsynced_left how ws (put b w.place w.bytes) (touched how c w) (once_synced w.synced (put b w.place w.bytes) (After (Torn w.place (length w.bytes)) images))
    (touched_left how w (put b w.place w.bytes) c images here parts.0) parts.1

-- what was synced, and then the later writes as the crash makes them
abbrev split_by : Crash → List ℕ → List Written → ℕ → List ℕ
split_by how b ws n = touch_all how (touch_all New b (take n ws)) (drop n ws)

left_first : (how : Crash) (w : Written) (ws : List Written) (b : List ℕ) (images : List ℕ → Type 0) → images b → (n : ℕ) → before_sync ws ≡ n
    → Leaves (put b w.place w.bytes) (once_synced w.synced (put b w.place w.bytes) (After (Torn w.place (length w.bytes)) images)) ws (split_by how (put b w.place w.bytes) ws n)
    → (o : Option ℕ) → w.synced ≡ o
    → Leaves (put b w.place w.bytes) (once_synced w.synced (put b w.place w.bytes) (After (Torn w.place (length w.bytes)) images)) ws (split_by how b (w ∷ ws) (count_first o n))
left_first how w ws b images here zero none later None is =
    unsynced_left how ws (put b w.place w.bytes) (touched how b w) _ (touched_left how w (put b w.place w.bytes) b images here is) none
left_first how w ws b images here zero none later (Some m) is = later
left_first how w ws b images here (suc n) some later o is =
    subst (λ (k : ℕ). Leaves (put b w.place w.bytes) (once_synced w.synced (put b w.place w.bytes) (After (Torn w.place (length w.bytes)) images)) ws (split_by how b (w ∷ ws) k)) (sym (grow o n)) later

left_image : (how : Crash) (ws : List Written) (b : List ℕ) (images : List ℕ → Type 0) → images b → Leaves b images ws (split_by how b ws (before_sync ws))
left_image how [] b images here = here
left_image how (w ∷ ws) b images here =
    left_first how w ws b images here (before_sync ws) refl
    (left_image how ws (put b w.place w.bytes) (once_synced w.synced (put b w.place w.bytes) (After (Torn w.place (length w.bytes)) images)) (put_left w.synced w.place w.bytes b images here))
    w.synced refl

-- the bytes after a crash are those of an image
pub left_by_image : (how : Crash) (first : List ℕ) (ws : List Written) → Images first ws (left_by how first ws)
left_by_image how first ws = left_image how ws first (λ c. c ≡ first) refl

pub crash_image : (first bytes : List ℕ) (ws : List Written) (calls : ℕ) (how : Crash) → Came calls ws → bytes ≡ left_by how first ws → Images first (made_at calls ws) bytes
crash_image first bytes ws calls how came is =
    subst (λ (vs : List Written). Images first vs bytes) (sym (all_made ws calls came)) (subst (Images first ws) (sym is) (left_by_image how first ws))
