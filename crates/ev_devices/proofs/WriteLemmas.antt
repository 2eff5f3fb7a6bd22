-- Writes and syncs as they come, one after another.
use Rattle.std.proofs.Common.{◌≡◌, ℕ, ◌<◌, ◌≤◌, Bool, List, [], ◌∷◌, ◌++◌, length, Some, None, IfSome, refl, ◌∙◌, ap, arith, if◌then◌else◌}
use Rattle.std.specs.Prelude.{nat_lt}
use Rattle.std.specs.declared.option.Option.{Option}
use Rattle.std.proofs.lemmas.Bool.{lt-ltb, le-ltb}
use Rattle.ev_world.specs.Disk.{put, Torn, After}
use Rattle.ev_devices.specs.Writes.{replay, once_synced, Leaves, Images, known_at, made_at, first_sync, sync_last}
use Rattle.ev_devices.specs.Inside.{Came}
use Rattle.ev_devices.specs.declared.written.Written.{Written}

-- ---- what has come by now is all

known_all : (o : Option ℕ) (now : ℕ) → IfSome o (λ s. s ≤ now) → known_at now o ≡ o
known_all None now came = refl
known_all (Some s) now came = ap (λ (b : Bool). if b then None else Some s) (le-ltb _ _ came)

same_write : (w : Written) (o : Option ℕ) → o ≡ w.synced → record w { synced = o } ≡ w
same_write w o is = ap (λ (p : Option ℕ). record w { synced = p }) is

pub all_made : (ws : List Written) (now : ℕ) → Came now ws → made_at now ws ≡ ws
all_made [] now came = refl
all_made (w ∷ ws) now came =
    ap (λ (b : Bool). if b then [] else (record w { synced = known_at now w.synced } ∷ made_at now ws)) (le-ltb _ _ came.0)
    ∙ ap (λ (v : Written). v ∷ made_at now ws) (same_write w (known_at now w.synced) (known_all w.synced now came.1))
    ∙ ap (λ (vs : List Written). w ∷ vs) (all_made ws now came.2)

later_sync : (o : Option ℕ) (now later : ℕ) → now ≤ later → IfSome o (λ s. s ≤ now) → IfSome o (λ s. s ≤ later)
later_sync None now later le came = tt
later_sync (Some s) now later le came = omega (arith, le, came)

pub came_later : (ws : List Written) (now later : ℕ) → now ≤ later → Came now ws → Came later ws
came_later [] now later le came = tt
came_later (w ∷ ws) now later le came = (omega (arith, le, came.0), later_sync w.synced now later le came.1, came_later ws now later le came.2)

-- ---- a write more

pub came_push : (ws : List Written) (w : Written) (now : ℕ) → Came now ws → w.moment ≤ now → IfSome w.synced (λ s. s ≤ now) → Came now (ws ++ w ∷ [])
came_push [] w now came at synced = (at, synced, tt)
came_push (v ∷ ws) w now came at synced = (came.0, came.1, came_push ws w now came.2 at synced)

pub made_push : (ws : List Written) (w : Written) (moment : ℕ) → moment < w.moment → made_at moment (ws ++ w ∷ []) ≡ made_at moment ws
made_push [] w moment before = ap (λ (b : Bool). if b then [] else (record w { synced = known_at moment w.synced } ∷ [])) (lt-ltb _ _ before)
made_push (v ∷ ws) w moment before =
    ap (λ (vs : List Written). if nat_lt moment v.moment then [] else (record v { synced = known_at moment v.synced } ∷ vs)) (made_push ws w moment before)

pub replay_push : (ws : List Written) (w : Written) (b : List ℕ) → replay b (ws ++ w ∷ []) ≡ put (replay b ws) w.place w.bytes
replay_push [] w b = refl
replay_push (v ∷ ws) w b = replay_push ws w (put b v.place v.bytes)

pub leaves_push : (ws : List Written) (place moment : ℕ) (bytes b : List ℕ) (images : List ℕ → Type 0)
    → Leaves b images (ws ++ record { place = place; bytes = bytes; moment = moment; synced = None } ∷ []) ≡ After (Torn place (length bytes)) (Leaves b images ws)
leaves_push [] place moment bytes b images = refl
leaves_push (v ∷ ws) place moment bytes b images =
    leaves_push ws place moment bytes (put b v.place v.bytes) (once_synced v.synced (put b v.place v.bytes) (After (Torn v.place (length v.bytes)) images))

-- ---- a sync

came_sync_of : (o : Option ℕ) (now : ℕ) → IfSome o (λ s. s ≤ now) → IfSome (first_sync o now) (λ s. s ≤ now)
came_sync_of None now came = omega arith
came_sync_of (Some s) now came = came

pub came_sync : (ws : List Written) (now : ℕ) → Came now ws → Came now (sync_last now ws)
came_sync [] now came = tt
came_sync (w ∷ []) now came = (came.0, came_sync_of w.synced now came.1, tt)
came_sync (w ∷ v ∷ ws) now came = (came.0, came.1, came_sync (v ∷ ws) now came.2)

known_first : (o : Option ℕ) (s moment : ℕ) → moment < s → known_at moment (first_sync o s) ≡ known_at moment o
known_first None s moment before = ap (λ (b : Bool). if b then None else Some s) (lt-ltb _ _ before)
known_first (Some r) s moment before = refl

pub made_sync : (ws : List Written) (s moment : ℕ) → moment < s → made_at moment (sync_last s ws) ≡ made_at moment ws
made_sync [] s moment before = refl
made_sync (w ∷ []) s moment before =
    ap (λ (o : Option ℕ). if nat_lt moment w.moment then [] else (record w { synced = o } ∷ [])) (known_first w.synced s moment before)
made_sync (w ∷ v ∷ ws) s moment before =
    ap (λ (vs : List Written). if nat_lt moment w.moment then [] else (record w { synced = known_at moment w.synced } ∷ vs)) (made_sync (v ∷ ws) s moment before)

pub replay_sync : (ws : List Written) (s : ℕ) (b : List ℕ) → replay b (sync_last s ws) ≡ replay b ws
replay_sync [] s b = refl
replay_sync (w ∷ []) s b = refl
replay_sync (w ∷ v ∷ ws) s b = replay_sync (v ∷ ws) s (put b w.place w.bytes)

synced_only : (o : Option ℕ) (s : ℕ) (b c : List ℕ) (images : List ℕ → Type 0) → once_synced (first_sync o s) b images c → c ≡ b
synced_only None s b c images left = left
synced_only (Some r) s b c images left = left

leaves_sync : (w : Written) (ws : List Written) (s : ℕ) (b c : List ℕ) (images : List ℕ → Type 0) → Leaves b images (sync_last s (w ∷ ws)) c → c ≡ replay b (w ∷ ws)
leaves_sync w [] s b c images left = synced_only w.synced s (put b w.place w.bytes) c (After (Torn w.place (length w.bytes)) images) left
leaves_sync w (v ∷ ws) s b c images left =
    leaves_sync v ws s (put b w.place w.bytes) c (once_synced w.synced (put b w.place w.bytes) (After (Torn w.place (length w.bytes)) images)) left

-- after a sync a crash leaves what a read gives
pub images_sync : (ws : List Written) (s : ℕ) (first c : List ℕ) → Images first (sync_last s ws) c → c ≡ replay first ws
images_sync [] s first c left = left
images_sync (w ∷ ws) s first c left = leaves_sync w ws s first c (λ d. d ≡ first) left

-- a sync marks the last write
pub sync_push : (ws : List Written) (w : Written) (s : ℕ) → sync_last s (ws ++ w ∷ []) ≡ ws ++ record w { synced = first_sync w.synced s } ∷ []
sync_push [] w s = refl
sync_push (v ∷ []) w s = refl
sync_push (v ∷ u ∷ ws) w s = ap (λ (rest : List Written). v ∷ rest) (sync_push (u ∷ ws) w s)
