-- What a read gives is what a crash may leave.
use Rattle.std.specs.Prelude.{◌≡◌, ℕ, ◌+◌, ◌-◌, ◌≤◌, min, List, [], ◌∷◌, ◌++◌, length, take, drop, Some, None, refl}
use Rattle.std.proofs.Common.{inl, inr, length-drop, sym, ◌∙◌, ap, subst, arith, length-append, append_assoc}
use Rattle.std.proofs.lemmas.List.{take_at, drop_at, drop_all, length-take}
use Rattle.std.proofs.lemmas.Bool.{cases_lt}
use Rattle.std.specs.declared.option.Option.{Option}
use Rattle.ev_world.specs.Disk.{put, Torn, After}
use Rattle.ev_devices.specs.Writes.{replay, once_synced, Leaves, Images, made_at}
use Rattle.ev_devices.specs.declared.written.Written.{Written}

-- a whole write is one of those that a crash may leave of it
pub put_torn : (at : ℕ) (w b : List ℕ) → Torn at (length w) b (put b at w)
put_torn at w b = record {
  before =
      ap (take (min at (length b))) (append_assoc (take at b) w (drop (at + length w) b))
      ∙ take_at (take at b) (w ++ drop (at + length w) b) (min at (length b)) (length-take at b);
  after = elim (cases_lt (length b) at) [
    | inr inside ↦ drop_at (take at b ++ w) (drop (at + length w) b) (at + length w) (omega (arith, length-append (take at b) w, length-take at b))
    | inl past ↦ drop_all (at + length w) (put b at w) (omega (arith, size)) ∙ sym (drop_all (at + length w) b (omega arith))
  ];
  no_shorter = omega (arith, size);
  no_longer = omega (arith, size);
}
  where
    size : length (put b at w) ≡ min at (length b) + length w + (length b - (at + length w))
    size = omega (arith, length-append (take at b ++ w) (drop (at + length w) b), length-append (take at b) w, length-take at b, length-drop (at + length w) b)

-- after a write, synced or not, what a read gives is an image
pub put_left : (synced : Option ℕ) (at : ℕ) (w b : List ℕ) (images : List ℕ → Type 0) → images b
    → once_synced synced (put b at w) (After (Torn at (length w)) images) (put b at w)
put_left None at w b images here = (b, here, put_torn at w b)
put_left (Some moment) at w b images here = refl

-- after any writes, what a read gives is an image
leaves_read : (ws : List Written) (b : List ℕ) (images : List ℕ → Type 0) → images b → Leaves b images ws (replay b ws)
leaves_read [] b images here = here
leaves_read (w ∷ ws) b images here =
    leaves_read ws (put b w.place w.bytes) (once_synced w.synced (put b w.place w.bytes) (After (Torn w.place (length w.bytes)) images)) (put_left w.synced w.place w.bytes b images here)

-- the same from bytes that are all on the disk
pub images_read : (first : List ℕ) (ws : List Written) → Images first ws (replay first ws)
images_read first ws = leaves_read ws first (λ c. c ≡ first) refl

-- an image of now is one since each earlier moment, and since now there is no other
pub at_now : (first : List ℕ) (ws : List Written) (now t : ℕ) (c : List ℕ) → t ≤ now → Images first (made_at now ws) c
    → (moment : ℕ) × (t ≤ moment) × (moment ≤ now) × Images first (made_at moment ws) c
at_now first ws now t c le left = (now, le, omega arith, left)

-- since now there is no image but those of now
pub only_at : (first : List ℕ) (ws : List Written) (now : ℕ) (c : List ℕ) → (moment : ℕ) × (now ≤ moment) × (moment ≤ now) × Images first (made_at moment ws) c
    → Images first (made_at now ws) c
only_at first ws now c left =
    let same : left.0 ≡ now = omega (arith, left.1, left.2) in
    subst (λ (moment : ℕ). Images first (made_at moment ws) c) same left.3
