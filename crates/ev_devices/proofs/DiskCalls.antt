-- What a call of a disk in memory changes, in the words of the trait.
use Rattle.std.proofs.Common.{◌≡◌, ℕ, ◌+◌, ◌-◌, ◌^◌, ◌<◌, ◌≤◌, min, max, List, [], ◌∷◌, ◌++◌, length, None, refl, sym, ◌∙◌, ap, subst, arith, inl, inr}
use Rattle.std.proofs.lemmas.Bool.{cases_lt}
use Rattle.ev_world.specs.Disk.{put, Torn, After, Follows, Only, Elapses}
use Rattle.ev_world.proofs.Writes.{torn_none}
use Rattle.ev_devices.specs.Devices.{counted}
use Rattle.ev_devices.specs.Disk.{DiskDevice, writes_of, reads_of, images_of, since_of, disk_failed, disk_asked, disk_written, disk_synced}
use Rattle.ev_devices.specs.Inside.{Bytes, Came, IsDisk, IsMade, WritesNothing}
use Rattle.ev_devices.specs.Writes.{replay, Images, made_at, sync_last}
use Rattle.ev_devices.specs.WriteLaws.{put_torn, images_read}
use Rattle.ev_devices.specs.declared.written.Written.{Written}
use Rattle.ev_devices.proofs.WriteLemmas.{all_made, came_later, came_push, came_sync, made_push, made_sync, replay_push, replay_sync, leaves_push, images_sync}

-- one call later, where the writes that had been made by each moment of before are the same
elapses : (first : List ℕ) (old new : List Written) (before now : ℕ) → now ≡ max before (min (before + 1) (2 ^ 64 - 1))
    → ((moment : ℕ) → moment ≤ before → made_at moment new ≡ made_at moment old)
    → Elapses before now (λ t c. (moment : ℕ) × (t ≤ moment) × (moment ≤ before) × Images first (made_at moment old) c)
    (λ t c. (moment : ℕ) × (t ≤ moment) × (moment ≤ now) × Images first (made_at moment new) c) (Images first (made_at now new))
elapses first old new before now counts same = record {
  counts = counts;
  nothing_else = λ t c le left. elim (cases_lt before left.0) [
    | inr past ↦ inl (left.0, left.1, past, subst (λ (ws : List Written). Images first ws c) (same left.0 past) left.3)
    | inl now_on ↦ inr (subst (λ (moment : ℕ). Images first (made_at moment new) c) (omega (arith, counts, now_on, left.2)) left.3)
  ];
  keeps = λ t c le left. (left.0, left.1, omega (arith, counts, left.2), subst (λ (ws : List Written). Images first ws c) (sym (same left.0 left.2)) left.3);
}

module _ (d : DiskDevice) (made : IsMade d) where
  by_now : writes_of d ≡ d.writes
  by_now = all_made d.writes d.calls made.came

  counts : counted d.calls ≡ max d.calls (min (d.calls + 1) (2 ^ 64 - 1))
  counts = omega (arith, made.few)

  -- nothing was written
  asked_writes : made_at (counted d.calls) d.writes ≡ made_at d.calls d.writes
  asked_writes = all_made d.writes (counted d.calls) (came_later d.writes d.calls (counted d.calls) (omega (arith, made.few)) made.came) ∙ sym by_now

  asked_same : reads_of (disk_asked d) ≡ reads_of d
  asked_same = ap (replay d.first) asked_writes

  asked_more : (c : List ℕ) → images_of (disk_asked d) c → images_of d c
  asked_more c left = subst (λ (ws : List Written). Images d.first ws c) asked_writes left

  asked_time : Elapses d.calls (counted d.calls) (since_of d) (since_of (disk_asked d)) (images_of (disk_asked d))
  asked_time = elapses d.first d.writes d.writes d.calls (counted d.calls) counts (λ moment le. refl)

  pub asked_nothing : (e : DiskDevice) → e ≡ disk_asked d → WritesNothing d e
  asked_nothing e is = subst (WritesNothing d) (sym is) (record {
    same = asked_same;
    no_more = asked_more;
    time = asked_time;
    torn = λ place n. subst (Torn place n (reads_of d)) (sym asked_same) (torn_none place n (reads_of d));
    follows = λ place n c left. (c, asked_more c left, torn_none place n c);
  })

  pub failed_nothing : (e : DiskDevice) → e ≡ disk_failed d → WritesNothing d e
  failed_nothing e is = subst (WritesNothing d) (sym is) (record {
    same = asked_same;
    no_more = asked_more;
    time = asked_time;
    torn = λ place n. subst (Torn place n (reads_of d)) (sym asked_same) (torn_none place n (reads_of d));
    follows = λ place n c left. (c, asked_more c left, torn_none place n c);
  })

  -- a write, in a call that counts
  module _ (counting : d.calls + 1 < 2 ^ 64) (place : ℕ) (bytes : List ℕ) where
    next : counted d.calls ≡ d.calls + 1
    next = omega (arith, counting)

    abbrev written : Written
    written = record { place = place; bytes = bytes; moment = counted d.calls; synced = None }

    written_writes : made_at (counted d.calls) (d.writes ++ written ∷ []) ≡ d.writes ++ written ∷ []
    written_writes =
        all_made _ (counted d.calls) (came_push d.writes written (counted d.calls) (came_later d.writes d.calls (counted d.calls) (omega (arith, next)) made.came) (omega arith) tt)

    pub written_reads : reads_of (disk_written d place bytes) ≡ put (reads_of d) place bytes
    written_reads = ap (replay d.first) written_writes ∙ replay_push d.writes written d.first ∙ ap (λ (ws : List Written). put (replay d.first ws) place bytes) (sym by_now)

    pub written_torn : Torn place (length bytes) (reads_of d) (reads_of (disk_written d place bytes))
    written_torn = subst (Torn place (length bytes) (reads_of d)) (sym written_reads) (put_torn place bytes (reads_of d))

    pub written_crash : Follows (Torn place (length bytes)) (images_of d) (images_of (disk_written d place bytes))
    written_crash c left =
        subst (λ (ws : List Written). After (Torn place (length bytes)) (Images d.first ws) c) (sym by_now)
        (subst (λ (P : List ℕ → Type 0). P c) (leaves_push d.writes place (counted d.calls) bytes d.first (λ e. e ≡ d.first))
        (subst (λ (ws : List Written). Images d.first ws c) written_writes left))

    pub written_time : Elapses d.calls (counted d.calls) (since_of d) (since_of (disk_written d place bytes)) (images_of (disk_written d place bytes))
    written_time = elapses d.first d.writes (d.writes ++ written ∷ []) d.calls (counted d.calls) counts (λ moment le. made_push d.writes written moment (omega (arith, next, le)))

  -- a sync, in a call that counts
  module _ (counting : d.calls + 1 < 2 ^ 64) where
    synced_writes : made_at (counted d.calls) (sync_last (counted d.calls) d.writes) ≡ sync_last (counted d.calls) d.writes
    synced_writes =
        all_made _ (counted d.calls) (came_sync d.writes (counted d.calls) (came_later d.writes d.calls (counted d.calls) (omega (arith, counting)) made.came))

    pub synced_same : reads_of (disk_synced d) ≡ reads_of d
    synced_same = ap (replay d.first) synced_writes ∙ replay_sync d.writes (counted d.calls) d.first ∙ ap (replay d.first) (sym by_now)

    pub synced_durable : Only (reads_of d) (images_of (disk_synced d))
    synced_durable c left =
        images_sync d.writes (counted d.calls) d.first c (subst (λ (ws : List Written). Images d.first ws c) synced_writes left) ∙ ap (replay d.first) (sym by_now)

    pub synced_crash : (c : List ℕ) → images_of (disk_synced d) c → images_of d c
    synced_crash c left = subst (images_of d) (sym (synced_durable c left)) (images_read d.first (writes_of d))

    pub synced_time : Elapses d.calls (counted d.calls) (since_of d) (since_of (disk_synced d)) (images_of (disk_synced d))
    synced_time = elapses d.first d.writes (sync_last (counted d.calls) d.writes) d.calls (counted d.calls) counts (λ moment le. made_sync d.writes (counted d.calls) moment (omega (arith, counting, le)))

-- ---- what every disk in memory keeps

pub counted_disk : (content : Bytes) (ws : List Written) (calls next : ℕ) → IsDisk content ws calls → next ≡ counted calls → IsDisk content ws next
counted_disk content ws calls next is counts = record {
  bytes_are = is.bytes_are;
  came = came_later ws calls next (omega (arith, counts, is.few)) is.came;
  few = omega (arith, counts);
}

pub written_disk : (old new : Bytes) (ws later : List Written) (calls place : ℕ) (bytes : List ℕ) → IsDisk old ws calls
    → new ≡ record { first = old.first; now = put old.now place bytes }
    → later ≡ ws ++ record { place = place; bytes = bytes; moment = calls; synced = None } ∷ [] → IsDisk new later calls
written_disk old new ws later calls place bytes is content_is later_is =
    let w : Written = record { place = place; bytes = bytes; moment = calls; synced = None } in record {
      bytes_are =
          ap (λ (b : Bytes). b.now) content_is
          ∙ ap (λ (b : List ℕ). put b place bytes) is.bytes_are
          ∙ sym (replay_push ws w old.first)
          ∙ ap (replay old.first) (sym later_is)
          ∙ ap (λ (b : Bytes). replay b.first later) (sym content_is);
      came = subst (Came calls) (sym later_is) (came_push ws w calls is.came (omega arith) tt);
      few = is.few;
    }

pub synced_disk : (content : Bytes) (ws later : List Written) (calls : ℕ) → IsDisk content ws calls → later ≡ sync_last calls ws → IsDisk content later calls
synced_disk content ws later calls is later_is = record {
  bytes_are = is.bytes_are ∙ sym (replay_sync ws calls content.first) ∙ ap (replay content.first) (sym later_is);
  came = subst (Came calls) (sym later_is) (came_sync ws calls is.came);
  few = is.few;
}
