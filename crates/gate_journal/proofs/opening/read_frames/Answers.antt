use Rattle.ev_world.proofs.QuietCalls.{quiet_then, reads_then}
use Rattle.std.proofs.Common.{◌≡◌, ℕ, ◌+◌, ◌≤◌, ◌∷◌, ◌++◌, [], List, map, drop, sym, ◌∙◌, ap, subst, refl, arith, rules}
use Rattle.gate_journal.specs.Journal.{max_payload, max_journal}
use Rattle.gate_journal.specs.Damage.{IsFormatted}
use Rattle.gate_journal.specs.View.{end_from}
use Rattle.gate_journal.specs.Inside.{places_from, IsClosed, IsWhole}
use Rattle.gate_journal.specs.declared.frame.Frame.{Frame}
use Rattle.gate_journal.proofs.SoFar.{so_far_none, so_far_more, so_far_end}
use Rattle.gate_journal.proofs.Placing.{places-push, end-push, map-push}
use Rattle.gate_journal.proofs.opening.read_frames.Goals as goal

pub frames-init : goal.frames-init
frames-init g c =
    let d = g.D.Disk in
    let none = c.new-frames.ensures.items in
    record {
      room = c.in_ok-is_formatted.ensures.size (search rules);
      low = omega arith;
      buffer = c.requires.room;
      places = rw none refl;
      end = rw none refl;
      only_reads = record {
        quiet = λ tells. quiet_then d.reads d.images d.clock d.since _ _ _ (c.size_of.ensures.quiet tells) (c.is_formatted.ensures.quiet tells);
        later = omega (arith, c.size_of.ensures.cause.later, c.is_formatted.ensures.cause.later);
      };
      size = λ tells. c.in_ok-size.ensures.bytes tells;
      so_far = λ tells. rw none (so_far_none _ (subst IsFormatted (c.size_of.ensures.quiet tells).same ((c.in_ok-is_formatted.ensures.is tells).0 (search rules))));
    }

pub frames-preserved : goal.frames-preserved
frames-preserved g c =
    let d = g.D.Disk in
    let k = c.frames.invariant in
    let n = c.in-Ok-Some.length in
    let old : List ℕ = map (λ (f : Frame). f.length) c.frames.frames.items in
    let lengths : map (λ (f : Frame). f.length) c.push.new.self.items ≡ old ++ n ∷ [] = ap (map (λ (f : Frame). f.length)) c.in_ok-push-in-Ok-Some.ensures.items ∙ map-push _ _ _ in
    let places : map (λ (f : Frame). f.place) c.push.new.self.items ≡ map (λ (f : Frame). f.place) c.frames.frames.items ++ c.frames.place ∷ [] =
    ap (map (λ (f : Frame). f.place)) c.in_ok-push-in-Ok-Some.ensures.items ∙ map-push _ _ _ in
    let next : c.frames.place + (n + 37) ≡ c.frames.place + n + 37 = omega arith in
    let fits : (n ≤ max_payload) × (c.frames.place + n + 38 ≤ c.in_ok-size.size) × (c.frames.place + n + 38 ≤ max_journal) = rw c.in-Ok-Some.field-0-is at c.in-Ok-Some.ensures.fits in
    let whole = rw c.in-Ok-Some.field-0-is at c.in-Ok-Some.ensures.next in
    record {
      room = omega arith;
      low = omega arith;
      buffer = c.next_frame.ensures.room;
      places = places ∙ ap (λ (l : List ℕ). l ++ c.frames.place ∷ []) k.places
          ∙ ap (λ (e : ℕ). places_from 16 old ++ e ∷ []) k.end ∙ sym (places-push 16 old n) ∙ ap (places_from 16) (sym lengths);
      end = next ∙ ap (λ (e : ℕ). e + n + 37) k.end ∙ sym (end-push 16 old n) ∙ ap (end_from 16) (sym lengths);
      only_reads = reads_then d.reads d.images d.clock d.since d.tells d.faults _ _ _ k.only_reads c.next_frame.ensures.only_reads;
      size = k.size;
      so_far = λ tells. so_far_more _ _ _ (k.so_far tells) n _ _ (subst (λ (f : List ℕ). IsWhole (drop c.frames.place f) c.frames.place n) (k.only_reads.quiet tells).same (whole tells)) next lengths;
    }

pub returns-in-Ok-None-clause-found : goal.returns-in-Ok-None-clause-found
returns-in-Ok-None-clause-found g c =
    let k = c.frames.invariant in
    let closed = rw c.in-Ok-None.field-0-is at c.in-Ok-None.ensures.next in
    record {
      places_are = k.places;
      end_is = k.end;
      limit = k.low;
      reads = λ tells.
          let so = k.so_far tells in (
            so.h,
            so_far_end _ _ _ so k.low (subst (λ (f : List ℕ). IsClosed (drop c.frames.place f)) (k.only_reads.quiet tells).same (closed tells)),
            so.lengths_are,
          );
    }
