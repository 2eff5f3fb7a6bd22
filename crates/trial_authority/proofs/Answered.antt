-- What an open state gives is what the authority answers.
use Rattle.std.proofs.Common.{◌≡◌, ℕ, ◌+◌, Bool, false, inl, inr, List, Option, Some, None, Result, Ok, Err, refl, sym, ap, ◌∙◌, subst}
use Rattle.std.specs.Prelude.{IsTrue, Vec}
use Rattle.ev_world.specs.Calls.{HandsOn}
use Rattle.ev_world.specs.declared.authority.StampFault.{StampFault}
use Rattle.civil_moment.specs.declared.moment.Moment.{Moment}
use Rattle.key_state.specs.Keys.{next_index, IsKeyStateFormatted}
use Rattle.lms_sign.specs.declared.secret.HssSecret.{HssSecret}
use Rattle.trial_authority.specs.Key.{trial_key}
use Rattle.trial_authority.specs.Stamping.{Opened, IsMisfit, Opens, Answers, granted, refused, no_state, Wants, IsKept, IsStamped}
use Rattle.trial_authority.specs.declared.indexes.Indexes.{Indexes}
use Rattle.trial_authority.specs.declared.indexes.Indexes.TheVariants.{Unopened, Open}
use Rattle.trial_authority.specs.Inside.{IsHeld, Gives}
use Rattle.trial_authority.specs.Stamping.{disk_of, state_of}
use Rattle.trial_authority.proofs.SoundReply.{sound_reply}

-- a state that is open already
pub opens_still : {D : Type 0} (tells : Bool) (reads : D → List ℕ) (disk : D) (s : Opened) → Opens tells reads disk (Some s) s
opens_still tells reads disk s = record {
  still = λ was e. cc;
  whole = λ e. absurd cc;
  on_disk = λ e t f. absurd cc;
  made = λ e t f. absurd cc;
  fits = λ e t. absurd cc;
}

-- a state that was opened
pub opens_now : {D : Type 0} (tells : Bool) (reads : D → List ℕ) (disk : D) (s : Opened) → s.broken ≡ false
    → (IsTrue tells → IsKeyStateFormatted (reads disk) → s.next ≡ next_index (reads disk))
    → (IsTrue tells → ¬ IsKeyStateFormatted (reads disk) → s.next ≡ 0)
    → (IsTrue tells → ¬ IsMisfit (reads disk)) → Opens tells reads disk None s
opens_now tells reads disk s whole on_disk made fits = record {
  still = λ was e. absurd cc;
  whole = λ e. whole;
  on_disk = λ e. on_disk;
  made = λ e. made;
  fits = λ e. fits;
}

pub answered : {D : Type 0} (tells : Bool) (reads : D → List ℕ) (seed : List ℕ) (disk : D) (before after : Option Opened) (s : Opened) (now : Moment) (request reply : List ℕ)
    → Opens tells reads disk before s → Gives seed s after now request reply → Answers tells reads seed disk before after now request reply
answered tells reads seed disk before after s now request reply opens (inl g) = granted (record {
  state = s;
  opens = opens;
  whole = g.whole;
  left = g.left;
  used = g.used;
  asked = g.asked;
  alg = g.alg;
  asks = g.asks;
  grants = g.grants;
  sound = λ policy trusts. sound_reply policy seed s.next now request g.asked g.alg reply g.left g.asks g.grants trusts;
})
answered tells reads seed disk before after s now request reply opens (inr r) = refused r.is (record { state = s; opens = opens; same = r.same; refuses = r.refuses })

-- ---- after a reply that no list could keep

pub wants_same : (state : Option Opened) → Wants state state
wants_same None = tt
wants_same (Some s) = inl refl

pub answers_want : {D : Type 0} (tells : Bool) (reads : D → List ℕ) (seed : List ℕ) (disk : D) (before after : Option Opened) (now : Moment) (request reply : List ℕ)
    → Answers tells reads seed disk before after now request reply → Wants before after
answers_want tells reads seed disk None after now request reply answers = tt
answers_want tells reads seed disk (Some s) after now request reply (granted g) =
    let same : g.state ≡ s = g.opens.still s refl in
    inr (ap (λ (t : Opened). t.broken) (sym same) ∙ g.whole, g.used ∙ ap (λ (t : Opened). Some (record { next = t.next + 1; broken = false })) same)
answers_want tells reads seed disk (Some s) after now request reply (refused is r) = inl (r.same ∙ ap Some (r.opens.still s refl))
answers_want tells reads seed disk (Some s) after now request reply (no_state is h) = absurd (let never = h.never in cc)

-- ---- a stamp

module _ {D : Type 0} {A : Type 0} (tells : Bool) (reads : D → List ℕ) (images : D → List ℕ → Type 0) (clock : D → ℕ) (since : D → ℕ → List ℕ → Type 0) (faults : D → ℕ) (seed : List ℕ)
    (old : D) (before : Option Opened) (now : Moment) (request : List ℕ) where
  -- one whose answer is handed on
  pub handed_stamp : (new : D) (after : Option Opened) (answer result : Result (Vec ℕ A) StampFault) → HandsOn answer result
      → IsStamped tells reads images clock since faults seed old before new after now request answer → IsStamped tells reads images clock since faults seed old before new after now request result
  handed_stamp new after (Ok reply) (Ok given) hands s = record {
    answers = subst (Answers tells reads seed old before after now request) (sym hands.0) s.answers;
    rose = λ e. absurd cc;
    breaks = λ e. absurd cc;
    wants = λ e. absurd cc;
    untouched = s.untouched;
    later = s.later;
    any_moment = s.any_moment;
  }
  handed_stamp new after (Ok reply) (Err fault) hands s = record {
    answers = tt;
    rose = λ e. absurd (cc (e, hands.1));
    breaks = λ e. absurd (cc (e, hands.1));
    wants = λ e. answers_want tells reads seed old before after now request reply.items s.answers;
    untouched = s.untouched;
    later = s.later;
    any_moment = s.any_moment;
  }
  handed_stamp new after (Err fault) result hands s = subst (IsStamped tells reads images clock since faults seed old before new after now request) (sym hands) s

  -- by a key of this seed
  pub handed_by : (signed : List ℕ) → signed ≡ seed → (new : D) (after : Option Opened) (answer result : Result (Vec ℕ A) StampFault) → HandsOn answer result
      → IsStamped tells reads images clock since faults signed old before new after now request answer → IsStamped tells reads images clock since faults seed old before new after now request result
  handed_by signed same new after answer result hands s = handed_stamp new after answer result hands (subst (λ (k : List ℕ). IsStamped tells reads images clock since faults k old before new after now request answer) same s)

-- the seed of the key that was made
pub seed_of : (made : Option HssSecret) (key : HssSecret) (seed : List ℕ) → made ≡ Some (trial_key seed) → made ≡ Some key → key.seed ≡ seed
seed_of made key seed is found = let same : key ≡ trial_key seed = (let both : Some key ≡ Some (trial_key seed) = sym found ∙ is in cc) in ap (λ (k : HssSecret). k.seed) same

-- ---- what is held is the state of the disk

pub held_kept : {D : Type 0} (tells : Bool) (reads : D → List ℕ) (images : D → List ℕ → Type 0) (indexes : Indexes D) → IsHeld tells reads images indexes → IsKept tells reads images (disk_of indexes) (state_of indexes)
held_kept tells reads images (Unopened disk) held = tt
held_kept tells reads images (Open k) held = held.1
