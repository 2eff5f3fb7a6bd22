use Rattle.std.proofs.Common.{◌≡◌, ◌+◌, ◌++◌, ◌∷◌, [], List, ℕ, map, length, Some, refl, sym, ◌∙◌, ap, arith, rules}
use Rattle.gate_journal.specs.View.{end_from}
use Rattle.gate_journal.specs.Inside.{places_from}
use Rattle.gate_journal.specs.declared.frame.Frame.{Frame}
use Rattle.gate_journal.proofs.Placing.{begins_same, still_begins, places-push, end-push, map-push, more_payloads, more_at_rest, more_begins}
use Rattle.std.proofs.lemmas.List.{length-map}
use Rattle.gate_journal.specs.declared.fault.JournalFault.TheVariants.{Full, Broken}
use Rattle.gate_journal.proofs.Appending.{fault_broken, fault_full, fault_none}
use Rattle.gate_journal.proofs.journal.Journal.append.Goals as goal

-- the number of the next frame is that of the lengths
number_of : (frames : List Frame) (number : ℕ) → number ≡ length frames → number ≡ length (map (λ (f : Frame). f.length) frames)
number_of frames number is = is ∙ sym (length-map frames (λ (f : Frame). f.length))

pub returns-then-self-clause-refused : goal.returns-then-self-clause-refused
returns-then-self-clause-refused g c =
    let number = number_of c.self.inside.frames.items _ (omega (arith, c.len-number.ensures, c.self.inside.frames.ok.0)) in
    rw (← c.self.view_is) (record {
      first = fault_broken _ (length c.args.payload.now) c.if-self.true ∙ ap (λ (k : ℕ). Some (Broken k)) (sym number);
      same = refl;
    })

pub returns-then-next-gt-LIMIT-clause-refused : goal.returns-then-next-gt-LIMIT-clause-refused
returns-then-next-gt-LIMIT-clause-refused g c =
    let k = c.self.invariant.0 in
    rw (← c.self.view_is) (record {
      first = fault_full _ (length c.args.payload.now) c.if-self.false (omega (arith, k.end_is)) ∙ ap (λ (size : ℕ). Some (Full size)) (omega (arith, k.end_is));
      same = refl;
    })

-- after a fault the frames from before stand where they stood
pub invariant_of-self : goal.invariant_of-self
invariant_of-self g c =
    let k = c.self.invariant.0 in (
      record {
        places_are = k.places_are;
        end_is = k.end_is;
        limit = k.limit;
        room = c.write_frame.ensures.room;
        begins = λ tells. still_begins _ _ c.self.inside.end _ _ (k.begins tells) (c.write_frame.ensures.front tells);
        at_rest = λ tells not. absurd (cc not);
        durable = λ tells not. absurd (cc not);
      },
      c.self.invariant.1,
    )

pub returns-in_default-clause-refused : goal.returns-in_default-clause-refused
returns-in_default-clause-refused g c =
    let k = c.self.invariant.0 in
    rw (← c.self.view_is) (record {
      not_refused = fault_none _ (length c.args.payload.now) c.if-self.false (omega (arith, k.end_is));
      lengths = refl;
      payloads = λ tells. begins_same _ _ c.self.inside.end _ _ (k.begins tells) (c.write_frame.ensures.front tells);
      spare = refl;
      broken = refl;
      frames = λ tells. c.write_frame.ensures.either tells _ (k.at_rest tells c.if-self.false);
      rose = c.in_default.ensures.cause.failed;
    })

-- and otherwise there is one more
pub invariant_of-self-2 : goal.invariant_of-self-2
invariant_of-self-2 g c =
    let k = c.self.invariant.0 in
    let n = length c.args.payload.now in
    let old : List ℕ = map (λ (f : Frame). f.length) c.self.inside.frames.items in
    let lengths : map (λ (f : Frame). f.length) c.push.new.self.items ≡ old ++ n ∷ [] = ap (map (λ (f : Frame). f.length)) c.in-Ok-push.ensures.items ∙ map-push _ _ _ in
    let places : map (λ (f : Frame). f.place) c.push.new.self.items ≡ map (λ (f : Frame). f.place) c.self.inside.frames.items ++ c.self.inside.end ∷ [] =
    ap (map (λ (f : Frame). f.place)) c.in-Ok-push.ensures.items ∙ map-push _ _ _ in (
      record {
        places_are = places ∙ ap (λ (l : List ℕ). l ++ c.self.inside.end ∷ []) k.places_are
            ∙ ap (λ (e : ℕ). places_from 16 old ++ e ∷ []) k.end_is ∙ sym (places-push 16 old n) ∙ ap (places_from 16) (sym lengths);
        end_is = ap (λ (e : ℕ). e + n + 37) k.end_is ∙ sym (end-push 16 old n) ∙ ap (end_from 16) (sym lengths);
        limit = omega arith;
        room = c.write_frame.ensures.room;
        begins = λ tells. more_begins _ _ _ old _ _ (k.begins tells) (c.in-Ok.ensures.made tells _ (k.at_rest tells c.if-self.false)) lengths k.end_is;
        at_rest = λ tells not. more_at_rest _ _ _ old _ _ (k.begins tells) (c.in-Ok.ensures.made tells _ (k.at_rest tells c.if-self.false)) lengths k.end_is;
        durable = λ tells not. c.in-Ok.ensures.durable tells;
      },
      omega (arith, c.self.invariant.1, c.in-Ok-push.ensures.len, c.push.ensures.capacity, ap (λ v. v.spare) c.self.view_is),
    )

pub returns-clause-added : goal.returns-clause-added
returns-clause-added g c =
    let k = c.self.invariant.0 in
    let lengths = ap (map (λ (f : Frame). f.length)) c.in-Ok-push.ensures.items ∙ map-push _ _ _ in
    rw (← c.self.view_is) (record {
      not_refused = fault_none _ (length c.args.payload.now) c.if-self.false (omega (arith, k.end_is));
      number_is = number_of c.self.inside.frames.items _ (omega (arith, c.len-number.ensures, c.self.inside.frames.ok.0));
      lengths = lengths;
      payloads = λ tells. more_payloads _ _ _ _ _ _ (k.begins tells) (c.in-Ok.ensures.made tells _ (k.at_rest tells c.if-self.false)) lengths k.end_is;
      frames = λ tells. (more_at_rest _ _ _ _ _ _ (k.begins tells) (c.in-Ok.ensures.made tells _ (k.at_rest tells c.if-self.false)) lengths k.end_is).reads;
      durable = λ tells. c.in-Ok.ensures.durable tells;
      spare = omega (arith, c.requires.spare, ap (λ v. v.spare) c.self.view_is);
      still_open = c.if-self.false;
    })
