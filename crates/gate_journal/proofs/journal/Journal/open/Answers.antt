use Rattle.std.proofs.Common.{sym, ◌∙◌, arith}
use Rattle.gate_journal.proofs.Placing.{kept_reads, kept_lengths, kept_begins, kept_at_rest}
use Rattle.gate_journal.proofs.Exclusive.{reads_formatted, one_list, no_refusal, damage_of}
use Rattle.gate_journal.proofs.journal.Journal.open.Goals as goal

pub invariant_of-result : goal.invariant_of-result
invariant_of-result g c =
    let found = c.in-Ok.ensures.found in (
      record {
        places_are = found.places_are;
        end_is = found.end_is;
        limit = found.limit;
        room = omega (arith, c.in-Ok.ensures.room, c.in-Ok.buffer.ok.1);
        begins = λ tells. kept_begins _ _ _ (c.read_journal.ensures.only_reads.quiet tells).same (found.reads tells) _ found.end_is;
        at_rest = λ tells not. kept_at_rest _ _ _ (c.read_journal.ensures.only_reads.quiet tells).same (found.reads tells) _ found.end_is;
        durable = λ tells not f left. c.in-Ok.ensures.durable tells f left ∙ sym (c.read_journal.ensures.only_reads.quiet tells).same;
      },
      omega (arith, c.in-Ok.found.frames.ok.1),
    )

pub returns-in-Ok-clause-read : goal.returns-in-Ok-clause-read
returns-in-Ok-clause-read g c tells =
    let found = c.in-Ok.ensures.found.reads tells in
    let reads = kept_reads _ _ _ (c.read_journal.ensures.only_reads.quiet tells).same found in
    record {
      reads = reads;
      only = λ h others. one_list _ h _ others reads;
      undamaged = λ f damage. no_refusal _ _ f found.1 damage;
      formatted = reads_formatted _ _ found.1;
    }

pub returns-in-Ok-clause-lengths : goal.returns-in-Ok-clause-lengths
returns-in-Ok-clause-lengths g c tells = kept_lengths _ _ _ (c.read_journal.ensures.only_reads.quiet tells).same (c.in-Ok.ensures.found.reads tells)

pub returns-in-Err-clause-damage : goal.returns-in-Err-clause-damage
returns-in-Err-clause-damage g c tells = damage_of _ _ (c.in-Err.ensures.fault tells)
