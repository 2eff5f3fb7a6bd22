use Rattle.std.proofs.Common.{◌≡◌, Ok, subst}
use Rattle.civil_moment.specs.Fault.{first_fault}
use Rattle.session_text.specs.Unread.{Unread}
use Rattle.session_text.specs.Words.{time_in}
use Rattle.session_text.proofs.WordLemmas.{time_passes}
use Rattle.session_text.proofs.text.Text.moment.Goals as goal

pub returns-clause-ok : goal.returns-clause-ok
returns-clause-ok c =
    let word = c.in_ok-word.word.now in
    let judged = subst (λ (u : Unread). time_in u.place word (first_fault word) ≡ Ok word) c.self.view_is c.in_ok-moment.ensures.time in
    record {
      text = word;
      is = time_passes c.args.separator c.args.self.now word c.word.new.self c.separator.new.self c.in_ok-word.ensures.ok judged c.in_ok-separator.ensures.ok;
      says = c.in_ok-moment.ensures.says;
    }
