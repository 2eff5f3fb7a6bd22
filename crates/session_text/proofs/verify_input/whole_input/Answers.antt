use Rattle.session_text.proofs.verify_input.whole_input.Goals as goal

pub returns-clause-ok : goal.returns-clause-ok
returns-clause-ok c =
    let time = c.in_ok-moment.ensures.ok in
    let documents = c.in_ok-documents.ensures.ok in
    record {
      text = time.text;
      first = documents.first;
      further = documents.further;
      after = c.documents.new.text;
      is = rw (← c.new-text.ensures, c.in_ok-keyword.ensures.ok, c.in_ok-mode.ensures.ok, time.is, c.in_ok-policy.ensures.ok, c.in_ok-evidence.ensures.ok, documents.is) cc;
      says = time.says;
      all = documents.all;
    }
