use Rattle.std.proofs.Common.{refl}
use Rattle.key_state.proofs.ReserveLemmas.{fault_broken, fault_exhausted, fault_none}
use Rattle.key_state.proofs.state.KeyState.reserve.Goals as goal

pub returns-then-self-clause-refused : goal.returns-then-self-clause-refused
returns-then-self-clause-refused g c = rw (← c.self.view_is) (record { first = fault_broken _ c.if-self.true; same = refl })

pub returns-then-self-index-clause-refused : goal.returns-then-self-index-clause-refused
returns-then-self-index-clause-refused g c = rw (← c.self.view_is) (record { first = fault_exhausted _ c.if-self.false c.if-self-index.true; same = refl })

pub returns-in_default-clause-refused : goal.returns-in_default-clause-refused
returns-in_default-clause-refused g c = rw (← c.self.view_is) (record {
  not_refused = fault_none _ c.if-self.false c.if-self-index.false;
  next = refl;
  leaves = refl;
  broken = refl;
  rose = c.in_default.ensures.cause.failed;
})

pub returns-clause-given : goal.returns-clause-given
returns-clause-given g c = rw (← c.self.view_is) (record {
  not_refused = fault_none _ c.if-self.false c.if-self-index.false;
  index_is = refl;
  within = c.if-self-index.false;
  next = refl;
  leaves = refl;
  still_open = c.if-self.false;
  on_disk = c.in-Ok.ensures.on_disk;
  reads_next = λ tells. (c.in-Ok.ensures.marked tells).exact refl;
})
