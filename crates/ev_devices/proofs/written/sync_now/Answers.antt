use Rattle.std.proofs.Common.{ℕ, [], ◌∷◌, ◌++◌, sym, ◌∙◌, ap}
use Rattle.std.specs.declared.option.Option.{Option}
use Rattle.ev_devices.specs.Writes.{sync_last}
use Rattle.ev_devices.specs.declared.written.Written.{Written}
use Rattle.ev_devices.proofs.WriteLemmas.{sync_push}
use Rattle.ev_devices.proofs.written.sync_now.Goals as goal

pub returns : goal.returns
returns c =
    let last : Written = c.in-Some.last in
    c.in-Ok.ensures.items
    ∙ ap (λ (o : Option ℕ). c.pop.new.self.items ++ record last { synced = o } ∷ []) c.first_of.ensures
    ∙ sym (sync_push c.pop.new.self.items last c.args.moment)
    ∙ ap (sync_last c.args.moment) (sym c.in-Some.ensures.items)
