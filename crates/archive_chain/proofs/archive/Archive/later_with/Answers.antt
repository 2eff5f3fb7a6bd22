use Rattle.std.proofs.Common.{ℕ, List, [], ◌∷◌, ◌++◌, ap, sym, subst}
use Rattle.token_check.specs.Sound.{Sound}
use Rattle.archive_chain.specs.Kept.{token_of}
use Rattle.archive_chain.specs.InsideToken.{IsLatestIn, IsLastTime}
use Rattle.archive_chain.proofs.Times.{one_later}
use Rattle.archive_chain.proofs.archive.Archive.later_with.Goals as goal

pub returns : goal.returns
returns c = λ names so_far.
    let policy = c.args.self.now.policy in
    let k = c.args.self.now.kept in
    let t = c.in-Some.stamp.now in
    let said = c.in-Some.ensures.said in
    let here : IsLastTime k policy c.args.cohort t.time = record {
      says = said.says;
      sound = subst (λ (token : List ℕ). Sound policy token said.says) (ap token_of c.in-Some.ensures.last) said.sound;
      time_is = said.time_is;
    } in
    subst (IsLatestIn k policy (names ++ c.args.cohort ∷ [])) (sym c.later.ensures) (one_later k policy names c.args.cohort c.args.so_far t.time so_far here)
