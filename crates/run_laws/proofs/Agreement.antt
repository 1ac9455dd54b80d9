-- Runs of `solve` and of `share` agree with later runs.
use Rattle.run_laws.specs.Agreement.{RunsAgree}
use Rattle.run_laws.proofs.Agrees.{checked}
use Rattle.run_laws.proofs.LaterLists.{listed}
use Rattle.run_laws.proofs.Joined.{shared, unshared}

pub agree : RunsAgree
agree = record {
  checked = λ files words before after stored a. checked files words before after stored a;
  listed = λ files words before after stored a. listed files words before after stored a;
  shared = λ files words before after stored a. shared files words stored a before after;
  unshared = λ files words before after stored a. unshared files words stored a before after;
}
