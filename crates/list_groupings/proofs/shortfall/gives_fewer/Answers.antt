use Rattle.std.proofs.Common.{◌≡◌, ◌+◌, ◌-◌, ℕ, List, nat_lt, ap, ◌∙◌, arith}
use Rattle.grouping_laws.specs.Grouping.{counts}
use Rattle.county_problem.specs.CountList.{count_at}
use Rattle.certificate_laws.specs.BoundLines.{allowance}
use Rattle.certificate_data.specs.TreeValue.{allowance_of}
use Rattle.list_laws.specs.Shortfalls.{still_wanted}
use Rattle.list_groupings.proofs.ShortfallLemmas.{fewer_allowed}
use Rattle.list_groupings.proofs.shortfall.gives_fewer.Goals as goal

pub returns : goal.returns
returns c = record {
  value = λ p s h.
      let size = c.args.size in
      let f = count_at c.args.wanted.now in
      let line = allowance_of c.args.line.now in
      let used : c.still_wanted-used.result ≡ still_wanted s f (size - 1) = c.still_wanted-used.ensures.value s (c.deref.ensures.value ∙ h.closed) in
      let closed : c.groups_of_size-closed.result ≡ counts s.closed size = c.groups_of_size-closed.ensures.value ∙ ap (λ (z : List (List ℕ)). counts z size) (c.deref-2.ensures.value ∙ h.closed) in
      let all : c.allowance-allowed.result ≡ allowance p s size (still_wanted s f (size - 1)) line = c.allowance-allowed.ensures.value p s h ∙ ap (λ z. allowance p s size z line) used in
      fewer_allowed c.groups_of_size-closed.result c.allowance-allowed.result (f size) c.saturating_sub.result (omega arith)
      ∙ (ap (λ z. nat_lt (z + c.allowance-allowed.result) (f size)) closed ∙ ap (λ z. nat_lt (counts s.closed size + z) (f size)) all);
}
