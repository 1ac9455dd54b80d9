-- The one best grouping of three counties whose middle one strands its neighbours.
use Rattle.std.proofs.Common.{◌≡◌, Bool, true, false, not, ◌&&◌, [], ◌∷◌, refl, sym, ◌∙◌, arith, lit≤}
use Rattle.std.proofs.lemmas.Bool.{false≢true}
use Rattle.grouping_laws.specs.Sets.{contains}
use Rattle.grouping_laws.specs.Grouping.{sets_of}
use Rattle.certificate_laws.specs.State.{empty_state, close}
use Rattle.certificate_laws.specs.Examples.{path, stranding, together, plain_round, plain_tree, wide_round, lone_leaf}
use Rattle.certificate_laws.proofs.Examples.{plain_certificate}
use Rattle.list_laws.specs.AllBest.{AreAllBest}
use Rattle.list_laws.specs.Completeness.{IsFilled, IsComplete}
use Rattle.list_laws.specs.Examples.{only_together}
use Rattle.list_laws.proofs.Same.{same_self}
use Rattle.list_laws.proofs.Certified.{all_best}

filled : IsFilled stranding (close path (empty_state stranding))
filled = record {
  none_left = λ c. gone (contains path c);
  seats_of_closed = 2 ∷ [];
  suit = (record { some_seat = omega arith; enough = lit≤ tt; not_more = lit≤ tt }, tt);
  add_up = refl;
}
  where
    gone : (b : Bool) → (b && not b) ≡ false
    gone true = refl
    gone false = refl

pub complete : IsComplete plain_tree stranding plain_round (empty_state stranding)
complete = (((λ e. filled), tt), tt)

pub listed : AreAllBest stranding only_together
listed = all_best stranding plain_round plain_tree together refl plain_certificate complete only_together ((plain_certificate.target.0, same_self (sets_of together)), tt)

pub not_complete : IsComplete lone_leaf stranding wide_round (empty_state stranding) → ⊥
not_complete c = false≢true (sym ((c refl).none_left 37001) ∙ refl)
