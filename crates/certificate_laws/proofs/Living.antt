-- Each group of a completion fits: closed, it leaves a state that can be completed, at which no part is stuck.
use Rattle.std.proofs.Common.{◌≡◌, ℕ, ◌<◌, Bool, true, false, cond, List, length, refl, sym, subst, arith, inl, inr}
use Rattle.county_codes.specs.declared.group.Group.{Group}
use Rattle.grouping_laws.specs.Sets.{contains}
use Rattle.grouping_laws.specs.Problem.{Problem}
use Rattle.grouping_laws.specs.Grouping.{Grouping, sets_of}
use Rattle.grouping_laws.proofs.Elements.{Has, has-map}
use Rattle.grouping_laws.proofs.Alike.{Alike, length_alike, member_alike, lawful_alike}
use Rattle.certificate_data.specs.declared.format.Format.{Format}
use Rattle.certificate_data.specs.declared.format.Format.TheVariants.{Plain, Wide}
use Rattle.certificate_laws.specs.State.{State, close}
use Rattle.certificate_laws.specs.StuckParts.{CannotFill, StuckPart}
use Rattle.certificate_laws.specs.Fitting.{IsDead, IsKept, Fits}
use Rattle.certificate_laws.proofs.Completion.{IsWhole, Completes, group_open, group_lawful}
use Rattle.certificate_laws.proofs.LeafLemmas.{none_stuck}
use Rattle.certificate_laws.proofs.Steps.{others_of, close_whole, close_completes}
use Rattle.certificate_laws.proofs.WithoutGroup.{without_not}

-- a set off a group that no groups can fill can't be filled once the group is closed, and the other way round
pub cannot_once_closed : (p : Problem) (s : State) (g xs : List ℕ) → ((x : ℕ) → contains xs x ≡ true → contains g x ≡ false) → CannotFill p s xs → CannotFill p (close g s) xs
cannot_once_closed p s g xs off (inl none) = inl none
cannot_once_closed p s g xs off (inr few) = inr (few.0, few.1, rw (off few.0 few.1) few.2)

pub cannot_before : (p : Problem) (s : State) (g xs : List ℕ) → CannotFill p (close g s) xs → CannotFill p s xs
cannot_before p s g xs (inl none) = inl none
cannot_before p s g xs (inr few) = inr (few.0, few.1, go (contains g few.0) few.2)
  where
    go : (b : Bool) → length xs < cond b 0 (s.least few.0) → length xs < s.least few.0
    go true h = absurd (omega arith)
    go false h = h

-- a dead group leaves a stuck part once it is closed
pub dead_leaves : (p : Problem) (s : State) (g : List ℕ) → IsDead p s g → StuckPart p (close g s) (close g s).rest
dead_leaves p s g d = record { part = d.part; is_part = d.is_part; stuck = cannot_once_closed p s g d.part (λ x e. without_not g s.rest x (d.is_part.inside x e)) d.stuck }

module _ (p : Problem) (s : State) (whole : IsWhole p s) (opens : Grouping) (c : Completes p s opens) where
  group_live : (m : Group) (h : Has opens m) (g : List ℕ) → Alike m.codes g → IsDead p s g → ⊥
  group_live m h g same d = none_stuck p (close g s) (close_whole p s whole opens c m h g same) (others_of opens m h) (close_completes p s whole opens c m h g same) (dead_leaves p s g d)

  pub group_fits : (format : Format) (m : Group) → Has opens m → (g : List ℕ) → Alike m.codes g → Fits format p s g
  group_fits format m h g same = record {
    lawful = lawful_alike p m.codes g same (group_lawful p s whole opens c m h);
    inside = λ x e. group_open p s whole opens c m (length g) h (omega (arith, length_alike m.codes g same)) x (member_alike g m.codes (λ y. sym (same y)) x e);
    kept = left format;
  }
    where
      left : (format : Format) → IsKept format p s g
      left Plain = tt
      left Wide = group_live m h g same

  pub set_fits : (format : Format) (g : List ℕ) → Has (sets_of opens) g → Fits format p s g
  set_fits format g h = let r = has-map opens g h in subst (Fits format p s) r.2 (group_fits format r.0 r.1 r.0.codes (λ x. refl))
