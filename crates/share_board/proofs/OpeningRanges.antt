-- The numbers of an opening are in the ranges of their lines.
use Rattle.std.proofs.Common.{◌≡◌, ℕ, ◌-◌, ◌≤◌, true, not, nat_le, List, refl, ap, arith, inl, inr, Option, Some, None}
use Rattle.std.proofs.lemmas.Bool.{and_parts}
use Rattle.grouping_laws.specs.Sets.{contains}
use Rattle.grouping_laws.specs.Problem.{Problem}
use Rattle.grouping_laws.proofs.Elements.{Has, contains_from_has}
use Rattle.certificate_data.specs.declared.format.Format.{Format}
use Rattle.certificate_data.specs.declared.format.Format.TheVariants.{Plain, Wide}
use Rattle.certificate_lines.specs.Lines.{most}
use Rattle.certificate_lines.specs.declared.item.Opening.TheVariants.{Branch}
use Rattle.certificate_lines.specs.declared.item.Item.TheVariants.{Opens as OpensItem}
use Rattle.certificate_data.specs.Round.{Round}
use Rattle.certificate_laws.specs.State.{State, empty_state, close, raise}
use Rattle.certificate_laws.specs.Groups.{AreGroupsAt}
use Rattle.certificate_laws.specs.Proving.{limit_of}
use Rattle.board_laws.specs.Skeleton.{Skeleton, waits, proved, split, Parts, no_part, part, groups_in}
use Rattle.board_laws.specs.Content.{Opens, EachOpens}
use Rattle.certificate_text.specs.TreeItems.{FitsInTree}
use Rattle.share_board.specs.Spelling.{HasRanges, EachHasRanges, HasFiveDigits}
use Rattle.share_board.proofs.OneOpening.{names_none}
use Rattle.share_board.proofs.Spelling.{five_digits, group_is_set}

-- the rest of a state are counties of the problem
abbrev RestListed : Problem → State → Type 0
RestListed p s = (c : ℕ) → s.rest c ≡ true → contains p.counties c ≡ true

plain_branch : (format : Format) (county : ℕ) (limit : Option ℕ) → format ≡ Plain → limit ≡ None → county ≤ 99999 → FitsInTree format (OpensItem (Branch county limit))
plain_branch Plain county None e n h = (h, omega arith)
plain_branch Plain county (Some limit) e n h = absurd (cc)
plain_branch Wide county limit e n h = absurd (cc)

module _ (p : Problem) (round : Round) (five : HasFiveDigits p) (few : round.limit ≤ most) where
  mutual
    pub opens_ranges : (depth : ℕ) (skeleton : Skeleton) (s : State) (first next : ℕ) → (1 ≤ depth → round.format ≡ Plain) → RestListed p s → Opens depth skeleton p round s first next → HasRanges round.format skeleton
    opens_ranges depth (waits piece) s first next plain rest o = tt
    opens_ranges depth (proved piece tree) s first next plain rest o = absurd o
    opens_ranges depth (split piece county limit parts raised) s first next plain rest o =
        let none = names_none round.format limit (plain o.1) o.2 in
        let is_open = (o.3).is_open in
        let there = rest county (and_parts (s.rest county) (nat_le (s.least county) (limit_of round limit)) is_open).0 in
        let size : limit_of round limit ≡ round.limit = ap (limit_of round) none in (
          plain_branch round.format county limit (plain o.1) none (five_digits p county five there),
          each_ranges (depth - 1) parts s county (limit_of round limit) first o.5.0 (omega (arith, few, size)) (λ some. plain o.1) rest (groups_in parts) o.4 (λ g h. h) o.5.1,
          opens_ranges (depth - 1) raised (raise county (limit_of round limit) s) o.5.0 next (λ some. plain o.1) rest o.5.2,
        )

    each_ranges : (depth : ℕ) (parts : Parts) (s : State) (county limit first next : ℕ) → limit ≤ most → (1 ≤ depth → round.format ≡ Plain) → RestListed p s → (groups : List (List ℕ)) → AreGroupsAt p round s county limit groups
        → ((g : List ℕ) → Has (groups_in parts) g → Has groups g) → EachOpens depth parts p round s first next → EachHasRanges round.format parts
    each_ranges depth no_part s county limit first next small plain rest groups are among o = tt
    each_ranges depth (part codes skeleton others) s county limit first next small plain rest groups are among o = (
      group_is_set p round s county limit codes five small ((are.each codes).0 (contains_from_has groups codes (among codes (inl refl)))),
      opens_ranges depth skeleton (close codes s) first o.0 plain (λ c h. rest c (and_parts (s.rest c) (not (contains codes c)) h).0) o.1,
      each_ranges depth others s county limit o.0 next small plain rest groups are (λ g h. among g (inr h)) o.2,
    )

pub empty_listed : (p : Problem) → RestListed p (empty_state p)
empty_listed p c h = h
