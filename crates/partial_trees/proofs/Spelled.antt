-- The lines of branches and takes that stand in a partial tree.
use Rattle.std.proofs.Common.{◌≡◌, ℕ, zero, suc, ◌≤◌, Bool, true, false, List, [], ◌∷◌, length, Option, Some, None, refl, arith, All, inl, inr}
use Rattle.std.proofs.lemmas.Bool.{false≢true}
use Rattle.county_codes.specs.Limits.{most_counties}
use Rattle.grouping_laws.specs.Sets.{contains}
use Rattle.grouping_laws.specs.Problem.{Problem}
use Rattle.grouping_laws.proofs.Elements.{Has, has_all, all_from_has, contains_from_has}
use Rattle.grouping_laws.proofs.Places.{has_member}
use Rattle.grouping_laws.proofs.PlaceCodes.{member_has}
use Rattle.certificate_data.specs.declared.format.Format.{Format}
use Rattle.certificate_data.specs.declared.format.Format.TheVariants.{Plain, Wide}
use Rattle.certificate_data.specs.Round.{Round}
use Rattle.certificate_laws.specs.State.{State, open_to}
use Rattle.certificate_laws.specs.Places.{in_codes}
use Rattle.certificate_laws.specs.Groups.{AreGroupsAt, IsGroupAt}
use Rattle.certificate_laws.specs.Proving.{NamesLimit}
use Rattle.certificate_lines.specs.Fitting.{AreCodes, IsSet}
use Rattle.certificate_lines.specs.declared.item.Opening.TheVariants.{Branch}
use Rattle.certificate_lines.specs.declared.item.Item.TheVariants.{Opens}
use Rattle.certificate_text.specs.TreeItems.{FitsInTree}
use Rattle.partial_trees.specs.OpenStates.{AreSets}

-- a county of the order at which a branch can be has five digits
ordered : (order : List ℕ) (t : State) (limit c : ℕ) → open_to (in_codes order t) limit c ≡ true → contains order c ≡ true
ordered order t limit c e = go (contains order c) refl
  where
    go : (b : Bool) → contains order c ≡ b → contains order c ≡ true
    go true k = k
    go false k = absurd (false≢true (rw k at e))

pub five_digits : (order : List ℕ) (t : State) (limit c : ℕ) → All (λ z. z ≤ 99999) order → open_to (in_codes order t) limit c ≡ true → c ≤ 99999
five_digits order t limit c five e = has_all (λ z. z ≤ 99999) order five c (member_has order c (ordered order t limit c e))

-- such a branch has a line, if its limit isn't 0
pub branch_fits : (format : Format) (county : ℕ) (limit : Option ℕ) → NamesLimit format limit → county ≤ 99999 → (limit ≡ Some 0 → ⊥) → ((n : ℕ) → limit ≡ Some n → n ≤ most_counties) → FitsInTree format (Opens (Branch county limit))
branch_fits Plain county None names five some few = (five, omega arith)
branch_fits Plain county (Some limit) names five some few = absurd names
branch_fits Wide county None names five some few = absurd names
branch_fits Wide county (Some limit) names five some few = (five, at_least limit some, few limit refl, omega arith)
  where
    at_least : (n : ℕ) → (Some n ≡ Some 0 → ⊥) → 1 ≤ n
    at_least zero f = absurd (f refl)
    at_least (suc n) f = omega arith

pub no_limit : (format : Format) (county : ℕ) (limit : Option ℕ) → limit ≡ Some 0 → FitsInTree format (Opens (Branch county limit)) → ⊥
no_limit Plain county None e h = absurd (cc)
no_limit Plain county (Some n) e h = h
no_limit Wide county None e h = absurd (cc)
no_limit Wide county (Some n) e h = let k : n ≡ 0 = cc in omega (arith, h.1, k)

-- the groups of a branch have lines
codes_five : (order codes : List ℕ) → All (λ z. z ≤ 99999) order → ((c : ℕ) → Has codes c → contains order c ≡ true) → AreCodes codes
codes_five order [] five f = tt
codes_five order (c ∷ codes) five f = (has_all (λ z. z ≤ 99999) order five c (member_has order c (f c (inl refl))), codes_five order codes five (λ d h. f d (inr h)))

pub groups_fit : (p : Problem) (round : Round) (order : List ℕ) (t : State) (county limit : ℕ) (groups : List (List ℕ)) → All (λ z. z ≤ 99999) order → limit ≤ most_counties → AreGroupsAt p round (in_codes order t) county limit groups → AreSets groups
groups_fit p round order t county limit groups five few are = all_from_has IsSet groups (λ g h.
    let is : IsGroupAt p round (in_codes order t) county limit g = (are.each g).0 (contains_from_has groups g h) in record {
      some = is.fits.lawful.connected.some_county;
      few = omega (arith, is.small, few);
      small = codes_five order g five (λ c k. ordered order t (length g) c (is.fits.inside c (has_member g c k)));
    })
