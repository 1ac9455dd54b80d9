-- What is told of a state of a round has a text.
use Rattle.std.proofs.Common.{◌≡◌, ℕ, ◌≤◌, ◌&&◌, if◌then◌else◌, Bool, true, false, List, [], ◌∷◌, length, refl, ap, arith, All}
use Rattle.std.specs.Prelude.{nat_lt}
use Rattle.std.specs.List.{AllByRecursion}
use Rattle.std.proofs.lemmas.Bool.{and_parts}
use Rattle.std.proofs.lemmas.List.Elements.{recursion_from_All}
use Rattle.place_sets.proofs.Sums.{often_none, member_from_often, total_within, total_ones}
use Rattle.grouping_laws.specs.Sets.{indicator, count, contains}
use Rattle.grouping_laws.specs.Problem.{Problem, LawfulGroup}
use Rattle.grouping_laws.specs.GroupsFrom.{IsOrder}
use Rattle.grouping_laws.proofs.Elements.{has_all, all_from_has}
use Rattle.grouping_laws.proofs.Places.{has_member}
use Rattle.grouping_laws.proofs.PlaceCodes.{member_has}
use Rattle.certificate_lines.specs.Fitting.{IsSet}
use Rattle.certificate_lines.specs.Lines.{most}
use Rattle.certificate_laws.specs.State.{State}
use Rattle.piece_states.specs.Told.{asked_by}
use Rattle.piece_states.specs.TextLines.{greatest_size}
use Rattle.piece_states.specs.Reading.{FitsAsked}
use Rattle.piece_states.specs.Laws.{StatesHaveTexts}

module _ (p : Problem) (order : List ℕ) (whole : IsOrder p order) (five : All (λ c. c ≤ 99999) order) (few : length order ≤ most) where
  -- a county of the problem stands in the order
  listed : (c : ℕ) → contains p.counties c ≡ true → contains order c ≡ true
  listed c e = member_from_often c order (omega (arith, whole c, ap indicator e))

  -- a lawful group has from 1 to 256 codes of five digits
  group_set : (g : List ℕ) → LawfulGroup p g → IsSet g
  group_set g lawful = record {
    some = lawful.connected.some_county;
    few = omega (arith, total_within (λ x. 1) g order fewer, total_ones g, total_ones order, few);
    small = recursion_from_All (λ c. c ≤ 99999) g
        (all_from_has (λ c. c ≤ 99999) g (λ c h. has_all (λ c. c ≤ 99999) order five c (member_has order c (listed c (lawful.listed c (has_member g c h))))));
  }
    where
      fewer : (c : ℕ) → count c g ≤ count c order
      fewer c = go (contains g c) refl
        where
          go : (b : Bool) → contains g c ≡ b → count c g ≤ count c order
          go true e = omega (arith, lawful.once c, whole c, ap indicator (lawful.listed c e))
          go false e = omega (arith, often_none c g e)

-- what counties of five digits ask for has a line each
asked_fit : (cs : List ℕ) (s : State) → AllByRecursion (λ c. c ≤ 99999) cs → ((c : ℕ) → s.least c ≤ greatest_size) → AllByRecursion FitsAsked (asked_by cs s)
asked_fit [] s five most_size = tt
asked_fit (c ∷ cs) s five most_size = go (asked_fit cs s five.1 most_size) (s.rest c && nat_lt 0 (s.least c)) refl
  where
    some : (n : ℕ) → nat_lt 0 n ≡ true → 1 ≤ n
    some n e = grind arith

    go : AllByRecursion FitsAsked (asked_by cs s) → (b : Bool) → (s.rest c && nat_lt 0 (s.least c)) ≡ b
        → AllByRecursion FitsAsked (if b then record { county = c; size = s.least c } ∷ asked_by cs s else asked_by cs s)
    go later true e = ((five.0, some (s.least c) (and_parts (s.rest c) (nat_lt 0 (s.least c)) e).1, most_size c), later)
    go later false e = later

pub states_have_texts : StatesHaveTexts
states_have_texts p round s number piece whole state five few most_size small_round small_piece = record {
  round = small_round;
  number = small_piece;
  closed = recursion_from_All IsSet s.closed (λ k d inside. group_set p round.order whole five few _ (state.lawful k d inside));
  asked = asked_fit round.order s (recursion_from_All (λ c. c ≤ 99999) round.order five) most_size;
}
