-- Lists of all best groupings have one text.
use Rattle.std.proofs.Common.{◌≡◌, ℕ, List, map, Some, None, ap, sym, subst, ◌∙◌}
use Rattle.grouping_laws.specs.Problem.{Problem}
use Rattle.grouping_laws.specs.Grouping.{Grouping}
use Rattle.county_problem.specs.ProblemValue.{ProblemValue, problem_of}
use Rattle.list_laws.specs.AllBest.{AreAllBest}
use Rattle.list_groupings.specs.ListOrder.{AreInOrder}
use Rattle.list_groupings.specs.declared.listing.Listing.{Listing}
use Rattle.list_groupings.specs.declared.listing.Listing.TheVariants.{All, Open, Impossible, No, Budget}
use Rattle.list_groupings.specs.Answers.{ListsAllBest}
use Rattle.list_groupings.specs.Walking.{sets_held}
use Rattle.list_groupings.proofs.Canonical.{lists_same}
use Rattle.list_report.specs.Listing.{sets_text, listing_text}
use Rattle.list_groupings.specs.ListLaws.{groupings_listed, ListsAs, ListingsAreOne}

same_text : (v : ProblemValue) (xs ys : List Grouping) → AreAllBest (problem_of v) xs → AreAllBest (problem_of v) ys → AreInOrder xs
    → AreInOrder ys → listing_text v xs ≡ listing_text v ys
same_text v xs ys a b u w = ap (sets_text v) (lists_same (problem_of v) xs ys a b u w)

-- what an answer lists are all best groupings, in order
record AreListed (p : Problem) (groupings : List Grouping) : Type 0 where
  pub best : AreAllBest p groupings
  pub in_order : AreInOrder groupings

all_listed : (p : Problem) (list groupings : List Grouping) → AreAllBest p list → AreInOrder list → Some list ≡ Some groupings → AreListed p groupings
all_listed p list groupings best order e =
    let same : list ≡ groupings = cc (e) in
    record { best = subst (AreAllBest p) same best; in_order = subst AreInOrder same order }

none_listed : (groupings : List Grouping) → None ≡ Some groupings → ⊥
none_listed groupings e = cc (e)

are_listed : (p : Problem) (listing : Listing) (groupings : List Grouping) → ListsAllBest p listing → groupings_listed listing ≡ Some groupings
    → AreListed p groupings
are_listed p (All list) groupings all e = all_listed p (map sets_held list.items) groupings all.0 all.1 e
are_listed p (Open gap line) groupings all e = absurd (none_listed groupings e)
are_listed p Impossible groupings all e = absurd (none_listed groupings e)
are_listed p (No fault line) groupings all e = absurd (none_listed groupings e)
are_listed p Budget groupings all e = absurd (none_listed groupings e)

same_answers : (v : ProblemValue) (one other : List ℕ) (budget more : ℕ) (text again : List ℕ) → ListsAs v one budget text
    → ListsAs v other more again → text ≡ again
same_answers v one other budget more text again a b =
    let x = are_listed (problem_of v) a.listing a.groupings a.all a.groupings_are in
    let y = are_listed (problem_of v) b.listing b.groupings b.all b.groupings_are in
    a.text_is ∙ same_text v a.groupings b.groupings x.best y.best x.in_order y.in_order ∙ sym b.text_is

pub listings_are_one : ListingsAreOne
listings_are_one = record { lists = same_text; answers = same_answers }
