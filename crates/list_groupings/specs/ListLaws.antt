-- Laws of the text of a list of all best groupings: it is one, whichever certificate lists them.
use Rattle.std.specs.Prelude.{ℕ, ◌≡◌, List, map, Option, Some, None}
use Rattle.grouping_laws.specs.Grouping.{Grouping}
use Rattle.county_problem.specs.ProblemValue.{ProblemValue, problem_of}
use Rattle.list_laws.specs.AllBest.{AreAllBest}
use Rattle.list_groupings.specs.ListOrder.{AreInOrder}
use Rattle.list_groupings.specs.declared.listing.Listing.{Listing}
use Rattle.list_groupings.specs.declared.listing.Listing.TheVariants.{All, Open, Impossible, No, Budget}
use Rattle.list_groupings.specs.Answers.{IsListing, ListsAllBest}
use Rattle.list_groupings.specs.Walking.{sets_held}
use Rattle.list_report.specs.Listing.{listing_text}

-- the groupings that an answer lists
abbrev pub groupings_listed : Listing → Option (List Grouping)
groupings_listed (All list) = Some (map sets_held list.items)
groupings_listed (Open gap line) = None
groupings_listed Impossible = None
groupings_listed (No fault line) = None
groupings_listed Budget = None

-- a certificate's text is answered with a list of groupings, whose text this is
pub record ListsAs (v : ProblemValue) (certificate : List ℕ) (budget : ℕ) (text : List ℕ) : Type 0 where
  pub listing : Listing
  pub answer : IsListing (problem_of v) certificate budget listing
  pub all : ListsAllBest (problem_of v) listing
  pub groupings : List Grouping
  pub groupings_are : groupings_listed listing ≡ Some groupings
  pub text_is : text ≡ listing_text v groupings

-- The text of a list is a fact of the problem.
pub record ListingsAreOne : Type 0 where
  -- two lists of all best groupings, each in order, have the same text
  pub lists : (v : ProblemValue) (xs ys : List Grouping) → AreAllBest (problem_of v) xs → AreAllBest (problem_of v) ys
      → AreInOrder xs
      → AreInOrder ys → listing_text v xs ≡ listing_text v ys
  -- the lists of two certificates, with whatever budgets, have the same text
  pub answers : (v : ProblemValue) (one other : List ℕ) (budget more : ℕ) (text again : List ℕ)
      → ListsAs v one budget text
      → ListsAs v other more again → text ≡ again
