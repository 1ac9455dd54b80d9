-- How items, and values that are made of them, are spelled.
use Rattle.std.specs.Prelude.{ℕ, List, [], ◌∷◌, ◌++◌, map, codes, decimal, Some, None}
use Rattle.std.specs.List.{flat_map, join_with_byte}
use Rattle.county_codes.specs.Digits.{five_digits}
use Rattle.certificate_data.specs.declared.format.Format.TheVariants.{Plain, Wide}
use Rattle.certificate_data.specs.declared.weights.Weight.{Weight}
use Rattle.certificate_lines.specs.declared.item.Version.TheVariants.{One, Two}
use Rattle.certificate_data.specs.declared.allowance.Allowance.TheVariants.{Room, Weigh}
use Rattle.certificate_lines.specs.declared.item.Opening.TheVariants.{Branch, Stuck, Seats, Bound}
use Rattle.certificate_lines.specs.declared.item.Item.{Item}
use Rattle.certificate_lines.specs.declared.item.Item.TheVariants.{Head, Within, Order, Limit, Target, Grouped, Opens}
use Rattle.certificate_lines.specs.declared.item.Item.TheVariants.{Takes, Mark, Open, Allows, End}

-- a weight: the code, a colon and the number
abbrev pub weight_word : Weight → List ℕ
weight_word w = five_digits w.county ++ 58 ∷ decimal w.weight

-- the words of an item
abbrev pub item_words : Item → List (List ℕ)
item_words (Head Plain One) = codes "county-groups" ∷ codes "certificate" ∷ codes "1" ∷ []
item_words (Head Wide One) = codes "county-groups" ∷ codes "wide" ∷ codes "certificate" ∷ codes "1" ∷ []
item_words (Head Plain Two) = codes "county-groups" ∷ codes "certificate" ∷ codes "2" ∷ []
item_words (Head Wide Two) = codes "county-groups" ∷ codes "wide" ∷ codes "certificate" ∷ codes "2" ∷ []
item_words (Within tolerance) = codes "window" ∷ decimal tolerance.numerator ∷ decimal tolerance.denominator ∷ []
item_words (Order county_codes) = codes "order" ∷ map five_digits county_codes
item_words (Limit limit) = codes "limit" ∷ decimal limit ∷ []
item_words (Target None) = codes "target" ∷ codes "none" ∷ []
item_words (Target (Some groups)) = codes "target" ∷ decimal groups ∷ []
item_words (Grouped group) = codes "group" ∷ decimal group.seats ∷ map five_digits group.codes
item_words (Opens (Branch county None)) = codes "branch" ∷ five_digits county ∷ []
item_words (Opens (Branch county (Some limit))) = codes "branch" ∷ five_digits county ∷ decimal limit ∷ []
item_words (Opens (Stuck county)) = codes "stuck" ∷ five_digits county ∷ []
item_words (Opens Seats) = codes "seats" ∷ []
item_words (Opens (Bound lines)) = codes "bound" ∷ decimal lines ∷ []
item_words (Takes county_codes) = codes "take" ∷ map five_digits county_codes
item_words Mark = codes "mark" ∷ []
item_words Open = codes "open" ∷ []
item_words (Allows Room) = codes "room" ∷ []
item_words (Allows (Weigh quota weights)) = codes "weigh" ∷ decimal quota ∷ map weight_word weights
item_words End = codes "end" ∷ []

-- the line of an item: its words with one blank between them, and an LF
abbrev pub item_line : Item → List ℕ
item_line item = join_with_byte 32 (item_words item) ++ codes "\n"

-- the text of items, line by line
abbrev pub text_of_items : List Item → List ℕ
text_of_items items = flat_map item_line items
