-- What is spelled by a text.
use Rattle.std.specs.Prelude.{◌≡◌, ℕ, List, [], ◌∷◌}
use Rattle.certificate_data.specs.declared.format.Format.{Format}
use Rattle.certificate_lines.specs.declared.item.Wanted.TheVariants as want
use Rattle.certificate_lines.specs.Fitting.{AllFit}
use Rattle.certificate_lines.specs.Spelling.{text_of_items}
use Rattle.certificate_data.specs.Tree.{Tree}
use Rattle.certificate_data.specs.TreeValue.{Certificate}
use Rattle.certificate_text.specs.Trees.{items_of_tree, items_of_certificate}

-- the text is the certificate's items line by line, and each fits where it stands
pub record IsSpelling (text : List ℕ) (c : Certificate) : Type 0 where
  pub fits : AllFit (want.Head ∷ []) (items_of_certificate c)
  pub text_is : text ≡ text_of_items (items_of_certificate c)

-- the text is the items of a tree alone line by line, where branches may open `levels` levels, and each item fits
pub record IsTreeSpelling (format : Format) (levels : ℕ) (text : List ℕ) (t : Tree) : Type 0 where
  pub fits : AllFit (want.Tree format levels ∷ []) (items_of_tree t)
  pub text_is : text ≡ text_of_items (items_of_tree t)
