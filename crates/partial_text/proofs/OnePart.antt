-- A text spells one partial tree at most, a partial tree has one text at most, and no text begins another.
use Rattle.std.proofs.Common.{◌≡◌, ℕ, List, [], ◌∷◌, ◌++◌, ap, sym, subst, ◌∙◌, append-nil}
use Rattle.certificate_data.specs.declared.format.Format.{Format}
use Rattle.certificate_lines.specs.declared.item.Wanted.TheVariants as want
use Rattle.certificate_text.proofs.OneSpelling.{same_items, read_from}
use Rattle.certificate_text.proofs.PrefixLaws.{no_prefix, one_begins}
use Rattle.board_laws.specs.PartialTrees.{PartialTree}
use Rattle.partial_text.specs.PartItems.{items_of_part}
use Rattle.partial_text.specs.Spelling.{IsPartSpelling}
use Rattle.partial_text.proofs.PartBack.{part_told}

module _ (format : Format) (levels : ℕ) where
  pub one_part_text : (t u : List ℕ) (part : PartialTree) → IsPartSpelling format levels t part → IsPartSpelling format levels u part → t ≡ u
  one_part_text t u part a b = a.text_is ∙ sym b.text_is

  pub one_part : (t : List ℕ) (a b : PartialTree) → IsPartSpelling format levels t a → IsPartSpelling format levels t b → a ≡ b
  one_part t a b f g = part_told a b f.opened g.opened (same_items (want.Part format levels ∷ []) t (items_of_part a) (items_of_part b) f.fits g.fits f.text_is g.text_is)

  pub no_part_begins : (t rest : List ℕ) (a b : PartialTree) → IsPartSpelling format levels t a → IsPartSpelling format levels (t ++ rest) b → rest ≡ []
  no_part_begins t rest a b f g =
      no_prefix (want.Part format levels ∷ []) 1 t rest (items_of_part a) (items_of_part b) (read_from (want.Part format levels ∷ []) t (items_of_part a) f.fits f.text_is) (read_from (want.Part format levels ∷ []) (t ++ rest) (items_of_part b) g.fits g.text_is)

  -- a text has one front at most that spells a partial tree
  pub one_front : (t x u y : List ℕ) (a b : PartialTree) → t ++ x ≡ u ++ y → IsPartSpelling format levels t a → IsPartSpelling format levels u b → t ≡ u
  one_front t x u y a b e f g =
      one_begins (t ≡ u) t x u y e (λ m h. sym (ends t u m a b f g h)) (λ m h. ends u t m b a g f h)
    where
      ends : (v w m : List ℕ) (c d : PartialTree) → IsPartSpelling format levels v c → IsPartSpelling format levels w d → w ≡ v ++ m → w ≡ v
      ends v w m c d k l h =
          let none : m ≡ [] = no_part_begins v m c d k (subst (λ (s : List ℕ). IsPartSpelling format levels s d) h l) in
          h ∙ ap (λ (s : List ℕ). v ++ s) none ∙ append-nil v
