-- A certificate is read part by part.
use Rattle.std.proofs.Common.{◌≡◌, ℕ, List, [], ◌∷◌, ◌++◌, length, Option, Ok, Err, refl, ap, sym, subst, ◌∙◌, append_assoc, append-nil}
use Rattle.county_codes.specs.declared.tolerance.Tolerance.{Tolerance}
use Rattle.grouping_laws.specs.Grouping.{Grouping}
use Rattle.certificate_lines.specs.Lines as line
use Rattle.certificate_lines.specs.Items.{by_words, items_in_front, certificate_items}
use Rattle.certificate_lines.specs.Rest.{Rest, lines_of, IsTextMemory, TakesTextLine, FaultOf}
use Rattle.certificate_lines.specs.Reading.{items_at, ReadsItems, Refuses}
use Rattle.certificate_text.specs.Trees.{items_of_head, items_of_target}
use Rattle.certificate_lines.proofs.ReadLaws.{reads_then, reads_with, reads_refuse, reads_line, refuses_line}
use Rattle.certificate_lines.specs.declared.fault.TextFault.{TextFault}
use Rattle.certificate_data.specs.declared.format.Format.{Format}
use Rattle.certificate_lines.specs.declared.item.Item.{Item}
use Rattle.certificate_lines.specs.declared.item.Item.TheVariants as item
use Rattle.certificate_lines.specs.declared.item.Wanted.{Wanted}
use Rattle.certificate_lines.specs.declared.item.Wanted.TheVariants as want

pub refuses_with : (a more : List Wanted) (x : Rest) (fault : TextFault) → Refuses a x fault → Refuses (a ++ more) x fault
refuses_with a more x fault h mem later = ap (λ (w : List Wanted). items_at w x) (append_assoc a more later) ∙ h mem (more ++ later)

-- a fault of the lines from the first on is the text's
pub refused : (text : List ℕ) (start : Rest) → start ≡ record { number = 1; text = text } → (fault : TextFault) → Refuses (want.Head ∷ []) start fault → (IsTextMemory fault → ⊥) → certificate_items text ≡ Err fault
refused text start is fault h mem = ap (items_at (want.Head ∷ [])) (sym is) ∙ h mem []

module _ (text : List ℕ) (start a b c : Rest) (is : start ≡ record { number = 1; text = text }) (format : Format) (tolerance : Option Tolerance) (cs : List ℕ) (limit : ℕ)
    (head : ReadsItems (want.Head ∷ []) start (items_of_head format tolerance) (want.Order format ∷ []) a) (order : TakesTextLine (by_words line.order_on) cs a b) (limited : TakesTextLine (by_words line.limit_on) limit b c) where
  abbrev after_limit : List Wanted
  after_limit = want.Target ∷ want.Tree format (length cs) ∷ want.End ∷ []

  abbrev head_items : List Item
  head_items = (items_of_head format tolerance ++ item.Order cs ∷ []) ++ item.Limit limit ∷ []

  head_read : ReadsItems (want.Head ∷ []) start head_items after_limit c
  head_read =
      reads_then (want.Head ∷ []) (want.Limit ∷ after_limit) after_limit start b c (items_of_head format tolerance ++ item.Order cs ∷ []) (item.Limit limit ∷ [])
      (reads_then (want.Head ∷ []) (want.Order format ∷ []) (want.Limit ∷ after_limit) start a b (items_of_head format tolerance) (item.Order cs ∷ []) head
      (reads_line (want.Order format) (by_words line.order_on) item.Order (λ piece. refl) cs a b order))
      (reads_with (want.Limit ∷ []) [] after_limit b c (item.Limit limit ∷ []) (reads_line want.Limit (by_words line.limit_on) item.Limit (λ piece. refl) limit b c limited))

  pub target_fault : (fault : TextFault) → Refuses (want.Target ∷ []) c fault → (IsTextMemory fault → ⊥) → certificate_items text ≡ Err fault
  target_fault fault h = refused text start is fault (reads_refuse (want.Head ∷ []) after_limit start c head_items fault head_read (λ mem more. h mem (want.Tree format (length cs) ∷ want.End ∷ more)))

  module _ (target : Option Grouping) (d : Rest) (targeted : ReadsItems (want.Target ∷ []) c (items_of_target target) [] d) where
    target_read : ReadsItems (want.Head ∷ []) start (head_items ++ items_of_target target) (want.Tree format (length cs) ∷ want.End ∷ []) d
    target_read =
        reads_then (want.Head ∷ []) after_limit (want.Tree format (length cs) ∷ want.End ∷ []) start c d head_items (items_of_target target) head_read
        (reads_with (want.Target ∷ []) [] (want.Tree format (length cs) ∷ want.End ∷ []) c d (items_of_target target) targeted)

    pub tree_fault : (levels : ℕ) → levels ≡ length cs → (fault : TextFault) → Refuses (want.Tree format levels ∷ []) d fault → (IsTextMemory fault → ⊥) → certificate_items text ≡ Err fault
    tree_fault levels same fault h =
        refused text start is fault (reads_refuse (want.Head ∷ []) (want.Tree format (length cs) ∷ want.End ∷ []) start d (head_items ++ items_of_target target) fault target_read
        (λ mem more. ap (λ (k : ℕ). items_at (want.Tree format k ∷ want.End ∷ more) d) (sym same) ∙ h mem (want.End ∷ more)))

    module _ (levels : ℕ) (same : levels ≡ length cs) (items : List Item) (e : Rest) (tree : ReadsItems (want.Tree format levels ∷ []) d items [] e) where
      tree_read : ReadsItems (want.Head ∷ []) start ((head_items ++ items_of_target target) ++ items) (want.End ∷ []) e
      tree_read =
          reads_then (want.Head ∷ []) (want.Tree format (length cs) ∷ want.End ∷ []) (want.End ∷ []) start d e (head_items ++ items_of_target target) items target_read
          (subst (λ (k : ℕ). ReadsItems (want.Tree format k ∷ want.End ∷ []) d items (want.End ∷ []) e) same (reads_with (want.Tree format levels ∷ []) [] (want.End ∷ []) d e items tree))

      pub end_fault : (fault : TextFault) → ((IsTextMemory fault → ⊥) → FaultOf (by_words line.end_on) e.number (lines_of e) fault) → (IsTextMemory fault → ⊥) → certificate_items text ≡ Err fault
      end_fault fault h =
          refused text start is fault (reads_refuse (want.Head ∷ []) (want.End ∷ []) start e ((head_items ++ items_of_target target) ++ items) fault tree_read
          (refuses_line want.End (by_words line.end_on) (λ _. item.End) (λ piece. refl) e fault h))

      module _ (f : Rest) (ended : TakesTextLine (by_words line.end_on) tt e f) where
        end_read : ReadsItems (want.Head ∷ []) start (((head_items ++ items_of_target target) ++ items) ++ item.End ∷ []) [] f
        end_read =
            reads_then (want.Head ∷ []) (want.End ∷ []) [] start e f ((head_items ++ items_of_target target) ++ items) (item.End ∷ []) tree_read
            (reads_line want.End (by_words line.end_on) (λ _. item.End) (λ piece. refl) tt e f ended)

        pub after_fault : (fault : TextFault) → items_at [] f ≡ Err fault → certificate_items text ≡ Err fault
        after_fault fault h = ap (items_at (want.Head ∷ [])) (sym is) ∙ end_read.gives [] ∙ ap (items_in_front (((head_items ++ items_of_target target) ++ items) ++ item.End ∷ [])) h

        pub certificate_read : items_at [] f ≡ Ok [] → certificate_items text ≡ Ok ((((head_items ++ items_of_target target) ++ items) ++ item.End ∷ []) ++ [])
        certificate_read h = ap (items_at (want.Head ∷ [])) (sym is) ∙ end_read.gives [] ∙ ap (items_in_front (((head_items ++ items_of_target target) ++ items) ++ item.End ∷ [])) h

-- the parts of a certificate, as they are read and as they stand
pub parts_in_turn : (head : List Item) (order limit : Item) (target tree : List Item)
    → ((((((head ++ order ∷ []) ++ limit ∷ []) ++ target) ++ tree) ++ item.End ∷ []) ++ []) ≡ head ++ (order ∷ limit ∷ (target ++ (tree ++ item.End ∷ [])))
parts_in_turn head order limit target tree =
    append-nil (((((head ++ order ∷ []) ++ limit ∷ []) ++ target) ++ tree) ++ item.End ∷ [])
    ∙ append_assoc ((((head ++ order ∷ []) ++ limit ∷ []) ++ target)) tree (item.End ∷ [])
    ∙ append_assoc ((head ++ order ∷ []) ++ limit ∷ []) target (tree ++ item.End ∷ [])
    ∙ append_assoc (head ++ order ∷ []) (limit ∷ []) (target ++ (tree ++ item.End ∷ []))
    ∙ append_assoc head (order ∷ []) (limit ∷ (target ++ (tree ++ item.End ∷ [])))
