-- A text spells one value at most, a value has one text at most, and no text begins another.
use Rattle.std.proofs.Common.{◌≡◌, ℕ, List, [], ◌∷◌, ◌++◌, length, map, Option, Some, None, Result, Ok, refl, ap, sym, subst, ◌∙◌, append-nil}
use Rattle.field_lines.specs.RawPieces.{raw_lines_from}
use Rattle.county_codes.specs.declared.group.Group.{Group}
use Rattle.county_codes.specs.declared.tolerance.Tolerance.{Tolerance}
use Rattle.grouping_laws.specs.Grouping.{Grouping}
use Rattle.certificate_data.specs.Tree.{Tree}
use Rattle.certificate_data.specs.declared.format.Format.{Format}
use Rattle.certificate_lines.specs.Items.{items_from}
use Rattle.certificate_lines.specs.Spelling.{text_of_items}
use Rattle.certificate_lines.specs.Fitting.{AllFit}
use Rattle.certificate_text.specs.Spelling.{IsSpelling, IsTreeSpelling}
use Rattle.certificate_data.specs.TreeValue.{Certificate}
use Rattle.certificate_text.specs.Trees.{items_of_head, items_of_tree, items_of_target, items_of_certificate}
use Rattle.certificate_lines.specs.declared.fault.TextFault.{TextFault}
use Rattle.certificate_lines.specs.declared.item.Item.{Item}
use Rattle.certificate_lines.specs.declared.item.Item.TheVariants as item
use Rattle.certificate_lines.specs.declared.item.Wanted.{Wanted}
use Rattle.certificate_lines.specs.declared.item.Wanted.TheVariants as want
use Rattle.certificate_text.proofs.TextBack.{items_back}
use Rattle.certificate_text.proofs.TreeLaws.{heads, tree_back}
use Rattle.certificate_text.proofs.PrefixLaws.{no_prefix, one_begins}

groups_back : (gs hs : List Group) (xs ys : List Item) → length gs ≡ length hs → map item.Grouped gs ++ xs ≡ map item.Grouped hs ++ ys → (gs ≡ hs) × (xs ≡ ys)
groups_back [] [] xs ys e h = (refl, h)
groups_back [] (b ∷ hs) xs ys e h = cc
groups_back (a ∷ gs) [] xs ys e h = cc
groups_back (a ∷ gs) (b ∷ hs) xs ys e h =
    let first = heads (item.Grouped a) (item.Grouped b) (map item.Grouped gs ++ xs) (map item.Grouped hs ++ ys) h in
    let long : length gs ≡ length hs = cc in
    let later = groups_back gs hs xs ys long first.1 in
    let same : a ≡ b = cc (first.0) in
    (cc (same, later.0), later.1)

target_back : (t u : Option Grouping) (xs ys : List Item) → items_of_target t ++ xs ≡ items_of_target u ++ ys → (t ≡ u) × (xs ≡ ys)
target_back None None xs ys h = (refl, (heads _ _ _ _ h).1)
target_back None (Some hs) xs ys h = cc ((heads _ _ _ _ h).0)
target_back (Some gs) None xs ys h = cc ((heads _ _ _ _ h).0)
target_back (Some gs) (Some hs) xs ys h =
    let first = heads _ _ _ _ h in
    let long : length gs ≡ length hs = cc (first.0) in
    let groups = groups_back gs hs xs ys long first.1 in
    (ap (λ (g : Grouping). Some g) groups.0, groups.1)

head_back : (l m : Format) (w v : Option Tolerance) (xs ys : List Item) → items_of_head l w ++ xs ≡ items_of_head m v ++ ys → (l ≡ m) × (w ≡ v) × (xs ≡ ys)
head_back l m None None xs ys h = (cc ((heads _ _ _ _ h).0), refl, (heads _ _ _ _ h).1)
head_back l m None (Some v) xs ys h = cc ((heads _ _ _ _ h).0)
head_back l m (Some w) None xs ys h = cc ((heads _ _ _ _ h).0)
head_back l m (Some w) (Some v) xs ys h =
    let first = heads _ _ _ _ h in
    let second = heads _ _ _ _ first.1 in
    let format : l ≡ m = cc (first.0) in
    let tolerance : w ≡ v = cc (second.0) in
    (format, ap (λ (x : Tolerance). Some x) tolerance, second.1)

made : Format → Option Tolerance → List ℕ → ℕ → Option Grouping → Tree → Certificate
made format tolerance order limit target tree = record { round = record { order = order; limit = limit; target = target; format = format; tolerance = tolerance }; tree = tree }

made_same : (l m : Format) (w v : Option Tolerance) (o p : List ℕ) (j k : ℕ) (g h : Option Grouping) (t u : Tree) → l ≡ m → w ≡ v → o ≡ p → j ≡ k → g ≡ h → t ≡ u → made l w o j g t ≡ made m v p k h u
made_same l m w v o p j k g h t u a f b c d e =
    ap (λ (x : Format). made x w o j g t) a ∙ ap (λ (x : Option Tolerance). made m x o j g t) f ∙ ap (λ (x : List ℕ). made m v x j g t) b ∙ ap (λ (x : ℕ). made m v p x g t) c ∙ ap (λ (x : Option Grouping). made m v p k x t) d
    ∙ ap (λ (x : Tree). made m v p k h x) e

-- a certificate is told from its items
pub certificate_back : (c d : Certificate) → items_of_certificate c ≡ items_of_certificate d → c ≡ d
unfolding made
certificate_back c d h =
    let head = head_back c.round.format d.round.format c.round.tolerance d.round.tolerance _ _ h in
    let order = heads _ _ _ _ head.2 in
    let limit = heads _ _ _ _ order.1 in
    let target = target_back c.round.target d.round.target (items_of_tree c.tree ++ item.End ∷ []) (items_of_tree d.tree ++ item.End ∷ []) limit.1 in
    let tree = tree_back c.tree d.tree (item.End ∷ []) (item.End ∷ []) target.1 in
    let order_is : c.round.order ≡ d.round.order = cc (order.0) in
    let limit_is : c.round.limit ≡ d.round.limit = cc (limit.0) in
    made_same c.round.format d.round.format c.round.tolerance d.round.tolerance c.round.order d.round.order c.round.limit d.round.limit c.round.target d.round.target c.tree d.tree head.0 head.1 order_is limit_is target.0 tree.0

pub tree_told : (t u : Tree) → items_of_tree t ≡ items_of_tree u → t ≡ u
tree_told t u h = (tree_back t u [] [] (append-nil (items_of_tree t) ∙ h ∙ sym (append-nil (items_of_tree u)))).0

-- items that fit and have the same text are the same
pub same_items : (wanted : List Wanted) (text : List ℕ) (is js : List Item) → AllFit wanted is → AllFit wanted js → text ≡ text_of_items is → text ≡ text_of_items js → is ≡ js
same_items wanted text is js f g e h =
    let both : Ok is ≡ Ok js = sym (items_back wanted 1 is f) ∙ ap (λ (t : List ℕ). items_from wanted 1 (raw_lines_from 1 t)) (sym e ∙ h) ∙ items_back wanted 1 js g in
    ok_same is js both
  where
    ok_same : (xs ys : List Item) → ◌≡◌ {A = Result (List Item) TextFault} (Ok xs) (Ok ys) → xs ≡ ys
    ok_same xs ys e = cc

pub read_from : (wanted : List Wanted) (text : List ℕ) (is : List Item) → AllFit wanted is → text ≡ text_of_items is → items_from wanted 1 (raw_lines_from 1 text) ≡ Ok is
read_from wanted text is f e = ap (λ (t : List ℕ). items_from wanted 1 (raw_lines_from 1 t)) e ∙ items_back wanted 1 is f

pub one_text : (t u : List ℕ) (c : Certificate) → IsSpelling t c → IsSpelling u c → t ≡ u
one_text t u c a b = a.text_is ∙ sym b.text_is

pub one_value : (t : List ℕ) (c d : Certificate) → IsSpelling t c → IsSpelling t d → c ≡ d
one_value t c d a b = certificate_back c d (same_items (want.Head ∷ []) t (items_of_certificate c) (items_of_certificate d) a.fits b.fits a.text_is b.text_is)

pub none_begins : (t rest : List ℕ) (c d : Certificate) → IsSpelling t c → IsSpelling (t ++ rest) d → rest ≡ []
none_begins t rest c d a b =
    no_prefix (want.Head ∷ []) 1 t rest (items_of_certificate c) (items_of_certificate d) (read_from (want.Head ∷ []) t (items_of_certificate c) a.fits a.text_is) (read_from (want.Head ∷ []) (t ++ rest) (items_of_certificate d) b.fits b.text_is)

module _ (format : Format) (levels : ℕ) where
  pub one_tree_text : (t u : List ℕ) (tree : Tree) → IsTreeSpelling format levels t tree → IsTreeSpelling format levels u tree → t ≡ u
  one_tree_text t u tree a b = a.text_is ∙ sym b.text_is

  pub one_tree : (t : List ℕ) (a b : Tree) → IsTreeSpelling format levels t a → IsTreeSpelling format levels t b → a ≡ b
  one_tree t a b f g = tree_told a b (same_items (want.Tree format levels ∷ []) t (items_of_tree a) (items_of_tree b) f.fits g.fits f.text_is g.text_is)

  pub no_tree_begins : (t rest : List ℕ) (a b : Tree) → IsTreeSpelling format levels t a → IsTreeSpelling format levels (t ++ rest) b → rest ≡ []
  no_tree_begins t rest a b f g =
      no_prefix (want.Tree format levels ∷ []) 1 t rest (items_of_tree a) (items_of_tree b) (read_from (want.Tree format levels ∷ []) t (items_of_tree a) f.fits f.text_is) (read_from (want.Tree format levels ∷ []) (t ++ rest) (items_of_tree b) g.fits g.text_is)

  -- a text has one front at most that spells a tree
  pub one_front : (t x u y : List ℕ) (a b : Tree) → t ++ x ≡ u ++ y → IsTreeSpelling format levels t a → IsTreeSpelling format levels u b → t ≡ u
  one_front t x u y a b e f g =
      one_begins (t ≡ u) t x u y e (λ m h. sym (ends t u m a b f g h)) (λ m h. ends u t m b a g f h)
    where
      ends : (v w m : List ℕ) (c d : Tree) → IsTreeSpelling format levels v c → IsTreeSpelling format levels w d → w ≡ v ++ m → w ≡ v
      ends v w m c d k l h =
          let none : m ≡ [] = no_tree_begins v m c d k (subst (λ (s : List ℕ). IsTreeSpelling format levels s d) h l) in
          h ∙ ap (λ (s : List ℕ). v ++ s) none ∙ append-nil v
