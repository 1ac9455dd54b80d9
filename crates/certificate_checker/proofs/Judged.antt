-- A whole certificate, read and judged.
use Rattle.std.proofs.Common.{◌≡◌, ℕ, ◌+◌, ◌*◌, ◌≤◌, ◌<◌, List, [], ◌∷◌, ◌++◌, length, Option, Result, Ok, Err, sym, ◌∙◌, ap, subst, arith, append_assoc}
use Rattle.std.proofs.lemmas.List.{length-append}
use Rattle.grouping_laws.specs.Problem.{Problem}
use Rattle.county_codes.specs.declared.group.Grouping.{Grouping as GroupingHeld}
use Rattle.certificate_data.specs.Round.{Round}
use Rattle.certificate_data.specs.Tree.{Tree}
use Rattle.certificate_data.specs.RoundValue.{round_of, target_of}
use Rattle.certificate_data.specs.declared.round.Round.{Round as RoundHeld}
use Rattle.certificate_lines.specs.Fitting.{AllFit}
use Rattle.certificate_lines.specs.declared.item.Item.{Item}
use Rattle.certificate_lines.specs.declared.item.Wanted.TheVariants as want
use Rattle.certificate_lines.specs.declared.item.Item.TheVariants as item
use Rattle.certificate_data.specs.TreeValue.{Certificate}
use Rattle.certificate_text.specs.Trees.{items_of_head, items_of_target, items_of_tree, items_of_certificate}
use Rattle.checker_laws.specs.Lines.{tolerance_line, target_lines}
use Rattle.checker_laws.specs.Cost.{CertificateCosts}
use Rattle.checker_laws.proofs.Lengths.{head_length, target_length, certificate_length}
use Rattle.certificate_checker.specs.ReadableTrees.{IsReadable}
use Rattle.certificate_checker.specs.Feeding.{FeedValue, Fed}
use Rattle.certificate_checker.specs.Judging.{TookForm}
use Rattle.certificate_checker.specs.Certificates.{AreTaken, round_items, FirstLooks, IsRoundJudged, IsCertificateJudged}
use Rattle.certificate_checker.specs.declared.feed.Halt.{Halt}
use Rattle.certificate_checker.specs.declared.feed.Halt.TheVariants as stop
use Rattle.certificate_checker.proofs.ReadableTexts.{readable_of_fits}
use Rattle.certificate_checker.proofs.Taken.{form_taken}

-- the lines in front of a tree
round_lines : (c : Certificate) → length (round_items c) ≡ tolerance_line c.round.tolerance + 3 + target_lines c.round.target
round_lines c = omega (arith, target_length c.round.target, head_length c.round.format c.round.tolerance, length-append (items_of_head c.round.format c.round.tolerance) (item.Order c.round.order ∷ item.Limit c.round.limit ∷ items_of_target c.round.target))

-- the items of a certificate are those of its round and those behind
pub items_split : (c : Certificate) → items_of_certificate c ≡ round_items c ++ (items_of_tree c.tree ++ item.End ∷ [])
items_split c = sym (append_assoc (items_of_head c.round.format c.round.tolerance) (item.Order c.round.order ∷ item.Limit c.round.limit ∷ items_of_target c.round.target) (items_of_tree c.tree ++ item.End ∷ []))

-- the lines of a certificate
all_lines : (c : Certificate) → length (items_of_certificate c) ≡ length (round_items c) + (length (items_of_tree c.tree) + 1)
all_lines c = ap length (items_split c) ∙ length-append (round_items c) (items_of_tree c.tree ++ item.End ∷ []) ∙ ap (λ n. length (round_items c) + n) (length-append (items_of_tree c.tree) (item.End ∷ []))

-- as the round is judged whose tree is next
abbrev pub JudgesRound : Problem → Round → FeedValue → Result (Unit {0}) Halt → FeedValue → Type 0
JudgesRound p round old r new =
    (tree : Tree) (rest : List Item)
    → old.line ≡ tolerance_line round.tolerance + 3 + target_lines round.target
    → IsReadable round.format tree
    → old.reading.items ≡ items_of_tree tree ++ rest
    → IsRoundJudged p round tree rest old r new

module _ (p : Problem) (c : Certificate) (old : FeedValue) (none_used : old.used ≡ 0) where
  -- what is not enough for the lines and the sets is below the cost
  below_cost : ((n : ℕ) → FirstLooks p c.round c.tree n → old.limit ≤ length (items_of_certificate c) + 2 * n) → (cost : ℕ) → CertificateCosts p c.round c.tree cost → old.limit < cost
  below_cost enough cost costs = omega (arith, enough costs.0 costs.1, costs.2, certificate_length c)

  pub unread : {X : Type 0} (Gave : X → Type 0) (rest : List Item) (new : FeedValue) (s : Halt) → AreTaken Gave (round_items c) rest old (Err s) new → IsCertificateJudged p c old.limit (Err s)
  unread Gave rest new stop.Budget h = below_cost (λ n l. omega (arith, h, none_used, all_lines c))
  unread Gave rest new stop.Refused h = tt
  unread Gave rest new stop.Unspelled h = absurd h
  unread Gave rest new (stop.Text fault) h = absurd h
  unread Gave rest new (stop.Fault fault line) h = absurd h

  module _ (mid : FeedValue) (held : RoundHeld) (taken : AreTaken (λ (x : RoundHeld). round_of x ≡ c.round) (round_items c) (items_of_tree c.tree ++ item.End ∷ []) old (Ok held) mid) (fed : Fed old mid)
      (start : old.line ≡ 0) (fits : AllFit (want.Head ∷ []) (items_of_certificate c)) where
    same : round_of held ≡ c.round
    same = taken.0

    -- the tree behind the round is readable, and begins on the line that is next
    tree_judged : (r : Result (Unit {0}) Halt) (new : FeedValue) → JudgesRound p (round_of held) mid r new → IsRoundJudged p (round_of held) c.tree (item.End ∷ []) mid r new
    tree_judged r new judges =
        judges c.tree (item.End ∷ []) (omega (arith, taken.2, start, round_lines c, ap (λ x. tolerance_line x.tolerance) same, ap (λ x. target_lines x.target) same))
        (subst (λ x. IsReadable x.format c.tree) (sym same) (readable_of_fits c fits)) taken.1

    pub round_off : (new : FeedValue) (s : Halt) → JudgesRound p (round_of held) mid (Err s) new → IsCertificateJudged p c old.limit (Err s)
    round_off new s judges = by_stop s (subst (λ x. IsRoundJudged p x c.tree (item.End ∷ []) mid (Err s) new) same (tree_judged (Err s) new judges))
      where
        by_stop : (s : Halt) → IsRoundJudged p c.round c.tree (item.End ∷ []) mid (Err s) new → IsCertificateJudged p c old.limit (Err s)
        by_stop (stop.Fault fault line) h = h
        by_stop stop.Budget h = below_cost (λ n l. omega (arith, h n l, fed.limit, taken.3, none_used, all_lines c, ap length taken.1, length-append (items_of_tree c.tree) (item.End ∷ [])))
        by_stop stop.Refused h = tt
        by_stop stop.Unspelled h = absurd h
        by_stop (stop.Text fault) h = absurd h

    module _ (last : FeedValue) (judges : JudgesRound p (round_of held) mid (Ok tt) last) (later : Fed mid last) where
      judged : IsRoundJudged p (round_of held) c.tree (item.End ∷ []) mid (Ok tt) last
      judged = tree_judged (Ok tt) last judges

      pub end_off : (new : FeedValue) (s : Halt) → TookForm {Y = Unit {0}} (λ (u : Unit {0}). item.End) (λ u. u) last (Err s) new → IsCertificateJudged p c old.limit (Err s)
      end_off new s took = by_stop s (form_taken {Y = Unit {0}} (λ (u : Unit {0}). item.End) (λ u. u) tt [] last new (Err s) took (sym judged.0))
        where
          by_stop : (s : Halt) → AreTaken (λ (u : Unit {0}). item.End ≡ item.End) (item.End ∷ []) [] last (Err s) new → IsCertificateJudged p c old.limit (Err s)
          by_stop stop.Budget h =
              below_cost
              (λ n l.
              let looks = judged.2 n (subst (λ x. FirstLooks p x c.tree n) (sym same) l) in
              omega (arith, h, looks, fed.limit, later.limit, later.lines, ap length judged.0, taken.2, taken.3, none_used, all_lines c, ap length taken.1, length-append (items_of_tree c.tree) (item.End ∷ [])))
          by_stop stop.Refused h = tt
          by_stop stop.Unspelled h = absurd h
          by_stop (stop.Text fault) h = absurd h
          by_stop (stop.Fault fault line) h = absurd h

      pub certificate_done : (target : Option GroupingHeld) → target_of target ≡ (round_of held).target → IsCertificateJudged p c old.limit (Ok target)
      certificate_done target is = (is ∙ ap (λ x. x.target) same, (subst (λ x. IsRoundJudged p x c.tree (item.End ∷ []) mid (Ok tt) last) same judged).1)
