-- Where no piece waits, the pieces join.
use Rattle.std.proofs.Common.{◌≡◌, ℕ, List, [], ◌∷◌, ◌++◌, length, codes, Vec, Global, refl, sym, ap, ◌∙◌, subst, inl, Option, Some, None, option_map}
use Rattle.grouping_laws.specs.Problem.{Problem}
use Rattle.grouping_laws.proofs.Elements.{Has, has_from_contains, contains_from_has}
use Rattle.certificate_data.specs.Round.{Round}
use Rattle.certificate_data.specs.Tree.{Tree}
use Rattle.certificate_data.specs.TreeValue.{Certificate}
use Rattle.certificate_text.specs.Spelling.{IsSpelling}
use Rattle.board_laws.specs.Skeleton.{Skeleton, joined, waiting}
use Rattle.board_laws.specs.Content.{Content, IsContent}
use Rattle.board_laws.proofs.Boards.{boards_keep}
use Rattle.board_laws.proofs.Joining.{skeletons_join}
use Rattle.share_board.specs.OpenPieces.{AreOpen}
use Rattle.certificate_data.specs.declared.format.Format.{Format}
use Rattle.board_report.specs.BoardOutcome.{IsJoinedText, AreJoined, IsEnded, left_lines, board_end_lines}
use Rattle.board_report.specs.declared.board_outcome.Shared.{Shared}

none_waits : (skeleton : Skeleton) → AreOpen skeleton [] → waiting skeleton ≡ []
none_waits skeleton are = go (waiting skeleton) (λ n h. has_from_contains [] n ((are.each n).1 (contains_from_has (waiting skeleton) n h)))
  where
    go : (xs : List ℕ) → ((n : ℕ) → Has xs n → ⊥) → xs ≡ []
    go [] f = refl
    go (x ∷ xs) f = absurd (f x (inl refl))

joins : (skeleton : Skeleton) → AreOpen skeleton [] → joined skeleton ≡ None → ⊥
joins skeleton are none = let r = (skeletons_join).whole skeleton (none_waits skeleton are) in let e : None ≡ Some r.0 = sym none ∙ r.1 in absurd (cc)

waits : (skeleton : Skeleton) (n : ℕ) (found : List ℕ) (tree : Tree) → AreOpen skeleton (n ∷ found) → joined skeleton ≡ Some tree → ⊥
waits skeleton n found tree are some =
    let none = (skeletons_join).waits skeleton n ((are.each n).0 (contains_from_has (n ∷ found) n (inl refl))) in
    let e : None ≡ Some tree = sym none ∙ some in absurd (cc)

pub are_joined : (p : Problem) (b : Content) (found text : List ℕ) → AreOpen b.skeleton found → IsJoinedText p b text → AreJoined p b found (Some text)
are_joined p b [] text are is = is
are_joined p b (n ∷ found) text are is = absurd (waits b.skeleton n found is.tree are is.joins)

pub are_left : (p : Problem) (b : Content) (found : List ℕ) → AreOpen b.skeleton found → joined b.skeleton ≡ None → AreJoined p b found None
are_left p b [] are none = absurd (joins b.skeleton are none)
are_left p b (n ∷ found) are none = none

pub joined_end : (b : Content) (found : List ℕ) (tree : Tree) → AreOpen b.skeleton found → joined b.skeleton ≡ Some tree → board_end_lines b found ≡ board_end_lines b []
joined_end b [] tree are some = refl
joined_end b (n ∷ found) tree are some = absurd (waits b.skeleton n found tree are some)

pub left_end : (b : Content) (found : List ℕ) → AreOpen b.skeleton found → joined b.skeleton ≡ None → board_end_lines b found ≡ left_lines b.round.format b.number found
left_end b [] are none = absurd (joins b.skeleton are none)
left_end b (n ∷ found) are none = refl

abbrev made : Round → Tree → Certificate
made round tree = record { round = round; tree = tree }

pub none_joined : (round : Round) (j : Option Tree) → None ≡ option_map (λ tree. made round tree) j → j ≡ None
none_joined round None e = refl
none_joined round (Some tree) e = absurd (cc)

some_joined : (round : Round) (c : Certificate) (j : Option Tree) → Some c ≡ option_map (λ tree. made round tree) j → (tree : Tree) × (j ≡ Some tree) × (c ≡ made round tree)
some_joined round c None e = absurd (cc)
some_joined round c (Some tree) e = (tree, refl, cc)

-- the text of the certificate that the pieces join to
pub text_joined : (p : Problem) (b : Content) (c : Certificate) (text : List ℕ) → IsContent p b → Some c ≡ option_map (λ tree. made b.round tree) (joined b.skeleton) → IsSpelling text c → IsJoinedText p b text
text_joined p b c text content e spelled =
    let r = some_joined b.round c (joined b.skeleton) e in
    record {
      tree = r.0;
      joins = r.1;
      certifies = (boards_keep).certifies p b r.0 content r.1;
      spells = subst (IsSpelling text) r.2 spelled;
      target = content.target;
      target_is = content.target_is;
      best = (boards_keep).best p b r.0 content.target content r.1 content.target_is;
    }

-- how the board stands, where its pieces join
pub ended_joined : (p : Problem) (b : Content) (found start : List ℕ) (s : Shared) (c : Certificate) (lines : Vec ℕ Global) → IsContent p b → AreOpen b.skeleton found → s.left ≡ length found → s.text.items ≡ start ++ codes "joined\n" → s.certificate ≡ Some lines
    → Some c ≡ option_map (λ tree. made b.round tree) (joined b.skeleton) → IsSpelling lines.items c → IsEnded p b start s
ended_joined p b found start s c lines content are left text certificate e spelled =
    let j = text_joined p b c lines.items content e spelled in
    record {
      found = found;
      found_are = are;
      left = left;
      text = text ∙ ap (λ z. start ++ z) (sym (joined_end b found j.tree are j.joins));
      certificate = subst (λ (z : Option (Vec ℕ Global)). AreJoined p b found (option_map (λ t. t.items) z)) (sym certificate) (are_joined p b found lines.items are j);
    }

-- and where one waits
pub ended_left : (p : Problem) (b : Content) (found start : List ℕ) (s : Shared) (format : Format) (number : ℕ) → AreOpen b.skeleton found → s.left ≡ length found → format ≡ b.round.format → number ≡ b.number → s.text.items ≡ start ++ left_lines format number found → s.certificate ≡ None
    → None ≡ option_map (λ tree. made b.round tree) (joined b.skeleton) → IsEnded p b start s
ended_left p b found start s format number are left format_is number_is text certificate e =
    let none = none_joined b.round (joined b.skeleton) e in
    record {
      found = found;
      found_are = are;
      left = left;
      text =
          text
          ∙ ap (λ z. start ++ left_lines z number found) format_is
          ∙ ap (λ z. start ++ left_lines b.round.format z found) number_is
          ∙ ap (λ z. start ++ z) (sym (left_end b found are none));
      certificate = subst (λ (z : Option (Vec ℕ Global)). AreJoined p b found (option_map (λ t. t.items) z)) (sym certificate) (are_left p b found are none);
    }
