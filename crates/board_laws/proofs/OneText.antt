-- Boards that hold the same join to one text.
use Rattle.std.proofs.Common.{◌≡◌, ℕ, List, Some, ap, sym, subst, ◌∙◌, refl}
use Rattle.grouping_laws.specs.Problem.{Problem}
use Rattle.certificate_data.specs.Round.{Round}
use Rattle.certificate_data.specs.Tree.{Tree}
use Rattle.certificate_data.specs.TreeValue.{Certificate}
use Rattle.certificate_text.specs.Trees.{items_of_certificate}
use Rattle.certificate_text.specs.Spelling.{IsSpelling}
use Rattle.certificate_lines.specs.Spelling.{text_of_items}
use Rattle.board_laws.specs.Skeleton.{joined}
use Rattle.board_laws.specs.Content.{Content, IsContent, EventAndReply}
use Rattle.board_laws.proofs.Boards.{boards_keep}
use Rattle.board_laws.proofs.Same.{same_is_joined}
use Rattle.board_laws.specs.JoinedTexts.{IsReached, HoldTheSame, JoinsTo, JoinedTextsAreOne}

is_content : (p : Problem) (log : List EventAndReply) (b : Content) → IsReached p log b → IsContent p b
is_content p log b r =
    (boards_keep).over p r.depth r.first b log ((boards_keep).begins p r.depth r.first r.target r.tolerance r.order r.target_is r.fits r.begins) r.leads

same_tree : (p : Problem) (log more : List EventAndReply) (b c : Content) → IsReached p log b → IsReached p more c → HoldTheSame p b c → joined b.skeleton ≡ joined c.skeleton
same_tree p log more b c one other held = (same_is_joined).boards p b c (is_content p log b one) (is_content p more c other) held.round held.same

one_certificate : (r u : Round) (t v : Tree) → r ≡ u → Some t ≡ Some v → Path Certificate (record { round = r; tree = t }) (record { round = u; tree = v })
one_certificate r u t v e f = cc (e, f)

same_text : (p : Problem) (log more : List EventAndReply) (b c : Content) (text again : List ℕ) → IsReached p log b → IsReached p more c → HoldTheSame p b c
    → JoinsTo b text → JoinsTo c again → text ≡ again
same_text p log more b c text again one other held x y =
    let trees : Some x.tree ≡ Some y.tree = sym x.tree_is ∙ same_tree p log more b c one other held ∙ y.tree_is in
    x.spelled.text_is ∙ ap (λ z. text_of_items (items_of_certificate z)) (one_certificate b.round c.round x.tree y.tree held.round trees) ∙ sym y.spelled.text_is

joins_too : (p : Problem) (log more : List EventAndReply) (b c : Content) (text : List ℕ) → IsReached p log b → IsReached p more c → HoldTheSame p b c
    → JoinsTo b text → JoinsTo c text
joins_too p log more b c text one other held x = record {
  tree = x.tree;
  tree_is = sym (same_tree p log more b c one other held) ∙ x.tree_is;
  spelled = subst (IsSpelling text) (one_certificate b.round c.round x.tree x.tree held.round refl) x.spelled;
}

pub joined_texts_are_one : JoinedTextsAreOne
joined_texts_are_one = record { same = same_text; too = joins_too }
