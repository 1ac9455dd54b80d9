use Rattle.std.proofs.Common.{◌≡◌, ◌∙◌, ◌++◌, ℕ, List, Result, Ok, Err, OnOk, codes, ap, append_assoc}
use Rattle.grouping_report.specs.FaultWords.{with_number}
use Rattle.grouping_report.specs.FindingsText.{with_label}
use Rattle.grouping_report.proofs.findings.push_size.Goals as goal

on_ok : {X E : Type 0} (r : Result X E) (P Q : Type 0) → (P → Q) → OnOk r P → OnOk r Q
on_ok (Ok x) P Q f h = f h
on_ok (Err e) P Q f h = h

pub returns : goal.returns
returns c =
    let old = c.args.out.now.items in
    let front = with_label (codes "DistrictSize ") c.args.label.now in
    let back = with_number (codes " people ") c.args.people in
    let mid = c.push_words_label.new.out.items in
    let new = c.push_words_number.new.out.items in
    let one : mid ≡ old ++ front = c.in_ok-push_words_label.ensures in
    on_ok c.push_words_number.result (new ≡ mid ++ back) (new ≡ old ++ (front ++ back)) (λ e. e ∙ ap (λ (l : List ℕ). l ++ back) one ∙ append_assoc old front back) c.push_words_number.ensures
