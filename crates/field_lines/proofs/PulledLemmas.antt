-- Bytes that are held in a buffer, and the first LF among them.
use Rattle.std.proofs.Common.{◌≡◌, ℕ, ◌+◌, ◌-◌, ◌<◌, ◌≤◌, false, List, ◌∷◌, ◌++◌, length, take, drop, get_or, Some, None, slice_range, sym, ap, ◌∙◌, append_assoc, arith, subst, length-take, length-drop, drop-drop, take_all, eqb-true}
use Rattle.std.proofs.Math.Seq.{take-add}
use Rattle.std.proofs.lemmas.List.{drop-take, take-append-le, take-append-drop, get_or-drop}
use Rattle.std.proofs.lemmas.List.Elements.{All-append}
use Rattle.memchr.specs.Find.{IsFirstByte, is_byte}
use Rattle.field_lines.specs.RawPieces.{is_lf}
use Rattle.field_lines.specs.Source.{Given}
use Rattle.field_lines.specs.HeldBytes.{Pulled, Pulls}
use Rattle.field_lines.specs.Front.{HasNoLf, HasLfAt}
use Rattle.field_lines.proofs.SplitLemmas.{none_below, at_found}

module _ (xs : List ℕ) (a e n : ℕ) (within : n ≤ length (slice_range xs a e)) where
  -- what is taken is put behind what was taken before
  pub taken_more : take (a + n) xs ≡ take a xs ++ take n (slice_range xs a e)
  taken_more =
      let front : take n (slice_range xs a e) ≡ take n (drop a xs) =
      sym (take-append-le n (take (e - a) (drop a xs)) (drop (e - a) (drop a xs)) within) ∙ ap (take n) (take-append-drop (e - a) (drop a xs)) in
      take-add a n xs ∙ ap (λ (r : List ℕ). take a xs ++ r) (sym front)

  pub held_less : slice_range xs (a + n) e ≡ drop n (slice_range xs a e)
  held_less =
      let whole : n + (e - (a + n)) ≡ e - a = omega (arith, within, length-take (e - a) (drop a xs)) in
      ap (take (e - (a + n))) (sym (drop-drop n a xs))
      ∙ sym (drop-take n (e - (a + n)) (drop a xs))
      ∙ ap (λ k. drop n (take k (drop a xs))) whole

module _ (xs ys : List ℕ) (s e n : ℕ) (ordered : s ≤ e) (same : take e ys ≡ take e xs) where
  held_same : slice_range ys s e ≡ slice_range xs s e
  held_same =
      let whole : s + (e - s) ≡ e = omega arith in
      sym (drop-take s (e - s) ys) ∙ ap (λ k. drop s (take k ys)) whole ∙ ap (drop s) same
      ∙ ap (λ k. drop s (take k xs)) (sym whole) ∙ drop-take s (e - s) xs

  -- what is pulled is put behind what is held
  pub held_more : slice_range ys s (e + n) ≡ slice_range xs s e ++ slice_range ys e (e + n)
  held_more =
      let count : e + n - s ≡ (e - s) + n = omega arith in
      let rest : e + n - e ≡ n = omega arith in
      let whole : s + (e - s) ≡ e = omega arith in
      ap (λ k. take k (drop s ys)) count
      ∙ take-add (e - s) n (drop s ys)
      ∙ ap (λ (l : List ℕ). l ++ take n (drop (e - s) (drop s ys))) held_same
      ∙ ap (λ (l : List ℕ). slice_range xs s e ++ take n l) (drop-drop (e - s) s ys ∙ ap (λ k. drop k ys) whole)
      ∙ ap (λ k. slice_range xs s e ++ take k (drop e ys)) (sym rest)

module _ (xs : List ℕ) (from : ℕ) (none : HasNoLf (take from xs)) where
  -- where no LF follows the place, there is none
  pub no_lf : IsFirstByte (is_byte 10) (drop from xs) None → HasNoLf xs
  no_lf absent =
      let later : HasNoLf (drop from xs) = subst HasNoLf (take_all (length (drop from xs)) (drop from xs) (omega arith)) (none_below 10 (drop from xs) (length (drop from xs)) (omega arith) absent) in
      subst HasNoLf (take-append-drop from xs) (All-append (λ b. is_lf b ≡ false) (take from xs) (drop from xs) none later)

  pub lf_found : (k : ℕ) → from ≤ length xs → IsFirstByte (is_byte 10) (drop from xs) (Some k) → HasLfAt xs (from + k)
  lf_found k le found =
      let high : k < length (drop from xs) = found.0.high in
      let within : from + k < length xs = omega (arith, high, length-drop from xs) in
      let before : HasNoLf (take (from + k) xs) = subst HasNoLf (sym (take-add from k xs)) (All-append (λ b. is_lf b ≡ false) (take from xs) (take k (drop from xs)) none (none_below 10 (drop from xs) k (omega arith) found.0.before)) in
      let lf : get_or xs (from + k) 0 ≡ 10 = sym (get_or-drop from xs k 0) ∙ eqb-true (get_or (drop from xs) k 0) 10 found.1 in
      record {
        within = within;
        before = before;
        parts = at_found 10 xs (from + k) within ∙ ap (λ (b : ℕ). take (from + k) xs ++ b ∷ drop (from + k + 1) xs) lf;
      }

-- one pull after another
pub pulls_then : {g h i : Given} {a b d : Pulled} → Pulls g h a b → Pulls h i b d → Pulls g i a d
pulls_then {g} {h} {i} {a} {b} {d} first next = record {
  pulled = first.pulled ++ next.pulled;
  given = next.given ∙ ap (λ (l : List ℕ). l ++ next.pulled) first.given ∙ append_assoc g.bytes first.pulled next.pulled;
  held = next.held ∙ ap (λ (l : List ℕ). l ++ next.pulled) first.held ∙ append_assoc a.bytes first.pulled next.pulled;
  end = λ is.
      let one = first.end is in
      let two = next.end one.1 in
      (ap (λ (l : List ℕ). l ++ next.pulled) one.0 ∙ two.0, two.1);
}
