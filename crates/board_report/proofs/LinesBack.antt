-- The first lines of events are read as what they say.
use Rattle.std.proofs.Common.{◌≡◌, ℕ, ◌≤◌, [], ◌∷◌, codes, Ok, refl, arith, lit<}
use Rattle.std.specs.Fmt.{decimal}
use Rattle.certificate_lines.specs.Lines.{most}
use Rattle.county_codes.specs.Digits.{five_digits}
use Rattle.certificate_text.proofs.SpellLaws.{number_at_back, code_at_back}
use Rattle.certificate_text.proofs.TextBack.{named_word, code_word}
use Rattle.piece_states.proofs.LineWords.{IsRead, number_word, said}
use Rattle.board_report.specs.EventLines.{greatest, hand_on, result_on, split_on, part_on, better_on, wider_on, event_on}
use Rattle.board_report.specs.EventSpelling.{event_words, FitsLine}
use Rattle.board_report.specs.declared.event_line.EventLine.{EventLine}
use Rattle.board_report.specs.declared.event_line.EventLine.TheVariants.{Hand, Result as Proof, Split, Part, Better, Wider}

hand_back : (from : ℕ) → from ≤ greatest → event_on (event_words (Hand from)) ≡ Ok (Hand from)
unfolding event_on hand_on
hand_back from f = rw (number_at_back 0 greatest from [] (omega arith) f (lit< tt)) refl

result_back : (round piece : ℕ) → round ≤ greatest → piece ≤ greatest → event_on (event_words (Proof round piece)) ≡ Ok (Proof round piece)
unfolding event_on result_on
result_back round piece f g = rw (number_at_back 0 greatest round (decimal piece ∷ []) (omega arith) f (lit< tt), number_at_back 0 greatest piece [] (omega arith) g (lit< tt)) refl

split_back : (round piece county limit : ℕ) → round ≤ greatest → piece ≤ greatest → county ≤ 99999 → 1 ≤ limit → limit ≤ most → event_on (event_words (Split round piece county limit)) ≡ Ok (Split round piece county limit)
unfolding event_on split_on
split_back round piece county limit f g small low high =
    rw (number_at_back 0 greatest round (decimal piece ∷ five_digits county ∷ decimal limit ∷ []) (omega arith) f (lit< tt), number_at_back 0 greatest piece (five_digits county ∷ decimal limit ∷ []) (omega arith) g (lit< tt), code_at_back county (decimal limit ∷ []) small, number_at_back 1 most limit [] low high (lit< tt)) refl

part_back : (round piece : ℕ) → round ≤ greatest → piece ≤ greatest → event_on (event_words (Part round piece)) ≡ Ok (Part round piece)
unfolding event_on part_on
part_back round piece f g = rw (number_at_back 0 greatest round (decimal piece ∷ []) (omega arith) f (lit< tt), number_at_back 0 greatest piece [] (omega arith) g (lit< tt)) refl

better_back : (round groups : ℕ) → round ≤ greatest → groups ≤ most → event_on (event_words (Better round groups)) ≡ Ok (Better round groups)
unfolding event_on better_on
better_back round groups f g = rw (number_at_back 0 greatest round (decimal groups ∷ []) (omega arith) f (lit< tt), number_at_back 0 most groups [] (omega arith) g (lit< tt)) refl

wider_back : (round : ℕ) → round ≤ greatest → event_on (event_words (Wider round)) ≡ Ok (Wider round)
unfolding event_on wider_on
wider_back round f = rw (number_at_back 0 greatest round [] (omega arith) f (lit< tt)) refl

-- the line of what fits is read
pub event_back : (line : EventLine) → FitsLine line → IsRead event_on (event_words line) line
event_back (Hand from) f =
    said event_on (codes "hand") (decimal from ∷ []) (Hand from) (named_word (codes "hand") refl (omega arith) (omega arith)) (number_word from f, tt) (omega arith) (hand_back from f)
event_back (Proof round piece) f =
    said event_on (codes "result") (decimal round ∷ decimal piece ∷ []) (Proof round piece) (named_word (codes "result") refl (omega arith) (omega arith)) (number_word round f.0, (number_word piece f.1, tt)) (omega arith)
    (result_back round piece f.0 f.1)
event_back (Split round piece county limit) f =
    said event_on (codes "split") (decimal round ∷ decimal piece ∷ five_digits county ∷ decimal limit ∷ []) (Split round piece county limit) (named_word (codes "split") refl (omega arith) (omega arith))
    (number_word round f.0, (number_word piece f.1, (code_word county f.2, (number_word limit (omega (arith, f.4)), tt)))) (omega arith)
    (split_back round piece county limit f.0 f.1 f.2 f.3 f.4)
event_back (Part round piece) f =
    said event_on (codes "part") (decimal round ∷ decimal piece ∷ []) (Part round piece) (named_word (codes "part") refl (omega arith) (omega arith)) (number_word round f.0, (number_word piece f.1, tt)) (omega arith)
    (part_back round piece f.0 f.1)
event_back (Better round groups) f =
    said event_on (codes "better") (decimal round ∷ decimal groups ∷ []) (Better round groups) (named_word (codes "better") refl (omega arith) (omega arith)) (number_word round f.0, (number_word groups (omega (arith, f.1)), tt)) (omega arith)
    (better_back round groups f.0 f.1)
event_back (Wider round) f =
    said event_on (codes "wider") (decimal round ∷ []) (Wider round) (named_word (codes "wider") refl (omega arith) (omega arith)) (number_word round f, tt) (omega arith) (wider_back round f)
