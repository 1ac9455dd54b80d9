use Rattle.std.proofs.Common.{◌≡◌, ◌≢◌, ◌<◌, ◌≤◌, Bool, List, [], ◌∷◌, length, cond, codes, refl, true, false, arith, slice_index_or}
use Rattle.std.specs.Borrow.{Bor}
use Rattle.std.specs.Str.{bytes_eq}
use Rattle.std.proofs.lemmas.Slice.Eq.{bytes_eq-Decides}
use Rattle.clap.specs.Walk.{Text, texts}
use Rattle.cli_words.specs.Words.{words_read}
use Rattle.cli_words.proofs.words.words_read.Goals as goal

-- one word that isn't `help` is read as it is
one : (words : List (Bor Text)) (d : Bor Text) → 1 ≤ length words → length words < 2 → (slice_index_or words 0 d).now ≢ codes "help" → texts words ≡ words_read (texts words)
one [] d some few other = absurd (omega (arith, some))
one (word ∷ []) d some few other = go (bytes_eq word.now (codes "help")) refl
  where
    go : (b : Bool) → bytes_eq word.now (codes "help") ≡ b → word.now ∷ [] ≡ cond b (codes "--help" ∷ []) (word.now ∷ [])
    go true is = absurd (other ((bytes_eq-Decides word.now (codes "help")).0 is))
    go false is = refl
one (word ∷ next ∷ rest) d some few other = absurd (omega (arith, few))

pub returns-in_default-word : goal.returns-in_default-word
returns-in_default-word c = one c.args.words.now _ c.in-len1.len_at_least c.in-len1.len_below c.in_default-word.not-help
