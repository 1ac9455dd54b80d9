-- Texts that are written one after the other.
use Rattle.std.proofs.Common.{◌≡◌, ◌⊎◌, ℕ, Bool, true, List, [], ◌++◌, Option, Some, None, inl, inr, refl, sym, ap, ◌∙◌, append_assoc, append-nil}
use Rattle.std.specs.Io.KnownBytes.{Appends}
use Rattle.written_output.specs.declared.written.Written.{Written}
use Rattle.written_output.specs.Writing.{IsWritten}

appends_none : (held : Option (List ℕ)) → Appends held held []
appends_none None = tt
appends_none (Some bytes) = sym (append-nil bytes)

appends_both : (old mid new : Option (List ℕ)) (first next : List ℕ) → Appends old mid first → Appends mid new next → Appends old new (first ++ next)
appends_both None mid new first next a b = tt
appends_both (Some old) None new first next a b = absurd a
appends_both (Some old) (Some mid) None first next a b = absurd b
appends_both (Some old) (Some mid) (Some new) first next a b = b ∙ ap (λ (t : List ℕ). t ++ next) a ∙ append_assoc old first next

-- nothing was written
pub written_none : (held : Option (List ℕ)) (is_failed : Bool) (written : Written) → IsWritten held held is_failed is_failed written written []
written_none held is_failed written = record {
  kept = λ old is. is ∙ ap (λ (t : List ℕ). Some t) (sym (append-nil old));
  whole = λ uncut. (uncut, appends_none held);
  cut = λ is. inl (is, refl);
}

-- one text was written, and then another
module _ (old mid new : Option (List ℕ)) (was between is : Bool) (before then after : Written) (first next : List ℕ) (a : IsWritten old mid was between before then first) (b : IsWritten mid new between is then after next) where
  still : is ≡ between → ((before.is_cut ≡ true) × (between ≡ was)) ⊎ (between ≡ true) → ((before.is_cut ≡ true) × (is ≡ was)) ⊎ (is ≡ true)
  still same (inl cut) = inl (cut.0, same ∙ cut.1)
  still same (inr failed) = inr (same ∙ failed)

  both_cut : ((then.is_cut ≡ true) × (is ≡ between)) ⊎ (is ≡ true) → ((before.is_cut ≡ true) × (is ≡ was)) ⊎ (is ≡ true)
  both_cut (inl cut) = still cut.1 (a.cut cut.0)
  both_cut (inr failed) = inr failed

  pub written_both : IsWritten old new was is before after (first ++ next)
  written_both = record {
    kept = λ kept held. b.kept (kept ++ first) (a.kept kept held) ∙ ap (λ (t : List ℕ). Some t) (append_assoc kept first next);
    whole = λ uncut.
        let last = b.whole uncut in
        let one = a.whole last.0 in
        (one.0, appends_both old mid new first next one.1 last.1);
    cut = λ cut. both_cut (b.cut cut);
  }
