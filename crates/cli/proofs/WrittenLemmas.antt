-- What is written in front of an answer.
use Rattle.std.proofs.Common.{◌≡◌, ◌⊎◌, ◌∙◌, ◌++◌, ℕ, Bool, true, false, List, [], Option, Some, None, inl, inr, refl, sym, ap, subst, append_assoc}
use Rattle.std.specs.Option.{option_map}
use Rattle.std.specs.Io.KnownBytes.{Appends}
use Rattle.cli_answers.specs.Answer.{Answered}
use Rattle.written_output.specs.declared.written.Written.{Written}
use Rattle.written_output.specs.Writing.{IsWritten, IsFresh, kept_of}
use Rattle.run_laws.specs.Spoken.{behind}
use Rattle.cli.specs.Delivery.{Delivers}

-- what is kept of nothing is no text
kept_none : (kept : Option (List ℕ)) (text : List ℕ) → (kept ≡ None) ⊎ (kept ≡ Some []) → kept ≡ Some text → text ≡ []
kept_none kept text (inl none) is = cc
kept_none kept text (inr empty) is = cc

-- what is written while all is kept is written behind any run that has written nothing
module _ (old new : Option (List ℕ)) (was is : Bool) (fresh begun after : Written) (text : List ℕ) (f : IsFresh fresh) (kept : kept_of begun ≡ Some []) (uncut : begun.is_cut ≡ false) (h : IsWritten old new was is begun after text) where
  still : ((begun.is_cut ≡ true) × (is ≡ was)) ⊎ (is ≡ true) → ((fresh.is_cut ≡ true) × (is ≡ was)) ⊎ (is ≡ true)
  still (inl cut) = absurd (let now = cut.0 in cc)
  still (inr failed) = inr failed

  pub written_from_fresh : IsWritten old new was is fresh after text
  written_from_fresh = record {
    kept = λ held same. h.kept [] kept ∙ ap (λ (t : List ℕ). Some (t ++ text)) (sym (kept_none (kept_of fresh) held f.kept same));
    whole = λ whole. (f.uncut, (h.whole whole).1);
    cut = λ cut. still (h.cut cut);
  }

-- behind a write that failed, the status is 5
module _ (old new : Option (List ℕ)) (was is : Bool) (fresh after : Written) (front : List ℕ) (f : IsFresh fresh) (h : IsWritten old new was is fresh after front) where
  sink_failed : ((fresh.is_cut ≡ true) × (is ≡ was)) ⊎ (is ≡ true) → is ≡ true
  sink_failed (inl cut) = absurd (let now = cut.0 in let uncut = f.uncut in cc)
  sink_failed (inr failed) = failed

  pub delivers_cut : (a : Answered) → after.is_cut ≡ true → Delivers is old new a 5
  delivers_cut a cut = subst (λ (failed : Bool). Delivers failed old new a 5) (sym (sink_failed (h.cut cut))) refl

-- an answer is written behind a text
pub delivers_behind : (failed : Bool) (begun old new : Option (List ℕ)) (front : List ℕ) (a : Answered) (status : ℕ)
    → Appends begun old front → Delivers failed old new a status → Delivers failed begun new (behind front a) status
delivers_behind true begun old new front a status h d = d
delivers_behind false None old new front a status h d = (tt, d.1)
delivers_behind false (Some begun) None new front a status h d = absurd h
delivers_behind false (Some begun) (Some old) None front a status h d = absurd d.0
delivers_behind false (Some begun) (Some old) (Some new) front a status h d =
    (d.0 ∙ ap (λ (t : List ℕ). t ++ a.text) h ∙ append_assoc begun front a.text, d.1)

-- a record of a run that has written nothing and keeps nothing
pub fresh_of : (written : Written) → written.kept ≡ None → written.is_cut ≡ false → IsFresh written
fresh_of written none uncut = record { kept = inl (ap (λ k. option_map (λ v. v.items) k) none); uncut = uncut }
