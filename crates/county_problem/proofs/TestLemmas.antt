-- What a test gives, where it holds and where it doesn't.
use Rattle.std.proofs.Common.{◌≡◌, ◌≤◌, ◌<◌, ◌&&◌, ℕ, Bool, nat_le, ap, sym, ◌∙◌}
use Rattle.std.specs.Bool.{if◌then◌else◌}
use Rattle.std.proofs.lemmas.Bool.{le-leb, lt-leb}

pub first_where : {X : Type 0} (a b : ℕ) (x y : X) → a ≤ b → x ≡ (if nat_le a b then x else y)
first_where {X} a b x y within = ap (λ (t : Bool). if t then x else y) (sym (le-leb a b within))

pub second_where : {X : Type 0} (a b : ℕ) (x y : X) → b < a → y ≡ (if nat_le a b then x else y)
second_where {X} a b x y beyond = ap (λ (t : Bool). if t then x else y) (sym (lt-leb a b beyond))

pub both_where : (a b : ℕ) (test : Bool) → a ≤ b → test ≡ (nat_le a b && test)
both_where a b test within = ap (λ (t : Bool). t && test) (sym (le-leb a b within))

pub neither_where : (a b : ℕ) (test : Bool) → b < a → nat_le a b ≡ (nat_le a b && test)
neither_where a b test beyond = lt-leb a b beyond ∙ ap (λ (t : Bool). t && test) (sym (lt-leb a b beyond))
