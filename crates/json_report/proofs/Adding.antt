-- What steps write one after the other, they write as one.
use Rattle.std.proofs.Common.{◌≡◌, ◌∙◌, ◌++◌, ◌∷◌, [], ℕ, List, Result, Ok, Err, OnOk, ap, sym, append_assoc}
use Rattle.json.specs.Token.{Token, begin_object}
use Rattle.json.specs.Written.{Written, Writes}

-- The steps to the last write these tokens. The lists are what stood before and the tokens, now and behind the last.
pub record Adding {E : Type 0} (r : Result (Unit {0}) E)
    (first : List ℕ) (old : List Token) (before : List ℕ) (new tokens : List Token) : Type 0 where
  pub adds : OnOk r ((before ≡ first) × (new ≡ old ++ tokens))

-- the last step
pub last : {E : Type 0} (r : Result (Unit {0}) E) {first before : List ℕ} {old new : List Token}
    (tokens : List Token) → OnOk r ((before ≡ first) × (new ≡ old ++ tokens)) → Adding r first old before new tokens
last r tokens h = record { adds = h }

pub last_token : {E : Type 0} (r : Result (Unit {0}) E) {old new : Written} {t : Token}
    → Writes r old new t → Adding r old.before old.tokens new.before new.tokens (t ∷ [])
last_token (Ok u) w = record { adds = (w.room.0, w.ok) }
last_token (Err e) w = record { adds = tt }

joined : {E : Type 0} (r : Result (Unit {0}) E) (first middle before : List ℕ) (old mid new tokens rest : List Token)
    → middle ≡ first → mid ≡ old ++ tokens
    → OnOk r ((before ≡ middle) × (new ≡ mid ++ rest))
    → OnOk r ((before ≡ first) × (new ≡ old ++ (tokens ++ rest)))
joined (Ok u) first middle before old mid new tokens rest e f a =
    (a.0 ∙ e, a.1 ∙ ap (λ (l : List Token). l ++ rest) f ∙ append_assoc old tokens rest)
joined (Err d) first middle before old mid new tokens rest e f a = tt

-- a step before the others
pub part : {E : Type 0} {r : Result (Unit {0}) E} {first middle before : List ℕ} {old mid new rest : List Token}
    (tokens : List Token) → (middle ≡ first) × (mid ≡ old ++ tokens)
    → Adding r middle mid before new rest → Adding r first old before new (tokens ++ rest)
part {r = r} {first} {middle} {before} {old} {mid} {new} {rest} tokens e a =
    record { adds = joined r first middle before old mid new tokens rest e.0 e.1 a.adds }

pub token : {D E : Type 0} {u : Unit {0}} {r : Result (Unit {0}) E} {old mid : Written} {t : Token}
    {before : List ℕ} {new rest : List Token} → Writes {E = D} (Ok u) old mid t
    → Adding r mid.before mid.tokens before new rest → Adding r old.before old.tokens before new (t ∷ rest)
token {t = t} w a = part (t ∷ []) (w.room.0, w.ok) a

-- a step that writes what is told of a value, by a value that is the same
pub part_of : {E X : Type 0} {r : Result (Unit {0}) E} {first middle before : List ℕ} {old mid new rest : List Token}
    (F : X → List Token) (x : X) {y : X} → y ≡ x → (middle ≡ first) × (mid ≡ old ++ F y)
    → Adding r middle mid before new rest → Adding r first old before new (F x ++ rest)
part_of {old = old} F x same e a = part (F x) (e.0, e.1 ∙ ap (λ y. old ++ F y) same) a

pub last_of : {E X : Type 0} (r : Result (Unit {0}) E) {first before : List ℕ} {old new : List Token}
    (F : X → List Token) (x : X) {y : X} → y ≡ x → OnOk r ((before ≡ first) × (new ≡ old ++ F y))
    → Adding r first old before new (F x)
last_of (Ok u) {old = old} F x same h = record { adds = (h.0, h.1 ∙ ap (λ y. old ++ F y) same) }
last_of (Err d) F x same h = record { adds = tt }

-- what was written in an object that was begun
pub within : {begun tokens members : List Token} → begun ≡ begin_object ∷ [] → tokens ≡ begun ++ members
    → tokens ≡ begin_object ∷ members
within {members = members} begun e = e ∙ ap (λ (l : List Token). l ++ members) begun

-- A loop that writes the tokens of one element after the other, where the tokens of what is left give the whole: one
-- element more
pub more : (old tokens rest : List Token) {mid whole left : List Token}
    → mid ≡ old ++ tokens → left ≡ tokens ++ rest → old ++ left ≡ whole → mid ++ rest ≡ whole
more old tokens rest e w inv =
    ap (λ (l : List Token). l ++ rest) e ∙ append_assoc old tokens rest
    ∙ ap (λ (l : List Token). old ++ l) (sym w) ∙ inv
