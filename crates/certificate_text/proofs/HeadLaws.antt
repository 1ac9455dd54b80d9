-- The first lines are read: the head, and the tolerance if one is named.
use Rattle.std.proofs.Common.{◌≡◌, [], ◌∷◌, Some, None, refl, subst}
use Rattle.county_codes.specs.declared.tolerance.Tolerance.{Tolerance}
use Rattle.certificate_lines.specs.Lines as line
use Rattle.certificate_lines.specs.Items.{by_words, head_in, headed, wanted_after}
use Rattle.certificate_lines.specs.Rest.{Rest, TakesTextLine}
use Rattle.certificate_lines.specs.Reading.{ReadsItems}
use Rattle.certificate_lines.proofs.ReadLaws.{reads_then, reads_line}
use Rattle.certificate_data.specs.declared.format.Format.{Format}
use Rattle.certificate_lines.specs.declared.item.Version.{Version}
use Rattle.certificate_lines.specs.declared.item.Version.TheVariants.{One, Two}
use Rattle.certificate_lines.specs.declared.item.Item.TheVariants as item
use Rattle.certificate_lines.specs.declared.item.Wanted.TheVariants as want
use Rattle.certificate_text.specs.Trees.{items_of_head}

module _ (old mid : Rest) (format : Format) (version : Version) (head : TakesTextLine (λ p. head_in p.bytes p.ended) (format, version) old mid) where
  head_read : (v : Version) → version ≡ v → ReadsItems (want.Head ∷ []) old (item.Head format v ∷ []) (wanted_after want.Head (item.Head format v)) mid
  head_read v is =
      subst (λ (u : Version). ReadsItems (want.Head ∷ []) old (item.Head format u ∷ []) (wanted_after want.Head (item.Head format u)) mid) is
      (reads_line want.Head (λ p. head_in p.bytes p.ended) headed (λ piece. refl) (format, version) old mid head)

  -- a head alone
  pub bare_read : version ≡ One → ReadsItems (want.Head ∷ []) old (items_of_head format None) (want.Order format ∷ []) mid
  bare_read is = head_read One is

  -- a head, and the line of the tolerance
  pub tolerance_read : version ≡ Two → (w : Tolerance) (new : Rest) → TakesTextLine (by_words line.tolerance_on) w mid new → ReadsItems (want.Head ∷ []) old (items_of_head format (Some w)) (want.Order format ∷ []) new
  tolerance_read is w new taken =
      reads_then (want.Head ∷ []) (want.Tolerance format ∷ []) (want.Order format ∷ []) old mid new (item.Head format Two ∷ []) (item.Within w ∷ []) (head_read Two is)
      (reads_line (want.Tolerance format) (by_words line.tolerance_on) item.Within (λ piece. refl) w mid new taken)
