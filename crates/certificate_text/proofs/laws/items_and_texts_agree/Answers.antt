use Rattle.field_lines.specs.RawPieces.{raw_lines_from}
use Rattle.certificate_text.proofs.TextBack.{items_back}
use Rattle.certificate_lines.proofs.FitsLaws.{items_fit}
use Rattle.certificate_lines.proofs.TextLaws.{text_ok}
use Rattle.certificate_text.proofs.laws.items_and_texts_agree.Goals as goal

pub returns : goal.returns
returns c = record { back = items_back; only = λ wanted n text items h. items_fit wanted n (raw_lines_from n text) items h; text = text_ok }
