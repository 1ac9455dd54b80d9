use Rattle.std.proofs.Common.{◌≡◌, [], ◌∷◌, ◌++◌, sym, ap, ◌∙◌}
use Rattle.std.proofs.lemmas.Result.{on_ok_weaker}
use Rattle.people_table.specs.CutFields.{LineBegun}
use Rattle.people_table.specs.declared.fields.Place.TheVariants as place
use Rattle.people_table.proofs.CutLemmas.{begun, keeps_quoted, ends_at_start, ends_bare, ends_behind}
use Rattle.people_table.proofs.fields.CutLine.read_delimiter.Goals as goal

pub returns-in-Quoted : goal.returns-in-Quoted
returns-in-Quoted c = on_ok_weaker c.push.result (λ is.
    let v = c.self.view_is in
    let f : c.self.inside.fields.items ≡ c.args.self.now.fields = ap (λ (s : LineBegun). s.fields) v in
    let b : c.self.inside.bytes.items ≡ c.args.self.now.bytes = ap (λ (s : LineBegun). s.bytes) v in
    let p : c.args.self.now.place ≡ place.Quoted = sym (ap (λ (s : LineBegun). s.place) v) ∙ c.in-Quoted.is in
    let n : c.push.new.self ≡ begun c.args.self.now.fields (c.args.self.now.bytes ++ c.args.delimiter ∷ []) place.Quoted = cc in
    keeps_quoted c.args.delimiter c.args.delimiter c.args.self.now c.push.new.self p c.requires n) c.push.ensures

pub returns-in-Start : goal.returns-in-Start
returns-in-Start c = on_ok_weaker c.end_field.result (λ is.
    let v = c.self.view_is in
    let f : c.self.inside.fields.items ≡ c.args.self.now.fields = ap (λ (s : LineBegun). s.fields) v in
    let b : c.self.inside.bytes.items ≡ c.args.self.now.bytes = ap (λ (s : LineBegun). s.bytes) v in
    let p : c.args.self.now.place ≡ place.Start = sym (ap (λ (s : LineBegun). s.place) v) ∙ c.in-Start.is in
    let n : c.end_field.new.self ≡ begun (c.args.self.now.fields ++ c.args.self.now.bytes ∷ []) [] place.Start = cc in
    ends_at_start c.args.delimiter c.args.self.now c.end_field.new.self p c.requires n) c.end_field.ensures

pub returns-in-Bare : goal.returns-in-Bare
returns-in-Bare c = on_ok_weaker c.end_field-in-Bare.result (λ is.
    let v = c.self.view_is in
    let f : c.self.inside.fields.items ≡ c.args.self.now.fields = ap (λ (s : LineBegun). s.fields) v in
    let b : c.self.inside.bytes.items ≡ c.args.self.now.bytes = ap (λ (s : LineBegun). s.bytes) v in
    let p : c.args.self.now.place ≡ place.Bare = sym (ap (λ (s : LineBegun). s.place) v) ∙ c.in-Bare.is in
    let n : c.end_field-in-Bare.new.self ≡ begun (c.args.self.now.fields ++ c.args.self.now.bytes ∷ []) [] place.Start = cc in
    ends_bare c.args.delimiter c.args.self.now c.end_field-in-Bare.new.self p c.requires n) c.end_field-in-Bare.ensures

pub returns-in-Behind : goal.returns-in-Behind
returns-in-Behind c = on_ok_weaker c.end_field-in-Behind.result (λ is.
    let v = c.self.view_is in
    let f : c.self.inside.fields.items ≡ c.args.self.now.fields = ap (λ (s : LineBegun). s.fields) v in
    let b : c.self.inside.bytes.items ≡ c.args.self.now.bytes = ap (λ (s : LineBegun). s.bytes) v in
    let p : c.args.self.now.place ≡ place.Behind = sym (ap (λ (s : LineBegun). s.place) v) ∙ c.in-Behind.is in
    let n : c.end_field-in-Behind.new.self ≡ begun (c.args.self.now.fields ++ c.args.self.now.bytes ∷ []) [] place.Start = cc in
    ends_behind c.args.delimiter c.args.self.now c.end_field-in-Behind.new.self p c.requires n) c.end_field-in-Behind.ensures
