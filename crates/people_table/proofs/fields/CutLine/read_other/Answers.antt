use Rattle.std.proofs.Common.{◌≡◌, [], ◌∷◌, ◌++◌, sym, ap, ◌∙◌}
use Rattle.std.proofs.lemmas.Result.{on_ok_weaker}
use Rattle.people_table.specs.CutFields.{LineBegun}
use Rattle.people_table.specs.declared.fields.Place.TheVariants as place
use Rattle.people_table.proofs.CutLemmas.{begun, keeps_at_start, keeps_bare}
use Rattle.people_table.proofs.fields.CutLine.read_other.Goals as goal

pub returns-in-Start : goal.returns-in-Start
returns-in-Start c = on_ok_weaker c.push-in-Start.result (λ is.
    let v = c.self.view_is in
    let f : c.self.inside.fields.items ≡ c.args.self.now.fields = ap (λ (s : LineBegun). s.fields) v in
    let b : c.self.inside.bytes.items ≡ c.args.self.now.bytes = ap (λ (s : LineBegun). s.bytes) v in
    let p : c.args.self.now.place ≡ place.Start = sym (ap (λ (s : LineBegun). s.place) v) ∙ c.in-Start.is in
    let n : c.push-in-Start.new.self ≡ begun c.args.self.now.fields (c.args.self.now.bytes ++ c.args.byte ∷ []) place.Bare = cc in
    keeps_at_start c.args.byte c.args.self.now c.push-in-Start.new.self p c.requires n) c.push-in-Start.ensures

pub returns-in-Bare : goal.returns-in-Bare
returns-in-Bare c = on_ok_weaker c.push-in-Bare.result (λ is.
    let v = c.self.view_is in
    let f : c.self.inside.fields.items ≡ c.args.self.now.fields = ap (λ (s : LineBegun). s.fields) v in
    let b : c.self.inside.bytes.items ≡ c.args.self.now.bytes = ap (λ (s : LineBegun). s.bytes) v in
    let p : c.args.self.now.place ≡ place.Bare = sym (ap (λ (s : LineBegun). s.place) v) ∙ c.in-Bare.is in
    let n : c.push-in-Bare.new.self ≡ begun c.args.self.now.fields (c.args.self.now.bytes ++ c.args.byte ∷ []) place.Bare = cc in
    keeps_bare c.args.byte c.args.self.now c.push-in-Bare.new.self p c.requires n) c.push-in-Bare.ensures
