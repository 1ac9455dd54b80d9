use Rattle.std.proofs.Common.{◌≡◌, ℕ, ◌+◌, ◌-◌, ◌≤◌, List, ◌++◌, take, drop, length, ap, ap₂, sym, ◌∙◌, arith, take-add, length-drop, add-zero}
use Rattle.cli_file_stores.specs.Memory.{ReaderValue}
use Rattle.cli_file_stores.proofs.MemoryLemmas.{behind}
use Rattle.cli_file_stores.proofs.memory_reader.MemoryReaderSource.pull.Goals as goal

pub invariant_of-self : goal.invariant_of-self
invariant_of-self c =
    let at = c.self.inside.at in
    let count = c.copy_front-count.result in
    let items = c.self.inside.bytes.items in
    let rest : c.split_at.result.1.now ≡ drop at items = c.split_at.ensures.back ∙ ap (drop at) c.deref.ensures.value in
    let few : count ≤ length (drop at items) = rw (← rest) c.copy_front-count.ensures.few in
    let size : length (drop at items) ≡ length items - at = length-drop at items in
    let copied : take count c.copy_front-count.new.buffer ≡ take count (drop at items) = c.copy_front-count.ensures.copied ∙ ap (take count) rest in
    (omega (arith, few, size, c.self.invariant.0), c.note.ensures ∙ ap₂ (λ (a b : List ℕ). a ++ b) c.self.invariant.1 copied ∙ sym (take-add at count items))

pub returns-clause-bytes : goal.returns-clause-bytes
returns-clause-bytes c =
    let at = c.self.inside.at in
    let count = c.copy_front-count.result in
    let items = c.self.inside.bytes.items in
    let rest : c.split_at.result.1.now ≡ drop at items = c.split_at.ensures.back ∙ ap (drop at) c.deref.ensures.value in
    let copied : take count c.copy_front-count.new.buffer ≡ take count (drop at items) = c.copy_front-count.ensures.copied ∙ ap (take count) rest in
    let at_is : c.args.self.now.at ≡ at = sym (ap (λ (v : ReaderValue). v.at) c.self.view_is) in
    let bytes_is : c.args.self.now.bytes ≡ items = sym (ap (λ (v : ReaderValue). v.bytes) c.self.view_is) in (
      rw (at_is, bytes_is, copied) (behind items at count),
      λ (none : count ≡ 0) room. ap (λ (n : ℕ). drop (at + n) items) none ∙ ap (λ (n : ℕ). drop n items) (add-zero at) ∙ sym rest ∙ c.copy_front-count.ensures.all none room,
    )
