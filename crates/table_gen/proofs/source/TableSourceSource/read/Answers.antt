use Rattle.std.proofs.Common.{◌∙◌, ◌≤◌, ◌++◌, length, take, ℕ, List, sym, ap}
use Rattle.std.proofs.lemmas.List.{append_assoc}
use Rattle.table_gen.proofs.Lines.{filled_fits, more_filled}
use Rattle.table_gen.proofs.source.TableSourceSource.read.Goals as goal

pub loop-filled-preserved : goal.loop-filled-preserved
loop-filled-preserved c =
    let s = c.loop-filled in
    let count : ℕ = c.give-count.result in
    let piece : List ℕ = c.give-count.new.buf in
    let inside : s.filled ≤ length s.buf = s.invariant.0 in
    let fits : count ≤ length piece = c.give-count.ensures.count in (
      filled_fits s.filled _ count s.buf piece inside fits,
      s.invariant.1
          ∙ ap (λ (xs : List ℕ). take s.filled s.buf ++ xs) c.give-count.ensures.bytes
          ∙ sym (append_assoc (take s.filled s.buf) (take count piece) c.give-count.new.self)
          ∙ ap (λ (xs : List ℕ). xs ++ c.give-count.new.self) (sym (more_filled s.filled _ count s.buf piece inside fits)),
    )
