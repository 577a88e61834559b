-- What entries never change of a pool: the length of its blocks, how many it has, and whether stored blocks have marks.
use Rattle.std.proofs.Common.{◌≡◌, ℕ, List, [], ◌∷◌, ◌++◌, refl, ap, ◌∙◌}
use Rattle.pool_model.specs.declared.entry.Entry.{Entry}
use Rattle.pool_model.specs.Bytes.{bytes_of}
use Rattle.pool_model.specs.State.{State}
use Rattle.pool_model.specs.Sums.{memory}
use Rattle.pool_model.specs.Effects.{after}
use Rattle.pool_model.specs.Legal.{run}
use Rattle.pool_model.proofs.Frames.{entries_leave_rest}

pub run_on : (s : State) (a b : List Entry) → run s (a ++ b) ≡ run (run s a) b
run_on s [] b = refl
run_on s (e ∷ a) b = run_on (after s e) a b

pub run_len : (s : State) (es : List Entry) → (run s es).block_len ≡ s.block_len
run_len s [] = refl
run_len s (e ∷ es) = run_len (after s e) es ∙ (entries_leave_rest s e).block_len

pub run_blocks : (s : State) (es : List Entry) → (run s es).blocks ≡ s.blocks
run_blocks s [] = refl
run_blocks s (e ∷ es) = run_blocks (after s e) es ∙ (entries_leave_rest s e).blocks

-- and whether stored blocks have marks
pub run_marked : (s : State) (es : List Entry) → (run s es).marked ≡ s.marked
run_marked s [] = refl
run_marked s (e ∷ es) = run_marked (after s e) es ∙ (entries_leave_rest s e).marked

pub run_memory : (s : State) (es : List Entry) → memory (run s es) ≡ memory s
run_memory s es = ap (λ (len : ℕ). bytes_of len (run s es).blocks) (run_len s es) ∙ ap (bytes_of s.block_len) (run_blocks s es)
