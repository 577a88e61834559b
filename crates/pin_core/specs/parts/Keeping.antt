-- What a page keeps of scratch, and how it gets slots.
use Rattle.std.specs.Prelude.{ℕ, Bool, true, false, List, [], take}
use Rattle.scratch_dev.specs.Pool.{Scratch, with_taken}
use Rattle.pin_core.specs.declared.kept.Kept.{Kept}
use Rattle.pin_core.specs.declared.kept.Kept.TheVariants.{Empty, Held, Out}

module _ {D : Type 0} where
  -- how many slots it needs
  abbrev pub need_of : Kept D → ℕ
  need_of (Empty shell) = shell
  need_of (Held row) = 0
  need_of Out = 0

  -- it has slots from now on
  abbrev pub kept_then : Scratch D → Kept D → Kept D
  kept_then s (Empty shell) = Held (take shell s.free)
  kept_then s (Held row) = Held row
  kept_then s Out = Out

  abbrev pub slots_then : ℕ → Kept D → Scratch D → Scratch D
  slots_then q (Empty shell) s = with_taken q shell s
  slots_then q (Held row) s = s
  slots_then q Out s = s

  -- whether the page has slots
  abbrev pub has_slots : Kept D → Bool
  has_slots (Empty shell) = false
  has_slots (Held row) = true
  has_slots Out = true

  -- the slots that it has
  abbrev pub row_in : Kept D → List D
  row_in (Held row) = row
  row_in _ = []
