-- How blocks lie in slots: bare, or behind a mark.
use Rattle.std.specs.Prelude.{ℕ, List, [], Bool, true, false, Option, Some, None}
use Rattle.reservation_tree.specs.Marks.{mark_bytes}
use Rattle.scratch_dev.specs.Rows.{mark_of}
use Rattle.pin_core.specs.declared.parts.Parts.{Parts}

-- the version under which blocks are stored, where they have marks
abbrev pub under_of : Bool → ℕ → Option ℕ
under_of true version = Some version
under_of false version = None

-- what stands in front of the i-th block of a page in its slot
abbrev pub front_of : Option ℕ → ℕ → ℕ → List ℕ
front_of None name i = []
front_of (Some version) name i = mark_bytes (mark_of name version i)

-- the length of a block, and whether stored blocks have marks
pub record Form : Type 0 where
  pub len : ℕ
  pub marked : Bool

abbrev pub form_of : {D : Type 0} → Parts D → Form
form_of v = record { len = v.arena.block_len; marked = v.marked }
