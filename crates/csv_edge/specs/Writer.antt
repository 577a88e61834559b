-- What the writer of lines keeps.
use Rattle.std.specs.Prelude.{◌≡◌, ◌++◌, ℕ, List, false, true}
use Rattle.csv.specs.Writing.{default_writer, fields_written, has_written, with_flexible, writer_pending, writer_setup, writer_under}
use Rattle.csv.specs.declared.writer.Writer.{Writer}
use Rattle.csv.specs.declared.writer.WriterBuilder.{WriterBuilder}
use Rattle.std.specs.declared.vec.Vec.{Vec}
use Rattle.std.specs.declared.alloc.Global.{Global}

-- how lines are written: rows may be of any length
abbrev pub lines_setup : WriterBuilder
lines_setup = with_flexible default_writer true

-- the text so far
abbrev pub text_in : Writer (Vec ℕ Global) → List ℕ
text_in w = (writer_under w).items ++ writer_pending w

-- the writer stands between two records
pub record IsBetween (w : Writer (Vec ℕ Global)) : Type 0 where
  pub setup : writer_setup w ≡ lines_setup
  pub empty : fields_written w ≡ 0
  pub clean : has_written w ≡ false
