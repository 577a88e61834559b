-- A report that is watched: what is known of its bytes.
use Rattle.std.proofs.Common.{◌<◌, ℕ, List, Option, Some, None, length, refl, sym, subst, arith}
use Rattle.std.specs.Io.KnownBytes.{Keeps}
use Rattle.spill_top.specs.Report.{Lengthens, LongerTold, StillTold}

pub still_keeps : (old new : Option (List ℕ)) → StillTold old new → Keeps old new
still_keeps None new still = tt
still_keeps (Some xs) new still = subst (Keeps (Some xs)) (sym (still xs refl)) refl

pub longer_lengthens : (old new : Option (List ℕ)) → LongerTold old new → Lengthens old new
longer_lengthens None new longer = tt
longer_lengthens (Some xs) None longer = let more : length xs < 0 = longer xs refl in absurd (omega (arith, more))
longer_lengthens (Some xs) (Some ys) longer = longer xs refl
