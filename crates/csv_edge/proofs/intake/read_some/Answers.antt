use Rattle.std.proofs.Common.{◌≡◌, ℕ, ◌+◌, ◌-◌, ◌≤◌, List, ◌++◌, rules, arith, length, take, slice_range, sym, ap, ◌∙◌, subst, le_refl, drop, drop_at, length-take-le}
use Rattle.std.proofs.lemmas.Slice.{take-put_mid_below}
use Rattle.std.specs.Io.KnownBytes.{Consumes}
use Rattle.std.proofs.KnownBytes.{Consumes-trans}
use borrow.Rule.Slice.PartMut.{put_mid, post_of}
use lib.Seq.{take-add, take-append-le}
use Rattle.csv_edge.proofs.intake.read_some.Goals as goal

-- the first bytes of a part that was written stand behind those before it
take_split : (a n : ℕ) (old new : List ℕ) → take a new ≡ take a old → take a old ++ slice_range new a (a + n) ≡ take (a + n) new
take_split a n old new front =
    let same : (a + n) - a ≡ n = omega arith in
    ap (λ l. l ++ slice_range new a (a + n)) (sym front) ∙ ap (λ m. take a new ++ take m (drop a new)) same ∙ sym (take-add a n new)

part_front : (a k n : ℕ) (xs ys : List ℕ) → a ≤ length xs → n ≤ length ys → slice_range (put_mid a k xs ys) a (a + n) ≡ take n ys
part_front a k n xs ys within fits =
    let same : (a + n) - a ≡ n = omega arith in
    let after = post_of a k xs in
    ap (take ((a + n) - a)) (drop_at (take a xs) (ys ++ after) a (length-take-le a xs within)) ∙ ap (λ m. take m (ys ++ after)) same ∙ take-append-le n ys after fits

pub loop-end-preserved : goal.loop-end-preserved
loop-end-preserved g c =
    let from = c.loop-end.end in
    let room = length c.loop-end.buffer - from in
    let within = c.loop-end.invariant.0 in
    let part = part_front from room c.in_ok-count.count c.loop-end.buffer c.read.new.buf within c.in_ok-count.ensures.count in
    let joined = take_split from c.in_ok-count.count c.loop-end.buffer (put_mid from room c.loop-end.buffer c.read.new.buf) (take-put_mid_below _ _ _ _ _ (le_refl _) within) in (
      search rules,
      subst (Consumes _ _) (ap (λ l. take from c.loop-end.buffer ++ l) (sym part) ∙ joined) (Consumes-trans _ _ _ _ _ c.loop-end.invariant.1 c.in_ok-count.ensures.bytes.0),
      search rules,
      search rules,
    )
