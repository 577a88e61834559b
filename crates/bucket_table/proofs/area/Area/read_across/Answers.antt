use Rattle.std.proofs.Common.{◌≡◌, ◌≤◌, ◌+◌, ◌-◌, length, ap, ◌∙◌, arith}
use Rattle.bucket_table.proofs.Cuts.{copied_more, copied_len}
use Rattle.bucket_table.proofs.area.Area.read_across.Goals as goal

pub loop-done-preserved : goal.loop-done-preserved
loop-done-preserved c =
    let inv = c.loop-done.invariant in
    let out = c.loop-done.out in
    let done = c.loop-done.done in
    let front = c.front-front in
    let n = length front.result.now in
    let inside : done + n ≤ length out = omega (arith, inv.within, inv.same, front.ensures.most, c.loop-done-test.true) in
    let width : done + n - done ≡ n = omega arith in
    let copy = c.copy_from_slice.ensures.after in
    let long : length c.copy_from_slice.new.self ≡ n = ap length copy in
    let size = copied_len out c.copy_from_slice.new.self done n (done + n - done) width long inside in
    record {
      within = omega (arith, size, inside);
      same = size ∙ inv.same;
      read = copied_more out c.copy_from_slice.new.self c.args.self.now.bytes c.args.at done n (done + n - done) inv.within width long inv.read (copy ∙ front.ensures.value);
    }
