use Rattle.std.proofs.Common.{◌≡◌, ◌∙◌, ◌≤◌, ◌+◌, ◌-◌, length, take, drop, ℕ, List, sym, ap, arith, length-drop}
use Rattle.std.proofs.Math.ListN.{drop_of_length-le}
use Rattle.outside.proofs.Pieces.{front_shown, drop_more}
use Rattle.outside.proofs.memory.source.MemSourceSource.read.Goals as goal

pub returns-clause-bytes : goal.returns-clause-bytes
returns-clause-bytes c =
    let items : List ℕ = c.self.inside.bytes.items in
    let at : ℕ = c.self.inside.at in
    let size : ℕ = c.min-size.result in
    let back : c.split_at.result.1.now ≡ drop at items = cc in
    let shown : c.copy_from_slice.new.self ≡ take size (drop at items) = cc in
    let counted : length c.split_at.result.1.now ≡ length (drop at items) = ap length back in
    let fits : size ≤ length (drop at items) = omega arith in
    let left : drop at items ≡ c.args.self.now.left = ap (λ s. s.left) c.self.view_is in (
      sym left ∙ rw (drop_more at size items) (front_shown (drop at items) c.copy_from_slice.new.self _ size shown fits),
      λ none some.
          let counts : length (drop at items) ≡ length items - at = length-drop at items in
          let all : length items ≤ at + size = omega arith in
          drop_of_length-le items all,
    )
