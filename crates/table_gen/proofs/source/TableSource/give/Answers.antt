use Rattle.std.proofs.Common.{◌≡◌, ◌∙◌, ◌≤◌, ◌+◌, length, take, drop, ℕ, sym, ap, arith, length-drop}
use Rattle.table_gen.specs.contracts.source.TableSource.{the_view}
use Rattle.table_gen.specs.Table.{line_of}
use Rattle.table_gen.proofs.Lines.{line_made, none_to_come, piece_given}
use Rattle.table_gen.proofs.source.TableSource.give.Goals as goal
use Rattle.table_gen.proofs.source.TableSource.give.Goals.{then-self-eq-LONGEST+then-self, else-self-eq-LONGEST, else-self-eq-LONGEST-via-then-self-eq-LONGEST+else-self, else-self-eq-LONGEST-via-else-self-eq-LONGEST}

-- a line that was made is one that was to come
same_bytes : (c : goal.After-self-2-1) → the_view c.if-self-eq-LONGEST.self-inside ≡ c.args.self.now
same_bytes c = elim c.if-self-eq-LONGEST.branch [
  | then-self-eq-LONGEST+then-self w ↦
      ap the_view w.self-inside-is
      ∙ line_made c.self.inside.start c.self.inside.groups c.self.inside.row c.self.inside.rows c.self.inside.at
      w.write_line-self-inside.result c.self.inside.line w.write_line-self-inside.new.line
      (omega arith) (omega arith) (w.write_line-self-inside.ensures.written ∙ ap (λ (key : ℕ). line_of key c.self.inside.row) w.key_of-key.ensures.key)
      ∙ c.self.view_is
  | else-self-eq-LONGEST w ↦ ap the_view w.self-inside-is ∙ c.self.view_is
]

-- a line is all given only where no row is left
none_but_last : (c : goal.After-self-2-1)
    → 42 ≤ c.if-self-eq-LONGEST.self-inside.at → c.if-self-eq-LONGEST.self-inside.rows ≤ c.if-self-eq-LONGEST.self-inside.row
none_but_last c = elim c.if-self-eq-LONGEST.branch [
  | then-self-eq-LONGEST+then-self w ↦ λ given. let at = ap (λ s. s.at) w.self-inside-is in absurd (omega arith)
  | else-self-eq-LONGEST w ↦ elim w.else-self-eq-LONGEST.branch [
    | else-self-eq-LONGEST-via-then-self-eq-LONGEST+else-self v ↦ λ given. rw w.self-inside-is v.if-self.false
    | else-self-eq-LONGEST-via-else-self-eq-LONGEST v ↦ λ given. let at = ap (λ s. s.at) w.self-inside-is in absurd (omega arith)
  ]
]

pub returns-clause-bytes : goal.returns-clause-bytes
returns-clause-bytes c =
    let s = c.if-self-eq-LONGEST.self-inside in
    let size : ℕ = c.min-size.result in
    let back : c.split_at.result.1.now ≡ drop s.at s.line = cc in
    let shown : c.copy_from_slice.new.self ≡ take size (drop s.at s.line) = cc in
    let counted = ap length back in
    let fits : size ≤ length (drop s.at s.line) = omega arith in
    sym (same_bytes c) ∙ piece_given s.line c.copy_from_slice.new.self _ _ s.at size shown fits

pub returns-clause-end : goal.returns-clause-end
returns-clause-end c = λ none.
    let s = c.if-self-eq-LONGEST.self-inside in
    let back : c.split_at.result.1.now ≡ drop s.at s.line = cc in
    let counted : length c.split_at.result.1.now ≡ length (drop s.at s.line) = ap length back in
    let counts = length-drop s.at s.line in
    let given : 42 ≤ s.at = omega arith in
    none_to_come s.start s.groups s.row s.rows (s.at + c.min-size.result) s.line (omega arith) (none_but_last c given)
