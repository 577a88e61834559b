-- A buffer comes or goes, and what was counted and asked before is as it was.
use Rattle.std.proofs.Common.{◌≡◌, ℕ, ap, ◌∙◌, option_map}
use Rattle.std.specs.FinMap.{get}
use Rattle.trace_follow.specs.declared.rows.Asked.{Asked}
use Rattle.trace_follow.specs.declared.rows.PageRow.{PageRow}
use Rattle.trace_follow.specs.declared.rows.BufferRow.{BufferRow}
use Rattle.trace_follow.specs.declared.follower.Follower.{Follower}
use Rattle.trace_follow.specs.Ending.{EndsPage, AddsBuffer, EndsBuffer}
use Rattle.trace_follow.proofs.Standing.{SameReads}

module _ (old new : Follower) (f : ℕ) (row : BufferRow) where
  pub added_entries : AddsBuffer old new f row → new.entries ≡ old.entries
  added_entries adds = ap (λ (u : Follower). u.entries) adds.is

  pub added_reads : AddsBuffer old new f row → SameReads old.asked new.asked
  added_reads adds maker = ap (λ (u : Follower). option_map (λ (x : Asked). x.reads) (get u.asked maker)) adds.is

  pub ended_entries : EndsBuffer old new f row → new.entries ≡ old.entries
  ended_entries ends = ap (λ (u : Follower). u.entries) ends.is

  pub ended_reads : EndsBuffer old new f row → SameReads old.asked new.asked
  ended_reads ends maker = ap (λ (u : Follower). option_map (λ (x : Asked). x.reads) (get u.asked maker)) ends.is

-- and after one and another
pub then_entries : (old mid new : Follower) → new.entries ≡ mid.entries → mid.entries ≡ old.entries → new.entries ≡ old.entries
then_entries old mid new second first = second ∙ first

pub then_reads : (old mid new : Follower) → SameReads mid.asked new.asked → SameReads old.asked mid.asked → SameReads old.asked new.asked
then_reads old mid new second first maker = second maker ∙ first maker

module _ (old new : Follower) (p : ℕ) (row : PageRow) where
  pub page_entries : EndsPage old new p row → new.entries ≡ old.entries
  page_entries ends = ap (λ (u : Follower). u.entries) ends.is

  pub page_reads : EndsPage old new p row → SameReads old.asked new.asked
  page_reads ends maker = ap (λ (u : Follower). option_map (λ (x : Asked). x.reads) (get u.asked maker)) ends.is
