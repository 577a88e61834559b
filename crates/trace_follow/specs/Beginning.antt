-- What a follower keeps before the first entry.
use Rattle.std.specs.Prelude.{◌≡◌, ◌*◌, [], None}
use Rattle.std.specs.FinMap.{insert, empty}
use Rattle.trace_follow.specs.declared.opened.Opened.{Opened}
use Rattle.trace_follow.specs.declared.follower.Follower.{Follower}

-- the root is there with all memory as its limit, and nothing else
pub record Begins (v : Follower) (opened : Opened) : Type 0 where
  pub block_len : v.block_len ≡ opened.block_len
  pub free : v.free ≡ opened.blocks * opened.block_len
  pub trackers : v.trackers ≡ insert empty 0 (record { parent = None; depth = 0; limit = opened.blocks * opened.block_len; reservation = 0 })
  pub unders : v.unders ≡ empty
  pub sessions : v.sessions ≡ empty
  pub asked : v.asked ≡ empty
  pub pages : v.pages ≡ empty
  pub buffers : v.buffers ≡ empty
  pub loads : v.loads ≡ empty
  pub lent : v.lent ≡ empty
  pub dirty : v.dirty ≡ empty
  pub clean : v.clean ≡ []
  pub stamps : v.stamps ≡ empty
  pub next_name : v.next_name ≡ opened.first_name
  pub entries : v.entries ≡ 0
