-- Jobs: pages whose bytes are stored or loaded outside the pool's value.
use Rattle.std.specs.Prelude.{◌≡◌, ◌⊎◌, Some, length}
use Rattle.std.specs.FinMap.{get}
use Rattle.block_arena.specs.Memory.{IsBufferOf}
use Rattle.pool_model.specs.Makers.{IsSession, IsWriter}
use Rattle.pool_model.specs.State.{Flying, Loading, State, page_at}
use Rattle.pin_core.specs.declared.jobs.WriteJob.{WriteJob}
use Rattle.pin_core.specs.Marking.{under_of}
use Rattle.pin_core.specs.declared.jobs.ReadJob.{ReadJob}

module _ {D : Type 0} where
  -- the job is that of a live page which its maker writes, with the page's buffer and slots
  pub record IsWriteJob (s : State) (job : WriteJob D) : Type 0 where
    pub lives : get s.pages job.id.name ≡ Some (page_at s job.id.name)
    pub key : (page_at s job.id.name).key ≡ job.id.key
    pub flies : (page_at s job.id.name).place ≡ Flying job.who
    pub client : (page_at s job.id.name).client ≡ job.client
    pub under : job.under ≡ under_of s.marked (page_at s job.id.name).version
    pub buffer : IsBufferOf (page_at s job.id.name).blocks s.block_len job.buf
    pub slots : length job.row ≡ (page_at s job.id.name).blocks
    pub maker : IsSession job.who ⊎ IsWriter job.who

  -- the job is that of a live page that is loaded, with the page's buffer and slots
  pub record IsReadJob (s : State) (job : ReadJob D) : Type 0 where
    pub lives : get s.pages job.id.name ≡ Some (page_at s job.id.name)
    pub key : (page_at s job.id.name).key ≡ job.id.key
    pub loads : (page_at s job.id.name).place ≡ Loading
    pub client : (page_at s job.id.name).client ≡ job.client
    pub under : job.under ≡ under_of s.marked (page_at s job.id.name).version
    pub buffer : IsBufferOf (page_at s job.id.name).blocks s.block_len job.buf
    pub slots : length job.row ≡ (page_at s job.id.name).blocks
