-- What a call that opens a pool leaves.
use Rattle.std.proofs.Common.{◌==◌, ◌≡◌, ℕ, ◌+◌, ◌<◌, ◌≤◌, false, List, [], ◌∷◌, length, replicate, None, refl, ap, sym, ◌∙◌, subst, inl, inr, arith, eqb, ne_eqb}
use Rattle.std.specs.List.{sum_by, list_any}
use Rattle.std.proofs.lemmas.Bool.{cases_lt, false≢true}
use Rattle.outside.specs.declared.slot.Slot.{Ghosts}
use Rattle.block_arena.specs.Blocks.{IsBlockLen}
use Rattle.scratch_dev.specs.Pool.{Scratch, IsCounted}
use Rattle.client_lists.specs.Clients as clients
use Rattle.clean_evict.specs.Cleans as cleans
use Rattle.buffer_transfer.specs.Buffers as book
use Rattle.page_table.specs.Pages as table
use Rattle.reservation_tree.specs.Tree as trees
use Rattle.session_table.specs.Seats.{vacant}
use Rattle.pool_model.specs.Bytes.{bytes_of}
use Rattle.pool_model.specs.State.{Opening}
use Rattle.pin_core.specs.declared.conf.PoolConf.{PoolConf}
use Rattle.pin_core.specs.declared.parts.Parts.{Parts}
use Rattle.pin_core.specs.Invariant.{IsKept}
use Rattle.pin_core.specs.Standing.{StandsFor, slots_home}
use Rattle.pin_core.specs.calls.Setup.{OpensWith, IsOpeningOf}
use Rattle.pin_core.proofs.Opens.{start, opens_kept, opens_standing, opens_slots, opens_spare}

short_block : (n : ℕ) → IsBlockLen n → (0 < n) × (n ≤ 65536)
short_block n is = elim (cases_lt 0 n) [
  | inl some ↦ elim (cases_lt 65536 n) [
    | inl long ↦ absurd (false≢true (sym (none_equal n long) ∙ is))
    | inr short ↦ (some, short)
  ]
  | inr none ↦ absurd (let zero_is : n ≡ 0 = omega (arith, none) in false≢true (ap (λ (k : ℕ). list_any (λ len. eqb len k) (64 ∷ 128 ∷ 256 ∷ 512 ∷ 1024 ∷ 2048 ∷ 4096 ∷ 8192 ∷ 16384 ∷ 32768 ∷ 65536 ∷ [])) (sym zero_is) ∙ is))
]
  where
    none_equal : (n : ℕ) → 65536 < n → list_any (λ len. eqb len n) (64 ∷ 128 ∷ 256 ∷ 512 ∷ 1024 ∷ 2048 ∷ 4096 ∷ 8192 ∷ 16384 ∷ 32768 ∷ 65536 ∷ []) ≡ false
    none_equal n long =
        rw (
          ne_eqb 64 n (λ e. omega (arith, e, long)),
          ne_eqb 128 n (λ e. omega (arith, e, long)),
          ne_eqb 256 n (λ e. omega (arith, e, long)),
          ne_eqb 512 n (λ e. omega (arith, e, long)),
          ne_eqb 1024 n (λ e. omega (arith, e, long)),
          ne_eqb 2048 n (λ e. omega (arith, e, long)),
          ne_eqb 4096 n (λ e. omega (arith, e, long)),
          ne_eqb 8192 n (λ e. omega (arith, e, long)),
          ne_eqb 16384 n (λ e. omega (arith, e, long)),
          ne_eqb 32768 n (λ e. omega (arith, e, long)),
          ne_eqb 65536 n (λ e. omega (arith, e, long)),
        ) refl

-- the parts that a call of open put together
module _ {D : Type 0} (conf : PoolConf) (opens : OpensWith conf) (items : List D) (count : ℕ) (parts : Parts D)
    (tree : parts.tree ≡ trees.opened (bytes_of conf.block_len conf.blocks)) (pages : parts.pages ≡ table.opened (conf.blocks + count) conf.first_name) (lists : parts.lists ≡ clients.fresh 4096 (conf.blocks + count))
    (clean : parts.clean ≡ cleans.empty (conf.blocks + count)) (arena : parts.arena ≡ record { block_len = conf.block_len; blocks = conf.blocks; free = conf.blocks })
    (buffers : parts.buffers ≡ book.opened conf.blocks) (seats : parts.seats ≡ vacant) (slots : parts.slots ≡ record { free = items; quotas = replicate 240 None; spare = count })
    (block_len : parts.block_len ≡ conf.block_len) (marked : parts.marked ≡ (conf.profile == 2)) (entries : parts.entries ≡ 0) (counted : IsCounted parts.slots) where
  parts_are : start conf.block_len conf.blocks conf.first_name (conf.blocks + count) (conf.profile == 2) items count ≡ parts
  parts_are = sym (λ i. record {
    block_len = block_len i;
    marked = marked i;
    tree = tree i;
    pages = pages i;
    lists = lists i;
    clean = clean i;
    arena = arena i;
    slots = slots i;
    buffers = buffers i;
    seats = seats i;
    entries = entries i;
  })

  counts : length items ≡ count
  counts = opens_spare conf.block_len conf.blocks conf.first_name (conf.blocks + count) (conf.profile == 2) items count (subst (λ (s : Scratch D). IsCounted s) slots counted)

  pub all_kept : IsKept parts
  all_kept =
      let short = short_block conf.block_len opens.block_len in
      subst IsKept parts_are (opens_kept conf.block_len conf.blocks conf.first_name (conf.blocks + count) (conf.profile == 2) items count short.0 short.1 opens.memory (let n = counts in omega (arith, n)))

  pub all_stands : (slot : Ghosts D) (other : Opening) → IsOpeningOf conf (length items) other → StandsFor slot other [] parts
  all_stands slot other is =
      subst (StandsFor slot other []) parts_are (opens_standing conf.block_len conf.blocks conf.first_name (conf.blocks + count) (conf.profile == 2) items count slot other is.blocks is.block_len is.first_name is.marked)

  pub all_slots : (measure : D → ℕ) → slots_home measure parts ≡ sum_by measure items
  all_slots measure = ap (slots_home measure) (sym parts_are) ∙ opens_slots conf.block_len conf.blocks conf.first_name (conf.blocks + count) (conf.profile == 2) items count measure
