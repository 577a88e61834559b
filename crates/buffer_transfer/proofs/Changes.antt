-- What the rows say of the live buffers, and what becomes of these where one row changes.
use Rattle.std.proofs.Common.{◌≡◌, ℕ, zero, ◌+◌, Bool, cond, List, [], Option, Some, None, length, count_by, is_some, ap, sym, ◌∙◌, subst, inl, inr, arith}
use Rattle.std.proofs.lemmas.Bool.{cases_eq}
use Rattle.std.specs.Ordering.{nat_cmp, eq_by_cmp}
use Rattle.std.specs.Cmp.{nat_cmp_total}
use Rattle.std.specs.FinMap.{insert, remove, empty, len, find, get-from_sorted, get-insert, get-remove, same_map, entries-from_sorted, len-entries, nat_cmp-IsAntisymmetric}
use Rattle.std.specs.FinMap as map
use Rattle.slab.specs.Slab.{Slab, get, slab_len, entries, Updates}
use Rattle.slab.proofs.SlabLemmas.{length-entries}
use Rattle.buffer_transfer.specs.declared.lent.Lent.{Lent}
use Rattle.buffer_transfer.specs.Rows.{buffers_in}
use Rattle.buffer_transfer.proofs.Rising.{same_number, other_number, rising, at_key}

-- the live buffers, by rising number
pub entries-live : (s : Slab Lent) → map.entries (buffers_in s) ≡ entries s
unfolding buffers_in
entries-live s = entries-from_sorted nat_cmp (entries s) (rising 0 s.slots)

-- as many as rows
pub len-live : (s : Slab Lent) → len (buffers_in s) ≡ slab_len s
len-live s = len-entries (buffers_in s) ∙ ap length (entries-live s) ∙ length-entries s

-- a number has what its row says
pub get-live : (s : Slab Lent) (q : ℕ) → map.get (buffers_in s) q ≡ get s q
unfolding buffers_in
get-live s q =
    let from_start : zero + q ≡ q = omega arith in
    get-from_sorted nat_cmp (entries s) q (rising 0 s.slots)
    ∙ subst (λ (k : ℕ). find nat_cmp k (entries s) ≡ get s q) from_start (at_key 0 s.slots q)

-- none where there is no row
pub none_live : (s : Slab Lent) → s.slots ≡ [] → buffers_in s ≡ empty
none_live s clean = map.empty_of_len (buffers_in s) (len-live s ∙ ap (λ (slots : List (Option Lent)). count_by is_some slots) clean)

module _ (old new : Slab Lent) (k : ℕ) where
  -- a row was written
  pub put-live : (x : Lent) → Updates old new k (Some x) → buffers_in new ≡ insert (buffers_in old) k x
  put-live x up = same_map nat_cmp_total nat_cmp-IsAntisymmetric (buffers_in new) (insert (buffers_in old) k x) (λ q. get-live new q ∙ elim (cases_eq q k) [
    | inl here ↦
        ap (get new) here ∙ up.changed
        ∙ sym (get-insert nat_cmp_total (buffers_in old) k x q ∙ ap (λ (b : Bool). cond b (Some x) (map.get (buffers_in old) q)) (ap (λ (r : ℕ). eq_by_cmp nat_cmp r k) here ∙ same_number k))
    | inr other ↦
        up.others q other ∙ sym (get-live old q)
        ∙ sym (get-insert nat_cmp_total (buffers_in old) k x q ∙ ap (λ (b : Bool). cond b (Some x) (map.get (buffers_in old) q)) (other_number q k other))
  ])

  -- a row was emptied
  pub gone-live : Updates old new k None → buffers_in new ≡ remove (buffers_in old) k
  gone-live up = same_map nat_cmp_total nat_cmp-IsAntisymmetric (buffers_in new) (remove (buffers_in old) k) (λ q. get-live new q ∙ elim (cases_eq q k) [
    | inl here ↦
        ap (get new) here ∙ up.changed
        ∙ sym (get-remove nat_cmp_total (buffers_in old) k q ∙ ap (λ (b : Bool). cond b None (map.get (buffers_in old) q)) (ap (λ (r : ℕ). eq_by_cmp nat_cmp r k) here ∙ same_number k))
    | inr other ↦
        up.others q other ∙ sym (get-live old q)
        ∙ sym (get-remove nat_cmp_total (buffers_in old) k q ∙ ap (λ (b : Bool). cond b None (map.get (buffers_in old) q)) (other_number q k other))
  ])
