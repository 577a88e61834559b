-- What a call entered was needed.
use Rattle.std.proofs.Common.{◌≡◌, ℕ, suc, ◌+◌, ◌-◌, ◌*◌, ◌<◌, ◌≤◌, Bool, true, false, List, [], ◌∷◌, ◌++◌, map, length, take, Option, Some, None, unwrap_or, refl, sym, ap, ◌∙◌, subst, arith}
use Rattle.std.proofs.lemmas.List.{append_assoc, append-nil}
use Rattle.std.proofs.lemmas.List.Sums.{sum_by-cons}
use Rattle.std.specs.FinMap.{get, insert}
use Rattle.outside.specs.declared.slot.Slot.{Ghosts}
use Rattle.reservation_tree.specs.Total.{total, weight_at}
use Rattle.reservation_tree.proofs.Sums.{total-insert}
use Rattle.pool_model.specs.declared.event.Event.{Event}
use Rattle.pool_model.specs.declared.event.Event.TheVariants.{Evict}
use Rattle.pool_model.specs.declared.entry.Entry.{Entry}
use Rattle.pool_model.specs.Bytes.{bytes_of, only_if}
use Rattle.pool_model.specs.State.{Evicted, Page, Pages, State, page_at, no_page}
use Rattle.pool_model.specs.Sums.{bytes_in, free_bytes, is_in_memory, length_of, memory, once, page_bytes}
use Rattle.pool_model.specs.Effects.{after}
use Rattle.pool_model.specs.Legal.{run}
use Rattle.store_api.specs.Entries.{by}
use Rattle.pin_core.specs.StateOf.{state_of}
use Rattle.pin_core.specs.calls.Evictions.{blocks_in}
use Rattle.pin_core.proofs.Listed.{bytes_plus}
use Rattle.session_calls.specs.declared.hand.Hand.{Hand}
use Rattle.session_calls.specs.Acting.{Goes}
use Rattle.session_calls.specs.Needing.{IsNeeded, AreNeeded, EntersNeeded}
use Rattle.session_calls.proofs.Sized.{run_on}
use Rattle.session_calls.proofs.Lists.{by_append}
use Rattle.session_calls.proofs.Fetching.{put_alike}

-- a part of the bytes
part_of : (b : Bool) (n : ℕ) → only_if b 1 * n ≤ n
part_of true n = omega arith
part_of false n = omega arith

had_most : (len p : ℕ) (o : Option Page) → weight_at (λ _ y. page_bytes (once is_in_memory) len y) p o ≤ bytes_of len (unwrap_or o no_page).blocks
had_most len p None = omega arith
had_most len p (Some y) = part_of (is_in_memory y.place) (bytes_of len y.blocks)

-- with a page that goes out no more than its bytes go
out_most : (len : ℕ) (pages : Pages) (p : ℕ) → bytes_in (once is_in_memory) len pages ≤ bytes_in (once is_in_memory) len (insert pages p (record (unwrap_or (get pages p) no_page) { place = Evicted })) + bytes_of len (unwrap_or (get pages p) no_page).blocks
unfolding bytes_in
out_most len pages p =
    let w : ℕ → Page → ℕ = λ _ y. page_bytes (once is_in_memory) len y in
    let x : Page = record (unwrap_or (get pages p) no_page) { place = Evicted } in
    let sums : total w (insert pages p x) + weight_at w p (get pages p) ≡ total w pages + w p x = total-insert w pages p x in
    let most : weight_at w p (get pages p) ≤ bytes_of len (unwrap_or (get pages p) no_page).blocks = had_most len p (get pages p) in
    omega (arith, sums, most)

less_free : (all was now other bytes : ℕ) → was ≤ now + bytes → all - (now + other) ≤ all - (was + other) + bytes
less_free all was now other bytes most = omega (arith, most)

abbrev evicted_from : ℕ → ℕ → State → State
evicted_from m p s = after s (record { maker = m; event = Evict p })

free_more : (m p : ℕ) (s : State) → free_bytes (evicted_from m p s) ≤ free_bytes s + length_of s (page_at s p).blocks
free_more m p s = less_free (memory s) (bytes_in (once is_in_memory) s.block_len s.pages) _ _ (length_of s (page_at s p).blocks) (out_most s.block_len s.pages p)

blocks_alike : (m p : ℕ) (s : State) (names : List ℕ) → blocks_in (evicted_from m p s) names ≡ blocks_in s names
blocks_alike m p s [] = refl
blocks_alike m p s (q ∷ names) =
    let now : State = evicted_from m p s in
    let a = sum_by-cons (λ r. (page_at now r).blocks) q names in
    let b = sum_by-cons (λ r. (page_at s r).blocks) q names in
    let here : (page_at now q).blocks ≡ (page_at s q).blocks = put_alike (λ y. y.blocks) (λ y at. refl) s.pages p Evicted q in
    let rest = blocks_alike m p s names in
    omega (arith, a, b, here, rest)

less_wanted : (now was page rest both amount : ℕ) → now ≤ was + page → both ≡ page + rest → was + both < amount → now + rest < amount
less_wanted now was page rest both amount freed sum less = omega (arith, freed, sum, less)

module _ (t amount : ℕ) where
  needed_on : (m : ℕ) (s : State) (a b : List Entry) → AreNeeded m t amount s a → AreNeeded m t amount (run s a) b → AreNeeded m t amount s (a ++ b)
  needed_on m s [] b first last = last
  needed_on m s (e ∷ a) b first last = (first.0, needed_on m (after s e) a b first.1 last)

  pub needed_at : (m : ℕ) (s : State) (before : List Entry) (e : Entry) (more : List Entry) → AreNeeded m t amount s (before ++ e ∷ more) → e.maker ≡ m → IsNeeded t amount (run s before) e.event
  needed_at m s [] e more are = are.0
  needed_at m s (d ∷ before) e more are = needed_at m (after s d) before e more are.1

  -- as few pages went as leave so many bytes free
  pub needed_evicts : (m : ℕ) (names : List ℕ) (s : State) → ((k : ℕ) → k < length names → free_bytes s + length_of s (blocks_in s (take k names)) < amount) → AreNeeded m t amount s (by m (map Evict names))
  needed_evicts m [] s less = tt
  needed_evicts m (p ∷ names) s less =
      let now : State = evicted_from m p s in
      let here = less 0 (omega arith) in (
        λ own. omega (arith, here),
        needed_evicts m names now (λ k within.
            let rest : length_of now (blocks_in now (take k names)) ≡ length_of s (blocks_in s (take k names)) = ap (length_of s) (blocks_alike m p s (take k names)) in
            let both : length_of s (blocks_in s (p ∷ take k names)) ≡ length_of s (page_at s p).blocks + length_of s (blocks_in s (take k names)) =
            ap (length_of s) (sum_by-cons (λ r. (page_at s r).blocks) p (take k names)) ∙ bytes_plus s.block_len (page_at s p).blocks (blocks_in s (take k names)) in
            subst (λ (n : ℕ). free_bytes now + n < amount) (sym rest)
            (less_wanted (free_bytes now) (free_bytes s) (length_of s (page_at s p).blocks) (length_of s (blocks_in s (take k names))) (length_of s (blocks_in s (p ∷ take k names))) amount
            (free_more m p s) both (less (suc k) (omega (arith, within))))),
      )

  -- and then this was entered
  pub needed_then : (m : ℕ) (evicts last : List Event) (s : State) → AreNeeded m t amount s (by m evicts) → AreNeeded m t amount (run s (by m evicts)) (by m last) → AreNeeded m t amount s (by m (evicts ++ last))
  needed_then m evicts last s first then_so = subst (AreNeeded m t amount s) (sym (by_append m evicts last)) (needed_on m s (by m evicts) (by m last) first then_so)

  module _ {D : Type 0} where
    pub needs_more : (x y z : Hand D) → y.session ≡ x.session → EntersNeeded t amount x y → EntersNeeded t amount y z → EntersNeeded t amount x z
    needs_more x y z same a b = record {
      entries = a.entries ++ b.entries;
      trail = b.trail ∙ ap (λ (h : List Entry). h ++ b.entries) a.trail ∙ append_assoc x.trail a.entries b.entries;
      state = b.state ∙ ap (λ (s : State). run s b.entries) a.state ∙ sym (run_on (state_of x.state) a.entries b.entries);
      needed =
          needed_on x.session (state_of x.state) a.entries b.entries a.needed
          (subst (λ (m : ℕ). AreNeeded m t amount (run (state_of x.state) a.entries) b.entries) same (subst (λ (s : State). AreNeeded y.session t amount s b.entries) a.state b.needed));
    }

    pub needs_as : (u n : ℕ) (old new : Hand D) → t ≡ u → amount ≡ n → EntersNeeded t amount old new → EntersNeeded u n old new
    needs_as u n old new same bytes needed = subst (λ (k : ℕ). EntersNeeded k n old new) same (subst (λ (m : ℕ). EntersNeeded t m old new) bytes needed)

    pub needs_none : (old new : Hand D) → new ≡ old → EntersNeeded t amount old new
    needs_none old new same = subst (EntersNeeded t amount old) (sym same) (record { entries = []; trail = sym (append-nil old.trail); state = refl; needed = tt })

    -- a step of these events
    pub needs_goes : (slot : Ghosts D) (old new : Hand D) (events : List Event) → Goes slot events old new → AreNeeded old.session t amount (state_of old.state) (by old.session events) → EntersNeeded t amount old new
    needs_goes slot old new events went needed = record { entries = by old.session events; trail = went.trail; state = went.enters.state; needed = needed }
