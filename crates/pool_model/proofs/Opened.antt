-- An opened pool is sound.
use Rattle.std.proofs.Common.{◌≡◌, ℕ, ◌+◌, ◌≤◌, Some, None, Option, unwrap_or, refl, ap, sym, ◌∙◌, subst, arith, inl, inr}
use Rattle.std.specs.Ordering.{nat_cmp}
use Rattle.std.specs.FinMap.{FinMap, get, empty, get-empty}
use Rattle.reservation_tree.specs.Tracker.{Tracker, no_tracker, limit_of}
use Rattle.reservation_tree.specs.Change.{new_root, root_alone}
use Rattle.reservation_tree.proofs.Maps.{get_same, get_other, same_or_other}
use Rattle.reservation_tree.proofs.Members.{root_tree, root_fits}
use Rattle.reservation_tree.proofs.Sums.{total-none}
use Rattle.pool_model.specs.Bytes.{bytes_of}
use Rattle.pool_model.specs.State.{Opening, opened}
use Rattle.pool_model.specs.Sums.{times_held, is_in_memory, once, page_bytes, bytes_in, pages_for, buffers_for, buffer_bytes}
use Rattle.pool_model.specs.Sound.{HasPins, IsSound}
use Rattle.pool_model.proofs.ByClients.{no_pages, no_buffers}
use Rattle.pool_model.proofs.Seats.{some_is}

nobody : {X : Type 0} (goal : Type 0) (m : FinMap nat_cmp X) (k : ℕ) (x : X) → m ≡ empty → get m k ≡ Some x → goal
nobody {X} goal m k x none is = let no : None ≡ Some x = sym (get-empty nat_cmp k) ∙ ap (λ (n : FinMap nat_cmp X). get n k) (sym none) ∙ is in cc

no_bytes : (block_len : ℕ) → bytes_in (once is_in_memory) block_len empty + buffer_bytes block_len empty ≡ 0
unfolding bytes_in buffer_bytes
no_bytes block_len =
    let pages : bytes_in (once is_in_memory) block_len empty ≡ 0 = total-none (λ _ x. page_bytes (once is_in_memory) block_len x) empty (λ p x is. nobody _ empty p x refl is) in
    let buffers : buffer_bytes block_len empty ≡ 0 = total-none (λ _ x. bytes_of block_len x.blocks) empty (λ f x is. nobody _ empty f x refl is) in
    omega (arith, pages, buffers)

root_low : (bytes t : ℕ) (x : Tracker) → get (root_alone bytes) t ≡ Some x → x.depth ≤ 2
root_low bytes t x is = elim (same_or_other t 0) [
  | inl here ↦
      let same : new_root bytes ≡ x = some_is (new_root bytes) x (sym (get_same empty 0 (new_root bytes)) ∙ ap (get (root_alone bytes)) (sym here) ∙ is) in
      subst (λ (y : Tracker). y.depth ≤ 2) same (omega arith)
  | inr other ↦ nobody (x.depth ≤ 2) empty t x refl (sym (get_other empty 0 (new_root bytes) t other) ∙ is)
]

root_limit : (bytes : ℕ) → limit_of (root_alone bytes) 0 ≡ bytes
root_limit bytes = ap (λ (o : Option Tracker). (unwrap_or o no_tracker).limit) (get_same empty 0 (new_root bytes))

-- nothing is live but the root
pub opened_sound : (o : Opening) → IsSound (opened o)
opened_sound o = record {
  seated = record {
    tree = root_tree (bytes_of o.block_len o.blocks);
    children_fit = root_fits (bytes_of o.block_len o.blocks) (λ _. 0) refl;
    low = root_low (bytes_of o.block_len o.blocks);
    top = root_limit (bytes_of o.block_len o.blocks);
    seats = λ m x is. nobody _ empty m x refl is;
    apart = λ m n x y is_m is_n same. nobody _ empty m x refl is_m;
  };
  owned = record {
    page_clients = λ p x is. nobody _ empty p x refl is;
    buffer_clients = λ f x is. nobody _ empty f x refl is;
    names = λ p x is. nobody _ empty p x refl is;
    pins = λ p x is. nobody (HasPins x.place) empty p x refl is;
  };
  within = record {
    held = λ t.
        let pages : pages_for times_held o.block_len empty t ≡ 0 = no_pages times_held o.block_len empty t (λ p x is same. nobody _ empty p x refl is) in
        let buffers : buffers_for o.block_len empty t ≡ 0 = no_buffers o.block_len empty t (λ f x is same. nobody _ empty f x refl is) in
        omega (arith, pages, buffers);
    memory = let none : bytes_in (once is_in_memory) o.block_len empty + buffer_bytes o.block_len empty ≡ 0 = no_bytes o.block_len in omega (arith, none);
  };
}
