-- Each pin is charged its page's length, and takes no block.
use Rattle.std.proofs.Common.{◌≡◌, ℕ, ◌+◌, ◌-◌, ◌*◌, ◌≤◌, ◌==◌, Bool, true, false, Some, ap, sym, ◌∙◌, subst, arith}
use Rattle.std.specs.FinMap.{get, insert}
use Rattle.pool_model.specs.declared.event.Event.TheVariants.{PinAgain, UnpinOnce}
use Rattle.pool_model.specs.Bytes.{only_if}
use Rattle.pool_model.specs.State.{Place, Pinned, Page, pins_of, State}
use Rattle.pool_model.specs.Sums.{times_charged, times_held, is_in_memory, once, length_of, page_bytes, bytes_in, pages_for, charge_of, held_by, bytes_in_memory}
use Rattle.pool_model.specs.PageRows.{MayPinAgain, MayUnpinOnce}
use Rattle.pool_model.specs.Parts.{pins_at, put_in}
use Rattle.pool_model.specs.Effects.{effect}
use Rattle.pool_model.specs.PoolLaws.{IsChargedMore, AllPinsAreCharged}
use Rattle.pool_model.proofs.Pages.{page_is}
use Rattle.pool_model.proofs.PageSums.{pages_put, bytes_put}

-- the same page with another number of pins: the sums of its client have the one in place of the other
record Swapped (client low high : ℕ) (s new : State) : Type 0 where
  charge : (c : ℕ) → charge_of new c + only_if (client == c) low ≡ charge_of s c + only_if (client == c) high
  held : (c : ℕ) → held_by new c + only_if (client == c) low ≡ held_by s c + only_if (client == c) high
  memory : bytes_in_memory new ≡ bytes_in_memory s

module _ (s : State) (p : ℕ) (x : Page) (is : get s.pages p ≡ Some x) (count : ℕ) (pinned : x.place ≡ Pinned count) where
  pins_are : pins_at s p ≡ count
  pins_are = ap (λ (y : Page). pins_of y.place) (page_is s p x is) ∙ ap pins_of pinned

  swapped : (other : ℕ) → Swapped x.client (count * length_of s x.blocks) (other * length_of s x.blocks) s (put_in (Pinned other) p s)
  swapped other =
      let len : ℕ = length_of s x.blocks in
      let w : Page = record x { place = Pinned other } in
      let put : (times : Place → ℕ) (c : ℕ) → pages_for times s.block_len (insert s.pages p w) c + only_if (x.client == c) (page_bytes times s.block_len x) ≡ pages_for times s.block_len s.pages c + only_if (x.client == c) (page_bytes times s.block_len w) =
      λ times c. pages_put times s.block_len s.pages p x is w c in
      let old : (times : Place → ℕ) → page_bytes times s.block_len x ≡ times (Pinned count) * len = λ times. ap (λ (place : Place). times place * len) pinned in
      subst (λ (z : Page). Swapped x.client (count * len) (other * len) s (record s { pages = insert s.pages p (record z { place = Pinned other }) })) (sym (page_is s p x is)) (record {
        charge = λ c.
            let all : pages_for times_charged s.block_len (insert s.pages p w) c + only_if (x.client == c) (page_bytes times_charged s.block_len x) ≡ pages_for times_charged s.block_len s.pages c + only_if (x.client == c) (other * len) = put times_charged c in
            let was : only_if (x.client == c) (page_bytes times_charged s.block_len x) ≡ only_if (x.client == c) (count * len) = ap (only_if (x.client == c)) (old times_charged) in
            omega (arith, all, was);
        held = λ c.
            let all : pages_for times_held s.block_len (insert s.pages p w) c + only_if (x.client == c) (page_bytes times_held s.block_len x) ≡ pages_for times_held s.block_len s.pages c + only_if (x.client == c) (other * len) = put times_held c in
            let was : only_if (x.client == c) (page_bytes times_held s.block_len x) ≡ only_if (x.client == c) (count * len) = ap (only_if (x.client == c)) (old times_held) in
            omega (arith, all, was);
        memory =
            let all : bytes_in (once is_in_memory) s.block_len (insert s.pages p w) + page_bytes (once is_in_memory) s.block_len x ≡ bytes_in (once is_in_memory) s.block_len s.pages + 1 * len = bytes_put (once is_in_memory) s.block_len s.pages p x is w in
            let was : page_bytes (once is_in_memory) s.block_len x ≡ 1 * len = old (once is_in_memory) in
            omega (arith, all, was);
      })

one_more : (b : Bool) (n len : ℕ) → only_if b ((n + 1) * len) ≡ only_if b (n * len) + only_if b len
one_more true n len = omega arith
one_more false n len = omega arith

one_less : (b : Bool) (n len : ℕ) → 2 ≤ n → only_if b (n * len) ≡ only_if b ((n - 1) * len) + only_if b len
one_less b n len several =
    let same : (n - 1) + 1 ≡ n = omega (arith, several) in
    subst (λ (k : ℕ). only_if b (k * len) ≡ only_if b ((n - 1) * len) + only_if b len) same (one_more b (n - 1) len)

raised : (s : State) (maker p : ℕ) (may : MayPinAgain s maker p) → IsChargedMore may.page.client (length_of s may.page.blocks) s (effect maker (PinAgain p) s)
raised s maker p may =
    let len : ℕ = length_of s may.page.blocks in
    let it : Swapped may.page.client (may.count * len) ((may.count + 1) * len) s (put_in (Pinned (may.count + 1)) p s) = swapped s p may.page may.own.lives may.count may.pinned (may.count + 1) in
    subst (λ (n : ℕ). IsChargedMore may.page.client len s (put_in (Pinned (n + 1)) p s)) (sym (pins_are s p may.page may.own.lives may.count may.pinned)) (record {
      charge = λ c. omega (arith, it.charge c, one_more (may.page.client == c) may.count len);
      held = λ c. omega (arith, it.held c, one_more (may.page.client == c) may.count len);
      memory = it.memory;
    })

lowered : (s : State) (maker p : ℕ) (may : MayUnpinOnce s maker p) → IsChargedMore may.page.client (length_of s may.page.blocks) (effect maker (UnpinOnce p) s) s
lowered s maker p may =
    let len : ℕ = length_of s may.page.blocks in
    let it : Swapped may.page.client (may.count * len) ((may.count - 1) * len) s (put_in (Pinned (may.count - 1)) p s) = swapped s p may.page may.own.lives may.count may.pinned (may.count - 1) in
    subst (λ (n : ℕ). IsChargedMore may.page.client len (put_in (Pinned (n - 1)) p s) s) (sym (pins_are s p may.page may.own.lives may.count may.pinned)) (record {
      charge = λ c. omega (arith, it.charge c, one_less (may.page.client == c) may.count len may.several);
      held = λ c. omega (arith, it.held c, one_less (may.page.client == c) may.count len may.several);
      memory = sym it.memory;
    })

pub all_pins_are_charged : AllPinsAreCharged
all_pins_are_charged s maker p = record { again = raised s maker p; once = lowered s maker p }
