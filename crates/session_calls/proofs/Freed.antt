-- A session stays live where its slots are taken or given back.
use Rattle.std.proofs.Common.{◌≡◌, ℕ, ◌+◌, ◌-◌, true, false, if◌then◌else◌, Option, Some, None, is_some, refl}
use Rattle.std.proofs.lemmas.Bool.{false≢true}
use Rattle.store_api.specs.Holdings.{LivePage}
use Rattle.store_api.specs.Changes.{slots_taken, slots_given}

-- a session stays live where a page takes its slots, or gives them back
pub taken_live : (page : LivePage) (free : Option ℕ) → is_some free ≡ true → is_some (slots_taken page free) ≡ true
taken_live page (Some n) live = elim page.has_slots as (λ b. is_some (if b then Some n else Some (n - page.blocks)) ≡ true) [ true ↦ refl | false ↦ refl ]
taken_live page None live = absurd (false≢true live)

pub given_live : (page : LivePage) (free : Option ℕ) → is_some free ≡ true → is_some (slots_given page free) ≡ true
given_live page (Some n) live = elim page.has_slots as (λ b. is_some (if b then Some (n + page.blocks) else Some n) ≡ true) [ true ↦ refl | false ↦ refl ]
given_live page None live = absurd (false≢true live)
